use Rattle.std.proofs.Common.{◌∙◌}
use Rattle.map_zipkin.proofs.FaultRows.{found_or_none}
use Rattle.map_zipkin.proofs.faults.reads_as_event.Goals as goal

pub returns : goal.returns
returns c = c.is_some.ensures ∙ found_or_none c.event_texts_exact.ensures c.args.name.now c.in_ok-read.read c.in_ok-read.ensures.found c.in_ok-read.ensures.none
