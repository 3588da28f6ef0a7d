use Rattle.map_zipkin.proofs.ReadEvents.{event_found}
use Rattle.map_zipkin.proofs.reading.events.event_in.Goals as goal

pub returns : goal.returns
returns c = event_found c.event_texts_exact.ensures c.args.text.now c.in_ok-read.read c.in_ok-read.ensures.found c.in_ok-read.ensures.none
