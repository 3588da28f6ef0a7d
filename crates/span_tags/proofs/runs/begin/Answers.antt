use Rattle.std.proofs.Common.{◌++◌, ap}
use Rattle.span_tags.specs.ReadRuns.{one_of}
use Rattle.span_tags.proofs.RunsAtBack.{added_first}
use Rattle.span_tags.proofs.runs.begin.Goals as goal

pub returns : goal.returns
returns c scopes =
    let run = c.in_ok-first.first in
    ap (λ l. c.args.done ++ l) (added_first run.name run.version run.spans (one_of c.args.one) scopes
    c.in_ok-first.ensures.name c.in_ok-first.ensures.version c.in_ok-first.ensures.spans)
