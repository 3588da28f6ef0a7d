use Rattle.std.proofs.Common.{ap, ◌++◌, ◌∙◌}
use Rattle.propagation.specs.Tracestate.{IsBlank}
use Rattle.propagation.proofs.MemberLemmas.{begins_front}
use Rattle.propagation.proofs.members.trimmed.Goals as goal

pub returns : goal.returns
returns c =
    let back = c.without_end.ensures.after in
    record {
      before = c.blanks.result.0.now;
      after = back.0;
      whole = c.blanks.ensures.whole ∙ ap (λ s. c.blanks.result.0.now ++ s) back.2;
      blank_before = c.blanks.ensures.kind;
      blank_after = back.1;
      begins = begins_front IsBlank c.without_end.result.now back.0 c.blanks.result.1.now back.2 c.blanks.ensures.ended;
      ends = c.without_end.ensures.ends;
    }
