use Rattle.std.proofs.Common.{[], ◌∷◌, ◌++◌, take, sym, ap, ◌∙◌}
use Rattle.std.proofs.lemmas.List.{take_more}
use Rattle.propagation.specs.Tracestate.{tracestate_text}
use Rattle.propagation.proofs.StateTexts.{joined_more}
use Rattle.propagation.proofs.tracestate.joined.Goals as goal

pub members-preserved : goal.members-preserved
members-preserved c =
    let xs = c.args.members.now in
    let i = c.members.member-index in
    let m = c.member-item.result in
    let more = take_more xs i m c.members-test.true in
    joined_more (take i xs) m c.members.state c.append_comma.new.state c.append_member.new.state
    c.members.invariant c.in_ok-append_comma.ensures.first c.in_ok-append_comma.ensures.more c.in_ok-append_member.ensures
    ∙ ap tracestate_text (ap (λ x. take i xs ++ x ∷ []) c.member-item.is ∙ sym more)
