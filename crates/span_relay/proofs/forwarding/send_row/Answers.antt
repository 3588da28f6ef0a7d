use Rattle.std.proofs.Common.{sym, ◌∙◌}
use Rattle.std.proofs.lemmas.Bool.{false≢true}
use Rattle.span_relay.proofs.ForwardLemmas.{held_back, kept_by_fault, kept_by_memory, went}
use Rattle.span_relay.proofs.forwarding.send_row.Goals as goal

pub returns-then-not-is_taken-clause-sends : goal.returns-then-not-is_taken-clause-sends
returns-then-not-is_taken-clause-sends g c =
    held_back c.args.address.now c.args.row.now c.in-Ok.status _ _ _ c.requires.is_first (rw c.as_slice.ensures at c.in-Ok.ensures.sends)
    (λ taken. false≢true (sym c.if-not-is_taken.true ∙ c.is_taken.ensures.1 taken))

pub returns-in-Ok-true-clause-sends : goal.returns-in-Ok-true-clause-sends
returns-in-Ok-true-clause-sends g c =
    went c.args.address.now c.args.row.now c.in-Ok.status _ _ _ c.requires.is_first (rw c.as_slice.ensures at c.in-Ok.ensures.sends) _ c.in-Ok-true.field-0
    (c.is_taken.ensures.0 c.if-not-is_taken.false) c.in-Ok-true.field-0-test c.in-Ok-true.ensures.drops

pub returns-in-Err-Failed-drop_first-clause-sends : goal.returns-in-Err-Failed-drop_first-clause-sends
returns-in-Err-Failed-drop_first-clause-sends g c =
    let e = c.in-Err-Failed-drop_first in
    kept_by_fault c.args.address.now c.args.row.now c.in-Ok.status _ _ _ c.requires.is_first (rw c.as_slice.ensures at c.in-Ok.ensures.sends) _ e.field-0
    (c.is_taken.ensures.0 c.if-not-is_taken.false) e.field-0-is e.ensures.drops

pub returns-in-Err-OutOfMemory-drop_first-clause-sends : goal.returns-in-Err-OutOfMemory-drop_first-clause-sends
returns-in-Err-OutOfMemory-drop_first-clause-sends g c =
    let e = c.in-Err-OutOfMemory-drop_first in
    kept_by_memory c.args.address.now c.args.row.now c.in-Ok.status _ _ _ c.requires.is_first (rw c.as_slice.ensures at c.in-Ok.ensures.sends) _ e.field-0
    (c.is_taken.ensures.0 c.if-not-is_taken.false) e.field-0-is e.ensures.drops
