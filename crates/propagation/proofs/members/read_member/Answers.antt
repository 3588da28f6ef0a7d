use Rattle.std.proofs.Common.{◌∷◌, refl, sym, subst}
use Rattle.propagation.specs.Tracestate.{IsStateKey, IsStateValue}
use Rattle.propagation.proofs.FrontLemmas.{leads_to}
use Rattle.propagation.proofs.MemberLemmas.{true_and_false, state_key_plain}
use Rattle.propagation.proofs.members.read_member.Goals as goal
use Rattle.propagation.proofs.members.read_member.Goals.{then-not-is_state_key-via-then-not-is_state_key, then-not-is_state_key-via-else-not-is_state_key+then-not-is_state_value}

pub returns-in_err-value-clause-only : goal.returns-in_err-value-clause-only
returns-in_err-value-clause-only c = λ m h e.
    let same = leads_to m.key (61 ∷ m.value) c.before_equals.ensures (state_key_plain m.key h.key) (λ p. p refl) e in
    absurd (c.in_err-value.ensures.only m.value same.1)

pub returns-then-not-is_state_key-clause-only : goal.returns-then-not-is_state_key-clause-only
returns-then-not-is_state_key-clause-only c = λ m h e.
    let same = leads_to m.key (61 ∷ m.value) c.before_equals.ensures (state_key_plain m.key h.key) (λ p. p refl) e in
    let value = c.in_ok-value.ensures.only m.value same.1 in
    elim c.then-not-is_state_key.branch [
      | then-not-is_state_key-via-then-not-is_state_key w ↦ true_and_false (c.is_state_key.ensures.1 (subst (λ x. IsStateKey x) (sym same.0) h.key)) w.if-not-is_state_key.true
      | then-not-is_state_key-via-else-not-is_state_key+then-not-is_state_value w ↦ true_and_false (w.is_state_value.ensures.1 (subst (λ x. IsStateValue x) (sym value) h.value)) w.if-not-is_state_value.true
    ]

pub returns-clause-only : goal.returns-clause-only
returns-clause-only c = λ m h e.
    let same = leads_to m.key (61 ∷ m.value) c.before_equals.ensures (state_key_plain m.key h.key) (λ p. p refl) e in
    (same.0, c.in_ok-value.ensures.only m.value same.1)
