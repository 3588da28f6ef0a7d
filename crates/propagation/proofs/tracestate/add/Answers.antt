use Rattle.std.proofs.Common.{refl, sym, ap, subst, ◌≡◌}
use Rattle.std.specs.Prelude.{Any}
use Rattle.propagation.specs.Tracestate.{StateMember}
use Rattle.propagation.proofs.KeyLemmas.{full_refused, key_refused, key_added}
use Rattle.propagation.proofs.MemberLemmas.{true_and_false}
use Rattle.propagation.proofs.tracestate.add.Goals as goal
use Rattle.propagation.proofs.tracestate.add.Goals.{then-is_full-via-then-is_full, then-is_full-via-else-is_full+then-has_key}

pub returns-then-is_full-clause-formed : goal.returns-then-is_full-clause-formed
returns-then-is_full-clause-formed c = (
  λ x. absurd (true_and_false x refl),
  λ h. elim c.then-is_full.branch [
    | then-is_full-via-then-is_full w ↦ absurd (full_refused c.args.members.now.items c.args.member c.is_full.result c.is_full.ensures.value w.if-is_full.true h)
    | then-is_full-via-else-is_full+then-has_key w ↦
        let any = w.has_key.ensures.0 w.if-has_key.true in
        absurd (key_refused c.args.members.now.items c.args.member c.member.inside.key.now (ap (λ (m : StateMember). m.key) c.member.view_is)
        (subst (λ l. Any (λ x. x.key ≡ c.member.inside.key.now) l) w.as_slice.ensures.value any) h)
  ],
)

pub returns-clause-formed : goal.returns-clause-formed
returns-clause-formed c = (
  λ _. key_added c.args.members.now.items c.args.member c.is_full.result c.member.inside.key.now c.is_full.ensures.value c.if-is_full.false
      (ap (λ (m : StateMember). m.key) c.member.view_is)
      (λ any. true_and_false (c.has_key.ensures.1 (subst (λ l. Any (λ x. x.key ≡ c.member.inside.key.now) l) (sym c.as_slice.ensures.value) any)) c.if-has_key.false) c.requires,
  λ _. refl,
)
