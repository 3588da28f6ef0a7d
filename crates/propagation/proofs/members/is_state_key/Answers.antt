use Rattle.std.proofs.Common.{inl}
use Rattle.propagation.proofs.MemberLemmas.{true_and_false, key_alone, key_parts, key_of}
use Rattle.propagation.proofs.members.is_state_key.Goals as goal

pub returns-in-None : goal.returns-in-None
returns-in-None c = (λ x. inl (c.is_word.ensures.0 x), λ k. c.is_word.ensures.1 (key_alone c.args.key.now c.before_at_sign.result.0.now c.before_at_sign.result.1.now c.before_at_sign.ensures c.in-None.ensures.only k))

pub returns-then-is_tenant : goal.returns-then-is_tenant
returns-then-is_tenant c = (
  λ x. key_of c.args.key.now c.before_at_sign.result.0.now c.before_at_sign.result.1.now c.before_at_sign.ensures c.in-Some.system.now c.in-Some.ensures.value (c.is_tenant.ensures.0 c.if-is_tenant.true) (c.is_word-then-is_tenant.ensures.0 x),
  λ k. c.is_word-then-is_tenant.ensures.1 (key_parts c.args.key.now c.before_at_sign.result.0.now c.before_at_sign.result.1.now c.before_at_sign.ensures c.in-Some.system.now c.in-Some.ensures.value k).1,
)

pub returns-else-is_tenant : goal.returns-else-is_tenant
returns-else-is_tenant c = (
  λ x. absurd (true_and_false x c.if-is_tenant.false),
  λ k. c.is_tenant.ensures.1 (key_parts c.args.key.now c.before_at_sign.result.0.now c.before_at_sign.result.1.now c.before_at_sign.ensures c.in-Some.system.now c.in-Some.ensures.value k).0,
)
