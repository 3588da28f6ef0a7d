-- The verdict on a block, from what its forms answer.
use Rattle.std.proofs.Common.{◌≡◌, ℕ, List, sym, subst, ◌∙◌}
use Rattle.std.specs.Prelude.{Result, IfErr, IsErrAnd}
use Rattle.std.proofs.lemmas.Result.{err_from_is_err_and}
use Rattle.propagation.specs.Blocks.{Header}
use Rattle.propagation.specs.private.HeaderLines.{HeadersThen, RefusesLine}
use Rattle.propagation.specs.declared.header_cause.HeaderCause.{HeaderCause}
use Rattle.propagation.proofs.OneBlock.{then_none}

-- a line behind some that were read is refused
pub refused_behind : {T : Type 0} (r : Result T HeaderCause) (cause : HeaderCause) (text rest : List ℕ) (headers : List Header) → IsErrAnd r (λ e. e ≡ cause)
    → HeadersThen text headers rest → RefusesLine cause rest → IfErr r (λ e. RefusesLine e text)
refused_behind {T} r cause text rest headers is before refused =
    let p = err_from_is_err_and r is in
    let told : RefusesLine p.0 text = (p.2 ∙ refused.0, then_none text headers rest before refused.1) in
    subst (λ x. IfErr x (λ e. RefusesLine e text)) (sym p.1) told
