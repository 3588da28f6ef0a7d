use Rattle.std.specs.Prelude.{All, OnErr, Result, Ok, Err}
use Rattle.std.proofs.Common.{refl, sym, subst, ◌∙◌}
use Rattle.propagation.specs.Tracestate.{IsStateMember, ReadsTracestate, tracestate_text}
use Rattle.propagation.proofs.OneTracestate.{listed_members}
use Rattle.propagation.proofs.StateTexts.{no_members}
use Rattle.propagation.proofs.tracestate.read_tracestate.Goals as goal

pub joined-requires : goal.joined-requires
joined-requires c = subst (λ ms. All IsStateMember ms) (sym c.as_slice.ensures.value) (listed_members c.in-Some.ensures.listed)

on_any : {A E P : Type 0} (r : Result A E) → P → OnErr r P
on_any (Ok x) h = tt
on_any (Err e) h = h

pub returns-in_err-state-clause-wants : goal.returns-in_err-state-clause-wants
returns-in_err-state-clause-wants c =
    let members = c.in-Some.members.items in
    let told : ReadsTracestate c.args.value.now (tracestate_text members) = (members, c.in-Some.ensures.listed, c.in-Some.ensures.formed, refl) in
    on_any c.from_residual.result (tracestate_text members, told, λ e. c.in_err-state.ensures.wants (c.as_slice.ensures.value ∙ no_members members e))
