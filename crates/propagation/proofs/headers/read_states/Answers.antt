use Rattle.std.proofs.Common.{drop, subst, ◌∙◌}
use Rattle.std.proofs.lemmas.List.{take_rest}
use Rattle.std.proofs.lemmas.Result.{IfOk-weaker}
use Rattle.propagation.specs.private.FoundHeaders.{HoldsOnce}
use Rattle.propagation.specs.Heads.{TellsState, header_values, tracestate_name}
use Rattle.propagation.specs.private.HeadSteps.{IsStateOf}
use Rattle.propagation.proofs.StateLemmas.{state_of_one, state_of_more}
use Rattle.propagation.proofs.headers.read_states.Goals as goal

pub returns-in-At-clause-value : goal.returns-in-At-clause-value
returns-in-At-clause-value c = λ headers has found.
    let one = subst (λ o. HoldsOnce o (header_values tracestate_name headers)) c.in-At.is found.state in
    IfOk-weaker c.read_state.result (λ read. IsStateOf c.in-At.value.now read.0 read.1) (λ read. TellsState headers read.0 read.1)
    (λ read h. state_of_one headers c.in-At.value.now one read.0 read.1 h) c.read_state.ensures

pub returns-clause-value : goal.returns-clause-value
returns-clause-value c = λ headers has found.
    let two = subst (λ o. HoldsOnce o (header_values tracestate_name headers)) c.in-Twice.is found.state in
    let joined = c.as_slice.result.now in
    IfOk-weaker c.read_state-in-len1-up.result (λ read. IsStateOf (drop 1 joined) read.0 read.1) (λ read. TellsState headers read.0 read.1)
    (λ read h. state_of_more headers two.0 two.1 two.2 joined two.3 (c.as_slice.ensures ∙ c.in_ok-joined-in-Twice.ensures headers has) read.0 read.1 h) (rw take_rest at c.read_state-in-len1-up.ensures)
