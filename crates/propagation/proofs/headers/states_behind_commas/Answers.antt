use Rattle.std.proofs.Common.{[], ◌∷◌, ◌++◌, ap, ◌∙◌}
use Rattle.propagation.specs.Blocks.{Header}
use Rattle.propagation.specs.Heads.{header_values, tracestate_name}
use Rattle.propagation.specs.private.HeadSteps.{behind_commas}
use Rattle.propagation.proofs.OneBlock.{then_start, then_on, then_none, then_all, one_headers}
use Rattle.propagation.proofs.StateLemmas.{states_more}
use Rattle.propagation.proofs.headers.states_behind_commas.Goals as goal

pub states-init : goal.states-init
states-init c = ([], c.new-joined.ensures, then_start c.args.block.now)

pub states-preserved : goal.states-preserved
states-preserved c =
    let so_far = c.states.invariant in
    let h : Header = record { name = c.in-Ok-Some.first.name.now; value = c.in-Ok-Some.first.value.now } in
    let first = rw c.in-Ok-Some.field-0-is at c.in-Ok-Some.ensures.value in (
      so_far.0 ++ h ∷ [],
      states_more so_far.0 h c.states.joined c.append_state.new.joined so_far.1 c.in_ok-append_state-in-Ok-Some.ensures,
      then_on c.args.block.now so_far.0 c.states.rest.now (h ∷ []) c.in-Ok-Some.first.rest.now so_far.2 first,
    )

pub returns-in-Ok-None : goal.returns-in-Ok-None
returns-in-Ok-None c = λ headers has.
    let so_far = c.states.invariant in
    let end = rw c.in-Ok-None.field-0-is at c.in-Ok-None.ensures.value in
    so_far.1 ∙ ap (λ hs. behind_commas (header_values tracestate_name hs)) (one_headers (then_all c.args.block.now so_far.0 c.states.rest.now so_far.2 end) has)

pub returns-in-Err : goal.returns-in-Err
returns-in-Err c = λ headers has.
    let so_far = c.states.invariant in
    absurd (then_none c.args.block.now so_far.0 c.states.rest.now so_far.2 c.in-Err.ensures.line.1 headers has)
