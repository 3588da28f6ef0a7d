use Rattle.std.proofs.Common.{◌∷◌, [], sym, ◌∙◌}
use Rattle.propagation.specs.Blocks.{Header}
use Rattle.propagation.specs.Heads.{header_values, tracestate_name}
use Rattle.propagation.proofs.FoundLemmas.{named_one, other_one}
use Rattle.propagation.proofs.StateLemmas.{state_added, none_added}
use Rattle.propagation.proofs.WritingLemmas.{where_ok}
use Rattle.propagation.proofs.headers.append_state.Goals as goal

pub returns-then-is_name : goal.returns-then-is_name
returns-then-is_name c =
    let h : Header = record { name = c.args.name.now; value = c.args.value.now } in
    let one = named_one tracestate_name c.args.name.now c.args.value.now (sym c.if-is_name.true ∙ c.is_name.ensures c.args.value.now) in
    where_ok c.append_both.result (state_added c.args.joined.now c.append_both.new.self c.args.value.now (header_values tracestate_name (h ∷ [])) one) c.append_both.ensures.ok

pub returns : goal.returns
returns c =
    let h : Header = record { name = c.args.name.now; value = c.args.value.now } in
    none_added c.args.joined.now (header_values tracestate_name (h ∷ [])) (other_one tracestate_name c.args.name.now c.args.value.now (sym c.if-is_name.false ∙ c.is_name.ensures c.args.value.now))
