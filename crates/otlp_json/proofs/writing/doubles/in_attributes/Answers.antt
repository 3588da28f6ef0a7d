use Rattle.std.proofs.Common.{◌≡◌, ℕ, List, get_or, rules, sym, ap, ◌∙◌}
use Rattle.std.proofs.lemmas.List.Folds.{list_any_at}
use Rattle.trace_model.specs.declared.value.Value.{Value}
use Rattle.trace_model.specs.ValueTexts.{has_double}
use Rattle.otlp_json.proofs.writing.doubles.in_attributes.Goals as goal

pub returns-then-holds_double : goal.returns-then-holds_double
returns-then-holds_double c =
    let is : c.pair-item.result ≡ get_or c.args.attributes.now c.attributes.pair-index c.pair-item.result = search rules in
    sym (list_any_at (λ pair. has_double pair.1) c.args.attributes.now c.attributes.pair-index c.pair-item.result (search rules)
    (ap (λ (pair : List ℕ × Value). has_double pair.1) (sym is) ∙ sym c.holds_double.ensures ∙ c.if-holds_double.true))
