use Rattle.std.proofs.Common.{ℕ, List, sym, ap, ◌∙◌}
use Rattle.std.specs.List.{list_any}
use Rattle.trace_model.specs.declared.value.Value.{Value}
use Rattle.trace_model.specs.ValueTexts.{has_double}
use Rattle.trace_model.proofs.DoubleRows.{pair_has_double, list_double, map_double}
use Rattle.trace_model.proofs.value.+doubles.Goals as goal

pub Value::holds_double-returns-in-List : goal.Value::holds_double-returns-in-List
Value::holds_double-returns-in-List t c =
    c.holds_double_in.ensures ∙ ap (λ (l : List Value). list_any has_double l) c.as_slice.ensures ∙ sym (list_double c.in-List.members) ∙ ap has_double (sym c.in-List.is)

pub Value::holds_double-returns-in-Map : goal.Value::holds_double-returns-in-Map
Value::holds_double-returns-in-Map t c =
    c.holds_double_under.ensures ∙ ap (λ (l : List (List ℕ × Value)). list_any pair_has_double l) c.as_slice-in-Map.ensures ∙ sym (map_double c.in-Map.pairs) ∙ ap has_double (sym c.in-Map.is)
