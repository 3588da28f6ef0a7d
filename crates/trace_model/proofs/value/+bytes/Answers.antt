use Rattle.std.proofs.Common.{ℕ, List, sym, ap, ◌∙◌}
use Rattle.std.specs.List.{list_any}
use Rattle.trace_model.specs.declared.value.Value.{Value}
use Rattle.trace_model.specs.EventTexts.{has_bytes}
use Rattle.trace_model.proofs.ByteRows.{pair_has_bytes, list_bytes, map_bytes}
use Rattle.trace_model.proofs.value.+bytes.Goals as goal

pub Value::holds_bytes-returns-in-List : goal.Value::holds_bytes-returns-in-List
Value::holds_bytes-returns-in-List t c =
    c.holds_bytes_in.ensures ∙ ap (λ (l : List Value). list_any has_bytes l) c.as_slice.ensures ∙ sym (list_bytes c.in-List.members) ∙ ap has_bytes (sym c.in-List.is)

pub Value::holds_bytes-returns-in-Map : goal.Value::holds_bytes-returns-in-Map
Value::holds_bytes-returns-in-Map t c =
    c.holds_bytes_under.ensures ∙ ap (λ (l : List (List ℕ × Value)). list_any pair_has_bytes l) c.as_slice-in-Map.ensures ∙ sym (map_bytes c.in-Map.pairs) ∙ ap has_bytes (sym c.in-Map.is)
