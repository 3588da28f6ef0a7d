-- Where a double stands in what is told as a text.
use Rattle.std.specs.Prelude.{Bool, false, Option, Some, None}
use Rattle.trace_model.specs.ValueTexts.{has_double}
use Rattle.trace_model.specs.declared.value.Value.{Value}

-- there is a value, and a double stands in it, at any depth
abbrev pub double_at : Option Value → Bool
double_at None = false
double_at (Some value) = has_double value
