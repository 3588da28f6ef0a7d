use Rattle.std.proofs.Common.{◌≡◌, false, take}
use Rattle.std.specs.List.{list_any}
use Rattle.trace_model.specs.ValueTexts.{has_double}
use Rattle.otlp_json.proofs.writing.doubles.in_attributes.Given as goal

abbrev pub invariant-attributes : goal.invariant-attributes
invariant-attributes l = list_any (λ pair. has_double pair.1) (take l.pair-index l.attributes) ≡ false
