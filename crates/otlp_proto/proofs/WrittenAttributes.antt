-- Attributes as they are written: a row with the value that its records mean.
use Rattle.std.proofs.Common.{ℕ, List, map}
use Rattle.trace_model.specs.Proper.{AreProper}
use Rattle.trace_model.specs.Values.{AreSound}
use Rattle.trace_model.specs.declared.value.Value.{Value}
use Rattle.otlp_proto.specs.Attributes.{attributes}
use Rattle.otlp_proto.specs.Canonical.{attributes_text, key_value_text}
use Rattle.otlp_proto.proofs.CanonicalLaws.{Laws}
use Rattle.otlp_proto.proofs.FieldLemmas.{IsSmall, list_wire}
use Rattle.trace_model.proofs.RemarkLaws.{quiet}
use Rattle.otlp_proto.proofs.ValueAgain.{attributes_again}
use Rattle.otlp_proto.proofs.WrittenRows.{Written, of_bytes}

module _ (L : Laws) where
  abbrev pub attributes_written : (number : ℕ) → IsSmall number → (a : List (List ℕ × Value)) → AreSound a → AreProper a → Written (attributes number)
  attributes_written number small a sound proper = of_bytes number _ _ _ _ (quiet a) (map key_value_text a) (attributes_text number a) (list_wire L.spelled number small key_value_text a)
      (λ fits. attributes_again L number a sound proper fits)
