-- An input of Jaeger that ends too early: with more bytes its last batch is whole.
use Rattle.std.specs.Prelude.{◌≡◌, ◌≢◌, ℕ, ◌+◌, ◌≤◌, List, [], length}
use Rattle.span_io.specs.Frames.{CanBeCompleted}
use Rattle.span_io.specs.declared.form.Form.{Form}
use Rattle.span_io.specs.declared.form.Form.TheVariants as forms
use Rattle.span_io.specs.declared.limits.Limits.{Limits}
use Rattle.span_convert.specs.BatchFiles.{ProtocolWords, binary, compact, batches, HoldsBatches}

-- The unit of this number isn't all there: more bytes make a struct of its bytes, less a varint at their end that isn't ended.
pub record EndsInBatch (protocol : ProtocolWords) (limits : Limits) (bytes : List ℕ) (number : ℕ) : Type 0 where
  pub units : List (List ℕ)
  pub rest : List ℕ
  pub held : HoldsBatches protocol limits bytes units rest
  pub within : length bytes ≤ limits.binary
  pub cut : number ≡ length units + 1
  pub some : rest ≢ []
  pub completed : CanBeCompleted (batches protocol) rest

-- if the form is one of Jaeger, this holds of its protocol
abbrev pub IfJaeger : Form → (ProtocolWords → Type 0) → Type 0
IfJaeger forms.OtlpProto P = Unit {0}
IfJaeger forms.OtlpJson P = Unit {0}
IfJaeger forms.JaegerBinary P = P binary
IfJaeger forms.JaegerCompact P = P compact
IfJaeger forms.ZipkinJson P = Unit {0}
