-- When two inputs of Jaeger, each in a protocol of its own, hold the same batches: what becomes of the one becomes of the other.
use Rattle.std.specs.Prelude.{ℕ, ◌≤◌, List, [], length}
use Rattle.std.specs.List.{AllZip}
use Rattle.span_io.specs.declared.form.Form.{Form}
use Rattle.span_io.specs.declared.form.Form.TheVariants as forms
use Rattle.span_io.specs.declared.limits.Limits.{Limits}
use Rattle.thrift_core.specs.Messages.{FieldItem, fields_of}
use Rattle.thrift_core.specs.Parts.{Spelling}
use Rattle.thrift_core.specs.Trees.{StructText, outer_levels}
use Rattle.jaeger_model.specs.FreeAtAnyDepth.{BatchPadded}
use Rattle.span_convert.specs.BatchFiles.{ProtocolWords, binary, compact, HoldsBatches}

-- ---- one batch

-- The two are texts of one batch, each in its protocol, but for free fields in it and in any struct that its rows hold. Such
-- fields are added and removed in the second protocol, where `plain` is the text of the first's own fields.
pub record SaysTheSame (Spells Others : Spelling) (text other : List ℕ) : Type 0 where
  pub items : List FieldItem
  pub others : List FieldItem
  pub plain : List ℕ
  pub first : StructText Spells outer_levels (fields_of items) text
  pub again : StructText Others outer_levels (fields_of items) plain
  pub padded : BatchPadded items others
  pub second : StructText Others outer_levels (fields_of others) other

-- ---- inputs

-- these batches are all of the input, and each, and all of it, is within its limit
pub record AreAllBatches (protocol : ProtocolWords) (limits : Limits) (bytes : List ℕ) (units : List (List ℕ)) : Type 0 where
  pub held : HoldsBatches protocol limits bytes units []
  pub within : length bytes ≤ limits.binary

-- pair by pair the batches of the two say the same
pub record HoldSameBatches (protocol another : ProtocolWords) (limits : Limits) (bytes others : List ℕ) : Type 0 where
  pub units : List (List ℕ)
  pub twins : List (List ℕ)
  pub all : AreAllBatches protocol limits bytes units
  pub all_twins : AreAllBatches another limits others twins
  pub same : AllZip (SaysTheSame protocol.spells another.spells) units twins

-- the form is one of Jaeger, and this holds of its protocol
abbrev pub InJaeger : Form → (ProtocolWords → Type 0) → Type 0
InJaeger forms.OtlpProto P = ⊥
InJaeger forms.OtlpJson P = ⊥
InJaeger forms.JaegerBinary P = P binary
InJaeger forms.JaegerCompact P = P compact
InJaeger forms.ZipkinJson P = ⊥

-- the same of the forms that they are in
abbrev pub SameBatches : Limits → Form → List ℕ → Form → List ℕ → Type 0
SameBatches limits from bytes other others =
    InJaeger from (λ protocol. InJaeger other (λ another. HoldSameBatches protocol another limits bytes others))
