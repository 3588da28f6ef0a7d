-- What is known of what structs of jaeger.thrift mean.
use Rattle.std.specs.Prelude.{◌≡◌, ◌↔◌, ◌⊎◌, ℕ, List, [], ◌∷◌, All}
use Rattle.span_io.specs.Causes.{cause_number}
use Rattle.span_io.specs.declared.cause.Cause.{Cause}
use Rattle.span_io.specs.Frames.{AreBytes}
use Rattle.span_io.specs.Offences.{Offence, Least}
use Rattle.span_io.specs.Tables.{Row, IsFree}
use Rattle.thrift_core.specs.Messages.{FieldItem, fields_of, structs, whole_struct}
use Rattle.thrift_core.specs.Parts.{Spelling}
use Rattle.thrift_core.specs.Trees.{Fields, StructText, outer_levels}
use Rattle.jaeger_model.specs.Batch.{IsBatch, IsBatchText, batch_table, batch_rules}
use Rattle.jaeger_model.specs.declared.batch.Batch.{Batch}
use Rattle.jaeger_model.specs.Log.{IsLog, log_table}
use Rattle.jaeger_model.specs.Process.{IsProcess, process_table}
use Rattle.jaeger_model.specs.Reference.{IsSpanRef, reference_table}
use Rattle.jaeger_model.specs.Span.{IsJSpan, jspan_table}
use Rattle.jaeger_model.specs.Tag.{IsTag, tag_table}
use Rattle.jaeger_model.specs.Proper.{IsProperBatch}
use Rattle.jaeger_model.specs.Writable.{IsTimed}
use Rattle.jaeger_model.specs.WrittenAgain.{all_counted}

-- what offends in the text of a batch
abbrev pub BatchOffends : Spelling → List ℕ → ℕ → ℕ → Type 0
BatchOffends Spells text place number =
    Offence (structs Spells outer_levels) (batch_rules Spells outer_levels) (whole_struct text) place number

-- A text is that of one batch at most, and nothing offends in one.
pub record OneBatch (Spells : Spelling) : Type 0 where
  pub once : (text : List ℕ) (a b : Batch) → IsBatchText Spells a text → IsBatchText Spells b text → a ≡ b
  pub fine : (batch : Batch) (text : List ℕ) → IsBatchText Spells batch text → (place number : ℕ)
      → ¬ BatchOffends Spells text place number

-- the text of any struct is that of a batch, or an offence in it counts, and it has a cause
abbrev pub SomeBatch : Spelling → Type 0
SomeBatch Spells = (fields : Fields) (text : List ℕ) → StructText Spells outer_levels fields text
    → ((batch : Batch) × IsBatchText Spells batch text) ⊎ ((cause : Cause) × Least (BatchOffends Spells text) (cause_number cause))

-- Two texts of one tree, each in a protocol of its own, are of the same batch, or what counts in them has the same cause.
pub record OneTree (Spells Others : Spelling) : Type 0 where
  pub same_batch : (fields : Fields) (text other : List ℕ) → StructText Spells outer_levels fields text
      → StructText Others outer_levels fields other
      → (batch : Batch) → IsBatchText Spells batch text ↔ IsBatchText Others batch other
  pub same_cause : (fields : Fields) (text other : List ℕ) → StructText Spells outer_levels fields text
      → StructText Others outer_levels fields other
      → (cause : Cause)
      → Least (BatchOffends Spells text) (cause_number cause) ↔ Least (BatchOffends Others other) (cause_number cause)

-- ---- free fields

-- The same fields, but for fields on either side that are of no row of the table.
pub data SameButFree (table : List (Row FieldItem)) : List FieldItem → List FieldItem → Type 0 where
  no_more : SameButFree table [] []
  on_both : (item : FieldItem) (items others : List FieldItem) → SameButFree table items others
      → SameButFree table (item ∷ items) (item ∷ others)
  on_this : (free : FieldItem) (items others : List FieldItem) → IsFree table free → SameButFree table items others
      → SameButFree table (free ∷ items) others
  on_that : (free : FieldItem) (items others : List FieldItem) → IsFree table free → SameButFree table items others
      → SameButFree table items (free ∷ others)

-- such fields mean the same things
abbrev pub PassesFreeFields : {X : Type 0} → List (Row FieldItem) → (X → Fields → Type 0) → Type 0
PassesFreeFields {X} table Is =
    (items others : List FieldItem) → SameButFree table items others → (x : X) → Is x (fields_of items) ↔ Is x (fields_of others)

-- so of texts
abbrev pub PassesFreeText : {X : Type 0} → Spelling → ℕ → List (Row FieldItem) → (X → List ℕ → Type 0) → Type 0
PassesFreeText {X} Spells left table Is = (items others : List FieldItem) (text other : List ℕ) → SameButFree table items others
    → StructText Spells left (fields_of items) text → StructText Spells left (fields_of others) other → (x : X)
    → Is x text ↔ Is x other

-- fields of no row, added to a struct of jaeger.thrift or taken from it, change nothing in what it means. So with a batch's text
pub record FreeFields (Spells : Spelling) : Type 0 where
  pub tag : PassesFreeFields tag_table IsTag
  pub reference : PassesFreeFields reference_table IsSpanRef
  pub log : (left : ℕ) → PassesFreeFields (log_table Spells left) IsLog
  pub process : (left : ℕ) → PassesFreeFields (process_table Spells left) IsProcess
  pub span : (left : ℕ) → PassesFreeFields (jspan_table Spells left) IsJSpan
  pub batch : (left : ℕ) → PassesFreeFields (batch_table Spells left) IsBatch
  pub text : PassesFreeText Spells outer_levels (batch_table Spells outer_levels) (IsBatchText Spells)

-- what is read of a text has times of whole microseconds, and no span in it ends before its start
abbrev pub ReadsTimes : Spelling → Type 0
ReadsTimes Spells = (batch : Batch) (text : List ℕ) → IsBatchText Spells batch text → All IsTimed batch.spans

-- what is read of bytes is proper, but for the count of references to no span
abbrev pub ReadsProper : Spelling → Type 0
ReadsProper Spells =
    (batch : Batch) (text : List ℕ) → AreBytes text → IsBatchText Spells batch text → IsProperBatch (all_counted batch)
