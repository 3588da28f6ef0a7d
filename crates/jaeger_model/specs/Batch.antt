-- `Batch` (jaeger.thrift): process 1 and spans 2, seqNo 3, an i64, and stats 4, a struct, which are optional and have no meaning.
use Rattle.std.specs.Prelude.{◌≡◌, ◌≤◌, ◌⊎◌, ◌-◌, ℕ, pos, List, [], ◌∷◌, length}
use Rattle.span_io.specs.Offences.{Rules}
use Rattle.span_io.specs.Tables.{Row, rules_by, nothing_inside}
use Rattle.thrift_core.specs.Messages.{FieldItem, fields_of}
use Rattle.thrift_core.specs.Parts.{Spelling}
use Rattle.thrift_core.specs.Trees.{Fields, Trees, StructText, outer_levels}
use Rattle.thrift_core.specs.FieldValues.{values_of, i64_in, struct_in, list_in, EachStruct}
use Rattle.jaeger_model.specs.declared.batch.Batch.{Batch}
use Rattle.jaeger_model.specs.declared.span.JSpan.{JSpan}
use Rattle.jaeger_model.specs.Meanings.{Required}
use Rattle.jaeger_model.specs.declared.process.Process.{Process}
use Rattle.jaeger_model.specs.InnerRows.{structure, structures}
use Rattle.jaeger_model.specs.Process.{MeansProcess, process_rules}
use Rattle.jaeger_model.specs.Rows.{given_to, required, or_else, number, singular, nothing_wrong}
use Rattle.jaeger_model.specs.Span.{IsJSpan, jspan_rules}

-- a list of structs is these spans, in their order (field 2, `spans`)
abbrev pub MeansSpans : Trees → List JSpan → Type 0
MeansSpans trees spans = EachStruct IsJSpan trees spans

-- it has one at most
abbrev pub AtMostOne : {A : Type 0} → List A → Type 0
AtMostOne held = length held ≤ 1

-- the fields, in any order, are those of this batch
pub record IsBatch (batch : Batch) (fields : Fields) : Type 0 where
  pub process : Required MeansProcess (values_of struct_in 1 fields) (record { service = batch.service; tags = batch.tags })
  pub spans : Required MeansSpans (values_of list_in 2 fields) batch.spans
  pub sequence : AtMostOne (values_of i64_in 3 fields)
  pub stats : AtMostOne (values_of struct_in 4 fields)

-- the bytes are a text of this batch
pub record IsBatchText (Spells : Spelling) (batch : Batch) (text : List ℕ) : Type 0 where
  pub fields : Fields
  pub struct_text : StructText Spells outer_levels fields text
  pub means : IsBatch batch fields

-- ---- its table

-- what a field of any content means
abbrev pub MeansNothing : Fields → Unit {0} → Type 0
MeansNothing held value = Unit {0}

-- a struct of any content, at most one
abbrev pub passed : ℕ → Row FieldItem
passed id = singular (λ item. given_to struct_in id item) (Unit {0}) MeansNothing (λ value. Unit {0}) nothing_wrong nothing_inside

-- by the levels that are left in the batch: a struct takes one, and a list another
abbrev pub batch_table : Spelling → ℕ → List (Row FieldItem)
batch_table Spells left =
    structure Spells (left - 1) (process_rules Spells (left - 1)) 1 Process MeansProcess required
    ∷ structures Spells (left - 2) (jspan_rules Spells (left - 2)) 2 (List JSpan) MeansSpans required
    ∷ number 3 (or_else (pos 0))
    ∷ passed 4
    ∷ []

-- Missing: there is no process, or no list of spans
abbrev pub batch_ends : List FieldItem → ℕ → Type 0
batch_ends seen number =
    (number ≡ 8) × ((values_of struct_in 1 (fields_of seen) ≡ []) ⊎ (values_of list_in 2 (fields_of seen) ≡ []))

-- what offends in a `Batch`: in a field by the table, and at the end where a required field is missing
abbrev pub batch_rules : Spelling → ℕ → Rules FieldItem
batch_rules Spells left = rules_by (batch_table Spells left) batch_ends
