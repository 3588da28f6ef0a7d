-- `Log` (jaeger.thrift): timestamp 1, microseconds, and fields 2, a list of tags; both are required.
use Rattle.std.specs.Prelude.{◌≡◌, ◌⊎◌, ℕ, ◌-◌, List, [], ◌∷◌}
use Rattle.span_io.specs.Offences.{Rules}
use Rattle.span_io.specs.Tables.{Row, rules_by}
use Rattle.thrift_core.specs.Messages.{FieldItem, fields_of}
use Rattle.thrift_core.specs.Parts.{Spelling}
use Rattle.thrift_core.specs.Trees.{Fields, Trees}
use Rattle.thrift_core.specs.FieldValues.{values_of, i64_in, list_in, EachStruct}
use Rattle.jaeger_model.specs.declared.span.Log.{Log}
use Rattle.jaeger_model.specs.declared.tag.Tag.{Tag}
use Rattle.jaeger_model.specs.Meanings.{Required, MeansTime}
use Rattle.jaeger_model.specs.InnerRows.{structures}
use Rattle.jaeger_model.specs.Rows.{required, time_of_id}
use Rattle.jaeger_model.specs.Tag.{IsTag, tag_rules}

-- a list of tags
abbrev pub MeansTags : Trees → List Tag → Type 0
MeansTags trees tags = EachStruct IsTag trees tags

-- the fields, in any order, are those of this log
pub record IsLog (log : Log) (fields : Fields) : Type 0 where
  pub time : Required MeansTime (values_of i64_in 1 fields) log.time
  pub tags : Required MeansTags (values_of list_in 2 fields) log.fields

-- ---- its table, by the levels that are left in the log: a list takes one, and a struct in it another

-- timestamp 1 and fields 2, both required
abbrev pub log_table : Spelling → ℕ → List (Row FieldItem)
log_table Spells left = time_of_id 1 required ∷ structures Spells (left - 2) tag_rules 2 (List Tag) MeansTags required ∷ []

-- Missing: there is no timestamp, or no list of fields
abbrev pub log_ends : List FieldItem → ℕ → Type 0
log_ends seen number = (number ≡ 8) × ((values_of i64_in 1 (fields_of seen) ≡ []) ⊎ (values_of list_in 2 (fields_of seen) ≡ []))

-- what offends in a `Log`: in a field by the table, and at the end where a required field is missing
abbrev pub log_rules : Spelling → ℕ → Rules FieldItem
log_rules Spells left = rules_by (log_table Spells left) log_ends
