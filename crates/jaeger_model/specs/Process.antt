-- `Process` (jaeger.thrift): serviceName 1, a text, and tags 2, a list of tags, which is optional.
use Rattle.std.specs.Prelude.{◌≡◌, ℕ, ◌-◌, List, [], ◌∷◌}
use Rattle.span_io.specs.Offences.{Rules}
use Rattle.span_io.specs.Tables.{Row, rules_by, Singular, MeansText}
use Rattle.thrift_core.specs.FieldValues.{values_of, binary_in, list_in}
use Rattle.thrift_core.specs.Messages.{FieldItem}
use Rattle.thrift_core.specs.Parts.{Spelling}
use Rattle.thrift_core.specs.Trees.{Fields}
use Rattle.jaeger_model.specs.declared.process.Process.{Process}
use Rattle.jaeger_model.specs.declared.tag.Tag.{Tag}
use Rattle.jaeger_model.specs.InnerRows.{structures}
use Rattle.jaeger_model.specs.Log.{MeansTags}
use Rattle.jaeger_model.specs.Meanings.{Required}
use Rattle.jaeger_model.specs.Rows.{required, or_else, text_of_id, Missing}
use Rattle.jaeger_model.specs.Tag.{tag_rules}

-- the fields, in any order, are those of this process
pub record IsProcess (process : Process) (fields : Fields) : Type 0 where
  pub service : Required MeansText (values_of binary_in 1 fields) process.service
  pub tags : Singular MeansTags (λ tags. tags ≡ []) (values_of list_in 2 fields) process.tags

-- what a struct means in the row that holds a process (`Batch`, field 1)
abbrev pub MeansProcess : Fields → Process → Type 0
MeansProcess fields process = IsProcess process fields

-- ---- its table, by the levels that are left in the process: a list takes one, and a struct in it another

-- serviceName 1, required, and tags 2, none where the field is absent
abbrev pub process_table : Spelling → ℕ → List (Row FieldItem)
process_table Spells left =
    text_of_id 1 required ∷ structures Spells (left - 2) tag_rules 2 (List Tag) MeansTags (or_else []) ∷ []

-- Missing: there is no serviceName
abbrev pub process_ends : List FieldItem → ℕ → Type 0
process_ends seen number = Missing (text_of_id 1 required ∷ []) seen number

-- what offends in a `Process`: in a field by the table, and at the end where its name is missing
abbrev pub process_rules : Spelling → ℕ → Rules FieldItem
process_rules Spells left = rules_by (process_table Spells left) process_ends
