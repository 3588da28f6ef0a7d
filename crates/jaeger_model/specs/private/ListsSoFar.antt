-- What readers of structs and of lists of structs read.
use Rattle.std.specs.Prelude.{◌≡◌, ◌⊎◌, ℕ, suc, None, Some, List, []}
use Rattle.span_io.specs.Offences.{Rules, Offence, HereOrInside}
use Rattle.span_io.specs.Tables.{Twice}
use Rattle.thrift_core.specs.declared.type_code.TypeCode.TheVariants as kinds
use Rattle.thrift_core.specs.FieldValues.{EachStruct}
use Rattle.thrift_core.specs.Messages.{FieldItem, structs, whole_struct}
use Rattle.thrift_core.specs.Parts.{Spelling}
use Rattle.thrift_core.specs.Trees.{structure, list_of, Fields, Trees, tree_count, ValueThen, ElementsThen}
use Rattle.jaeger_model.specs.Counted.{IsCounted}
use Rattle.jaeger_model.specs.InnerRows.{BadElement, ListOffends}
use Rattle.jaeger_model.specs.Rows.{nothing_wrong}

-- the text is that of so many structs, in each of which so many levels are left
pub record AreElements (Spells : Spelling) (left size : ℕ) (trees : Trees) (text : List ℕ) : Type 0 where
  pub count : size ≡ tree_count trees
  pub stand : ElementsThen Spells trees (Some kinds.Struct) (suc left) text []

-- the text is that of a list of these, as a value for which so many levels are left
abbrev pub ListValue : Spelling → ℕ → Trees → List ℕ → Type 0
ListValue Spells left trees text = ValueThen Spells (list_of trees) left None text []

-- the same of a struct
abbrev pub StructValue : Spelling → ℕ → Fields → List ℕ → Type 0
StructValue Spells left fields text = ValueThen Spells (structure fields) left None text []

-- how a list offends, by its elements' type or in the structs that it holds
abbrev pub ListValueOffends : Spelling → ℕ → Rules FieldItem → Trees × List ℕ → ℕ → ℕ → Type 0
ListValueOffends Spells left rules held place number =
    HereOrInside (BadElement held) (ListOffends Spells left rules held) place number

-- ---- singular rows that hold structs

-- by what the fields of the struct mean
abbrev pub MeansOne : {B : Type 0} → (B → Fields → Type 0) → Fields × List ℕ → B → Type 0
MeansOne Is held value = Is value held.0

-- the same of each struct of a list, whose structs are counted
abbrev pub MeansEach : {B : Type 0} → (B → Fields → Type 0) → Trees × List ℕ → List B → Type 0
MeansEach Is held values = EachStruct Is held.0 values × IsCounted values

-- how a struct offends in its row, of which earlier ones were seen
abbrev pub StructRowOffends : Spelling → ℕ → Rules FieldItem → List (Fields × List ℕ) → Fields × List ℕ → ℕ → ℕ → Type 0
StructRowOffends Spells left rules earlier held place number =
    HereOrInside (λ n. Twice earlier n ⊎ nothing_wrong held n) (λ p n. Offence (structs Spells left) rules (whole_struct held.1) p n) place number

-- the same of a list of structs
abbrev pub ListRowOffends : Spelling → ℕ → Rules FieldItem → List (Trees × List ℕ) → Trees × List ℕ → ℕ → ℕ → Type 0
ListRowOffends Spells left rules earlier held place number =
    HereOrInside (λ n. Twice earlier n ⊎ BadElement held n) (λ p n. ListOffends Spells left rules held p n) place number
