-- Rows of the tables of jaeger.thrift that hold structs: one, or a list of them.
use Rattle.std.specs.Prelude.{◌≡◌, ◌≢◌, ℕ, suc, ◌+◌, ◌⊎◌, None, List, [], ◌∷◌, ◌++◌, length}
use Rattle.span_io.specs.Offences.{Rules, Offence}
use Rattle.span_io.specs.Tables.{Row}
use Rattle.thrift_core.specs.declared.field.ListHead.{ListHead}
use Rattle.thrift_core.specs.declared.type_code.TypeCode.TheVariants as kinds
use Rattle.thrift_core.specs.FieldValues.{struct_in, list_in}
use Rattle.thrift_core.specs.Messages.{FieldItem, structs, whole_struct}
use Rattle.thrift_core.specs.Parts.{list_head, Spelling, Begins}
use Rattle.thrift_core.specs.Trees.{Fields, Trees, no_trees, tree_then, kind_of, ValueThen}
use Rattle.jaeger_model.specs.Rows.{given_to, nothing_wrong, singular}

-- what a field holds, with the bytes of its value
abbrev pub with_text : {A : Type 0} → List ℕ → List A → List (A × List ℕ)
with_text text [] = []
with_text text (held ∷ more) = (held, text) ∷ with_text text more

-- a list that isn't empty, of another type than structs, as its first element shows: what BadElement is said of
abbrev pub IsOfOthers : Trees → Type 0
IsOfOthers no_trees = ⊥
IsOfOthers (tree_then tree more) = kind_of tree ≢ kinds.Struct

-- such a list, whatever its bytes, has the cause 14
abbrev pub BadElement : Trees × List ℕ → ℕ → Type 0
BadElement held number = (number ≡ 14) × IsOfOthers held.0

-- what offends in the structs of a list, of whose `total` bytes these are left; so many levels are left in each struct
unfoldable pub ElementsOffend : Spelling → ℕ → Rules FieldItem → ℕ → Trees → List ℕ → ℕ → ℕ → Type 0
ElementsOffend Spells left rules total no_trees bytes place number = ⊥
ElementsOffend Spells left rules total (tree_then tree more) bytes place number =
    (text : List ℕ) × (after : List ℕ) × (bytes ≡ text ++ after) × ValueThen Spells tree (suc left) None text []
    × (((inner : ℕ) × Offence (structs Spells left) rules (whole_struct text) inner number × (place + length bytes ≡ total + inner))
    ⊎ ElementsOffend Spells left rules total more after place number)

-- the same behind the list's head, with places counted in the list's own bytes
abbrev pub ListOffends : Spelling → ℕ → Rules FieldItem → Trees × List ℕ → ℕ → ℕ → Type 0
ListOffends Spells left rules held place number =
    (head : ListHead) × (bytes : List ℕ) × Begins Spells (list_head (suc left)) head held.1 bytes × ElementsOffend Spells left rules (length held.1) held.0 bytes place number

-- ---- rows, by the levels that are left in the struct that they hold

-- the field of this id holds a struct and stands once at most. `Means` says what the struct means, `IsAbsent` which value stands
-- where there is none, and what offends in the struct by these rules offends in the field
abbrev pub structure : Spelling → ℕ → Rules FieldItem → ℕ → (B : Type 0) → (Fields → B → Type 0) → (B → Type 0) → Row FieldItem
structure Spells left rules id B Means IsAbsent =
    singular (λ item. with_text item.text (given_to struct_in id item)) B (λ held value. Means held.0 value) IsAbsent nothing_wrong
    (λ held place number. Offence (structs Spells left) rules (whole_struct held.1) place number)

-- the same of a list of structs, each of which has these rules. A list of anything else offends, unless it is empty
abbrev pub structures : Spelling → ℕ → Rules FieldItem → ℕ → (B : Type 0) → (Trees → B → Type 0) → (B → Type 0) → Row FieldItem
structures Spells left rules id B Means IsAbsent =
    singular (λ item. with_text item.text (given_to list_in id item)) B (λ held value. Means held.0 value) IsAbsent BadElement
    (λ held place number. ListOffends Spells left rules held place number)
