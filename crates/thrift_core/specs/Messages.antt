-- Structs as messages whose fields may offend. Places are counted in the struct's own bytes, its stop byte among them.
use Rattle.std.specs.Prelude.{◌≡◌, ℕ, ℤ, pos, Bool, Option, Some, None, List, [], ◌∷◌, ◌++◌, length}
use Rattle.span_io.specs.Offences.{Format}
use Rattle.thrift_core.specs.Parts.{header, Spelling, Begins}
use Rattle.thrift_core.specs.Trees.{Tree, Fields, no_fields, field_then, kind_of, ValueThen}

-- a field, with its value's own bytes
pub record FieldItem : Type 0 where
  pub id : ℤ
  pub tree : Tree
  pub text : List ℕ

-- what is left of a struct: its bytes behind the field of this id
pub record StructRest : Type 0 where
  pub last : ℤ
  pub bytes : List ℕ

-- a struct of which no field is read yet: 0 stands for the id of a field before the first
abbrev pub whole_struct : List ℕ → StructRest
whole_struct text = record { last = pos 0; bytes = text }

-- a field, and what is left behind it
pub record BeginsField (Spells : Spelling) (left : ℕ) (item : FieldItem) (rest after : StructRest) : Type 0 where
  pub held : Option Bool
  pub head : Begins Spells (header left rest.last) (Some (record { id = item.id; kind = kind_of item.tree; held = held })) rest.bytes (item.text ++ after.bytes)
  pub value : ValueThen Spells item.tree left held item.text []
  pub last : after.last ≡ item.id

-- structs in which so many levels are left
abbrev pub structs : Spelling → ℕ → Format
structs Spells left = record {
  Item = FieldItem;
  Rest = StructRest;
  size = λ rest. length rest.bytes;
  Begins = λ item rest after. BeginsField Spells left item rest after;
  IsEnd = λ rest. Begins Spells (header left rest.last) None rest.bytes [];
  Unread = λ rest number. ⊥;
  held = λ item. length item.text;
  beside = 1;
}

-- the fields that these are
unfoldable pub fields_of : List FieldItem → Fields
fields_of [] = no_fields
fields_of (item ∷ items) = field_then item.id item.tree (fields_of items)
