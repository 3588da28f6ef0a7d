-- A struct's fields, one behind the other.
use Rattle.std.specs.Prelude.{◌≡◌, ℕ, List, [], ◌++◌}
use Rattle.span_io.specs.Tables.{Whole}
use Rattle.thrift_core.specs.declared.field.Field.{Field}
use Rattle.thrift_core.specs.Parts.{Spelling}
use Rattle.thrift_core.specs.Trees.{Fields, kind_of, ValueThen}
use Rattle.thrift_core.specs.Messages.{FieldItem, StructRest, fields_of, structs}

-- ---- for a reader that goes on field by field

-- the field of this head stands at the front by its value, and then rest
pub record FieldStands (Spells : Spelling) (left : ℕ) (found : Field) (item : FieldItem) (whole rest : List ℕ) : Type 0 where
  pub id : item.id ≡ found.id
  pub kind : kind_of item.tree ≡ found.kind
  pub value : ValueThen Spells item.tree left found.held item.text []
  pub parts : whole ≡ item.text ++ rest

-- they are those of the struct, to its end
pub record AreFields (Spells : Spelling) (left : ℕ) (fields : Fields) (items : List FieldItem) (rest : StructRest) : Type 0 where
  pub same : fields_of items ≡ fields
  pub whole : Whole (structs Spells left) items rest
