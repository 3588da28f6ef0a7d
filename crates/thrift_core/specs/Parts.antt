-- The parts that a Thrift text is made of, one after the other, in every protocol (Thrift binary and compact protocol encoding).
use Rattle.std.specs.Prelude.{◌≡◌, ◌≤◌, ℕ, ℤ, Bool, Option, List, ◌++◌}
use Rattle.span_io.specs.Frames.{Framing}
use Rattle.thrift_core.specs.declared.field.Field.{Field}
use Rattle.thrift_core.specs.declared.field.ListHead.{ListHead}
use Rattle.thrift_core.specs.declared.field.MapHead.{MapHead}
use Rattle.thrift_core.specs.declared.type_code.TypeCode.{TypeCode}
use Rattle.thrift_core.specs.declared.type_code.TypeCode.TheVariants as kinds

-- What stands at a place of a text. Structs, lists, sets and maps are containers: the part that opens one says how many levels of
-- containers are left for it.
pub data Part : Type 0 where
  -- the head of a field behind the field of this id, or the stop byte
  header : ℕ → ℤ → Part
  -- a truth value, which the field's head may hold already
  truth : Option Bool → Part
  byte : Part
  short : Part
  int : Part
  long : Part
  -- a double's eight bytes, the most significant first
  eight : Part
  -- the number of bytes of a binary
  size : Part
  -- the head of a list or set
  list_head : ℕ → Part
  map_head : ℕ → Part

-- what it says: a header no field at the stop byte
abbrev pub WordOf : Part → Type 0
WordOf (header left last) = Option Field
WordOf (truth held) = Bool
WordOf byte = ℤ
WordOf short = ℤ
WordOf int = ℤ
WordOf long = ℤ
WordOf eight = List ℕ
WordOf size = ℕ
WordOf (list_head left) = ListHead
WordOf (map_head left) = MapHead

-- how a protocol spells each part
abbrev pub Spelling : Type 1
Spelling = (part : Part) → WordOf part → List ℕ → Type 0

-- a spelling of the word, and then rest
pub record Begins (Spells : Spelling) (part : Part) (word : WordOf part) (whole rest : List ℕ) : Type 0 where
  pub text : List ℕ
  pub spelled : Spells part word text
  pub parts : whole ≡ text ++ rest

-- no word of the part stands at the front
abbrev pub BeginsNone : Spelling → Part → List ℕ → Type 0
BeginsNone Spells part bytes = (word : WordOf part) (rest : List ℕ) → ¬ Begins Spells part word bytes rest

-- The texts of one part as items of a wire format, by a protocol's spelling, and by the first bytes of a part behind which it has
-- a varint.
abbrev pub texts_of : Spelling → (Part → List ℕ → Type 0) → Part → Framing
texts_of Spells ThenVarint part = record {
  Whole = λ text. (word : WordOf part) × Spells part word text;
  ThenVarint = λ front. ThenVarint part front;
  EndsPast = λ limit text. ⊥;
}

-- a type whose values hold others, and take a level of containers: struct, map, set or list
abbrev pub IsContainer : TypeCode → Type 0
IsContainer kinds.Struct = Unit {0}
IsContainer kinds.Map = Unit {0}
IsContainer kinds.Set = Unit {0}
IsContainer kinds.List = Unit {0}
IsContainer other = ⊥

-- a value of this type may stand where so many levels are left
abbrev pub HasLevel : ℕ → TypeCode → Type 0
HasLevel left kind = IsContainer kind → 1 ≤ left
