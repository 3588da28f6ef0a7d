-- The plain values of Thrift, and the texts of a struct: its fields, one after the other, and the stop byte. Sets and lists have the
-- same texts. Structs, lists, sets and maps nest: `left` is how many levels of them are left at a place.
use Rattle.std.specs.Prelude.{◌≡◌, ℕ, zero, suc, ℤ, pos, Bool, Option, Some, None, List, [], ◌++◌, length}
use Rattle.thrift_core.specs.declared.field.ListHead.{ListHead}
use Rattle.thrift_core.specs.declared.field.MapHead.{MapHead}
use Rattle.thrift_core.specs.declared.type_code.TypeCode.{TypeCode}
use Rattle.thrift_core.specs.declared.type_code.TypeCode.TheVariants as kinds
use Rattle.thrift_core.specs.Parts.{header, truth, byte, short, int, long, eight, size, list_head, map_head, Spelling, Begins}

-- a value that is one part of a text
pub data Leaf : Type 0 where
  truth_value : Bool → Leaf
  i8 : ℤ → Leaf
  i16 : ℤ → Leaf
  i32 : ℤ → Leaf
  i64 : ℤ → Leaf
  double : List ℕ → Leaf

-- the type of a value that is one part
abbrev pub leaf_kind : Leaf → TypeCode
leaf_kind (truth_value b) = kinds.Truth
leaf_kind (i8 n) = kinds.I8
leaf_kind (i16 n) = kinds.I16
leaf_kind (i32 n) = kinds.I32
leaf_kind (i64 n) = kinds.I64
leaf_kind (double bytes) = kinds.Eight

mutual
  pub data Tree : Type 0 where
    leaf : Leaf → Tree
    binary : List ℕ → Tree
    structure : Fields → Tree
    map_of : Pairs → Tree
    set_of : Trees → Tree
    list_of : Trees → Tree

  -- the fields of a struct, each with its id
  pub data Fields : Type 0 where
    no_fields : Fields
    field_then : ℤ → Tree → Fields → Fields

  pub data Trees : Type 0 where
    no_trees : Trees
    tree_then : Tree → Trees → Trees

  pub data Pairs : Type 0 where
    no_pairs : Pairs
    pair_then : Tree → Tree → Pairs → Pairs

-- the type of a value, as the head of its field, list, set or map names it
abbrev pub kind_of : Tree → TypeCode
kind_of (leaf x) = leaf_kind x
kind_of (binary bytes) = kinds.Binary
kind_of (structure inner) = kinds.Struct
kind_of (map_of inner) = kinds.Map
kind_of (set_of inner) = kinds.Set
kind_of (list_of inner) = kinds.List

-- how many elements a list or set has
unfoldable pub tree_count : Trees → ℕ
tree_count no_trees = zero
tree_count (tree_then tree more) = suc (tree_count more)

-- how many pairs of a key and a value a map has
unfoldable pub pair_count : Pairs → ℕ
pair_count no_pairs = zero
pair_count (pair_then key value more) = suc (pair_count more)

-- ---- texts

-- the value, and then rest; where the head of its field holds a truth value, that is `held`
abbrev pub LeafThen : Spelling → Leaf → Option Bool → List ℕ → List ℕ → Type 0
LeafThen Spells (truth_value b) held whole rest = Begins Spells (truth held) b whole rest
LeafThen Spells (i8 n) held whole rest = Begins Spells byte n whole rest
LeafThen Spells (i16 n) held whole rest = Begins Spells short n whole rest
LeafThen Spells (i32 n) held whole rest = Begins Spells int n whole rest
LeafThen Spells (i64 n) held whole rest = Begins Spells long n whole rest
LeafThen Spells (double bytes) held whole rest = Begins Spells eight bytes whole rest

-- the number of the bytes, they themselves, and then rest
abbrev pub BinaryThen : Spelling → List ℕ → List ℕ → List ℕ → Type 0
BinaryThen Spells bytes whole rest = (inner : List ℕ) × Begins Spells size (length bytes) whole inner × (inner ≡ bytes ++ rest)

unfoldable mutual
  -- a value, and then rest
  pub ValueThen : Spelling → Tree → ℕ → Option Bool → List ℕ → List ℕ → Type 0
  ValueThen Spells (leaf x) left held whole rest = LeafThen Spells x held whole rest
  ValueThen Spells (binary bytes) left held whole rest = BinaryThen Spells bytes whole rest
  ValueThen Spells (structure inner) zero held whole rest = ⊥
  ValueThen Spells (structure inner) (suc left) held whole rest = FieldsThen Spells inner left (pos 0) whole rest
  ValueThen Spells (map_of pairs) zero held whole rest = ⊥
  ValueThen Spells (map_of pairs) (suc left) held whole rest =
      (head : MapHead) × (inner : List ℕ) × Begins Spells (map_head left) head whole inner × (head.size ≡ pair_count pairs) × PairsThen Spells pairs head.key head.value left inner rest
  ValueThen Spells (set_of trees) zero held whole rest = ⊥
  ValueThen Spells (set_of trees) (suc left) held whole rest =
      (head : ListHead) × (inner : List ℕ) × Begins Spells (list_head left) head whole inner × (head.size ≡ tree_count trees) × ElementsThen Spells trees head.element left inner rest
  ValueThen Spells (list_of trees) zero held whole rest = ⊥
  ValueThen Spells (list_of trees) (suc left) held whole rest =
      (head : ListHead) × (inner : List ℕ) × Begins Spells (list_head left) head whole inner × (head.size ≡ tree_count trees) × ElementsThen Spells trees head.element left inner rest

  -- fields behind the field of id `last`, the stop byte, and then rest
  pub FieldsThen : Spelling → Fields → ℕ → ℤ → List ℕ → List ℕ → Type 0
  FieldsThen Spells no_fields left last whole rest = Begins Spells (header left last) None whole rest
  FieldsThen Spells (field_then id tree more) left last whole rest =
      (held : Option Bool) × (inner : List ℕ) × (after : List ℕ)
      × Begins Spells (header left last) (Some (record { id = id; kind = kind_of tree; held = held })) whole inner
      × ValueThen Spells tree left held inner after
      × FieldsThen Spells more left id after rest

  -- elements of this type, and then rest
  pub ElementsThen : Spelling → Trees → Option TypeCode → ℕ → List ℕ → List ℕ → Type 0
  ElementsThen Spells no_trees kind left whole rest = whole ≡ rest
  ElementsThen Spells (tree_then tree more) kind left whole rest =
      (kind ≡ Some (kind_of tree)) × (after : List ℕ) × ValueThen Spells tree left None whole after × ElementsThen Spells more kind left after rest

  -- pairs of these types, and then rest
  pub PairsThen : Spelling → Pairs → Option TypeCode → Option TypeCode → ℕ → List ℕ → List ℕ → Type 0
  PairsThen Spells no_pairs key value left whole rest = whole ≡ rest
  PairsThen Spells (pair_then first second more) key value left whole rest =
      (key ≡ Some (kind_of first)) × (value ≡ Some (kind_of second)) × (between : List ℕ) × (after : List ℕ)
      × ValueThen Spells first left None whole between
      × ValueThen Spells second left None between after
      × PairsThen Spells more key value left after rest

-- containers may stand at so many levels
abbrev pub all_levels : ℕ
all_levels = 32

-- the levels that are left in a struct that no other container holds, which is the first
abbrev pub outer_levels : ℕ
outer_levels = 31

-- the text of a struct with these fields, where so many levels are left in it
abbrev pub StructText : Spelling → ℕ → Fields → List ℕ → Type 0
StructText Spells left fields text = FieldsThen Spells fields left (pos 0) text []
