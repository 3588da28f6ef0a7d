-- What writers append for a value, part by part (Thrift binary and compact protocol encoding): fields by rising id, each list with the
-- type of its elements, an empty one that of a struct. Maps are never written.
use Rattle.std.specs.Prelude.{◌≡◌, ℕ, zero, suc, pred, ℤ, pos, Bool, Option, Some, None, List, [], ◌∷◌, ◌++◌, length}
use Rattle.thrift_core.specs.declared.type_code.TypeCode.{TypeCode}
use Rattle.thrift_core.specs.declared.type_code.TypeCode.TheVariants as kinds
use Rattle.thrift_core.specs.Parts.{header, truth, byte, short, int, long, eight, size, list_head}
use Rattle.thrift_core.specs.Protocols.{WritingOf, MayWrite, field_head, list_of_type}
use Rattle.thrift_core.specs.Trees.{Leaf, truth_value, i8, i16, i32, i64, double, Tree, leaf, binary, structure, map_of, set_of, list_of, Fields, no_fields, field_then, Trees, no_trees, tree_then, kind_of, tree_count}

-- what the head of a field keeps of its truth value
abbrev pub Keeping : Type 0
Keeping = Option Bool → Option Bool

-- the truth value that a field's head is given
abbrev pub given : Tree → Option Bool
given (leaf (truth_value b)) = Some b
given other = None

-- the type that the head of a list names
abbrev pub element_type : Trees → TypeCode
element_type no_trees = kinds.Struct
element_type (tree_then tree more) = kind_of tree

-- what is written of a value that is one part, of which the field's head may hold a truth value already
abbrev pub leaf_written : WritingOf → Leaf → Option Bool → List ℕ
leaf_written writes (truth_value b) held = writes (truth held) b
leaf_written writes (i8 n) held = writes byte n
leaf_written writes (i16 n) held = writes short n
leaf_written writes (i32 n) held = writes int n
leaf_written writes (i64 n) held = writes long n
leaf_written writes (double bytes) held = writes eight bytes

unfoldable mutual
  -- a value for which so many levels are left, and of which this is held already
  pub value_written : Keeping → WritingOf → Tree → ℕ → Option Bool → List ℕ
  value_written keeps writes (leaf x) left held = leaf_written writes x held
  value_written keeps writes (binary bytes) left held = writes size (length bytes) ++ bytes
  value_written keeps writes (structure inner) left held = fields_written keeps writes inner (pred left) (pos 0)
  value_written keeps writes (map_of pairs) left held = []
  value_written keeps writes (set_of trees) left held =
      writes (list_head (pred left)) (list_of_type (element_type trees) (tree_count trees)) ++ elements_written keeps writes trees (pred left)
  value_written keeps writes (list_of trees) left held =
      writes (list_head (pred left)) (list_of_type (element_type trees) (tree_count trees)) ++ elements_written keeps writes trees (pred left)

  -- fields behind the field of id `last`, and the stop byte
  pub fields_written : Keeping → WritingOf → Fields → ℕ → ℤ → List ℕ
  fields_written keeps writes no_fields left last = writes (header left last) None
  fields_written keeps writes (field_then id tree more) left last =
      (writes (header left last) (field_head keeps id (kind_of tree) (given tree)) ++ value_written keeps writes tree left (keeps (given tree)))
      ++ fields_written keeps writes more left id

  pub elements_written : Keeping → WritingOf → Trees → ℕ → List ℕ
  elements_written keeps writes no_trees left = []
  elements_written keeps writes (tree_then tree more) left =
      value_written keeps writes tree left None ++ elements_written keeps writes more left

-- ---- what may be so written: each part may, ids rise, and all elements of a list have its type

-- a value that is one part may be written: the part may, and the field's head holds a truth value just as the protocol keeps it
abbrev pub MayWriteLeaf : Keeping → Leaf → Option Bool → Type 0
MayWriteLeaf keeps (truth_value b) held = MayWrite keeps (truth held) b
MayWriteLeaf keeps (i8 n) held = MayWrite keeps byte n
MayWriteLeaf keeps (i16 n) held = MayWrite keeps short n
MayWriteLeaf keeps (i32 n) held = MayWrite keeps int n
MayWriteLeaf keeps (i64 n) held = MayWrite keeps long n
MayWriteLeaf keeps (double bytes) held = MayWrite keeps eight bytes

unfoldable mutual
  pub MayWriteValue : Keeping → Tree → ℕ → Option Bool → Type 0
  MayWriteValue keeps (leaf x) left held = MayWriteLeaf keeps x held
  MayWriteValue keeps (binary bytes) left held = MayWrite keeps size (length bytes)
  MayWriteValue keeps (structure inner) zero held = ⊥
  MayWriteValue keeps (structure inner) (suc left) held = MayWriteFields keeps inner left (pos 0)
  MayWriteValue keeps (map_of pairs) left held = ⊥
  MayWriteValue keeps (set_of trees) zero held = ⊥
  MayWriteValue keeps (set_of trees) (suc left) held =
      MayWrite keeps (list_head left) (list_of_type (element_type trees) (tree_count trees)) × MayWriteElements keeps trees (element_type trees) left
  MayWriteValue keeps (list_of trees) zero held = ⊥
  MayWriteValue keeps (list_of trees) (suc left) held =
      MayWrite keeps (list_head left) (list_of_type (element_type trees) (tree_count trees)) × MayWriteElements keeps trees (element_type trees) left

  pub MayWriteFields : Keeping → Fields → ℕ → ℤ → Type 0
  MayWriteFields keeps no_fields left last = Unit {0}
  MayWriteFields keeps (field_then id tree more) left last =
      MayWrite keeps (header left last) (field_head keeps id (kind_of tree) (given tree))
      × MayWriteValue keeps tree left (keeps (given tree))
      × MayWriteFields keeps more left id

  pub MayWriteElements : Keeping → Trees → TypeCode → ℕ → Type 0
  MayWriteElements keeps no_trees kind left = Unit {0}
  MayWriteElements keeps (tree_then tree more) kind left =
      (kind ≡ kind_of tree) × MayWriteValue keeps tree left None × MayWriteElements keeps more kind left

-- ---- fields as a list of ids and values

-- a field's id, and its value
abbrev pub FieldRow : Type 0
FieldRow = ℤ × Tree

-- the fields of these rows, in their order
unfoldable pub fields_of_rows : List FieldRow → Fields
fields_of_rows [] = no_fields
fields_of_rows (row ∷ rows) = field_then row.0 row.1 (fields_of_rows rows)

-- a list of structs
unfoldable pub struct_trees : {A : Type 0} → (A → List FieldRow) → List A → Trees
struct_trees rows [] = no_trees
struct_trees rows (x ∷ xs) = tree_then (structure (fields_of_rows (rows x))) (struct_trees rows xs)

-- the id behind which others stand
unfoldable pub last_id : List FieldRow → ℤ → ℤ
last_id [] last = last
last_id (row ∷ rows) last = last_id rows row.0
