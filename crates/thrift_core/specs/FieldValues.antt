-- What the fields of a struct hold, by their ids and types. A field of another type is none of that id.
use Rattle.std.specs.Prelude.{ℕ, ℤ, pos, negsuc, Bool, false, ◌==◌, if◌then◌else◌, List, [], ◌∷◌, ◌++◌}
use Rattle.thrift_core.specs.Trees.{truth_value, i32, i64, double, Tree, leaf, binary, structure, list_of, Fields, no_fields, field_then, Trees, no_trees, tree_then}

-- what a value holds, if it is of this type
abbrev pub truth_in : Tree → List Bool
truth_in (leaf (truth_value b)) = b ∷ []
truth_in other = []

-- the number that a value holds, if it is an i32
abbrev pub i32_in : Tree → List ℤ
i32_in (leaf (i32 n)) = n ∷ []
i32_in other = []

-- the number that a value holds, if it is an i64
abbrev pub i64_in : Tree → List ℤ
i64_in (leaf (i64 n)) = n ∷ []
i64_in other = []

-- the eight bytes that a value holds, the most significant first, if it is a double
abbrev pub double_in : Tree → List (List ℕ)
double_in (leaf (double bytes)) = bytes ∷ []
double_in other = []

-- the bytes that a value holds, if it is a binary, which a string is too
abbrev pub binary_in : Tree → List (List ℕ)
binary_in (binary bytes) = bytes ∷ []
binary_in other = []

-- the fields that a value holds, if it is a struct
abbrev pub struct_in : Tree → List Fields
struct_in (structure inner) = inner ∷ []
struct_in other = []

-- the elements that a value holds, if it is a list; a set is none
abbrev pub list_in : Tree → List Trees
list_in (list_of inner) = inner ∷ []
list_in other = []

-- the value is a struct of which this is said
abbrev pub IsStructOf : (Fields → Type 0) → Tree → Type 0
IsStructOf Says (structure inner) = Says inner
IsStructOf Says other = ⊥

-- the second number, a field's id, is the first; a negative id never is
abbrev pub has_id : ℕ → ℤ → Bool
has_id id (pos n) = n == id
has_id id (negsuc n) = false

-- what a field holds, if it has this id
abbrev pub of_id : {A : Type 0} → (Tree → List A) → ℕ → ℤ → Tree → List A
of_id take id its tree = if has_id id its then take tree else []

-- what the fields of an id hold, in their order
unfoldable pub values_of : {A : Type 0} → (Tree → List A) → ℕ → Fields → List A
values_of take id no_fields = []
values_of take id (field_then its tree more) = of_id take id its tree ++ values_of take id more

-- a list of structs is these, in their order
unfoldable pub EachStruct : {B : Type 0} → (B → Fields → Type 0) → Trees → List B → Type 0
EachStruct Is no_trees [] = Unit {0}
EachStruct Is no_trees (x ∷ xs) = ⊥
EachStruct Is (tree_then tree more) [] = ⊥
EachStruct Is (tree_then tree more) (x ∷ xs) = IsStructOf (λ inner. Is x inner) tree × EachStruct Is more xs
