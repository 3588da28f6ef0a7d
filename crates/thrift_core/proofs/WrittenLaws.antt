-- What is written of the fields of a struct is their text, whatever follows.
use Rattle.std.proofs.Common.{◌≡◌, ◌++◌, ℕ, zero, suc, ℤ, pos, Bool, Option, Some, None, List, [], ◌∷◌, length, refl, sym, ap, subst, ◌∙◌}
use Rattle.std.proofs.lemmas.List.{append_assoc, append-nil}
use Rattle.thrift_core.specs.declared.type_code.TypeCode.{TypeCode}
use Rattle.thrift_core.specs.declared.type_code.TypeCode.TheVariants as kinds
use Rattle.thrift_core.specs.Parts.{Part, header, truth, byte, short, int, long, eight, size, list_head, WordOf, Spelling, Begins}
use Rattle.thrift_core.specs.Protocols.{WritingOf, MayWrite, WritesShortest, field_head, list_of_type}
use Rattle.thrift_core.specs.Trees.{Leaf, truth_value, i8, i16, i32, i64, double, Tree, leaf, binary, structure, map_of, set_of, list_of, Fields, no_fields, field_then, Trees, no_trees, tree_then, kind_of, tree_count, LeafThen, ValueThen, FieldsThen, ElementsThen, StructText}
use Rattle.thrift_core.specs.StatedLaws.{WrittenStructs}
use Rattle.thrift_core.specs.Written.{Keeping, given, element_type, leaf_written, value_written, fields_written, elements_written, MayWriteLeaf, MayWriteValue, MayWriteFields, MayWriteElements, FieldRow, fields_of_rows, struct_trees, last_id}
use Rattle.thrift_core.specs.private.WrittenParts.{field_written, rows_written}

module _ (Spells : Spelling) (keeps : Keeping) (writes : WritingOf) (laws : WritesShortest Spells keeps writes) where
  part_then : (part : Part) (word : WordOf part) (rest : List ℕ) → MayWrite keeps part word → Begins Spells part word (writes part word ++ rest) rest
  part_then part word rest may = record { text = writes part word; spelled = laws.spelled part word may; parts = refl }

  leaf_then : (x : Leaf) (held : Option Bool) (rest : List ℕ) → MayWriteLeaf keeps x held → LeafThen Spells x held (leaf_written writes x held ++ rest) rest
  leaf_then (truth_value b) held rest may = part_then (truth held) b rest may
  leaf_then (i8 n) held rest may = part_then byte n rest may
  leaf_then (i16 n) held rest may = part_then short n rest may
  leaf_then (i32 n) held rest may = part_then int n rest may
  leaf_then (i64 n) held rest may = part_then long n rest may
  leaf_then (double bytes) held rest may = part_then eight bytes rest may

  -- a part, and what follows it
  behind : (part : Part) (word : WordOf part) (more rest : List ℕ) → MayWrite keeps part word → Begins Spells part word ((writes part word ++ more) ++ rest) (more ++ rest)
  behind part word more rest may = record { text = writes part word; spelled = laws.spelled part word may; parts = append_assoc (writes part word) more rest }

  mutual
    unfolding value_written fields_written elements_written MayWriteValue MayWriteFields MayWriteElements ValueThen FieldsThen ElementsThen

    value_then : (tree : Tree) (left : ℕ) (held : Option Bool) (rest : List ℕ) → MayWriteValue keeps tree left held
        → ValueThen Spells tree left held (value_written keeps writes tree left held ++ rest) rest
    value_then (leaf x) left held rest may = leaf_then x held rest may
    value_then (binary bytes) left held rest may = (bytes ++ rest, behind size (length bytes) bytes rest may, refl)
    value_then (structure inner) zero held rest may = absurd may
    value_then (structure inner) (suc left) held rest may = fields_then inner left (pos 0) rest may
    value_then (map_of pairs) left held rest may = absurd may
    value_then (set_of trees) zero held rest may = absurd may
    value_then (set_of trees) (suc left) held rest may =
        let head = list_of_type (element_type trees) (tree_count trees) in
        let elements = elements_written keeps writes trees left in
        (head, elements ++ rest, behind (list_head left) head elements rest may.0, refl, elements_then trees (element_type trees) left rest may.1)
    value_then (list_of trees) zero held rest may = absurd may
    value_then (list_of trees) (suc left) held rest may =
        let head = list_of_type (element_type trees) (tree_count trees) in
        let elements = elements_written keeps writes trees left in
        (head, elements ++ rest, behind (list_head left) head elements rest may.0, refl, elements_then trees (element_type trees) left rest may.1)

    pub fields_then : (fields : Fields) (left : ℕ) (last : ℤ) (rest : List ℕ) → MayWriteFields keeps fields left last
        → FieldsThen Spells fields left last (fields_written keeps writes fields left last ++ rest) rest
    fields_then no_fields left last rest may = part_then (header left last) None rest tt
    fields_then (field_then id tree more) left last rest may =
        let head = field_head keeps id (kind_of tree) (given tree) in
        let value = value_written keeps writes tree left (keeps (given tree)) in
        let others = fields_written keeps writes more left id in (
          keeps (given tree),
          value ++ (others ++ rest),
          others ++ rest,
          subst (λ whole. Begins Spells (header left last) head whole (value ++ (others ++ rest)))
              (sym (append_assoc (writes (header left last) head ++ value) others rest))
              (behind (header left last) head value (others ++ rest) may.0),
          value_then tree left (keeps (given tree)) (others ++ rest) may.1,
          fields_then more left id rest may.2,
        )

    elements_then : (trees : Trees) (kind : TypeCode) (left : ℕ) (rest : List ℕ) → MayWriteElements keeps trees kind left
        → ElementsThen Spells trees (Some kind) left (elements_written keeps writes trees left ++ rest) rest
    elements_then no_trees kind left rest may = refl
    elements_then (tree_then tree more) kind left rest may =
        let value = value_written keeps writes tree left None in
        let others = elements_written keeps writes more left in (
          ap Some may.0,
          others ++ rest,
          subst (λ whole. ValueThen Spells tree left None whole (others ++ rest)) (sym (append_assoc value others rest)) (value_then tree left None (others ++ rest) may.1),
          elements_then more kind left rest may.2,
        )

  pub written_structs : WrittenStructs Spells keeps writes
  written_structs = record {
    fields = λ fields left last rest may. fields_then fields left last rest may;
    struct_text = λ fields left may.
        subst (λ text. StructText Spells left fields text) (append-nil (fields_written keeps writes fields left (pos 0))) (fields_then fields left (pos 0) [] may);
  }

-- ---- fields as a list

module _ (keeps : Keeping) (writes : WritingOf) where
  -- behind them the stop byte
  pub struct_written : (rows : List FieldRow) (left : ℕ) (last : ℤ)
      → fields_written keeps writes (fields_of_rows rows) left last ≡ rows_written keeps writes rows left last ++ writes (header left (last_id rows last)) None
  unfolding fields_written fields_of_rows rows_written last_id
  struct_written [] left last = refl
  struct_written (row ∷ rows) left last =
      let one = field_written keeps writes row.0 row.1 left last in
      ap (λ l. one ++ l) (struct_written rows left row.0) ∙ sym (append_assoc one (rows_written keeps writes rows left row.0) (writes (header left (last_id rows row.0)) None))

  -- some behind others
  pub rows_behind : (a b : List FieldRow) (left : ℕ) (last : ℤ)
      → rows_written keeps writes (a ++ b) left last ≡ rows_written keeps writes a left last ++ rows_written keeps writes b left (last_id a last)
  unfolding rows_written last_id
  rows_behind [] b left last = refl
  rows_behind (row ∷ a) b left last =
      let one = field_written keeps writes row.0 row.1 left last in
      ap (λ l. one ++ l) (rows_behind a b left row.0) ∙ sym (append_assoc one (rows_written keeps writes a left row.0) (rows_written keeps writes b left (last_id a row.0)))

-- the head of a list of structs
pub struct_count : {A : Type 0} (rows : A → List FieldRow) (xs : List A) → tree_count (struct_trees rows xs) ≡ length xs
unfolding tree_count struct_trees
struct_count rows [] = refl
struct_count rows (x ∷ xs) = ap suc (struct_count rows xs)

pub struct_type : {A : Type 0} (rows : A → List FieldRow) (xs : List A) → element_type (struct_trees rows xs) ≡ kinds.Struct
unfolding struct_trees
struct_type rows [] = refl
struct_type rows (x ∷ xs) = refl
