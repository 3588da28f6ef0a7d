-- What a row keeps, of each kind of row.
use Rattle.std.proofs.Common.{◌≡◌, ◌∷◌, ℕ, ℤ, Bool, true, false, List, [], length, if◌then◌else◌, inl, inr, refl, sym, ap, arith}
use Rattle.std.proofs.lemmas.List.{length-append}
use Rattle.span_io.specs.Offences.{FormatLaws, RulesLaws}
use Rattle.span_io.proofs.OffenceLaws.{offence_within}
use Rattle.span_io.specs.Offences.{Rules}
use Rattle.span_io.proofs.TableLaws.{IsFew, HasBareEnd, RowShape}
use Rattle.thrift_core.specs.FieldValues.{has_id, truth_in, i32_in, i64_in, double_in, binary_in, struct_in, list_in}
use Rattle.thrift_core.specs.Messages.{FieldItem, structs, whole_struct}
use Rattle.thrift_core.specs.Parts.{Spelling}
use Rattle.thrift_core.specs.Trees.{truth_value, i8, i16, i32, i64, double, Tree, leaf, binary, structure as struct_of, map_of, set_of, list_of, Fields, Trees}
use Rattle.jaeger_model.proofs.ListLemmas.{offence_some, elements_place, elements_within}
use Rattle.jaeger_model.specs.InnerRows.{with_text, structure, structures}
use Rattle.span_io.specs.Tables.{nothing_inside}
use Rattle.jaeger_model.specs.Rows.{given_to, singular}

-- ---- one value at most

truth_few : (tree : Tree) → IsFew (truth_in tree)
truth_few (leaf (truth_value b)) = inr (b, refl)
truth_few (leaf (i8 n)) = inl refl
truth_few (leaf (i16 n)) = inl refl
truth_few (leaf (i32 n)) = inl refl
truth_few (leaf (i64 n)) = inl refl
truth_few (leaf (double h)) = inl refl
truth_few (binary h) = inl refl
truth_few (struct_of inner) = inl refl
truth_few (map_of pairs) = inl refl
truth_few (set_of trees) = inl refl
truth_few (list_of trees) = inl refl

i32_few : (tree : Tree) → IsFew (i32_in tree)
i32_few (leaf (truth_value b)) = inl refl
i32_few (leaf (i8 n)) = inl refl
i32_few (leaf (i16 n)) = inl refl
i32_few (leaf (i32 n)) = inr (n, refl)
i32_few (leaf (i64 n)) = inl refl
i32_few (leaf (double h)) = inl refl
i32_few (binary h) = inl refl
i32_few (struct_of inner) = inl refl
i32_few (map_of pairs) = inl refl
i32_few (set_of trees) = inl refl
i32_few (list_of trees) = inl refl

i64_few : (tree : Tree) → IsFew (i64_in tree)
i64_few (leaf (truth_value b)) = inl refl
i64_few (leaf (i8 n)) = inl refl
i64_few (leaf (i16 n)) = inl refl
i64_few (leaf (i32 n)) = inl refl
i64_few (leaf (i64 n)) = inr (n, refl)
i64_few (leaf (double h)) = inl refl
i64_few (binary h) = inl refl
i64_few (struct_of inner) = inl refl
i64_few (map_of pairs) = inl refl
i64_few (set_of trees) = inl refl
i64_few (list_of trees) = inl refl

double_few : (tree : Tree) → IsFew (double_in tree)
double_few (leaf (truth_value b)) = inl refl
double_few (leaf (i8 n)) = inl refl
double_few (leaf (i16 n)) = inl refl
double_few (leaf (i32 n)) = inl refl
double_few (leaf (i64 n)) = inl refl
double_few (leaf (double h)) = inr (h, refl)
double_few (binary h) = inl refl
double_few (struct_of inner) = inl refl
double_few (map_of pairs) = inl refl
double_few (set_of trees) = inl refl
double_few (list_of trees) = inl refl

binary_few : (tree : Tree) → IsFew (binary_in tree)
binary_few (leaf (truth_value b)) = inl refl
binary_few (leaf (i8 n)) = inl refl
binary_few (leaf (i16 n)) = inl refl
binary_few (leaf (i32 n)) = inl refl
binary_few (leaf (i64 n)) = inl refl
binary_few (leaf (double h)) = inl refl
binary_few (binary h) = inr (h, refl)
binary_few (struct_of inner) = inl refl
binary_few (map_of pairs) = inl refl
binary_few (set_of trees) = inl refl
binary_few (list_of trees) = inl refl

few_if : {A : Type 0} (b : Bool) (xs : List A) → IsFew xs → IsFew (if b then xs else [])
few_if true xs few = few
few_if false xs few = inl refl

pub given_few : {A : Type 0} (take : Tree → List A) → ((tree : Tree) → IsFew (take tree)) → (id : ℕ) (item : FieldItem) → IsFew (given_to take id item)
given_few take few id item = few_if (has_id id item.id) (take item.tree) (few item.tree)

-- ---- rows in which no message stands

module _ (Spells : Spelling) (left top : ℕ) where
  pub plain_shape : {A : Type 0} (give : FieldItem → List A) (B : Type 0) (Means : A → B → Type 0) (IsAbsent : B → Type 0) (Wrong : A → ℕ → Type 0) → ((item : FieldItem) → IsFew (give item))
      → RowShape (structs Spells left) (singular give B Means IsAbsent Wrong nothing_inside) top
  plain_shape give B Means IsAbsent Wrong few = record { few = few; within = λ item x gives place n h. absurd h; late = λ bare item x gives place n h behind. absurd h }

  pub binary_shape : (id : ℕ) (B : Type 0) (Means : List ℕ → B → Type 0) (IsAbsent : B → Type 0) (Wrong : List ℕ → ℕ → Type 0)
      → RowShape (structs Spells left) (singular (λ item. given_to binary_in id item) B Means IsAbsent Wrong nothing_inside) top
  binary_shape id B Means IsAbsent Wrong = plain_shape (λ item. given_to binary_in id item) B Means IsAbsent Wrong (λ item. given_few binary_in binary_few id item)

  pub int_shape : (id : ℕ) (B : Type 0) (Means : ℤ → B → Type 0) (IsAbsent : B → Type 0) (Wrong : ℤ → ℕ → Type 0)
      → RowShape (structs Spells left) (singular (λ item. given_to i32_in id item) B Means IsAbsent Wrong nothing_inside) top
  int_shape id B Means IsAbsent Wrong = plain_shape (λ item. given_to i32_in id item) B Means IsAbsent Wrong (λ item. given_few i32_in i32_few id item)

  pub long_shape : (id : ℕ) (B : Type 0) (Means : ℤ → B → Type 0) (IsAbsent : B → Type 0) (Wrong : ℤ → ℕ → Type 0)
      → RowShape (structs Spells left) (singular (λ item. given_to i64_in id item) B Means IsAbsent Wrong nothing_inside) top
  long_shape id B Means IsAbsent Wrong = plain_shape (λ item. given_to i64_in id item) B Means IsAbsent Wrong (λ item. given_few i64_in i64_few id item)

  pub truth_shape : (id : ℕ) (B : Type 0) (Means : Bool → B → Type 0) (IsAbsent : B → Type 0) (Wrong : Bool → ℕ → Type 0)
      → RowShape (structs Spells left) (singular (λ item. given_to truth_in id item) B Means IsAbsent Wrong nothing_inside) top
  truth_shape id B Means IsAbsent Wrong = plain_shape (λ item. given_to truth_in id item) B Means IsAbsent Wrong (λ item. given_few truth_in truth_few id item)

  pub eight_shape : (id : ℕ) (B : Type 0) (Means : List ℕ → B → Type 0) (IsAbsent : B → Type 0) (Wrong : List ℕ → ℕ → Type 0)
      → RowShape (structs Spells left) (singular (λ item. given_to double_in id item) B Means IsAbsent Wrong nothing_inside) top
  eight_shape id B Means IsAbsent Wrong = plain_shape (λ item. given_to double_in id item) B Means IsAbsent Wrong (λ item. given_few double_in double_few id item)

-- ---- rows in which structs stand

pub struct_few : (tree : Tree) → IsFew (struct_in tree)
struct_few (leaf (truth_value b)) = inl refl
struct_few (leaf (i8 n)) = inl refl
struct_few (leaf (i16 n)) = inl refl
struct_few (leaf (i32 n)) = inl refl
struct_few (leaf (i64 n)) = inl refl
struct_few (leaf (double h)) = inl refl
struct_few (binary h) = inl refl
struct_few (struct_of inner) = inr (inner, refl)
struct_few (map_of pairs) = inl refl
struct_few (set_of trees) = inl refl
struct_few (list_of trees) = inl refl

pub list_few : (tree : Tree) → IsFew (list_in tree)
list_few (leaf (truth_value b)) = inl refl
list_few (leaf (i8 n)) = inl refl
list_few (leaf (i16 n)) = inl refl
list_few (leaf (i32 n)) = inl refl
list_few (leaf (i64 n)) = inl refl
list_few (leaf (double h)) = inl refl
list_few (binary h) = inl refl
list_few (struct_of inner) = inl refl
list_few (map_of pairs) = inl refl
list_few (set_of trees) = inl refl
list_few (list_of trees) = inr (trees, refl)

with_few : {A : Type 0} (text : List ℕ) (xs : List A) → IsFew xs → IsFew (with_text text xs)
with_few text [] few = inl refl
with_few text (x ∷ []) few = inr ((x, text), refl)
with_few text (x ∷ y ∷ more) (inl e) = cc
with_few text (x ∷ y ∷ more) (inr (z, e)) = cc

-- the text that is given is the field's
its_text : {A : Type 0} (text : List ℕ) (xs : List A) (x : A × List ℕ) → with_text text xs ≡ x ∷ [] → x.1 ≡ text
its_text text [] x e = cc
its_text {A} text (y ∷ more) x e = let same : (y, text) ≡ x = cc in sym (ap (λ (p : A × List ℕ). p.1) same)

module _ (Spells : Spelling) (laws : (m : ℕ) → FormatLaws (structs Spells m)) (outer top left : ℕ) (rules : Rules FieldItem) (kept : RulesLaws (structs Spells left) rules) where
  -- a stop byte stands behind what a field holds
  never_late : {G : Type 0} → HasBareEnd (structs Spells outer) → G
  never_late bare = absurd (omega (arith, (laws outer).end_room bare.0 bare.1, bare.2))

  pub structure_shape : (id : ℕ) (B : Type 0) (Means : Fields → B → Type 0) (IsAbsent : B → Type 0) → RowShape (structs Spells outer) (structure Spells left rules id B Means IsAbsent) top
  structure_shape id B Means IsAbsent = record {
    few = λ item. with_few item.text (given_to struct_in id item) (given_few struct_in struct_few id item);
    within = λ item x gives place n h.
        let same = its_text item.text (given_to struct_in id item) x gives in (
          omega (arith, offence_some Spells left (laws left) rules x.1 place n h),
          omega (arith, offence_within (structs Spells left) (laws left) rules kept (whole_struct x.1) place n h, ap length same),
        );
    late = λ bare item x gives place n h behind. never_late bare;
  }

  pub structures_shape : (id : ℕ) (B : Type 0) (Means : Trees → B → Type 0) (IsAbsent : B → Type 0) → RowShape (structs Spells outer) (structures Spells left rules id B Means IsAbsent) top
  structures_shape id B Means IsAbsent = record {
    few = λ item. with_few item.text (given_to list_in id item) (given_few list_in list_few id item);
    within = λ item x gives place n (head, bytes, begins, offends).
        let same = its_text item.text (given_to list_in id item) x gives in (
          omega (arith, elements_place Spells left (laws left) rules (length x.1) x.0 bytes place n offends, ap length begins.parts, length-append begins.text bytes),
          omega (arith, elements_within Spells left (laws left) rules kept (length x.1) x.0 bytes place n offends, ap length same),
        );
    late = λ bare item x gives place n h behind. never_late bare;
  }
