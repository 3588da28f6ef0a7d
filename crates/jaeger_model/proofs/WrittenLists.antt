-- What is written of a list of structs, up to one of them.
use Rattle.std.proofs.Common.{◌≡◌, ℕ, pred, SFits, w16, to_z, of_z, arith, ℤ, pos, ◌+◌, ◌<◌, List, [], ◌∷◌, ◌++◌, length, take, drop, get_or, All, Option, None, Bool, false, ◌==◌, Result, refl, sym, ap, subst, ◌∙◌, append_assoc}
use Rattle.std.proofs.lemmas.Int.{to_z-of_z}
use Rattle.std.proofs.lemmas.List.{append-nil, take_more, take-append-drop, drop_more}
use Rattle.std.proofs.lemmas.List.Elements.{All-nil, All-cons}
use Rattle.std.specs.Prelude.{⊤}
use Rattle.span_io.specs.Outside.{GrowsFront}
use Rattle.thrift_core.specs.declared.type_code.TypeCode.TheVariants as kinds
use Rattle.thrift_core.specs.Parts.{list_head}
use Rattle.thrift_core.specs.Protocols.{WritingOf, list_of_type}
use Rattle.thrift_core.specs.Trees.{structure, tree_count}
use Rattle.thrift_core.specs.Written.{Keeping, FieldRow, fields_of_rows, fields_written, value_written, elements_written, struct_trees}
use Rattle.thrift_core.specs.private.WrittenParts.{rows_written, field_written}
use Rattle.thrift_core.proofs.WrittenLaws.{struct_count, struct_type}
use Rattle.jaeger_model.specs.Canonical.{list_tree, filled_list}
use Rattle.jaeger_model.specs.private.Growing.{GrowsBy}
use Rattle.jaeger_model.proofs.Growth.{front_behind, stop, seq, ended}

module _ {A : Type 0} (keeps : Keeping) (writes : WritingOf) (rows : A → List FieldRow) (left : ℕ) where
  abbrev pub elements : List A → List ℕ
  elements xs = elements_written keeps writes (struct_trees rows xs) left

  abbrev pub element : A → List ℕ
  element x = fields_written keeps writes (fields_of_rows (rows x)) (pred left) (pos 0)

  elements_behind : (a b : List A) → elements (a ++ b) ≡ elements a ++ elements b
  unfolding elements_written struct_trees
  elements_behind [] b = refl
  elements_behind (x ∷ a) b =
      let one = value_written keeps writes (structure (fields_of_rows (rows x))) left None in
      ap (λ l. one ++ l) (elements_behind a b) ∙ sym (append_assoc one (elements a) (elements b))

  elements_one : (x : A) (more : List A) → elements (x ∷ more) ≡ element x ++ elements more
  unfolding elements_written struct_trees value_written
  elements_one x more = refl

  elements_none : elements [] ≡ []
  unfolding elements_written struct_trees
  elements_none = refl

  pub elements_start : (old : List ℕ) (xs : List A) → old ≡ old ++ elements (take 0 xs)
  elements_start old xs = sym (append-nil old) ∙ ap (λ l. old ++ l) (sym elements_none)

  module _ (xs : List A) (i : ℕ) (x : A) (within : i < length xs) (here : x ≡ get_or xs i x) where
    elements_more : elements (take (i + 1) xs) ≡ elements (take i xs) ++ element x
    elements_more =
        ap (λ l. elements l) (take_more xs i x within ∙ ap (λ w. take i xs ++ w ∷ []) (sym here))
        ∙ elements_behind (take i xs) (x ∷ [])
        ∙ ap (λ l. elements (take i xs) ++ l) (elements_one x [] ∙ ap (λ l. element x ++ l) elements_none ∙ append-nil (element x))

    elements_all : elements xs ≡ elements (take i xs) ++ (element x ++ elements (drop (i + 1) xs))
    elements_all =
        ap (λ l. elements l) (sym (take-append-drop i xs) ∙ ap (λ l. take i xs ++ l) (drop_more xs i x within ∙ ap (λ w. w ∷ drop (i + 1) xs) (sym here)))
        ∙ elements_behind (take i xs) (x ∷ drop (i + 1) xs)
        ∙ ap (λ l. elements (take i xs) ++ l) (elements_one x (drop (i + 1) xs))

    pub elements_go_on : (old out new : List ℕ) → out ≡ old ++ elements (take i xs) → new ≡ out ++ element x → new ≡ old ++ elements (take (i + 1) xs)
    elements_go_on old out new so_far e =
        e ∙ ap (λ l. l ++ element x) so_far ∙ append_assoc old (elements (take i xs)) (element x) ∙ ap (λ l. old ++ l) (sym elements_more)

    pub elements_stop : (old out new : List ℕ) → out ≡ old ++ elements (take i xs) → GrowsFront out new (element x) → GrowsFront old new (elements xs)
    elements_stop old out new so_far h =
        subst (λ l. GrowsFront old new l) (sym elements_all)
        (front_behind old out new (elements (take i xs)) (element x ++ elements (drop (i + 1) xs)) so_far (stop out new (element x) (elements (drop (i + 1) xs)) h))

-- ---- a field that holds the list

module _ {A : Type 0} (keeps : Keeping) (writes : WritingOf) (rows : A → List FieldRow) (xs : List A) (left : ℕ) where
  abbrev list_start : List ℕ
  list_start = writes (list_head (pred left)) (list_of_type kinds.Struct (length xs))

  list_value : (held : Option Bool) → value_written keeps writes (list_tree rows xs) left held ≡ list_start ++ elements_written keeps writes (struct_trees rows xs) (pred left)
  unfolding value_written
  list_value held =
      ap (λ kind. writes (list_head (pred left)) (list_of_type kind (tree_count (struct_trees rows xs))) ++ elements_written keeps writes (struct_trees rows xs) (pred left)) (struct_type rows xs)
      ∙ ap (λ many. writes (list_head (pred left)) (list_of_type kinds.Struct many) ++ elements_written keeps writes (struct_trees rows xs) (pred left)) (struct_count rows xs)

  pub list_front : (held : Option Bool) (old new : List ℕ) → GrowsFront old new list_start → GrowsFront old new (value_written keeps writes (list_tree rows xs) left held)
  list_front held old new h = subst (λ l. GrowsFront old new l) (sym (list_value held)) (stop old new list_start (elements_written keeps writes (struct_trees rows xs) (pred left)) h)

  pub list_seq : {T E : Type 0} (held : Option Bool) (r : Result T E) (old middle new : List ℕ) → middle ≡ old ++ list_start → GrowsBy r middle new (elements_written keeps writes (struct_trees rows xs) (pred left))
      → GrowsBy r old new (value_written keeps writes (list_tree rows xs) left held)
  list_seq held r old middle new e h =
      subst (λ l. GrowsBy r old new l) (sym (list_value held)) (seq r old middle new list_start (elements_written keeps writes (struct_trees rows xs) (pred left)) e h)

module _ {A : Type 0} (keeps : Keeping) (writes : WritingOf) (id : ℤ) (rows : A → List FieldRow) (left : ℕ) (last : ℤ) where
  pub filled_none : (xs : List A) → length xs ≡ 0 → (old : List ℕ) → old ≡ old ++ rows_written keeps writes (filled_list id rows xs) left last
  unfolding rows_written
  filled_none [] e old = sym (append-nil old)
  filled_none (x ∷ xs) e old = absurd (omega arith)

  pub filled_there : {T E : Type 0} (r : Result T E) (xs : List A) → (length xs == 0) ≡ false → SFits w16 last → SFits w16 id → (old new : List ℕ)
      → GrowsBy r old new (field_written keeps writes (to_z w16 (of_z w16 id)) (list_tree rows xs) left (to_z w16 (of_z w16 last)))
      → GrowsBy r old new (rows_written keeps writes (filled_list id rows xs) left last)
  unfolding rows_written
  filled_there r [] e l i old new h = cc
  filled_there r (x ∷ xs) e l i old new h =
      let at_last = subst (λ z. GrowsBy r old new (field_written keeps writes (to_z w16 (of_z w16 id)) (list_tree rows (x ∷ xs)) left z)) (to_z-of_z w16 last l) h in
      let at_id = subst (λ z. GrowsBy r old new (field_written keeps writes z (list_tree rows (x ∷ xs)) left last)) (to_z-of_z w16 id i) at_last in
      ended r old new (field_written keeps writes id (list_tree rows (x ∷ xs)) left last) at_id

  -- other fields behind the list

  skipped : (xs : List A) (more : List FieldRow) → length xs ≡ 0 → rows_written keeps writes (filled_list id rows xs ++ more) left last ≡ rows_written keeps writes more left last
  skipped [] more e = refl
  skipped (x ∷ xs) more e = absurd (omega arith)

  there : (xs : List A) (more : List FieldRow) → (length xs == 0) ≡ false
      → rows_written keeps writes (filled_list id rows xs ++ more) left last ≡ field_written keeps writes id (list_tree rows xs) left last ++ rows_written keeps writes more left id
  unfolding rows_written
  there [] more e = cc
  there (x ∷ xs) more e = refl

  pub skip_then : {T E : Type 0} (r : Result T E) (xs : List A) (more : List FieldRow) → length xs ≡ 0 → (old new : List ℕ) → GrowsBy r old new (rows_written keeps writes more left last)
      → GrowsBy r old new (rows_written keeps writes (filled_list id rows xs ++ more) left last)
  skip_then r xs more e old new h = subst (λ l. GrowsBy r old new l) (sym (skipped xs more e)) h

  pub list_then : {T E : Type 0} (r : Result T E) (xs : List A) (more : List FieldRow) → (length xs == 0) ≡ false → (old middle new : List ℕ)
      → middle ≡ old ++ field_written keeps writes id (list_tree rows xs) left last → GrowsBy r middle new (rows_written keeps writes more left id)
      → GrowsBy r old new (rows_written keeps writes (filled_list id rows xs ++ more) left last)
  list_then r xs more e old middle new first h =
      subst (λ l. GrowsBy r old new l) (sym (there xs more e)) (seq r old middle new (field_written keeps writes id (list_tree rows xs) left last) (rows_written keeps writes more left id) first h)

  pub list_cut : (xs : List A) (more : List FieldRow) → (length xs == 0) ≡ false → (old new : List ℕ) → GrowsFront old new (field_written keeps writes id (list_tree rows xs) left last)
      → GrowsFront old new (rows_written keeps writes (filled_list id rows xs ++ more) left last)
  list_cut xs more e old new h =
      subst (λ l. GrowsFront old new l) (sym (there xs more e)) (stop old new (field_written keeps writes id (list_tree rows xs) left last) (rows_written keeps writes more left id) h)

-- nothing is asked of some
pub all_any : {A : Type 0} (xs : List A) → All (λ (x : A). ⊤) xs
all_any [] = All-nil (λ x. ⊤)
all_any (x ∷ xs) = All-cons (λ x. ⊤) x xs tt (all_any xs)
