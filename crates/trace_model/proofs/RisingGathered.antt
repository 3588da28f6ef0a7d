-- Of pairs by falling key, where they rise the other way round, all are kept and none stands twice.
use Rattle.std.proofs.Common.{◌≡◌, ℕ, false, List, [], ◌∷◌, ◌++◌, refl, sym, ap, ◌∙◌, subst}
use Rattle.std.specs.Prelude.{reverse}
use Rattle.std.specs.Cmp.Lexicographic.{slice_cmp}
use Rattle.std.specs.List.{AllByRecursion}
use Rattle.std.specs.List.Sorted.{IsStrictlySortedBy}
use Rattle.std.specs.Ordering.{nat_cmp, is_eq}
use Rattle.std.specs.declared.cmp.Ordering.TheVariants.{Less}
use Rattle.std.proofs.lemmas.Grind.{reverse_onto}
use Rattle.std.proofs.lemmas.List.{map-append}
use Rattle.std.proofs.lemmas.Map.Text.{is_eq-slice_cmp}
use Rattle.trace_model.specs.Attributes.{Rise, keys}
use Rattle.trace_model.specs.private.Gathering.{ends_with}
use Rattle.trace_model.proofs.Gathered.{kept_of, repeated_of}

AreBelow : List ℕ → List (List ℕ) → Type 0
AreBelow key names = AllByRecursion (λ name. slice_cmp nat_cmp name key ≡ Less) names

parted : (P : List ℕ → Type 0) (names : List (List ℕ)) (key : List ℕ) → AllByRecursion P (names ++ key ∷ []) → AllByRecursion P names × P key
parted P [] key all = (tt, all.0)
parted P (name ∷ names) key all = let rest = parted P names key all.1 in ((all.0, rest.0), rest.1)

before_last : (names : List (List ℕ)) (key : List ℕ) → Rise (names ++ key ∷ []) → Rise names × AreBelow key names
unfolding IsStrictlySortedBy AreBelow
before_last [] key up = (tt, tt)
before_last (name ∷ names) key up =
    let here = parted (λ k. slice_cmp nat_cmp name k ≡ Less) names key up.0 in
    let rest = before_last names key up.1 in
    ((here.0, rest.0), (here.1, rest.1))

other_end : (names : List (List ℕ)) (key : List ℕ) → AreBelow key names → ends_with names key ≡ false
unfolding AreBelow
other_end [] key low = refl
other_end (name ∷ []) key low = sym (is_eq-slice_cmp name key) ∙ ap is_eq low.0
other_end (name ∷ next ∷ names) key low = other_end (next ∷ names) key low.1

module _ {V : Type 0} where
  pub all_kept : (pairs : List (List ℕ × V)) → Rise (keys (reverse pairs)) → (kept_of pairs ≡ reverse pairs) × (repeated_of pairs ≡ [])
  all_kept [] up = (refl, refl)
  all_kept (p ∷ pairs) up =
      let last : keys (reverse (p ∷ pairs)) ≡ keys (reverse pairs) ++ p.0 ∷ [] =
      ap keys (reverse_onto pairs p []) ∙ map-append (λ (pair : List ℕ × V). pair.0) (reverse pairs) (p ∷ []) in
      let front = before_last (keys (reverse pairs)) p.0 (subst Rise last up) in
      let rest = all_kept pairs front.0 in
      let apart : ends_with (keys (kept_of pairs)) p.0 ≡ false = ap (λ l. ends_with (keys l) p.0) rest.0 ∙ other_end (keys (reverse pairs)) p.0 front.1 in
      rw apart (ap (λ l. l ++ p ∷ []) rest.0 ∙ sym (reverse_onto pairs p []), rest.1)
