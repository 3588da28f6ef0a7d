-- A list, as a loop goes through its elements.
use Rattle.std.proofs.Common.{◌≡◌, List, [], ◌∷◌, ◌++◌, refl, sym, ap, subst, ◌∙◌, append_assoc}
use Rattle.std.proofs.lemmas.List.{append-nil}

-- some were passed, of which this holds, and these are left
pub record Passed {A : Type 0} (Holds : List A → Type 0) (all left : List A) : Type 0 where
  pub seen : List A
  pub split : all ≡ seen ++ left
  pub holds : Holds seen

module _ {A : Type 0} (Holds : List A → Type 0) (all : List A) where
  pub none_passed : Holds [] → Passed Holds all all
  none_passed h = record { seen = []; split = refl; holds = h }

  pub all_passed : (left : List A) → left ≡ [] → Passed Holds all left → Holds all
  all_passed left none before =
      subst Holds (sym (before.split ∙ (ap (λ l. before.seen ++ l) none ∙ append-nil before.seen))) before.holds

  module _ (left rest : List A) (x : A) (next : left ≡ x ∷ rest) (before : Passed Holds all left) where
    -- where it stands
    pub stands : all ≡ before.seen ++ x ∷ rest
    stands = before.split ∙ ap (λ l. before.seen ++ l) next

    pub passed_on : (Later : List A → Type 0) → Later (before.seen ++ x ∷ []) → Passed Later all rest
    passed_on Later h = record {
      seen = before.seen ++ x ∷ [];
      split = stands ∙ sym (append_assoc before.seen (x ∷ []) rest);
      holds = h;
    }
