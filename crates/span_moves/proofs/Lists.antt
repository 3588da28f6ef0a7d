-- Lists that are taken to others member by member.
use Rattle.std.proofs.Common.{◌≡◌, List, [], ◌∷◌, map, get_or, All, refl, ⊎_elim}
use Rattle.std.specs.Prelude.{Any}
use Rattle.std.proofs.lemmas.List.{get_or_default}
use Rattle.span_tags.proofs.LeastRows.{any_none, any_here, any_behind, any_cases}

-- what stays of each member, stays of the list
pub third_stays : {A B C D : Type 0} → (f : C → D) (g : B → C) (h : A → B) (k : B → D) → ((x : A) → f (g (h x)) ≡ k (h x)) → (xs : List A)
    → map f (map g (map h xs)) ≡ map k (map h xs)
third_stays f g h k each [] = refl
third_stays f g h k each (x ∷ xs) =
    let rest : map f (map g (map h xs)) ≡ map k (map h xs) = third_stays f g h k each xs in
    λ i. each x i ∷ rest i

module _ {A B : Type 0} (P : B → Type 0) (Q : A → Type 0) (f : A → B) where
  -- what one of the others is, one of these was
  pub any_back : ((x : A) → P (f x) → Q x) → (xs : List A) → Any P (map f xs) → Any Q xs
  any_back each [] any = absurd (any_none P any)
  any_back each (x ∷ xs) any = ⊎_elim
      (λ (here : P (f x)). any_here Q x xs (each x here))
      (λ (behind : Any P (map f xs)). any_behind Q x xs (any_back each xs behind))
      (any_cases P (f x) (map f xs) any)

-- where none is such, each isn't
pub none_of : {A : Type 0} → (P : A → Type 0) (xs : List A) → (Any P xs → ⊥) → All (λ x. P x → ⊥) xs
none_of P xs never k d lt here = never (k, get_or xs k d, lt, get_or_default xs k (get_or xs k d) d lt, here)
