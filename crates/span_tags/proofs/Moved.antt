-- Lists whose members are moved out one after the other.
use Rattle.std.proofs.Common.{◌≡◌, Bool, true, false, ◌||◌, List, [], ◌∷◌, ◌++◌, length, map, All, refl, sym, ap, subst, ◌∙◌, append_assoc, arith}
use Rattle.std.specs.List.{list_any}
use Rattle.std.proofs.lemmas.List.Elements.{All-tail}

pub none_left : {A : Type 0} (xs : List A) → length xs ≡ 0 → xs ≡ []
none_left [] none = refl
none_left (x ∷ xs) none = absurd (omega (arith, none))

-- what one more gives is added
pub one_more : {A B : Type 0} (f : A → B) (whole out new : List B) (x : A) (y : B) (left rest : List A) → left ≡ x ∷ rest → y ≡ f x → new ≡ out ++ y ∷ []
    → out ++ map f left ≡ whole → new ++ map f rest ≡ whole
one_more f whole out new x y left rest split is added so_far =
    added_is ∙ (append_assoc out (f x ∷ []) (map f rest) ∙ (ap (λ l. out ++ map f l) (sym split) ∙ so_far))
  where
    added_is : new ++ map f rest ≡ (out ++ f x ∷ []) ++ map f rest
    added_is = ap (λ l. l ++ map f rest) (added ∙ ap (λ z. out ++ z ∷ []) is)

pub one_more_of : {A B C : Type 0} (g : A → B) (f : B → C) (whole out new : List C) (x : A) (y : C) (left rest : List A) → left ≡ x ∷ rest → y ≡ f (g x)
    → new ≡ out ++ y ∷ [] → out ++ map f (map g left) ≡ whole → new ++ map f (map g rest) ≡ whole
one_more_of g f whole out new x y left rest split is added so_far =
    one_more f whole out new (g x) y (map g left) (map g rest) (ap (map g) split) is added so_far

-- what several more give is added
pub several_more : {B : Type 0} (whole out new some more before : List B) → before ≡ some ++ more → new ≡ out ++ some → out ++ before ≡ whole → new ++ more ≡ whole
several_more whole out new some more before split added so_far =
    ap (λ l. l ++ more) added ∙ (append_assoc out some more ∙ (ap (λ l. out ++ l) (sym split) ∙ so_far))

right_false : (a b : Bool) → (a || b) ≡ false → b ≡ false
right_false true b e = absurd (cc)
right_false false b e = e

pub still_none : {A : Type 0} (test : A → Bool) (x : A) (left rest : List A) → left ≡ x ∷ rest → list_any test left ≡ false → list_any test rest ≡ false
still_none test x left rest split none = right_false (test x) (list_any test rest) (ap (list_any test) (sym split) ∙ none)

pub still_all : {A : Type 0} (P : A → Type 0) (x : A) (left rest : List A) → left ≡ x ∷ rest → All P left → All P rest
still_all P x left rest split all = All-tail P x rest (subst (All P) split all)
