-- Two ways to cut one list, for the laws of frames.
use Rattle.std.proofs.Common.{◌≡◌, ◌≢◌, ◌<◌, ◌++◌, ◌∷◌, ◌⊎◌, inl, inr, List, [], length, refl, ap, sym, ◌∙◌, arith}
use Rattle.std.proofs.lemmas.List.{length-append, append-nil}
use Rattle.std.specs.List.{AllByRecursion}

-- the first list goes on in the second
pub record Longer {A : Type 0} (short long short_rest long_rest : List A) : Type 0 where
  pub between : List A
  pub front : long ≡ short ++ between
  pub rest : short_rest ≡ between ++ long_rest

-- of two cuts of one list one is behind the other
pub two_cuts : {A : Type 0} (a b c d : List A) → a ++ b ≡ c ++ d → Longer a c b d ⊎ Longer c a d b
two_cuts [] b c d e = inl (record { between = c; front = refl; rest = e })
two_cuts (x ∷ a) b [] d e = inr (record { between = x ∷ a; front = refl; rest = sym e })
two_cuts (x ∷ a) b (y ∷ c) d e =
    let tails : a ++ b ≡ c ++ d = cc in
    let heads : x ≡ y = cc in
    (elim (two_cuts a b c d tails) as (λ w. Longer (x ∷ a) (y ∷ c) b d ⊎ Longer (y ∷ c) (x ∷ a) d b) [
      | inl w ↦ inl (record { between = w.between; front = cc; rest = w.rest })
      | inr w ↦ inr (record { between = w.between; front = cc; rest = w.rest })
    ])

pub append_empty_right : {A : Type 0} (a b : List A) → a ++ b ≡ [] → b ≡ []
append_empty_right [] b e = e
append_empty_right (x ∷ a) b e = cc

pub append_empty_left : {A : Type 0} (a b : List A) → a ++ b ≡ [] → a ≡ []
append_empty_left [] b e = refl
append_empty_left (x ∷ a) b e = cc

pub some_length : {A : Type 0} (list : List A) → list ≢ [] → 0 < length list
some_length [] some = absurd (some refl)
some_length (x ∷ list) some = omega arith

-- a proper front is shorter
pub shorter_length : {A : Type 0} (list shorter more : List A) → list ≡ shorter ++ more → more ≢ [] → length shorter < length list
shorter_length list shorter more e some = omega (arith, ap length e, length-append shorter more, some_length more some)

-- a proper front of a list and one more is a front of the list
pub snoc_front : {A : Type 0} (front : List A) (x : A) (shorter more : List A) → front ++ x ∷ [] ≡ shorter ++ more → more ≢ [] → (between : List A) × (front ≡ shorter ++ between)
snoc_front front x shorter more e some = elim (two_cuts front (x ∷ []) shorter more e) [
  | inl w ↦ (w.between, front_is w.between w.front w.rest)
  | inr w ↦ (w.between, w.front)
]
  where
    front_is : (between : List _) → shorter ≡ front ++ between → x ∷ [] ≡ between ++ more → front ≡ shorter ++ between
    front_is [] e f = sym (append-nil shorter ∙ e ∙ append-nil front)
    front_is (y ∷ between) e f =
        let none : [] ≡ between ++ more = cc in
        absurd (some (append_empty_right between more (sym none)))

pub all_front : {A : Type 0} (P : A → Type 0) (a b : List A) → AllByRecursion P (a ++ b) → AllByRecursion P a
all_front P [] b h = tt
all_front P (x ∷ a) b h = (h.0, all_front P a b h.1)
