-- Where a head ends, in bytes and in more of them.
use Rattle.std.proofs.Common.{◌≡◌, ℕ, ◌+◌, ◌<◌, ◌≤◌, List, [], ◌∷◌, ◌++◌, zero, suc, length, take, drop, refl, sym, ap, subst, ◌∙◌, arith}
use Rattle.std.specs.Prelude.{Bool, true, false, nat_lt}
use Rattle.std.proofs.lemmas.Bool.Decides.{nat_tests}
use Rattle.std.proofs.lemmas.List.{length-take, length-drop, take-append-drop, take-append-le, drop-append-le}
use Rattle.http_conn.specs.Heads.{EndsAt, EndsFirstAt}

pub ends_fit : (bytes : List ℕ) (place : ℕ) → EndsAt bytes place → place + 4 ≤ length bytes
ends_fit bytes place e = omega (arith, ap length e, length-take 4 (drop place bytes), length-drop place bytes)

same_end : (bytes more : List ℕ) (place : ℕ) → place + 4 ≤ length bytes → take 4 (drop place (bytes ++ more)) ≡ take 4 (drop place bytes)
same_end bytes more place fits =
    ap (take 4) (drop-append-le place bytes more (omega arith))
    ∙ take-append-le 4 (drop place bytes) more (omega (arith, length-drop place bytes))

pub ends_more : (bytes more : List ℕ) (place : ℕ) → EndsAt bytes place → EndsAt (bytes ++ more) place
ends_more bytes more place e = same_end bytes more place (ends_fit bytes place e) ∙ e

pub ends_less : (bytes more : List ℕ) (place : ℕ) → place + 4 ≤ length bytes → EndsAt (bytes ++ more) place → EndsAt bytes place
ends_less bytes more place fits e = sym (same_end bytes more place fits) ∙ e

-- the first end stays the first
pub first_more : (bytes more : List ℕ) (place : ℕ) → EndsFirstAt bytes place → EndsFirstAt (bytes ++ more) place
first_more bytes more place h =
    let fits : place + 4 ≤ length bytes = ends_fit bytes place h.ends in
    record {
      ends = ends_more bytes more place h.ends;
      first = λ k before e. h.first k before (ends_less bytes more k (omega arith) e);
    }

pub below : (n l : ℕ) → nat_lt n l ≡ true → n < l
below n l e = grind (arith, nat_tests)

pub at_most : (n l : ℕ) → nat_lt n l ≡ false → l ≤ n
at_most n l e = grind (arith, nat_tests)

not_before : (p q : ℕ) (b : Bool) → b ≡ nat_lt p q → ¬ (p < q) → q ≤ p
not_before p q true t h = absurd (h (below p q (sym t)))
not_before p q false t h = at_most p q (sym t)

same_place : (p q : ℕ) → ¬ (p < q) → ¬ (q < p) → p ≡ q
same_place p q a b =
    let above : q ≤ p = not_before p q (nat_lt p q) refl a in
    let under : p ≤ q = not_before q p (nat_lt q p) refl b in
    omega arith

pub first_once : (bytes : List ℕ) (p q : ℕ) → EndsFirstAt bytes p → EndsFirstAt bytes q → p ≡ q
first_once bytes p q a b = same_place p q (λ lt. b.first p lt a.ends) (λ lt. a.first q lt b.ends)

-- ---- in the first n bytes

pub window_more : (n : ℕ) (bytes more : List ℕ) → (others : List ℕ) × (take n (bytes ++ more) ≡ take n bytes ++ others)
window_more zero bytes more = ([], refl)
window_more (suc n) [] more = (take (suc n) more, refl)
window_more (suc n) (b ∷ bytes) more = let w = window_more n bytes more in (w.0, ap (λ l. b ∷ l) w.1)

pub first_in_window : (n : ℕ) (bytes more : List ℕ) (place : ℕ) → EndsFirstAt (take n bytes) place → EndsFirstAt (take n (bytes ++ more)) place
first_in_window n bytes more place h =
    let w = window_more n bytes more in
    subst (λ l. EndsFirstAt l place) (sym w.1) (first_more (take n bytes) w.0 place h)

-- the head lies in the bytes
pub window_fits : (n : ℕ) (bytes : List ℕ) (place : ℕ) → EndsAt (take n bytes) place → place + 4 ≤ length bytes
window_fits n bytes place e = omega (arith, ends_fit (take n bytes) place e, length-take n bytes)

-- and in as many as a head may have
window_most : (n : ℕ) (bytes : List ℕ) (place : ℕ) → EndsAt (take n bytes) place → place + 4 ≤ n
window_most n bytes place e = omega (arith, ends_fit (take n bytes) place e, length-take n bytes)

-- an end in a window is one in the bytes
pub ends_outside : (n : ℕ) (bytes : List ℕ) (place : ℕ) → EndsAt (take n bytes) place → EndsAt bytes place
ends_outside n bytes place e =
    subst (λ l. EndsAt l place) (take-append-drop n bytes) (ends_more (take n bytes) (drop n bytes) place e)

-- a head is as long as a head may be, at most
pub head_short : (n : ℕ) (bytes window head : List ℕ) (place : ℕ) → window ≡ take n bytes → head ≡ take (place + 4) bytes
    → EndsFirstAt window place → length head ≤ n
head_short n bytes window head place w h ends =
    let most : place + 4 ≤ n = window_most n bytes place (subst (λ l. EndsAt l place) w ends.ends) in
    omega (arith, ap length h, length-take (place + 4) bytes)
