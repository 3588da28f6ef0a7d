-- Rows with rising numbers, and which of them a list of numbers leaves.
use Rattle.std.proofs.Common.{◌≡◌, ℕ, ◌+◌, ◌<◌, ◌≤◌, ◌==◌, true, false, List, [], ◌∷◌, ◌++◌, length, drop, refl, suc, zero, ap, ◌∙◌, arith, ◌||◌}
use Rattle.std.proofs.lemmas.Bool.Decides.{nat_tests}
use Rattle.std.specs.List.{filter, list_any, range_with_len}
use Rattle.span_spool.specs.Orders.{is_not_among}
use Rattle.span_spool.specs.Spools.{AreNumbered}
use Rattle.span_spool.specs.declared.kept.Kept.{Kept}

-- a row more, with the number behind the last one's
pub numbered_more : (n : ℕ) (rows : List Kept) (row : Kept) → AreNumbered n rows → row.number ≡ n + length rows → AreNumbered n (rows ++ row ∷ [])
numbered_more n [] row h e = (e ∙ omega arith, tt)
numbered_more n (first ∷ rows) row h e = (h.0, numbered_more (n + 1) rows row h.1 (e ∙ omega arith))

-- without the first ones
pub numbered_drop : (n k : ℕ) (rows : List Kept) → AreNumbered n rows → AreNumbered (n + k) (drop k rows)
numbered_drop n zero rows h = let e : n + 0 ≡ n = omega arith in rw e h
numbered_drop n (suc k) [] h = tt
numbered_drop n (suc k) (row ∷ rows) h = let e : n + suc k ≡ n + 1 + k = omega arith in rw e (numbered_drop (n + 1) k rows h.1)

-- a number below those of a range, or above them, is none of them
none_below : (x n k : ℕ) → x < n → list_any (λ y. y == x) (range_with_len n k) ≡ false
none_below x n zero h = refl
none_below x n (suc k) h =
    let e : (n == x) ≡ false = grind (arith, nat_tests) in
    rw e (none_below x (n + 1) k (omega arith))

none_above : (x n k : ℕ) → n + k ≤ x → list_any (λ y. y == x) (range_with_len n k) ≡ false
none_above x n zero h = refl
none_above x n (suc k) h =
    let e : (n == x) ≡ false = grind (arith, nat_tests) in
    rw e (none_above x (n + 1) k (omega arith))

one_within : (x n k : ℕ) → n ≤ x → x < n + k → list_any (λ y. y == x) (range_with_len n k) ≡ true
one_within x n zero l h = absurd (omega arith)
one_within x n (suc k) l h =
    elim (n == x) as (λ b. (n == x) ≡ b → (b || list_any (λ y. y == x) (range_with_len (n + 1) k)) ≡ true) [
      | true ↦ λ e. refl
      | false ↦ λ e. one_within x (n + 1) k (grind (arith, nat_tests)) (omega arith)
    ] refl

-- rows above a range all stay
all_stay : (n k m : ℕ) (rows : List Kept) → AreNumbered m rows → n + k ≤ m → filter (is_not_among (range_with_len n k)) rows ≡ rows
all_stay n k m [] h l = refl
all_stay n k m (row ∷ rows) h l =
    let e : list_any (λ y. y == row.number) (range_with_len n k) ≡ false = none_above row.number n k (rw h.0 l) in
    rw e (ap (λ others. row ∷ others) (all_stay n k (m + 1) rows h.1 (omega arith)))

-- of rows from inside a range on, those stay that are above it
rest_stays : (d n k m : ℕ) (rows : List Kept) → AreNumbered m rows → n ≤ m → m + d ≡ n + k → filter (is_not_among (range_with_len n k)) rows ≡ drop d rows
rest_stays zero n k m rows h l e = all_stay n k m rows h (omega arith)
rest_stays (suc d) n k m [] h l e = refl
rest_stays (suc d) n k m (row ∷ rows) h l e =
    let within : list_any (λ y. y == row.number) (range_with_len n k) ≡ true = one_within row.number n k (rw h.0 l) (rw h.0 (omega arith)) in
    rw within (rest_stays d n k (m + 1) rows h.1 (omega arith) (omega arith))

-- without the first numbers the rows begin behind them
pub left_rows : (k : ℕ) (rows : List Kept) → AreNumbered 1 rows → filter (is_not_among (range_with_len 1 k)) rows ≡ drop k rows
left_rows k rows h = rest_stays k 1 k 1 rows h (omega arith) (omega arith)

-- one number more of a range
pub range_more : (n k : ℕ) → range_with_len n (k + 1) ≡ range_with_len n k ++ (n + k) ∷ []
range_more n zero = let e : n + 0 ≡ n = omega arith in rw e refl
range_more n (suc k) =
    let e : n + suc k ≡ n + 1 + k = omega arith in
    let s : suc k + 1 ≡ suc (k + 1) = omega arith in
    rw s (rw e (ap (λ l. n ∷ l) (range_more (n + 1) k)))
