-- What all elements have, as a loop over them comes to it.
use Rattle.std.proofs.Common.{◌≡◌, ℕ, ◌+◌, ◌<◌, ◌≤◌, List, length, take, get_or, All, sym, subst}
use Rattle.std.proofs.lemmas.List.{take_more, take_all}
use Rattle.std.proofs.lemmas.List.Elements.{All-nil, All-push}

module _ {X : Type 0} (P : X → Type 0) (xs : List X) where
  pub all_start : All P (take 0 xs)
  all_start = All-nil P

  pub all_more : (i : ℕ) (x : X) → i < length xs → x ≡ get_or xs i x → All P (take i xs) → P x → All P (take (i + 1) xs)
  all_more i x lt is all here = subst (All P) (sym (take_more xs i x lt)) (All-push P (take i xs) (get_or xs i x) all (subst P is here))

  pub all_end : (i : ℕ) → length xs ≤ i → All P (take i xs) → All P xs
  all_end i le all = subst (All P) (take_all i xs le) all
