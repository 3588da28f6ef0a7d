-- What contracts see of a cursor: its place, counted from the front of what it walks, and the bytes from there on.
use Rattle.std.specs.Prelude.{◌≡◌, ℕ, ◌+◌, List, drop, Result, Ok, Err}
use Rattle.span_io.specs.declared.cursor.Lack.{Lack}

-- how many bytes a cursor has passed, and the bytes that are still before it
pub record Walk : Type 0 where
  pub place : ℕ
  pub rest : List ℕ

-- n bytes further
abbrev pub further : Walk → ℕ → Walk
further w n = record { place = w.place + n; rest = drop n w.rest }

-- what a reader answered and left is what reading the rest gives
abbrev pub Gives : {A : Type 0} → Result A Lack → List ℕ → Result (A × List ℕ) Lack → Type 0
Gives (Ok x) rest read = read ≡ Ok (x, rest)
Gives (Err e) rest read = read ≡ Err e
