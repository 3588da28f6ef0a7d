-- What contracts see of a keeper: its rows, where they are told, how many it has room for, how many it holds, the number that the
-- next one gets, and how often it was refused.
use Rattle.std.specs.Prelude.{◌≡◌, ℕ, ◌+◌, ◌-◌, ◌<◌, ◌≤◌, List, [], ◌∷◌, length, Option, IfSome}
use Rattle.span_spool.specs.declared.kept.Kept.{Kept}

-- the bodies that are kept, where they are told, the oldest first; how many rows there is room for, how many are held,
-- the number that the next one gets, and how often the outside refused a call
pub record Spool : Type 0 where
  pub rows : Option (List Kept)
  pub room : ℕ
  pub held : ℕ
  pub next : ℕ
  pub faults : ℕ

-- The last number, with which no body is kept: what a signed integer of 64 bits tells.
abbrev pub last_number : ℕ
last_number = 9223372036854775807

-- the most rows that there may be room for
abbrev pub most_room : ℕ
most_room = 1000000

-- the numbers rise by one, from this one on
abbrev pub AreNumbered : ℕ → List Kept → Type 0
AreNumbered n [] = Unit {0}
AreNumbered n (row ∷ rows) = (row.number ≡ n) × AreNumbered (n + 1) rows

-- what holds of a spool at any time
pub record IsSpool (s : Spool) : Type 0 where
  pub within : s.held ≤ s.room
  pub below : s.held < s.next
  pub last : s.next ≤ last_number
  pub count : IfSome s.rows (λ rows. length rows ≡ s.held)
  pub numbered : IfSome s.rows (AreNumbered (s.next - s.held))

-- before any call: no row, and the first number is 1
pub record IsEmpty (s : Spool) : Type 0 where
  pub rows : IfSome s.rows (λ rows. rows ≡ [])
  pub held : s.held ≡ 0
  pub next : s.next ≡ 1
