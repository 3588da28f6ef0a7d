-- A number as a varint (proto3 wire format, "Base 128 Varints"): seven bits a byte, the low group first, the top bit on every byte
-- but the last, in one to ten bytes, the tenth of which is at most 1.
use Rattle.std.specs.Prelude.{◌≡◌, ℕ, zero, suc, ◌+◌, ◌-◌, ◌*◌, ◌/◌, ◌%◌, ◌<◌, ◌≤◌, List, [], ◌∷◌, ◌++◌, length, Result, Ok, Err, nat_lt, if◌then◌else◌}
use Rattle.std.specs.List.{AllByRecursion}
use Rattle.span_io.specs.declared.cursor.Lack.{Lack}
use Rattle.span_io.specs.declared.cursor.Lack.TheVariants.{Short, BadVarint}

-- what a byte that ends a varint is below, where so many bytes might have followed it
abbrev pub end_below : ℕ → ℕ
end_below zero = 2
end_below (suc room) = 128

-- the bytes spell n, in at most `room` of the ten bytes
unfoldable pub SpellsWithin : ℕ → List ℕ → ℕ → Type 0
SpellsWithin zero bytes n = ⊥
SpellsWithin (suc room) [] n = ⊥
SpellsWithin (suc room) (b ∷ []) n = (b < end_below room) × (n ≡ b)
SpellsWithin (suc room) (b ∷ c ∷ bytes) n =
    (128 ≤ b) × (high : ℕ) × (n + 128 ≡ b + 128 * high) × SpellsWithin room (c ∷ bytes) high

-- the bytes are a spelling of n
unfoldable pub SpellsVarint : List ℕ → ℕ → Type 0
SpellsVarint bytes n = SpellsWithin 10 bytes n

-- a spelling of n, and then rest
pub record BeginsVarint (n : ℕ) (bytes rest : List ℕ) : Type 0 where
  pub text : List ℕ
  pub spelled : SpellsVarint text n
  pub parts : bytes ≡ text ++ rest

-- the bytes end inside a varint: fewer than ten, all with the top bit
pub record IsInsideVarint (bytes : List ℕ) : Type 0 where
  pub short : length bytes < 10
  pub go_on : AllByRecursion (λ b. 128 ≤ b) bytes

-- ten bytes, of which nine have the top bit and the tenth is above 1
pub record IsOverlong (bytes : List ℕ) : Type 0 where
  pub front : List ℕ
  pub tenth : ℕ
  pub nine : length front ≡ 9
  pub go_on : AllByRecursion (λ b. 128 ≤ b) front
  pub above : 1 < tenth
  pub parts : bytes ≡ front ++ tenth ∷ []

-- such ten bytes, and then others
pub record BeginsOverlong (bytes : List ℕ) : Type 0 where
  pub text : List ℕ
  pub others : List ℕ
  pub overlong : IsOverlong text
  pub parts : bytes ≡ text ++ others

-- ---- the same as a computation: the number at the front and the bytes after it, or what is lacking

infixl 10 ◌>>=◌
-- one reading, and then another by what it gave; where the first lacks something, nothing more is read and that is the answer
abbrev pub ◌>>=◌ : {A B : Type 0} → Result A Lack → (A → Result B Lack) → Result B Lack
(Ok x) >>= f = f x
(Err e) >>= f = Err e

-- the number at the front, in at most `room` bytes of which the last possible one is at most 1, and the bytes behind it;
-- Short where the bytes end inside such a number, and BadVarint where they begin with none
unfoldable pub varint_within : ℕ → List ℕ → Result (ℕ × List ℕ) Lack
varint_within zero bytes = Err BadVarint
varint_within (suc room) [] = Err Short
varint_within (suc zero) (b ∷ rest) = if nat_lt b 2 then Ok (b, rest) else Err BadVarint
varint_within (suc (suc room)) (b ∷ rest) =
    if nat_lt b 128 then Ok (b, rest) else (varint_within (suc room) rest >>= λ high. Ok (b - 128 + 128 * high.0, high.1))

-- the number of the varint at the front, of at most ten bytes, and the bytes behind it, or what is lacking
unfoldable pub varint_at : List ℕ → Result (ℕ × List ℕ) Lack
varint_at bytes = varint_within 10 bytes

-- ---- writing

-- the shortest spelling, in at most `more` bytes and one
unfoldable pub shortest_within : ℕ → ℕ → List ℕ
shortest_within zero n = n ∷ []
shortest_within (suc more) n = if nat_lt n 128 then n ∷ [] else (128 + n % 128) ∷ shortest_within more (n / 128)

-- the shortest spelling of a number below 2 ^ 64
unfoldable pub varint_text : ℕ → List ℕ
varint_text n = shortest_within 9 n
