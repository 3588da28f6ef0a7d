-- What is known of varints.
use Rattle.std.specs.Prelude.{◌≡◌, ◌≢◌, ◌≤◌, ◌<◌, ◌^◌, ◌↔◌, ◌++◌, ℕ, List, [], length, All, Ok, Err}
use Rattle.span_io.specs.Varint.{SpellsVarint, BeginsVarint, IsInsideVarint, BeginsOverlong, varint_at, varint_text}
use Rattle.span_io.specs.declared.cursor.Lack.TheVariants as lacks

-- What stands at the front of some bytes: a spelling of one number, the inside of a varint, or ten bytes that are none.
pub record VarintLaws : Type 0 where
  pub read : (n : ℕ) (bytes rest : List ℕ) → BeginsVarint n bytes rest → varint_at bytes ≡ Ok (n, rest)
  pub found : (n : ℕ) (bytes rest : List ℕ) → varint_at bytes ≡ Ok (n, rest) → BeginsVarint n bytes rest
  pub short : (bytes : List ℕ) → (varint_at bytes ≡ Err lacks.Short) ↔ IsInsideVarint bytes
  pub bad : (bytes : List ℕ) → (varint_at bytes ≡ Err lacks.BadVarint) ↔ BeginsOverlong bytes
  -- a spelling isn't empty, and no byte of it is missing: its proper fronts end inside a varint
  pub fronts : (n : ℕ) (front more : List ℕ) → SpellsVarint (front ++ more) n → more ≢ [] → IsInsideVarint front

-- Each number below 2 ^ 64 has one shortest spelling, which is the one that is written.
pub record ShortestLaws : Type 0 where
  pub spelled : (n : ℕ) → n < 2 ^ 64 → SpellsVarint (varint_text n) n
  pub shortest : (n : ℕ) (text : List ℕ) → All (λ b. b < 256) text → SpellsVarint text n → length (varint_text n) ≤ length text
  pub only : (n : ℕ) (text : List ℕ) → All (λ b. b < 256) text → SpellsVarint text n → length text ≤ length (varint_text n)
      → text ≡ varint_text n
