-- How long texts are at the most: varints, records and lists of them.
use Rattle.std.proofs.Common.{ℕ, zero, suc, ◌+◌, ◌*◌, ◌/◌, ◌%◌, ◌≤◌, Bool, true, false, List, [], ◌∷◌, ◌++◌, length, All, arith}
use Rattle.std.specs.Prelude.{if◌then◌else◌, nat_lt}
use Rattle.std.specs.List.{flat_map}
use Rattle.std.proofs.lemmas.List.{length-append}
use Rattle.std.proofs.lemmas.List.Elements.{All-head, All-tail}
use Rattle.span_io.specs.Varint.{shortest_within, varint_text}
use Rattle.proto_wire.specs.Records.{bytes, varint}
use Rattle.proto_wire.specs.Wire.{record_text, key_of}

-- the bytes are at most so many
pub record IsWithin (most : ℕ) (bytes : List ℕ) : Type 0 where
  pub within : length bytes ≤ most

pub wider : {m : ℕ} {a : List ℕ} (n : ℕ) → IsWithin m a → m ≤ n → IsWithin n a
wider n h low = record { within = omega (arith, h.within) }

pub none : IsWithin 0 []
none = record { within = omega arith }

pub one_behind : {m n : ℕ} {a b : List ℕ} → IsWithin m a → IsWithin n b → IsWithin (m + n) (a ++ b)
one_behind {m} {n} {a} {b} first second = record { within = omega (arith, length-append a b, first.within, second.within) }

-- ---- varints

shortest_size : (room n : ℕ) → length (shortest_within room n) ≤ room + 1
unfolding shortest_within
shortest_size zero n = omega arith
shortest_size (suc room) n = by (nat_lt n 128) (shortest_size room (n / 128))
  where
    by : (low : Bool) → length (shortest_within room (n / 128)) ≤ room + 1 → length (if low then n ∷ [] else (128 + n % 128) ∷ shortest_within room (n / 128)) ≤ suc room + 1
    by true rest = omega arith
    by false rest = omega (arith, rest)

pub varint_size : (n : ℕ) → IsWithin 10 (varint_text n)
unfolding varint_text
varint_size n = record { within = shortest_size 9 n }

-- ---- records

pub number_size : (number n : ℕ) → IsWithin 20 (record_text (record { number = number; held = varint n }))
unfolding record_text
number_size number n = one_behind (varint_size (key_of (record { number = number; held = varint n }))) (varint_size n)

pub bytes_size : {m : ℕ} {held : List ℕ} (number : ℕ) → IsWithin m held → IsWithin (20 + m) (record_text (record { number = number; held = bytes held }))
unfolding record_text
bytes_size {m} {held} number h = wider (20 + m) (one_behind (varint_size (key_of (record { number = number; held = bytes held }))) (one_behind (varint_size (length held)) h)) (omega arith)

-- ---- lists

pub list_size : {A : Type 0} (text : A → List ℕ) (most : ℕ) (xs : List A) → All (λ x. IsWithin most (text x)) xs → IsWithin (most * length xs) (flat_map text xs)
list_size text most [] each = record { within = omega arith }
list_size {A} text most (x ∷ xs) each =
    wider (most * length (x ∷ xs)) (one_behind (All-head (λ (y : A). IsWithin most (text y)) x xs each) (list_size text most xs (All-tail (λ (y : A). IsWithin most (text y)) x xs each)))
    (times most (length xs))
  where
    times : (most n : ℕ) → most + most * n ≤ most * suc n
    times most n = grind arith
