-- What records hold lies in the range of its type, where their bytes are below 256.
use Rattle.std.proofs.Common.{◌≡◌, ℕ, zero, suc, ◌+◌, ◌-◌, ◌*◌, ◌^◌, ◌<◌, ◌≤◌, inl, inr, ◌++◌, ◌∷◌, List, [], length, All, slice_index, Bool, true, false, refl, sym, ◌∙◌, subst, arith}
use Rattle.std.specs.Prelude.{◌≢◌, ◌==◌, if◌then◌else◌, Any}
use Rattle.std.proofs.Math.Nat as nat
use Rattle.std.specs.List.{AllByRecursion, flat_map}
use Rattle.std.specs.Int.{w32, w64, w128, sum_through, byte_worth, from_le_bytes, from_be_bytes}
use Rattle.std.proofs.lemmas.Bool.{cases_lt}
use Rattle.std.proofs.lemmas.List.{get_or_default}
use Rattle.std.proofs.lemmas.List.Elements.{All-nil, All-cons, All-head, All-tail}
use Rattle.span_io.specs.Varint.{SpellsWithin, SpellsVarint}
use Rattle.proto_wire.specs.Records.{Held, varint, fixed64, bytes, fixed32, Record}
use Rattle.proto_wire.specs.Wire.{SpellsHeld, SpellsRecord, Wire}
use Rattle.otlp_proto.specs.Rows.{bytes_in, fixed64_in, fixed32_in, bytes_of, fixed64s_of, fixed32s_of}

abbrev pub AreBytes : List ℕ → Type 0
AreBytes text = All (λ b. b < 256) text

first_bytes : (front behind : List ℕ) → AreBytes (front ++ behind) → AreBytes front
first_bytes [] behind all = All-nil (λ b. b < 256)
first_bytes (x ∷ front) behind all = All-cons (λ b. b < 256) x front (All-head (λ b. b < 256) x (front ++ behind) all) (first_bytes front behind (All-tail (λ b. b < 256) x (front ++ behind) all))

last_bytes : (front behind : List ℕ) → AreBytes (front ++ behind) → AreBytes behind
last_bytes [] behind all = all
last_bytes (x ∷ front) behind all = last_bytes front behind (All-tail (λ b. b < 256) x (front ++ behind) all)

-- ---- numbers of bytes

byte_below : (text : List ℕ) (size : ℕ) → length text ≡ size → AreBytes text → (i : ℕ) → i < size → slice_index text i < 256
byte_below text size long all i lt = all i 0 (omega (arith, lt, long))

pub four_below : (text : List ℕ) → length text ≡ 4 → AreBytes text → from_le_bytes w32 text < 2 ^ 32
four_below text long all =
    let b = byte_below text 4 long all in
    omega (arith, b 0 (omega arith), b 1 (omega arith), b 2 (omega arith), b 3 (omega arith))

pub eight_below : (text : List ℕ) → length text ≡ 8 → AreBytes text → from_le_bytes w64 text < 2 ^ 64
eight_below text long all =
    let b = byte_below text 8 long all in
    omega (arith, b 0 (omega arith), b 1 (omega arith), b 2 (omega arith), b 3 (omega arith), b 4 (omega arith), b 5 (omega arith), b 6 (omega arith), b 7 (omega arith))

pub span_below : (text : List ℕ) → length text ≡ 8 → AreBytes text → from_be_bytes w64 text < 2 ^ 64
span_below text long all =
    let b = byte_below text 8 long all in
    omega (arith, b 0 (omega arith), b 1 (omega arith), b 2 (omega arith), b 3 (omega arith), b 4 (omega arith), b 5 (omega arith), b 6 (omega arith), b 7 (omega arith))

pub trace_below : (text : List ℕ) → length text ≡ 16 → AreBytes text → from_be_bytes w128 text < 2 ^ 128
trace_below text long all =
    let b = byte_below text 16 long all in
    omega (
      arith,
      b 0 (omega arith),
      b 1 (omega arith),
      b 2 (omega arith),
      b 3 (omega arith),
      b 4 (omega arith),
      b 5 (omega arith),
      b 6 (omega arith),
      b 7 (omega arith),
      b 8 (omega arith),
      b 9 (omega arith),
      b 10 (omega arith),
      b 11 (omega arith),
      b 12 (omega arith),
      b 13 (omega arith),
      b 14 (omega arith),
      b 15 (omega arith),
    )

-- a sum with a part above zero is above zero
sum_above : (f : ℕ → ℕ) (k i : ℕ) → i ≤ k → 0 < f i → 0 < sum_through f k
sum_above f zero i within above = subst (λ n. 0 < f n) (let e : i ≡ 0 = omega (arith, within) in e) above
sum_above f (suc k) i within above = elim (cases_lt i (suc k)) as (λ w. 0 < sum_through f (suc k)) [
  | inl earlier ↦ omega (arith, sum_above f k i (omega (arith, earlier)) above)
  | inr last ↦ omega (arith, subst (λ n. 0 < f n) (let e : i ≡ suc k = omega (arith, last, within) in e) above)
]

power_above : (k : ℕ) → 0 < 256 ^ k
power_above zero = omega arith
power_above (suc k) = omega (arith, nat.pow-suc 256 k, power_above k)

worth_above : (i b : ℕ) → 0 < b → 0 < byte_worth i b
worth_above zero b above = above
worth_above (suc i) b above = nat.mul-pos above (power_above (suc i))

not_zero : (text : List ℕ) (some : Any (λ b. b ≢ 0) text) → 0 < slice_index text some.0
not_zero text some = above (slice_index text some.0) (λ e. some.4 (sym some.3 ∙ get_or_default text some.0 some.1 0 some.2 ∙ e))
  where
    above : (n : ℕ) → n ≢ 0 → 0 < n
    above zero h = absurd (h refl)
    above (suc n) h = omega arith

pub span_above : (text : List ℕ) → length text ≡ 8 → Any (λ b. b ≢ 0) text → 0 < from_be_bytes w64 text
span_above text long some = sum_above (λ i. byte_worth (7 - i) (slice_index text i)) 7 some.0 (omega (arith, long, some.2)) (worth_above (7 - some.0) (slice_index text some.0) (not_zero text some))

pub trace_above : (text : List ℕ) → length text ≡ 16 → Any (λ b. b ≢ 0) text → 0 < from_be_bytes w128 text
trace_above text long some = sum_above (λ i. byte_worth (15 - i) (slice_index text i)) 15 some.0 (omega (arith, long, some.2)) (worth_above (15 - some.0) (slice_index text some.0) (not_zero text some))

-- ---- varints

group_below : (n b high p : ℕ) → n + 128 ≡ b + 128 * high → b < 256 → high < 2 * p → n < 2 * (p * 128)
group_below n b high p e below less = omega (arith, e, below, less)

within_below : (room : ℕ) (text : List ℕ) (n : ℕ) → AreBytes text → SpellsWithin (suc room) text n → n < 2 * 128 ^ room
unfolding SpellsWithin
within_below room [] n all h = absurd h
within_below zero (b ∷ []) n all h = omega (arith, h.0, h.1)
within_below (suc room) (b ∷ []) n all h = omega (arith, h.0, h.1, nat.pow-suc 128 room, some room)
  where
    some : (k : ℕ) → 0 < 128 ^ k
    some zero = omega arith
    some (suc k) = omega (arith, nat.pow-suc 128 k, some k)
within_below zero (b ∷ c ∷ text) n all h = absurd h.3
within_below (suc room) (b ∷ c ∷ text) n all h =
    subst (λ p. n < 2 * p) (sym (nat.pow-suc 128 room))
    (group_below n b h.1 (128 ^ room) h.2 (All-head (λ x. x < 256) b (c ∷ text) all) (within_below room (c ∷ text) h.1 (All-tail (λ x. x < 256) b (c ∷ text) all) h.3))

pub varint_below : (text : List ℕ) (n : ℕ) → AreBytes text → SpellsVarint text n → n < 2 ^ 64
unfolding SpellsVarint
varint_below text n all h = omega (arith, within_below 9 text n all h)

-- ---- records

abbrev pub InRange : Held → Type 0
InRange (varint n) = n < 2 ^ 64
InRange (fixed64 n) = n < 2 ^ 64
InRange (bytes held) = AreBytes held
InRange (fixed32 n) = n < 2 ^ 32

held_in_range : (text : List ℕ) (held : Held) → AreBytes text → SpellsHeld text held → InRange held
held_in_range text (varint n) all h = varint_below text n all h
held_in_range text (fixed64 n) all h = subst (λ m. m < 2 ^ 64) (sym h.1) (eight_below text h.0 all)
held_in_range text (bytes held) all h = last_bytes h.0 held (subst AreBytes h.2 all)
held_in_range text (fixed32 n) all h = subst (λ m. m < 2 ^ 32) (sym h.1) (four_below text h.0 all)

record_in_range : (text : List ℕ) (r : Record) → AreBytes text → SpellsRecord text r → InRange r.held
record_in_range text r all h = held_in_range h.payload r.held (last_bytes h.key h.payload (subst AreBytes h.parts all)) h.payload_spelled

abbrev pub AllInRange : List Record → Type 0
AllInRange records = AllByRecursion (λ r. InRange r.held) records

pub wire_in_range : (records : List Record) (text : List ℕ) → AreBytes text → Wire records text → AllInRange records
unfolding Wire
wire_in_range [] text all h = tt
wire_in_range (r ∷ records) text all h =
    let parts : AreBytes (h.1.text ++ h.0) = subst AreBytes h.1.parts all in
    (record_in_range h.1.text r (first_bytes h.1.text h.0 parts) h.1.spelled, wire_in_range records h.0 (last_bytes h.1.text h.0 parts) h.2)

-- ---- rows

pub both : {A : Type 0} (P : A → Type 0) (xs ys : List A) → AllByRecursion P xs → AllByRecursion P ys → AllByRecursion P (xs ++ ys)
both P [] ys h g = g
both P (x ∷ xs) ys h g = (h.0, both P xs ys h.1 g)

pub in_each : {A : Type 0} (P : A → Type 0) (row : Record → List A) → ((r : Record) → InRange r.held → AllByRecursion P (row r)) → (records : List Record) → AllInRange records → AllByRecursion P (flat_map row records)
in_each P row one [] all = tt
in_each P row one (r ∷ records) all = both P (row r) (flat_map row records) (one r all.0) (in_each P row one records all.1)

pub chosen : {A : Type 0} (P : A → Type 0) (b : Bool) (x : A) (rest : List A) → P x → AllByRecursion P rest → AllByRecursion P (if b then x ∷ [] else rest)
chosen P true x rest h g = (h, tt)
chosen P false x rest h g = g

bytes_in_range : (number own : ℕ) (held : Held) → InRange held → AllByRecursion AreBytes (bytes_in number (record { number = own; held = held }))
bytes_in_range number own (bytes held) h = chosen AreBytes (own == number) held [] h tt
bytes_in_range number own (varint n) h = tt
bytes_in_range number own (fixed64 n) h = tt
bytes_in_range number own (fixed32 n) h = tt

times_in_range : (number own : ℕ) (held : Held) → InRange held → AllByRecursion (λ n. n < 2 ^ 64) (fixed64_in number (record { number = own; held = held }))
times_in_range number own (bytes held) h = tt
times_in_range number own (varint n) h = tt
times_in_range number own (fixed64 n) h = chosen (λ n. n < 2 ^ 64) (own == number) n [] h tt
times_in_range number own (fixed32 n) h = tt

flags_in_range : (number own : ℕ) (held : Held) → InRange held → AllByRecursion (λ n. n < 2 ^ 32) (fixed32_in number (record { number = own; held = held }))
flags_in_range number own (bytes held) h = tt
flags_in_range number own (varint n) h = tt
flags_in_range number own (fixed64 n) h = tt
flags_in_range number own (fixed32 n) h = chosen (λ n. n < 2 ^ 32) (own == number) n [] h tt

pub all_bytes : (number : ℕ) (records : List Record) → AllInRange records → AllByRecursion AreBytes (bytes_of number records)
all_bytes number records all = in_each AreBytes (bytes_in number) (λ r h. bytes_in_range number r.number r.held h) records all

pub all_times : (number : ℕ) (records : List Record) → AllInRange records → AllByRecursion (λ n. n < 2 ^ 64) (fixed64s_of number records)
all_times number records all = in_each (λ n. n < 2 ^ 64) (fixed64_in number) (λ r h. times_in_range number r.number r.held h) records all

pub all_flags : (number : ℕ) (records : List Record) → AllInRange records → AllByRecursion (λ n. n < 2 ^ 32) (fixed32s_of number records)
all_flags number records all = in_each (λ n. n < 2 ^ 32) (fixed32_in number) (λ r h. flags_in_range number r.number r.held h) records all
