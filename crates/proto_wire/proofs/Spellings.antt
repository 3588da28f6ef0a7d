-- One record, read behind its key: what is spelled is read, and what is read is spelled.
use Rattle.std.proofs.Common.{◌≡◌, ◌≢◌, ◌<◌, ◌+◌, ◌*◌, ◌/◌, ◌%◌, ◌++◌, ◌∷◌, ◌⊎◌, inl, inr, ℕ, List, [], length, Option, Some, None, Result, Ok, Err, Bool, true, false, leb, refl, ap, sym, ◌∙◌, subst, arith}
use Rattle.std.proofs.lemmas.Bool.{le-leb, lt-leb}
use Rattle.std.proofs.lemmas.Bool.Decides.{leb_tells}
use Rattle.std.proofs.lemmas.List.{length-append, append_assoc}
use Rattle.span_io.specs.declared.cause.Cause.{Cause}
use Rattle.span_io.specs.declared.cause.Cause.TheVariants as causes
use Rattle.span_io.specs.Frames.{EndsInVarint}
use Rattle.span_io.specs.Varint.{SpellsVarint, SpellsWithin, IsInsideVarint, IsOverlong}
use Rattle.proto_wire.specs.Records.{Held, varint, bytes, Record, wire_type, IsFieldNumber, last_number}
use Rattle.proto_wire.specs.Wire.{SpellsRecord, BeginsRecord, IsKeyThenVarint, records}
use Rattle.proto_wire.specs.Reading.{number_at, held_bytes_at, held_at, field_number, record_at, ◌>>=◌}
use Rattle.span_io.specs.VarintLaws.{VarintLaws}
use Rattle.proto_wire.proofs.Varints.{number_read, number_short, number_bad}
use Rattle.proto_wire.proofs.Payloads.{WireIs, is_0, is_1, is_2, is_5, IsNoWire, wire_type_is, held_0, held_2, held_none, held_read, WithVarint}

-- ---- the steps of the reading function

abbrev pub with_number : ℕ → Held × List ℕ → Result (Option Record × List ℕ) Cause
with_number number held = Ok (Some (record { number = number; held = held.0 }), held.1)

abbrev pub after_number : ℕ × List ℕ → ℕ → Result (Option Record × List ℕ) Cause
after_number key number = held_at (key.0 % 8) key.1 >>= with_number number

abbrev pub after_key : ℕ × List ℕ → Result (Option Record × List ℕ) Cause
after_key key = field_number key.0 >>= after_number key

pub record_none : record_at [] ≡ Ok (None, [])
unfolding record_at
record_none = refl

pub record_some : (text : List ℕ) → text ≢ [] → record_at text ≡ (number_at text >>= after_key)
unfolding record_at
record_some [] some = absurd (some refl)
record_some (b ∷ text) some = refl

pub field_in : (key : ℕ) → IsFieldNumber (key / 8) → field_number key ≡ Ok (key / 8)
unfolding field_number
field_in key h = rw (le-leb 1 (key / 8) h.0, le-leb (key / 8) last_number h.1) refl

pub field_low : (key : ℕ) → key / 8 < 1 → field_number key ≡ Err causes.BadWire
unfolding field_number
field_low key h = rw (lt-leb 1 (key / 8) h) refl

field_above : (key : ℕ) (b : Bool) → leb (key / 8) last_number ≡ false → leb 1 (key / 8) ≡ b → field_number key ≡ Err causes.BadWire
unfolding field_number
field_above key true e f = rw (f, e) refl
field_above key false e f = rw f refl

-- the field number of this key, if it is one
pub data FieldIs (key : ℕ) : Type 0 where
  field_good : IsFieldNumber (key / 8) → FieldIs key
  field_refused : (IsFieldNumber (key / 8) → ⊥) → field_number key ≡ Err causes.BadWire → FieldIs key

pub field_is : (key : ℕ) → FieldIs key
field_is key = elim (leb_tells 1 (key / 8)) [
  | inl low ↦ elim (leb_tells (key / 8) last_number) [
    | inl high ↦ field_good (low.1, high.1)
    | inr high ↦ field_refused (λ h. omega arith) (field_above key (leb 1 (key / 8)) high.0 refl)
  ]
  | inr low ↦ field_refused (λ h. omega arith) (field_low key low.1)
]

-- a key begins the text
pub record KeyAt (text : List ℕ) (n : ℕ) (rest : List ℕ) : Type 0 where
  pub key : List ℕ
  pub spelled : SpellsVarint key n
  pub parts : text ≡ key ++ rest

pub spelled_some : (text : List ℕ) (n : ℕ) → SpellsVarint text n → text ≢ []
unfolding SpellsVarint SpellsWithin
spelled_some [] n h e = absurd h
spelled_some (b ∷ text) n h e = cc

pub append_some : (front rest : List ℕ) → front ≢ [] → front ++ rest ≢ []
append_some [] rest some e = some refl
append_some (b ∷ front) rest some e = cc

pub key_some : (text : List ℕ) (n : ℕ) (rest : List ℕ) → KeyAt text n rest → text ≢ []
key_some text n rest h e = append_some h.key rest (spelled_some h.key n h.spelled) (sym h.parts ∙ e)

-- a key that no record has
abbrev pub IsNoKey : ℕ → Type 0
IsNoKey n = (IsFieldNumber (n / 8) → ⊥) ⊎ IsNoWire (n % 8)

pub record BadKeyAt (text : List ℕ) : Type 0 where
  pub number : ℕ
  pub rest : List ℕ
  pub key : KeyAt text number rest
  pub none : IsNoKey number

pub record OverlongAt (text : List ℕ) : Type 0 where
  pub front : List ℕ
  pub varint : List ℕ
  pub others : List ℕ
  pub then_varint : (front ≡ []) ⊎ IsKeyThenVarint front
  pub overlong : IsOverlong varint
  pub parts : text ≡ front ++ (varint ++ others)

pub key_number : (number wire : ℕ) → wire < 8 → (number * 8 + wire) / 8 ≡ number
key_number number wire h = omega arith

pub key_wire : (number wire : ℕ) → wire < 8 → (number * 8 + wire) % 8 ≡ wire
key_wire number wire h = omega arith

pub key_parts : (n : ℕ) → n ≡ n / 8 * 8 + n % 8
key_parts n = omega arith

pub wire_below : (wire : ℕ) → WireIs wire → wire < 8
wire_below wire is_0 = omega arith
wire_below wire is_1 = omega arith
wire_below wire is_2 = omega arith
wire_below wire is_5 = omega arith

module _ (L : VarintLaws) where
  key_at : (text : List ℕ) (n : ℕ) (rest : List ℕ) → KeyAt text n rest → record_at text ≡ after_key (n, rest)
  key_at text n rest h =
      let number : number_at text ≡ Ok (n, rest) = ap number_at h.parts ∙ number_read L n h.key rest h.spelled in
      record_some text (key_some text n rest h) ∙ ap (λ r. r >>= after_key) number

  good_key : (text : List ℕ) (n : ℕ) (rest : List ℕ) → KeyAt text n rest → IsFieldNumber (n / 8) → record_at text ≡ (held_at (n % 8) rest >>= with_number (n / 8))
  good_key text n rest h good = key_at text n rest h ∙ ap (λ r. r >>= after_number (n, rest)) (field_in n good)

  -- a key by its parts
  pub parted_key : (key rest : List ℕ) (number wire : ℕ) → IsFieldNumber number → WireIs wire → SpellsVarint key (number * 8 + wire) → record_at (key ++ rest) ≡ (held_at wire rest >>= with_number number)
  parted_key key rest number wire good known spelled =
      let number_is : (number * 8 + wire) / 8 ≡ number = key_number number wire (wire_below wire known) in
      let wire_is : (number * 8 + wire) % 8 ≡ wire = key_wire number wire (wire_below wire known) in
      let e : record_at (key ++ rest) ≡ (held_at ((number * 8 + wire) % 8) rest >>= with_number ((number * 8 + wire) / 8)) = good_key (key ++ rest) (number * 8 + wire) rest (record { key = key; spelled = spelled; parts = refl }) (subst IsFieldNumber (sym number_is) good) in
      e ∙ ap (λ w. held_at w rest >>= with_number ((number * 8 + wire) / 8)) wire_is ∙ ap (λ m. held_at wire rest >>= with_number m) number_is

  -- what is spelled is read
  pub spelled_read : (text rest : List ℕ) (r : Record) → SpellsRecord text r → record_at (text ++ rest) ≡ Ok (Some r, rest)
  spelled_read text rest r h =
      ap (λ l. record_at (l ++ rest)) h.parts ∙ ap record_at (append_assoc h.key h.payload rest)
      ∙ parted_key h.key (h.payload ++ rest) r.number (wire_type r.held) h.number (wire_type_is r.held) h.key_spelled
      ∙ ap (λ x. x >>= with_number r.number) (held_read L r.held h.payload rest h.payload_spelled)

  pub begins_read : (text rest : List ℕ) (r : Record) → BeginsRecord r text rest → record_at text ≡ Ok (Some r, rest)
  begins_read text rest r h = ap record_at h.parts ∙ spelled_read h.text rest r h.spelled

  pub bad_key_read : (text : List ℕ) → BadKeyAt text → record_at text ≡ Err causes.BadWire
  bad_key_read text h = key_at text h.number h.rest h.key ∙ (elim (field_is h.number) [
    | field_good good ↦ (elim h.none [
      | inl no_field ↦ absurd (no_field good)
      | inr no_wire ↦ ap (λ r. r >>= after_number (h.number, h.rest)) (field_in h.number good) ∙ ap (λ r. r >>= with_number (h.number / 8)) (held_none (h.number % 8) h.rest no_wire)
    ])
    | field_refused bad e ↦ ap (λ r. r >>= after_number (h.number, h.rest)) e
  ])

  -- behind a key with a varint
  held_short : (wire : ℕ) (text : List ℕ) → WithVarint wire → IsInsideVarint text → held_at wire text ≡ Err causes.Truncated
  held_short wire text (inl e) h = ap (λ w. held_at w text) e ∙ held_0 text ∙ ap (λ r. r >>= λ n. Ok (varint n.0, n.1)) (number_short L text h)
  held_short wire text (inr e) h = ap (λ w. held_at w text) e ∙ held_2 text ∙ ap (λ r. r >>= λ n. held_bytes_at n.0 n.1 >>= λ b. Ok (bytes b.0, b.1)) (number_short L text h)

  held_overlong : (wire : ℕ) (text rest : List ℕ) → WithVarint wire → IsOverlong text → held_at wire (text ++ rest) ≡ Err causes.BadVarint
  held_overlong wire text rest (inl e) h = ap (λ w. held_at w (text ++ rest)) e ∙ held_0 (text ++ rest) ∙ ap (λ r. r >>= λ n. Ok (varint n.0, n.1)) (number_bad L text rest h)
  held_overlong wire text rest (inr e) h = ap (λ w. held_at w (text ++ rest)) e ∙ held_2 (text ++ rest) ∙ ap (λ r. r >>= λ n. held_bytes_at n.0 n.1 >>= λ b. Ok (bytes b.0, b.1)) (number_bad L text rest h)

  with_varint_is : (wire : ℕ) → WithVarint wire → WireIs wire
  with_varint_is wire (inl e) = subst WireIs (sym e) is_0
  with_varint_is wire (inr e) = subst WireIs (sym e) is_2

  pub key_then : (key rest : List ℕ) (h : IsKeyThenVarint key) → record_at (key ++ rest) ≡ (held_at h.wire_type rest >>= with_number h.number)
  key_then key rest h = parted_key key rest h.number h.wire_type h.is_number (with_varint_is h.wire_type h.with_varint) h.spelled

  overlong_some : (text rest : List ℕ) → IsOverlong text → text ++ rest ≢ []
  overlong_some text rest h e = omega (arith, ap length e, length-append text rest, ap length h.parts, length-append h.front (h.tenth ∷ []))

  overlong_front : (front long others : List ℕ) → (front ≡ []) ⊎ IsKeyThenVarint front → IsOverlong long → record_at (front ++ (long ++ others)) ≡ Err causes.BadVarint
  overlong_front front long others (inl e) h =
      ap (λ l. record_at (l ++ (long ++ others))) e
      ∙ record_some (long ++ others) (overlong_some long others h)
      ∙ ap (λ r. r >>= after_key) (number_bad L long others h)
  overlong_front front long others (inr key) h =
      key_then front (long ++ others) key ∙ ap (λ r. r >>= with_number key.number) (held_overlong key.wire_type long others key.with_varint h)

  pub overlong_read : (text : List ℕ) → OverlongAt text → record_at text ≡ Err causes.BadVarint
  overlong_read text h = ap record_at h.parts ∙ overlong_front h.front h.varint h.others h.then_varint h.overlong

  inside_front : (front inside : List ℕ) → (front ≡ []) ⊎ IsKeyThenVarint front → 0 < length inside → IsInsideVarint inside → record_at (front ++ inside) ≡ Err causes.Truncated
  inside_front front inside (inl e) some h =
      ap (λ l. record_at (l ++ inside)) e ∙ record_some inside (λ none. omega (arith, ap length none)) ∙ ap (λ r. r >>= after_key) (number_short L inside h)
  inside_front front inside (inr key) some h =
      key_then front inside key ∙ ap (λ r. r >>= with_number key.number) (held_short key.wire_type inside key.with_varint h)

  pub inside_read : (text : List ℕ) → EndsInVarint records text → record_at text ≡ Err causes.Truncated
  inside_read text h = ap record_at h.parts ∙ inside_front h.front h.inside h.then_varint h.some h.unended
