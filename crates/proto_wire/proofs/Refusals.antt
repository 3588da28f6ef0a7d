-- Where no record begins: what reading answers, and the shortest front that is refused.
use Rattle.std.proofs.Common.{◌≡◌, ◌≢◌, ◌≤◌, ◌<◌, ◌+◌, ◌*◌, ◌/◌, ◌%◌, ◌++◌, ◌∷◌, ◌⊎◌, inl, inr, ℕ, List, [], length, Option, Some, None, Result, Ok, Err, refl, ap, sym, ◌∙◌, subst, arith}
use Rattle.std.proofs.lemmas.List.{length-append, append_assoc, append-nil}
use Rattle.std.proofs.lemmas.List.Elements.{All-cons}
use Rattle.std.specs.Int.{w32, w64, from_le_bytes}
use Rattle.std.specs.List.{AllByRecursion}
use Rattle.span_io.specs.declared.cause.Cause.{Cause}
use Rattle.span_io.specs.declared.cause.Cause.TheVariants as causes
use Rattle.span_io.specs.Frames.{AreBytes, IsProperFront, IsRefused}
use Rattle.span_io.specs.Varint.{SpellsVarint, SpellsWithin, IsInsideVarint, IsOverlong}
use Rattle.proto_wire.specs.Records.{Held, varint, fixed64, bytes, fixed32, Record, wire_type, IsFieldNumber}
use Rattle.proto_wire.specs.Wire.{SpellsHeld, BeginsRecord, IsKeyThenVarint, IsOpenRecord, records, HasOverlong, HasBadKey}
use Rattle.proto_wire.specs.Reading.{number_at, held_at, record_at, ◌>>=◌}
use Rattle.span_io.proofs.Cuts.{two_cuts, append_empty_right, all_front}
use Rattle.span_io.proofs.FramingLaws.{FrontsAreOpen, open_front}
use Rattle.span_io.specs.VarintLaws.{VarintLaws}
use Rattle.proto_wire.proofs.Varints.{NumberIs, number_is}
use Rattle.proto_wire.proofs.Payloads.{WireIs, is_0, is_1, is_2, is_5, IsNoWire, wire_cases, HeldFront, HeldInside, WithVarint, HeldIs, held_is, zero_spelled, zeros, length-zeros, zeros_are_bytes}
use Rattle.proto_wire.proofs.Spellings.{with_number, after_number, after_key, record_none, record_some, FieldIs, field_good, field_refused, field_is, field_in, KeyAt, key_some, IsNoKey, BadKeyAt, OverlongAt, key_parts, spelled_read, begins_read, bad_key_read, overlong_read, inside_read}

-- ---- fronts of open bytes

-- a payload of each wire type
record Sample (wire : ℕ) : Type 0 where
  held : Held
  payload : List ℕ
  are_bytes : AreBytes payload
  some : payload ≢ []
  wire_is : wire_type held ≡ wire
  spelled : SpellsHeld payload held

sample : (wire : ℕ) → WireIs wire → Sample wire
sample wire is_0 = record { held = varint 0; payload = 0 ∷ []; are_bytes = zeros_are_bytes 1; some = λ e. cc; wire_is = refl; spelled = zero_spelled }
sample wire is_1 = record { held = fixed64 (from_le_bytes w64 (zeros 8)); payload = zeros 8; are_bytes = zeros_are_bytes 8; some = λ e. omega (arith, ap length e, length-zeros 8); wire_is = refl; spelled = (length-zeros 8, refl) }
sample wire is_2 = record { held = bytes []; payload = 0 ∷ []; are_bytes = zeros_are_bytes 1; some = λ e. cc; wire_is = refl; spelled = (0 ∷ [], zero_spelled, refl) }
sample wire is_5 = record { held = fixed32 (from_le_bytes w32 (zeros 4)); payload = zeros 4; are_bytes = zeros_are_bytes 4; some = λ e. omega (arith, ap length e, length-zeros 4); wire_is = refl; spelled = (length-zeros 4, refl) }

-- the key of a record is a proper front
parted_proper : (key : List ℕ) (number wire : ℕ) → IsFieldNumber number → SpellsVarint key (number * 8 + wire) → Sample wire → IsProperFront records key
parted_proper key number wire good spelled s = record {
  more = s.payload;
  are_bytes = s.are_bytes;
  some = s.some;
  whole = (
    record { number = number; held = s.held },
    record {
      number = good;
      key = key;
      payload = s.payload;
      key_spelled = subst (λ w. SpellsVarint key (number * 8 + w)) (sym s.wire_is) spelled;
      payload_spelled = s.spelled;
      parts = refl;
    },
  );
}

pub key_proper : (key : List ℕ) (n : ℕ) → IsFieldNumber (n / 8) → WireIs (n % 8) → SpellsVarint key n → IsProperFront records key
key_proper key n good known spelled = parted_proper key (n / 8) (n % 8) good (subst (λ m. SpellsVarint key m) (key_parts n) spelled) (sample (n % 8) known)

pub key_then_proper : (key : List ℕ) (h : IsKeyThenVarint key) → WithVarint h.wire_type → IsProperFront records key
key_then_proper key h (inl e) = parted_proper key h.number h.wire_type h.is_number h.spelled (subst Sample (sym e) (sample 0 is_0))
key_then_proper key h (inr e) = parted_proper key h.number h.wire_type h.is_number h.spelled (subst Sample (sym e) (sample 2 is_2))

eight_spelled : SpellsVarint (8 ∷ []) 8
unfolding SpellsVarint SpellsWithin
eight_spelled = (omega arith, refl)

pub empty_proper : IsProperFront records []
empty_proper =
    let p : IsProperFront records (8 ∷ []) = parted_proper (8 ∷ []) 1 0 (omega arith, omega arith) eight_spelled (sample 0 is_0) in
    record { more = 8 ∷ p.more; are_bytes = All-cons (λ b. b < 256) 8 p.more (omega arith) p.are_bytes; some = λ e. cc; whole = p.whole }

-- what stands before a varint
abbrev pub ThenVarint : List ℕ → Type 0
ThenVarint front = (front ≡ []) ⊎ IsKeyThenVarint front

pub then_varint_proper : (front : List ℕ) → ThenVarint front → IsProperFront records front
then_varint_proper front (inl e) = subst (λ l. IsProperFront records l) (sym e) empty_proper
then_varint_proper front (inr key) = key_then_proper front key key.with_varint

pub open_inside : (front inside : List ℕ) → ThenVarint front → IsInsideVarint inside → IsOpenRecord (front ++ inside)
open_inside front [] before h = inl (subst (λ l. IsProperFront records l) (sym (append-nil front)) (then_varint_proper front before))
open_inside front (b ∷ inside) before h = inr (record { front = front; inside = b ∷ inside; then_varint = before; proper = then_varint_proper front before; some = omega arith; unended = h; parts = refl })

-- fronts of ten bytes that are no varint
pub overlong_inside : (text short more : List ℕ) → IsOverlong text → text ≡ short ++ more → more ≢ [] → IsInsideVarint short
overlong_inside text short more h e some = elim (two_cuts short more h.front (h.tenth ∷ []) (sym e ∙ h.parts)) [
  | inl w ↦ record {
    short = omega (arith, h.nine, ap length w.front, length-append short w.between);
    go_on = all_front (λ x. 128 ≤ x) short w.between (subst (λ l. AllByRecursion (λ x. 128 ≤ x) l) w.front h.go_on);
  }
  | inr w ↦ ended short more h.front h.tenth w.between w.front w.rest some h.nine h.go_on
]
  where
    ended : (short more front : List ℕ) (tenth : ℕ) (between : List ℕ) → short ≡ front ++ between → tenth ∷ [] ≡ between ++ more → more ≢ [] → length front ≡ 9 → AllByRecursion (λ x. 128 ≤ x) front → IsInsideVarint short
    ended short more front tenth [] e f some nine go_on =
        let same : short ≡ front = e ∙ append-nil front in
        record { short = omega (arith, ap length same); go_on = subst (λ l. AllByRecursion (λ x. 128 ≤ x) l) (sym same) go_on }
    ended short more front tenth (b ∷ between) e f some nine go_on =
        let none : [] ≡ between ++ more = cc in
        absurd (some (append_empty_right between more (sym none)))

-- ---- what stands where a record was looked for

abbrev pub NextIs : List ℕ → Option Record → List ℕ → Type 0
NextIs text None rest = (text ≡ []) × (rest ≡ [])
NextIs text (Some r) rest = BeginsRecord r text rest

abbrev pub RecordIs : List ℕ → Result (Option Record × List ℕ) Cause → Type 0
RecordIs text (Ok x) = NextIs text x.0 x.1
RecordIs text (Err causes.Truncated) = (text ≢ []) × IsOpenRecord text
RecordIs text (Err causes.BadVarint) = OverlongAt text
RecordIs text (Err causes.BadWire) = BadKeyAt text
RecordIs text (Err other) = ⊥

-- the parts of a key before a varint
pub key_before : (key : List ℕ) (n : ℕ) → SpellsVarint key n → IsFieldNumber (n / 8) → WithVarint (n % 8) → IsKeyThenVarint key
key_before key n spelled good before = record { number = n / 8; wire_type = n % 8; is_number = good; with_varint = before; spelled = subst (λ m. SpellsVarint key m) (key_parts n) spelled }

held_front_open : (text : List ℕ) (n : ℕ) (rest : List ℕ) → KeyAt text n rest → IsFieldNumber (n / 8) → HeldFront (n % 8) rest → IsProperFront records text
held_front_open text n rest h good f = record {
  more = f.more;
  are_bytes = f.are_bytes;
  some = f.some;
  whole = (
    record { number = n / 8; held = f.held },
    record {
      number = good;
      key = h.key;
      payload = rest ++ f.more;
      key_spelled = subst (λ w. SpellsVarint h.key (n / 8 * 8 + w)) (sym f.wire_is) (subst (λ m. SpellsVarint h.key m) (key_parts n) h.spelled);
      payload_spelled = f.spelled;
      parts = ap (λ l. l ++ f.more) h.parts ∙ append_assoc h.key rest f.more;
    },
  );
}

held_inside_open : (text : List ℕ) (n : ℕ) (rest : List ℕ) → KeyAt text n rest → IsFieldNumber (n / 8) → HeldInside (n % 8) rest → IsOpenRecord text
held_inside_open text n rest h good f =
    subst (λ l. IsOpenRecord l) (sym h.parts) (open_inside h.key rest (inr (key_before h.key n h.spelled good f.with_varint)) f.inside)

held_record : (text : List ℕ) (n : ℕ) (rest : List ℕ) → KeyAt text n rest → IsFieldNumber (n / 8) → (r : Result (Held × List ℕ) Cause) → HeldIs (n % 8) rest r → RecordIs text (r >>= with_number (n / 8))
held_record text n rest h good (Ok x) f = record {
  text = h.key ++ f.payload;
  spelled = record {
    number = good;
    key = h.key;
    payload = f.payload;
    key_spelled = subst (λ w. SpellsVarint h.key (n / 8 * 8 + w)) (sym f.wire_is) (subst (λ m. SpellsVarint h.key m) (key_parts n) h.spelled);
    payload_spelled = f.spelled;
    parts = refl;
  };
  parts = h.parts ∙ ap (λ l. h.key ++ l) f.parts ∙ sym (append_assoc h.key f.payload x.1);
}
held_record text n rest h good (Err causes.Truncated) (inl f) = (key_some text n rest h, inl (held_front_open text n rest h good f))
held_record text n rest h good (Err causes.Truncated) (inr f) = (key_some text n rest h, held_inside_open text n rest h good f)
held_record text n rest h good (Err causes.BadVarint) f = record {
  front = h.key;
  varint = f.1.text;
  others = f.1.others;
  then_varint = inr (key_before h.key n h.spelled good f.0);
  overlong = f.1.overlong;
  parts = h.parts ∙ ap (λ l. h.key ++ l) f.1.parts;
}
held_record text n rest h good (Err causes.BadWire) f = record { number = n; rest = rest; key = h; none = inr f }
held_record text n rest h good (Err other) f = absurd f

abbrev pub Given : Option Record × List ℕ → Result (Option Record × List ℕ) Cause
Given x = Ok x

pub same_rest : (x y : Option Record × List ℕ) → Given x ≡ Given y → x.1 ≡ y.1
same_rest x y e = let pairs : x ≡ y = cc in ap (λ p. p.1) pairs

pub same_next : (x y : Option Record × List ℕ) → Given x ≡ Given y → x.0 ≡ y.0
same_next x y e = let pairs : x ≡ y = cc in ap (λ p. p.0) pairs

module _ (L : VarintLaws) where
  key_record : (text : List ℕ) (n : ℕ) (rest : List ℕ) → KeyAt text n rest → FieldIs n → RecordIs text (after_key (n, rest))
  key_record text n rest h (field_good good) =
      subst (λ r. RecordIs text (r >>= after_number (n, rest))) (sym (field_in n good)) (held_record text n rest h good (held_at (n % 8) rest) (held_is L (n % 8) rest))
  key_record text n rest h (field_refused bad e) =
      subst (λ r. RecordIs text (r >>= after_number (n, rest))) (sym e) (record { number = n; rest = rest; key = h; none = inl bad })

  number_record : (text : List ℕ) → text ≢ [] → (r : Result (ℕ × List ℕ) Cause) → NumberIs text r → RecordIs text (r >>= after_key)
  number_record text some (Ok x) h = key_record text x.0 x.1 (record { key = h.text; spelled = h.spelled; parts = h.parts }) (field_is x.0)
  number_record text some (Err causes.Truncated) h = (some, open_inside [] text (inl refl) h)
  number_record text some (Err causes.BadVarint) h = record { front = []; varint = h.text; others = h.others; then_varint = inl refl; overlong = h.overlong; parts = h.parts }
  number_record text some (Err other) h = absurd h

  -- what reading answers tells what stands at the front
  pub record_is : (text : List ℕ) → RecordIs text (record_at text)
  record_is [] = subst (λ r. RecordIs [] r) (sym record_none) (refl, refl)
  record_is (b ∷ text) =
      let some : (b ∷ text) ≢ [] = λ e. cc in
      subst (λ r. RecordIs (b ∷ text) r) (sym (record_some (b ∷ text) some)) (number_record (b ∷ text) some (number_at (b ∷ text)) (number_is L (b ∷ text)))

  pub told : (text : List ℕ) (r : Result (Option Record × List ℕ) Cause) → record_at text ≡ r → RecordIs text r
  told text r e = subst (λ x. RecordIs text x) e (record_is text)

  -- ---- open bytes are answered Truncated

  pub whole_read : (text : List ℕ) (h : records.Whole text) → record_at text ≡ Ok (Some h.0, [])
  whole_read text h = ap record_at (sym (append-nil text)) ∙ spelled_read L text [] h.0 h.1

  -- more numbers make a record of the text
  front_read : (text more : List ℕ) → text ≢ [] → more ≢ [] → (whole : records.Whole (text ++ more)) → (r : Result (Option Record × List ℕ) Cause) → record_at text ≡ r → RecordIs text r → r ≡ Err causes.Truncated
  front_read text more some on whole (Ok (None, rest)) e h = absurd (some h.0)
  front_read text more some on whole (Ok (Some r, rest)) e h =
      let longer : record_at (text ++ more) ≡ Ok (Some r, rest ++ more) = begins_read L (text ++ more) (rest ++ more) r (record { text = h.text; spelled = h.spelled; parts = ap (λ l. l ++ more) h.parts ∙ append_assoc h.text rest more }) in
      let none : rest ++ more ≡ [] = same_rest (Some r, rest ++ more) (Some whole.0, []) (sym longer ∙ whole_read (text ++ more) whole) in
      absurd (on (append_empty_right rest more none))
  front_read text more some on whole (Err causes.Truncated) e h = refl
  front_read text more some on whole (Err causes.BadVarint) e h =
      let longer : record_at (text ++ more) ≡ Err causes.BadVarint = overlong_read L (text ++ more) (record {
        front = h.front;
        varint = h.varint;
        others = h.others ++ more;
        then_varint = h.then_varint;
        overlong = h.overlong;
        parts = ap (λ l. l ++ more) h.parts ∙ append_assoc h.front (h.varint ++ h.others) more ∙ ap (λ l. h.front ++ l) (append_assoc h.varint h.others more);
      }) in
      let read : record_at (text ++ more) ≡ Ok (Some whole.0, []) = whole_read (text ++ more) whole in
      cc
  front_read text more some on whole (Err causes.BadWire) e h =
      let longer : record_at (text ++ more) ≡ Err causes.BadWire = bad_key_read L (text ++ more) (record {
        number = h.number;
        rest = h.rest ++ more;
        none = h.none;
        key = record { key = h.key.key; spelled = h.key.spelled; parts = ap (λ l. l ++ more) h.key.parts ∙ append_assoc h.key.key h.rest more };
      }) in
      let read : record_at (text ++ more) ≡ Ok (Some whole.0, []) = whole_read (text ++ more) whole in
      cc
  front_read text more some on whole (Err other) e h = absurd h

  pub open_read : (text : List ℕ) → text ≢ [] → IsOpenRecord text → record_at text ≡ Err causes.Truncated
  open_read text some (inl p) = front_read text p.more some p.some p.whole (record_at text) refl (record_is text)
  open_read text some (inr h) = inside_read L text h

  -- a proper front of a record is open
  pub record_fronts : FrontsAreOpen records
  record_fronts [] more whole on = inl empty_proper
  record_fronts (b ∷ front) more whole on =
      (told (b ∷ front) (Err causes.Truncated) (front_read (b ∷ front) more (λ e. cc) on whole (record_at (b ∷ front)) refl (record_is (b ∷ front)))).1

  -- ---- the shortest front that is refused

  pub refused_of : (text : List ℕ) (cause : Cause) → record_at text ≡ Err cause → cause ≢ causes.Truncated → IsRefused records text
  refused_of [] cause e other = let none : record_at [] ≡ Ok (None, []) = record_none in cc
  refused_of (b ∷ text) cause e other = record {
    closed = λ h. (let answer : record_at (b ∷ text) ≡ Err causes.Truncated = open_read (b ∷ text) (λ e. cc) h in other cc);
    none = λ h. (let answer : record_at (b ∷ text) ≡ Ok (Some h.whole.0, h.rest) = begins_read L (b ∷ text) h.rest h.whole.0 (record { text = h.text; spelled = h.whole.1; parts = h.parts }) in cc);
  }

  pub overlong_least : (front text : List ℕ) → ThenVarint front → IsOverlong text → (shorter more : List ℕ) → front ++ text ≡ shorter ++ more → more ≢ [] → IsOpenRecord shorter
  overlong_least front text before h shorter more e some = elim (two_cuts front text shorter more e) [
    | inl w ↦ subst (λ l. IsOpenRecord l) (sym w.front) (open_inside front w.between before (overlong_inside text w.between more h w.rest some))
    | inr w ↦ open_front records record_fronts shorter w.between (subst (λ l. IsOpenRecord l) w.front (inl (then_varint_proper front before)))
  ]

  pub overlong_has : (text : List ℕ) → OverlongAt text → HasOverlong text
  overlong_has text h = record {
    front = h.front ++ h.varint;
    shortest = record {
      refused = refused_of (h.front ++ h.varint) causes.BadVarint (overlong_read L (h.front ++ h.varint) (record {
        front = h.front;
        varint = h.varint;
        others = [];
        then_varint = h.then_varint;
        overlong = h.overlong;
        parts = ap (λ l. h.front ++ l) (sym (append-nil h.varint));
      })) (λ e. cc);
      rest = h.others;
      parts = h.parts ∙ sym (append_assoc h.front h.varint h.others);
      least = λ shorter more e some refused. refused.closed (overlong_least h.front h.varint h.then_varint h.overlong shorter more e some);
    };
    ends_in = record { front = h.front; varint = h.varint; then_varint = h.then_varint; overlong = h.overlong; parts = refl };
  }

  pub overlong_from : (text : List ℕ) → HasOverlong text → OverlongAt text
  overlong_from text h = record {
    front = h.ends_in.front;
    varint = h.ends_in.varint;
    others = h.shortest.rest;
    then_varint = h.ends_in.then_varint;
    overlong = h.ends_in.overlong;
    parts = h.shortest.parts ∙ ap (λ l. l ++ h.shortest.rest) h.ends_in.parts ∙ append_assoc h.ends_in.front h.ends_in.varint h.shortest.rest;
  }

  pub bad_key_has : (text : List ℕ) → BadKeyAt text → HasBadKey text
  bad_key_has text h = record {
    front = h.key.key;
    shortest = record {
      refused = refused_of h.key.key causes.BadWire (bad_key_read L h.key.key (record {
        number = h.number;
        rest = [];
        none = h.none;
        key = record { key = h.key.key; spelled = h.key.spelled; parts = sym (append-nil h.key.key) };
      })) (λ e. cc);
      rest = h.rest;
      parts = h.key.parts;
      least = λ shorter more e some refused. refused.closed (open_inside [] shorter (inl refl) (L.fronts h.number shorter more (subst (λ l. SpellsVarint l h.number) e h.key.spelled) some));
    };
    ends_in = (h.number, h.key.spelled);
  }

  pub no_key : (key : List ℕ) (n : ℕ) → SpellsVarint key n → (IsOpenRecord key → ⊥) → FieldIs n → WireIs (n % 8) ⊎ IsNoWire (n % 8) → IsNoKey n
  no_key key n spelled closed (field_refused bad e) wire = inl bad
  no_key key n spelled closed (field_good good) (inr none) = inr none
  no_key key n spelled closed (field_good good) (inl known) = absurd (closed (inl (key_proper key n good known spelled)))

  pub bad_key_from : (text : List ℕ) → HasBadKey text → BadKeyAt text
  bad_key_from text h = record {
    number = h.ends_in.0;
    rest = h.shortest.rest;
    key = record { key = h.front; spelled = h.ends_in.1; parts = h.shortest.parts };
    none = no_key h.front h.ends_in.0 h.ends_in.1 h.shortest.refused.closed (field_is h.ends_in.0) (wire_cases (h.ends_in.0 % 8));
  }
