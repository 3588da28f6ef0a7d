-- Messages keep what the laws of offences ask of a wire format.
use Rattle.std.proofs.Common.{◌≡◌, ◌≤◌, ◌<◌, ◌+◌, ◌∷◌, ◌⊎◌, inl, inr, ℕ, List, [], length, Some, None, Ok, Err, Result, Option, refl, ap, sym, ◌∙◌, arith}
use Rattle.std.proofs.lemmas.List.{length-append}
use Rattle.span_io.specs.Causes.{cause_number}
use Rattle.span_io.specs.declared.cause.Cause.{Cause}
use Rattle.span_io.specs.declared.cause.Cause.TheVariants as causes
use Rattle.span_io.specs.Offences.{Cut}
use Rattle.span_io.specs.Offences.{FormatLaws}
use Rattle.span_io.proofs.Cuts.{some_length}
use Rattle.proto_wire.specs.Messages.{messages, NoRecord, inner_size}
use Rattle.proto_wire.specs.Records.{Held, varint, fixed64, bytes, fixed32, Record}
use Rattle.proto_wire.specs.Wire.{SpellsHeld, BeginsRecord, Wire}
use Rattle.proto_wire.specs.Reading.{record_at}
use Rattle.span_io.specs.VarintLaws.{VarintLaws}
use Rattle.proto_wire.proofs.Spellings.{record_none, begins_read, bad_key_read, overlong_read, spelled_some}
use Rattle.proto_wire.proofs.Refusals.{RecordIs, told, open_read, overlong_has, overlong_from, bad_key_has, bad_key_from, Given, same_rest, same_next}

-- the cause of a number
abbrev numbered : ℕ → Result (Option Record × List ℕ) Cause → Type 0
numbered n read = ((n ≡ 1) × (read ≡ Err causes.Truncated)) ⊎ ((n ≡ 2) × (read ≡ Err causes.BadVarint)) ⊎ ((n ≡ 3) × (read ≡ Err causes.BadWire))

held_room : (payload : List ℕ) (held : Held) → SpellsHeld payload held → inner_size held + 1 ≤ length payload
held_room payload (varint n) h = some_length payload (spelled_some payload n h)
held_room payload (fixed64 n) h = omega (arith, h.0)
held_room payload (bytes held) h = omega (arith, some_length h.0 (spelled_some h.0 (length held) h.1), length-append h.0 held, ap length h.2)
held_room payload (fixed32 n) h = omega (arith, h.0)

pub record_room : (r : Record) (rest after : List ℕ) → BeginsRecord r rest after → length after + inner_size r.held + 2 ≤ length rest
record_room r rest after h =
    let s = h.spelled in
    omega (arith, some_length s.key (spelled_some s.key _ s.key_spelled), held_room s.payload r.held s.payload_spelled, length-append s.key s.payload, length-append h.text after, ap length s.parts, ap length h.parts)

module _ (L : VarintLaws) where
  read_by : (rest : List ℕ) (n : ℕ) → NoRecord rest n → numbered n (record_at rest)
  read_by rest n (inl h) = inl (h.0, open_read L rest h.1 h.2)
  read_by rest n (inr (inl h)) = inr (inl (h.0, overlong_read L rest (overlong_from L rest h.1)))
  read_by rest n (inr (inr h)) = inr (inr (h.0, bad_key_read L rest (bad_key_from L rest h.1)))

  never : (n : ℕ) (read : Result (Option Record × List ℕ) Cause) (x : Option Record × List ℕ) → numbered n read → read ≡ Ok x → ⊥
  never n read x (inl h) e = cc
  never n read x (inr (inl h)) e = cc
  never n read x (inr (inr h)) e = cc

  one_of : (n m : ℕ) (read : Result (Option Record × List ℕ) Cause) → numbered n read → numbered m read → n ≡ m
  one_of n m read (inl h) (inl k) = cc
  one_of n m read (inl h) (inr (inl k)) = cc
  one_of n m read (inl h) (inr (inr k)) = cc
  one_of n m read (inr (inl h)) (inl k) = cc
  one_of n m read (inr (inl h)) (inr (inl k)) = cc
  one_of n m read (inr (inl h)) (inr (inr k)) = cc
  one_of n m read (inr (inr h)) (inl k) = cc
  one_of n m read (inr (inr h)) (inr (inl k)) = cc
  one_of n m read (inr (inr h)) (inr (inr k)) = cc

  one_record : (r s : Record) (rest after other : List ℕ) → BeginsRecord r rest after → BeginsRecord s rest other → (r ≡ s) × (after ≡ other)
  one_record r s rest after other h k =
      let both : Given (Some r, after) ≡ Given (Some s, other) = sym (begins_read L rest after r h) ∙ begins_read L rest other s k in
      let next : Some r ≡ Some s = same_next (Some r, after) (Some s, other) both in
      (cc, same_rest (Some r, after) (Some s, other) both)

  some_left : (rest : List ℕ) (n : ℕ) → NoRecord rest n → 0 < length rest
  some_left [] n h = absurd (never n (record_at []) (None, []) (read_by [] n h) record_none)
  some_left (b ∷ rest) n h = omega arith

  pub message_laws : FormatLaws messages
  message_laws = record {
    only = one_record;
    room = record_room;
    some_beside = omega arith;
    end_room = λ rest e. omega arith;
    stuck = λ r rest after n h b. never n (record_at rest) (Some r, after) (read_by rest n h) (begins_read L rest after r b);
    ended = λ r rest after e b. absurd (omega (arith, ap length e, record_room r rest after b));
    unended = λ rest n e h. absurd (omega (arith, ap length e, some_left rest n h));
    one_number = λ rest n m h k. one_of n m (record_at rest) (read_by rest n h) (read_by rest m k);
    some_left = some_left;
  }

  pub why_none : (rest : List ℕ) (cause : Cause) → record_at rest ≡ Err cause → NoRecord rest (cause_number cause)
  why_none rest cause e = by_cause cause (told L rest (Err cause) e)
    where
      by_cause : (cause : Cause) → RecordIs rest (Err cause) → NoRecord rest (cause_number cause)
      by_cause causes.Truncated h = inl (refl, h.0, h.1)
      by_cause causes.BadVarint h = inr (inl (refl, overlong_has L rest h))
      by_cause causes.BadWire h = inr (inr (refl, bad_key_has L rest h))
      by_cause other h = absurd h

pub whole_message : (text : List ℕ) (seen : List Record) → Cut messages text seen [] → Wire seen text
unfolding Cut Wire
whole_message text [] cut = cut
whole_message text (r ∷ seen) cut = (cut.0, cut.1, whole_message cut.0 seen cut.2)

pub cut_whole : (text : List ℕ) (seen : List Record) → Wire seen text → Cut messages text seen []
unfolding Cut Wire
cut_whole text [] wire = wire
cut_whole text (r ∷ seen) wire = (wire.0, wire.1, cut_whole wire.0 seen wire.2)
