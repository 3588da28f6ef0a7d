-- Records keep what a wire format must, and what reading their first frame comes to.
use Rattle.std.proofs.Common.{◌≡◌, ◌≢◌, ◌+◌, ◌*◌, ◌≤◌, ◌↔◌, ◌%◌, ◌++◌, inl, inr, ℕ, List, [], length, min, take, Option, Some, None, Result, Ok, Err, refl, ap, sym, ◌∙◌, subst, arith}
use Rattle.std.proofs.lemmas.List.{length-append, append-nil, take_min}
use Rattle.span_io.specs.declared.cause.Cause.{Cause}
use Rattle.span_io.specs.declared.cause.Cause.TheVariants as causes
use Rattle.span_io.specs.declared.step.Step.{Step}
use Rattle.span_io.specs.declared.step.Step.TheVariants as steps
use Rattle.span_io.specs.VarintLaws.{VarintLaws}
use Rattle.span_io.specs.Varint.{SpellsVarint}
use Rattle.span_io.specs.Frames.{EndsInVarint, IsRefused}
use Rattle.span_io.proofs.FramingLaws.{Place, is_open, is_begun, is_refused, FramingLaws, exact, item_first, refused_first, needs_more, too_long_first, of_front}
use Rattle.proto_wire.specs.Records.{Record}
use Rattle.proto_wire.specs.Wire.{BeginsRecord, IsOpenRecord, HoldsLengthPast, records, RefusedBy, FirstIs, NeedsMoreBytes, IsRefusedAs}
use Rattle.proto_wire.specs.Reading.{record_at}
use Rattle.proto_wire.proofs.Payloads.{wire_cases}
use Rattle.proto_wire.proofs.Spellings.{field_is, spelled_some, append_some, inside_read, overlong_read, bad_key_read}
use Rattle.proto_wire.proofs.Refusals.{empty_proper, no_key, RecordIs, record_is, told, whole_read, record_fronts, overlong_has, bad_key_has}
use Rattle.proto_wire.proofs.Messages.{one_record}
use Rattle.proto_wire.proofs.LengthsPast.{past_more, past_read, tells_past}

record_some : (text : List ℕ) → records.Whole text → text ≢ []
record_some text h e = append_some h.1.key h.1.payload (spelled_some h.1.key _ h.1.key_spelled) (sym h.1.parts ∙ e)

no_varint : (text others : List ℕ) (n : ℕ) → SpellsVarint text n → [] ≡ text ++ others → ⊥
no_varint text others n h e = append_some text others (spelled_some text n h) (sym e)

-- at most `limit` bytes are looked at
pub looked_at : (size limit : ℕ) (bytes : List ℕ) → size ≡ min (length bytes) limit → take size bytes ≡ take limit bytes
looked_at size limit bytes e = ap (λ n. take n bytes) (omega (arith, e)) ∙ take_min limit bytes

module _ (L : VarintLaws) where
  not_inside : (text : List ℕ) → records.Whole text → EndsInVarint records text → ⊥
  not_inside text h e =
      let whole : record_at text ≡ Ok (Some h.0, []) = whole_read L text h in
      let short : record_at text ≡ Err causes.Truncated = inside_read L text e in
      cc

  -- what is refused is read as its cause
  refused_read : (cause : Cause) (front : List ℕ) → IsRefused records front → RefusedBy cause front → record_at front ≡ Err cause
  refused_read causes.BadVarint front refused h = overlong_read L front (record {
    front = h.front;
    varint = h.varint;
    others = [];
    then_varint = h.then_varint;
    overlong = h.overlong;
    parts = h.parts ∙ ap (λ l. h.front ++ l) (sym (append-nil h.varint));
  })
  refused_read causes.BadWire front refused h = bad_key_read L front (record {
    number = h.0;
    rest = [];
    key = record { key = front; spelled = h.1; parts = sym (append-nil front) };
    none = no_key L front h.0 h.1 refused.closed (field_is h.0) (wire_cases (h.0 % 8));
  })
  refused_read other front refused h = absurd h

  one_kind : (front : List ℕ) (a b : Cause) → IsRefused records front → RefusedBy a front → RefusedBy b front → a ≡ b
  one_kind front a b refused h g =
      let first : record_at front ≡ Err a = refused_read a front refused h in
      let second : record_at front ≡ Err b = refused_read b front refused g in
      cc

  place : (text : List ℕ) (r : Result (Option Record × List ℕ) Cause) → RecordIs text r → Place records RefusedBy text
  place text (Ok (None, rest)) h = is_open (subst (λ l. IsOpenRecord l) (sym h.0) (inl empty_proper))
  place text (Ok (Some r, rest)) h = is_begun (record { text = h.text; rest = rest; whole = (r, h.spelled); parts = h.parts })
  place text (Err causes.Truncated) h = is_open h.1
  place text (Err causes.BadVarint) h = is_refused causes.BadVarint (λ e. cc) (overlong_has L text h)
  place text (Err causes.BadWire) h = is_refused causes.BadWire (λ e. cc) (bad_key_has L text h)
  place text (Err other) h = absurd h

  pub record_laws : FramingLaws records RefusedBy
  record_laws = record {
    some = record_some;
    one_item = λ text longer more h g e. (one_record L text longer more h.0 g.0 h.1 g.1 e).0;
    ended = not_inside;
    fronts = record_fronts L;
    stays = past_more;
    until_then = λ limit text past within. (told L text (Err causes.Truncated) (past_read L limit text past within)).1;
    tells = tells_past L;
    of_nothing = inl empty_proper;
    no_length = λ limit past. no_varint past.key (past.size ++ past.others) (past.number * 8 + 2) past.key_spelled past.parts;
    place = λ text. place text (record_at text) (record_is L text);
    one_kind = one_kind;
  }

  -- ---- open bytes

  pub open_full : (limit : ℕ) (piece : List ℕ) → length piece ≤ limit → IsOpenRecord piece → length piece ≡ limit → IsRefusedAs limit piece causes.UnitTooLong
  open_full limit piece within may_come full = too_long_first records RefusedBy record_laws limit piece may_come within (inl full)

  pub open_past : (limit : ℕ) (piece : List ℕ) → length piece ≤ limit → IsOpenRecord piece → HoldsLengthPast limit piece → IsRefusedAs limit piece causes.UnitTooLong
  open_past limit piece within may_come past = too_long_first records RefusedBy record_laws limit piece may_come within (inr past)

  pub open_needs : (limit : ℕ) (piece : List ℕ) → length piece ≤ limit → IsOpenRecord piece → length piece ≢ limit → (HoldsLengthPast limit piece → ⊥) → NeedsMoreBytes limit piece
  open_needs limit piece within may_come part none = needs_more records RefusedBy record_laws limit piece may_come (omega (arith, within, part)) none

  -- ---- what `first` answers

  pub none_open : (piece rest : List ℕ) → record_at piece ≡ Ok (None, rest) → IsOpenRecord piece
  none_open piece rest e = subst (λ l. IsOpenRecord l) (sym (told L piece (Ok (None, rest)) e).0) (inl empty_proper)

  pub short_open : (piece : List ℕ) → record_at piece ≡ Err causes.Truncated → IsOpenRecord piece
  short_open piece e = (told L piece (Err causes.Truncated) e).1

  module _ (limit : ℕ) (piece : List ℕ) (within : length piece ≤ limit) where
    pub refused_as : (cause : Cause) → cause ≢ causes.Truncated → record_at piece ≡ Err cause → FirstIs limit piece (steps.Refused cause)
    refused_as cause other e = by_cause cause other (told L piece (Err cause) e)
      where
        by_cause : (cause : Cause) → cause ≢ causes.Truncated → RecordIs piece (Err cause) → FirstIs limit piece (steps.Refused cause)
        by_cause causes.Truncated other h = absurd (other refl)
        by_cause causes.BadVarint other h = refused_first records RefusedBy record_laws limit (RefusedBy causes.BadVarint) piece within (overlong_has L piece h)
        by_cause causes.BadWire other h = refused_first records RefusedBy record_laws limit (RefusedBy causes.BadWire) piece within (bad_key_has L piece h)
        by_cause cause other h = absurd h

    pub unit_is : (size : ℕ) (found : Record) (rest : List ℕ) → size + length rest ≡ length piece → record_at piece ≡ Ok (Some found, rest) → FirstIs limit piece (steps.Unit size)
    unit_is size found rest place e =
        let h : BeginsRecord found piece rest = told L piece (Ok (Some found, rest)) e in
        item_first records RefusedBy record_laws limit size piece (record {
          text = h.text;
          rest = rest;
          whole = (found, h.spelled);
          parts = h.parts;
          size = omega (arith, place, ap length h.parts, length-append h.text rest);
          within = omega (arith, within, place);
        })

  -- ---- what follows of an answer that is true

  module _ (limit : ℕ) (bytes piece : List ℕ) (looked : piece ≡ take limit bytes) (answer : Step) (front_is : FirstIs limit piece answer) where
    pub is : FirstIs limit bytes answer
    is = of_front records RefusedBy record_laws limit bytes answer (subst (λ l. FirstIs limit l answer) looked front_is)

    pub exactly : (step : Step) → (answer ≡ step) ↔ FirstIs limit bytes step
    exactly step = exact records RefusedBy record_laws limit bytes answer is step

    pub needs_exactly : (answer ≡ steps.Need) ↔ NeedsMoreBytes limit bytes
    needs_exactly = exactly steps.Need
