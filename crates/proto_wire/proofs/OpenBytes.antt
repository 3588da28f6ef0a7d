-- Open bytes can be completed once a varint that isn't ended is dropped.
use Rattle.std.proofs.Common.{◌≡◌, ◌⊎◌, inl, inr, ℕ, List, [], Option, Some, None, Result, Ok, Err, sym, subst, arith}
use Rattle.std.proofs.lemmas.List.{append-nil}
use Rattle.span_io.specs.declared.cause.Cause.{Cause}
use Rattle.span_io.specs.declared.cause.Cause.TheVariants as causes
use Rattle.span_io.specs.Frames.{BeginsWhole, CanBeCompleted}
use Rattle.proto_wire.specs.Records.{Record}
use Rattle.proto_wire.specs.Wire.{IsOpenRecord, records, HasOverlong, HasBadKey}
use Rattle.proto_wire.specs.Reading.{record_at}
use Rattle.span_io.specs.VarintLaws.{VarintLaws}
use Rattle.proto_wire.proofs.Refusals.{empty_proper, RecordIs, NextIs, record_is, told, overlong_has, bad_key_has}

pub completed : (text : List ℕ) → IsOpenRecord text → CanBeCompleted records text
completed text (inl p) = record { front = text; inside = []; parts = sym (append-nil text); unended = record { short = omega arith; go_on = tt }; proper = p }
completed text (inr h) = record { front = h.front; inside = h.inside; parts = h.parts; unended = h.unended; proper = h.proper }

module _ (L : VarintLaws) where
  pub walked : (text : List ℕ) → (text ≡ []) ⊎ (record_at text ≡ Err causes.Truncated) → CanBeCompleted records text
  walked text (inl e) = subst (λ l. CanBeCompleted records l) (sym e) (completed [] (inl empty_proper))
  walked text (inr e) = completed text (told L text (Err causes.Truncated) e).1

  abbrev Place : List ℕ → Type 0
  Place text = IsOpenRecord text ⊎ (BeginsWhole records text ⊎ (HasOverlong text ⊎ HasBadKey text))

  place_next : (text : List ℕ) (next : Option Record) (rest : List ℕ) → NextIs text next rest → Place text
  place_next text None rest h = inl (subst (λ l. IsOpenRecord l) (sym h.0) (inl empty_proper))
  place_next text (Some r) rest h = inr (inl (record { text = h.text; rest = rest; whole = (r, h.spelled); parts = h.parts }))

  place_is : (text : List ℕ) (r : Result (Option Record × List ℕ) Cause) → RecordIs text r → Place text
  place_is text (Ok x) h = place_next text x.0 x.1 h
  place_is text (Err causes.Truncated) h = inl h.1
  place_is text (Err causes.BadVarint) h = inr (inr (inl (overlong_has L text h)))
  place_is text (Err causes.BadWire) h = inr (inr (inr (bad_key_has L text h)))
  place_is text (Err other) h = absurd h

  pub every_place : (text : List ℕ) → Place text
  every_place text = place_is text (record_at text) (record_is L text)
