-- The clauses of next_record, from the one that it gives what reading gives.
use Rattle.std.proofs.Common.{◌≡◌, ◌≢◌, ◌≤◌, ◌<◌, ◌↔◌, ◌++◌, ◌∷◌, ℕ, List, [], length, Option, Some, None, Result, Ok, Err, IfOk, IfSome, IfErr, refl, ap, sym, ◌∙◌, arith}
use Rattle.std.specs.Prelude.{IsErrOf}
use Rattle.std.proofs.lemmas.List.{length-append}
use Rattle.span_io.specs.Causes.{cause_number}
use Rattle.span_io.specs.declared.cause.Cause.{Cause}
use Rattle.span_io.specs.declared.cause.Cause.TheVariants as causes
use Rattle.proto_wire.specs.declared.record.WireRecord.{WireRecord}
use Rattle.proto_wire.specs.Records.{Record, plain_record}
use Rattle.proto_wire.specs.Wire.{SpellsRecord, BeginsRecord, IsOpenRecord, HasOverlong, HasBadKey}
use Rattle.proto_wire.specs.Reading.{record_at, GivesNext, IsNext, IsEnd}
use Rattle.proto_wire.specs.Messages.{NoRecord}
use Rattle.span_io.specs.VarintLaws.{VarintLaws}
use Rattle.proto_wire.proofs.OffenceFormat.{why_none}
use Rattle.proto_wire.proofs.Spellings.{record_none, begins_read, bad_key_read, overlong_read, spelled_some}
use Rattle.proto_wire.proofs.Refusals.{RecordIs, told, open_read, overlong_has, overlong_from, bad_key_has, bad_key_from, Given, same_rest, same_next}

module _ (L : VarintLaws) (old new : List ℕ) where
  pub found : (result : Result (Option WireRecord) Cause) → GivesNext result new (record_at old) → IfOk result (λ next. IfSome next (λ r. BeginsRecord (plain_record r) old new))
  found (Ok None) e = tt
  found (Ok (Some r)) e = told L old (Ok (Some (plain_record r), new)) e
  found (Err cause) e = tt

  pub only : (result : Result (Option WireRecord) Cause) → GivesNext result new (record_at old) → (r : Record) (rest : List ℕ) → BeginsRecord r old rest → IsNext result r × (new ≡ rest)
  only (Ok None) e r rest h =
      let next : None ≡ Some r = same_next (None, new) (Some r, rest) (sym e ∙ begins_read L old rest r h) in cc
  only (Ok (Some f)) e r rest h =
      let both : Given (Some (plain_record f), new) ≡ Given (Some r, rest) = sym e ∙ begins_read L old rest r h in
      let next : Some (plain_record f) ≡ Some r = same_next (Some (plain_record f), new) (Some r, rest) both in
      (cc, same_rest (Some (plain_record f), new) (Some r, rest) both)
  only (Err cause) e r rest h =
      let answer : record_at old ≡ Ok (Some r, rest) = begins_read L old rest r h in cc

  pub end : (result : Result (Option WireRecord) Cause) → GivesNext result new (record_at old) → IsEnd result ↔ (old ≡ [])
  end (Ok None) e = (λ h. (told L old (Ok (None, new)) e).0, λ h. tt)
  end (Ok (Some r)) e = (λ h. absurd h, λ h. (let next : Some (plain_record r) ≡ None = same_next (Some (plain_record r), new) (None, []) (sym e ∙ ap record_at h ∙ record_none) in cc))
  end (Err cause) e = (λ h. absurd h, λ h. (let none : record_at old ≡ Ok (None, []) = ap record_at h ∙ record_none in cc))

  errs : (result : Result (Option WireRecord) Cause) → GivesNext result new (record_at old) → (cause : Cause) → IsErrOf result cause ↔ (record_at old ≡ Err cause)
  errs (Ok None) e cause = (λ h. cc, λ h. cc)
  errs (Ok (Some r)) e cause = (λ h. cc, λ h. cc)
  errs (Err d) e cause = (λ h. cc, λ h. cc)

  pub truncated : (result : Result (Option WireRecord) Cause) → GivesNext result new (record_at old) → IsErrOf result causes.Truncated ↔ ((old ≢ []) × IsOpenRecord old)
  truncated result e = (
    λ h. told L old (Err causes.Truncated) ((errs result e causes.Truncated).0 h),
    λ h. (errs result e causes.Truncated).1 (open_read L old h.0 h.1),
  )

  pub overlong : (result : Result (Option WireRecord) Cause) → GivesNext result new (record_at old) → IsErrOf result causes.BadVarint ↔ HasOverlong old
  overlong result e = (
    λ h. overlong_has L old (told L old (Err causes.BadVarint) ((errs result e causes.BadVarint).0 h)),
    λ h. (errs result e causes.BadVarint).1 (overlong_read L old (overlong_from L old h)),
  )

  pub bad_key : (result : Result (Option WireRecord) Cause) → GivesNext result new (record_at old) → IsErrOf result causes.BadWire ↔ HasBadKey old
  bad_key result e = (
    λ h. bad_key_has L old (told L old (Err causes.BadWire) ((errs result e causes.BadWire).0 h)),
    λ h. (errs result e causes.BadWire).1 (bad_key_read L old (bad_key_from L old h)),
  )

  pub unread : (result : Result (Option WireRecord) Cause) → GivesNext result new (record_at old) → IfErr result (λ cause. NoRecord old (cause_number cause))
  unread (Ok next) e = tt
  unread (Err cause) e = why_none L old cause e

  few_causes : (cause : Cause) → RecordIs old (Err cause) → cause_number cause ≤ 3
  few_causes causes.Truncated h = omega arith
  few_causes causes.BadVarint h = omega arith
  few_causes causes.BadWire h = omega arith
  few_causes other h = absurd h

  pub causes_within : (result : Result (Option WireRecord) Cause) → GivesNext result new (record_at old) → IfErr result (λ cause. cause_number cause ≤ 3)
  causes_within (Ok next) e = tt
  causes_within (Err cause) e = few_causes cause (told L old (Err cause) e)

  text_some : (text : List ℕ) (r : Record) → SpellsRecord text r → 0 < length text
  text_some text r h = key_length h.key h.payload text h.parts (spelled_some h.key _ h.key_spelled)
    where
      key_length : (key payload text : List ℕ) → text ≡ key ++ payload → key ≢ [] → 0 < length text
      key_length [] payload text e some = absurd (some refl)
      key_length (b ∷ key) payload text e some = omega (arith, ap length e)

  pub nearer : (result : Result (Option WireRecord) Cause) → GivesNext result new (record_at old) → IfOk result (λ next. IfSome next (λ r. length new < length old))
  nearer (Ok None) e = tt
  nearer (Ok (Some r)) e =
      let begun : BeginsRecord (plain_record r) old new = told L old (Ok (Some (plain_record r), new)) e in
      omega (arith, text_some begun.text (plain_record r) begun.spelled, length-append begun.text new, ap length begun.parts)
  nearer (Err cause) e = tt
