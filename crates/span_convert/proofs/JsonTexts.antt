-- What offends in the bytes of a JSON text, where it is known what offends in its value.
use Rattle.std.proofs.Common.{◌≡◌, ◌⊎◌, inl, inr, ℕ, Bool, true, false, List, Option, Some, None, refl, IsUtf8}
use Rattle.std.proofs.lemmas.Str.{IsUtf8-from_is_utf8, is_utf8-from_IsUtf8}
use Rattle.std.specs.Str.{is_utf8}
use Rattle.serde_json.specs.Data.{Data}
use Rattle.serde_json.specs.Read.{read}
use Rattle.span_io.specs.Causes.{cause_number}
use Rattle.span_io.specs.Paths.{Offences, IsLeast, Counts, NothingOffends, RefusesInput}
use Rattle.span_io.specs.declared.cause.Cause.{Cause}
use Rattle.span_io.specs.declared.cause.Cause.TheVariants as causes
use Rattle.json_members.proofs.ReadingLaws.{in_value, of_value, bad_json}
use Rattle.json_members.specs.Texts.{IsJsonText, document_offends}

module _ (Inside : Data → Offences) (bytes : List ℕ) where
  -- what offends in the value of a text offends in the text, and nothing else does
  module _ (d : Data) (is : IsJsonText d bytes) where
    pub fine_text : NothingOffends (Inside d) → NothingOffends (document_offends Inside bytes)
    fine_text fine = record { none = λ path n h. fine.none path n (in_value Inside bytes d is path n h) }

    least_of_value : (path : List ℕ) (n : ℕ) → IsLeast (Inside d) path n → IsLeast (document_offends Inside bytes) path n
    least_of_value path n h = record {
      offence = of_value Inside bytes d is path n h.offence;
      least = λ p m offends. h.least p m (in_value Inside bytes d is p m offends);
    }

  -- ---- a text of a value that means something, or an offence

  module _ (Means : Data → Type 0) (some : (d : Data) → Means d ⊎ ((cause : Cause) × Counts (Inside d) (cause_number cause))) where
    abbrev Decided : Type 0
    Decided = ((d : Data) × IsJsonText d bytes × Means d) ⊎ ((cause : Cause) × Counts (document_offends Inside bytes) (cause_number cause))

    no_text : ((d : Data) → ¬ IsJsonText d bytes) → Decided
    no_text never =
        let refused : RefusesInput (document_offends Inside bytes) (record { unit = 0; cause = causes.BadJson }) = bad_json Inside bytes never in
        inr (causes.BadJson, record { path = refused.path; is_least = refused.is_least })

    text_of : (d : Data) → IsJsonText d bytes → Means d ⊎ ((cause : Cause) × Counts (Inside d) (cause_number cause)) → Decided
    text_of d is (inl means) = inl (d, is, means)
    text_of d is (inr h) = inr (h.0, record { path = h.1.path; is_least = least_of_value d is h.1.path (cause_number h.0) h.1.is_least })

    of_reading : IsUtf8 bytes → (o : Option Data) → read bytes ≡ o → Decided
    of_reading utf8 (Some d) e = text_of d (record { utf8 = utf8; reading = e }) (some d)
    of_reading utf8 None e = no_text (λ d h. let k = h.reading in cc)

    of_bytes : (b : Bool) → is_utf8 bytes ≡ b → Decided
    of_bytes true e = of_reading (IsUtf8-from_is_utf8 bytes e) (read bytes) refl
    of_bytes false e = no_text (λ d h. let k = is_utf8-from_IsUtf8 bytes h.utf8 in cc)

    pub decided_text : Decided
    decided_text = of_bytes (is_utf8 bytes) refl
