-- `traceparent` (W3C Trace Context Level 1, section 3.2): version "-" trace-id "-" parent-id "-" trace-flags, in digits of lower case.
use Rattle.std.specs.Prelude.{◌≡◌, ◌≢◌, ◌%◌, ◌==◌, if◌then◌else◌, ℕ, List, [], ◌∷◌, ◌++◌, codes, None, ⊤}
use Rattle.std.specs.List.{join_with_byte}
use Rattle.std.specs.Str.Parse.{digits_value}
use Rattle.span_ids.specs.HexTexts.{IsOfRule, SpellsInHex}
use Rattle.span_ids.specs.declared.hex_text.IdRule.TheVariants.{ExactLower}
use Rattle.propagation.specs.Digits.{dash, trace_digits, span_digits}
use Rattle.propagation.specs.declared.ids.Ids.{Ids}
use Rattle.propagation.specs.declared.sampling.Sampling.{Sampling}
use Rattle.propagation.specs.declared.sampling.Sampling.TheVariants.{Absent, No, Yes, Debug}

-- the parts of the text, the last of which is what a later version has behind its flags
pub record TraceparentParts : Type 0 where
  pub version : List ℕ
  pub trace : List ℕ
  pub span : List ℕ
  pub flags : List ℕ
  pub more : List ℕ

-- the value that the parts make, with dashes between them; what a later version has more brings a dash of its own
abbrev pub traceparent_parts_text : TraceparentParts → List ℕ
traceparent_parts_text p = join_with_byte dash (p.version ∷ p.trace ∷ p.span ∷ (p.flags ++ p.more) ∷ [])

-- two digits in lower case
abbrev pub IsLowerPair : List ℕ → Type 0
IsLowerPair text = IsOfRule ExactLower 2 text

-- any version but ff
abbrev pub IsVersion : List ℕ → Type 0
IsVersion text = IsLowerPair text × (text ≢ codes "ff")

-- version 00 ends with its flags, and a later one may have more behind a dash
abbrev pub IsMore : List ℕ → List ℕ → Type 0
IsMore version [] = ⊤
IsMore version (c ∷ more) = (c ≡ dash) × (version ≢ codes "00")

-- these parts are of the form
abbrev pub IsTraceparentForm : List ℕ → List ℕ → List ℕ → Type 0
IsTraceparentForm version flags more = IsVersion version × IsLowerPair flags × IsMore version more

-- bit 0 of the flags: the caller may have recorded the trace ("sampled flag")
abbrev pub flagged_sampling : ℕ → Sampling
flagged_sampling flags = if flags % 2 == 1 then Yes else No

-- the parts have their digits, and tell these identifiers and this sampling
pub record TellsTraceparent (p : TraceparentParts) (ids : Ids) (sampling : Sampling) : Type 0 where
  pub version : IsVersion p.version
  pub trace : SpellsInHex ExactLower 32 p.trace ids.trace
  pub span : SpellsInHex ExactLower 16 p.span ids.span
  pub parent : ids.parent ≡ None
  pub flags : IsLowerPair p.flags
  pub sampled : sampling ≡ flagged_sampling (digits_value 16 p.flags)
  pub more : IsMore p.version p.more

-- the value is of the form, and tells these identifiers and this sampling
abbrev pub ReadsTraceparent : List ℕ → Ids → Sampling → Type 0
ReadsTraceparent value ids sampling =
    (p : TraceparentParts) × TellsTraceparent p ids sampling × (value ≡ traceparent_parts_text p)

-- ---- what is written, of version 00

-- trace-flags as they are written: bit 0, "sampled", is set where the trace is recorded or debug, not where nothing is said
abbrev pub sampling_flags : Sampling → List ℕ
sampling_flags Absent = codes "00"
sampling_flags No = codes "00"
sampling_flags Yes = codes "01"
sampling_flags Debug = codes "01"

-- the value of `traceparent`: version 00, the identifiers without a parent, in all their digits, and the flags
abbrev pub traceparent_text : Ids → Sampling → List ℕ
traceparent_text ids sampling = join_with_byte dash (codes "00" ∷ trace_digits ids.trace ∷ span_digits ids.span ∷ sampling_flags sampling ∷ [])

-- what the form holds of identifiers: no parent
abbrev pub traceparent_ids : Ids → Ids
traceparent_ids ids = record ids { parent = None }

-- debug is told as recorded, and what says nothing of sampling as not recorded
abbrev pub traceparent_sampling : Sampling → Sampling
traceparent_sampling Absent = No
traceparent_sampling No = No
traceparent_sampling Yes = Yes
traceparent_sampling Debug = Yes
