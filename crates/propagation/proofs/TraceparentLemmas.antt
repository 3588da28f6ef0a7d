-- Values of `traceparent`, part by part.
use Rattle.std.proofs.Common.{◌≡◌, ℕ, List, [], ◌∷◌, ◌++◌, refl, sym, ap, subst, ◌∙◌}
use Rattle.std.specs.Prelude.{All, None}
use Rattle.std.specs.List.{join_with_byte}
use Rattle.std.specs.Char.{IsAsciiHexdigit}
use Rattle.std.specs.Str.Parse.{digits_value}
use Rattle.span_ids.specs.HexTexts.{SpellsInHex}
use Rattle.span_ids.specs.declared.hex_text.IdRule.TheVariants as rules
use Rattle.propagation.specs.Fronts.{BeginsWithout, Leads}
use Rattle.propagation.specs.Traceparent.{TraceparentParts, TellsTraceparent, ReadsTraceparent, IsLowerPair, IsVersion, IsMore, IsTraceparentForm, flagged_sampling, traceparent_parts_text}
use Rattle.propagation.specs.declared.ids.Ids.{Ids}
use Rattle.propagation.specs.declared.sampling.Sampling.{Sampling}
use Rattle.propagation.proofs.FrontLemmas.{leads_to}
use Rattle.propagation.proofs.ReadLemmas.{dash_ends, rule_digits, spelled_digits}

-- whatever digits a dash ends in the text, these are they
abbrev pub CutsOnly : List ℕ → List ℕ → List ℕ → Type 0
CutsOnly text cut behind = (front rest : List ℕ) → All IsAsciiHexdigit front → text ≡ front ++ 45 ∷ rest → (cut ≡ front) × (behind ≡ rest)

-- what stands behind each part
pub after_version : TraceparentParts → List ℕ
after_version p = join_with_byte 45 (p.trace ∷ p.span ∷ (p.flags ++ p.more) ∷ [])

pub after_trace : TraceparentParts → List ℕ
after_trace p = join_with_byte 45 (p.span ∷ (p.flags ++ p.more) ∷ [])

module _ (value : List ℕ) (p : TraceparentParts) (ids : Ids) (sampling : Sampling) (h : TellsTraceparent p ids sampling) (e : value ≡ traceparent_parts_text p) where
  pub version_digits : All IsAsciiHexdigit p.version
  version_digits = rule_digits rules.ExactLower 2 p.version h.version.0

  pub trace_part_digits : All IsAsciiHexdigit p.trace
  trace_part_digits = spelled_digits rules.ExactLower 32 p.trace ids.trace h.trace

  pub span_part_digits : All IsAsciiHexdigit p.span
  span_part_digits = spelled_digits rules.ExactLower 16 p.span ids.span h.span

  pub flag_digits : All IsAsciiHexdigit p.flags
  flag_digits = rule_digits rules.ExactLower 2 p.flags h.flags

  pub version_cut : value ≡ p.version ++ 45 ∷ after_version p
  unfolding after_version
  version_cut = e

pub more_ends : (version more : List ℕ) → IsMore version more → BeginsWithout IsAsciiHexdigit more
more_ends version [] h = tt
more_ends version (c ∷ more) h = rw h.0 dash_ends

pub trace_cut : (p : TraceparentParts) → after_version p ≡ p.trace ++ 45 ∷ after_trace p
unfolding after_version after_trace
trace_cut p = refl

pub span_cut : (p : TraceparentParts) → after_trace p ≡ p.span ++ 45 ∷ (p.flags ++ p.more)
unfolding after_trace
span_cut p = refl

pub record SameParts (p : TraceparentParts) (version trace span flags more : List ℕ) : Type 0 where
  pub version_is : version ≡ p.version
  pub trace_is : trace ≡ p.trace
  pub span_is : span ≡ p.span
  pub flags_is : flags ≡ p.flags
  pub more_is : more ≡ p.more

pub same_traceparent_parts : (value version r trace s span t flags more : List ℕ) → CutsOnly value version r → CutsOnly r trace s → CutsOnly s span t → Leads IsAsciiHexdigit t flags more
    → (p : TraceparentParts) (ids : Ids) (sampling : Sampling) → TellsTraceparent p ids sampling → value ≡ traceparent_parts_text p → SameParts p version trace span flags more
same_traceparent_parts value version r trace s span t flags more one two three lead p ids sampling h e =
    let first = one p.version (after_version p) (version_digits value p ids sampling h e) (version_cut value p ids sampling h e) in
    let second = two p.trace (after_trace p) (trace_part_digits value p ids sampling h e) (first.1 ∙ trace_cut p) in
    let third = three p.span (p.flags ++ p.more) (span_part_digits value p ids sampling h e) (second.1 ∙ span_cut p) in
    let last = leads_to p.flags p.more lead (flag_digits value p ids sampling h e) (more_ends p.version p.more h.more) third.1 in
    record { version_is = first.0; trace_is = second.0; span_is = third.0; flags_is = last.0; more_is = last.1 }

-- the parts that were cut out are those of the value
pub traceparent_told_by : (value version r trace s span t flags more : List ℕ) → value ≡ version ++ 45 ∷ r → r ≡ trace ++ 45 ∷ s → s ≡ span ++ 45 ∷ t → t ≡ flags ++ more
    → IsVersion version → IsMore version more → IsLowerPair flags → (ids : Ids) (sampling : Sampling) → SpellsInHex rules.ExactLower 32 trace ids.trace → SpellsInHex rules.ExactLower 16 span ids.span
    → ids.parent ≡ None → sampling ≡ flagged_sampling (digits_value 16 flags) → ReadsTraceparent value ids sampling
traceparent_told_by value version r trace s span t flags more e f g k is_version is_more pair ids sampling in_trace in_span none is = (
  record { version = version; trace = trace; span = span; flags = flags; more = more },
  record { version = is_version; trace = in_trace; span = in_span; parent = none; flags = pair; sampled = is; more = is_more },
  e ∙ ap (λ x. version ++ 45 ∷ x) (f ∙ ap (λ x. trace ++ 45 ∷ x) (g ∙ ap (λ x. span ++ 45 ∷ x) k)),
)

pub formed_same : (p : TraceparentParts) (ids : Ids) (sampling : Sampling) (version trace span flags more : List ℕ) → TellsTraceparent p ids sampling → SameParts p version trace span flags more → IsTraceparentForm version flags more
formed_same p ids sampling version trace span flags more h same =
    let one : IsVersion version = subst (λ x. IsVersion x) (sym same.version_is) h.version in
    let two : IsLowerPair flags = subst (λ x. IsLowerPair x) (sym same.flags_is) h.flags in
    let three : IsMore version p.more = subst (λ x. IsMore x p.more) (sym same.version_is) h.more in
    (one, two, subst (λ x. IsMore version x) (sym same.more_is) three)
