-- Values of `uber-trace-id`, part by part.
use Rattle.std.proofs.Common.{◌≡◌, ℕ, ◌<◌, List, [], ◌∷◌, ◌++◌, refl, ap, ◌∙◌, inl, arith}
use Rattle.std.specs.Prelude.{All, Option, Some, None}
use Rattle.std.specs.Char.{IsAsciiHexdigit}
use Rattle.std.specs.Str.Parse.{digits_value, digits_value_after}
use Rattle.std.proofs.lemmas.List.Elements.{All-head, All-tail, All-weaker}
use Rattle.span_ids.specs.HexTexts.{SpellsInHex}
use Rattle.span_ids.specs.declared.hex_text.IdRule.TheVariants as rules
use Rattle.propagation.specs.Uber.{IsColon, UberParts, TellsUber, ReadsUber, IsUberParent, IsUberFlags, uber_sampling, uber_parts_text}
use Rattle.propagation.specs.declared.ids.Ids.{Ids}
use Rattle.propagation.specs.declared.sampling.Sampling.{Sampling}
use Rattle.propagation.proofs.ReadLemmas.{spelled_digits}

-- whatever digits a colon ends in the text, these are they
abbrev pub ColonCutsOnly : List ℕ → List ℕ → List ℕ → Type 0
ColonCutsOnly text cut behind = (front colon rest : List ℕ) → All IsAsciiHexdigit front → IsColon colon → text ≡ front ++ (colon ++ rest) → (cut ≡ front) × (behind ≡ rest)

zero_is_hex : (c : ℕ) → c ≡ 48 → IsAsciiHexdigit c
zero_is_hex c e = inl (inl (omega arith, omega arith))

pub parent_digits : (text : List ℕ) (parent : Option ℕ) → IsUberParent text parent → All IsAsciiHexdigit text
parent_digits text None h = All-weaker (λ c. c ≡ 48) IsAsciiHexdigit zero_is_hex text h.2
parent_digits text (Some id) h = spelled_digits rules.Padded 16 text id h

-- zeros write zero, which is no identifier
zeros_after : (text : List ℕ) → All (λ c. c ≡ 48) text → digits_value_after 16 0 text ≡ 0
zeros_after [] h = refl
zeros_after (c ∷ text) h =
    let first : c ≡ 48 = All-head (λ c. c ≡ 48) c text h in
    rw first (zeros_after text (All-tail (λ c. c ≡ 48) c text h))

pub parent_once : (text : List ℕ) (parent : Option ℕ) → IsUberParent text None → IsUberParent text parent → None ≡ parent
parent_once text None h k = refl
parent_once text (Some id) h k =
    let zeros = zeros_after text h.2 in
    let above : 0 < digits_value 16 text = k.0.1 in
    absurd (omega (arith, zeros, above))

pub record SameUberParts (p : UberParts) (trace span parent flags : List ℕ) : Type 0 where
  pub trace_is : trace ≡ p.trace
  pub span_is : span ≡ p.span
  pub parent_is : parent ≡ p.parent
  pub flags_is : flags ≡ p.flags

-- what stands behind each part
pub after_first : UberParts → List ℕ
after_first p = p.span ++ (p.second ++ (p.parent ++ (p.third ++ p.flags)))

pub after_second : UberParts → List ℕ
after_second p = p.parent ++ (p.third ++ p.flags)

pub uber_first_cut : (value : List ℕ) (p : UberParts) → value ≡ uber_parts_text p → value ≡ p.trace ++ (p.first ++ after_first p)
unfolding after_first
uber_first_cut value p e = e

pub uber_second_cut : (p : UberParts) → after_first p ≡ p.span ++ (p.second ++ after_second p)
unfolding after_first after_second
uber_second_cut p = refl

pub uber_third_cut : (p : UberParts) → after_second p ≡ p.parent ++ (p.third ++ p.flags)
unfolding after_second
uber_third_cut p = refl

pub same_uber_parts : (value trace r span s parent flags : List ℕ) → ColonCutsOnly value trace r → ColonCutsOnly r span s → ColonCutsOnly s parent flags
    → (p : UberParts) (ids : Ids) (sampling : Sampling) → TellsUber p ids sampling → value ≡ uber_parts_text p → SameUberParts p trace span parent flags
same_uber_parts value trace r span s parent flags one two three p ids sampling h e =
    let first = one p.trace p.first (after_first p) (spelled_digits rules.Padded 32 p.trace ids.trace h.trace) h.first (uber_first_cut value p e) in
    let second = two p.span p.second (after_second p) (spelled_digits rules.Padded 16 p.span ids.span h.span) h.second (first.1 ∙ uber_second_cut p) in
    let third = three p.parent p.third p.flags (parent_digits p.parent ids.parent h.parent) h.third (second.1 ∙ uber_third_cut p) in
    record { trace_is = first.0; span_is = second.0; parent_is = third.0; flags_is = third.1 }

-- the parts that were cut out are those of the value
pub uber_told_by : (value trace first r span second s parent third flags : List ℕ) → IsColon first → IsColon second → IsColon third
    → value ≡ trace ++ (first ++ r) → r ≡ span ++ (second ++ s) → s ≡ parent ++ (third ++ flags)
    → (ids : Ids) (sampling : Sampling) → SpellsInHex rules.Padded 32 trace ids.trace → SpellsInHex rules.Padded 16 span ids.span → IsUberParent parent ids.parent
    → IsUberFlags flags → sampling ≡ uber_sampling (digits_value 16 flags) → ReadsUber value ids sampling
uber_told_by value trace first r span second s parent third flags a b c e f g ids sampling in_trace in_span in_parent in_flags is = (
  record { trace = trace; first = first; span = span; second = second; parent = parent; third = third; flags = flags },
  record { trace = in_trace; first = a; span = in_span; second = b; parent = in_parent; third = c; flags = in_flags; sampled = is },
  e ∙ ap (λ x. trace ++ (first ++ x)) (f ∙ ap (λ x. span ++ (second ++ x)) g),
)
