-- Header lines, part by part.
use Rattle.std.proofs.Common.{◌≡◌, ◌≢◌, ◌≤◌, ℕ, List, [], ◌∷◌, ◌++◌, length, ap, subst, arith}
use Rattle.propagation.specs.Fronts.{Leads}
use Rattle.propagation.specs.private.Trimming.{Trims}
use Rattle.propagation.specs.Blocks.{Header, HeaderLine, HasHeaders, IsNameByte, IsHeaderLine, header_line_text}
use Rattle.propagation.specs.Blocks.HeaderLine.{empty, told}
use Rattle.propagation.specs.private.HeaderLines.{CutsLine, HeadersThen, IsToldLine}
use Rattle.propagation.proofs.FrontLemmas.{leads_to}
use Rattle.propagation.proofs.TrimLemmas.{trims_once}
use Rattle.propagation.proofs.OneBlock.{no_name_colon, line_trims, first_line, line_then, then_on, then_none, then_all, nothing_has}

module _ (h : Header) (before after line : List ℕ) (is : IsToldLine h before after line) where
  pub told_cut : (name rest : List ℕ) → Leads IsNameByte line name rest → (name ≡ h.name) × (rest ≡ 58 ∷ (before ++ (h.value ++ after)))
  told_cut name rest lead = leads_to h.name (58 ∷ (before ++ (h.value ++ after))) lead is.0.0.name.1 no_name_colon is.1

  pub told_value : (text value : List ℕ) → text ≡ before ++ (h.value ++ after) → Trims text value → value ≡ h.value
  told_value text value e trims = trims_once (subst (λ s. Trims s value) e trims) (line_trims h before after is.0)

  pub named : h.name ≡ [] → ⊥
  named e = let some : 1 ≤ length h.name = is.0.0.name.0 in omega (arith, ap length e)

no_line : (line : List ℕ) → line ≢ [] → ((h : Header) (before after : List ℕ) → IsToldLine h before after line → ⊥) → (l : HeaderLine) → IsHeaderLine l → line ≡ header_line_text l → ⊥
no_line line some none empty formed e = some e
no_line line some none (told h before after) formed e = none h before after (formed, e)

-- a line that isn't empty, and tells no header
pub bad_line : (text line rest : List ℕ) → CutsLine text line rest → line ≢ [] → ((h : Header) (before after : List ℕ) → IsToldLine h before after line → ⊥) → (headers : List Header) → ¬ (HasHeaders text headers)
bad_line text line rest cut some none headers has =
    let first = first_line text line rest headers cut has in
    no_line line some none first.told_line first.formed first.line_is

-- ---- a walk over lines, of which those before the rest are empty

module _ (text rest line next : List ℕ) (before : HeadersThen text [] rest) (cut : CutsLine rest line next) where
  pub passed : line ≡ [] → HeadersThen text [] next
  passed none = then_on text [] rest [] next before (line_then rest line next empty cut tt none)

  pub first_told : (h : Header) (front behind : List ℕ) → IsToldLine h front behind line → HeadersThen text (h ∷ []) next
  first_told h front behind is = then_on text [] rest (h ∷ []) next before (line_then rest line next (told h front behind) cut is.0 is.1)

  pub refused : line ≢ [] → ((h : Header) (front behind : List ℕ) → IsToldLine h front behind line → ⊥) → (headers : List Header) → ¬ (HasHeaders text headers)
  refused some none = then_none text [] rest before (bad_line rest line next cut some none)

pub all_passed : (text rest : List ℕ) → HeadersThen text [] rest → rest ≡ [] → HasHeaders text []
all_passed text rest before none = then_all text [] rest before (nothing_has rest none)
