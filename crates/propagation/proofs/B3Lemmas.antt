-- Values of `b3`, part by part.
use Rattle.std.proofs.Common.{◌≡◌, ◌≢◌, ℕ, List, [], ◌∷◌, ◌++◌, refl, sym, ap, subst, ◌∙◌, inl, inr, arith}
use Rattle.std.specs.Prelude.{All, Option, Some, None}
use Rattle.std.specs.Char.{IsAsciiHexdigit}
use Rattle.std.proofs.lemmas.List.{append-nil}
use Rattle.std.proofs.lemmas.List.Elements.{All-cons, All-nil, All-same}
use Rattle.span_ids.specs.HexTexts.{SpellsInHex}
use Rattle.span_ids.specs.declared.hex_text.IdRule.TheVariants as rules
use Rattle.propagation.specs.Fronts.{BeginsWithout, Leads}
use Rattle.propagation.specs.B3.{IsB3State, IsB3End, ReadsB3}
use Rattle.propagation.specs.declared.ids.Ids.{Ids}
use Rattle.propagation.specs.declared.sampling.Sampling.{Sampling}
use Rattle.propagation.specs.declared.sampling.Sampling.TheVariants.{Absent, No, Yes, Debug}
use Rattle.propagation.proofs.FrontLemmas.{leads_to, leads_all, leads_whole}
use Rattle.propagation.proofs.ReadLemmas.{dash_ends, spelled_digits}

-- ---- the state

one_hex : (c : ℕ) → IsAsciiHexdigit c → All IsAsciiHexdigit (c ∷ [])
one_hex c h = All-cons IsAsciiHexdigit c [] h (All-nil IsAsciiHexdigit)

pub state_digits : (text : List ℕ) (sampling : Sampling) → IsB3State text sampling → All IsAsciiHexdigit text
state_digits text Absent h = absurd h
state_digits text No h = All-same IsAsciiHexdigit text (48 ∷ []) h (one_hex 48 (inl (inl (omega arith, omega arith))))
state_digits text Yes h = All-same IsAsciiHexdigit text (49 ∷ []) h (one_hex 49 (inl (inl (omega arith, omega arith))))
state_digits text Debug h = All-same IsAsciiHexdigit text (100 ∷ []) h (one_hex 100 (inr (omega arith, omega arith)))

-- ---- what stands behind SpanId

-- a parent behind a dash, or nothing
abbrev pub IsParentBehind : List ℕ → Option ℕ → Type 0
IsParentBehind rest None = rest ≡ []
IsParentBehind rest (Some id) = (parent : List ℕ) × SpellsInHex rules.Exact 16 parent id × (rest ≡ 45 ∷ parent)

-- a state, and then perhaps a parent
pub record StateThen (end : List ℕ) (sampling : Sampling) (parent : Option ℕ) : Type 0 where
  pub state : List ℕ
  pub rest : List ℕ
  pub told : IsB3State state sampling
  pub behind : IsParentBehind rest parent
  pub whole : end ≡ 45 ∷ (state ++ rest)

state_alone : (end : List ℕ) (sampling : Sampling) (state : List ℕ) → IsB3State state sampling → end ≡ 45 ∷ state → StateThen end sampling None
state_alone end sampling state told e = record { state = state; rest = []; told = told; behind = refl; whole = e ∙ ap (λ s. 45 ∷ s) (sym (append-nil state)) }

state_and : (end : List ℕ) (sampling : Sampling) (id : ℕ) (state parent : List ℕ) → IsB3State state sampling → SpellsInHex rules.Exact 16 parent id → end ≡ 45 ∷ (state ++ 45 ∷ parent) → StateThen end sampling (Some id)
state_and end sampling id state parent told spelled e = record { state = state; rest = 45 ∷ parent; told = told; behind = (parent, spelled, refl); whole = e }

pub state_then : (end : List ℕ) (sampling : Sampling) (parent : Option ℕ) → IsB3End end sampling parent → end ≢ [] → StateThen end sampling parent
state_then end Absent None h some = absurd (some h)
state_then end Absent (Some id) (state, parent, told, spelled, e) some = absurd told
state_then end No None (state, told, e) some = state_alone end No state told e
state_then end No (Some id) (state, parent, told, spelled, e) some = state_and end No id state parent told spelled e
state_then end Yes None (state, told, e) some = state_alone end Yes state told e
state_then end Yes (Some id) (state, parent, told, spelled, e) some = state_and end Yes id state parent told spelled e
state_then end Debug None (state, told, e) some = state_alone end Debug state told e
state_then end Debug (Some id) (state, parent, told, spelled, e) some = state_and end Debug id state parent told spelled e

pub behind_ends : (rest : List ℕ) (parent : Option ℕ) → IsParentBehind rest parent → BeginsWithout IsAsciiHexdigit rest
behind_ends rest None e = rw e tt
behind_ends rest (Some id) (parent, spelled, e) = rw e dash_ends

pub end_ends : (end : List ℕ) (sampling : Sampling) (parent : Option ℕ) → IsB3End end sampling parent → BeginsWithout IsAsciiHexdigit end
end_ends [] sampling parent h = tt
end_ends (c ∷ end) sampling parent h =
    let view = state_then (c ∷ end) sampling parent h (λ e. cc) in
    let first : c ≡ 45 = cc (view.whole) in
    rw first dash_ends

-- ---- the whole value

pub state_same : (text other : List ℕ) (sampling : Sampling) → text ≡ other → IsB3State other sampling → IsB3State text sampling
state_same text other sampling e h = subst (λ x. IsB3State x sampling) (sym e) h

pub end_same : (text other : List ℕ) (sampling : Sampling) (parent : Option ℕ) → text ≡ other → IsB3End other sampling parent → IsB3End text sampling parent
end_same text other sampling parent e h = subst (λ x. IsB3End x sampling parent) (sym e) h

-- a value that has identifiers, whose first digits were cut off
pub record Paired (trace rest : List ℕ) (ids : Option Ids) (sampling : Sampling) : Type 0 where
  pub told : Ids
  pub span : List ℕ
  pub end : List ℕ
  pub ids_is : ids ≡ Some told
  pub in_trace : SpellsInHex rules.Half 32 trace told.trace
  pub in_span : SpellsInHex rules.Exact 16 span told.span
  pub in_end : IsB3End end sampling told.parent
  pub whole : rest ≡ 45 ∷ (span ++ end)

pub with_ids : (value trace rest : List ℕ) → Leads IsAsciiHexdigit value trace rest → (ids : Ids) (sampling : Sampling) → ReadsB3 value (Some ids) sampling → Paired trace rest (Some ids) sampling
with_ids value trace rest lead ids sampling (t, s, end, in_trace, in_span, in_end, e) =
    let same = leads_to t (45 ∷ (s ++ end)) lead (spelled_digits rules.Half 32 t ids.trace in_trace) dash_ends e in
    record { told = ids; span = s; end = end; ids_is = refl; in_trace = subst (λ x. SpellsInHex rules.Half 32 x ids.trace) (sym same.0) in_trace; in_span = in_span; in_end = in_end; whole = same.1 }

-- nothing stands behind the first digits: they are a state
pub only_state : (value trace rest : List ℕ) → Leads IsAsciiHexdigit value trace rest → rest ≡ [] → (ids : Option Ids) (sampling : Sampling) → ReadsB3 value ids sampling → (None ≡ ids) × IsB3State trace sampling
only_state value trace rest lead none None sampling h = (refl, state_same trace value sampling (sym (leads_whole lead none)) h)
only_state value trace rest lead none (Some ids) sampling h =
    let p = with_ids value trace rest lead ids sampling h in
    let k = sym none ∙ p.whole in
    absurd (let bad : ⊥ = cc in bad)

-- something stands behind them: they are an identifier
pub has_ids : (value trace rest : List ℕ) → Leads IsAsciiHexdigit value trace rest → rest ≢ [] → (ids : Option Ids) (sampling : Sampling) → ReadsB3 value ids sampling → Paired trace rest ids sampling
has_ids value trace rest lead some None sampling h = absurd (some (leads_all lead (state_digits value sampling h)).1)
has_ids value trace rest lead some (Some ids) sampling h = with_ids value trace rest lead ids sampling h
