-- The one header `b3` (B3 propagation, "Single Header"): TraceId "-" SpanId "-" SamplingState "-" ParentSpanId, of which the last two may be
-- left out, or SamplingState alone.
use Rattle.std.specs.Prelude.{◌≡◌, ℕ, List, [], ◌∷◌, ◌++◌, codes, Option, Some, None}
use Rattle.std.specs.List.{join_with_byte}
use Rattle.span_ids.specs.HexTexts.{SpellsInHex}
use Rattle.span_ids.specs.declared.hex_text.IdRule.TheVariants.{Exact, Half}
use Rattle.propagation.specs.Digits.{dash, trace_digits, span_digits}
use Rattle.propagation.specs.declared.ids.Ids.{Ids}
use Rattle.propagation.specs.declared.sampling.Sampling.{Sampling}
use Rattle.propagation.specs.declared.sampling.Sampling.TheVariants.{Absent, No, Yes, Debug}

-- SamplingState is one character: not recorded, recorded, or debug
abbrev pub IsB3State : List ℕ → Sampling → Type 0
IsB3State text Absent = ⊥
IsB3State text No = text ≡ codes "0"
IsB3State text Yes = text ≡ codes "1"
IsB3State text Debug = text ≡ codes "d"

-- what stands behind SpanId: nothing, or a state, or a state and a parent
abbrev pub IsB3End : List ℕ → Sampling → Option ℕ → Type 0
IsB3End end Absent None = end ≡ []
IsB3End end sampling None = (state : List ℕ) × IsB3State state sampling × (end ≡ dash ∷ state)
IsB3End end sampling (Some id) =
    (state parent : List ℕ) × IsB3State state sampling × SpellsInHex Exact 16 parent id
    × (end ≡ dash ∷ join_with_byte dash (state ∷ parent ∷ []))

-- the value is of the form, and tells these identifiers, if any, and this sampling
abbrev pub ReadsB3 : List ℕ → Option Ids → Sampling → Type 0
ReadsB3 value None sampling = IsB3State value sampling
ReadsB3 value (Some ids) sampling =
    (trace span end : List ℕ) × SpellsInHex Half 32 trace ids.trace × SpellsInHex Exact 16 span ids.span × IsB3End end sampling ids.parent
    × (value ≡ join_with_byte dash (trace ∷ (span ++ end) ∷ []))

-- ---- what is written

-- SamplingState as it is written: one character, or nothing where nothing is said of sampling
abbrev pub b3_state : Sampling → List ℕ
b3_state Absent = []
b3_state No = codes "0"
b3_state Yes = codes "1"
b3_state Debug = codes "d"

-- the parts behind SpanId: a parent without a state is left out
abbrev pub b3_end : Sampling → Option ℕ → List (List ℕ)
b3_end Absent parent = []
b3_end sampling None = b3_state sampling ∷ []
b3_end sampling (Some id) = b3_state sampling ∷ span_digits id ∷ []

-- the value of `b3`: the identifiers in all their digits with what stands behind them, or the state alone where there are none
abbrev pub b3_text : Option Ids → Sampling → List ℕ
b3_text None sampling = b3_state sampling
b3_text (Some ids) sampling = join_with_byte dash (trace_digits ids.trace ∷ span_digits ids.span ∷ b3_end sampling ids.parent)

-- what the form holds of a parent
abbrev pub b3_parent : Sampling → Option ℕ → Option ℕ
b3_parent Absent parent = None
b3_parent sampling parent = parent

-- what the form holds of identifiers: all but a parent that would stand without a state
abbrev pub b3_ids : Option Ids → Sampling → Option Ids
b3_ids None sampling = None
b3_ids (Some ids) sampling = Some (record ids { parent = b3_parent sampling ids.parent })

-- there are identifiers, or a state
abbrev pub HoldsB3 : Option Ids → Sampling → Type 0
HoldsB3 None Absent = ⊥
HoldsB3 ids sampling = Unit {0}
