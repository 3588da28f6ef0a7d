-- Values that are written are of their forms.
use Rattle.std.proofs.Common.{◌≡◌, ℕ, List, [], ◌∷◌, ◌++◌, refl, sym, ap, inl, arith}
use Rattle.std.specs.Prelude.{Option, Some, None, codes}
use Rattle.std.specs.List.{join_with_byte}
use Rattle.std.specs.Char.{IsAsciiHexdigit}
use Rattle.std.specs.Str.Parse.{digits_value}
use Rattle.std.proofs.lemmas.List.{append-nil}
use Rattle.std.proofs.lemmas.List.Elements.{All-cons, All-nil}
use Rattle.span_ids.specs.HexTexts.{IsLowerDigit, SpellsInHex}
use Rattle.span_ids.specs.declared.hex_text.IdRule.{IdRule}
use Rattle.span_ids.specs.declared.hex_text.IdRule.TheVariants as rules
use Rattle.span_ids.specs.StatedLaws.{IdentifiersReadBack}
use Rattle.span_ids.specs.Proper.{IsProperTraceId, IsProperSpanId, IsProperParent}
use Rattle.propagation.specs.Digits.{dash, trace_digits, span_digits}
use Rattle.propagation.specs.Traceparent.{TraceparentParts, IsLowerPair, IsVersion, ReadsTraceparent, traceparent_text, traceparent_ids, traceparent_sampling}
use Rattle.propagation.specs.B3.{ReadsB3, IsB3End, HoldsB3, b3_end, b3_parent, b3_text, b3_ids}
use Rattle.propagation.specs.Uber.{UberParts, ReadsUber, IsUberParent, IsUberFlags, uber_parent, uber_flags, uber_sampling, uber_text, told_sampling}
use Rattle.propagation.specs.StatedLaws.{IsProperIds, AreProperIds}
use Rattle.propagation.specs.declared.ids.Ids.{Ids}
use Rattle.propagation.specs.declared.sampling.Sampling.{Sampling}
use Rattle.propagation.specs.declared.sampling.Sampling.TheVariants.{Absent, No, Yes, Debug}

pub trace_digits_spelled : IdentifiersReadBack → (rule : IdRule) (id : ℕ) → IsProperTraceId id → SpellsInHex rule 32 (trace_digits id) id
trace_digits_spelled L rule id h = L.trace_in_hex rule id h.0 h.1

pub span_digits_spelled : IdentifiersReadBack → (rule : IdRule) (id : ℕ) → IsProperSpanId id → SpellsInHex rule 16 (span_digits id) id
span_digits_spelled L rule id h = L.span_in_hex rule id h.0 h.1

-- ---- traceparent

lower_pair : (a b : ℕ) → IsLowerDigit a → IsLowerDigit b → IsLowerPair (a ∷ b ∷ [])
lower_pair a b h k = (refl, All-cons IsLowerDigit a (b ∷ []) h (All-cons IsLowerDigit b [] k (All-nil IsLowerDigit)))

zero_is_lower : IsLowerDigit 48
zero_is_lower = inl (omega arith, omega arith)

one_is_lower : IsLowerDigit 49
one_is_lower = inl (omega arith, omega arith)

first_version : IsVersion (codes "00")
first_version = (lower_pair 48 48 zero_is_lower zero_is_lower, λ e. cc)

version_parts : Ids → List ℕ → TraceparentParts
version_parts ids flags = record { version = codes "00"; trace = trace_digits ids.trace; span = span_digits ids.span; flags = flags; more = [] }

pub traceparent_back : IdentifiersReadBack → (ids : Ids) (sampling : Sampling) → IsProperIds ids → ReadsTraceparent (traceparent_text ids sampling) (traceparent_ids ids) (traceparent_sampling sampling)
unfolding version_parts
traceparent_back L ids Absent h = (version_parts ids (codes "00"), record { version = first_version; trace = trace_digits_spelled L rules.ExactLower ids.trace h.trace; span = span_digits_spelled L rules.ExactLower ids.span h.span; parent = refl; flags = lower_pair 48 48 zero_is_lower zero_is_lower; sampled = refl; more = tt }, refl)
traceparent_back L ids No h = (version_parts ids (codes "00"), record { version = first_version; trace = trace_digits_spelled L rules.ExactLower ids.trace h.trace; span = span_digits_spelled L rules.ExactLower ids.span h.span; parent = refl; flags = lower_pair 48 48 zero_is_lower zero_is_lower; sampled = refl; more = tt }, refl)
traceparent_back L ids Yes h = (version_parts ids (codes "01"), record { version = first_version; trace = trace_digits_spelled L rules.ExactLower ids.trace h.trace; span = span_digits_spelled L rules.ExactLower ids.span h.span; parent = refl; flags = lower_pair 48 49 zero_is_lower one_is_lower; sampled = refl; more = tt }, refl)
traceparent_back L ids Debug h = (version_parts ids (codes "01"), record { version = first_version; trace = trace_digits_spelled L rules.ExactLower ids.trace h.trace; span = span_digits_spelled L rules.ExactLower ids.span h.span; parent = refl; flags = lower_pair 48 49 zero_is_lower one_is_lower; sampled = refl; more = tt }, refl)

-- ---- b3

-- what stands behind SpanId where it is written
end_text : Sampling → Option ℕ → List ℕ
end_text Absent parent = []
end_text No None = 45 ∷ codes "0"
end_text No (Some id) = 45 ∷ (codes "0" ++ 45 ∷ span_digits id)
end_text Yes None = 45 ∷ codes "1"
end_text Yes (Some id) = 45 ∷ (codes "1" ++ 45 ∷ span_digits id)
end_text Debug None = 45 ∷ codes "d"
end_text Debug (Some id) = 45 ∷ (codes "d" ++ 45 ∷ span_digits id)

end_joined : (trace span : List ℕ) (sampling : Sampling) (parent : Option ℕ)
    → join_with_byte dash (trace ∷ span ∷ b3_end sampling parent) ≡ join_with_byte dash (trace ∷ (span ++ end_text sampling parent) ∷ [])
unfolding end_text
end_joined trace span Absent parent = ap (λ s. trace ++ 45 ∷ s) (sym (append-nil span))
end_joined trace span No None = refl
end_joined trace span No (Some id) = refl
end_joined trace span Yes None = refl
end_joined trace span Yes (Some id) = refl
end_joined trace span Debug None = refl
end_joined trace span Debug (Some id) = refl

end_told : IdentifiersReadBack → (sampling : Sampling) (parent : Option ℕ) → IsProperParent parent → IsB3End (end_text sampling parent) sampling (b3_parent sampling parent)
unfolding end_text
end_told L Absent parent h = refl
end_told L No None h = (codes "0", refl, refl)
end_told L No (Some id) h = (codes "0", span_digits id, refl, span_digits_spelled L rules.Exact id h, refl)
end_told L Yes None h = (codes "1", refl, refl)
end_told L Yes (Some id) h = (codes "1", span_digits id, refl, span_digits_spelled L rules.Exact id h, refl)
end_told L Debug None h = (codes "d", refl, refl)
end_told L Debug (Some id) h = (codes "d", span_digits id, refl, span_digits_spelled L rules.Exact id h, refl)

pub b3_back : IdentifiersReadBack → (ids : Option Ids) (sampling : Sampling) → AreProperIds ids → HoldsB3 ids sampling → ReadsB3 (b3_text ids sampling) (b3_ids ids sampling) sampling
b3_back L None Absent h held = absurd held
b3_back L None No h held = refl
b3_back L None Yes h held = refl
b3_back L None Debug h held = refl
b3_back L (Some ids) sampling h held = (
  trace_digits ids.trace,
  span_digits ids.span,
  end_text sampling ids.parent,
  trace_digits_spelled L rules.Half ids.trace h.trace,
  span_digits_spelled L rules.Exact ids.span h.span,
  end_told L sampling ids.parent h.parent,
  end_joined (trace_digits ids.trace) (span_digits ids.span) sampling ids.parent,
)

-- ---- uber-trace-id

uber_parts : Ids → Sampling → UberParts
uber_parts ids sampling = record { trace = trace_digits ids.trace; first = codes ":"; span = span_digits ids.span; second = codes ":"; parent = uber_parent ids.parent; third = codes ":"; flags = uber_flags sampling }

parent_told : IdentifiersReadBack → (parent : Option ℕ) → IsProperParent parent → IsUberParent (uber_parent parent) parent
parent_told L None h = (omega arith, omega arith, All-cons (λ c. c ≡ 48) 48 [] refl (All-nil (λ c. c ≡ 48)))
parent_told L (Some id) h = span_digits_spelled L rules.Padded id h

one_flag : (c : ℕ) → IsAsciiHexdigit c → IsUberFlags (c ∷ [])
one_flag c h = (omega arith, omega arith, All-cons IsAsciiHexdigit c [] h (All-nil IsAsciiHexdigit))

flags_told : (sampling : Sampling) → IsUberFlags (uber_flags sampling)
flags_told Absent = one_flag 48 (inl (inl (omega arith, omega arith)))
flags_told No = one_flag 48 (inl (inl (omega arith, omega arith)))
flags_told Yes = one_flag 49 (inl (inl (omega arith, omega arith)))
flags_told Debug = one_flag 51 (inl (inl (omega arith, omega arith)))

sampling_told : (sampling : Sampling) → told_sampling sampling ≡ uber_sampling (digits_value 16 (uber_flags sampling))
sampling_told Absent = refl
sampling_told No = refl
sampling_told Yes = refl
sampling_told Debug = refl

pub uber_back : IdentifiersReadBack → (ids : Ids) (sampling : Sampling) → IsProperIds ids → ReadsUber (uber_text ids sampling) ids (told_sampling sampling)
unfolding uber_parts
uber_back L ids sampling h = (
  uber_parts ids sampling,
  record {
    trace = trace_digits_spelled L rules.Padded ids.trace h.trace;
    first = inl refl;
    span = span_digits_spelled L rules.Padded ids.span h.span;
    second = inl refl;
    parent = parent_told L ids.parent h.parent;
    third = inl refl;
    flags = flags_told sampling;
    sampled = sampling_told sampling;
  },
  refl,
)
