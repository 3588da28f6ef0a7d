-- Identifiers that a block tells lie in their ranges.
use Rattle.std.proofs.Common.{ℕ, ◌^◌, ◌<◌, ◌≤◌, inl, inr, List, [], ◌∷◌, length, Bool, Option, Some, None, sym, subst, arith}
use Rattle.std.proofs.Math.Nat as nat
use Rattle.std.specs.Prelude.{All}
use Rattle.std.specs.Char.{IsAsciiHexdigit, digit_value}
use Rattle.std.specs.Str.Parse.{AllDigits}
use Rattle.std.proofs.lemmas.Int.Digits.{digits_value-lt}
use Rattle.std.proofs.lemmas.List.Elements.{All-head, All-tail}
use Rattle.span_ids.specs.HexTexts.{IsOfRule, SpellsInHex}
use Rattle.span_ids.specs.Proper.{IsProperTraceId, IsProperSpanId, IsProperParent}
use Rattle.span_ids.specs.declared.hex_text.IdRule.{IdRule}
use Rattle.span_ids.specs.declared.hex_text.IdRule.TheVariants as rules
use Rattle.propagation.specs.B3.{ReadsB3, IsB3End}
use Rattle.propagation.specs.Blocks.{Header}
use Rattle.propagation.specs.Heads.{Head, TellsContext, TellsMultiIds}
use Rattle.propagation.specs.StatedLaws.{AreProperIds}
use Rattle.propagation.specs.Uber.{IsUberParent}
use Rattle.propagation.specs.declared.context.Context.{Context}
use Rattle.propagation.specs.declared.header_form.HeaderForm.{HeaderForm}
use Rattle.propagation.specs.declared.header_form.HeaderForm.TheVariants as forms
use Rattle.propagation.specs.declared.ids.Ids.{Ids}
use Rattle.propagation.specs.declared.sampling.Sampling.{Sampling}
use Rattle.propagation.specs.declared.sampling.Sampling.TheVariants.{Absent, No, Yes, Debug}
use Rattle.propagation.proofs.ReadLemmas.{rule_digits}

-- ---- what digits spell

digit_below : (c : ℕ) → IsAsciiHexdigit c → digit_value c < 16
digit_below c h = grind (arith)

all_digits : (text : List ℕ) → All IsAsciiHexdigit text → AllDigits 16 text
all_digits [] h = tt
all_digits (c ∷ text) h = (digit_below c (All-head IsAsciiHexdigit c text h), all_digits text (All-tail IsAsciiHexdigit c text h))

rule_length : (rule : IdRule) (full : ℕ) (text : List ℕ) → 16 ≤ full → IsOfRule rule full text → length text ≤ full
rule_length rules.Exact full text fits h = let same = h.0 in omega arith
rule_length rules.ExactLower full text fits h = let same = h.0 in omega arith
rule_length rules.Half full text fits (inl half, digits) = omega (arith, half)
rule_length rules.Half full text fits (inr whole, digits) = omega (arith, whole)
rule_length rules.Padded full text fits h = h.1

spelled_below : (rule : IdRule) (full : ℕ) (text : List ℕ) (id : ℕ) → 16 ≤ full → SpellsInHex rule full text id → (0 < id) × (id < 16 ^ full)
spelled_below rule full text id fits ((of_rule, some), is) =
    let below = digits_value-lt 16 text (all_digits text (rule_digits rule full text of_rule)) in
    let wider = nat.pow-le-pow_right {n = 16} (omega arith) {i = length text} {j = full} (rule_length rule full text fits of_rule) in
    subst (λ (n : ℕ). (0 < n) × (n < 16 ^ full)) (sym is) (some, omega arith)

proper_trace : (rule : IdRule) (text : List ℕ) (id : ℕ) → SpellsInHex rule 32 text id → IsProperTraceId id
proper_trace rule text id h = spelled_below rule 32 text id (omega arith) h

proper_span : (rule : IdRule) (text : List ℕ) (id : ℕ) → SpellsInHex rule 16 text id → IsProperSpanId id
proper_span rule text id h = spelled_below rule 16 text id (omega arith) h

-- ---- form by form

proper_end : (end : List ℕ) (sampling : Sampling) (parent : Option ℕ) → IsB3End end sampling parent → IsProperParent parent
proper_end end sampling None h = tt
proper_end end Absent (Some id) (state, parent, is, spelled, whole) = proper_span rules.Exact parent id spelled
proper_end end No (Some id) (state, parent, is, spelled, whole) = proper_span rules.Exact parent id spelled
proper_end end Yes (Some id) (state, parent, is, spelled, whole) = proper_span rules.Exact parent id spelled
proper_end end Debug (Some id) (state, parent, is, spelled, whole) = proper_span rules.Exact parent id spelled

proper_b3 : (value : List ℕ) (ids : Option Ids) (sampling : Sampling) → ReadsB3 value ids sampling → AreProperIds ids
proper_b3 value None sampling h = tt
proper_b3 value (Some ids) sampling (trace, span, end, trace_is, span_is, end_is, whole) = record {
  trace = proper_trace rules.Half trace ids.trace trace_is;
  span = proper_span rules.Exact span ids.span span_is;
  parent = proper_end end sampling ids.parent end_is;
}

proper_multi : (trace span parent : Option (List ℕ)) (ids : Option Ids) → TellsMultiIds trace span parent ids → AreProperIds ids
proper_multi None None None ids none = subst AreProperIds (sym none) tt
proper_multi None None (Some parent) ids h = absurd h
proper_multi None (Some span) parent ids h = absurd h
proper_multi (Some trace) None parent ids h = absurd h
proper_multi (Some trace) (Some span) None ids (told, trace_is, span_is, parent_is, is) = subst AreProperIds (sym is) (record {
  trace = proper_trace rules.Half trace told.trace trace_is;
  span = proper_span rules.Exact span told.span span_is;
  parent = subst IsProperParent (sym parent_is) tt;
})
proper_multi (Some trace) (Some span) (Some parent) ids (told, trace_is, span_is, (id, spelled, parent_is), is) = subst AreProperIds (sym is) (record {
  trace = proper_trace rules.Half trace told.trace trace_is;
  span = proper_span rules.Exact span told.span span_is;
  parent = subst IsProperParent (sym parent_is) (proper_span rules.Exact parent id spelled);
})

proper_parent : (text : List ℕ) (parent : Option ℕ) → IsUberParent text parent → IsProperParent parent
proper_parent text None h = tt
proper_parent text (Some id) h = proper_span rules.Padded text id h

proper_told : (form : HeaderForm) (headers : List Header) (c : Context) (dropped : Bool) → TellsContext form headers c dropped → AreProperIds c.ids
proper_told forms.W3c headers c dropped (value, ids, once, (parts, tells, whole), are, state) = subst AreProperIds (sym are) (record {
  trace = proper_trace rules.ExactLower parts.trace ids.trace tells.trace;
  span = proper_span rules.ExactLower parts.span ids.span tells.span;
  parent = subst IsProperParent (sym tells.parent) tt;
})
proper_told forms.B3 headers c dropped (value, once, reads, none, kept) = proper_b3 value c.ids c.sampling reads
proper_told forms.B3Multi headers c dropped (tells, none, kept) = proper_multi tells.trace tells.span tells.parent c.ids tells.ids_told
proper_told forms.Uber headers c dropped (value, ids, once, (parts, tells, whole), are, none, kept) = subst AreProperIds (sym are) (record {
  trace = proper_trace rules.Padded parts.trace ids.trace tells.trace;
  span = proper_span rules.Padded parts.span ids.span tells.span;
  parent = proper_parent parts.parent ids.parent tells.parent;
})

pub head_proper : (block : List ℕ) (c : Context) (dropped : Bool) → Head c dropped block → AreProperIds c.ids
head_proper block c dropped head = proper_told head.form head.headers c dropped head.tells
