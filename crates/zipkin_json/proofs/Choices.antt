-- A text spells one identifier, parent or kind, or none.
use Rattle.std.proofs.Common.{◌≡◌, ℕ, ◌≤◌, inl, inr, List, Option, Some, None, length, codes, refl, sym, ap, arith}
use Rattle.std.specs.List.{All}
use Rattle.std.specs.Char.{IsAsciiHexdigit}
use Rattle.std.specs.Str.Parse.{digits_value}
use Rattle.span_ids.specs.HexTexts.{SpellsInHex}
use Rattle.span_ids.specs.declared.hex_text.IdRule.TheVariants.{Padded}
use Rattle.json_members.proofs.ChoiceLaws.{Choice, at_most_chosen, both, all_of, hex_digit, zero_digit, same_text_chosen, SpellsOne, apart}
use Rattle.json_members.proofs.ChoiceLaws.{zeros_value}
use Rattle.zipkin_json.specs.Identifiers.{SpellsTrace, SpellsSpan, AreZeros, SpellsParent}
use Rattle.zipkin_json.specs.Span.{SpellsKind}
use Rattle.zipkin_json.specs.declared.span.ZKind.{ZKind}
use Rattle.zipkin_json.specs.declared.span.ZKind.TheVariants as kinds

padded : (full : ℕ) (text : List ℕ) → SpellsOne (λ t id. SpellsInHex Padded full t id) text
padded full text =
    on (both (both (at_most_chosen 1 (length text)) (both (at_most_chosen (length text) full) (all_of IsAsciiHexdigit hex_digit text))) (at_most_chosen 1 (digits_value 16 text)))
  where
    on : Choice (((1 ≤ length text) × ((length text ≤ full) × All IsAsciiHexdigit text)) × (1 ≤ digits_value 16 text)) → SpellsOne (λ t id. SpellsInHex Padded full t id) text
    on (inl h) = inl (digits_value 16 text, (((h.0.0, h.0.1.0, h.0.1.1), (let k = h.1 in omega arith)), refl), (λ y k. sym k.1))
    on (inr fails) = inr (λ y k. fails ((k.0.0.0, (k.0.0.1, k.0.0.2)), (let positive = k.0.1 in omega arith)))

pub trace_chosen : (text : List ℕ) → SpellsOne SpellsTrace text
trace_chosen text = padded 32 text

pub span_chosen : (text : List ℕ) → SpellsOne SpellsSpan text
span_chosen text = padded 16 text

pub parent_chosen : (text : List ℕ) → SpellsOne SpellsParent text
parent_chosen text = on (both (at_most_chosen 1 (length text)) (both (at_most_chosen (length text) 16) (all_of (λ digit. digit ≡ 48) zero_digit text))) (span_chosen text)
  where
    zeros_only : AreZeros text → (id : ℕ) → SpellsSpan text id → ⊥
    zeros_only zeros id h = let none = zeros_value text zeros.2 in let positive = h.0.1 in omega arith

    only_none : AreZeros text → (y : Option ℕ) → SpellsParent text y → None ≡ y
    only_none zeros None h = refl
    only_none zeros (Some id) h = absurd (zeros_only zeros id h)

    only_some : (AreZeros text → ⊥) → (id : ℕ) → ((y : ℕ) → SpellsSpan text y → id ≡ y) → (y : Option ℕ) → SpellsParent text y → Some id ≡ y
    only_some fails id only None h = absurd (fails h)
    only_some fails id only (Some y) h = ap Some (only y h)

    never : (AreZeros text → ⊥) → ((y : ℕ) → SpellsSpan text y → ⊥) → (y : Option ℕ) → SpellsParent text y → ⊥
    never fails no_id None h = fails h
    never fails no_id (Some y) h = no_id y h

    on : Choice ((1 ≤ length text) × ((length text ≤ 16) × All (λ digit. digit ≡ 48) text)) → SpellsOne SpellsSpan text → SpellsOne SpellsParent text
    on (inl h) id = let zeros : AreZeros text = (h.0, h.1.0, h.1.1) in inl (None, zeros, only_none zeros)
    on (inr fails) (inl h) = let apart_zeros = λ (z : AreZeros text). fails (z.0, (z.1, z.2)) in inl (Some h.0, h.1, only_some apart_zeros h.0 h.2)
    on (inr fails) (inr no_id) = inr (never (λ z. fails (z.0, (z.1, z.2))) no_id)

kind_once : (text : List ℕ) (k l : ZKind) → SpellsKind text k → SpellsKind text l → k ≡ l
kind_once text kinds.Absent l h m = absurd h
kind_once text kinds.Client kinds.Absent h m = absurd m
kind_once text kinds.Client kinds.Client h m = refl
kind_once text kinds.Client kinds.Server h m = absurd (apart text (codes "CLIENT") (codes "SERVER") refl h m)
kind_once text kinds.Client kinds.Producer h m = absurd (apart text (codes "CLIENT") (codes "PRODUCER") refl h m)
kind_once text kinds.Client kinds.Consumer h m = absurd (apart text (codes "CLIENT") (codes "CONSUMER") refl h m)
kind_once text kinds.Server kinds.Absent h m = absurd m
kind_once text kinds.Server kinds.Client h m = absurd (apart text (codes "SERVER") (codes "CLIENT") refl h m)
kind_once text kinds.Server kinds.Server h m = refl
kind_once text kinds.Server kinds.Producer h m = absurd (apart text (codes "SERVER") (codes "PRODUCER") refl h m)
kind_once text kinds.Server kinds.Consumer h m = absurd (apart text (codes "SERVER") (codes "CONSUMER") refl h m)
kind_once text kinds.Producer kinds.Absent h m = absurd m
kind_once text kinds.Producer kinds.Client h m = absurd (apart text (codes "PRODUCER") (codes "CLIENT") refl h m)
kind_once text kinds.Producer kinds.Server h m = absurd (apart text (codes "PRODUCER") (codes "SERVER") refl h m)
kind_once text kinds.Producer kinds.Producer h m = refl
kind_once text kinds.Producer kinds.Consumer h m = absurd (apart text (codes "PRODUCER") (codes "CONSUMER") refl h m)
kind_once text kinds.Consumer kinds.Absent h m = absurd m
kind_once text kinds.Consumer kinds.Client h m = absurd (apart text (codes "CONSUMER") (codes "CLIENT") refl h m)
kind_once text kinds.Consumer kinds.Server h m = absurd (apart text (codes "CONSUMER") (codes "SERVER") refl h m)
kind_once text kinds.Consumer kinds.Producer h m = absurd (apart text (codes "CONSUMER") (codes "PRODUCER") refl h m)
kind_once text kinds.Consumer kinds.Consumer h m = refl

pub kind_chosen : (text : List ℕ) → SpellsOne SpellsKind text
kind_chosen text = on (same_text_chosen text (codes "CLIENT")) (same_text_chosen text (codes "SERVER")) (same_text_chosen text (codes "PRODUCER")) (same_text_chosen text (codes "CONSUMER"))
  where
    never : (text ≡ codes "CLIENT" → ⊥) → (text ≡ codes "SERVER" → ⊥) → (text ≡ codes "PRODUCER" → ⊥) → (text ≡ codes "CONSUMER" → ⊥) → (k : ZKind) → SpellsKind text k → ⊥
    never a b c d kinds.Absent h = h
    never a b c d kinds.Client h = a h
    never a b c d kinds.Server h = b h
    never a b c d kinds.Producer h = c h
    never a b c d kinds.Consumer h = d h

    on : Choice (text ≡ codes "CLIENT") → Choice (text ≡ codes "SERVER") → Choice (text ≡ codes "PRODUCER") → Choice (text ≡ codes "CONSUMER") → SpellsOne SpellsKind text
    on (inl h) b c d = inl (kinds.Client, h, (λ y k. kind_once text kinds.Client y h k))
    on (inr a) (inl h) c d = inl (kinds.Server, h, (λ y k. kind_once text kinds.Server y h k))
    on (inr a) (inr b) (inl h) d = inl (kinds.Producer, h, (λ y k. kind_once text kinds.Producer y h k))
    on (inr a) (inr b) (inr c) (inl h) = inl (kinds.Consumer, h, (λ y k. kind_once text kinds.Consumer y h k))
    on (inr a) (inr b) (inr c) (inr d) = inr (never a b c d)
