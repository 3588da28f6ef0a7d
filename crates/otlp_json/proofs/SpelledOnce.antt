-- A text spells one identifier or the bytes of one value, or none.
use Rattle.std.proofs.Common.{◌≡◌, ℕ, ◌<◌, ◌≤◌, ◌⊎◌, inl, inr, List, [], Option, Some, None, length, Result, Ok, Err, refl, sym, ap, subst, ◌∙◌, arith}
use Rattle.std.specs.List.{All}
use Rattle.std.specs.Char.{IsAsciiHexdigit}
use Rattle.std.specs.Str.Parse.{digits_value}
use Rattle.base64.specs.declared.decode.DecodeError.{DecodeError}
use Rattle.base64.specs.Engines.{standard}
use Rattle.base64.specs.GeneralPurpose.{encode_of, decode_of}
use Rattle.base64.proofs.EngineFacts.{decode_of-encode_of}
use Rattle.span_ids.specs.HexTexts.{SpellsInHex}
use Rattle.span_ids.specs.declared.hex_text.IdRule.TheVariants.{Exact}
use Rattle.json_members.proofs.ChoiceLaws.{Choice, at_most_chosen, both, either, all_of, hex_digit, same_text_chosen, SpellsOne, zeros_value}
use Rattle.trace_model.specs.OtlpParts.{IsNoIdentifier}
use Rattle.otlp_json.specs.Identifiers.{SpellsJsonTrace, SpellsJsonSpan, SpellsTraceOrNone, SpellsSpanOrNone}
use Rattle.otlp_json.specs.Numbers.{SpellsBytes}
use Rattle.otlp_json.proofs.ValueLemmas.{bytes_below}

same_number : (a b : ℕ) → Choice (a ≡ b)
same_number a b = on (at_most_chosen a b) (at_most_chosen b a)
  where
    on : Choice (a ≤ b) → Choice (b ≤ a) → Choice (a ≡ b)
    on (inl h) (inl k) = inl (omega arith)
    on (inl h) (inr k) = inr (λ e. k (omega arith))
    on (inr h) k = inr (λ e. h (omega arith))

-- ---- identifiers

module _ (full : ℕ) (text : List ℕ) where
  exact : SpellsOne (λ t id. SpellsInHex Exact full t id) text
  exact = on (both (both (same_number (length text) full) (all_of IsAsciiHexdigit hex_digit text)) (at_most_chosen 1 (digits_value 16 text)))
    where
      on : Choice (((length text ≡ full) × All IsAsciiHexdigit text) × (1 ≤ digits_value 16 text)) → SpellsOne (λ t id. SpellsInHex Exact full t id) text
      on (inl h) = inl (digits_value 16 text, (((h.0.0, h.0.1), (let k = h.1 in omega arith)), refl), (λ y k. sym k.1))
      on (inr fails) = inr (λ y k. fails ((k.0.0.0, k.0.0.1), (let positive = k.0.1 in omega arith)))

  no_id : Choice (IsNoIdentifier 48 full text)
  no_id = either (same_text_chosen text []) (both (same_number (length text) full) (all_of (λ digit. digit ≡ 48) (λ digit. same_number digit 48) text))

  no_value : IsNoIdentifier 48 full text → digits_value 16 text ≡ 0
  no_value (inl e) = ap (digits_value 16) e
  no_value (inr h) = zeros_value text h.1

-- an identifier or none, whose words differ
module _ (full : ℕ) (text : List ℕ) (Spells : Option ℕ → Type 0) (is_none : (Spells None → IsNoIdentifier 48 full text) × (IsNoIdentifier 48 full text → Spells None))
    (is_some : (id : ℕ) → (Spells (Some id) → SpellsInHex Exact full text id) × (SpellsInHex Exact full text id → Spells (Some id))) where
  apart : IsNoIdentifier 48 full text → (id : ℕ) → SpellsInHex Exact full text id → ⊥
  apart none id h = let value = no_value full text none in let positive = h.0.1 in omega arith

  or_none : ((x : Option ℕ) × Spells x × ((y : Option ℕ) → Spells y → x ≡ y)) ⊎ ((y : Option ℕ) → Spells y → ⊥)
  or_none = on (no_id full text) (exact full text)
    where
      only_none : IsNoIdentifier 48 full text → (y : Option ℕ) → Spells y → None ≡ y
      only_none none None h = refl
      only_none none (Some id) h = absurd (apart none id ((is_some id).0 h))

      only_some : (IsNoIdentifier 48 full text → ⊥) → (id : ℕ) → ((y : ℕ) → SpellsInHex Exact full text y → id ≡ y) → (y : Option ℕ) → Spells y → Some id ≡ y
      only_some fails id only None h = absurd (fails (is_none.0 h))
      only_some fails id only (Some y) h = ap Some (only y ((is_some y).0 h))

      never : (IsNoIdentifier 48 full text → ⊥) → ((y : ℕ) → SpellsInHex Exact full text y → ⊥) → (y : Option ℕ) → Spells y → ⊥
      never fails fails_too None h = fails (is_none.0 h)
      never fails fails_too (Some y) h = fails_too y ((is_some y).0 h)

      on : Choice (IsNoIdentifier 48 full text) → SpellsOne (λ t id. SpellsInHex Exact full t id) text → ((x : Option ℕ) × Spells x × ((y : Option ℕ) → Spells y → x ≡ y)) ⊎ ((y : Option ℕ) → Spells y → ⊥)
      on (inl none) id = inl (None, is_none.1 none, only_none none)
      on (inr fails) (inl h) = inl (Some h.0, (is_some h.0).1 h.1, only_some fails h.0 h.2)
      on (inr fails) (inr fails_too) = inr (never fails fails_too)

pub trace_spelled : (text : List ℕ) → SpellsOne SpellsJsonTrace text
trace_spelled text = exact 32 text

pub span_spelled : (text : List ℕ) → SpellsOne SpellsJsonSpan text
span_spelled text = exact 16 text

pub trace_or_none_spelled : (text : List ℕ) → SpellsOne SpellsTraceOrNone text
trace_or_none_spelled text = or_none 32 text (SpellsTraceOrNone text) ((λ h. h), (λ h. h)) (λ id. ((λ h. h), (λ h. h)))

pub span_or_none_spelled : (text : List ℕ) → SpellsOne SpellsSpanOrNone text
span_or_none_spelled text = or_none 16 text (SpellsSpanOrNone text) ((λ h. h), (λ h. h)) (λ id. ((λ h. h), (λ h. h)))

-- ---- bytes

below : (b : ℕ) → Choice (b < 256)
below b = on (at_most_chosen b 255)
  where
    on : Choice (b ≤ 255) → Choice (b < 256)
    on (inl h) = inl (omega arith)
    on (inr fails) = inr (λ h. fails (omega arith))

module _ (text : List ℕ) where
  decodes : (held : List ℕ) → SpellsBytes text held → decode_of standard text ≡ Ok held
  decodes held h = ap (decode_of standard) h.1 ∙ decode_of-encode_of standard held refl (bytes_below held h.0)

  pub bytes_spelled : SpellsOne SpellsBytes text
  bytes_spelled = on (decode_of standard text) refl
    where
      decoded : (held : List ℕ) → decode_of standard text ≡ Ok held → (y : List ℕ) → SpellsBytes text y → held ≡ y
      decoded held e y h = let k = decodes y h in cc

      if_same : (held : List ℕ) → decode_of standard text ≡ Ok held → Choice (All (λ b. b < 256) held × (text ≡ encode_of standard held)) → SpellsOne SpellsBytes text
      if_same held e (inl h) = inl (held, h, decoded held e)
      if_same held e (inr fails) = inr (λ y h. fails (subst (λ x. SpellsBytes text x) (sym (decoded held e y h)) h))

      on : (r : Result (List ℕ) DecodeError) → decode_of standard text ≡ r → SpellsOne SpellsBytes text
      on (Ok held) e = if_same held e (both (all_of (λ b. b < 256) below held) (same_text_chosen text (encode_of standard held)))
      on (Err failure) e = inr (λ y h. let k = decodes y h in cc)
