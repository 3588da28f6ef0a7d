-- What is written of a text, a number, a truth value or an identifier gives it back. Hexadecimal digits are UTF-8.
use Rattle.std.proofs.Common.{ℕ, zero, suc, ◌<◌, ◌≤◌, ◌^◌, ◌≡◌, List, [], ◌∷◌, ◌++◌, map, codes, refl, ap, sym, ◌∙◌, append_assoc, length, Bool, true, false, Option, Some, None, option_map, IsUtf8, arith}
use Rattle.std.proofs.Math.Nat as nat
use Rattle.std.proofs.lemmas.Int.Digits.{digits_value-lt}
use Rattle.std.proofs.lemmas.List.Elements.{All-head, All-tail, All-cons, All-nil}
use Rattle.std.proofs.lemmas.Str.{IsUtf8-from_ascii}
use Rattle.std.proofs.lemmas.Str.Ascii.{IsAscii-from_all}
use Rattle.std.specs.Char.{IsAsciiHexdigit, digit_value}
use Rattle.std.specs.List.{All, join_with_byte}
use Rattle.std.specs.Str.Parse.{AllDigits, digits_value}
use Rattle.serde_json.specs.Data.{Data, string}
use Rattle.serde_json.specs.View.{items_of}
use Rattle.serde_json.specs.Written.{compact_text, items_text}
use Rattle.span_ids.specs.StatedLaws.{IdentifiersReadBack}
use Rattle.span_ids.specs.Proper.{IsProperTraceId, IsProperSpanId, IsProperParent}
use Rattle.span_ids.specs.declared.hex_text.IdRule.TheVariants.{Padded}
use Rattle.json_members.specs.Canonical.{text_data, count_data, truth_data, trace_id_text, span_id_text}
use Rattle.json_members.proofs.ReadBackLaws.{GivesBack, GivenGivesBack, string_back, count_back, truth_back}

-- ---- members that may be left out

pub text_back : (n : ℕ) (text : List ℕ) → IsUtf8 text → GivenGivesBack n (text_data text)
text_back n [] h = tt
text_back n (x ∷ text) h = string_back n (x ∷ text) h

pub number_back : (n count : ℕ) → count < 2 ^ 64 → GivenGivesBack n (count_data count)
number_back n zero h = tt
number_back n (suc count) h = count_back n (suc count) h

pub true_back : (n : ℕ) (truth : Bool) → GivenGivesBack n (truth_data truth)
true_back n false = tt
true_back n true = truth_back n true

-- ---- hexadecimal digits

pub hex_below : (text : List ℕ) → All IsAsciiHexdigit text → All (λ b. b < 128) text
hex_below [] h = All-nil (λ b. b < 128)
hex_below (c ∷ text) h =
    let first = All-head IsAsciiHexdigit c text h in
    let low : c < 128 = grind (arith) in
    All-cons (λ b. b < 128) c text low (hex_below text (All-tail IsAsciiHexdigit c text h))

pub hex_is_utf8 : (text : List ℕ) → All IsAsciiHexdigit text → IsUtf8 text
hex_is_utf8 text h = IsUtf8-from_ascii text (IsAscii-from_all text (hex_below text h))

pub digit_below : (c : ℕ) → IsAsciiHexdigit c → digit_value c < 16
digit_below c h = grind (arith)

pub all_digits : (text : List ℕ) → All IsAsciiHexdigit text → AllDigits 16 text
all_digits [] h = tt
all_digits (c ∷ text) h = (digit_below c (All-head IsAsciiHexdigit c text h), all_digits text (All-tail IsAsciiHexdigit c text h))

pub number_below : (text : List ℕ) (k : ℕ) → All IsAsciiHexdigit text → length text ≤ k → digits_value 16 text < 16 ^ k
number_below text k h fits =
    let below = digits_value-lt 16 text (all_digits text h) in
    let wider = nat.pow-le-pow_right {n = 16} (omega arith) {i = length text} {j = k} fits in
    omega arith

-- ---- identifiers

module _ (ids : IdentifiersReadBack) where
  pub trace_back : (n id : ℕ) → IsProperTraceId id → GivesBack n (string (trace_id_text id))
  trace_back n id h = let spelled = ids.trace_in_hex Padded id h.0 h.1 in string_back n (trace_id_text id) (hex_is_utf8 (trace_id_text id) spelled.0.0.2)

  pub id_back : (n id : ℕ) → IsProperSpanId id → GivesBack n (string (span_id_text id))
  id_back n id h = let spelled = ids.span_in_hex Padded id h.0 h.1 in string_back n (span_id_text id) (hex_is_utf8 (span_id_text id) spelled.0.0.2)

  pub parent_back : (n : ℕ) (parent : Option ℕ) → IsProperParent parent → GivenGivesBack n (option_map (λ id. string (span_id_text id)) parent)
  parent_back n None h = tt
  parent_back n (Some id) h = id_back n id h

-- ---- the text of a list, one element behind the other

pub items_joined : {A : Type 0} (data_of : A → Data) (x : A) (more : List A)
    → compact_text (data_of x) ++ items_text true (items_of (map data_of more)) ≡ join_with_byte 44 (map (λ y. compact_text (data_of y)) (x ∷ more)) ++ codes "]"
items_joined data_of x [] = refl
items_joined data_of x (y ∷ more) =
    ap (λ l. compact_text (data_of x) ++ 44 ∷ l) (items_joined data_of y more)
    ∙ sym (append_assoc (compact_text (data_of x)) (44 ∷ join_with_byte 44 (map (λ z. compact_text (data_of z)) (y ∷ more))) (codes "]"))
