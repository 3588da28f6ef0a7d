-- The lines that are written are a block that has their headers.
use Rattle.std.proofs.Common.{◌≡◌, ℕ, ◌≤◌, List, [], ◌∷◌, ◌++◌, length, refl, sym, ap, ◌∙◌, append_assoc, inl, inr, arith}
use Rattle.std.specs.Prelude.{All, ◌⊎◌, Bool, true, false, ◌&&◌, ◌||◌, leb, map, reverse, codes}
use Rattle.std.specs.List.{flat_map, list_all, join_with_byte}
use Rattle.std.specs.Int.{IsInRange}
use Rattle.std.specs.Char.{IsAsciiHexdigit}
use Rattle.std.proofs.lemmas.Bool.{leb-true}
use Rattle.std.proofs.lemmas.List.{append-nil}
use Rattle.std.proofs.lemmas.List.Elements.{All-append, All-cons, All-head, All-map, All-nil, All-tail, All-weaker}
use Rattle.std.proofs.lemmas.List.Sorted.{All-permutation, IsPermutation-reverse}
use Rattle.std.proofs.lemmas.List.Sums.{AllPass-from_list_all}
use Rattle.propagation.specs.Fronts.{BeginsWithout}
use Rattle.propagation.specs.Tracestate.{IsBlank}
use Rattle.propagation.specs.Blocks.{Header, IsHeader, IsNameByte, IsValueByte, HeaderLine, HeaderEnd, IsHeaderLine, ended_line_text, line_headers, HasHeaders}
use Rattle.propagation.specs.NormalContexts.{written_header}

-- the lines of headers, one behind the other
abbrev pub written_lines : List Header → List ℕ
written_lines headers = flat_map (λ h. written_header h.name h.value) headers

-- a header as a line, with one space before its value
as_line : Header → HeaderLine × HeaderEnd
as_line h = (HeaderLine.told h (32 ∷ []) [], HeaderEnd.lf)

line_text : (h : Header) → ended_line_text (as_line h) ≡ written_header h.name h.value
unfolding as_line
line_text h =
    ap (λ v. (h.name ++ 58 ∷ 32 ∷ v) ++ 10 ∷ []) (append-nil h.value)
    ∙ append_assoc h.name (58 ∷ 32 ∷ h.value) (10 ∷ [])
    ∙ sym (append_assoc h.name (codes ": ") (h.value ++ 10 ∷ []))

line_formed : (h : Header) → IsHeader h → IsHeaderLine (as_line h).0
unfolding as_line
line_formed h is = (is, All-cons IsBlank 32 [] (inl refl) (All-nil IsBlank), All-nil IsBlank)

lines_text : (headers : List Header) → written_lines headers ≡ flat_map ended_line_text (map as_line headers)
lines_text [] = refl
lines_text (h ∷ headers) = λ i. sym (line_text h) i ++ lines_text headers i

lines_headers : (headers : List Header) → headers ≡ flat_map (λ l. line_headers l.0) (map as_line headers)
unfolding as_line
lines_headers [] = refl
lines_headers (h ∷ headers) = ap (λ s. h ∷ s) (lines_headers headers)

pub written_have : (headers : List Header) → All IsHeader headers → HasHeaders (written_lines headers) headers
written_have headers formed = record {
  lines = map as_line headers;
  last = HeaderLine.empty;
  formed = All-map (λ l. IsHeaderLine l.0) as_line headers (All-weaker IsHeader (λ h. IsHeaderLine (as_line h).0) line_formed headers formed);
  last_formed = tt;
  whole = lines_text headers ∙ sym (append-nil (flat_map ended_line_text (map as_line headers)));
  headers_are = lines_headers headers ∙ sym (append-nil (flat_map (λ l. line_headers l.0) (map as_line headers)));
}

-- ---- names

both_true : (a b : Bool) → (a && b) ≡ true → (a ≡ true) × (b ≡ true)
both_true true b e = (refl, e)
both_true false b e = cc

either_true : (a b : Bool) → (a || b) ≡ true → (a ≡ true) ⊎ (b ≡ true)
either_true true b e = inl refl
either_true false b e = inr e

abbrev is_within : ℕ → ℕ → ℕ → Bool
is_within low high c = leb low c && leb c high

within : (low high c : ℕ) → is_within low high c ≡ true → IsInRange low high c
within low high c e =
    let both = both_true (leb low c) (leb c high) e in
    (leb-true low c both.0, leb-true c high both.1)

-- a digit, a letter or a dash
abbrev is_name_byte : ℕ → Bool
is_name_byte c = is_within 48 57 c || (is_within 65 90 c || (is_within 97 122 c || is_within 45 45 c))

name_byte : (c : ℕ) → is_name_byte c ≡ true → IsNameByte c
name_byte c e = elim (either_true (is_within 48 57 c) (is_within 65 90 c || (is_within 97 122 c || is_within 45 45 c)) e) [
  | inl h ↦ inl (inl (inl (within 48 57 c h)))
  | inr f ↦ elim (either_true (is_within 65 90 c) (is_within 97 122 c || is_within 45 45 c) f) [
    | inl h ↦ inl (inl (inr (within 65 90 c h)))
    | inr g ↦ elim (either_true (is_within 97 122 c) (is_within 45 45 c) g) [
      | inl h ↦ inl (inr (within 97 122 c h))
      | inr h ↦ (let dash = within 45 45 c h in inr (inl (omega arith)))
    ]
  ]
]

-- a name that the check computes
abbrev pub IsPlainName : List ℕ → Type 0
IsPlainName name = (leb 1 (length name) ≡ true) × (list_all is_name_byte name ≡ true)

pub plain_name : (name : List ℕ) → IsPlainName name → (1 ≤ length name) × All IsNameByte name
plain_name name plain = (leb-true 1 (length name) plain.0, All-weaker (λ c. is_name_byte c ≡ true) IsNameByte name_byte name (AllPass-from_list_all is_name_byte name plain.1))

-- ---- values

-- a character that is seen: no blank, and in ASCII
abbrev pub IsVisible : ℕ → Type 0
IsVisible c = IsInRange 33 126 c

visible_is_value : (c : ℕ) → IsVisible c → IsValueByte c
visible_is_value c h = inl (omega arith, h.1)

visible_no_blank : (c : ℕ) → IsVisible c → ¬ (IsBlank c)
visible_no_blank c h (inl e) = omega arith
visible_no_blank c h (inr e) = omega arith

begins_visible : (text : List ℕ) → All IsVisible text → BeginsWithout IsBlank text
begins_visible [] h = tt
begins_visible (c ∷ text) h = visible_no_blank c (All-head IsVisible c text h)

pub visible_header : (name value : List ℕ) → IsPlainName name → All IsVisible value → IsHeader (record { name = name; value = value })
visible_header name value plain h = record {
  name = plain_name name plain;
  value = All-weaker IsVisible IsValueByte visible_is_value value h;
  begins = begins_visible value h;
  ends = begins_visible (reverse value) (All-permutation IsVisible value (reverse value) (IsPermutation-reverse value) h);
}

-- a text that the check computes
pub visible_text : (text : List ℕ) → list_all (is_within 33 126) text ≡ true → All IsVisible text
visible_text text e = All-weaker (λ c. is_within 33 126 c ≡ true) IsVisible (within 33 126) text (AllPass-from_list_all (is_within 33 126) text e)

hex_visible : (c : ℕ) → IsAsciiHexdigit c → IsVisible c
hex_visible c (inl (inl h)) = (omega arith, omega arith)
hex_visible c (inl (inr h)) = (omega arith, omega arith)
hex_visible c (inr h) = (omega arith, omega arith)

pub digits_visible : (text : List ℕ) → All IsAsciiHexdigit text → All IsVisible text
digits_visible text h = All-weaker IsAsciiHexdigit IsVisible hex_visible text h

abbrev pub AreVisible : List (List ℕ) → Type 0
AreVisible pieces = All (λ piece. All IsVisible piece) pieces

pub none_visible : AreVisible []
none_visible = All-nil (λ piece. All IsVisible piece)

pub more_visible : (piece : List ℕ) (pieces : List (List ℕ)) → All IsVisible piece → AreVisible pieces → AreVisible (piece ∷ pieces)
more_visible piece pieces h k = All-cons (λ x. All IsVisible x) piece pieces h k

pub joined_visible : (c : ℕ) (pieces : List (List ℕ)) → IsVisible c → AreVisible pieces → All IsVisible (join_with_byte c pieces)
joined_visible c [] seen h = All-nil IsVisible
joined_visible c (x ∷ []) seen h = All-head (λ piece. All IsVisible piece) x [] h
joined_visible c (x ∷ y ∷ pieces) seen h =
    let first = All-head (λ piece. All IsVisible piece) x (y ∷ pieces) h in
    let more = joined_visible c (y ∷ pieces) seen (All-tail (λ piece. All IsVisible piece) x (y ∷ pieces) h) in
    All-append IsVisible x (c ∷ join_with_byte c (y ∷ pieces)) first (All-cons IsVisible c (join_with_byte c (y ∷ pieces)) seen more)
