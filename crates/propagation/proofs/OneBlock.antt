-- A block has its headers in one way.
use Rattle.std.proofs.Common.{◌≡◌, ◌≢◌, ◌⊎◌, ◌<◌, length, ℕ, List, [], ◌∷◌, ◌++◌, refl, sym, ap, subst, ◌∙◌, inl, inr, arith, append_assoc}
use Rattle.std.specs.Prelude.{All}
use Rattle.std.specs.List.{flat_map}
use Rattle.std.proofs.lemmas.List.{length-append, append-nil, append_cancel_right}
use Rattle.std.proofs.lemmas.List.Elements.{All-append, All-cons, All-nil, All-head, All-tail, All-same, All-weaker}
use Rattle.propagation.specs.Fronts.{BeginsWithout}
use Rattle.propagation.specs.Tracestate.{IsBlank}
use Rattle.propagation.specs.private.Trimming.{Trims}
use Rattle.propagation.specs.Blocks.{Header, HeaderLine, HeaderEnd, IsNameByte, IsValueByte, IsHeaderLine, HasHeaders, header_line_text, ended_line_text, line_headers}
use Rattle.propagation.specs.Blocks.HeaderLine.{empty, told}
use Rattle.propagation.specs.Blocks.HeaderEnd.{crlf, lf}
use Rattle.propagation.specs.private.HeaderLines.{CutsLine, EndsLine, HeadersThen}
use Rattle.propagation.proofs.FrontLemmas.{lead_once}
use Rattle.propagation.proofs.TrimLemmas.{trims_once}

-- ---- the bytes of a line

pub no_name_colon : ¬ (IsNameByte 58)
no_name_colon (inl (inl (inl h))) = omega arith
no_name_colon (inl (inl (inr h))) = omega arith
no_name_colon (inl (inr h)) = omega arith
no_name_colon (inr (inl h)) = omega arith
no_name_colon (inr (inr h)) = omega arith

-- a byte that ends no line
abbrev pub IsInLine : ℕ → Type 0
IsInLine c = (c ≢ 10) × (c ≢ 13)

name_in_line : (c : ℕ) → IsNameByte c → IsInLine c
name_in_line c (inl (inl (inl h))) = (λ e. omega arith, λ e. omega arith)
name_in_line c (inl (inl (inr h))) = (λ e. omega arith, λ e. omega arith)
name_in_line c (inl (inr h)) = (λ e. omega arith, λ e. omega arith)
name_in_line c (inr (inl h)) = (λ e. omega arith, λ e. omega arith)
name_in_line c (inr (inr h)) = (λ e. omega arith, λ e. omega arith)

value_in_line : (c : ℕ) → IsValueByte c → IsInLine c
value_in_line c (inl h) = (λ e. omega arith, λ e. omega arith)
value_in_line c (inr h) = (λ e. omega arith, λ e. omega arith)

blank_in_line : (c : ℕ) → IsBlank c → IsInLine c
blank_in_line c (inl h) = (λ e. omega arith, λ e. omega arith)
blank_in_line c (inr h) = (λ e. omega arith, λ e. omega arith)

colon_in_line : IsInLine 58
colon_in_line = (λ e. omega arith, λ e. omega arith)

line_bytes : (l : HeaderLine) → IsHeaderLine l → All IsInLine (header_line_text l)
line_bytes empty h = All-nil IsInLine
line_bytes (told k before after) (h, b, a) =
    All-append IsInLine k.name (58 ∷ (before ++ (k.value ++ after))) (All-weaker IsNameByte IsInLine name_in_line k.name h.name.1)
    (All-cons IsInLine 58 (before ++ (k.value ++ after)) colon_in_line
    (All-append IsInLine before (k.value ++ after) (All-weaker IsBlank IsInLine blank_in_line before b)
    (All-append IsInLine k.value after (All-weaker IsValueByte IsInLine value_in_line k.value h.value) (All-weaker IsBlank IsInLine blank_in_line after a))))

-- ---- a line tells one header, or none

header_is : (h k : Header) → h.name ≡ k.name → h.value ≡ k.value → h ≡ k
header_is h k e f = λ i. record { name = e i; value = f i }

pub line_trims : (h : Header) (before after : List ℕ) → IsHeaderLine (told h before after) → Trims (before ++ (h.value ++ after)) h.value
line_trims h before after (p, b, a) = record { before = before; after = after; whole = refl; blank_before = b; blank_after = a; begins = p.begins; ends = p.ends }

not_nil : (s t : List ℕ) (c : ℕ) → s ++ c ∷ t ≢ []
not_nil [] t c e = cc
not_nil (x ∷ s) t c e = cc

pub one_line : (l m : HeaderLine) → IsHeaderLine l → IsHeaderLine m → header_line_text l ≡ header_line_text m → line_headers l ≡ line_headers m
one_line empty empty p q e = refl
one_line empty (told k before after) p q e = absurd (not_nil k.name (before ++ (k.value ++ after)) 58 (sym e))
one_line (told h before after) empty p q e = absurd (not_nil h.name (before ++ (h.value ++ after)) 58 e)
one_line (told h before after) (told k front behind) p q e =
    let names = lead_once IsNameByte h.name (58 ∷ (before ++ (h.value ++ after))) k.name (58 ∷ (front ++ (k.value ++ behind))) e p.0.name.1 q.0.name.1 no_name_colon no_name_colon in
    let rests : front ++ (k.value ++ behind) ≡ before ++ (h.value ++ after) = cc (names.1) in
    let other = subst (λ s. Trims s k.value) rests (line_trims k front behind q) in
    ap (λ t. t ∷ []) (header_is h k names.0 (trims_once (line_trims h before after p) other))

-- ---- a text is cut at its first LF in one way

-- the line with the CR at its end, and the LF and what stands behind it
abbrev IsHow : List ℕ → List ℕ → List ℕ → List ℕ → Type 0
IsHow line rest front tail =
    ((front ≡ line ++ 13 ∷ []) × (tail ≡ 10 ∷ rest))
    ⊎ (((front ≡ line) × (tail ≡ 10 ∷ rest) × ((more : List ℕ) → line ≢ more ++ 13 ∷ []))
    ⊎ ((front ≡ line) × (tail ≡ []) × (rest ≡ [])))

record AtLf (text line rest : List ℕ) : Type 0 where
  front : List ℕ
  tail : List ℕ
  whole : text ≡ front ++ tail
  plain : All (λ c. c ≢ 10) front
  ended : BeginsWithout (λ c. c ≢ 10) tail
  how : IsHow line rest front tail

cr_is_plain : ◌≡◌ {A = ℕ} 13 10 → ⊥
cr_is_plain e = omega arith

at_lf : (text line rest : List ℕ) → All (λ c. c ≢ 10) line → EndsLine text line rest → AtLf text line rest
at_lf text line rest plain (inl e) = record {
  front = line ++ 13 ∷ [];
  tail = 10 ∷ rest;
  whole = e ∙ sym (append_assoc line (13 ∷ []) (10 ∷ rest));
  plain = All-append (λ c. c ≢ 10) line (13 ∷ []) plain (All-cons (λ c. c ≢ 10) 13 [] cr_is_plain (All-nil (λ c. c ≢ 10)));
  ended = λ p. p refl;
  how = inl (refl, refl);
}
at_lf text line rest plain (inr (inl (e, no_cr))) = record { front = line; tail = 10 ∷ rest; whole = e; plain = plain; ended = λ p. p refl; how = inr (inl (refl, refl, no_cr)) }
at_lf text line rest plain (inr (inr (e, none))) = record { front = line; tail = []; whole = e ∙ sym (append-nil line); plain = plain; ended = tt; how = inr (inr (refl, refl, none)) }

how_once : (front tail line rest other more : List ℕ) → IsHow line rest front tail → IsHow other more front tail → (line ≡ other) × (rest ≡ more)
how_once front tail line rest other more (inl (a, b)) (inl (c, d)) = (append_cancel_right line other (13 ∷ []) (sym a ∙ c), let k = sym b ∙ d in cc)
how_once front tail line rest other more (inl (a, b)) (inr (inl (c, d, no_cr))) = absurd (no_cr line (sym c ∙ a))
how_once front tail line rest other more (inl (a, b)) (inr (inr (c, d, none))) = absurd (let k = sym b ∙ d in let bad : ⊥ = cc in bad)
how_once front tail line rest other more (inr (inl (a, b, no_cr))) (inl (c, d)) = absurd (no_cr other (sym a ∙ c))
how_once front tail line rest other more (inr (inl (a, b, no_cr))) (inr (inl (c, d, e))) = (sym a ∙ c, let k = sym b ∙ d in cc)
how_once front tail line rest other more (inr (inl (a, b, no_cr))) (inr (inr (c, d, e))) = absurd (let k = sym b ∙ d in let bad : ⊥ = cc in bad)
how_once front tail line rest other more (inr (inr (a, b, none))) (inl (c, d)) = absurd (let k = sym b ∙ d in let bad : ⊥ = cc in bad)
how_once front tail line rest other more (inr (inr (a, b, none))) (inr (inl (c, d, e))) = absurd (let k = sym b ∙ d in let bad : ⊥ = cc in bad)
how_once front tail line rest other more (inr (inr (a, b, none))) (inr (inr (c, d, e))) = (sym a ∙ c, none ∙ sym e)

pub cuts_once : (text line rest other more : List ℕ) → CutsLine text line rest → CutsLine text other more → (line ≡ other) × (rest ≡ more)
cuts_once text line rest other more c d =
    let a = at_lf text line rest c.plain c.ended in
    let b = at_lf text other more d.plain d.ended in
    let same = lead_once (λ x. x ≢ 10) a.front a.tail b.front b.tail (sym a.whole ∙ b.whole) a.plain b.plain a.ended b.ended in
    let how : IsHow other more a.front a.tail = subst (λ x. IsHow other more x a.tail) (sym same.0) (subst (λ x. IsHow other more b.front x) (sym same.1) b.how) in
    how_once a.front a.tail line rest other more a.how how

-- ---- the lines of a block are cut so

line_plain : (l : HeaderLine) → IsHeaderLine l → All (λ c. c ≢ 10) (header_line_text l)
line_plain l h = All-weaker IsInLine (λ c. c ≢ 10) (λ c k. k.0) (header_line_text l) (line_bytes l h)

ends_of_kind : (Kind : ℕ → Type 0) (front : List ℕ) (c : ℕ) → All Kind (front ++ c ∷ []) → Kind c
ends_of_kind Kind [] c h = All-head Kind c [] h
ends_of_kind Kind (x ∷ front) c h = ends_of_kind Kind front c (All-tail Kind x (front ++ c ∷ []) h)

no_cr_at_end : (l : HeaderLine) → IsHeaderLine l → (front : List ℕ) → header_line_text l ≢ front ++ 13 ∷ []
no_cr_at_end l h front e = (ends_of_kind IsInLine front 13 (All-same IsInLine (front ++ 13 ∷ []) (header_line_text l) (sym e) (line_bytes l h))).1 refl

cuts_last : (text : List ℕ) (l : HeaderLine) → IsHeaderLine l → text ≡ header_line_text l → CutsLine text (header_line_text l) []
cuts_last text l h e = record { plain = line_plain l h; ended = inr (inr (e, refl)) }

cuts_ended : (text : List ℕ) (l : HeaderLine) (end : HeaderEnd) (rest : List ℕ) → IsHeaderLine l → text ≡ ended_line_text (l, end) ++ rest → CutsLine text (header_line_text l) rest
cuts_ended text l crlf rest h e = record { plain = line_plain l h; ended = inl (e ∙ append_assoc (header_line_text l) (13 ∷ 10 ∷ []) rest) }
cuts_ended text l lf rest h e = record { plain = line_plain l h; ended = inr (inl (e ∙ append_assoc (header_line_text l) (10 ∷ []) rest, no_cr_at_end l h)) }

-- ---- the first line of a block

-- the headers are those of the line, and then those of the rest
pub record FirstLine (line rest : List ℕ) (headers : List Header) : Type 0 where
  pub told_line : HeaderLine
  pub more : List Header
  pub formed : IsHeaderLine told_line
  pub line_is : line ≡ header_line_text told_line
  pub has : HasHeaders rest more
  pub headers_are : headers ≡ line_headers told_line ++ more

abbrev IsFormed : HeaderLine × HeaderEnd → Type 0
IsFormed l = IsHeaderLine l.0

nothing_has_none : HasHeaders [] []
nothing_has_none = record { lines = []; last = empty; formed = All-nil IsFormed; last_formed = tt; whole = refl; headers_are = refl }

first_of_lines : (text line rest : List ℕ) → CutsLine text line rest → (lines : List (HeaderLine × HeaderEnd)) (last : HeaderLine) → All IsFormed lines → IsHeaderLine last
    → text ≡ flat_map ended_line_text lines ++ header_line_text last → FirstLine line rest (flat_map (λ l. line_headers l.0) lines ++ line_headers last)
first_of_lines text line rest cut [] last formed last_formed whole =
    let same = cuts_once text line rest (header_line_text last) [] cut (cuts_last text last last_formed whole) in
    record { told_line = last; more = []; formed = last_formed; line_is = same.0; has = subst (λ r. HasHeaders r []) (sym same.1) nothing_has_none; headers_are = sym (append-nil (line_headers last)) }
first_of_lines text line rest cut (l ∷ lines) last formed last_formed whole =
    let here = All-head IsFormed l lines formed in
    let cut_here = cuts_ended text l.0 l.1 (flat_map ended_line_text lines ++ header_line_text last) here (whole ∙ append_assoc (ended_line_text l) (flat_map ended_line_text lines) (header_line_text last)) in
    let same = cuts_once text line rest (header_line_text l.0) (flat_map ended_line_text lines ++ header_line_text last) cut cut_here in
    record {
      told_line = l.0;
      more = flat_map (λ l. line_headers l.0) lines ++ line_headers last;
      formed = here;
      line_is = same.0;
      has = record { lines = lines; last = last; formed = All-tail IsFormed l lines formed; last_formed = last_formed; whole = same.1; headers_are = refl };
      headers_are = append_assoc (line_headers l.0) (flat_map (λ l. line_headers l.0) lines) (line_headers last);
    }

pub first_line : (text line rest : List ℕ) (headers : List Header) → CutsLine text line rest → HasHeaders text headers → FirstLine line rest headers
first_line text line rest headers cut has =
    subst (λ h. FirstLine line rest h) (sym has.headers_are) (first_of_lines text line rest cut has.lines has.last has.formed has.last_formed has.whole)

-- ---- the end of a block

not_ended : (text end lines last : List ℕ) (c : ℕ) → [] ≡ ((text ++ c ∷ end) ++ lines) ++ last → ⊥
not_ended [] end lines last c e = cc
not_ended (x ∷ text) end lines last c e = cc

none_of_lines : (lines : List (HeaderLine × HeaderEnd)) (last : HeaderLine) → IsHeaderLine last → [] ≡ flat_map ended_line_text lines ++ header_line_text last → flat_map (λ l. line_headers l.0) lines ++ line_headers last ≡ []
none_of_lines [] last formed e = one_line last empty formed tt (sym e)
none_of_lines ((l, crlf) ∷ lines) last formed e = absurd (not_ended (header_line_text l) (10 ∷ []) (flat_map ended_line_text lines) (header_line_text last) 13 e)
none_of_lines ((l, lf) ∷ lines) last formed e = absurd (not_ended (header_line_text l) [] (flat_map ended_line_text lines) (header_line_text last) 10 e)

pub no_more_headers : (text : List ℕ) (headers : List Header) → text ≡ [] → HasHeaders text headers → headers ≡ []
no_more_headers text headers none has = has.headers_are ∙ none_of_lines has.lines has.last has.last_formed (sym none ∙ has.whole)

pub nothing_has : (text : List ℕ) → text ≡ [] → HasHeaders text []
nothing_has text none = subst (λ t. HasHeaders t []) (sym none) nothing_has_none

-- ---- a block is read line by line

told_then : (text line rest : List ℕ) (l : HeaderLine) (more : List Header) → EndsLine text line rest → IsHeaderLine l → line ≡ header_line_text l → HasHeaders rest more → HasHeaders text (line_headers l ++ more)
told_then text line rest l more (inl e) h is has = record {
  lines = (l, crlf) ∷ has.lines;
  last = has.last;
  formed = All-cons IsFormed (l, crlf) has.lines h has.formed;
  last_formed = has.last_formed;
  whole = e ∙ ap (λ s. s ++ 13 ∷ 10 ∷ rest) is ∙ ap (λ s. header_line_text l ++ 13 ∷ 10 ∷ s) has.whole
      ∙ sym (append_assoc (header_line_text l) (13 ∷ 10 ∷ []) (flat_map ended_line_text has.lines ++ header_line_text has.last))
      ∙ sym (append_assoc (header_line_text l ++ 13 ∷ 10 ∷ []) (flat_map ended_line_text has.lines) (header_line_text has.last));
  headers_are = ap (λ s. line_headers l ++ s) has.headers_are ∙ sym (append_assoc (line_headers l) (flat_map (λ l. line_headers l.0) has.lines) (line_headers has.last));
}
told_then text line rest l more (inr (inl (e, no_cr))) h is has = record {
  lines = (l, lf) ∷ has.lines;
  last = has.last;
  formed = All-cons IsFormed (l, lf) has.lines h has.formed;
  last_formed = has.last_formed;
  whole = e ∙ ap (λ s. s ++ 10 ∷ rest) is ∙ ap (λ s. header_line_text l ++ 10 ∷ s) has.whole
      ∙ sym (append_assoc (header_line_text l) (10 ∷ []) (flat_map ended_line_text has.lines ++ header_line_text has.last))
      ∙ sym (append_assoc (header_line_text l ++ 10 ∷ []) (flat_map ended_line_text has.lines) (header_line_text has.last));
  headers_are = ap (λ s. line_headers l ++ s) has.headers_are ∙ sym (append_assoc (line_headers l) (flat_map (λ l. line_headers l.0) has.lines) (line_headers has.last));
}
told_then text line rest l more (inr (inr (e, none))) h is has = record {
  lines = [];
  last = l;
  formed = All-nil IsFormed;
  last_formed = h;
  whole = e ∙ is;
  headers_are = ap (λ s. line_headers l ++ s) (no_more_headers rest more none has) ∙ append-nil (line_headers l);
}

pub line_then : (text line rest : List ℕ) (l : HeaderLine) → CutsLine text line rest → IsHeaderLine l → line ≡ header_line_text l → HeadersThen text (line_headers l) rest
line_then text line rest l cut h is = record {
  whole = λ more has. told_then text line rest l more cut.ended h is has;
  only = λ all has.
      let first = first_line text line rest all cut has in
      (first.more, first.has, first.headers_are ∙ ap (λ s. s ++ first.more) (one_line first.told_line l first.formed h (sym first.line_is ∙ is)));
}

pub then_start : (text : List ℕ) → HeadersThen text [] text
then_start text = record { whole = λ more has. has; only = λ all has. (all, has, refl) }

pub then_on : (text : List ℕ) (headers : List Header) (rest : List ℕ) (more : List Header) (next : List ℕ) → HeadersThen text headers rest → HeadersThen rest more next → HeadersThen text (headers ++ more) next
then_on text headers rest more next a b = record {
  whole = λ others has. subst (λ h. HasHeaders text h) (sym (append_assoc headers more others)) (a.whole (more ++ others) (b.whole others has));
  only = λ all has.
      let first = a.only all has in
      let second = b.only first.0 first.1 in
      (second.0, second.1, first.2 ∙ ap (λ s. headers ++ s) second.2 ∙ sym (append_assoc headers more second.0));
}

pub then_all : (text : List ℕ) (headers : List Header) (rest : List ℕ) → HeadersThen text headers rest → HasHeaders rest [] → HasHeaders text headers
then_all text headers rest a has = subst (λ h. HasHeaders text h) (append-nil headers) (a.whole [] has)

pub then_none : (text : List ℕ) (headers : List Header) (rest : List ℕ) → HeadersThen text headers rest → ((more : List Header) → ¬ (HasHeaders rest more)) → (all : List Header) → ¬ (HasHeaders text all)
then_none text headers rest a none all has = let rest_has = a.only all has in none rest_has.0 rest_has.1

-- ---- a block has its headers in one way

one_of_lines : (lines : List (HeaderLine × HeaderEnd)) (last : HeaderLine) → All IsFormed lines → IsHeaderLine last → (text : List ℕ) (b : List Header)
    → text ≡ flat_map ended_line_text lines ++ header_line_text last → HasHeaders text b → flat_map (λ l. line_headers l.0) lines ++ line_headers last ≡ b
one_of_lines [] last formed last_formed text b whole has =
    let first = first_line text (header_line_text last) [] b (cuts_last text last last_formed whole) has in
    one_line last first.told_line last_formed first.formed first.line_is ∙ sym (append-nil (line_headers first.told_line)) ∙ ap (λ s. line_headers first.told_line ++ s) (sym (no_more_headers [] first.more refl first.has)) ∙ sym first.headers_are
one_of_lines (l ∷ lines) last formed last_formed text b whole has =
    let here = All-head IsFormed l lines formed in
    let rest : List ℕ = flat_map ended_line_text lines ++ header_line_text last in
    let first = first_line text (header_line_text l.0) rest b (cuts_ended text l.0 l.1 rest here (whole ∙ append_assoc (ended_line_text l) (flat_map ended_line_text lines) (header_line_text last))) has in
    let more = one_of_lines lines last (All-tail IsFormed l lines formed) last_formed rest first.more refl first.has in
    append_assoc (line_headers l.0) (flat_map (λ l. line_headers l.0) lines) (line_headers last)
    ∙ ap (λ s. s ++ (flat_map (λ l. line_headers l.0) lines ++ line_headers last)) (one_line l.0 first.told_line here first.formed first.line_is)
    ∙ ap (λ s. line_headers first.told_line ++ s) more
    ∙ sym first.headers_are

pub one_headers : {block : List ℕ} {a b : List Header} → HasHeaders block a → HasHeaders block b → a ≡ b
one_headers {block} {a} {b} h k = h.headers_are ∙ one_of_lines h.lines h.last h.formed h.last_formed block b h.whole k

-- ---- a line that isn't of the form

shorter : (text line rest : List ℕ) → EndsLine text line rest → text ≢ [] → length rest < length text
shorter text line rest (inl e) some = omega (arith, simp length-append at (ap length e))
shorter text line rest (inr (inl (e, no_cr))) some = omega (arith, simp length-append at (ap length e))
shorter [] line rest (inr (inr (e, none))) some = absurd (some refl)
shorter (c ∷ text) line rest (inr (inr (e, none))) some = omega (arith, ap length none)

pub line_shorter : (text line rest : List ℕ) → CutsLine text line rest → text ≢ [] → length rest < length text
line_shorter text line rest cut some = shorter text line rest cut.ended some
