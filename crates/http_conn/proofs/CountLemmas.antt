-- A head of at most 66 lines has at most 64 fields.
use Rattle.std.proofs.Common.{◌≡◌, ℕ, ◌+◌, ◌≤◌, Bool, true, false, cond, List, [], ◌∷◌, ◌++◌, length, take, drop, refl, sym, ap, subst, ◌∙◌, arith, append_assoc}
use Rattle.std.specs.Prelude.{IsTrue, nat_eq, nat_lt, ◌==◌}
use Rattle.std.specs.List.{count_by, flat_map, starts_with}
use Rattle.std.specs.Cmp.Lexicographic.{same_text}
use Rattle.std.proofs.lemmas.Bool.{false≢true}
use Rattle.std.proofs.lemmas.Bool.Decides.{nat_tests}
use Rattle.std.proofs.lemmas.List.{take-append-drop}
use Rattle.std.proofs.lemmas.List.Sums.{sum_by-append}
use Rattle.httparse.specs.Ascii.{line_feed, colon, crlf_bytes}
use Rattle.httparse.specs.Grammar.{Field, IsToken, LineEnd, ReadsRequest, RequestHead, is_token_byte, print_blank, print_end, print_field, print_section, print_version}
use Rattle.httparse.specs.Grammar.LineEnd.{crlf, lf}
use Rattle.httparse.proofs.GrammarLemmas.{print_request-append}
use Rattle.http_conn.specs.Heads.{from_request_line, has_too_many_lines}

abbrev feeds : List ℕ → ℕ
feeds text = count_by (λ b. b == line_feed) text

feeds_append : (a b : List ℕ) → feeds (a ++ b) ≡ feeds a + feeds b
feeds_append a b = sum_by-append (λ x. cond (x == line_feed) 1 0) a b

feeds_back : (a b : List ℕ) → feeds b ≤ feeds (a ++ b)
feeds_back a b = omega (arith, feeds_append a b)

feeds_end : (e : LineEnd) → feeds (print_end e) ≡ 1
feeds_end crlf = refl
feeds_end lf = refl

feeds_field : (f : Field) → 1 ≤ feeds (print_field f)
feeds_field f = omega (arith, feeds_back (f.name ++ colon ∷ f.raw) (print_end f.end), feeds_end f.end)

feeds_fields : (fields : List Field) → length fields ≤ feeds (flat_map print_field fields)
feeds_fields [] = omega arith
feeds_fields (f ∷ fields) =
    omega (arith, feeds_append (print_field f) (flat_map print_field fields), feeds_field f, feeds_fields fields)

feeds_section : (fields : List Field) (last : LineEnd) → length fields + 1 ≤ feeds (print_section fields last)
feeds_section fields last =
    omega (arith, feeds_append (flat_map print_field fields) (print_end last), feeds_fields fields, feeds_end last)

-- behind the method
feeds_rest : (target version end section : List ℕ) (n : ℕ) → feeds end ≡ 1 → n + 1 ≤ feeds section
    → n + 2 ≤ feeds (32 ∷ (target ++ 32 ∷ (version ++ (end ++ (section ++ [])))))
feeds_rest target version end section n one more =
    omega (
      arith,
      feeds_append section [],
      feeds_append end (section ++ []),
      feeds_back version (end ++ (section ++ [])),
      feeds_back (target ++ 32 ∷ []) (version ++ (end ++ (section ++ []))),
      ap feeds (regroup target (version ++ (end ++ (section ++ [])))),
      feeds_back (32 ∷ []) (target ++ 32 ∷ (version ++ (end ++ (section ++ [])))),
      one,
      more,
    )
  where
    regroup : (a b : List ℕ) → a ++ 32 ∷ b ≡ (a ++ 32 ∷ []) ++ b
    regroup a b = sym (append_assoc a (32 ∷ []) b)

begins_crlf : (text : List ℕ) → true ≡ starts_with nat_eq text crlf_bytes → text ≡ crlf_bytes ++ drop 2 text
begins_crlf text e = sym (take-append-drop 2 text) ∙ ap (λ l. l ++ drop 2 text) (sym (same_text crlf_bytes (take 2 text) e))

no_token : true ≡ is_token_byte 13 → ⊥
unfolding is_token_byte
no_token e = false≢true (sym e)

-- an empty line in front has a line feed of its own, and no method begins with CR
from_method : (method rest : List ℕ) (n : ℕ) → IsToken method → n ≤ feeds rest → (b : Bool) → b ≡ starts_with nat_eq (method ++ rest) crlf_bytes
    → n ≤ feeds (cond b (drop 2 (method ++ rest)) (method ++ rest))
from_method [] rest n token more b e = absurd (omega (arith, token.0))
from_method (m ∷ method) rest n token more true e =
    absurd (no_token (sym (subst (λ x. IsTrue (is_token_byte x)) (first m (method ++ rest) (drop 2 (m ∷ method ++ rest)) (begins_crlf (m ∷ method ++ rest) e)) (token.1 0 0 (omega arith)))))
  where
    first : (m : ℕ) (front others : List ℕ) → m ∷ front ≡ 13 ∷ 10 ∷ others → m ≡ 13
    first m front others e = cc
from_method (m ∷ method) rest n token more false e = omega (arith, more, feeds_back (m ∷ method) rest)

from_line : (first : LineEnd) (rest : List ℕ) (n : ℕ) → n ≤ feeds rest → (b : Bool) → b ≡ starts_with nat_eq (print_end first ++ rest) crlf_bytes
    → n ≤ feeds (cond b (drop 2 (print_end first ++ rest)) (print_end first ++ rest))
from_line first rest n more true e =
    omega (arith, more, feeds_append (print_end first) rest, feeds_end first, ap feeds (begins_crlf (print_end first ++ rest) e), feeds_append crlf_bytes (drop 2 (print_end first ++ rest)))
from_line first rest n more false e = omega (arith, more, feeds_back (print_end first) rest)

from_request : (blank : List LineEnd) (method rest : List ℕ) (n : ℕ) → IsToken method → n ≤ feeds rest
    → n ≤ feeds (from_request_line (print_blank blank ++ (method ++ rest)))
from_request [] method rest n token more = from_method method rest n token more (starts_with nat_eq (method ++ rest) crlf_bytes) refl
from_request (first ∷ blank) method rest n token more =
    let others = print_blank blank ++ (method ++ rest) in
    let enough : n ≤ feeds others = omega (arith, more, feeds_back (print_blank blank) (method ++ rest), feeds_back method rest) in
    let within = from_line first others n enough (starts_with nat_eq (print_end first ++ others) crlf_bytes) refl in
    subst (λ l. n ≤ feeds (from_request_line l)) (sym (append_assoc (print_end first) (print_blank blank) (method ++ rest))) within

feeds_head : (bytes : List ℕ) (h : RequestHead) → ReadsRequest bytes h [] → length h.fields + 2 ≤ feeds (from_request_line bytes)
feeds_head bytes h x =
    let rest = 32 ∷ (h.target ++ 32 ∷ (print_version h.minor ++ (print_end h.line_end ++ (print_section h.fields h.last ++ [])))) in
    let more = feeds_rest h.target (print_version h.minor) (print_end h.line_end) (print_section h.fields h.last) (length h.fields) (feeds_end h.line_end) (feeds_section h.fields h.last) in
    subst (λ l. length h.fields + 2 ≤ feeds (from_request_line l)) (sym (x.1 ∙ print_request-append h []))
    (from_request h.blank h.method rest (length h.fields + 2) x.0.method more)

pub few_fields : (bytes : List ℕ) (h : RequestHead) → has_too_many_lines bytes ≡ false → ReadsRequest bytes h [] → length h.fields ≤ 64
few_fields bytes h few x = omega (arith, feeds_head bytes h x, at_most 66 (feeds (from_request_line bytes)) few)
  where
    at_most : (n l : ℕ) → nat_lt n l ≡ false → l ≤ n
    at_most n l e = grind (arith, nat_tests)
