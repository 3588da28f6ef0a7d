-- The head that the parser found is all bytes, or no head is.
use Rattle.std.proofs.Common.{◌≡◌, ◌≢◌, ℕ, ◌≤◌, List, [], ◌∷◌, ◌++◌, length, drop, refl, sym, ap, subst, ◌∙◌, arith, append_assoc}
use Rattle.std.specs.Prelude.{All, IfNone, None, Option, Some, map}
use Rattle.std.proofs.lemmas.List.{drop_at, length-drop, map-append}
use Rattle.std.proofs.lemmas.List.Elements.{All-drop, All-head}
use Rattle.httparse.specs.Grammar.{ReadsRequest, RequestHead}
use Rattle.httparse.specs.Spans.{IsHeaderWithin, IsRequestOf, header_bytes}
use Rattle.httparse.specs.declared.spans.HeaderSpan.{HeaderSpan}
use Rattle.httparse.specs.declared.spans.RequestSpans.{RequestSpans}
use Rattle.httparse.proofs.GrammarLemmas.{request_unique}
use Rattle.http_conn.specs.private.FoundFields.{FoundIn}
use Rattle.http_conn.specs.declared.fields.Fields.{Fields}
use Rattle.http_conn.specs.declared.head.Head.{Head}

pub not_whole : (bytes : List ℕ) (spans : List HeaderSpan) (parts : RequestSpans) → IsRequestOf bytes spans parts → parts.len ≤ length bytes
    → parts.len ≢ length bytes → (h : RequestHead) → ¬ (ReadsRequest bytes h [])
not_whole bytes spans parts of fits other h reads =
    let same = request_unique bytes of.0 h (drop parts.len bytes) [] of.1.reads reads in
    other (omega (arith, ap length same.1, length-drop parts.len bytes))

pub no_head : (bytes : List ℕ) (read : Option Head) → ((h : RequestHead) → ¬ (ReadsRequest bytes h [])) → IfNone read ((h : RequestHead) → ¬ (ReadsRequest bytes h []))
no_head bytes (Some read) none = tt
no_head bytes None none = none

-- ---- line by line

module _ (bytes : List ℕ) (spans seen rest : List HeaderSpan) (so_far : spans ≡ seen ++ rest) where
  pub line_within : (span : HeaderSpan) (others : List HeaderSpan) → rest ≡ span ∷ others → All (IsHeaderWithin (length bytes)) spans
      → IsHeaderWithin (length bytes) span
  line_within span others e h =
      let whole : All (IsHeaderWithin (length bytes)) (seen ++ rest) = subst (λ l. All (IsHeaderWithin (length bytes)) l) so_far h in
      let back : All (IsHeaderWithin (length bytes)) rest = subst (λ l. All (IsHeaderWithin (length bytes)) l) (drop_at seen rest (length seen) refl) (All-drop (IsHeaderWithin (length bytes)) (length seen) (seen ++ rest) whole) in
      All-head (IsHeaderWithin (length bytes)) span others (subst (λ l. All (IsHeaderWithin (length bytes)) l) e back)

  pub line_more : (span : HeaderSpan) (others : List HeaderSpan) (found : Fields) → rest ≡ span ∷ others
      → FoundIn found (map (header_bytes bytes) seen ++ header_bytes bytes span ∷ [])
      → (now : List HeaderSpan) × (spans ≡ now ++ others) × FoundIn found (map (header_bytes bytes) now)
  line_more span others found e h = (
    seen ++ span ∷ [],
    so_far ∙ ap (λ l. seen ++ l) e ∙ sym (append_assoc seen (span ∷ []) others),
    subst (λ lines. FoundIn found lines) (sym (map-append (header_bytes bytes) seen (span ∷ []))) h,
  )
