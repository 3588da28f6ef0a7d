-- Attributes under reserved keys: no key behind the front is reserved, and the keys stay UTF-8.
use Rattle.std.proofs.Common.{ℕ, Bool, List, ◌++◌, get_or, refl, arith, length-append}
use Rattle.std.specs.Prelude.{IsUtf8}
use Rattle.std.proofs.lemmas.Str.{IsUtf8-append, IsUtf8-drop, IsUtf8-from_ascii, IsCharBoundary-after_ascii}
use Rattle.std.proofs.lemmas.Str.Ascii.{IsAscii-from_all}
use Rattle.trace_model.specs.Proper.{IsProperPair, AreProper}
use Rattle.trace_model.specs.declared.value.Value.{Value}
use Rattle.span_tags.specs.Escapes.{front, escaped, unescaped}
use Rattle.span_tags.specs.Escapes.{IsApart}
use Rattle.span_tags.proofs.EscapeLaws.{esc_holds, unesc_holds, escaped_all, unescaped_all}
use Rattle.map_jaeger.specs.Columns.{is_reserved}
use Rattle.map_jaeger.specs.Keys.{is_event_reserved}
use Rattle.map_jaeger.proofs.GroupProper.{ascii}

pub spans_apart : IsApart is_reserved
spans_apart key = refl

pub events_apart : IsApart is_event_reserved
events_apart key = refl

-- ---- proper attributes

front_utf8 : (key : List ℕ) → IsUtf8 key → IsUtf8 (front ++ key)
front_utf8 key utf8 = IsUtf8-append front key (IsUtf8-from_ascii front (IsAscii-from_all front (ascii front refl))) utf8

behind_utf8 : (key : List ℕ) → IsUtf8 (front ++ key) → IsUtf8 key
behind_utf8 key utf8 =
    let longer = length-append front key in
    IsUtf8-drop (front ++ key) 10 utf8 (IsCharBoundary-after_ascii (front ++ key) 9 utf8 (omega (arith, longer)) (omega arith))

module _ (reserved : List ℕ → Bool) where
  pub escaped_proper : (attributes : List (List ℕ × Value)) → AreProper attributes → AreProper (escaped reserved attributes)
  escaped_proper attributes all = escaped_all reserved IsProperPair attributes
      (λ k d lt. record { key = esc_holds reserved IsUtf8 front_utf8 (get_or attributes k d).0 (all k d lt).key; value = (all k d lt).value })

  pub unescaped_proper : (tags : List (List ℕ × Value)) → AreProper tags → AreProper (unescaped reserved tags)
  unescaped_proper tags all = unescaped_all reserved IsProperPair tags
      (λ k d lt. record { key = unesc_holds reserved IsUtf8 behind_utf8 (get_or tags k d).0 (all k d lt).key; value = (all k d lt).value })
