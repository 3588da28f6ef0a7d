-- Keys of attributes as they are written where a target reserves `error` alone, and back; a span that has three of them.
use Rattle.std.proofs.Common.{◌≡◌, ℕ, Bool, true, false, List, [], ◌∷◌, refl}
use Rattle.std.specs.Prelude.{codes}
use Rattle.std.specs.Str.{bytes_eq}
use Rattle.trace_model.specs.declared.value.Value.{Truth}
use Rattle.span_tags.specs.Escapes.{base, esc, unesc, escaped, unescaped}
use Rattle.span_tags.specs.TagWords.{Pairs}

abbrev is_error : List ℕ → Bool
is_error key = bytes_eq key (codes "error")

reserved_written : esc is_error (codes "error") ≡ codes "otel.attr.error"
reserved_written = refl

once_more : esc is_error (codes "otel.attr.error") ≡ codes "otel.attr.otel.attr.error"
once_more = refl

twice_more : esc is_error (codes "otel.attr.otel.attr.error") ≡ codes "otel.attr.otel.attr.otel.attr.error"
twice_more = refl

other_stays : esc is_error (codes "otel.attr.ok") ≡ codes "otel.attr.ok"
other_stays = refl

front_stays : esc is_error (codes "otel.attr.") ≡ codes "otel.attr."
front_stays = refl

-- ---- back

reserved_read : unesc is_error (codes "otel.attr.error") ≡ codes "error"
reserved_read = refl

one_copy_taken : unesc is_error (codes "otel.attr.otel.attr.error") ≡ codes "otel.attr.error"
one_copy_taken = refl

other_read : unesc is_error (codes "otel.attr.ok") ≡ codes "otel.attr.ok"
other_read = refl

front_read : unesc is_error (codes "otel.attr.") ≡ codes "otel.attr."
front_read = refl

all_copies : base (codes "otel.attr.otel.attr.error") ≡ codes "error"
all_copies = refl

-- ---- attributes

abbrev three : Pairs
three = (codes "error", Truth true) ∷ (codes "key", Truth false) ∷ (codes "otel.attr.error", Truth false) ∷ []

abbrev three_written : Pairs
three_written =
    (codes "key", Truth false) ∷ (codes "otel.attr.error", Truth true) ∷ (codes "otel.attr.otel.attr.error", Truth false) ∷ []

none_lost : escaped is_error three ≡ three_written
none_lost = refl

there_and_back : unescaped is_error three_written ≡ three
there_and_back = refl
