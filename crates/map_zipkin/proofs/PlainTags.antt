-- No double stands in the tags of a span, which are texts.
use Rattle.std.proofs.Common.{◌≡◌, ℕ, Bool, true, false, cond, ◌||◌, List, [], ◌∷◌, ◌++◌, map, not, All, Option, Some, None, option_map, refl, sym, ap, ◌∙◌, true≢false, append_assoc, ◌+◌, ◌<◌, suc, length, get_or, drop, add-one, drop-cons}
use Rattle.std.proofs.lemmas.List.Elements.{All-nil, All-cons, All-head, All-tail, All-append}
use Rattle.std.specs.Cmp.Lexicographic.{slice_cmp}
use Rattle.std.specs.Ordering.{nat_cmp}
use Rattle.std.specs.Str.{bytes_eq}
use Rattle.std.specs.declared.cmp.Ordering.{Ordering}
use Rattle.std.specs.declared.cmp.Ordering.TheVariants.{Less, Equal, Greater}
use Rattle.trace_model.specs.Attributes.{by_order, attrs, at}
use Rattle.trace_model.specs.EventTexts.{holds_double}
use Rattle.trace_model.specs.ValueTexts.{has_double}
use Rattle.trace_model.specs.declared.value.Value.{Value}
use Rattle.span_tags.proofs.AttributeLaws.{all_attrs}
use Rattle.span_tags.specs.Doubles.{double_at}
use Rattle.span_tags.proofs.ColumnLaws.{all_rows}
use Rattle.span_tags.proofs.EscapeLaws.{escaped_all}
use Rattle.span_tags.specs.Escapes.{escaped}
use Rattle.span_tags.specs.Runs.{under}
use Rattle.span_tags.specs.TagKeys.{service_key}
use Rattle.span_tags.specs.TagWords.{Pairs, row, without, text_given}
use Rattle.trace_model.specs.declared.span.Span.{Span}
use Rattle.map_zipkin.specs.Keys.{is_zipkin_reserved}
use Rattle.map_zipkin.specs.TagColumns.{row_of}
use Rattle.map_zipkin.specs.Writing.{as_text, as_texts, prefixed, resource_pairs}
use Rattle.map_zipkin.specs.private.WritingSoFar.{unshared_columns, span_columns, unshared_rows, shared_pairs, shared_rows, rows_below, rows_above}
use Rattle.map_zipkin.specs.declared.columns.Column.TheVariants as columns
use Rattle.map_zipkin.proofs.ColumnLemmas.{textual}
use Rattle.map_zipkin.proofs.OwnForms.{text_leaf}
use Rattle.map_zipkin.proofs.TagsBack.{column_leaf}

-- ---- what stands at a key

pub at_plain : (key : List ℕ) (pairs : Pairs) → holds_double pairs ≡ false → double_at (at key pairs) ≡ false
at_plain key [] plain = refl
at_plain key (pair ∷ pairs) plain = by (bytes_eq key pair.0) (has_double pair.1) refl (at_plain key pairs) plain
  where
    by : (b d : Bool) → has_double pair.1 ≡ d → (holds_double pairs ≡ false → double_at (at key pairs) ≡ false) → (d || holds_double pairs) ≡ false
        → double_at (cond b (Some pair.1) (at key pairs)) ≡ false
    by b true is later none = absurd (true≢false none)
    by true false is later none = is
    by false false is later none = later none

-- ---- texts

abbrev Plain : List ℕ × Value → Type 0
Plain pair = has_double pair.1 ≡ false

each_plain : (pairs : Pairs) → holds_double pairs ≡ false → All Plain pairs
each_plain [] none = All-nil Plain
each_plain (pair ∷ pairs) none = by (has_double pair.1) refl (each_plain pairs) none
  where
    by : (d : Bool) → has_double pair.1 ≡ d → (holds_double pairs ≡ false → All Plain pairs) → (d || holds_double pairs) ≡ false → All Plain (pair ∷ pairs)
    by true is later none = absurd (true≢false none)
    by false is later none = All-cons Plain pair pairs is (later none)

none_double : (pairs : Pairs) → All Plain pairs → holds_double pairs ≡ false
none_double [] all = refl
none_double (pair ∷ pairs) all = ap (λ d. d || holds_double pairs) (All-head Plain pair pairs all) ∙ none_double pairs (All-tail Plain pair pairs all)

prefixed_plain : (pairs : Pairs) → All Plain (map prefixed (as_texts pairs))
prefixed_plain [] = All-nil Plain
prefixed_plain (pair ∷ pairs) = All-cons Plain (prefixed (as_text pair)) (map prefixed (as_texts pairs)) refl (prefixed_plain pairs)

-- a row whose value is a text
plain_row : (key : List ℕ) (value : Option Value) → option_map textual value ≡ value → All Plain (row key value)
plain_row key None e = All-nil Plain
plain_row key (Some value) e = All-cons Plain (key, value) [] (sym (ap double_at e)) (All-nil Plain)

-- those of the columns
pub own_plain : (span : Span) → holds_double (unshared_rows span) ≡ false
own_plain span = none_double (unshared_rows span) (all_rows row_of Plain unshared_columns (span_columns span)
    (λ column. plain_row (row_of column).key (span_columns span column) (column_leaf (under [] [] span) column)))

pub shared_plain : (resource : Pairs) (name version : List ℕ) → holds_double (shared_rows resource name version) ≡ false
shared_plain resource name version = none_double (shared_rows resource name version) (all_attrs Plain (shared_pairs resource name version)
    (All-append Plain (row (row_of columns.ScopeName).key (text_given name)) _ (plain_row (row_of columns.ScopeName).key _ (text_leaf name))
    (All-append Plain (row (row_of columns.ScopeVersion).key (text_given version)) _ (plain_row (row_of columns.ScopeVersion).key _ (text_leaf version))
    (prefixed_plain (without service_key resource)))))

-- the rows of a span and those in common
pub rows_plain : (own shared held : Pairs) → holds_double own ≡ false → holds_double shared ≡ false → held ≡ attrs (own ++ shared) → holds_double held ≡ false
rows_plain own shared held own_is shared_is e =
    ap holds_double e ∙ none_double (attrs (own ++ shared)) (all_attrs Plain (own ++ shared) (All-append Plain own shared (each_plain own own_is) (each_plain shared shared_is)))

-- attributes under the keys of their tags
pub escaped_plain : (l held : Pairs) → holds_double l ≡ false → held ≡ escaped is_zipkin_reserved (attrs l) → holds_double held ≡ false
escaped_plain l held plain e = ap holds_double e
    ∙ none_double (escaped is_zipkin_reserved (attrs l)) (escaped_all is_zipkin_reserved Plain (attrs l) (all_attrs Plain l (each_plain l plain)))

-- ---- rows around a key

pub plain_below : (key : List ℕ) (rows : Pairs) → holds_double rows ≡ false → holds_double (rows_below key rows) ≡ false
plain_below key [] plain = refl
plain_below key (row ∷ rows) plain = by (slice_cmp nat_cmp row.0 key) (has_double row.1) refl (plain_below key rows) plain
  where
    by : (o : Ordering) (d : Bool) → has_double row.1 ≡ d → (holds_double rows ≡ false → holds_double (rows_below key rows) ≡ false) → (d || holds_double rows) ≡ false
        → holds_double (by_order o (row ∷ rows_below key rows) [] []) ≡ false
    by o true is later none = absurd (true≢false none)
    by Less false is later none = ap (λ d. d || holds_double (rows_below key rows)) is ∙ later none
    by Equal false is later none = refl
    by Greater false is later none = refl

pub plain_above : (key : List ℕ) (rows : Pairs) → holds_double rows ≡ false → holds_double (rows_above key rows) ≡ false
plain_above key [] plain = refl
plain_above key (row ∷ rows) plain = by (slice_cmp nat_cmp row.0 key) (behind (has_double row.1) plain) (plain_above key rows)
  where
    behind : (d : Bool) → (d || holds_double rows) ≡ false → holds_double rows ≡ false
    behind true none = absurd (true≢false none)
    behind false none = none

    by : (o : Ordering) → holds_double rows ≡ false → (holds_double rows ≡ false → holds_double (rows_above key rows) ≡ false)
        → holds_double (by_order o (rows_above key rows) rows (row ∷ rows)) ≡ false
    by Less is later = later is
    by Equal is later = is
    by Greater is later = plain

-- ---- parts of what is fit

pub first_of_three : (a b c : Bool) → (a || (b || c)) ≡ false → a ≡ false
first_of_three true b c none = absurd (true≢false none)
first_of_three false b c none = refl

pub second_of_three : (a b c : Bool) → (a || (b || c)) ≡ false → b ≡ false
second_of_three true b c none = absurd (true≢false none)
second_of_three false true c none = absurd (true≢false none)
second_of_three false false c none = refl

pub last_of_three : (a b c : Bool) → (a || (b || c)) ≡ false → c ≡ false
last_of_three true b c none = absurd (true≢false none)
last_of_three false true c none = absurd (true≢false none)
last_of_three false false c none = none

-- ---- one pair more

resource_more : (pair : List ℕ × Value) (more : Pairs) → resource_pairs (pair ∷ more) ≡ resource_pairs (pair ∷ []) ++ resource_pairs more
resource_more pair more = by (not (bytes_eq service_key pair.0))
  where
    by : (b : Bool) → map prefixed (as_texts (cond b (pair ∷ without service_key more) (without service_key more)))
        ≡ map prefixed (as_texts (cond b (pair ∷ []) [])) ++ map prefixed (as_texts (without service_key more))
    by true = refl
    by false = refl

pub resource_step : (resource : Pairs) (i : ℕ) (pair : List ℕ × Value) (first old new : Pairs) → i < length resource → pair ≡ get_or resource i pair
    → new ≡ old ++ resource_pairs (pair ∷ []) → old ++ resource_pairs (drop i resource) ≡ first ++ resource_pairs resource
    → new ++ resource_pairs (drop (i + 1) resource) ≡ first ++ resource_pairs resource
resource_step resource i pair first old new within here one so_far =
    let left : drop i resource ≡ pair ∷ drop (i + 1) resource =
    rw (add-one i) (drop-cons resource i pair within ∙ ap (λ y. y ∷ drop (suc i) resource) (sym here)) in
    ap (λ l. l ++ resource_pairs (drop (i + 1) resource)) one
    ∙ (append_assoc old (resource_pairs (pair ∷ [])) (resource_pairs (drop (i + 1) resource))
    ∙ (ap (λ l. old ++ l) (sym (ap resource_pairs left ∙ resource_more pair (drop (i + 1) resource))) ∙ so_far))
