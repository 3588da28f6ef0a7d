-- No double stands inside what is written where nothing is a fault.
use Rattle.std.proofs.Common.{◌≡◌, ℕ, Bool, true, false, cond, ◌||◌, List, [], ◌∷◌, ◌++◌, filter, not, get_or, Option, Some, None, refl, ap, ◌∙◌}
use Rattle.std.specs.List.{list_any}
use Rattle.std.specs.Ordering.{nat_cmp}
use Rattle.std.specs.declared.cmp.Ordering.{Ordering}
use Rattle.std.specs.declared.cmp.Ordering.TheVariants.{Less, Equal, Greater}
use Rattle.std.specs.Cmp.Lexicographic.{slice_cmp}
use Rattle.std.specs.Str.{bytes_eq}
use Rattle.std.proofs.lemmas.Bool.{false_from_ne_true}
use Rattle.std.proofs.lemmas.List.Folds.{list_any-append}
use Rattle.trace_model.specs.Attributes.{by_order, placed, attrs}
use Rattle.trace_model.specs.declared.fault.Fault.{Fault}
use Rattle.trace_model.specs.declared.fault.Fault.TheVariants.{DoubleInText}
use Rattle.trace_model.specs.declared.span.Span.{Span}
use Rattle.trace_model.specs.declared.group.Group.{Group}
use Rattle.trace_model.specs.declared.value.Value.{Value, List', Map'}
use Rattle.span_tags.specs.Columns.{rows_by}
use Rattle.span_tags.specs.Escapes.{rekeyed, esc, escaped}
use Rattle.span_tags.proofs.FaultLaws.{span_doubles, plain_resource, plain_spans, none_scoped}
use Rattle.span_tags.specs.Runs.{Scoped, scoped}
use Rattle.span_tags.specs.TagWords.{Pairs, row, text_given, without}
use Rattle.map_jaeger.specs.Columns.{all_columns, row_of, columns_of, rows, is_reserved}
use Rattle.map_jaeger.specs.private.Doubles.{scope_has_double, group_has_double}
use Rattle.map_jaeger.specs.Keys.{event_key, is_event_reserved, flags_key}
use Rattle.map_jaeger.specs.Faults.{HasDoubleInside, IsResourceFault, IsSpanFault, HasNoFault}
use Rattle.map_jaeger.specs.LeastFault.{span_has_double, resource_has_double, has_double_inside, doubles_inside, jaeger_faults}
use Rattle.map_jaeger.specs.declared.columns.Column.{Column}
use Rattle.map_jaeger.proofs.ColumnLemmas.{normal_column}
use Rattle.map_jaeger.proofs.FaultRows.{inside_decides, finds_faults}
use Rattle.map_jaeger.proofs.SpanParts.{text_leaf, leaf_in}

-- ---- members of which none passes

left_false : (a b : Bool) → (a || b) ≡ false → a ≡ false
left_false true b e = e
left_false false b e = refl

right_false : (a b : Bool) → (a || b) ≡ false → b ≡ false
right_false true b e = absurd (cc)
right_false false b e = e

both_false : (a b : Bool) → a ≡ false → b ≡ false → (a || b) ≡ false
both_false a b first second = rw first second

module _ {X : Type 0} (test : X → Bool) where
  joined : (xs ys : List X) → list_any test xs ≡ false → list_any test ys ≡ false → list_any test (xs ++ ys) ≡ false
  joined xs ys first second = list_any-append test xs ys ∙ both_false (list_any test xs) (list_any test ys) first second

  kept_by : (x : X) (rest : List X) (b : Bool) → test x ≡ false → list_any test rest ≡ false → list_any test (cond b (x ∷ rest) rest) ≡ false
  kept_by x rest true one none = both_false (test x) (list_any test rest) one none
  kept_by x rest false one none = none

  kept : (keep : X → Bool) (xs : List X) → list_any test xs ≡ false → list_any test (filter keep xs) ≡ false
  kept keep [] none = refl
  kept keep (x ∷ xs) none = kept_by x (filter keep xs) (keep x) (left_false (test x) (list_any test xs) none)
      (kept keep xs (right_false (test x) (list_any test xs) none))

-- ---- attributes

in_place_by : (pair other : List ℕ × Value) (others more : Pairs) (o : Ordering) → has_double_inside pair ≡ false → doubles_inside (other ∷ others) ≡ false
    → doubles_inside more ≡ false → doubles_inside (by_order o (pair ∷ other ∷ others) (other ∷ others) (other ∷ more)) ≡ false
in_place_by pair other others more Less one rest behind = both_false (has_double_inside pair) (doubles_inside (other ∷ others)) one rest
in_place_by pair other others more Equal one rest behind = rest
in_place_by pair other others more Greater one rest behind =
    both_false (has_double_inside other) (doubles_inside more) (left_false (has_double_inside other) (doubles_inside others) rest) behind

in_place : (pair : List ℕ × Value) (pairs : Pairs) → has_double_inside pair ≡ false → doubles_inside pairs ≡ false → doubles_inside (placed pair pairs) ≡ false
in_place pair [] one rest = both_false (has_double_inside pair) false one refl
in_place pair (other ∷ others) one rest = in_place_by pair other others (placed pair others) (slice_cmp nat_cmp pair.0 other.0) one rest
    (in_place pair others one (right_false (has_double_inside other) (doubles_inside others) rest))

pub attrs_plain : (pairs : Pairs) → doubles_inside pairs ≡ false → doubles_inside (attrs pairs) ≡ false
attrs_plain [] none = refl
attrs_plain (pair ∷ pairs) none = in_place pair (attrs pairs) (left_false (has_double_inside pair) (doubles_inside pairs) none)
    (attrs_plain pairs (right_false (has_double_inside pair) (doubles_inside pairs) none))

-- other keys change nothing of it
rekeyed_plain : (f : List ℕ → List ℕ) (pairs : Pairs) → doubles_inside (rekeyed f pairs) ≡ doubles_inside pairs
rekeyed_plain f [] = refl
rekeyed_plain f (pair ∷ pairs) = ap (λ b. has_double_inside pair || b) (rekeyed_plain f pairs)

escaped_plain : (is_reserved : List ℕ → Bool) (pairs : Pairs) → doubles_inside pairs ≡ false → doubles_inside (escaped is_reserved pairs) ≡ false
escaped_plain is_reserved pairs none = attrs_plain (rekeyed (esc is_reserved) pairs) (rekeyed_plain (esc is_reserved) pairs ∙ none)

pub without_plain : (key : List ℕ) (pairs : Pairs) → doubles_inside pairs ≡ false → doubles_inside (without key pairs) ≡ false
without_plain key pairs = kept has_double_inside (λ attribute. not (bytes_eq key attribute.0)) pairs

-- ---- columns

-- there is none in a leaf
leaf_plain : (key : List ℕ) (value : Option Value) → normal_column value ≡ value → doubles_inside (row key value) ≡ false
leaf_plain key None leaf = refl
leaf_plain key (Some (List' shape members)) leaf = absurd (cc)
leaf_plain key (Some (Map' shape members)) leaf = absurd (cc)
leaf_plain key (Some other) leaf = refl

columns_plain : (columns : List Column) (one : Scoped Span) → doubles_inside (rows_by row_of columns (columns_of one)) ≡ false
columns_plain [] one = refl
columns_plain (column ∷ more) one = joined has_double_inside (row (row_of column).key (columns_of one column)) (rows_by row_of more (columns_of one))
    (leaf_plain (row_of column).key (columns_of one column) (leaf_in one column)) (columns_plain more one)

pub span_pairs_plain : (one : Scoped Span) (attributes : Pairs) → doubles_inside attributes ≡ false
    → doubles_inside (rows (columns_of one) ++ escaped is_reserved (without flags_key attributes)) ≡ false
span_pairs_plain one attributes none = joined has_double_inside (rows (columns_of one)) (escaped is_reserved (without flags_key attributes))
    (columns_plain all_columns one) (escaped_plain is_reserved (without flags_key attributes) (without_plain flags_key attributes none))

pub event_pairs_plain : (name : List ℕ) (attributes : Pairs) → doubles_inside attributes ≡ false
    → doubles_inside (row event_key (text_given name) ++ escaped is_event_reserved attributes) ≡ false
event_pairs_plain name attributes none = joined has_double_inside (row event_key (text_given name)) (escaped is_event_reserved attributes)
    (leaf_plain event_key (text_given name) (text_leaf name)) (escaped_plain is_event_reserved attributes none)

-- ---- what has no fault

span_plain : (span : Span) → ((fault : Fault) → IsSpanFault span fault → ⊥) → span_has_double span ≡ false
span_plain span none = false_from_ne_true (span_has_double span) (λ e. none DoubleInText ((span_doubles jaeger_faults HasDoubleInside inside_decides span).0 e))

pub group_plain : (group : Group) → HasNoFault group → group_has_double group ≡ false
group_plain group none = both_false (resource_has_double group.resource) (list_any scope_has_double group.scopes)
    (false_from_ne_true (resource_has_double group.resource) (λ e. plain_resource IsResourceFault IsSpanFault group none DoubleInText ((finds_faults.resource group.resource).0 e)))
    (none_scoped span_has_double group.scopes
    (λ k d lt. span_plain (get_or (scoped group.scopes) k d).span (plain_spans IsResourceFault IsSpanFault group none k d lt)))
