-- The tags of Jaeger's own among the tags of a span, and the others.
use Rattle.std.proofs.Common.{◌≡◌, ℕ, List, [], ◌++◌, map, cond, not, Option, None, sym, ap, subst, ◌∙◌}
use Rattle.jaeger_model.specs.declared.span.JSpan.{JSpan}
use Rattle.trace_model.specs.Attributes.{Rise, keys, attrs}
use Rattle.trace_model.specs.declared.span.Event.{Event}
use Rattle.trace_model.specs.declared.span.Span.{Span}
use Rattle.trace_model.specs.declared.value.Value.{Value}
use Rattle.span_tags.specs.Escapes.{unescaped}
use Rattle.span_tags.proofs.AttributeLaws.{attrs_itself, attrs_rise, at_filter, filter_rise}
use Rattle.span_tags.specs.Runs.{Scoped}
use Rattle.span_tags.specs.TagWords.{Pairs, row}
use Rattle.map_jaeger.specs.Columns.{Columns, row_of, looked, left_out, is_free, is_reserved}
use Rattle.map_jaeger.specs.Keys.{flags_key}
use Rattle.map_jaeger.specs.private.ReadColumns.{ArePartsOf, own_tags, free_tags, scoped_by_parts}
use Rattle.map_jaeger.specs.Reading.{attributes_of, event_of, high_flags_of, scoped_by, scoped_of, span_attributes}
use Rattle.map_jaeger.specs.TagValues.{attribute_of}
use Rattle.map_jaeger.specs.declared.columns.Column.{Column}
use Rattle.map_jaeger.specs.declared.reading.attributes.Parted.{Parted}
use Rattle.map_jaeger.proofs.ColumnLemmas.{its_key}

-- ---- parts

-- where there is no row, the others are the attributes
pub no_row : (key : List ℕ) (value : Option Value) (free : Pairs) → value ≡ None → Rise (keys free) → free ≡ attrs (row key value ++ free)
no_row key value free none up = sym (attrs_itself free up) ∙ ap (λ v. attrs (row key v ++ free)) (sym none)

pub looked_own : (tags : Pairs) → looked (own_tags tags) ≡ looked tags
looked_own tags = λ i column. own column i
  where
    own : (column : Column) → looked (own_tags tags) column ≡ looked tags column
    own column = at_filter (row_of column).key (λ k. not (is_free k)) tags ∙ ap (λ b. cond (not (not b)) (looked tags column) None) (its_key column)

pub left_of_own : (own tags : Pairs) → own ≡ own_tags tags → left_out (looked own) ≡ left_out (looked tags)
left_of_own own tags is = ap (λ l. left_out (looked l)) is ∙ ap left_out (looked_own tags)

pub free_rise : (span : JSpan) (tags : Pairs) (parts : Parted) → tags ≡ attributes_of span.tags → ArePartsOf tags parts → Rise (keys parts.free)
free_rise span tags parts same are = subst (λ (l : Pairs). Rise (keys l)) (sym are.free)
    (filter_rise is_free tags (subst (λ (l : Pairs). Rise (keys l)) (sym same) (attrs_rise (map attribute_of span.tags))))

pub read_of_parts : (span : JSpan) (tags attributes : Pairs) (parts : Parted) (events : List Event) → tags ≡ attributes_of span.tags → ArePartsOf tags parts
    → attributes ≡ attrs (row flags_key (high_flags_of span.flags) ++ unescaped is_reserved parts.free) → events ≡ map event_of span.logs
    → scoped_by_parts (record span { tags = []; logs = [] }) parts.own attributes events ≡ scoped_of span
read_of_parts span tags attributes parts events same are held read =
    let own : looked parts.own ≡ looked (attributes_of span.tags) = ap looked are.own ∙ (looked_own tags ∙ ap looked same) in
    let free : attributes ≡ span_attributes span.flags (attributes_of span.tags) =
    held ∙ ap (λ l. attrs (row flags_key (high_flags_of span.flags) ++ unescaped is_reserved l)) (are.free ∙ ap free_tags same) in
    λ i. by (own i) (free i) (read i)
  where
    by : Columns → Pairs → List Event → Scoped Span
    by c others events = let one = scoped_by span c [] in record one { span = record one.span { attributes = others; events = events } }
