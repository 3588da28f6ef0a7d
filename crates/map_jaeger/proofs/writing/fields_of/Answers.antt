use Rattle.std.proofs.Common.{◌≡◌, ◌++◌, ap, map, ◌∙◌}
use Rattle.std.proofs.lemmas.Result.{IfOk-weaker}
use Rattle.trace_model.specs.Attributes.{attrs}
use Rattle.span_tags.specs.Escapes.{escaped}
use Rattle.span_tags.specs.TagWords.{row, text_given}
use Rattle.span_tags.proofs.EscapeLaws.{escaped_rise}
use Rattle.map_jaeger.specs.Keys.{event_key, is_event_reserved}
use Rattle.map_jaeger.specs.LeastFault.{doubles_inside}
use Rattle.map_jaeger.specs.TagValues.{tag_of}
use Rattle.map_jaeger.proofs.NoDoubles.{attrs_plain, event_pairs_plain}
use Rattle.map_jaeger.proofs.PlacedRows.{starts}
use Rattle.map_jaeger.proofs.writing.fields_of.Goals as goal

pub tags_in_order-requires : goal.tags_in_order-requires
tags_in_order-requires c =
    let attributes = c.args.attributes in
    let others = escaped is_event_reserved attributes in
    let put : c.put_row.new.pairs.items ≡ attrs (row event_key (text_given c.args.name) ++ others) =
    c.in_ok-put_row.ensures others (starts others _ (escaped_rise is_event_reserved attributes) (c.into_vec-pairs.ensures.items ∙ c.in_ok-others.ensures.value))
    ∙ ap (λ value. attrs (row event_key value ++ others)) c.text_kept.ensures in
    ap doubles_inside put ∙ attrs_plain (row event_key (text_given c.args.name) ++ others) (event_pairs_plain c.args.name attributes c.requires.plain)

pub returns : goal.returns
returns c =
    let attributes = c.args.attributes in
    let others = escaped is_event_reserved attributes in
    let put : c.put_row.new.pairs.items ≡ attrs (row event_key (text_given c.args.name) ++ others) =
    c.in_ok-put_row.ensures others (starts others _ (escaped_rise is_event_reserved attributes) (c.into_vec-pairs.ensures.items ∙ c.in_ok-others.ensures.value))
    ∙ ap (λ value. attrs (row event_key value ++ others)) c.text_kept.ensures in
    IfOk-weaker c.tags_in_order.result _ _ (λ tags is. is ∙ ap (map tag_of) put) c.tags_in_order.ensures
