use Rattle.std.proofs.Common.{◌++◌, ap, map, ◌∙◌}
use Rattle.std.proofs.lemmas.Result.{IfOk-weaker}
use Rattle.span_tags.specs.Escapes.{escaped}
use Rattle.span_tags.specs.Runs.{under}
use Rattle.span_tags.specs.TagWords.{without}
use Rattle.span_tags.proofs.EscapeLaws.{escaped_rise}
use Rattle.map_jaeger.specs.Columns.{columns_of, rows, is_reserved}
use Rattle.map_jaeger.specs.Keys.{flags_key}
use Rattle.map_jaeger.specs.LeastFault.{doubles_inside}
use Rattle.map_jaeger.specs.TagValues.{tag_of}
use Rattle.map_jaeger.proofs.NoDoubles.{attrs_plain, span_pairs_plain}
use Rattle.map_jaeger.proofs.PlacedRows.{starts}
use Rattle.map_jaeger.proofs.writing.tags_of_span.Goals as goal

pub tags_in_order-requires : goal.tags_in_order-requires
tags_in_order-requires c =
    let attributes = c.args.attributes in
    let others = escaped is_reserved (without flags_key attributes) in
    let one = under c.args.name.now c.args.version.now c.args.span.now in
    ap doubles_inside (c.in_ok-put_columns.ensures others
    (starts others _ (escaped_rise is_reserved (without flags_key attributes)) (c.into_vec-pairs.ensures.items ∙ c.in_ok-others.ensures)))
    ∙ attrs_plain (rows (columns_of one) ++ others) (span_pairs_plain one attributes c.requires.plain)

pub returns : goal.returns
returns c =
    let attributes = c.args.attributes in
    let others = escaped is_reserved (without flags_key attributes) in
    let put = c.in_ok-put_columns.ensures others
    (starts others _ (escaped_rise is_reserved (without flags_key attributes)) (c.into_vec-pairs.ensures.items ∙ c.in_ok-others.ensures)) in
    IfOk-weaker c.tags_in_order.result _ _ (λ tags is. is ∙ ap (map tag_of) put) c.tags_in_order.ensures
