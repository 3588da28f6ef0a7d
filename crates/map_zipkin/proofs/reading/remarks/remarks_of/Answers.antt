use Rattle.std.proofs.Common.{◌++◌, ap, ◌∙◌}
use Rattle.trace_model.specs.Remarks.{tags_dropped}
use Rattle.trace_model.specs.declared.place.Place.TheVariants as places
use Rattle.span_tags.specs.Columns.{left_out_by as left_out_of}
use Rattle.span_tags.specs.TagWords.{if_left}
use Rattle.map_zipkin.specs.Keys.{peer_key}
use Rattle.map_zipkin.specs.OwnColumns.{all_own, own_row}
use Rattle.map_zipkin.specs.Remarks.{left_out_by}
use Rattle.map_zipkin.specs.TagColumns.{columns_in}
use Rattle.map_zipkin.proofs.LeftOut.{joined}
use Rattle.map_zipkin.proofs.reading.remarks.remarks_of.Goals as goal

pub returns : goal.returns
returns c =
    let place = places.Span 1 in
    let tags = c.args.tags.now in
    let new = c.remark_own.new.remarks in
    joined place _ _ c.new-remarks.result c.remark_reserved.new.remarks new c.in_ok-remark_reserved.ensures
    (joined place _ _ c.remark_reserved.new.remarks c.remark_if.new.remarks new
    (c.in_ok-remark_if.ensures ∙ ap (λ b. c.remark_reserved.new.remarks ++ tags_dropped place (if_left peer_key b)) c.is_idle_peer-idle.ensures)
    (c.in_ok-remark_own.ensures ∙ ap (λ own. c.remark_if.new.remarks ++ tags_dropped place (left_out_of own_row all_own own)) c.own_part.ensures))
    ∙ ap (λ l. l ++ tags_dropped place (left_out_by c.args.service.now (columns_in tags) tags)) c.new-remarks.ensures
