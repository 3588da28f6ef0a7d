use Rattle.std.proofs.Common.{◌++◌, map, ap, ◌∙◌, subst}
use Rattle.std.proofs.lemmas.Result.{IfOk-weaker}
use Rattle.trace_model.specs.Attributes.{AreRepeated}
use Rattle.trace_model.specs.Remarks.{tags_dropped}
use Rattle.trace_model.specs.declared.place.Place.TheVariants as places
use Rattle.map_jaeger.specs.private.Noted.{AreNumbered}
use Rattle.map_jaeger.specs.Reading.{attributes_of, event_of}
use Rattle.map_jaeger.specs.Remarks.{RepeatsOf, log_remarks}
use Rattle.map_jaeger.specs.TagValues.{attribute_of}
use Rattle.map_jaeger.proofs.ReadParts.{free_rise, left_of_own, read_of_parts}
use Rattle.map_jaeger.proofs.ReadRemarks.{if_there, span_noted}
use Rattle.map_jaeger.proofs.reading.spans.read_span.Goals as goal

pub span_attributes-requires : goal.span_attributes-requires
span_attributes-requires c = free_rise c.args.span c.in_ok-tags.tags c.in_ok-parts.parts
    (c.in_ok-tags.ensures.value ∙ ap attributes_of c.replace-own_tags.ensures.value) c.in_ok-parts.ensures

pub returns-clause-value : goal.returns-clause-value
returns-clause-value c = IfOk-weaker c.span_by.result _ _
    (λ read is. is ∙ read_of_parts c.args.span c.in_ok-tags.tags c.in_ok-attributes.attributes c.in_ok-parts.parts c.in_ok-read.read.means
    (c.in_ok-tags.ensures.value ∙ ap attributes_of c.replace-own_tags.ensures.value) c.in_ok-parts.ensures c.in_ok-attributes.ensures
    (c.in_ok-read.ensures.events ∙ ap (map event_of) c.replace-own_logs.ensures.value)) c.span_by.ensures

pub returns-clause-remarks : goal.returns-clause-remarks
returns-clause-remarks c =
    let place = places.Span c.args.number in
    let own = c.in_ok-parts.parts.own in
    if_there c.span_by.result (span_noted c.args.number c.args.span c.in_ok-tags.tags c.in_ok-tags.keys c.args.remarks.now
    c.remark_keys.new.remarks c.remark_dropped.new.remarks c.remark_columns.new.remarks c.remark_all.new.remarks c.in_ok-read.read.notes
    (c.in_ok-tags.ensures.value ∙ ap attributes_of c.replace-own_tags.ensures.value)
    (subst (λ l. AreRepeated c.in_ok-tags.keys (map attribute_of l)) c.replace-own_tags.ensures.value c.in_ok-tags.ensures.repeated)
    (subst (λ l. AreNumbered RepeatsOf (log_remarks c.args.number) 1 l c.in_ok-read.read.notes) c.replace-own_logs.ensures.value c.in_ok-read.ensures.remarks)
    c.in_ok-remark_keys.ensures c.in_ok-remark_dropped.ensures
    (c.in_ok-remark_columns.ensures ∙ ap (λ l. c.remark_dropped.new.remarks ++ tags_dropped place l) (left_of_own own c.in_ok-tags.tags c.in_ok-parts.ensures.own))
    c.in_ok-remark_all.ensures)
