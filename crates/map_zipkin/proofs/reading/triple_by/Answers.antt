use Rattle.std.proofs.Common.{◌≡◌, ◌++◌, map, Option, option_map, ap, sym, subst, ◌∙◌}
use Rattle.std.proofs.lemmas.Result.{err_from_is_err_and}
use Rattle.trace_model.specs.Remarks.{tags_dropped}
use Rattle.trace_model.specs.Soundness.{IsSoundSpan}
use Rattle.trace_model.specs.Values.{AreSound}
use Rattle.trace_model.specs.declared.place.Place.TheVariants as places
use Rattle.trace_model.specs.declared.value.Value.{Value}
use Rattle.zipkin_json.specs.declared.span.ZSpan.{ZSpan}
use Rattle.span_tags.specs.TagWords.{row}
use Rattle.map_zipkin.specs.Keys.{peer_key}
use Rattle.map_zipkin.specs.OwnColumns.{own_of, own_rows}
use Rattle.map_zipkin.specs.Reading.{pair_of, pairs_of, peer_of, zipkin_event_of}
use Rattle.map_zipkin.specs.Remarks.{left_out_by}
use Rattle.map_zipkin.specs.TagColumns.{columns_in}
use Rattle.map_zipkin.specs.private.ReadColumns.{ArePlaced}
use Rattle.map_zipkin.proofs.EventFacts.{EventsRead}
use Rattle.map_zipkin.proofs.OwnBehind.{own_pairs}
use Rattle.map_zipkin.proofs.ReadHeld.{resource_sound, span_sound}
use Rattle.map_zipkin.proofs.SpanJoined.{span_joined}
use Rattle.map_zipkin.proofs.reading.triple_by.Goals as goal

-- the attributes of the span's own have a place of their own
pub parted_by-requires : goal.parted_by-requires
parted_by-requires c =
    subst ArePlaced (sym c.in_ok-own.ensures) (own_pairs (peer_of c.replace-peer.result (option_map (λ v. v.now) c.find-tag.result)) (own_of c.args.span))

pub returns-clause-value : goal.returns-clause-value
returns-clause-value c =
    let span : ZSpan = c.args.span in
    let tag : Option Value = option_map (λ v. v.now) c.find-tag.result in
    span_joined span c.in_ok-told.told c.in_ok-parted.parted c.in_ok-events.events c.new-5.result c.kind_of.result
    c.in_ok-tags.tags c.in_ok-own.own c.replace-service.result tag
    (c.in_ok-tags.ensures ∙ ap (map pair_of) c.replace-own_tags.ensures.value) c.in_ok-told.ensures
    (c.in_ok-events.ensures ∙ ap (map zipkin_event_of) c.replace-annotations.ensures.value) c.replace-service.ensures.value c.find-tag.ensures
    (c.in_ok-own.ensures ∙ ap (λ s. row peer_key (peer_of s tag) ++ own_rows (own_of span)) c.replace-peer.ensures.value)
    c.in_ok-parted.ensures c.kind_of.ensures c.new-5.ensures

pub returns-clause-remarks : goal.returns-clause-remarks
returns-clause-remarks c =
    let tags_are : c.in_ok-tags.tags ≡ pairs_of c.args.span = c.in_ok-tags.ensures ∙ ap (map pair_of) c.replace-own_tags.ensures.value in
    c.in_ok-remarks.ensures ∙ ap (λ t. tags_dropped (places.Span 1) (left_out_by c.args.span.remote.service (columns_in t) t)) tags_are

pub returns-clause-sound : goal.returns-clause-sound
returns-clause-sound c =
    let facts : EventsRead = record {
      reads = c.event_texts_exact.ensures;
      no_bytes = c.event_texts_once.ensures.no_bytes;
      no_double = c.event_texts_once.ensures.no_double;
    } in
    subst (λ parts. AreSound parts.0.resource × IsSoundSpan parts.1) (sym (returns-clause-value c))
    (resource_sound c.args.span, span_sound facts c.args.span)

-- want of memory is handed on
pub returns-in_err-events-clause-value : goal.returns-in_err-events-clause-value
returns-in_err-events-clause-value c =
    let p = err_from_is_err_and c.from_residual-in_err-events.result c.from_residual-in_err-events.ensures.1 in
    rw (p.1) tt

pub returns-in_err-events-clause-remarks : goal.returns-in_err-events-clause-remarks
returns-in_err-events-clause-remarks c =
    let p = err_from_is_err_and c.from_residual-in_err-events.result c.from_residual-in_err-events.ensures.1 in
    rw (p.1) tt

pub returns-in_err-events-clause-sound : goal.returns-in_err-events-clause-sound
returns-in_err-events-clause-sound c =
    let p = err_from_is_err_and c.from_residual-in_err-events.result c.from_residual-in_err-events.ensures.1 in
    rw (p.1) tt
