use Rattle.std.proofs.Common.{◌≡◌, ◌++◌, map, is_some, All, sym, ap, ◌∙◌, subst}
use Rattle.trace_model.specs.Attributes.{Rise, keys, at}
use Rattle.trace_model.specs.Remarks.{tags_dropped}
use Rattle.trace_model.specs.declared.place.Place.TheVariants as places
use Rattle.trace_model.specs.Soundness.{IsSoundScope}
use Rattle.trace_model.specs.Values.{AreSound}
use Rattle.span_tags.proofs.AttributeLaws.{attrs_rise}
use Rattle.span_tags.specs.TagKeys.{service_key}
use Rattle.span_tags.specs.TagWords.{Pairs, if_left}
use Rattle.map_jaeger.specs.Reading.{process_attributes, resource_of}
use Rattle.map_jaeger.specs.TagValues.{attribute_of}
use Rattle.map_jaeger.proofs.ReadRemarks.{batch_noted}
use Rattle.map_jaeger.proofs.SoundGroups.{resource_sound, scopes_sound}
use Rattle.map_jaeger.proofs.reading.group_of_batch.Goals as goal

pub process_attributes-requires : goal.process_attributes-requires
process_attributes-requires c = subst (λ (l : Pairs). Rise (keys l)) (sym c.in_ok-tags.ensures.value) (attrs_rise (map attribute_of c.args.batch.tags))

pub returns-clause-remarks : goal.returns-clause-remarks
returns-clause-remarks c =
    let left : c.remark_if.new.remarks ≡ c.remark_keys.new.remarks ++ tags_dropped places.Resource (if_left service_key (is_some (at service_key c.in_ok-tags.tags))) =
    c.in_ok-remark_if.ensures ∙ ap (λ left. c.remark_keys.new.remarks ++ tags_dropped places.Resource (if_left service_key left)) c.is_there.ensures in
    batch_noted c.args.batch c.in_ok-tags.tags c.in_ok-tags.keys c.new-remarks.result
    c.remark_keys.new.remarks c.remark_if.new.remarks c.remark_all.new.remarks c.in_ok-read.read.notes
    c.in_ok-tags.ensures.value c.in_ok-tags.ensures.repeated c.in_ok-read.ensures.remarks
    c.new-remarks.ensures c.in_ok-remark_keys.ensures left c.in_ok-remark_all.ensures

pub returns-clause-sound : goal.returns-clause-sound
returns-clause-sound c =
    let batch = c.args.batch in
    let resource : c.in_ok-resource.resource ≡ resource_of batch = c.in_ok-resource.ensures ∙ ap (λ tags. process_attributes batch.service tags) c.in_ok-tags.ensures.value in
    record {
      resource = subst AreSound (sym resource) (resource_sound batch);
      scopes = subst (All IsSoundScope) (sym c.in_ok-read.ensures.scopes) (scopes_sound batch.spans);
    }
