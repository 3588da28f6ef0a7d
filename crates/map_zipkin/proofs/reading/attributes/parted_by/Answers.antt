use Rattle.std.proofs.Common.{◌≡◌, [], ◌++◌, filter, ap, sym, ◌∙◌}
use Rattle.std.proofs.lemmas.List.{append-nil}
use Rattle.trace_model.specs.Attributes.{attrs}
use Rattle.span_tags.specs.Escapes.{unescaped}
use Rattle.span_tags.proofs.Moved.{none_left}
use Rattle.span_tags.specs.TagKeys.{service_key}
use Rattle.span_tags.specs.TagWords.{Pairs, without}
use Rattle.map_zipkin.specs.Keys.{is_zipkin_reserved}
use Rattle.map_zipkin.specs.Reading.{is_free_tag, resource_tags}
use Rattle.map_zipkin.proofs.OwnBehind.{own_behind}
use Rattle.map_zipkin.proofs.ReadKeys.{free_step, resource_step}
use Rattle.map_zipkin.proofs.reading.attributes.parted_by.Goals as goal

pub tags-preserved : goal.tags-preserved
tags-preserved c = record {
  resource = resource_step c.in-Some.tag c.tags.tag-iterator.rest.items c.next.new.self.rest.items c.args.tags _ c.tags.parted.resource c.add.new.self.resource
      c.in-Some.ensures.steps.0 c.in_ok-add.ensures.resource c.tags.invariant.resource;
  attributes = free_step c.in-Some.tag c.tags.tag-iterator.rest.items c.next.new.self.rest.items c.args.tags [] c.tags.parted.attributes c.add.new.self.attributes
      c.in-Some.ensures.steps.0 c.in_ok-add.ensures.attributes c.tags.invariant.attributes;
}

pub returns : goal.returns
returns c =
    let left : Pairs = c.tags.tag-iterator.rest.items in
    let none : left ≡ [] = none_left left (sym c.tags.tag-iterator.rest.ok.0 ∙ c.in-None.ensures.steps.0) in
    let free : Pairs = filter (λ tag. is_free_tag tag.0) c.args.tags in
    let resource = c.tags.parted.resource in
    let attributes = c.tags.parted.attributes in
    let all_free : attributes ≡ free =
    sym (ap (λ l. attributes ++ filter (λ tag. is_free_tag tag.0) l) none ∙ append-nil attributes) ∙ c.tags.invariant.attributes in
    let all_resource = sym (ap (λ l. resource ++ without service_key (resource_tags l)) none ∙ append-nil resource) ∙ c.tags.invariant.resource in record {
      resource = c.in_ok-resource.ensures.same ∙ ap attrs all_resource;
      attributes = c.in_ok-attributes-2.ensures.value
          ∙ ap (unescaped is_zipkin_reserved) (c.in_ok-attributes.ensures.same ∙ ap attrs (c.in_ok-add_pairs.ensures ∙ ap (λ l. l ++ c.args.pairs) all_free))
          ∙ own_behind c.args.pairs c.args.tags c.requires;
    }
