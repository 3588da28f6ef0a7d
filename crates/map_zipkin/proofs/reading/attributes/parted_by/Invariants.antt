use Rattle.std.proofs.Common.{◌≡◌, ◌++◌, filter}
use Rattle.span_tags.specs.TagKeys.{service_key}
use Rattle.span_tags.specs.TagWords.{row, without, text_given}
use Rattle.map_zipkin.specs.Reading.{resource_tags, is_free_tag}
use Rattle.map_zipkin.proofs.reading.attributes.parted_by.Given as goal

abbrev pub invariant-tags : goal.invariant-tags
invariant-tags l = record {
  resource : l.parted.resource ++ without service_key (resource_tags l.tag-iterator.rest.items)
      ≡ row service_key (text_given l.fn.service) ++ without service_key (resource_tags l.fn.tags);
  attributes : l.parted.attributes ++ filter (λ tag. is_free_tag tag.0) l.tag-iterator.rest.items ≡ filter (λ tag. is_free_tag tag.0) l.fn.tags;
}
