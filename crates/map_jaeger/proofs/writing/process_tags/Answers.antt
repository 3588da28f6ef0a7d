use Rattle.std.proofs.Common.{ap, ◌∙◌}
use Rattle.span_tags.specs.TagKeys.{service_key}
use Rattle.map_jaeger.specs.LeastFault.{doubles_inside}
use Rattle.map_jaeger.proofs.NoDoubles.{without_plain}
use Rattle.map_jaeger.proofs.writing.process_tags.Goals as goal

pub tags_in_order-requires : goal.tags_in_order-requires
tags_in_order-requires c = ap doubles_inside (c.into_vec.ensures.items ∙ c.attributes_but-others.ensures) ∙ without_plain service_key c.args.resource c.requires.plain
