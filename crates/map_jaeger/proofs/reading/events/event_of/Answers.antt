use Rattle.std.proofs.Common.{map, sym, subst}
use Rattle.trace_model.specs.Attributes.{Rise, keys}
use Rattle.span_tags.specs.TagWords.{Pairs}
use Rattle.span_tags.proofs.AttributeLaws.{attrs_rise}
use Rattle.map_jaeger.specs.TagValues.{attribute_of}
use Rattle.map_jaeger.proofs.reading.events.event_of.Goals as goal

pub event_attributes-requires : goal.event_attributes-requires
event_attributes-requires c = subst (λ (l : Pairs). Rise (keys l)) (sym c.in_ok-tags.ensures.value) (attrs_rise (map attribute_of c.args.log.fields))
