use Rattle.std.proofs.Common.{sym, subst}
use Rattle.trace_model.specs.Attributes.{Rise, keys}
use Rattle.span_tags.specs.TagWords.{Pairs}
use Rattle.span_tags.proofs.EscapeLaws.{unescaped_rise}
use Rattle.map_jaeger.specs.Columns.{is_reserved}
use Rattle.map_jaeger.proofs.reading.attributes.span_attributes.Goals as goal

pub with_row-requires : goal.with_row-requires
with_row-requires c = subst (λ (l : Pairs). Rise (keys l)) (sym c.in_ok-attributes.ensures.value) (unescaped_rise is_reserved c.args.free)
