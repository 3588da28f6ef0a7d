use Rattle.std.proofs.Common.{ap, sym, subst, ◌∙◌}
use Rattle.trace_model.specs.Attributes.{Rise, keys}
use Rattle.trace_model.specs.EventTexts.{holds_double}
use Rattle.span_tags.proofs.AttributeLaws.{attrs_rise}
use Rattle.map_zipkin.specs.private.WritingSoFar.{shared_pairs}
use Rattle.map_zipkin.proofs.PlainTags.{shared_plain}
use Rattle.map_zipkin.proofs.writing.push_scope.Goals as goal

pub push_spans-requires-clause-rising : goal.push_spans-requires-clause-rising
push_spans-requires-clause-rising c = subst (λ l. Rise (keys l)) (sym c.in_ok-shared.ensures)
    (attrs_rise (shared_pairs c.args.resource.now c.args.scope.name c.args.scope.version))

pub push_spans-requires-clause-shared : goal.push_spans-requires-clause-shared
push_spans-requires-clause-shared c = ap holds_double c.in_ok-shared.ensures
    ∙ shared_plain c.args.resource.now c.args.scope.name c.args.scope.version
