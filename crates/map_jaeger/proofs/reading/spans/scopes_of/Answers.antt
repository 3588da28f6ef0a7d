use Rattle.std.proofs.Common.{rules, ◌≡◌, ◌+◌, [], ◌∷◌, refl, sym, ◌∙◌}
use Rattle.span_tags.proofs.Moved.{none_left}
use Rattle.map_jaeger.proofs.ReadLists.{spans_begin, spans_more, spans_end}
use Rattle.map_jaeger.proofs.reading.spans.scopes_of.Goals as goal

pub spans-init : goal.spans-init
spans-init c = spans_begin c.args.spans c.into_iter-span-iterator.result.rest.items c.none-so_far.result c.new-notes.result
    (c.into_iter-span-iterator.ensures.into_iter_gives.0 ∙ c.into_vec-span-items.ensures.items) c.requires.each c.none-so_far.ensures c.new-notes.ensures

pub spans-preserved : goal.spans-preserved
spans-preserved c =
    let split : c.spans.span-iterator.rest.items ≡ c.in-Some.span ∷ c.next.new.self.rest.items = search rules in
    spans_more c.args.spans c.spans.span-iterator.rest.items c.next.new.self.rest.items c.spans.number (c.spans.number + 1) c.in-Some.span
    c.in_ok-one.one c.spans.so_far c.in_ok-so_far.so_far c.spans.notes c.read_span.new.remarks split
    refl c.in_ok-one.ensures.value c.in_ok-so_far.ensures c.in_ok-one.ensures.remarks c.spans.invariant

pub returns-clause-scopes : goal.returns-clause-scopes
returns-clause-scopes c =
    let none : c.spans.span-iterator.rest.items ≡ [] = none_left c.spans.span-iterator.rest.items (sym c.spans.span-iterator.rest.ok.0 ∙ c.in-None.ensures.steps.0) in
    c.in_ok-means.ensures ∙ (spans_end c.args.spans c.spans.span-iterator.rest.items c.spans.number c.spans.so_far c.spans.notes none c.spans.invariant).0

pub returns-clause-remarks : goal.returns-clause-remarks
returns-clause-remarks c =
    let none : c.spans.span-iterator.rest.items ≡ [] = none_left c.spans.span-iterator.rest.items (sym c.spans.span-iterator.rest.ok.0 ∙ c.in-None.ensures.steps.0) in
    (spans_end c.args.spans c.spans.span-iterator.rest.items c.spans.number c.spans.so_far c.spans.notes none c.spans.invariant).1
