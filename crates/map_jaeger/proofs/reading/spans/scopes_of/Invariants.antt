use Rattle.map_jaeger.proofs.ReadLists.{SpansSoFar}
use Rattle.map_jaeger.proofs.reading.spans.scopes_of.Given as goal

abbrev pub invariant-spans : goal.invariant-spans
invariant-spans l = SpansSoFar l.fn.spans l.number l.span-iterator.rest.items l.so_far l.notes
