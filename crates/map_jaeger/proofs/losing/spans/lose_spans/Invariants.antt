use Rattle.std.proofs.Common.{◌≡◌, ◌+◌, ◌++◌, drop}
use Rattle.span_tags.specs.Losses.{losses_of}
use Rattle.map_jaeger.specs.Losses.{span_losses}
use Rattle.map_jaeger.proofs.losing.spans.lose_spans.Given as goal

abbrev pub invariant-spans : goal.invariant-spans
invariant-spans l = record {
  counted : l.number ≡ l.before + l.span-index;
  so_far : l.losses ++ losses_of span_losses (l.number + 1) (drop l.span-index l.spans) ≡ l.fn.losses ++ losses_of span_losses (l.before + 1) l.spans;
}
