use Rattle.std.proofs.Common.{◌≡◌}
use Rattle.span_convert.specs.Converters.{work_of}
use Rattle.span_convert.specs.declared.written.Written.TheVariants as written
use Rattle.span_vectors.specs.private.Feeds.{FeedsGroups}
use Rattle.span_vectors.proofs.size.feed_groups.Given as goal

abbrev pub invariant-groups : goal.invariant-groups
invariant-groups l = record {
  feeds : FeedsGroups l.walker l.spans l.before l.sink;
  what : (work_of l.walker).what ≡ written.Form l.fn.to;
}
