use Rattle.std.proofs.Common.{◌≡◌, ◌++◌, map}
use Rattle.map_zipkin.specs.private.ReadGroups.{moved_to}
use Rattle.map_zipkin.proofs.groups.remark_at.Given as goal

abbrev pub invariant-remarks : goal.invariant-remarks
invariant-remarks l = l.remarks ++ map (moved_to l.place) l.remark-iterator.rest.items ≡ l.initial.remarks ++ map (moved_to l.place) l.fn.more
