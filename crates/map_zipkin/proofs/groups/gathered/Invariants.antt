use Rattle.std.proofs.Common.{◌≡◌, ◌+◌, ◌<◌, ◌^◌, length, map}
use Rattle.map_zipkin.specs.NotedGroups.{noted_groups_of}
use Rattle.map_zipkin.specs.private.ReadGroups.{spans_of_last, with_groups}
use Rattle.map_zipkin.specs.Reading.{groups_of}
use Rattle.map_zipkin.specs.Remarks.{zipkin_left_out}
use Rattle.map_zipkin.proofs.groups.gathered.Given as goal

abbrev pub invariant-spans : goal.invariant-spans
invariant-spans l = record {
  groups : with_groups l.so_far (groups_of l.span-iterator.rest.items) (map zipkin_left_out l.span-iterator.rest.items) ≡ noted_groups_of l.fn.spans;
  counted : spans_of_last l.so_far.last + length l.span-iterator.rest.items < 2 ^ 32;
}
