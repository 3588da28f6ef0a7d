use Rattle.std.proofs.Common.{codes, arith}
use Rattle.json_nodes.specs.Lents.{lent_view as view}
use Rattle.json_members.proofs.CountedLaws.{found_fewer}
use Rattle.otlp_json.proofs.reading.groups.read_root.Goals as goal

pub read_array-requires : goal.read_array-requires
read_array-requires c =
    let fewer = found_fewer (codes "resourceSpans") (view c.args.v.now) (view c.in-Some.found) c.in-Some.ensures in
    record { counted = omega (arith, c.requires.counted, fewer) }
