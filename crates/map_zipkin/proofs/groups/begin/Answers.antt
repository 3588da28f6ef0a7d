use Rattle.std.proofs.Common.{◌++◌, map, ap}
use Rattle.map_zipkin.specs.NotedGroups.{noted_group}
use Rattle.map_zipkin.proofs.GroupsAtBack.{front_joins}
use Rattle.map_zipkin.proofs.groups.begin.Goals as goal

pub returns-clause-groups : goal.returns-clause-groups
returns-clause-groups c keys groups left_out its =
    ap (λ l. map noted_group c.args.done ++ l)
    (front_joins (c.args.one.run, c.args.one.span) keys c.in_ok-first.first groups left_out (c.in_ok-first.ensures.alone keys its))
