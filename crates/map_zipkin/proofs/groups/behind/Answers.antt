use Rattle.std.proofs.Common.{◌++◌, map, sym, ap, ◌∙◌}
use Rattle.map_zipkin.specs.NotedGroups.{noted_group}
use Rattle.map_zipkin.specs.private.ReadGroups.{last_alone}
use Rattle.map_zipkin.proofs.GroupsAtBack.{added_behind, joins_more, pushed}
use Rattle.map_zipkin.proofs.groups.behind.Goals as goal

pub returns-then-same_resource-clause-groups : goal.returns-then-same_resource-clause-groups
returns-then-same_resource-clause-groups c keys groups left_out its =
    ap (λ l. map noted_group c.args.done ++ l)
    (joins_more (c.args.one.run, c.args.one.span) keys c.args.last c.in_ok-more.more groups left_out
    (sym c.same_resource.ensures ∙ c.if-same_resource.true) (c.in_ok-more.ensures.added keys its))

pub returns-clause-groups : goal.returns-clause-groups
returns-clause-groups c keys groups left_out its =
    added_behind (c.args.one.run, c.args.one.span) keys c.args.last c.in_ok-next.next (map noted_group c.args.done) (map noted_group c.push.new.self) groups left_out
    (sym c.same_resource.ensures ∙ c.if-same_resource.false) (c.in_ok-next.ensures.alone keys its)
    (pushed c.args.done c.push.new.self c.in_ok-group.field-0 (last_alone c.args.last) c.in_ok-push.ensures.ok c.in_ok-group.ensures)
