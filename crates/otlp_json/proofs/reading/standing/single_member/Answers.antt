use Rattle.std.proofs.Common.{sym, ◌∙◌}
use Rattle.json_nodes.specs.Lents.{lent_view as view, members_left}
use Rattle.otlp_json.proofs.SingleMembers.{single, at_none}
use Rattle.otlp_json.proofs.reading.standing.single_member.Goals as goal

pub returns : goal.returns
returns c =
    single (view c.args.v.now) (members_left c.in-Some.members) c.in-Some-next.name.now (view c.in-Some-next.held) (members_left c.next.new.self)
    c.in-Some.ensures c.in-Some-next.ensures (at_none _ _ _ (sym c.is_some.ensures ∙ c.if-is_some.false) c.next-2.ensures)
