use Rattle.json_nodes.specs.Lents.{lent_view, members_left}
use Rattle.json_nodes.proofs.AskedLemmas.{each_none, each_get}
use Rattle.json_nodes.proofs.lent.Lent.get_each.Goals as goal

pub returns-in-Some : goal.returns-in-Some
returns-in-Some c =
    each_get (lent_view c.args.self.now) (members_left c.in-Some.members) c.args.names.now _ c.in-Some.ensures c.last_of_each.ensures

pub returns-in_default : goal.returns-in_default
returns-in_default c = rw c.requires (each_none (lent_view c.args.self.now) c.args.names.now c.in_default.ensures)
