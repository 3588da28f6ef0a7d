use Rattle.json_nodes.specs.Lents.{members_left}
use Rattle.json_nodes.proofs.AskedLemmas.{all_find, all_find_more, all_found}
use Rattle.json_nodes.proofs.members.Members.last_of_each.Goals as goal

pub members-init : goal.members-init
members-init c = rw c.requires (all_find (members_left c.args.self) c.args.names.now)

pub members-preserved : goal.members-preserved
members-preserved c =
    rw c.put_named.ensures
    (all_find_more (members_left c.args.self) (members_left c.next.new.self) c.in-Some.name.now c.in-Some.value c.args.names.now c.members.found
    (rw c.in-Some.ensures at c.members.invariant))

pub returns : goal.returns
returns c = all_found (members_left c.args.self) c.args.names.now c.members.found (rw c.in_default.ensures at c.members.invariant)
