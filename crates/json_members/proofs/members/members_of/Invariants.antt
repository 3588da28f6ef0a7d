use Rattle.json_nodes.specs.Lents.{lent_view as view}
use Rattle.json_members.proofs.PlaceLemmas.{AllUpTo}
use Rattle.json_members.proofs.members.members_of.Given as goal

abbrev pub invariant-places : goal.invariant-places
invariant-places l = AllUpTo (view l.v) l.place-index l.names l.found
