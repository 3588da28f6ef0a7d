use Rattle.std.proofs.Common.{sym, ◌∙◌}
use Rattle.json_nodes.specs.Lents.{members_left}
use Rattle.json_nodes.proofs.MemberLemmas.{last_counts, get_of}
use Rattle.json_nodes.proofs.lent.Lent.get.Goals as goal

pub returns-in-Some : goal.returns-in-Some
returns-in-Some c =
    c.last_named.ensures ∙ sym (last_counts c.args.name.now (members_left c.in-Some.members)) ∙ get_of c.args.name.now _ _ c.in-Some.ensures
