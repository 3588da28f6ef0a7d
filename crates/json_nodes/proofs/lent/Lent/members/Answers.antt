use Rattle.std.proofs.Common.{◌≡◌, ◌∷◌, Some, ap, ◌∙◌, rules}
use Rattle.serde_json.specs.Data.{no_members}
use Rattle.json_nodes.specs.Nodes.{pairs_of, put_all, spelled}
use Rattle.json_nodes.proofs.NodeLemmas.{no_object, no_object_at, members_at}
use Rattle.json_nodes.proofs.lent.Lent.members.Goals as goal

pub returns-in_default : goal.returns-in_default
returns-in_default c = no_object c.args.self.now.nodes.now (search rules)

pub returns-in-None : goal.returns-in-None
returns-in-None c =
    let split : c.args.self.now.nodes.now ≡ c.in-Some.first.now ∷ c.in-Some.rest.now = search rules in
    no_object_at c.args.self.now.nodes.now c.in-Some.first.now c.in-Some.rest.now split c.in-None.ensures

pub returns-in-Some-object : goal.returns-in-Some-object
returns-in-Some-object c =
    let split : c.args.self.now.nodes.now ≡ c.in-Some.first.now ∷ c.in-Some.rest.now = search rules in
    ap (λ ns. Some (put_all (pairs_of (spelled ns)) no_members)) c.front.ensures
    ∙ members_at c.args.self.now.nodes.now c.in-Some.first.now c.in-Some.rest.now split c.in-Some-object.count c.in-Some-object.ensures
