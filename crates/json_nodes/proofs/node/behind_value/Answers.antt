use Rattle.std.proofs.Common.{◌≡◌, ◌∷◌, Some, ap, ◌∙◌, rules}
use Rattle.json_nodes.specs.Nodes.{spelled, value_at}
use Rattle.json_nodes.proofs.NodeLemmas.{empty_next, none_next, some_next}
use Rattle.json_nodes.proofs.node.behind_value.Goals as goal

pub returns-in_default : goal.returns-in_default
returns-in_default c = empty_next c.args.nodes.now (search rules)

pub returns-in-None : goal.returns-in-None
returns-in-None c =
    let split : c.args.nodes.now ≡ c.in-Some.first.now ∷ c.in-Some.rest.now = search rules in
    none_next c.args.nodes.now c.in-Some.first.now c.in-Some.rest.now split c.in-None.ensures

pub returns-in-Some-inside : goal.returns-in-Some-inside
returns-in-Some-inside c =
    let split : c.args.nodes.now ≡ c.in-Some.first.now ∷ c.in-Some.rest.now = search rules in
    ap (λ ns. Some (value_at c.args.nodes.now, spelled ns)) c.past.ensures
    ∙ some_next c.args.nodes.now c.in-Some.first.now c.in-Some.rest.now split c.in-Some-inside.count c.in-Some-inside.ensures
