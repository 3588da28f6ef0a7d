use Rattle.std.proofs.Common.{◌≡◌, ◌∷◌, Some, ap, ◌∙◌, rules}
use Rattle.serde_json.specs.View.{items_of}
use Rattle.json_nodes.specs.Nodes.{values_of, spelled}
use Rattle.json_nodes.proofs.NodeLemmas.{no_elements, no_array_at, array_at}
use Rattle.json_nodes.proofs.lent.Lent.elements.Goals as goal

pub returns-in_default : goal.returns-in_default
returns-in_default c = no_elements c.args.self.now.nodes.now (search rules)

pub returns-in-None : goal.returns-in-None
returns-in-None c =
    let split : c.args.self.now.nodes.now ≡ c.in-Some.first.now ∷ c.in-Some.rest.now = search rules in
    no_array_at c.args.self.now.nodes.now c.in-Some.first.now c.in-Some.rest.now split c.in-None.ensures

pub returns-in-Some-array : goal.returns-in-Some-array
returns-in-Some-array c =
    let split : c.args.self.now.nodes.now ≡ c.in-Some.first.now ∷ c.in-Some.rest.now = search rules in
    ap (λ ns. Some (items_of (values_of (spelled ns)))) c.front.ensures
    ∙ array_at c.args.self.now.nodes.now c.in-Some.first.now c.in-Some.rest.now split c.in-Some-array.count c.in-Some-array.ensures
