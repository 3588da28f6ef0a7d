use Rattle.std.proofs.Common.{◌≡◌, [], ◌∷◌, List, subst, rules}
use Rattle.serde_json.specs.View.{view}
use Rattle.json_nodes.specs.private.Building.{Adds}
use Rattle.json_nodes.specs.Nodes.{value as held}
use Rattle.json_nodes.specs.declared.node.Node.{Node}
use Rattle.json_nodes.proofs.BuildingLemmas.{one_whole}
use Rattle.json_nodes.proofs.owned.value_nodes.Goals as goal

pub returns : goal.returns
returns c =
    let empty : c.new-nodes.result.items ≡ [] = search rules in
    one_whole _ _ (subst (λ (old : List Node). Adds old c.add_value.new.nodes.items (held (view c.args.v.now) ∷ [])) empty c.in_ok-add_value.ensures)
