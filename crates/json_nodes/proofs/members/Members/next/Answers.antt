use Rattle.std.proofs.Common.{◌≡◌, ◌∷◌, None, rules}
use Rattle.json_nodes.specs.Nodes.{spelled, next_value}
use Rattle.json_nodes.specs.private.Parts.{key_in}
use Rattle.json_nodes.proofs.NodeLemmas.{no_pairs, no_key_at, key_alone, pair_at}
use Rattle.json_nodes.proofs.members.Members.next.Goals as goal

pub returns-in_default : goal.returns-in_default
returns-in_default c = no_pairs c.args.self.now.nodes.now (search rules)

pub returns-in_default-key : goal.returns-in_default-key
returns-in_default-key c =
    let split : c.args.self.now.nodes.now ≡ c.in-Some.first.now ∷ c.in-Some.nodes.now = search rules in
    let none : None ≡ key_in c.in-Some.first.now = search rules in
    no_key_at c.args.self.now.nodes.now c.in-Some.first.now c.in-Some.nodes.now split none

pub returns-in_default-behind_value : goal.returns-in_default-behind_value
returns-in_default-behind_value c =
    let split : c.args.self.now.nodes.now ≡ c.in-Some.first.now ∷ c.in-Some.nodes.now = search rules in
    let none : None ≡ next_value (spelled c.in-Some.nodes.now) = search rules in
    key_alone c.args.self.now.nodes.now c.in-Some.first.now c.in-Some.nodes.now split c.in-Some-key.key.now c.in-Some-key.ensures none

pub returns : goal.returns
returns c =
    let split : c.args.self.now.nodes.now ≡ c.in-Some.first.now ∷ c.in-Some.nodes.now = search rules in
    pair_at c.args.self.now.nodes.now c.in-Some.first.now c.in-Some.nodes.now split c.in-Some-key.key.now c.in-Some-behind_value.rest.now c.in-Some-key.ensures c.in-Some-behind_value.ensures
