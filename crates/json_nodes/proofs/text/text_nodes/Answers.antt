use Rattle.std.proofs.Common.{◌≡◌, [], ◌∷◌, List, Some, sym, ap, ◌∙◌, subst, rules}
use Rattle.json.specs.Json.{value}
use Rattle.json.specs.Lex.{tokens}
use Rattle.serde_json.specs.Read.{of_json, converted}
use Rattle.json_nodes.specs.private.Building.{Adds}
use Rattle.json_nodes.specs.Nodes.{value as held}
use Rattle.json_nodes.specs.declared.node.Node.{Node}
use Rattle.json_nodes.proofs.BuildingLemmas.{one_whole}
use Rattle.json_nodes.proofs.TokenLemmas.{whole_read}
use Rattle.json_nodes.proofs.text.text_nodes.Goals as goal

pub returns-clause-ok : goal.returns-clause-ok
returns-clause-ok c =
    let done = c.in_ok-read.ensures.ok in
    let none : c.read.new.reader ≡ [] = search rules in
    let empty : c.in_ok-nodes.nodes.items ≡ [] = search rules in
    let is : converted of_json (value 127 (tokens c.args.text.now)) ≡ Some (done.whole, []) = rw (c.in_ok-reader.ensures.ok, none) at done.is in
    let at_last = one_whole _ done.whole (subst (λ (old : List Node). Adds old c.read.new.nodes.items (held done.whole ∷ [])) empty done.adds) in
    whole_read (value 127 (tokens c.args.text.now)) done.whole is ∙ ap Some (sym at_last)
