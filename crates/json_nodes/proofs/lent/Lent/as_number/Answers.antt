use Rattle.std.proofs.Common.{option_map, ap, ◌∙◌}
use Rattle.json_nodes.specs.private.Parts.{number_in}
use Rattle.json_nodes.specs.Nodes.{num_of}
use Rattle.json_nodes.proofs.NodeLemmas.{number_at}
use Rattle.json_nodes.proofs.lent.Lent.as_number.Goals as goal

pub returns : goal.returns
returns c = ap (option_map num_of) (c.number.ensures ∙ ap number_in c.first.ensures) ∙ number_at c.args.self.now.nodes.now
