use Rattle.std.proofs.Common.{ap, ◌∙◌}
use Rattle.json_nodes.specs.private.Parts.{is_null_node}
use Rattle.json_nodes.proofs.NodeLemmas.{null_at}
use Rattle.json_nodes.proofs.lent.Lent.is_null.Goals as goal

pub returns : goal.returns
returns c = c.is_null.ensures ∙ ap is_null_node c.first.ensures ∙ null_at c.args.self.now.nodes.now
