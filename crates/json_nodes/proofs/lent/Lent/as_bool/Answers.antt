use Rattle.std.proofs.Common.{ap, ◌∙◌}
use Rattle.json_nodes.specs.private.Parts.{truth_in}
use Rattle.json_nodes.proofs.NodeLemmas.{truth_at}
use Rattle.json_nodes.proofs.lent.Lent.as_bool.Goals as goal

pub returns : goal.returns
returns c = c.truth.ensures ∙ ap truth_in c.first.ensures ∙ truth_at c.args.self.now.nodes.now
