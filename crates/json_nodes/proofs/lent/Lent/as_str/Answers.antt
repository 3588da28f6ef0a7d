use Rattle.std.proofs.Common.{ap, ◌∙◌}
use Rattle.json_nodes.specs.private.Parts.{text_in}
use Rattle.json_nodes.proofs.NodeLemmas.{text_at}
use Rattle.json_nodes.proofs.lent.Lent.as_str.Goals as goal

pub returns : goal.returns
returns c = c.text.ensures ∙ ap text_in c.first.ensures ∙ text_at c.args.self.now.nodes.now
