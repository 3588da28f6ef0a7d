use Rattle.std.proofs.Common.{is_some, ap, ◌∙◌}
use Rattle.json_nodes.specs.private.Parts.{object_in}
use Rattle.json_nodes.proofs.NodeLemmas.{object_at}
use Rattle.json_nodes.proofs.lent.Lent.is_object.Goals as goal

pub returns : goal.returns
returns c = c.is_some.ensures ∙ ap is_some (c.object.ensures ∙ ap object_in c.first.ensures) ∙ object_at c.args.self.now.nodes.now
