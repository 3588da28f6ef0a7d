use Rattle.std.proofs.Common.{sym, ◌∙◌}
use Rattle.json_nodes.specs.Lents.{lent_view as view}
use Rattle.otlp_json.proofs.SingleMembers.{null_tells}
use Rattle.otlp_json.proofs.reading.standing.named_member.Goals as goal

pub returns-then-is_null : goal.returns-then-is_null
returns-then-is_null c = null_tells c.args.name.now (view c.args.held) (sym c.if-is_null.true ∙ c.is_null.ensures)
