use Rattle.std.proofs.Common.{to_z-of_z, ap, ◌∙◌}
use Rattle.serde_json.specs.Data.{number}
use Rattle.serde_json.specs.Find.{of_integer}
use Rattle.serde_json.specs.View.{view}
use Rattle.trace_model.proofs.JsonValues.{number_json}
use Rattle.trace_model.proofs.json_values.json_integer.Goals as goal

pub returns : goal.returns
returns c = number_json c.args.n (view c.from.result) c.ranges.n (c.from.ensures ∙ ap (λ n. number (of_integer n)) (to_z-of_z c.ranges.n))
