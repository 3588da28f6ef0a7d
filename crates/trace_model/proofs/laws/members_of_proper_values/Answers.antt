use Rattle.trace_model.proofs.ProperRows.{list_proper, map_proper}
use Rattle.trace_model.proofs.laws.members_of_proper_values.Goals as goal

pub returns : goal.returns
returns c = record { list = list_proper; map = map_proper }
