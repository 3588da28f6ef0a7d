use Rattle.trace_model.proofs.Rows as rows
use Rattle.trace_model.proofs.laws.members_of_values.Goals as goal

pub returns : goal.returns
returns c = record { list_depth = rows.list_depth; map_depth = rows.map_depth; list_rises = rows.list_rises; map_rises = rows.map_rises }
