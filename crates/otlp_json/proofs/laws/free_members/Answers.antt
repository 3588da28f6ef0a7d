use Rattle.otlp_json.proofs.FreeMembers.{free_members}
use Rattle.otlp_json.proofs.laws.free_members.Goals as goal

pub returns : goal.returns
returns c = free_members
