use Rattle.otlp_json.proofs.GroupsBack.{equal_texts}
use Rattle.otlp_json.proofs.laws.equal_groups_texts.Goals as goal

pub returns : goal.returns
returns c = equal_texts c.one_json_groups.ensures c.groups_written_again.ensures
