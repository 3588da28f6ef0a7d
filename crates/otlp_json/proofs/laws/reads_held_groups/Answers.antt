use Rattle.otlp_json.proofs.HeldParts.{text_held}
use Rattle.otlp_json.proofs.laws.reads_held_groups.Goals as goal

pub returns : goal.returns
returns c = text_held (record { depths = c.members_of_values.ensures; proper = c.members_of_proper_values.ensures; doubles = c.texts_of_values.ensures })
