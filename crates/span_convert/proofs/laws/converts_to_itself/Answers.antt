use Rattle.span_convert.proofs.TextLaws.{to_itself}
use Rattle.span_convert.proofs.laws.converts_to_itself.Goals as goal

pub returns : goal.returns
returns c = to_itself c.text_laws.ensures
