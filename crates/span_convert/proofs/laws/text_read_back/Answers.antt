use Rattle.span_convert.proofs.TextLaws.{read_back}
use Rattle.span_convert.proofs.laws.text_read_back.Goals as goal

pub returns : goal.returns
returns c = read_back c.text_laws.ensures
