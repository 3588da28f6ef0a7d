use Rattle.trace_model.proofs.DoubleRows.{list_double, map_double}
use Rattle.trace_model.proofs.TextLaws.{text_utf8, read_back}
use Rattle.trace_model.proofs.laws.texts_of_values.Goals as goal

pub returns : goal.returns
returns c = record { list_double = list_double; map_double = map_double; utf8 = text_utf8; read_back = read_back }
