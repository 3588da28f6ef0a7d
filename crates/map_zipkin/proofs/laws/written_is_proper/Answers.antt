use Rattle.map_zipkin.proofs.ProperSpans.{written_is_proper}
use Rattle.map_zipkin.proofs.laws.written_is_proper.Goals as goal

pub returns : goal.returns
returns c = written_is_proper c.texts_of_values.ensures.utf8 c.event_texts_are_utf8.ensures
