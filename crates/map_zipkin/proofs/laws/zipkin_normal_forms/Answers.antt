use Rattle.map_zipkin.proofs.NormalLaws.{normal_forms}
use Rattle.map_zipkin.proofs.laws.zipkin_normal_forms.Goals as goal

pub returns : goal.returns
returns c = normal_forms (record { reads = c.event_texts_exact.ensures; no_bytes = c.event_texts_once.ensures.no_bytes; no_double = c.event_texts_once.ensures.no_double })
    c.texts_for_bytes.ensures.same_text c.texts_of_values.ensures.utf8 c.texts_for_bytes.ensures.proper c.spans_read_back.ensures c.written_is_proper.ensures
