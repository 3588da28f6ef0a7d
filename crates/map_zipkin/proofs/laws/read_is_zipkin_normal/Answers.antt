use Rattle.map_zipkin.proofs.ReadNormal.{read_is_normal}
use Rattle.map_zipkin.proofs.laws.read_is_zipkin_normal.Goals as goal

pub returns : goal.returns
returns c = read_is_normal (record { reads = c.event_texts_exact.ensures; no_bytes = c.event_texts_once.ensures.no_bytes; no_double = c.event_texts_once.ensures.no_double })
