use Rattle.map_zipkin.proofs.GroupsHeld.{read_is_held}
use Rattle.map_zipkin.proofs.laws.read_is_held.Goals as goal

pub returns : goal.returns
returns c = read_is_held (record { reads = c.event_texts_exact.ensures; no_bytes = c.event_texts_once.ensures.no_bytes; no_double = c.event_texts_once.ensures.no_double }) c.event_texts_proper.ensures
