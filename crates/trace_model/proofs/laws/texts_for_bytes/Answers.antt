use Rattle.trace_model.proofs.ByteRows.{none_stay}
use Rattle.trace_model.proofs.EventBytes.{again, map_texts, sound_texts, proper_texts, same_doubles, same_text}
use Rattle.trace_model.proofs.laws.texts_for_bytes.Goals as goal

pub returns : goal.returns
returns c = record { none = none_stay; again = again; map = map_texts; sound = sound_texts; proper = proper_texts; double = same_doubles; same_text = same_text }
