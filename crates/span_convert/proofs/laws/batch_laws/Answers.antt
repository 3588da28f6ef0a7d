use Rattle.span_convert.proofs.laws.batch_laws.Goals as goal

pub returns : goal.returns
returns g c = record {
  framing = c.one_framing.ensures;
  step = c.one_step.ensures;
  pieces = c.pieces.ensures;
  reading = c.one_reading.ensures;
  parts = c.reads_back.ensures;
  structs = c.written_structs.ensures;
  fronts = c.open_fronts.ensures;
  batch = c.one_batch.ensures;
  some = c.some_batch.ensures;
  free = c.free_fields.ensures;
  anywhere = c.free_anywhere.ensures;
  times = c.reads_times.ensures;
  proper = c.reads_proper.ensures;
  again = c.written_again.ensures;
  equal = c.equal_texts.ensures;
  once = c.attributes_once.ensures;
  exist = c.attributes_exist.ensures;
}
