use Rattle.span_convert.proofs.laws.input_laws.Goals as goal

pub returns : goal.returns
returns c = record {
  requests = record { reading = c.one_reading.ensures; framing = c.one_framing.ensures; step = c.one_step.ensures; pieces = c.pieces.ensures; group = c.one_group.ensures };
  groups = c.group_file_laws.ensures;
  binary = c.batch_laws.ensures;
  compact = c.batch_laws-2.ensures;
  spans = c.span_file_laws.ensures;
}
