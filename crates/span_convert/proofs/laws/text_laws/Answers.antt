use Rattle.span_convert.proofs.laws.text_laws.Goals as goal

pub returns : goal.returns
returns c = record {
  input = c.input_laws.ensures;
  shortest = c.shortest_record.ensures;
  again = c.written_again.ensures;
  back = c.batches_read_back.ensures;
  normal = c.normal_forms.ensures;
  proper = c.written_is_proper.ensures;
}
