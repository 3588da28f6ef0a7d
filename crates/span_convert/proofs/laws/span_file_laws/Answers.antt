use Rattle.span_convert.proofs.laws.span_file_laws.Goals as goal

pub returns : goal.returns
returns c = record {
  one = c.one_list.ensures;
  some = c.some_list.ensures;
  writable = c.reads_proper.ensures;
  again = c.written_again.ensures;
  held = c.read_is_held.ensures;
  itself = c.read_is_zipkin_normal.ensures;
  back = c.spans_read_back.ensures;
  written = c.written_is_proper.ensures;
  normal = c.zipkin_normal_forms.ensures;
  regrouped = c.regroupings.ensures;
  noted = c.groups_noted.ensures;
}
