use Rattle.span_convert.proofs.laws.group_file_laws.Goals as goal

pub returns : goal.returns
returns c = record {
  one = c.one_json_groups.ensures;
  some = c.some_json_groups.ensures;
  held = c.reads_held_groups.ensures;
  again = c.groups_written_again.ensures;
}
