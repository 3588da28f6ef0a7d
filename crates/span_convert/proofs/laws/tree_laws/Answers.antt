use Rattle.span_convert.proofs.laws.tree_laws.Goals as goal

pub returns : goal.returns
returns c = record {
  in_binary = c.one_tree.ensures;
  to_compact = c.one_tree-2.ensures;
  to_binary = c.one_tree-3.ensures;
  in_compact = c.one_tree-4.ensures;
}
