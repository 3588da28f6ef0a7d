use Rattle.std.proofs.Common.{rules, sym}
use Rattle.otlp_json.proofs.WritingLemmas.{objects_written}
use Rattle.otlp_json.proofs.writing.elements.list_member.Goals as goal

pub returns : goal.returns
returns g c = rw (sym c.as_slice-items.ensures) (objects_written _ _ _ _ g.T.Element.rows c.as_slice-items.result.now (search rules) c.named_list.ensures)
