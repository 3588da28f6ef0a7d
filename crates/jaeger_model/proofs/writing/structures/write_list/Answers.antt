use Rattle.std.proofs.Common.{rules, pred}
use Rattle.jaeger_model.specs.Canonical.{list_tree}
use Rattle.jaeger_model.proofs.Growth.{exits, none, field_seq, field_front}
use Rattle.jaeger_model.proofs.WrittenLists.{list_front, list_seq}
use Rattle.jaeger_model.proofs.writing.structures.write_list.Goals as goal

pub returns-in_err-put_list : goal.returns-in_err-put_list
returns-in_err-put_list g c = λ left.
    exits c.from_residual-in_err-put_list.result c.in_err-put_list.field-0.0 _ _ _ (search rules)
    (field_front g.P.Parts.keeps g.P.Parts.writes (list_tree g.S.Structure.rows c.args.items.now) left c.args.last c.args.id c.ranges.last c.ranges.id _ _ _ (c.in_ok-put_field.ensures.ok left)
    (list_front g.P.Parts.keeps g.P.Parts.writes g.S.Structure.rows c.args.items.now left _ _ _ (none _ _ _ c.in_err-put_list.ensures.err)))

pub returns : goal.returns
returns g c = λ left.
    field_seq g.P.Parts.keeps g.P.Parts.writes (list_tree g.S.Structure.rows c.args.items.now) left c.write_elements.result c.args.last c.args.id c.ranges.last c.ranges.id _ _ _ (c.in_ok-put_field.ensures.ok left)
    (list_seq g.P.Parts.keeps g.P.Parts.writes g.S.Structure.rows c.args.items.now left _ c.write_elements.result _ _ _ (rw c.len.ensures.count at (c.in_ok-put_list.ensures.ok (pred left))) (rw c.as_slice.ensures at (c.write_elements.ensures (pred left))))
