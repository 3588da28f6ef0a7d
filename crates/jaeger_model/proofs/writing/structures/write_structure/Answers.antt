use Rattle.std.proofs.Common.{pos, rules}
use Rattle.jaeger_model.proofs.Growth.{exits, clauses, struct_front, struct_seq}
use Rattle.jaeger_model.proofs.writing.structures.write_structure.Goals as goal

pub returns-in_err-write_fields : goal.returns-in_err-write_fields
returns-in_err-write_fields g c = λ left.
    exits c.from_residual.result c.in_err-write_fields.field-0.0 _ _ _ (search rules)
    (struct_front g.P.Parts.keeps g.P.Parts.writes (g.S.Structure.rows c.args.item.now) left (pos 0) _ _ (c.in_err-write_fields.ensures left))

pub returns : goal.returns
returns g c = λ left.
    struct_seq g.P.Parts.keeps g.P.Parts.writes (g.S.Structure.rows c.args.item.now) left (pos 0) c.put_stop.result _ _ _ (c.in_ok-write_fields.ensures left)
    (clauses c.put_stop.result _ _ _ (c.put_stop.ensures.ok left _) c.put_stop.ensures.err)
