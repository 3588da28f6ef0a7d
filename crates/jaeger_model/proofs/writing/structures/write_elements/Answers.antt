use Rattle.std.proofs.Common.{rules, pred}
use Rattle.jaeger_model.proofs.Growth.{exits}
use Rattle.jaeger_model.proofs.WrittenLists.{elements_start, elements_go_on, elements_stop}
use Rattle.jaeger_model.proofs.writing.structures.write_elements.Goals as goal

pub elements-init : goal.elements-init
elements-init g c = λ left. elements_start g.P.Parts.keeps g.P.Parts.writes g.S.Structure.rows left c.args.out.now c.args.items.now

pub returns-in_err-write_structure : goal.returns-in_err-write_structure
returns-in_err-write_structure g c = λ left.
    exits c.from_residual.result c.in_err-write_structure.field-0.0 _ _ _ (search rules)
    (elements_stop g.P.Parts.keeps g.P.Parts.writes g.S.Structure.rows left c.args.items.now c.elements.item-index c.item-item.result c.elements-test.true c.item-item.is c.args.out.now
    c.elements.out c.write_structure.new.out (c.elements.invariant left) (c.in_err-write_structure.ensures (pred left)))

pub elements-preserved : goal.elements-preserved
elements-preserved g c = λ left.
    elements_go_on g.P.Parts.keeps g.P.Parts.writes g.S.Structure.rows left c.args.items.now c.elements.item-index c.item-item.result c.elements-test.true c.item-item.is c.args.out.now
    c.elements.out c.write_structure.new.out (c.elements.invariant left) (c.in_ok-write_structure.ensures (pred left))
