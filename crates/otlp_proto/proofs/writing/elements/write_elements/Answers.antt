use Rattle.otlp_proto.proofs.Growth.{on_err_from}
use Rattle.otlp_proto.proofs.ListTexts.{list_start, list_more, list_front}
use Rattle.otlp_proto.proofs.writing.elements.write_elements.Goals as goal

pub loop-item-init : goal.loop-item-init
loop-item-init g c = list_start c.args.number g.T.Message.text c.args.out.now c.args.items.now

pub returns-in_err-write_element-clause-err : goal.returns-in_err-write_element-clause-err
returns-in_err-write_element-clause-err g c =
    on_err_from c.from_residual.result
    (list_front c.args.number g.T.Message.text c.args.out.now c.loop-item.out c.write_element.new.out c.args.items.now c.loop-item.item-index c.item-item.result c.loop-item-test.true c.item-item.is c.loop-item.invariant c.in_err-write_element.ensures.err)

pub loop-item-preserved : goal.loop-item-preserved
loop-item-preserved g c =
    list_more c.args.number g.T.Message.text c.args.out.now c.loop-item.out c.write_element.new.out c.args.items.now c.loop-item.item-index c.item-item.result c.loop-item-test.true c.item-item.is c.loop-item.invariant c.in_ok-write_element.ensures.ok
