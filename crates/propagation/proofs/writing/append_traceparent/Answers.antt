use Rattle.propagation.proofs.ReadLemmas.{empty_false}
use Rattle.propagation.proofs.WritingLemmas.{where_ok, with_state}
use Rattle.propagation.proofs.writing.append_traceparent.Goals as goal

pub returns-clause-ok : goal.returns-clause-ok
returns-clause-ok c =
    where_ok c.append_header-2.result
    (with_state c.args.ids.now c.args.sampling c.args.state.now c.args.out.now c.append_header.new.out c.append_header-2.new.out c.write_traceparent.new.out c.write_traceparent.ensures
    (empty_false c.args.state.now c.is_empty.result c.is_empty.ensures c.if-is_empty.false) c.in_ok-append_header.ensures.ok)
    c.append_header-2.ensures.ok
