use Rattle.std.specs.Prelude.{◌++◌, codes}
use Rattle.json_members.specs.Canonical.{span_id_text, trace_id_text}
use Rattle.loss_report.specs.Lines.{ids_text, parent_word}
use Rattle.loss_report.proofs.Growth.{grows_first, grows_none, grows_second, on_err_from}
use Rattle.loss_report.proofs.spans.append_ids.Goals as goal

pub returns-in_err-append_span-clause-err : goal.returns-in_err-append_span-clause-err
unfolding ids_text
returns-in_err-append_span-clause-err c =
    let old = c.args.out.now in
    let new = c.append_span.new.out in
    let begun = trace_id_text c.args.span.now.trace ++ codes " " in
    let id = span_id_text c.args.span.now.id in
    on_err_from c.from_residual-in_err-append_span.result
    (grows_first old new ((begun ++ id) ++ codes " ") (parent_word c.args.span.now.parent)
    (grows_first old new (begun ++ id) (codes " ") (grows_first old new begun id
    (grows_second old c.append_trace.new.out new (trace_id_text c.args.span.now.trace) (codes " ") c.in_ok-append_trace.ensures.ok
    (grows_none c.append_trace.new.out new (codes " ") c.in_err-append_span.ensures.err)))))
