use Rattle.std.proofs.Common.{rules, ◌≡◌, Err, inl}
use Rattle.std.proofs.lemmas.Result.{on_ok_weaker, IfErr-weaker}
use Rattle.map_zipkin.specs.NotedGroups.{noted_group}
use Rattle.span_convert.proofs.WalkLemmas.{converted_more, stops_adding, front_now, if_err}
use Rattle.span_convert.proofs.walk.convert_unit.Goals as goal

pub returns-in_ok-write_full-in-Ok-clause-ok : goal.returns-in_ok-write_full-in-Ok-clause-ok
returns-in_ok-write_full-in-Ok-clause-ok g c =
    on_ok_weaker c.write_spans.result (λ full. λ what units said before w.
    full what _ said before (c.in_ok-write_full-in-Ok.ensures.ok what _ _ said before (converted_more what units said before _ _ w (noted_group c.args.unit) _ c.in-Ok.ensures.ok))) c.write_spans.ensures.ok

pub returns-in_ok-write_full-in-Ok-clause-stop : goal.returns-in_ok-write_full-in-Ok-clause-stop
returns-in_ok-write_full-in-Ok-clause-stop g c =
    IfErr-weaker c.write_spans.result _ _ (λ stop full. λ what units said before w.
    full what units (noted_group c.args.unit) said before (c.in_ok-write_full-in-Ok.ensures.ok what _ _ said before (converted_more what units said before _ _ w (noted_group c.args.unit) _ c.in-Ok.ensures.ok))) c.write_spans.ensures.stop

pub returns-in_err-write_full-in-Ok-clause-stop : goal.returns-in_err-write_full-in-Ok-clause-stop
returns-in_err-write_full-in-Ok-clause-stop g c =
    let stopped : c.from_residual.result ≡ Err c.in_err-write_full-in-Ok.field-0.0 = search rules in
    if_err _ c.from_residual.result c.in_err-write_full-in-Ok.field-0.0 stopped (λ what units said before w.
    c.in_err-write_full-in-Ok.ensures.stop what units (noted_group c.args.unit) _ said before (converted_more what units said before _ _ w (noted_group c.args.unit) _ c.in-Ok.ensures.ok))

pub returns-in-Err-Why-clause-stop : goal.returns-in-Err-Why-clause-stop
returns-in-Err-Why-clause-stop g c = λ what units said before w.
    let nothing = (rw c.in-Err-Why.field-0-is at c.in-Err-Why.ensures).why in
    stops_adding what units said before _ c.args.progress.now w c.gains_then.ensures.both _ c.gains_then.ensures.fails (noted_group c.args.unit) c.in-Err-Why.fault
    c.add_unit.new.self c.stop_at_fault.result nothing (rw c.in-Err-Why.field-0-is at c.stop_at_fault.ensures.written)

pub returns-in-Err-OutOfMemory-clause-stop : goal.returns-in-Err-OutOfMemory-clause-stop
returns-in-Err-OutOfMemory-clause-stop g c = λ what units said before w. inl (front_now what units said before _ _ w)
