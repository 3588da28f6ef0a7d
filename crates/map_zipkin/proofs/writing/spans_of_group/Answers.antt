use Rattle.std.proofs.Common.{All, sym, subst}
use Rattle.zipkin_json.specs.Proper.{IsTimelyZSpan}
use Rattle.map_zipkin.specs.Faults.{IsZipkinFaultOf}
use Rattle.map_zipkin.proofs.FitGroups.{group_fit}
use Rattle.map_zipkin.proofs.ProperSpans.{spans_timely}
use Rattle.map_zipkin.proofs.writing.spans_of_group.Goals as goal

pub spans_in-requires : goal.spans_in-requires
spans_in-requires c = group_fit c.args.group (subst (IsZipkinFaultOf c.args.group) c.in-None.is c.in_ok-fault.ensures.judged)

pub returns-in_ok-spans_in-in-None-clause-timely : goal.returns-in_ok-spans_in-in-None-clause-timely
returns-in_ok-spans_in-in-None-clause-timely c = subst (All IsTimelyZSpan) (sym c.in_ok-spans_in-in-None.ensures)
    (spans_timely c.args.group (subst (IsZipkinFaultOf c.args.group) c.in-None.is c.in_ok-fault.ensures.judged))
