use Rattle.std.proofs.Common.{sym, subst}
use Rattle.std.proofs.lemmas.Result.{IfOk-weaker}
use Rattle.span_tags.specs.PlacedFaults.{CountsBy}
use Rattle.span_tags.proofs.FaultLaws.{none_exactly}
use Rattle.span_tags.proofs.FirstFault.{found_counts}
use Rattle.span_tags.proofs.first_fault.fault_in_group.Goals as goal

pub returns-clause-judged : goal.returns-clause-judged
returns-clause-judged g c = IfOk-weaker c.found_fault.result _ _
    (λ found is. subst (CountsBy g.F.Faults.of_resource g.F.Faults.of_span c.args.group.now) (sym is)
    (found_counts g.F.Faults.table g.F.Faults.of_resource g.F.Faults.of_span c.requires.lawful c.args.group.now c.requires.sound)) c.found_fault.ensures.value

pub returns-clause-none : goal.returns-clause-none
returns-clause-none g c = IfOk-weaker c.found_fault.result _ _
    (none_exactly g.F.Faults.of_resource g.F.Faults.of_span c.args.group.now) (returns-clause-judged g c)
