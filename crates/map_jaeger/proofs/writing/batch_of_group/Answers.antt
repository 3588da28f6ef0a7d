use Rattle.std.proofs.Common.{All, sym, subst}
use Rattle.jaeger_model.specs.declared.batch.Batch.{Batch}
use Rattle.map_jaeger.specs.Faults.{IsFaultOf}
use Rattle.map_jaeger.specs.StatedLaws.{IsTimely}
use Rattle.map_jaeger.proofs.NoDoubles.{group_plain}
use Rattle.map_jaeger.proofs.TimelySpans.{spans_timely}
use Rattle.map_jaeger.proofs.writing.batch_of_group.Goals as goal

pub returns-in-Some-clause-judged : goal.returns-in-Some-clause-judged
returns-in-Some-clause-judged c = subst (IsFaultOf c.args.group) c.in-Some.is c.in_ok-fault.ensures.judged

pub returns-in_ok-batch_of-in-None-clause-judged : goal.returns-in_ok-batch_of-in-None-clause-judged
returns-in_ok-batch_of-in-None-clause-judged c = subst (IsFaultOf c.args.group) c.in-None.is c.in_ok-fault.ensures.judged

pub returns-in_ok-batch_of-in-None-clause-timely : goal.returns-in_ok-batch_of-in-None-clause-timely
returns-in_ok-batch_of-in-None-clause-timely c = subst (λ (batch : Batch). All IsTimely batch.spans) (sym c.in_ok-batch_of-in-None.ensures)
    (spans_timely c.args.group (subst (IsFaultOf c.args.group) c.in-None.is c.in_ok-fault.ensures.judged))

pub batch_of-requires : goal.batch_of-requires
batch_of-requires c = record {
  plain = group_plain c.args.group (subst (IsFaultOf c.args.group) c.in-None.is c.in_ok-fault.ensures.judged);
  sound = c.requires.sound;
}
