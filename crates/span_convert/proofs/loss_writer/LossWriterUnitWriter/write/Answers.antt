use Rattle.std.proofs.Common.{◌+◌, ◌++◌, List, length, min, refl, ap, ◌∙◌}
use Rattle.span_io.specs.Outside.{last_count}
use Rattle.trace_model.specs.declared.loss.Loss.{Loss}
use Rattle.map_zipkin.specs.NotedGroups.{noted_group}
use Rattle.span_convert.specs.Reports.{unit_lost}
use Rattle.span_convert.proofs.LossTargets.{loses_unit}
use Rattle.span_convert.proofs.loss_writer.LossWriterUnitWriter.write.Goals as goal

pub returns-clause-ok : goal.returns-clause-ok
returns-clause-ok g c =
    loses_unit g.L.Losing.form (λ w. w.count) (λ w groups. g.L.Losing.behind w.losing groups) (noted_group c.args.unit) c.args.before c.args.self.now _ (c.args.before.units + 1) c.in_ok-losses.losses c.args.out.now c.write_losses.new.out
    c.requires.sound c.proper_group.ensures (rw c.in_default.is at c.in_ok-fault.ensures) refl
    c.in_ok-losses.ensures.value
    c.in_ok-losses.ensures.behind
    (c.in_ok-write_losses.ensures ∙ ap (λ (l : List Loss). c.args.out.now ++ unit_lost (c.args.before.units + 1) l) c.as_slice-losses.ensures)
    (c.saturating_add-self.ensures ∙ ap (λ (l : List Loss). min (c.args.self.now.count + length l) last_count) c.as_slice-losses.ensures)
