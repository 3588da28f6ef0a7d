use Rattle.map_zipkin.specs.NotedGroups.{noted_group}
use Rattle.span_convert.proofs.ReportTargets.{shows_unit}
use Rattle.span_convert.proofs.show_writer.ShowWriterUnitWriter.write.Goals as goal

pub returns-clause-ok : goal.returns-clause-ok
returns-clause-ok c =
    shows_unit (noted_group c.args.unit) _ _ _ c.args.out.now c.show_group.new.out c.requires.sound c.proper_group.ensures c.in_ok-show_group.ensures
