use Rattle.map_zipkin.specs.NotedGroups.{noted_group}
use Rattle.span_convert.proofs.GroupFileWalks.{writes_json_group}
use Rattle.span_convert.proofs.group_file.GroupFileUnitWriter.write.Goals as goal

pub returns-in-Ok-clause-ok : goal.returns-in-Ok-clause-ok
returns-in-Ok-clause-ok c =
    writes_json_group (noted_group c.args.unit) c.args.before _ _ c.requires.sound c.proper_group.ensures c.in-Ok.ensures.held c.args.out.now c.append_if.new.out c.append_if-2.new.out c.write_group.new.out
    c.in_ok-append_if.ensures c.in_ok-append_if-2.ensures c.in-Ok.ensures.ok
