use Rattle.std.proofs.Common.{refl}
use Rattle.map_zipkin.specs.NotedGroups.{noted_group}
use Rattle.span_convert.proofs.SpanFileWalks.{writes_spans}
use Rattle.span_convert.proofs.span_file.SpanFile.open.Goals as goal

pub returns-clause-ok : goal.returns-clause-ok
returns-clause-ok c =
    writes_spans c.zipkin_normal_forms.ensures (noted_group c.args.unit) c.requires.sound c.proper_group.ensures c.in_ok-spans.ensures.judged c.args.before _ _
    c.args.out.now c.append_if.new.out _ _ c.in_ok-spans.ensures.value c.in_ok-append_if.ensures refl
