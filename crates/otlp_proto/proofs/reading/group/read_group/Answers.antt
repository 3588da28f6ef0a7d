use Rattle.otlp_proto.proofs.ReadGroup.{only_group, sound_group}
use Rattle.otlp_proto.proofs.reading.group.read_group.Goals as goal

pub returns-clause-only : goal.returns-clause-only
returns-clause-only c = only_group c.args.unit.now (c.one_group.ensures.once c.args.unit.now) (c.one_group.ensures.fine c.args.unit.now) c.read_rows_of.result c.read_rows_of.ensures.value c.read_rows_of.ensures.judged

pub returns-clause-sound : goal.returns-clause-sound
returns-clause-sound c = sound_group c.args.unit.now (c.one_group.ensures.sound c.args.unit.now) c.read_rows_of.result c.read_rows_of.ensures.value
