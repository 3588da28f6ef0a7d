use Rattle.std.proofs.Common.{rules}
use Rattle.otlp_json.proofs.WritingLemmas.{group_ok, group_front}
use Rattle.otlp_json.proofs.writing.groups.write_object.Goals as goal

pub returns-clause-ok : goal.returns-clause-ok
returns-clause-ok c = group_ok c.args.group.now _ _ _ _ (search rules) (search rules) (search rules) c.write-written.result c.write-written.ensures

pub returns-clause-front : goal.returns-clause-front
returns-clause-front c = group_front c.args.group.now _ _ _ _ (search rules) (search rules) (search rules) c.write-written.result c.write-written.ensures
