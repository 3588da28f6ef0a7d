use Rattle.std.proofs.Common.{rules}
use Rattle.zipkin_json.proofs.WritingLemmas.{annotations_there}
use Rattle.zipkin_json.proofs.writing.annotations_member.Goals as goal

pub returns : goal.returns
returns c = annotations_there _ _ _ _ c.args.list.now (search rules) c.named_annotations.ensures
