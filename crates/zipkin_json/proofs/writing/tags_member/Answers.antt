use Rattle.std.proofs.Common.{rules}
use Rattle.zipkin_json.proofs.WritingLemmas.{tags_there}
use Rattle.zipkin_json.proofs.writing.tags_member.Goals as goal

pub returns : goal.returns
returns c = tags_there _ _ _ _ c.args.tags.now (search rules) c.named_tags.ensures
