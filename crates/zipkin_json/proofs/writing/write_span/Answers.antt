use Rattle.std.proofs.Common.{rules}
use Rattle.zipkin_json.proofs.WritingLemmas.{span_ok, span_front}
use Rattle.zipkin_json.proofs.writing.write_span.Goals as goal

pub returns-clause-ok : goal.returns-clause-ok
returns-clause-ok c = span_ok c.args.span.now _ _ _ _ (search rules) (search rules) (search rules) c.write_members-written.result c.write_members-written.ensures

pub returns-clause-front : goal.returns-clause-front
returns-clause-front c = span_front c.args.span.now _ _ _ _ (search rules) (search rules) (search rules) c.write_members-written.result c.write_members-written.ensures
