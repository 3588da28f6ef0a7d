use Rattle.std.proofs.Common.{rules}
use Rattle.json_members.proofs.WritingLaws.{seq, stop, exits_written}
use Rattle.zipkin_json.proofs.writing.named_endpoint.Goals as goal

pub returns-in_err-name_of : goal.returns-in_err-name_of
returns-in_err-name_of c = exits_written _ c.in_err-name_of.field-0.0 _ _ _ _ (search rules) (stop _ _ _ _ _ c.in_err-name_of.ensures)

pub returns-in_err-write_endpoint : goal.returns-in_err-write_endpoint
returns-in_err-write_endpoint c = exits_written _ c.in_err-write_endpoint.field-0.0 _ _ _ _ (search rules) (seq _ _ _ _ _ _ c.in_ok-name_of.ensures c.in_err-write_endpoint.ensures)
