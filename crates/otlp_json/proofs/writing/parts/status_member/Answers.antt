use Rattle.std.proofs.Common.{rules}
use Rattle.trace_model.specs.OtlpParts.{code_number}
use Rattle.otlp_json.specs.Canonical.{status_rows}
use Rattle.otlp_json.proofs.WritingLemmas.{object_written, status_there}
use Rattle.otlp_json.proofs.writing.parts.status_member.Goals as goal

pub returns : goal.returns
returns c =
    object_written _ _ _ _ (status_rows c.args.status.now) (status_there (code_number c.args.status.now.code) c.args.status.now.message (search rules)) c.named_status.ensures
