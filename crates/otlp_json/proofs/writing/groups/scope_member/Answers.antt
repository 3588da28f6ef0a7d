use Rattle.std.proofs.Common.{rules}
use Rattle.otlp_json.specs.Canonical.{instrumentation_scope_rows}
use Rattle.otlp_json.proofs.WritingLemmas.{object_written, scope_there}
use Rattle.otlp_json.proofs.writing.groups.scope_member.Goals as goal

pub returns : goal.returns
returns c =
    let scope = c.args.scope.now in
    object_written _ _ _ _ (instrumentation_scope_rows scope) (scope_there scope.attributes scope.dropped scope.name scope.version (search rules)) c.named_scope.ensures
