use Rattle.std.proofs.Common.{rules}
use Rattle.otlp_json.specs.Canonical.{resource_rows}
use Rattle.otlp_json.proofs.WritingLemmas.{object_written, resource_there}
use Rattle.otlp_json.proofs.writing.groups.resource_member.Goals as goal

pub returns : goal.returns
returns c =
    object_written _ _ _ _ (resource_rows c.args.group.now) (resource_there c.args.group.now.resource c.args.group.now.dropped (search rules)) c.named_resource.ensures
