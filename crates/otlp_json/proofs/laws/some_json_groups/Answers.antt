use Rattle.std.proofs.Common.{◌⊎◌, inl, inr, List}
use Rattle.serde_json.specs.Data.{Data}
use Rattle.span_io.specs.Causes.{cause_number}
use Rattle.span_io.specs.declared.cause.Cause.{Cause}
use Rattle.span_io.specs.Paths.{Counts}
use Rattle.span_io.proofs.PathDecisions.{IsSettled, one, none}
use Rattle.otlp_json.specs.Group.{RemarkedGroup, AreJsonGroups, json_groups_offend}
use Rattle.otlp_json.proofs.SettledGroups.{groups_settled}
use Rattle.otlp_json.proofs.laws.some_json_groups.Goals as goal

some : (d : Data) → IsSettled (λ groups. AreJsonGroups groups d) (json_groups_offend d) → ((groups : List RemarkedGroup) × AreJsonGroups groups d) ⊎ ((cause : Cause) × Counts (json_groups_offend d) (cause_number cause))
some d (one groups means only clean) = inl (groups, means)
some d (none cause counts never) = inr (cause, counts)

pub returns : goal.returns
returns c = λ d. some d (groups_settled c.attributes_once.ensures c.attributes_exist.ensures d)
