use Rattle.std.proofs.Common.{◌≡◌, List, sym, ◌∙◌}
use Rattle.serde_json.specs.Data.{Data}
use Rattle.span_io.specs.Paths.{NothingOffends}
use Rattle.span_io.proofs.PathDecisions.{IsSettled, one, none}
use Rattle.otlp_json.specs.Group.{RemarkedGroup, AreJsonGroups, json_groups_offend}
use Rattle.otlp_json.proofs.SettledGroups.{groups_settled}
use Rattle.otlp_json.proofs.laws.one_json_groups.Goals as goal

once : (d : Data) → IsSettled (λ groups. AreJsonGroups groups d) (json_groups_offend d) → (a b : List RemarkedGroup) → AreJsonGroups a d → AreJsonGroups b d → a ≡ b
once d (one groups means only clean) a b h k = sym (only a h) ∙ only b k
once d (none cause counts never) a b h k = absurd (never a h)

fine : (d : Data) → IsSettled (λ groups. AreJsonGroups groups d) (json_groups_offend d) → (a : List RemarkedGroup) → AreJsonGroups a d → NothingOffends (json_groups_offend d)
fine d (one groups means only clean) a h = clean
fine d (none cause counts never) a h = absurd (never a h)

pub returns : goal.returns
returns c =
    let settled = groups_settled c.attributes_once.ensures c.attributes_exist.ensures in
    record { once = λ d. once d (settled d); fine = λ d. fine d (settled d) }
