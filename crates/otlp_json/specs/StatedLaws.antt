-- What is known of what JSON values mean as groups.
use Rattle.std.specs.Prelude.{◌≡◌, ◌↔◌, ◌⊎◌, ℕ, List, [], All}
use Rattle.serde_json.specs.Data.{Data}
use Rattle.span_io.specs.Causes.{cause_number}
use Rattle.span_io.specs.declared.cause.Cause.{Cause}
use Rattle.span_io.specs.Paths.{NothingOffends, Counts}
use Rattle.trace_model.specs.declared.group.Group.{Group}
use Rattle.otlp_json.specs.Canonical.{group_data, groups_data, json_groups_text}
use Rattle.otlp_json.specs.Group.{RemarkedGroup, AreJsonGroups, IsJsonGroup, json_groups_offend}
use Rattle.otlp_json.specs.Known.{groups_agree}
use Rattle.otlp_json.specs.Held.{IsHeldByJson}
use Rattle.otlp_json.specs.Texts.{AreGroupsText, unremarked}

-- a value stands for one list of groups at most, with the same remarks, and nothing offends in one that stands for a list
pub record OneJsonGroups : Type 0 where
  pub once : (d : Data) (groups others : List RemarkedGroup) → AreJsonGroups groups d → AreJsonGroups others d → groups ≡ others
  pub fine : (d : Data) (groups : List RemarkedGroup) → AreJsonGroups groups d → NothingOffends (json_groups_offend d)

-- a value stands for a list of groups, or an offence in it counts, and it has a cause
abbrev pub SomeJsonGroups : Type 0
SomeJsonGroups =
    (d : Data) → ((groups : List RemarkedGroup) × AreJsonGroups groups d)
    ⊎ ((cause : Cause) × Counts (json_groups_offend d) (cause_number cause))

-- what is written of groups means these groups, without remarks: as a value, as a list of values, and as bytes
pub record GroupsWrittenAgain : Type 0 where
  pub group : (g : Group) → IsHeldByJson g → IsJsonGroup (record { means = g; notes = [] }) (group_data g)
  pub groups : (groups : List Group) → All IsHeldByJson groups → AreJsonGroups (unremarked groups) (groups_data groups)
  pub text : (groups : List Group) → All IsHeldByJson groups → AreGroupsText (unremarked groups) (json_groups_text groups)

-- two lists have one text just where they are the same
abbrev pub EqualGroupsTexts : Type 0
EqualGroupsTexts =
    (a b : List Group) → All IsHeldByJson a → All IsHeldByJson b → (json_groups_text a ≡ json_groups_text b) ↔ (a ≡ b)

-- what is read of a text can be written again
abbrev pub ReadsHeldGroups : Type 0
ReadsHeldGroups = (groups : List RemarkedGroup) (bytes : List ℕ) → AreGroupsText groups bytes → All (λ g. IsHeldByJson g.0) groups

-- unknown members change nothing: values whose known members agree stand for the same groups, and the same offends in them
pub record FreeGroupMembers : Type 0 where
  pub means : (v w : Data) → groups_agree v w → (groups : List RemarkedGroup) → AreJsonGroups groups v ↔ AreJsonGroups groups w
  pub offends : (v w : Data) → groups_agree v w → (path : List ℕ) (number : ℕ)
      → json_groups_offend v path number ↔ json_groups_offend w path number
