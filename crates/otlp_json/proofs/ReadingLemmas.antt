-- What is answered of a value, of its bytes.
use Rattle.std.proofs.Common.{◌≡◌, ℕ, List, None, Result, Ok, Err, subst, IfOk, IsUtf8}
use Rattle.std.specs.List.{All}
use Rattle.serde_json.specs.Data.{Data}
use Rattle.serde_json.specs.Read.{read}
use Rattle.json_nodes.specs.declared.unread.Unread.{Unread}
use Rattle.json_nodes.specs.declared.unread.Unread.TheVariants as whys
use Rattle.span_io.specs.Causes.{cause_number}
use Rattle.span_io.specs.Offences.{OnlyReads}
use Rattle.span_io.specs.Paths.{JudgesInput}
use Rattle.span_io.specs.declared.halt.Halt.{Halt}
use Rattle.span_io.specs.declared.halt.Halt.TheVariants as halts
use Rattle.span_io.specs.declared.refusal.Refusal.{Refusal}
use Rattle.json_members.proofs.ReadingLaws.{same_value, no_value}
use Rattle.json_members.specs.Texts.{IsJsonText, IsUnread}
use Rattle.otlp_json.specs.Group.{RemarkedGroup, AreJsonGroups, json_groups_offend}
use Rattle.otlp_json.specs.Held.{IsHeldByJson}
use Rattle.otlp_json.specs.StatedLaws.{OneJsonGroups, ReadsHeldGroups}
use Rattle.otlp_json.specs.Texts.{AreGroupsText}

abbrev Answer : Type 0
Answer = Result (List RemarkedGroup) (Halt Refusal)

-- a value that stands for groups gives them alone
pub only_groups : OneJsonGroups → (d : Data) (answer : Answer) → IfOk answer (λ groups. AreJsonGroups groups d) → JudgesInput answer (json_groups_offend d)
    → (groups : List RemarkedGroup) → AreJsonGroups groups d → OnlyReads answer groups
only_groups laws d (Ok found) value judged groups is = laws.once d found groups value is
only_groups laws d (Err (halts.Why refusal)) value judged groups is = (laws.fine d groups is).none judged.path (cause_number refusal.cause) judged.is_least.offence
only_groups laws d (Err halts.OutOfMemory) value judged groups is = tt

-- ---- bytes that are a text of a value

module _ (bytes : List ℕ) (d : Data) (is : IsJsonText d bytes) where
  pub value_text : (answer : Answer) → IfOk answer (λ groups. AreJsonGroups groups d) → IfOk answer (λ groups. AreGroupsText groups bytes)
  value_text (Ok found) h = record { value = d; is_text = is; are_groups = h }
  value_text (Err halt) h = tt

  pub held_text : ReadsHeldGroups → (answer : Answer) → IfOk answer (λ groups. AreJsonGroups groups d) → IfOk answer (All (λ g. IsHeldByJson g.0))
  held_text law (Ok found) h = law found bytes (record { value = d; is_text = is; are_groups = h })
  held_text law (Err halt) h = tt

  pub only_text : (answer : Answer) → ((groups : List RemarkedGroup) → AreJsonGroups groups d → OnlyReads answer groups) → (groups : List RemarkedGroup) → AreGroupsText groups bytes → OnlyReads answer groups
  only_text answer only groups h = only groups (subst (λ (v : Data). AreJsonGroups groups v) (same_value bytes d is h.value h.is_text) h.are_groups)

-- ---- bytes that are none

module _ (bytes : List ℕ) (never : (d : Data) → ¬ IsJsonText d bytes) where
  no_groups : (groups : List RemarkedGroup) → ¬ AreGroupsText groups bytes
  no_groups groups h = never h.value h.is_text

-- ---- what is answered where they gave no nodes

module _ (bytes : List ℕ) (why : Unread) (none : why ≡ whys.BadJson → IsUtf8 bytes → read bytes ≡ None) where
  pub unread_only : (halt : Halt Refusal) → IsUnread why halt → (groups : List RemarkedGroup) → AreGroupsText groups bytes → OnlyReads {T = List RemarkedGroup} {E = Refusal} (Err halt) groups
  unread_only (halts.Why refusal) h groups is = no_groups bytes (no_value bytes (none h.0)) groups is
  unread_only halts.OutOfMemory h groups is = tt
