-- The bytes of a text in OTLP/JSON: they are a JSON value (RFC 8259), and the value stands for groups. Beside each group stand the remarks
-- on it.
use Rattle.std.specs.Prelude.{ℕ, List, [], map}
use Rattle.serde_json.specs.Data.{Data}
use Rattle.span_io.specs.Paths.{Offences}
use Rattle.trace_model.specs.declared.group.Group.{Group}
use Rattle.json_members.specs.Texts.{IsJsonText, document_offends}
use Rattle.otlp_json.specs.Group.{RemarkedGroup, AreJsonGroups, json_groups_offend}

-- the bytes are the text of a JSON value that means these groups, with the remarks on each
pub record AreGroupsText (groups : List RemarkedGroup) (bytes : List ℕ) : Type 0 where
  pub value : Data
  pub is_text : IsJsonText value bytes
  pub are_groups : AreJsonGroups groups value

-- BadJson: bytes that are no JSON value; else what offends in the value
abbrev pub groups_document_offends : List ℕ → Offences
groups_document_offends bytes = document_offends json_groups_offend bytes

-- groups without remarks
abbrev pub unremarked : List Group → List RemarkedGroup
unremarked groups = map (λ group. (group, [])) groups
