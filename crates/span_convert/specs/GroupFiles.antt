-- A file of OTLP/JSON: an object with groups in an array. Its units are these groups.
use Rattle.std.specs.Prelude.{ℕ, List, codes, map}
use Rattle.trace_model.specs.OtlpParts.{NotedGroup}
use Rattle.otlp_json.specs.Canonical.{json_group_text}
use Rattle.otlp_json.specs.Group.{RemarkedGroup}
use Rattle.otlp_json.specs.Texts.{AreGroupsText, groups_document_offends}
use Rattle.span_convert.specs.Documents.{DocumentForm, DocumentText}

-- ---- which bytes are a text of a trace, however long they are

-- a group beside the remarks on it, as it stands in a text
abbrev pub remarked_group : NotedGroup → RemarkedGroup
remarked_group noted = (noted.means, noted.notes)

-- the bytes are a text of these groups, each with the remarks on it
abbrev pub ReadsGroups : List ℕ → List NotedGroup → Type 0
ReadsGroups bytes noted = AreGroupsText (map remarked_group noted) bytes

-- OTLP/JSON as a form of documents: what a text of it is read as, and what offends in one
abbrev pub group_document : DocumentForm
group_document = record { Reads = ReadsGroups; Offends = groups_document_offends }

-- ---- texts

-- the canonical text by its parts: an object whose one member `resourceSpans` is an array with a piece for each group
abbrev pub group_file : DocumentText
group_file = record { opens = codes "{\"resourceSpans\":["; pieces = λ groups. map json_group_text groups; closes = codes "]}" }
