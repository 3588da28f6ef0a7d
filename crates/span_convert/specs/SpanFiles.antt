-- A file of Zipkin: spans in a JSON array. Its units are the groups that the spans are.
use Rattle.std.specs.Prelude.{◌≡◌, ℕ, List, codes, map}
use Rattle.std.specs.List.{flat_map}
use Rattle.trace_model.specs.OtlpParts.{NotedGroup}
use Rattle.trace_model.specs.declared.group.Group.{Group}
use Rattle.zipkin_json.specs.Canonical.{zspan_text, spans_text}
use Rattle.zipkin_json.specs.Span.{spans_offend}
use Rattle.zipkin_json.specs.Texts.{AreSpansText}
use Rattle.json_members.specs.Texts.{document_offends}
use Rattle.zipkin_json.specs.declared.span.ZSpan.{ZSpan}
use Rattle.map_zipkin.specs.Normal.{zipkin_normal}
use Rattle.map_zipkin.specs.NotedGroups.{noted_groups_of}
use Rattle.map_zipkin.specs.Writing.{spans_of_group}
use Rattle.span_convert.specs.Documents.{DocumentForm, DocumentText, pieces_added}
use Rattle.span_convert.specs.declared.span_file.SpansLeft.{SpansLeft}

-- ---- which bytes are a text of a trace, however long they are

-- the bytes are a text of spans that are these groups, each with the remarks on it
pub record ReadsSpans (bytes : List ℕ) (noted : List NotedGroup) : Type 0 where
  pub spans : List ZSpan
  pub text : AreSpansText spans bytes
  pub means : noted ≡ noted_groups_of spans

-- Zipkin's JSON (Zipkin v2's API, ListOfSpans) as a form of documents: what an array of spans is read as, and what offends in it
abbrev pub span_document : DocumentForm
span_document = record { Reads = ReadsSpans; Offends = document_offends spans_offend }

-- ---- texts

-- the spans of Zipkin that the groups are written as: one for each of their spans, in order
abbrev pub spans_of_groups : List Group → List ZSpan
spans_of_groups groups = flat_map spans_of_group groups

-- the text of the spans of groups
abbrev pub span_file_text : List Group → List ℕ
span_file_text groups = spans_text (spans_of_groups groups)

-- the same of the normal form, by its parts
abbrev pub span_file : DocumentText
span_file = record { opens = codes "["; pieces = λ groups. map zspan_text (spans_of_groups (zipkin_normal groups)); closes = codes "]" }

-- the text of the spans of a unit that are left to be written
abbrev pub left_text : SpansLeft → List ℕ
left_text left = pieces_added left.behind (map zspan_text left.spans)
