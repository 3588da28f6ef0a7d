-- Which bytes are a text of a trace in each form, however long its units are.
use Rattle.std.specs.Prelude.{◌≡◌, ◌↔◌, ℕ, ◌≤◌, List, [], length, map, All}
use Rattle.span_io.specs.Frames.{Framing, ItemsThen}
use Rattle.span_io.specs.declared.form.Form.{Form}
use Rattle.span_io.specs.declared.form.Form.TheVariants as forms
use Rattle.span_io.specs.declared.limits.Limits.{Limits}
use Rattle.proto_wire.specs.Wire.{records}
use Rattle.trace_model.specs.OtlpParts.{NotedGroup}
use Rattle.trace_model.specs.declared.group.Group.{Group}
use Rattle.map_zipkin.specs.NotedGroups.{plain_noted}
use Rattle.span_moves.specs.Keeps.{EachSpan}
use Rattle.span_convert.specs.BatchFiles.{binary, compact, batches, ReadsBatches}
use Rattle.span_convert.specs.GroupFiles.{ReadsGroups}
use Rattle.span_convert.specs.Moves.{IsKeptBy, IsNormalTrace}
use Rattle.span_convert.specs.Requests.{ReadsRequest}
use Rattle.span_convert.specs.SpanFiles.{ReadsSpans}
use Rattle.span_convert.specs.Targets.{form_target}
use Rattle.span_convert.specs.Units.{groups_in, input_form, IsSizedGroup, normal_form, canonical_text, span_count}
use Rattle.span_convert.specs.Verdicts.{CanHoldTrace, IsGood, IsVerdict, good, tally_of}
use Rattle.span_convert.specs.declared.tally.Tally.{Tally}

-- the bytes are a text of these groups, each with the remarks on it
abbrev pub ReadsNoted : Form → List ℕ → List NotedGroup → Type 0
ReadsNoted forms.OtlpProto = ReadsRequest
ReadsNoted forms.OtlpJson = ReadsGroups
ReadsNoted forms.JaegerBinary = ReadsBatches binary
ReadsNoted forms.JaegerCompact = ReadsBatches compact
ReadsNoted forms.ZipkinJson = ReadsSpans

-- the bytes are a text of this trace
pub record Reads (from : Form) (bytes : List ℕ) (groups : List Group) : Type 0 where
  pub noted : List NotedGroup
  pub text : ReadsNoted from bytes noted
  pub means : groups ≡ groups_in noted

-- the same, and no remark arises
abbrev pub ReadsPlainly : Form → List ℕ → List Group → Type 0
ReadsPlainly from bytes groups = ReadsNoted from bytes (map plain_noted groups)

-- the form can hold the trace, and no part of it is too long
pub record IsHeldBy (to : Form) (groups : List Group) : Type 0 where
  pub can_hold : CanHoldTrace to groups
  pub sized : All (IsSizedGroup to) groups

-- the bytes are frames, each within the limit of a unit, and all of them are within that of an input
pub record AreFramesWithin (F : Framing) (limits : Limits) (bytes : List ℕ) : Type 0 where
  pub frames : List (List ℕ)
  pub framed : ItemsThen F limits.unit frames [] bytes
  pub within : length bytes ≤ limits.binary

-- the bytes are within the limits of an input of the form
abbrev pub Fits : Form → Limits → List ℕ → Type 0
Fits forms.OtlpProto limits bytes = AreFramesWithin records limits bytes
Fits forms.OtlpJson limits bytes = length bytes ≤ limits.json
Fits forms.JaegerBinary limits bytes = AreFramesWithin (batches binary) limits bytes
Fits forms.JaegerCompact limits bytes = AreFramesWithin (batches compact) limits bytes
Fits forms.ZipkinJson limits bytes = length bytes ≤ limits.json

-- the verdict on the canonical text of a trace: it is good, and its text is the same
abbrev pub ConvertsToItself : Form → Limits → List ℕ → List Group → Type 0
ConvertsToItself to limits text groups =
    IsVerdict to to limits text (good text (tally_of (length (normal_form to groups)) (span_count groups)))

-- the verdict on a text of a trace that is converted to another form: it is good, and its text is the canonical text of the trace
abbrev pub ConvertsTo : Form → Form → Limits → List ℕ → List Group → Type 0
ConvertsTo from to limits text groups =
    IsVerdict from to limits text (good (canonical_text to groups) (tally_of (length groups) (span_count groups)))

-- What was written for an input is a text of the normal form of the input's trace, on which there is no remark; it is the text of no
-- trace of another normal form; and where it fits as an input of its form it converts to itself.
pub record ReadsBack (from to : Form) (limits : Limits) (bytes out : List ℕ) : Type 0 where
  pub tally : Tally
  pub is_good : IsGood (input_form from) (form_target to) limits bytes out tally
  pub plainly : ReadsPlainly to out (normal_form to (groups_in is_good.noted))
  pub only : (other : List Group) → IsHeldBy to other
      → (out ≡ canonical_text to other) ↔ (normal_form to (groups_in is_good.noted) ≡ normal_form to other)
  pub again : Fits to limits out → ConvertsToItself to limits out (groups_in is_good.noted)
  -- where it fits it converts back to the input's form, with the text of that normal form, which the input's form leaves as it is
  pub home : Fits to limits out → ConvertsTo to from limits out (normal_form to (groups_in is_good.noted))
  pub stays : IsNormalTrace from (normal_form to (groups_in is_good.noted))
  -- and the normal form has all spans of the trace, each with what the form keeps of it
  pub keeps : EachSpan (IsKeptBy to) (groups_in is_good.noted) (normal_form to (groups_in is_good.noted))
