-- When two inputs of one form in JSON are texts of values that say the same: what becomes of the one becomes of the other. So it is where
-- they differ in no member that the form knows.
use Rattle.std.specs.Prelude.{◌↔◌, ℕ, ◌≤◌, List, length}
use Rattle.serde_json.specs.Data.{Data}
use Rattle.span_io.specs.Paths.{Offences}
use Rattle.span_io.specs.declared.form.Form.{Form}
use Rattle.span_io.specs.declared.form.Form.TheVariants as forms
use Rattle.span_io.specs.declared.limits.Limits.{Limits}
use Rattle.json_members.specs.Agreement.{Agreement}
use Rattle.json_members.specs.Texts.{IsJsonText}
use Rattle.otlp_json.specs.Group.{AreJsonGroups, json_groups_offend}
use Rattle.otlp_json.specs.Known.{groups_agree}
use Rattle.zipkin_json.specs.Known.{spans_agree}
use Rattle.zipkin_json.specs.Span.{AreSpans, spans_offend}

-- the two values mean the same, and the same offends in them
pub record SayTheSame {A : Type 0} (Means : A → Data → Type 0) (Offends : Data → Offences) (value other : Data) : Type 0 where
  pub means : (x : A) → Means x value ↔ Means x other
  pub offends : (path : List ℕ) (number : ℕ) → Offends value path number ↔ Offends other path number

-- the bytes are texts of two such values, each within the limit
pub record HoldSameDocument {A : Type 0} (Means : A → Data → Type 0) (Offends : Data → Offences) (limits : Limits)
    (bytes others : List ℕ) : Type 0 where
  pub value : Data
  pub other : Data
  pub text : IsJsonText value bytes
  pub other_text : IsJsonText other others
  pub within : length bytes ≤ limits.json
  pub other_within : length others ≤ limits.json
  pub same : SayTheSame Means Offends value other

-- the form is one in JSON, and this holds of its values
abbrev pub SameDocuments : Limits → Form → List ℕ → List ℕ → Type 0
SameDocuments limits forms.OtlpProto bytes others = ⊥
SameDocuments limits forms.OtlpJson bytes others = HoldSameDocument AreJsonGroups json_groups_offend limits bytes others
SameDocuments limits forms.JaegerBinary bytes others = ⊥
SameDocuments limits forms.JaegerCompact bytes others = ⊥
SameDocuments limits forms.ZipkinJson bytes others = HoldSameDocument AreSpans spans_offend limits bytes others

-- the bytes are texts of two values which agree so, each within the limit
pub record HoldAgreeingValues (Agree : Agreement) (limits : Limits) (bytes others : List ℕ) : Type 0 where
  pub value : Data
  pub other : Data
  pub text : IsJsonText value bytes
  pub other_text : IsJsonText other others
  pub within : length bytes ≤ limits.json
  pub other_within : length others ≤ limits.json
  pub agree : Agree value other

-- The form is one in JSON, and the two texts have the same members of those that it knows, at every depth.
abbrev pub AgreeingDocuments : Limits → Form → List ℕ → List ℕ → Type 0
AgreeingDocuments limits forms.OtlpProto bytes others = ⊥
AgreeingDocuments limits forms.OtlpJson bytes others = HoldAgreeingValues groups_agree limits bytes others
AgreeingDocuments limits forms.JaegerBinary bytes others = ⊥
AgreeingDocuments limits forms.JaegerCompact bytes others = ⊥
AgreeingDocuments limits forms.ZipkinJson bytes others = HoldAgreeingValues spans_agree limits bytes others
