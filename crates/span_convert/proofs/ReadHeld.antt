-- What is read of a text can be held by its form, which leaves it as it is; and so can a normal form, whatever its size.
use Rattle.std.proofs.Common.{◌≡◌, ℕ, ◌<◌, List, [], ◌∷◌, length, All, refl, sym, subst, arith}
use Rattle.std.proofs.lemmas.List.Elements.{All-head, All-tail, All-map, All-weaker}
use Rattle.span_io.specs.declared.form.Form.{Form}
use Rattle.span_io.specs.declared.form.Form.TheVariants as forms
use Rattle.span_io.specs.declared.limits.Limits.{Limits}
use Rattle.trace_model.specs.Proper.{IsProperGroup}
use Rattle.trace_model.specs.Soundness.{IsSoundGroup}
use Rattle.trace_model.specs.OtlpParts.{NotedGroup}
use Rattle.trace_model.specs.declared.group.Group.{Group}
use Rattle.otlp_proto.specs.StatedLaws.{SomeGroup}
use Rattle.map_jaeger.specs.Normal.{normal, normal_group}
use Rattle.map_jaeger.specs.StatedLaws.{IsHeld, NormalForms, ReadIsNormal, ReadIsSound, ReadIsProper}
use Rattle.map_zipkin.specs.Normal.{zipkin_normal}
use Rattle.map_zipkin.specs.StatedLaws.{IsHeldByZipkin, ZipkinNormalForms}
use Rattle.span_convert.specs.Canonical.{Fits, Reads, ReadsNoted}
use Rattle.span_convert.specs.Moves.{IsNormalTrace}
use Rattle.span_convert.specs.private.InputLaws.{InputLaws}
use Rattle.span_convert.specs.Units.{CanHold, input_form, normal_form}
use Rattle.span_convert.specs.Verdicts.{CanHoldTrace}
use Rattle.span_convert.proofs.BatchTexts.{all_held}
use Rattle.span_convert.proofs.FitLaws.{reads_whole}
use Rattle.span_convert.proofs.InputForms.{InputFormLaws, SomeInput}
use Rattle.span_convert.proofs.Sources.{inputs, some_inputs}
use Rattle.span_convert.proofs.SpanFileTexts.{held_groups}
use Rattle.span_convert.proofs.TextLaws.{faultless_read, normal_read}
use Rattle.span_convert.proofs.UnitGroups.{GroupIsProper}

-- ---- what is read

-- limits within which the bytes are
abbrev own_limits : List ℕ → Limits
own_limits bytes = record { unit = length bytes; json = length bytes; binary = length bytes; head = 1; body = 1; reply = 1 }

own_fits : (from : Form) (bytes : List ℕ) (noted : List NotedGroup) → ReadsNoted from bytes noted → Fits from (own_limits bytes) bytes
own_fits forms.OtlpProto bytes noted h = record { frames = h.frames; framed = h.framed; within = omega arith }
own_fits forms.OtlpJson bytes noted h = omega arith
own_fits forms.JaegerBinary bytes noted h = record { frames = h.units; framed = h.framed; within = omega arith }
own_fits forms.JaegerCompact bytes noted h = record { frames = h.units; framed = h.framed; within = omega arith }
own_fits forms.ZipkinJson bytes noted h = omega arith

pub read_held : ReadIsNormal → (L : InputLaws) → SomeGroup → GroupIsProper → ReadIsSound → ReadIsProper
    → (from : Form) (bytes : List ℕ) (groups : List Group) → All (λ b. b < 256) bytes → Reads from bytes groups → IsNormalTrace from groups
read_held N L some own sound proper from bytes groups all h =
    let S : SomeInput (input_form from) = some_inputs L some own sound proper from in
    let I : InputFormLaws (input_form from) = inputs L from in
    let limits = own_limits bytes in
    let begins = I.whole_begins limits bytes h.noted (reads_whole L from limits bytes h.noted h.text (own_fits from bytes h.noted h.text)) in
    record {
      can_hold = record {
        sound = subst (λ (l : List Group). All IsSoundGroup l) (sym h.means) (S.sound limits bytes h.noted begins);
        proper = subst (λ (l : List Group). All IsProperGroup l) (sym h.means) (S.proper limits bytes h.noted all begins);
        no_fault = faultless_read N L from bytes groups h;
      };
      itself = normal_read N L from bytes groups h;
    }

-- ---- normal forms

module _ (N : NormalForms) (Z : ZipkinNormalForms) where
  module _ (P : Group → Type 0) (sound : (g : Group) → P g → IsSoundGroup g) (proper : (g : Group) → P g → IsProperGroup g) (to : Form)
      (fine : (g : Group) → P g → CanHold to g) where
    held_by : (groups : List Group) → All P groups → CanHoldTrace to groups
    held_by groups all = record {
      sound = All-weaker P IsSoundGroup sound groups all;
      proper = All-weaker P IsProperGroup proper groups all;
      no_fault = All-weaker P (CanHold to) fine groups all;
    }

  jaeger_held : (groups : List Group) → All IsHeld groups → All IsHeld (normal groups)
  jaeger_held groups held = All-map IsHeld normal_group groups (All-weaker IsHeld (λ g. IsHeld (normal_group g)) N.held groups held)

  jaeger_again : (groups : List Group) → All IsHeld groups → normal (normal groups) ≡ normal groups
  jaeger_again [] held = refl
  jaeger_again (g ∷ groups) held =
      let here = N.itself g (All-head IsHeld g groups held) in
      let rest = jaeger_again groups (All-tail IsHeld g groups held) in
      λ i. here i ∷ rest i

  pub normal_holds : (to : Form) (groups : List Group) → CanHoldTrace to groups → CanHoldTrace to (normal_form to groups)
  normal_holds forms.OtlpProto groups h = h
  normal_holds forms.OtlpJson groups h = h
  normal_holds forms.JaegerBinary groups h = held_by IsHeld (λ g its. its.sound) (λ g its. its.proper) forms.JaegerBinary (λ g its. its.no_fault)
      (normal groups) (jaeger_held groups (all_held groups h.sound h.proper h.no_fault))
  normal_holds forms.JaegerCompact groups h = held_by IsHeld (λ g its. its.sound) (λ g its. its.proper) forms.JaegerCompact (λ g its. its.no_fault)
      (normal groups) (jaeger_held groups (all_held groups h.sound h.proper h.no_fault))
  normal_holds forms.ZipkinJson groups h = held_by IsHeldByZipkin (λ g its. its.sound) (λ g its. its.proper) forms.ZipkinJson (λ g its. its.no_fault)
      (zipkin_normal groups) (Z.held groups (held_groups groups h))

  pub normal_itself : (to : Form) (groups : List Group) → CanHoldTrace to groups → normal_form to (normal_form to groups) ≡ normal_form to groups
  normal_itself forms.OtlpProto groups h = refl
  normal_itself forms.OtlpJson groups h = refl
  normal_itself forms.JaegerBinary groups h = jaeger_again groups (all_held groups h.sound h.proper h.no_fault)
  normal_itself forms.JaegerCompact groups h = jaeger_again groups (all_held groups h.sound h.proper h.no_fault)
  normal_itself forms.ZipkinJson groups h = Z.itself groups (held_groups groups h)
