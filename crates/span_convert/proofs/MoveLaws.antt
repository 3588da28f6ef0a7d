-- What each form makes of the normal form of another.
use Rattle.std.proofs.Common.{◌≡◌, ℕ, List, length, map, All, refl, ap, sym, ◌∙◌, subst}
use Rattle.std.proofs.lemmas.List.{length-map}
use Rattle.std.proofs.lemmas.List.Elements.{All-map, All-weaker}
use Rattle.span_io.specs.declared.form.Form.{Form}
use Rattle.span_io.specs.declared.form.Form.TheVariants as forms
use Rattle.span_io.specs.declared.limits.Limits.{Limits}
use Rattle.trace_model.specs.Proper.{IsProperGroup}
use Rattle.trace_model.specs.Soundness.{IsSoundGroup}
use Rattle.trace_model.specs.declared.group.Group.{Group}
use Rattle.map_jaeger.specs.StatedLaws.{IsHeld, NormalForms}
use Rattle.map_jaeger.specs.Normal.{normal, normal_group}
use Rattle.map_zipkin.specs.StatedLaws.{IsHeldByZipkin, ZipkinNormalForms}
use Rattle.map_zipkin.specs.Normal.{zipkin_normal}
use Rattle.map_zipkin.specs.NotedGroups.{plain_noted}
use Rattle.span_moves.specs.Keeps.{EachSpan, NoDoubleMade, SpansKept}
use Rattle.span_moves.specs.Pairs.{FromJaegerToZipkin, FromZipkinToJaeger}
use Rattle.span_convert.specs.Canonical.{ConvertsTo, Fits, ReadsPlainly}
use Rattle.span_convert.specs.private.InputLaws.{InputLaws}
use Rattle.span_convert.specs.Moves.{IsKeptBy, IsNormalTrace}
use Rattle.span_convert.specs.Units.{CanHold, groups_in, normal_form, canonical_text, span_count}
use Rattle.span_convert.specs.Verdicts.{CanHoldTrace, tally_of}
use Rattle.span_convert.proofs.BatchTexts.{all_held}
use Rattle.span_convert.proofs.FitLaws.{reads_whole}
use Rattle.span_convert.proofs.FormTargets.{held_units}
use Rattle.span_convert.proofs.SpanFileTexts.{held_groups}
use Rattle.span_convert.proofs.TextLaws.{plain_means}

-- ---- what is kept

pub kept : SpansKept → (to : Form) (groups : List Group) → EachSpan (IsKeptBy to) groups (normal_form to groups)
kept K forms.OtlpProto groups = K.otlp groups
kept K forms.OtlpJson groups = K.otlp groups
kept K forms.JaegerBinary groups = K.jaeger groups
kept K forms.JaegerCompact groups = K.jaeger groups
kept K forms.ZipkinJson groups = K.zipkin groups

-- ---- traces that a form can hold

module _ (P : Group → Type 0) (sound : (g : Group) → P g → IsSoundGroup g) (proper : (g : Group) → P g → IsProperGroup g) (to : Form) (groups : List Group) where
  holds : ((g : Group) → P g → CanHold to g) → All P groups → CanHoldTrace to groups
  holds fine all = record {
    sound = All-weaker P IsSoundGroup sound groups all;
    proper = All-weaker P IsProperGroup proper groups all;
    no_fault = All-weaker P (CanHold to) fine groups all;
  }

  holds_where : All (CanHold to) groups → All P groups → CanHoldTrace to groups
  holds_where fine all = record {
    sound = All-weaker P IsSoundGroup sound groups all;
    proper = All-weaker P IsProperGroup proper groups all;
    no_fault = fine;
  }

jaeger_sound : (g : Group) → IsHeld g → IsSoundGroup g
jaeger_sound g h = h.sound

jaeger_proper : (g : Group) → IsHeld g → IsProperGroup g
jaeger_proper g h = h.proper

zipkin_sound : (g : Group) → IsHeldByZipkin g → IsSoundGroup g
zipkin_sound g h = h.sound

zipkin_proper : (g : Group) → IsHeldByZipkin g → IsProperGroup g
zipkin_proper g h = h.proper

-- ---- there and back

-- a trace that the form leaves as it is, where it leaves it
left_as_it_is : (form : Form) (groups : List Group) → IsNormalTrace form groups → IsNormalTrace form (normal_form form groups)
left_as_it_is form groups h = subst (IsNormalTrace form) (sym h.itself) h

module _ (N : NormalForms) (Z : ZipkinNormalForms) (J : FromJaegerToZipkin) (B : FromZipkinToJaeger) (D : NoDoubleMade) where
  module _ (groups : List Group) (held : All IsHeld groups) where
    normals_held : All IsHeld (normal groups)
    normals_held = All-map IsHeld normal_group groups (All-weaker IsHeld (λ g. IsHeld (normal_group g)) N.held groups held)

    by_jaeger : (from : Form) → IsNormalTrace from groups → IsNormalTrace from (normal groups)
    by_jaeger forms.OtlpProto h = record { can_hold = holds IsHeld jaeger_sound jaeger_proper forms.OtlpProto (normal groups) (λ g its. tt) normals_held; itself = refl }
    by_jaeger forms.OtlpJson h = record {
      can_hold = holds_where IsHeld jaeger_sound jaeger_proper forms.OtlpJson (normal groups) (D.jaeger groups h.can_hold.no_fault) normals_held;
      itself = refl;
    }
    by_jaeger forms.JaegerBinary h = left_as_it_is forms.JaegerBinary groups h
    by_jaeger forms.JaegerCompact h = left_as_it_is forms.JaegerCompact groups h
    by_jaeger forms.ZipkinJson h = record {
      can_hold = holds IsHeldByZipkin zipkin_sound zipkin_proper forms.ZipkinJson (normal groups) (λ g its. its.no_fault) (B.held groups (held_groups groups h.can_hold) held);
      itself = B.itself groups h.itself;
    }

  module _ (groups : List Group) (held : All IsHeldByZipkin groups) where
    normal_held : All IsHeldByZipkin (zipkin_normal groups)
    normal_held = Z.held groups held

    by_zipkin : (from : Form) → IsNormalTrace from groups → IsNormalTrace from (zipkin_normal groups)
    by_zipkin forms.OtlpProto h = record { can_hold = holds IsHeldByZipkin zipkin_sound zipkin_proper forms.OtlpProto (zipkin_normal groups) (λ g its. tt) normal_held; itself = refl }
    by_zipkin forms.OtlpJson h = record {
      can_hold = holds_where IsHeldByZipkin zipkin_sound zipkin_proper forms.OtlpJson (zipkin_normal groups) (D.zipkin groups h.can_hold.no_fault) normal_held;
      itself = refl;
    }
    by_zipkin forms.JaegerBinary h = record {
      can_hold = holds IsHeld jaeger_sound jaeger_proper forms.JaegerBinary (zipkin_normal groups) (λ g its. its.no_fault)
          (J.held groups (all_held groups h.can_hold.sound h.can_hold.proper h.can_hold.no_fault) held);
      itself = J.itself groups h.itself;
    }
    by_zipkin forms.JaegerCompact h = record {
      can_hold = holds IsHeld jaeger_sound jaeger_proper forms.JaegerCompact (zipkin_normal groups) (λ g its. its.no_fault)
          (J.held groups (all_held groups h.can_hold.sound h.can_hold.proper h.can_hold.no_fault) held);
      itself = J.itself groups h.itself;
    }
    by_zipkin forms.ZipkinJson h = left_as_it_is forms.ZipkinJson groups h

  pub there_and_back : (from to : Form) (groups : List Group) → IsNormalTrace from groups → CanHoldTrace to groups → IsNormalTrace from (normal_form to groups)
  there_and_back from forms.OtlpProto groups h can = h
  there_and_back from forms.OtlpJson groups h can = h
  there_and_back from forms.JaegerBinary groups h can = by_jaeger groups (all_held groups can.sound can.proper can.no_fault) from h
  there_and_back from forms.JaegerCompact groups h can = by_jaeger groups (all_held groups can.sound can.proper can.no_fault) from h
  there_and_back from forms.ZipkinJson groups h can = by_zipkin groups (held_groups groups can) from h

-- ---- a text is converted

-- A text that is read as groups, without remarks, and that fits as an input, is converted to a form that can hold them.
pub converts_to : InputLaws → (from to : Form) (limits : Limits) (text : List ℕ) (groups : List Group) → CanHoldTrace to groups → ReadsPlainly from text groups → Fits from limits text → ConvertsTo from to limits text groups
converts_to L from to limits text groups can plainly fits =
    let same : groups ≡ groups_in (map plain_noted groups) = sym (plain_means groups) in
    record {
      noted = map plain_noted groups;
      whole = reads_whole L from limits text (map plain_noted groups) plainly fits;
      held = held_units to (map plain_noted groups) (subst (CanHoldTrace to) same can);
      is_text = ap (λ (l : List Group). canonical_text to l) same;
      counts = ap (λ n. tally_of n (span_count groups)) (sym (length-map groups plain_noted)) ∙ ap (λ (l : List Group). tally_of (length (map plain_noted groups)) (span_count l)) same;
    }
