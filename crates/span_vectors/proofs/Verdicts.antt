-- The verdict on the request of a gauge: each form holds the gauge, so it is good.
use Rattle.std.proofs.Common.{◌≡◌, ◌↔◌, ℕ, ◌<◌, ◌≤◌, ◌^◌, List, [], ◌∷◌, length, map, All, sym, ap, ◌∙◌, subst, arith}
use Rattle.std.proofs.lemmas.List.{length-append}
use Rattle.std.proofs.lemmas.List.Elements.{All-nil, All-cons, All-head, All-tail}
use Rattle.span_io.specs.Limits.{AreLimits, shipped_limits}
use Rattle.span_io.specs.declared.form.Form.{Form}
use Rattle.span_io.specs.declared.form.Form.TheVariants as forms
use Rattle.span_io.specs.declared.limits.Limits.{Limits}
use Rattle.proto_wire.specs.StatedLaws.{ShortestRecord}
use Rattle.trace_model.specs.OtlpParts.{NotedGroup}
use Rattle.trace_model.specs.Proper.{IsProperGroup}
use Rattle.trace_model.specs.Soundness.{IsSoundTrace}
use Rattle.trace_model.specs.declared.group.Group.{Group}
use Rattle.otlp_proto.specs.Canonical.{group_record}
use Rattle.span_convert.specs.Canonical.{ConvertsToItself, Fits, IsHeldBy}
use Rattle.span_convert.specs.Requests.{request_text}
use Rattle.span_convert.specs.Targets.{form_target}
use Rattle.span_convert.specs.Units.{groups_in, input_form, CanHold, IsSizedGroup, normal_form, canonical_text, span_count}
use Rattle.span_convert.specs.Verdicts.{IsFaultless, IsGood, tally_of}
use Rattle.span_vectors.specs.Gauge.{gauge, gauge_group, group_count}
use Rattle.span_vectors.specs.StatedLaws.{GaugeIsConverted}
use Rattle.span_vectors.proofs.Batches.{batch_fine}
use Rattle.span_vectors.proofs.Faults.{no_double, jaeger_fine, zipkin_fine}
use Rattle.span_vectors.proofs.Frames.{groups_size, gauge_frames}
use Rattle.span_vectors.proofs.Held.{gauge_sound, gauge_proper}
use Rattle.span_vectors.proofs.Numbers.{spans_counted, groups_counted}
use Rattle.span_vectors.proofs.Spans.{all_groups}
use Rattle.span_vectors.proofs.TextSizes.{record_size}

-- ---- each form holds the gauge

fine : (to : Form) (spans group : ℕ) → CanHold to (gauge_group spans group)
fine forms.OtlpProto spans group = tt
fine forms.OtlpJson spans group = no_double spans group
fine forms.JaegerBinary spans group = jaeger_fine spans group
fine forms.JaegerCompact spans group = jaeger_fine spans group
fine forms.ZipkinJson spans group = zipkin_fine spans group

sized : (to : Form) (spans group : ℕ) → IsSizedGroup to (gauge_group spans group)
sized forms.OtlpProto spans group = omega (arith, (record_size spans group).within)
sized forms.OtlpJson spans group = tt
sized forms.JaegerBinary spans group = batch_fine spans group
sized forms.JaegerCompact spans group = batch_fine spans group
sized forms.ZipkinJson spans group = tt

no_fault : (to : Form) (spans : ℕ) → IsFaultless to (gauge spans)
no_fault to spans = all_groups (CanHold to) spans (λ group has. fine to spans group)

pub held : (to : Form) (spans : ℕ) → spans < 2 ^ 32 → IsHeldBy to (gauge spans)
held to spans few = record {
  can_hold = record { sound = gauge_sound spans; proper = gauge_proper spans few; no_fault = no_fault to spans };
  sized = all_groups (IsSizedGroup to) spans (λ group has. sized to spans group);
}

-- no record is longer than the whole text
each_short : (groups : List Group) → length (request_text groups) < 2 ^ 63 → All (IsSizedGroup forms.OtlpProto) groups
each_short [] short = All-nil (IsSizedGroup forms.OtlpProto)
each_short (g ∷ groups) short =
    let whole = length-append (group_record g) (request_text groups) in
    All-cons (IsSizedGroup forms.OtlpProto) g groups (omega (arith, short, whole)) (each_short groups (omega (arith, short, whole)))

-- OTLP holds each sound trace whose text isn't too long
held_by_otlp : (groups : List Group) → IsSoundTrace groups → All IsProperGroup groups → length (request_text groups) < 2 ^ 63 → IsHeldBy forms.OtlpProto groups
held_by_otlp groups sound proper short = record { can_hold = record { sound = sound; proper = proper; no_fault = λ k d lt. tt }; sized = each_short groups short }

all_units : (P : Group → Type 0) (units : List NotedGroup) → All P (groups_in units) → All (λ (unit : NotedGroup). P unit.means) units
all_units P [] h = All-nil (λ (unit : NotedGroup). P unit.means)
all_units P (unit ∷ units) h =
    All-cons (λ (unit : NotedGroup). P unit.means) unit units (All-head P unit.means (groups_in units) h) (all_units P units (All-tail P unit.means (groups_in units) h))

pub are_limits : AreLimits shipped_limits
are_limits = record {
  unit = (omega arith, omega arith);
  json = (omega arith, omega arith);
  binary = (omega arith, omega arith);
  head = (omega arith, omega arith);
  body = (omega arith, omega arith);
  reply = (omega arith, omega arith);
}

-- ---- the request of the gauge

request_within : (spans : ℕ) → spans ≤ 1000000 → length (request_text (gauge spans)) ≤ 500000000
request_within spans few = omega (arith, (groups_size spans (group_count spans)).within, few)

module _ (shortest : ShortestRecord)
    (itself : (to : Form) (limits : Limits) (groups : List Group) → AreLimits limits → IsHeldBy to groups
    → Fits to limits (canonical_text to groups) → ConvertsToItself to limits (canonical_text to groups) groups)
    (equal : (to : Form) (a b : List Group) → IsHeldBy to a → IsHeldBy to b
    → (canonical_text to a ≡ canonical_text to b) ↔ (normal_form to a ≡ normal_form to b))
    (spans : ℕ) (few : spans ≤ 1000000) where
  fits : Fits forms.OtlpProto shipped_limits (request_text (gauge spans))
  fits = record { frames = map group_record (gauge spans); framed = gauge_frames shortest spans; within = omega (arith, request_within spans few) }

  again : IsGood (input_form forms.OtlpProto) (form_target forms.OtlpProto) shipped_limits (request_text (gauge spans)) (request_text (gauge spans)) (tally_of (length (gauge spans)) (span_count (gauge spans)))
  again = itself forms.OtlpProto shipped_limits (gauge spans) are_limits (held forms.OtlpProto spans (omega (arith, few))) fits

  -- what is read of it is the gauge
  same : groups_in again.noted ≡ gauge spans
  same =
      let short : length (request_text (gauge spans)) < 2 ^ 63 = omega (arith, request_within spans few) in
      (equal forms.OtlpProto (groups_in again.noted) (gauge spans)
      (held_by_otlp (groups_in again.noted) again.held.sound again.held.proper (subst (λ (l : List ℕ). length l < 2 ^ 63) again.is_text short))
      (held forms.OtlpProto spans (omega (arith, few)))).0 (sym again.is_text)

  tally : tally_of (group_count spans) spans ≡ tally_of (length (gauge spans)) (span_count (gauge spans))
  tally = ap (λ (n : ℕ). tally_of n spans) (sym (groups_counted spans)) ∙ ap (λ (n : ℕ). tally_of (length (gauge spans)) n) (sym (spans_counted spans))

  pub converted : (to : Form) → GaugeIsConverted to spans
  converted to = record {
    noted = again.noted;
    whole = again.whole;
    held = record {
      sound = again.held.sound;
      proper = again.held.proper;
      no_fault = all_units (CanHold to) again.noted (subst (λ (l : List Group). All (CanHold to) l) (sym same) (no_fault to spans));
    };
    is_text = ap (λ (l : List Group). canonical_text to l) (sym same);
    counts = tally ∙ again.counts;
  }
