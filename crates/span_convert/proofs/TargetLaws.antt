-- What the laws of verdicts rest on, by the form of the target.
use Rattle.std.proofs.Common.{◌≡◌, ◌++◌, ◌⊎◌, inl, inr, Bool, true, false, List, [], refl, sym, ◌∙◌}
use Rattle.std.proofs.lemmas.Bool.{false≢true}
use Rattle.std.proofs.lemmas.Grind.{flat_map-append}
use Rattle.std.proofs.lemmas.List.{append-nil}
use Rattle.span_io.specs.Outside.{IsFront}
use Rattle.span_io.specs.declared.form.Form.{Form}
use Rattle.span_io.specs.declared.form.Form.TheVariants as forms
use Rattle.trace_model.specs.Soundness.{IsSoundGroup}
use Rattle.trace_model.specs.declared.fault.Fault.{Fault}
use Rattle.trace_model.specs.declared.fault.Fault.TheVariants.{DoubleInText}
use Rattle.trace_model.specs.declared.group.Group.{Group}
use Rattle.otlp_json.specs.Doubles.{double_in_group}
use Rattle.otlp_proto.specs.Canonical.{group_record}
use Rattle.map_jaeger.specs.Faults.{IsResourceFault, IsSpanFault}
use Rattle.map_jaeger.specs.StatedLaws.{FaultsFound}
use Rattle.map_zipkin.specs.Faults.{IsZipkinResourceFault, IsZipkinSpanFault}
use Rattle.map_zipkin.specs.StatedLaws.{ZipkinFaultsFound, ZipkinNormalForms}
use Rattle.span_convert.specs.BatchFiles.{binary, compact}
use Rattle.span_convert.specs.Units.{FaultOf, CanHold, canonical_text, partial_text, closing_text}
use Rattle.span_convert.specs.Verdicts.{CanHoldTrace}
use Rattle.span_convert.proofs.BatchTargets.{batches_append}
use Rattle.span_convert.proofs.FaultTargets.{counts_once, counts_or_none, counted_or_none}
use Rattle.span_convert.proofs.GroupFileTexts.{group_file_front, group_file_closed}
use Rattle.span_convert.proofs.SpanFileTexts.{span_file_front, span_file_closed}

-- ---- faults

pub fault_once : (to : Form) (g : Group) (a b : Fault) → FaultOf to g a → FaultOf to g b → a ≡ b
fault_once forms.OtlpProto g a b h k = absurd h
fault_once forms.OtlpJson g a b h k = h.0 ∙ sym k.0
fault_once forms.JaegerBinary g a b h k = counts_once IsResourceFault IsSpanFault g a b h k
fault_once forms.JaegerCompact g a b h k = counts_once IsResourceFault IsSpanFault g a b h k
fault_once forms.ZipkinJson g a b h k = counts_once IsZipkinResourceFault IsZipkinSpanFault g a b h k

pub no_fault : (to : Form) (g : Group) (fault : Fault) → FaultOf to g fault → CanHold to g → ⊥
no_fault forms.OtlpProto g fault h none = h
no_fault forms.OtlpJson g fault h none = false≢true (sym none ∙ h.1)
no_fault forms.JaegerBinary g fault h none = counts_or_none IsResourceFault IsSpanFault g fault h none
no_fault forms.JaegerCompact g fault h none = counts_or_none IsResourceFault IsSpanFault g fault h none
no_fault forms.ZipkinJson g fault h none = counts_or_none IsZipkinResourceFault IsZipkinSpanFault g fault h none

-- a double stands in the group, or none does
double_or_none : (g : Group) (b : Bool) → double_in_group g ≡ b → CanHold forms.OtlpJson g ⊎ ((fault : Fault) × FaultOf forms.OtlpJson g fault)
double_or_none g false e = inl e
double_or_none g true e = inr (DoubleInText, (refl, e))

-- a sound group has a fault that counts, or none
pub fault_or_none : FaultsFound → ZipkinFaultsFound → (to : Form) (g : Group) → IsSoundGroup g → CanHold to g ⊎ ((fault : Fault) × FaultOf to g fault)
fault_or_none jaeger zipkin forms.OtlpProto g sound = inl tt
fault_or_none jaeger zipkin forms.OtlpJson g sound = double_or_none g (double_in_group g) refl
fault_or_none jaeger zipkin forms.JaegerBinary g sound = let w = jaeger g sound in counted_or_none IsResourceFault IsSpanFault g w.0 w.1
fault_or_none jaeger zipkin forms.JaegerCompact g sound = let w = jaeger g sound in counted_or_none IsResourceFault IsSpanFault g w.0 w.1
fault_or_none jaeger zipkin forms.ZipkinJson g sound =
    let w = zipkin g sound in counted_or_none IsZipkinResourceFault IsZipkinSpanFault g w.0 w.1

-- ---- texts

pub partial_none : (to : Form) → partial_text to [] ≡ []
partial_none forms.OtlpProto = refl
partial_none forms.OtlpJson = refl
partial_none forms.JaegerBinary = refl
partial_none forms.JaegerCompact = refl
partial_none forms.ZipkinJson = refl

-- the text so far of the first groups is a front of that of all
pub partial_front : ZipkinNormalForms → (to : Form) (a b : List Group) → CanHoldTrace to (a ++ b) → IsFront (partial_text to a) (partial_text to (a ++ b))
partial_front Z forms.OtlpProto a b held = (partial_text forms.OtlpProto b, flat_map-append group_record a b)
partial_front Z forms.OtlpJson a b held = group_file_front a b
partial_front Z forms.JaegerBinary a b held = (partial_text forms.JaegerBinary b, batches_append binary a b)
partial_front Z forms.JaegerCompact a b held = (partial_text forms.JaegerCompact b, batches_append compact a b)
partial_front Z forms.ZipkinJson a b held = span_file_front Z a b held

pub closed : (to : Form) (groups : List Group) → canonical_text to groups ≡ partial_text to groups ++ closing_text to groups
closed forms.OtlpProto groups = sym (append-nil (partial_text forms.OtlpProto groups))
closed forms.OtlpJson groups = group_file_closed groups
closed forms.JaegerBinary groups = sym (append-nil (partial_text forms.JaegerBinary groups))
closed forms.JaegerCompact groups = sym (append-nil (partial_text forms.JaegerCompact groups))
closed forms.ZipkinJson groups = span_file_closed groups
