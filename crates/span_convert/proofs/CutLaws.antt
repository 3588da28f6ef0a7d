-- An input of Jaeger that is refused because it ends too early ends inside a batch that can be completed.
use Rattle.std.proofs.Common.{◌≡◌, ◌+◌, ◌⊎◌, inl, inr, ℕ, List, length, ap, ◌∙◌}
use Rattle.std.proofs.lemmas.Slice.Zip.{AllZip-long}
use Rattle.span_io.specs.declared.cause.Cause.TheVariants as causes
use Rattle.span_io.specs.declared.form.Form.{Form}
use Rattle.span_io.specs.declared.form.Form.TheVariants as forms
use Rattle.span_io.specs.declared.limits.Limits.{Limits}
use Rattle.span_io.specs.declared.refusal.Refusal.{Refusal}
use Rattle.trace_model.specs.OtlpParts.{NotedGroup}
use Rattle.span_convert.specs.BatchFiles.{ProtocolWords, binary, compact}
use Rattle.span_convert.specs.CutBatches.{EndsInBatch, IfJaeger}
use Rattle.span_convert.specs.FramedForms.{FramedForm, RestCause, UnitOffends, RestStops}
use Rattle.span_convert.specs.private.InputLaws.{BatchLaws, InputLaws}
use Rattle.span_convert.specs.Units.{batch_form}
use Rattle.span_convert.specs.Verdicts.{IsVerdict, refused}
use Rattle.span_convert.proofs.CutCauses.{RefusesNoCut, binary_cut, compact_cut, no_frame_cut}
use Rattle.span_convert.proofs.CutOffences.{batch_not_cut}

abbrev pub cut_at : ℕ → Refusal
cut_at number = record { unit = number; cause = causes.Truncated }

module _ (protocol : ProtocolWords) (L : BatchLaws protocol) (never : RefusesNoCut protocol) (limits : Limits) (bytes : List ℕ) (number : ℕ) (groups : List NotedGroup) (e : number ≡ length groups + 1) where
  abbrev from : FramedForm
  from = batch_form protocol

  at_rest : (s : RestStops from limits bytes groups causes.Truncated) → RestCause from limits (length bytes) s.rest causes.Truncated → EndsInBatch protocol limits bytes number
  at_rest s (inl none) = absurd (no_frame_cut protocol never limits.unit s.rest none)
  at_rest s (inr (needs, inl w)) = absurd (let f : ◌≡◌ causes.Truncated causes.InputTooLong = w.0 in cc)
  at_rest s (inr (needs, inr w)) = record {
    units = s.units_then.units;
    rest = s.rest;
    held = s.units_then.held;
    within = w.1;
    cut = e ∙ ap (λ (n : ℕ). n + 1) (AllZip-long from.IsUnit s.units_then.units groups s.units_then.are_groups);
    some = w.2;
    completed = L.fronts.completed s.rest needs.may_come;
  }

  ends_in_batch : UnitOffends from limits bytes groups causes.Truncated ⊎ RestStops from limits bytes groups causes.Truncated → EndsInBatch protocol limits bytes number
  ends_in_batch (inl o) = absurd (batch_not_cut protocol.spells o.unit o.least.place o.least.offence)
  ends_in_batch (inr s) = at_rest s s.why

module _ (L : InputLaws) (to : Form) (limits : Limits) (bytes text : List ℕ) (number : ℕ) where
  pub cut_short : (from : Form) → IsVerdict from to limits bytes (refused (cut_at number) text) → IfJaeger from (λ protocol. EndsInBatch protocol limits bytes number)
  cut_short forms.OtlpProto h = tt
  cut_short forms.OtlpJson h = tt
  cut_short forms.JaegerBinary h = ends_in_batch binary L.binary binary_cut limits bytes number h.noted h.refuses.number h.refuses.why
  cut_short forms.JaegerCompact h = ends_in_batch compact L.compact compact_cut limits bytes number h.noted h.refuses.number h.refuses.why
  cut_short forms.ZipkinJson h = tt
