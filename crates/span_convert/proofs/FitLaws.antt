-- A text of a trace that fits as an input is all of it: bytes are frames in one way.
use Rattle.std.proofs.Common.{◌≡◌, ℕ, ◌+◌, ◌≤◌, ◌∷◌, List, [], length, ap, sym, ◌∙◌, subst, arith}
use Rattle.std.proofs.lemmas.List.{length-append, take_all}
use Rattle.span_io.specs.Frames.{Framing, ItemsThen}
use Rattle.span_io.specs.Framings.{OneFraming, OneStep}
use Rattle.span_io.specs.declared.cause.Cause.{Cause}
use Rattle.span_io.specs.declared.form.Form.{Form}
use Rattle.span_io.specs.declared.form.Form.TheVariants as forms
use Rattle.span_io.specs.declared.limits.Limits.{Limits}
use Rattle.proto_wire.specs.Wire.{records, RefusedBy}
use Rattle.trace_model.specs.OtlpParts.{NotedGroup}
use Rattle.span_convert.specs.BatchFiles.{ProtocolWords, binary, compact, batches, RefusedBatch, ReadsBatches}
use Rattle.span_convert.specs.Canonical.{AreFramesWithin, Fits, ReadsNoted}
use Rattle.span_convert.specs.FramedForms.{AreAllUnits}
use Rattle.span_convert.specs.private.InputLaws.{BatchLaws, InputLaws, RequestLaws}
use Rattle.span_convert.specs.Requests.{HoldsRequestUnits, ReadsRequest}
use Rattle.span_convert.specs.Units.{batch_form, input_form, request_form}
use Rattle.span_convert.proofs.FrameLemmas.{same_items}

module _ (F : Framing) where
  -- no item is longer than the bytes
  items_within : (limit most : ℕ) (items : List (List ℕ)) (rest bytes : List ℕ) → length bytes ≤ most → ItemsThen F limit items rest bytes → ItemsThen F most items rest bytes
  unfolding ItemsThen
  items_within limit most [] rest bytes short h = h
  items_within limit most (item ∷ items) rest bytes short h =
      let size : length bytes ≡ length item + length h.2 = ap length h.3 ∙ length-append item h.2 in
      (h.0, omega (arith, size, short), h.2, h.3, items_within limit most items rest h.2 (omega (arith, size, short)) h.4)

  module _ (EndsIn : Cause → List ℕ → Type 0) (S : OneStep F EndsIn) (W : OneFraming F EndsIn) where
    -- items that the bytes are, are those that the bytes are within the limits
    these_items : (limits : Limits) (bytes : List ℕ) (items : List (List ℕ)) → ItemsThen F (length bytes) items [] bytes → AreFramesWithin F limits bytes → ItemsThen F limits.unit items [] bytes
    these_items limits bytes items h fits =
        subst (λ (l : List (List ℕ)). ItemsThen F limits.unit l [] bytes)
        (same_items F EndsIn S W (length bytes) bytes fits.frames items (items_within limits.unit (length bytes) fits.frames [] bytes (omega arith) fits.framed) h)
        fits.framed

request_whole : RequestLaws → (limits : Limits) (bytes : List ℕ) (noted : List NotedGroup) → ReadsRequest bytes noted → AreFramesWithin records limits bytes → AreAllUnits request_form limits bytes noted
request_whole L limits bytes noted h fits = record {
  units_then = record {
    units = h.units;
    held = record {
      frames = h.frames;
      framed = subst (λ (l : List ℕ). ItemsThen records limits.unit h.frames [] l) (sym (take_all limits.binary bytes fits.within)) (these_items records RefusedBy L.step L.framing limits bytes h.frames h.framed fits);
      are_units = h.are_units;
    };
    are_groups = h.are_groups;
  };
  within = fits.within;
}

batches_whole : (protocol : ProtocolWords) → BatchLaws protocol → (limits : Limits) (bytes : List ℕ) (noted : List NotedGroup) → ReadsBatches protocol bytes noted → AreFramesWithin (batches protocol) limits bytes
    → AreAllUnits (batch_form protocol) limits bytes noted
batches_whole protocol B limits bytes noted h fits = record {
  units_then = record {
    units = h.units;
    held = subst (λ (l : List ℕ). ItemsThen (batches protocol) limits.unit h.units [] l) (sym (take_all limits.binary bytes fits.within)) (these_items (batches protocol) (RefusedBatch protocol) B.step B.framing limits bytes h.units h.framed fits);
    are_groups = h.are_groups;
  };
  within = fits.within;
}

pub reads_whole : InputLaws → (from : Form) (limits : Limits) (bytes : List ℕ) (noted : List NotedGroup) → ReadsNoted from bytes noted → Fits from limits bytes → (input_form from).IsWhole limits bytes noted
reads_whole L forms.OtlpProto limits bytes noted h fits = request_whole L.requests limits bytes noted h fits
reads_whole L forms.OtlpJson limits bytes noted h fits = record { within = fits; text = h }
reads_whole L forms.JaegerBinary limits bytes noted h fits = batches_whole binary L.binary limits bytes noted h fits
reads_whole L forms.JaegerCompact limits bytes noted h fits = batches_whole compact L.compact limits bytes noted h fits
reads_whole L forms.ZipkinJson limits bytes noted h fits = record { within = fits; text = h }

-- ---- what is all of an input is read of its bytes

request_reads : (limits : Limits) (bytes : List ℕ) (noted : List NotedGroup) → AreAllUnits request_form limits bytes noted → ReadsRequest bytes noted
request_reads limits bytes noted h =
    let held : HoldsRequestUnits limits bytes h.units_then.units [] = h.units_then.held in
    record {
      frames = held.frames;
      framed = items_within records limits.unit (length bytes) held.frames [] bytes (omega arith)
          (subst (λ (l : List ℕ). ItemsThen records limits.unit held.frames [] l) (take_all limits.binary bytes h.within) held.framed);
      units = h.units_then.units;
      are_units = held.are_units;
      are_groups = h.units_then.are_groups;
    }

batches_read : (protocol : ProtocolWords) (limits : Limits) (bytes : List ℕ) (noted : List NotedGroup) → AreAllUnits (batch_form protocol) limits bytes noted → ReadsBatches protocol bytes noted
batches_read protocol limits bytes noted h = record {
  units = h.units_then.units;
  framed = items_within (batches protocol) limits.unit (length bytes) h.units_then.units [] bytes (omega arith)
      (subst (λ (l : List ℕ). ItemsThen (batches protocol) limits.unit h.units_then.units [] l) (take_all limits.binary bytes h.within) h.units_then.held);
  are_groups = h.units_then.are_groups;
}

pub whole_reads : (from : Form) (limits : Limits) (bytes : List ℕ) (noted : List NotedGroup) → (input_form from).IsWhole limits bytes noted → ReadsNoted from bytes noted
whole_reads forms.OtlpProto limits bytes noted h = request_reads limits bytes noted h
whole_reads forms.OtlpJson limits bytes noted h = h.text
whole_reads forms.JaegerBinary limits bytes noted h = batches_read binary limits bytes noted h
whole_reads forms.JaegerCompact limits bytes noted h = batches_read compact limits bytes noted h
whole_reads forms.ZipkinJson limits bytes noted h = h.text
