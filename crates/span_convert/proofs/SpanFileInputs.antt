-- What a text of Zipkin spans is a text of: one list of groups, or an offence in it counts.
use Rattle.std.proofs.Common.{◌≡◌, ◌⊎◌, inl, inr, ℕ, List, All, refl, ap, sym, ◌∙◌, subst}
use Rattle.std.proofs.lemmas.List.Elements.{All-weaker}
use Rattle.serde_json.specs.Data.{Data}
use Rattle.span_io.specs.Causes.{cause_number}
use Rattle.span_io.specs.Paths.{Counts, NothingOffends}
use Rattle.span_io.specs.declared.cause.Cause.{Cause}
use Rattle.trace_model.specs.Proper.{IsProperGroup}
use Rattle.trace_model.specs.Soundness.{IsSoundGroup, IsSoundTrace}
use Rattle.trace_model.specs.OtlpParts.{NotedGroup}
use Rattle.zipkin_json.specs.StatedLaws.{OneList, ReadsWritable}
use Rattle.zipkin_json.specs.Proper.{IsProperZSpan, IsTimelyZSpan, IsWritableZSpan}
use Rattle.zipkin_json.specs.Span.{AreSpans, spans_offend}
use Rattle.json_members.proofs.ReadingLaws.{same_value}
use Rattle.json_members.specs.Texts.{IsJsonText, document_offends}
use Rattle.zipkin_json.specs.Texts.{AreSpansText}
use Rattle.zipkin_json.specs.declared.span.ZSpan.{ZSpan}
use Rattle.map_zipkin.specs.NotedGroups.{noted_groups_of}
use Rattle.map_zipkin.specs.Reading.{groups_of}
use Rattle.span_convert.specs.private.InputLaws.{SpanFileLaws}
use Rattle.span_convert.specs.Units.{groups_in}
use Rattle.span_convert.specs.SpanFiles.{ReadsSpans, span_document}
use Rattle.span_convert.specs.Verdicts.{IsProperTrace}
use Rattle.span_convert.proofs.DocumentInputs.{DocumentLaws, IsDecidedText}
use Rattle.span_convert.proofs.JsonTexts.{fine_text, decided_text}

pub one_spans : OneList → (bytes : List ℕ) (a b : List ZSpan) → AreSpansText a bytes → AreSpansText b bytes → a ≡ b
one_spans one bytes a b h k =
    one.once h.value a b h.are_spans (subst (λ (v : Data). AreSpans b v) (same_value bytes h.value h.is_text k.value k.is_text) k.are_spans)

pub proper_read : ReadsWritable → (bytes : List ℕ) (spans : List ZSpan) → AreSpansText spans bytes → All IsProperZSpan spans
proper_read writable bytes spans is = All-weaker IsWritableZSpan IsProperZSpan (λ span w. w.proper) spans (writable spans bytes is)

pub timely_read : ReadsWritable → (bytes : List ℕ) (spans : List ZSpan) → AreSpansText spans bytes → All IsTimelyZSpan spans
timely_read writable bytes spans is = All-weaker IsWritableZSpan IsTimelyZSpan (λ span w. w.timely) spans (writable spans bytes is)

module _ (L : SpanFileLaws) where
  once : (bytes : List ℕ) (a b : List NotedGroup) → ReadsSpans bytes a → ReadsSpans bytes b → a ≡ b
  once bytes a b h k = h.means ∙ ap noted_groups_of (one_spans L.one bytes h.spans k.spans h.text k.text) ∙ sym k.means

  fine : (bytes : List ℕ) (noted : List NotedGroup) → ReadsSpans bytes noted → NothingOffends (document_offends spans_offend bytes)
  fine bytes noted h = fine_text spans_offend bytes h.text.value h.text.is_text (L.one.fine h.text.value h.spans h.text.are_spans)

  decided : (bytes : List ℕ) → IsDecidedText span_document bytes
  decided bytes = of (decided_text spans_offend bytes (λ (d : Data). (spans : List ZSpan) × AreSpans spans d) L.some)
    where
      of : ((d : Data) × IsJsonText d bytes × ((spans : List ZSpan) × AreSpans spans d)) ⊎ ((cause : Cause) × Counts (document_offends spans_offend bytes) (cause_number cause))
          → IsDecidedText span_document bytes
      of (inl (d, is, (spans, are))) =
          inl (noted_groups_of spans, record { spans = spans; text = record { value = d; is_text = is; are_spans = are }; means = refl })
      of (inr h) = inr h

  -- the groups of the spans
  pub groups_read : (bytes : List ℕ) (noted : List NotedGroup) (h : ReadsSpans bytes noted) → groups_of h.spans ≡ groups_in noted
  groups_read bytes noted h = sym (ap groups_in h.means ∙ L.noted.groups h.spans)

  sound : (bytes : List ℕ) (noted : List NotedGroup) → ReadsSpans bytes noted → IsSoundTrace (groups_in noted)
  sound bytes noted h =
      subst (All IsSoundGroup) (groups_read bytes noted h) (L.held.sound h.spans (timely_read L.writable bytes h.spans h.text) (proper_read L.writable bytes h.spans h.text))

  proper : (bytes : List ℕ) (noted : List NotedGroup) → ReadsSpans bytes noted → IsProperTrace (groups_in noted)
  proper bytes noted h =
      subst (All IsProperGroup) (groups_read bytes noted h) (L.held.proper h.spans (timely_read L.writable bytes h.spans h.text) (proper_read L.writable bytes h.spans h.text))

  pub span_file_laws : DocumentLaws span_document
  span_file_laws = record { once = once; fine = fine; decided = decided; sound = sound; proper = proper }
