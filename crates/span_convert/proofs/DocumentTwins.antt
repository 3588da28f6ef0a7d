-- Inputs in JSON whose values say the same have the same verdicts.
use Rattle.std.proofs.Common.{◌↔◌, ◌≤◌, ◌++◌, ◌∷◌, ◌⊎◌, inl, inr, ℕ, List, [], length, map, subst, arith}
use Rattle.serde_json.specs.Data.{Data}
use Rattle.span_io.specs.Causes.{cause_number}
use Rattle.span_io.specs.Paths.{Offences}
use Rattle.span_io.specs.declared.form.Form.{Form}
use Rattle.span_io.specs.declared.form.Form.TheVariants as forms
use Rattle.span_io.specs.declared.limits.Limits.{Limits}
use Rattle.span_io.specs.declared.refusal.Refusal.{Refusal}
use Rattle.trace_model.specs.OtlpParts.{NotedGroup}
use Rattle.json_members.proofs.ReadingLaws.{same_value}
use Rattle.json_members.specs.Texts.{IsJsonText, document_offends}
use Rattle.otlp_json.specs.Group.{RemarkedGroup, AreJsonGroups, json_groups_offend}
use Rattle.otlp_json.specs.StatedLaws.{FreeGroupMembers}
use Rattle.zipkin_json.specs.StatedLaws.{FreeMembers}
use Rattle.zipkin_json.specs.Span.{AreSpans, spans_offend}
use Rattle.zipkin_json.specs.declared.span.ZSpan.{ZSpan}
use Rattle.span_convert.specs.Documents.{DocumentForm, IsDocument, DocumentBegins, IsTooLongDocument, OffendsInDocument, DocumentRefused}
use Rattle.span_convert.specs.GroupFiles.{remarked_group, ReadsGroups, group_document}
use Rattle.span_convert.specs.SameDocuments.{AgreeingDocuments, HoldSameDocument, SameDocuments}
use Rattle.span_convert.specs.SpanFiles.{ReadsSpans, span_document}
use Rattle.span_convert.specs.Units.{document_input, input_form}
use Rattle.span_convert.specs.Targets.{Target}
use Rattle.span_convert.specs.Verdicts.{Verdict, good, refused, faulted, IsVerdictOn}

-- ---- a document that says also what another says

-- what the one is read as the other is, and what offends in either offends in both
record SaysAlso (from : DocumentForm) (bytes others : List ℕ) : Type 0 where
  reads : (noted : List NotedGroup) → from.Reads bytes noted → from.Reads others noted
  offends : (path : List ℕ) (number : ℕ) → from.Offends bytes path number → from.Offends others path number
  before : (path : List ℕ) (number : ℕ) → from.Offends others path number → from.Offends bytes path number

module _ (from : DocumentForm) (limits : Limits) (bytes others : List ℕ) (within : length bytes ≤ limits.json) (other_within : length others ≤ limits.json) (S : SaysAlso from bytes others) where
  whole : (noted : List NotedGroup) → IsDocument from limits bytes noted → IsDocument from limits others noted
  whole noted h = record { within = other_within; text = S.reads noted h.text }

  begins : (noted : List NotedGroup) → DocumentBegins from limits bytes noted → DocumentBegins from limits others noted
  begins noted h = record { all = h.all; document = whole h.all h.document; more = h.more; parts = h.parts }

  refuses : (noted : List NotedGroup) (refusal : Refusal) → DocumentRefused from limits bytes noted refusal → DocumentRefused from limits others noted refusal
  refuses noted refusal h = record { none = h.none; why = of h.why }
    where
      of : IsTooLongDocument limits bytes refusal ⊎ OffendsInDocument from limits bytes refusal → IsTooLongDocument limits others refusal ⊎ OffendsInDocument from limits others refusal
      of (inl long) = absurd (omega (arith, long.0, within))
      of (inr o) = inr (
        other_within,
        record {
          path = o.1.path;
          is_least = record {
            offence = S.offends o.1.path (cause_number refusal.cause) o.1.is_least.offence;
            least = λ p n g. o.1.is_least.least p n (S.before p n g);
          };
          unit = o.1.unit;
        },
      )

  verdict_also : (to : Target) (verdict : Verdict) → IsVerdictOn (document_input from) to limits bytes verdict → IsVerdictOn (document_input from) to limits others verdict
  verdict_also to (good text tally) h = record { noted = h.noted; whole = whole h.noted h.whole; held = h.held; is_text = h.is_text; counts = h.counts }
  verdict_also to (refused refusal text) h = record { noted = h.noted; refuses = refuses h.noted refusal h.refuses; held = h.held; is_text = h.is_text }
  verdict_also to (faulted found text) h = record {
    noted = h.noted;
    next = h.next;
    begins = begins (h.noted ++ h.next ∷ []) h.begins;
    held = h.held;
    fault = h.fault;
    number = h.number;
    is_text = h.is_text;
  }

-- ---- texts of values

module _ (value other : Data) (bytes others : List ℕ) (is : IsJsonText value bytes) (also : IsJsonText other others) where
  text_offends : (Offends : Data → Offences) → ((path : List ℕ) (number : ℕ) → Offends value path number → Offends other path number)
      → (path : List ℕ) (number : ℕ) → document_offends Offends bytes path number → document_offends Offends others path number
  text_offends Offends f path number (inl bad) = absurd (bad.none value is)
  text_offends Offends f path number (inr h) =
      inr (record { value = other; is_text = also; offends = f path number (subst (λ (d : Data). Offends d path number) (same_value bytes value is h.value h.is_text) h.offends) })

  spans_also : ((spans : List ZSpan) → AreSpans spans value → AreSpans spans other) → (noted : List NotedGroup) → ReadsSpans bytes noted → ReadsSpans others noted
  spans_also f noted h = record {
    spans = h.spans;
    text = record { value = other; is_text = also; are_spans = f h.spans (subst (λ (d : Data). AreSpans h.spans d) (same_value bytes value is h.text.value h.text.is_text) h.text.are_spans) };
    means = h.means;
  }

  groups_also : ((groups : List RemarkedGroup) → AreJsonGroups groups value → AreJsonGroups groups other) → (noted : List NotedGroup) → ReadsGroups bytes noted → ReadsGroups others noted
  groups_also f noted h =
      let remarked : List RemarkedGroup = map remarked_group noted in
      record { value = other; is_text = also; are_groups = f remarked (subst (λ (d : Data). AreJsonGroups remarked d) (same_value bytes value is h.value h.is_text) h.are_groups) }

-- ---- two inputs

module _ (limits : Limits) (bytes others : List ℕ) where
  same_spans : HoldSameDocument AreSpans spans_offend limits bytes others → (to : Target) (verdict : Verdict)
      → IsVerdictOn (document_input span_document) to limits bytes verdict ↔ IsVerdictOn (document_input span_document) to limits others verdict
  same_spans h to verdict = (
    verdict_also span_document limits bytes others h.within h.other_within (record {
      reads = spans_also h.value h.other bytes others h.text h.other_text (λ spans are. (h.same.means spans).0 are);
      offends = text_offends h.value h.other bytes others h.text h.other_text spans_offend (λ path number o. (h.same.offends path number).0 o);
      before = text_offends h.other h.value others bytes h.other_text h.text spans_offend (λ path number o. (h.same.offends path number).1 o);
    }) to verdict,
    verdict_also span_document limits others bytes h.other_within h.within (record {
      reads = spans_also h.other h.value others bytes h.other_text h.text (λ spans are. (h.same.means spans).1 are);
      offends = text_offends h.other h.value others bytes h.other_text h.text spans_offend (λ path number o. (h.same.offends path number).1 o);
      before = text_offends h.value h.other bytes others h.text h.other_text spans_offend (λ path number o. (h.same.offends path number).0 o);
    }) to verdict,
  )

  same_groups : HoldSameDocument AreJsonGroups json_groups_offend limits bytes others → (to : Target) (verdict : Verdict)
      → IsVerdictOn (document_input group_document) to limits bytes verdict ↔ IsVerdictOn (document_input group_document) to limits others verdict
  same_groups h to verdict = (
    verdict_also group_document limits bytes others h.within h.other_within (record {
      reads = groups_also h.value h.other bytes others h.text h.other_text (λ groups are. (h.same.means groups).0 are);
      offends = text_offends h.value h.other bytes others h.text h.other_text json_groups_offend (λ path number o. (h.same.offends path number).0 o);
      before = text_offends h.other h.value others bytes h.other_text h.text json_groups_offend (λ path number o. (h.same.offends path number).1 o);
    }) to verdict,
    verdict_also group_document limits others bytes h.other_within h.within (record {
      reads = groups_also h.other h.value others bytes h.other_text h.text (λ groups are. (h.same.means groups).1 are);
      offends = text_offends h.other h.value others bytes h.other_text h.text json_groups_offend (λ path number o. (h.same.offends path number).1 o);
      before = text_offends h.value h.other bytes others h.text h.other_text json_groups_offend (λ path number o. (h.same.offends path number).0 o);
    }) to verdict,
  )

pub same_documents : (from : Form) (to : Target) (limits : Limits) (bytes others : List ℕ) → SameDocuments limits from bytes others
    → (verdict : Verdict) → IsVerdictOn (input_form from) to limits bytes verdict ↔ IsVerdictOn (input_form from) to limits others verdict
same_documents forms.OtlpProto to limits bytes others h verdict = absurd h
same_documents forms.OtlpJson to limits bytes others h verdict = same_groups limits bytes others h to verdict
same_documents forms.JaegerBinary to limits bytes others h verdict = absurd h
same_documents forms.JaegerCompact to limits bytes others h verdict = absurd h
same_documents forms.ZipkinJson to limits bytes others h verdict = same_spans limits bytes others h to verdict

-- ---- values whose known members agree say the same

pub agreeing_say_the_same : FreeGroupMembers → FreeMembers → (from : Form) (limits : Limits) (bytes others : List ℕ)
    → AgreeingDocuments limits from bytes others → SameDocuments limits from bytes others
agreeing_say_the_same groups spans forms.OtlpProto limits bytes others h = absurd h
agreeing_say_the_same groups spans forms.OtlpJson limits bytes others h = record {
  value = h.value;
  other = h.other;
  text = h.text;
  other_text = h.other_text;
  within = h.within;
  other_within = h.other_within;
  same = record { means = groups.means h.value h.other h.agree; offends = groups.offends h.value h.other h.agree };
}
agreeing_say_the_same groups spans forms.JaegerBinary limits bytes others h = absurd h
agreeing_say_the_same groups spans forms.JaegerCompact limits bytes others h = absurd h
agreeing_say_the_same groups spans forms.ZipkinJson limits bytes others h = record {
  value = h.value;
  other = h.other;
  text = h.text;
  other_text = h.other_text;
  within = h.within;
  other_within = h.other_within;
  same = record { means = spans.means h.value h.other h.agree; offends = spans.offends h.value h.other h.agree };
}
