-- What is appended of the spans of a group.
use Rattle.std.proofs.Common.{◌≡◌, min, All, ◌++◌, ◌∷◌, ℕ, nat_eq, nat_lt, Bool, if◌then◌else◌, List, [], length, map, codes, refl, ap, sym, ◌∙◌, arith, append_assoc, append-nil}
use Rattle.std.proofs.lemmas.Bool.{lt-ltb}
use Rattle.std.proofs.lemmas.List.Elements.{All-nil, All-cons, All-append}
use Rattle.span_io.specs.Outside.{last_count}
use Rattle.span_io.specs.declared.form.Form.TheVariants as forms
use Rattle.trace_model.specs.OtlpParts.{NotedGroup}
use Rattle.trace_model.specs.Proper.{IsProperGroup}
use Rattle.trace_model.specs.Soundness.{IsSoundGroup}
use Rattle.trace_model.specs.declared.group.Group.{Group}
use Rattle.zipkin_json.specs.Canonical.{zspan_text}
use Rattle.zipkin_json.specs.declared.span.ZSpan.{ZSpan}
use Rattle.map_zipkin.specs.Faults.{HasNoZipkinFault}
use Rattle.map_zipkin.specs.StatedLaws.{ZipkinNormalForms}
use Rattle.map_zipkin.specs.Writing.{zipkin_span, spans_of_group}
use Rattle.span_convert.specs.Canonical.{IsHeldBy}
use Rattle.span_convert.specs.Documents.{pieces_added}
use Rattle.span_convert.specs.SpanFiles.{spans_of_groups, span_file}
use Rattle.span_convert.specs.Targets.{form_target}
use Rattle.span_convert.specs.Units.{groups_in, CanHold, partial_text, span_count}
use Rattle.span_convert.specs.Verdicts.{CanHoldTrace, tally_of}
use Rattle.span_convert.specs.Pens.{StandsForAny}
use Rattle.span_convert.specs.private.WalkSteps.{ClosesText, WritesUnit}
use Rattle.span_convert.specs.declared.tally.Tally.{Tally}
use Rattle.span_convert.proofs.DocumentTexts.{added_text, is_some_piece}
use Rattle.span_convert.proofs.DocumentWalks.{is_closing, is_opening}
use Rattle.span_convert.proofs.FormTargets.{writes_unit}
use Rattle.span_convert.proofs.SpanFileTexts.{own_pieces, more_spans, spans_counted}
use Rattle.span_convert.proofs.WalkLemmas.{as_many}

-- the tally tells whether a span stands before
some_counted : (spans : List ZSpan) → nat_lt 0 (min (length spans) last_count) ≡ is_some_piece (map zspan_text spans)
some_counted [] = refl
some_counted (span ∷ more) = lt-ltb 0 (min (length (span ∷ more)) last_count) (omega arith)

all_one : {X : Type 0} (P : X → Type 0) (x : X) → P x → All P (x ∷ [])
all_one P x h = All-cons P x [] h (All-nil P)

-- what Zipkin holds of a trace, and of one more group
held_more : (groups : List Group) (group : Group) → CanHoldTrace forms.ZipkinJson groups → IsSoundGroup group → IsProperGroup group → CanHold forms.ZipkinJson group → CanHoldTrace forms.ZipkinJson (groups ++ group ∷ [])
held_more groups group held sound proper fine = record {
  sound = All-append IsSoundGroup groups (group ∷ []) held.sound (all_one IsSoundGroup group sound);
  proper = All-append IsProperGroup groups (group ∷ []) held.proper (all_one IsProperGroup group proper);
  no_fault = All-append (CanHold forms.ZipkinJson) groups (group ∷ []) held.no_fault (all_one (CanHold forms.ZipkinJson) group fine);
}

module _ (Z : ZipkinNormalForms) (group : Group) (sound : IsSoundGroup group) (proper : IsProperGroup group) (fine : HasNoZipkinFault group) (tally : Tally) where
  abbrev opened_by : List ℕ
  opened_by = if nat_eq tally.units 0 then codes "[" else []

  abbrev pieces_of : List ZSpan → List ℕ
  pieces_of spans = pieces_added (nat_lt 0 tally.spans) (map zspan_text spans)

  is_behind : (groups : List Group) → IsHeldBy forms.ZipkinJson groups → tally ≡ tally_of (length groups) (span_count groups) → is_some_piece (span_file.pieces groups) ≡ nat_lt 0 tally.spans
  is_behind groups before counts =
      ap is_some_piece (own_pieces Z groups before.can_hold)
      ∙ sym (some_counted (spans_of_groups groups))
      ∙ ap (λ n. nat_lt 0 (min n last_count)) (spans_counted (λ (g : Group). zipkin_span g.resource) groups)
      ∙ sym (ap (λ (t : Tally). nat_lt 0 t.spans) counts)

  text_more : (groups : List Group) → IsHeldBy forms.ZipkinJson groups → tally ≡ tally_of (length groups) (span_count groups)
      → partial_text forms.ZipkinJson (groups ++ group ∷ []) ≡ partial_text forms.ZipkinJson groups ++ (opened_by ++ pieces_of (spans_of_group group))
  text_more groups before counts =
      let both = held_more groups group before.can_hold sound proper fine in
      let added : List (List ℕ) = map zspan_text (spans_of_group group) in
      added_text span_file refl groups group added
      (more_spans Z groups (group ∷ []) both ∙ ap (λ (l : List ZSpan). span_file.pieces groups ++ map zspan_text l) (append-nil (spans_of_group group)))
      ∙ ap (λ (l : List ℕ). partial_text forms.ZipkinJson groups ++ (l ++ pieces_added (is_some_piece (span_file.pieces groups)) added)) (sym (is_opening span_file tally.units groups (ap (λ (t : Tally). t.units) counts)))
      ∙ ap (λ (b : Bool). partial_text forms.ZipkinJson groups ++ (opened_by ++ pieces_added b added)) (is_behind groups before counts)

-- a bracket where no group stands before, and then the spans
module _ {W : Type 0} (Z : ZipkinNormalForms) (unit : NotedGroup) (sound : IsSoundGroup unit.means) (proper : IsProperGroup unit.means) (fine : HasNoZipkinFault unit.means) (tally : Tally) (writer later : W) where
  abbrev opens_by : List ℕ
  opens_by = opened_by Z unit.means sound proper fine tally

  abbrev added_of : List ZSpan → List ℕ
  added_of spans = pieces_of Z unit.means sound proper fine tally spans

  pub writes_spans : (before opened now : List ℕ) (spans : List ZSpan) → spans ≡ spans_of_group unit.means → opened ≡ before ++ opens_by → now ≡ opened ++ added_of spans
      → WritesUnit (form_target forms.ZipkinJson) StandsForAny unit tally writer later before now
  writes_spans before opened now spans are opens adds =
      writes_unit forms.ZipkinJson unit tally writer later before now (opens_by ++ added_of (spans_of_group unit.means)) sound proper fine tt
      (adds ∙ ap (λ (l : List ℕ). l ++ added_of spans) opens ∙ append_assoc before opens_by (added_of spans) ∙ ap (λ (l : List ZSpan). before ++ (opens_by ++ added_of l)) are)
      (text_more Z unit.means sound proper fine tally)

-- what closes the text was appended
pub closes_spans : {W : Type 0} (writer : W) (all : Tally) (before opened now : List ℕ) → opened ≡ before ++ (if nat_eq all.units 0 then codes "[" else []) → now ≡ opened ++ codes "]"
    → ClosesText (form_target forms.ZipkinJson) StandsForAny writer all before now
closes_spans writer all before opened now opens adds units counts stands =
    adds
    ∙ ap (λ (l : List ℕ). l ++ codes "]") opens
    ∙ append_assoc before (if nat_eq all.units 0 then codes "[" else []) (codes "]")
    ∙ ap (λ (l : List ℕ). before ++ l) (is_closing span_file all.units (groups_in units) (ap (λ (t : Tally). t.units) counts ∙ sym (as_many units)))
