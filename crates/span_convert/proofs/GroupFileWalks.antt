-- What is appended of a group in OTLP/JSON.
use Rattle.std.proofs.Common.{◌≡◌, ◌++◌, ◌∷◌, ℕ, nat_eq, nat_lt, Bool, if◌then◌else◌, List, [], length, codes, refl, ap, sym, ◌∙◌, arith, append_assoc, append-nil}
use Rattle.std.proofs.lemmas.Bool.{lt-ltb}
use Rattle.span_io.specs.declared.form.Form.TheVariants as forms
use Rattle.trace_model.specs.OtlpParts.{NotedGroup}
use Rattle.trace_model.specs.Proper.{IsProperGroup}
use Rattle.trace_model.specs.Soundness.{IsSoundGroup}
use Rattle.trace_model.specs.declared.group.Group.{Group}
use Rattle.otlp_json.specs.Canonical.{json_group_text}
use Rattle.span_convert.specs.Canonical.{IsHeldBy}
use Rattle.span_convert.specs.Documents.{pieces_added}
use Rattle.span_convert.specs.GroupFiles.{group_file}
use Rattle.span_convert.specs.Targets.{form_target}
use Rattle.span_convert.specs.Units.{groups_in, CanHold, partial_text, span_count}
use Rattle.span_convert.specs.Verdicts.{tally_of}
use Rattle.span_convert.specs.Pens.{StandsForAny}
use Rattle.span_convert.specs.private.WalkSteps.{ClosesText, WritesUnit}
use Rattle.span_convert.specs.declared.tally.Tally.{Tally}
use Rattle.span_convert.proofs.DocumentTexts.{added_text, is_some_piece}
use Rattle.span_convert.proofs.DocumentWalks.{is_opening, is_closing}
use Rattle.span_convert.proofs.FormTargets.{writes_unit}
use Rattle.span_convert.proofs.GroupFileTexts.{more_pieces}
use Rattle.span_convert.proofs.WalkLemmas.{as_many}

-- a comma stands before it where a group does
is_behind : (units : ℕ) (groups : List Group) → units ≡ length groups → is_some_piece (group_file.pieces groups) ≡ nat_lt 0 units
is_behind units [] is = ap (λ n. nat_lt 0 n) (sym is)
is_behind units (group ∷ groups) is = sym (lt-ltb 0 units (omega (arith, is)))

module _ (group : Group) (tally : Tally) where
  abbrev opened_by : List ℕ
  opened_by = if nat_eq tally.units 0 then codes "{\"resourceSpans\":[" else []

  abbrev comma : List ℕ
  comma = if nat_lt 0 tally.units then codes "," else []

  text_more : (groups : List Group) → IsHeldBy forms.OtlpJson groups → tally ≡ tally_of (length groups) (span_count groups)
      → partial_text forms.OtlpJson (groups ++ group ∷ []) ≡ partial_text forms.OtlpJson groups ++ (opened_by ++ (comma ++ json_group_text group))
  text_more groups before counts =
      let units : tally.units ≡ length groups = ap (λ (t : Tally). t.units) counts in
      added_text group_file refl groups group (json_group_text group ∷ []) (more_pieces groups (group ∷ []))
      ∙ ap (λ (l : List ℕ). partial_text forms.OtlpJson groups ++ (l ++ pieces_added (is_some_piece (group_file.pieces groups)) (json_group_text group ∷ [])))
      (sym (is_opening group_file tally.units groups units))
      ∙ ap (λ (b : Bool). partial_text forms.OtlpJson groups ++ (opened_by ++ pieces_added b (json_group_text group ∷ []))) (is_behind tally.units groups units)
      ∙ ap (λ (l : List ℕ). partial_text forms.OtlpJson groups ++ (opened_by ++ (comma ++ l))) (append-nil (json_group_text group))

-- what opens the text where no group stands before, a comma where one does, and then the group
module _ {W : Type 0} (unit : NotedGroup) (tally : Tally) (writer later : W) where
  pub writes_json_group : IsSoundGroup unit.means → IsProperGroup unit.means → CanHold forms.OtlpJson unit.means → (before opened parted now : List ℕ)
      → opened ≡ before ++ opened_by unit.means tally → parted ≡ opened ++ comma unit.means tally → now ≡ parted ++ json_group_text unit.means
      → WritesUnit (form_target forms.OtlpJson) StandsForAny unit tally writer later before now
  writes_json_group sound proper fine before opened parted now opens parts adds =
      writes_unit forms.OtlpJson unit tally writer later before now (opened_by unit.means tally ++ (comma unit.means tally ++ json_group_text unit.means)) sound proper fine tt
      (adds ∙ ap (λ (l : List ℕ). l ++ json_group_text unit.means) (parts ∙ ap (λ (l : List ℕ). l ++ comma unit.means tally) opens)
      ∙ append_assoc (before ++ opened_by unit.means tally) (comma unit.means tally) (json_group_text unit.means)
      ∙ append_assoc before (opened_by unit.means tally) (comma unit.means tally ++ json_group_text unit.means))
      (text_more unit.means tally)

-- what closes the text was appended
pub closes_file : {W : Type 0} (writer : W) (all : Tally) (before opened now : List ℕ) → opened ≡ before ++ (if nat_eq all.units 0 then codes "{\"resourceSpans\":[" else []) → now ≡ opened ++ codes "]}"
    → ClosesText (form_target forms.OtlpJson) StandsForAny writer all before now
closes_file writer all before opened now opens adds units counts stands =
    adds
    ∙ ap (λ (l : List ℕ). l ++ codes "]}") opens
    ∙ append_assoc before (if nat_eq all.units 0 then codes "{\"resourceSpans\":[" else []) (codes "]}")
    ∙ ap (λ (l : List ℕ). before ++ l) (is_closing group_file all.units (groups_in units) (ap (λ (t : Tally). t.units) counts ∙ sym (as_many units)))
