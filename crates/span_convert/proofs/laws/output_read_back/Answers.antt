use Rattle.std.proofs.Common.{◌≡◌, ◌↔◌, ℕ, List, All, refl, sym, subst, ◌∙◌}
use Rattle.span_io.specs.declared.form.Form.{Form}
use Rattle.span_io.specs.declared.limits.Limits.{Limits}
use Rattle.trace_model.specs.declared.group.Group.{Group}
use Rattle.span_convert.specs.Canonical.{ConvertsToItself, Fits, IsHeldBy, Reads, ReadsPlainly}
use Rattle.span_convert.specs.Moves.{IsNormalTrace}
use Rattle.span_convert.specs.Targets.{form_target}
use Rattle.span_convert.specs.Units.{groups_in, input_form, IsSizedGroup, normal_form, canonical_text}
use Rattle.span_convert.specs.Verdicts.{IsGood}
use Rattle.span_convert.specs.declared.tally.Tally.{Tally}
use Rattle.span_convert.proofs.FitLaws.{whole_reads}
use Rattle.span_convert.proofs.FormTargets.{held_groups}
use Rattle.span_convert.proofs.MoveLaws.{converts_to}
use Rattle.span_convert.proofs.laws.output_read_back.Goals as goal

module _ (c : goal.After-kept) (from to : Form) (limits : Limits) (bytes text : List ℕ) (tally : Tally) where
  held : (h : IsGood (input_form from) (form_target to) limits bytes text tally) → All (IsSizedGroup to) (groups_in h.noted) → IsHeldBy to (groups_in h.noted)
  held h parts = record { can_hold = held_groups to h.noted h.held; sized = parts }

  read : (h : IsGood (input_form from) (form_target to) limits bytes text tally) → All (IsSizedGroup to) (groups_in h.noted) → ReadsPlainly to text (normal_form to (groups_in h.noted))
  read h parts = subst (λ (l : List ℕ). ReadsPlainly to l (normal_form to (groups_in h.noted))) (sym h.is_text) (c.text_read_back.ensures to (groups_in h.noted) (held h parts))

  only : (h : IsGood (input_form from) (form_target to) limits bytes text tally) → All (IsSizedGroup to) (groups_in h.noted) → (other : List Group) → IsHeldBy to other
      → (text ≡ canonical_text to other) ↔ (normal_form to (groups_in h.noted) ≡ normal_form to other)
  only h parts other is_held =
      let equal = c.equal_texts.ensures to (groups_in h.noted) other (held h parts) is_held in
      (λ e. equal.0 (sym h.is_text ∙ e), λ e. h.is_text ∙ equal.1 e)

  -- the trace that was read is left as it is by its form
  its_own : (h : IsGood (input_form from) (form_target to) limits bytes text tally) → IsNormalTrace from (groups_in h.noted)
  its_own h =
      let read : Reads from bytes (groups_in h.noted) = record { noted = h.noted; text = whole_reads from limits bytes h.noted h.whole; means = refl } in
      record {
        can_hold = record { sound = h.held.sound; proper = h.held.proper; no_fault = c.normal_forms.ensures.no_fault from bytes (groups_in h.noted) read };
        itself = c.normal_forms.ensures.read from bytes (groups_in h.noted) read;
      }

  -- and so is its normal form
  stays : (h : IsGood (input_form from) (form_target to) limits bytes text tally) → IsNormalTrace from (normal_form to (groups_in h.noted))
  stays h = c.there_and_back.ensures from to (groups_in h.noted) (its_own h) (held_groups to h.noted h.held)

pub returns-clause-read : goal.returns-clause-read
returns-clause-read c = λ from to limits bytes text tally h parts. read c from to limits bytes text tally h parts

pub returns-clause-again : goal.returns-clause-again
returns-clause-again c = λ from to limits bytes text tally valid h parts fits.
    subst (λ (l : List ℕ). ConvertsToItself to limits l (groups_in h.noted)) (sym h.is_text)
    (c.converts_to_itself.ensures to limits (groups_in h.noted) valid (held c from to limits bytes text tally h parts) (subst (λ (l : List ℕ). Fits to limits l) h.is_text fits))

pub returns-clause-back : goal.returns-clause-back
returns-clause-back c = λ from to limits bytes text tally valid h parts. record {
  tally = tally;
  is_good = h;
  plainly = read c from to limits bytes text tally h parts;
  only = only c from to limits bytes text tally h parts;
  again = returns-clause-again c from to limits bytes text tally valid h parts;
  home = λ fits. converts_to c.input_laws.ensures to from limits text (normal_form to (groups_in h.noted)) (stays c from to limits bytes text tally h).can_hold
      (read c from to limits bytes text tally h parts) fits;
  stays = stays c from to limits bytes text tally h;
  keeps = c.kept.ensures to (groups_in h.noted);
}
