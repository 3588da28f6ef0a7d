-- Each report as a target of units, and what its writer adds.
use Rattle.std.proofs.Common.{◌≡◌, ◌++◌, ◌∷◌, ◌+◌, ℕ, suc, min, List, [], length, take, get_or, ◌<◌, inl, refl, ap, sym, ◌∙◌, arith, append_assoc, append-nil, length-append}
use Rattle.std.proofs.lemmas.Grind.{flat_map-append}
use Rattle.std.proofs.lemmas.List.{take_more}
use Rattle.std.specs.List.{flat_map}
use Rattle.span_io.specs.Outside.{last_count}
use Rattle.span_io.specs.declared.form.Form.{Form}
use Rattle.span_io.proofs.TableLaws.{flat_more}
use Rattle.trace_model.specs.OtlpParts.{NotedGroup}
use Rattle.trace_model.specs.Proper.{IsProperGroup}
use Rattle.trace_model.specs.Soundness.{IsSoundGroup}
use Rattle.loss_report.specs.Lines.{counts_text}
use Rattle.span_convert.specs.Reports.{check_end, group_shown, remark_count, report_target, unit_checked, units_checked, units_shown, written_target}
use Rattle.span_convert.specs.private.TargetSteps.{TargetLaws}
use Rattle.span_convert.specs.Targets.{form_target}
use Rattle.span_convert.specs.Verdicts.{units_tally}
use Rattle.span_convert.specs.Pens.{StandsForAny}
use Rattle.span_convert.specs.private.WalkSteps.{WritesUnit}
use Rattle.span_convert.specs.declared.report.Report.{Report}
use Rattle.span_convert.specs.declared.report.Report.TheVariants as reports
use Rattle.span_convert.specs.declared.tally.Tally.{Tally}
use Rattle.span_convert.specs.declared.written.Written.{Written}
use Rattle.span_convert.specs.declared.written.Written.TheVariants as written
use Rattle.span_convert.proofs.LossTargets.{loss_laws}
use Rattle.span_convert.proofs.WalkLemmas.{held_one}

-- ---- texts that grow

-- a list's texts one by one, as a loop appends them
pub flat_start : {A : Type 0} (text : A → List ℕ) (out : List ℕ) (xs : List A) → out ≡ out ++ flat_map text (take 0 xs)
flat_start text out xs = sym (append-nil out)

pub flat_next : {A : Type 0} (text : A → List ℕ) (first before now : List ℕ) (xs : List A) (i : ℕ) (x : A) → i < length xs → x ≡ get_or xs i x
    → before ≡ first ++ flat_map text (take i xs) → now ≡ before ++ text x → now ≡ first ++ flat_map text (take (i + 1) xs)
flat_next {A} text first before now xs i x lt is so_far more =
    more
    ∙ ap (λ (l : List ℕ). l ++ text x) so_far
    ∙ append_assoc first (flat_map text (take i xs)) (text x)
    ∙ ap (λ (l : List ℕ). first ++ l) (sym (ap (λ (l : List A). flat_map text l) (take_more xs i x lt ∙ ap (λ (y : A). take i xs ++ y ∷ []) (sym is)) ∙ flat_more text (take i xs) x))

-- the remarks on more units
checked_append : (number : ℕ) (a b : List NotedGroup) → units_checked number (a ++ b) ≡ units_checked number a ++ units_checked (number + length a) b
checked_append number [] b = ap (λ n. units_checked n b) (omega arith)
checked_append number (unit ∷ a) b =
    ap (λ (l : List ℕ). unit_checked number unit.notes ++ l) (checked_append (suc number) a b)
    ∙ sym (append_assoc (unit_checked number unit.notes) (units_checked (suc number) a) (units_checked (suc number + length a) b))
    ∙ ap (λ n. (unit_checked number unit.notes ++ units_checked (suc number) a) ++ units_checked n b) (omega arith)

checked_more : (units : List NotedGroup) (unit : NotedGroup) (number : ℕ) → number ≡ length units + 1 → units_checked 1 (units ++ unit ∷ []) ≡ units_checked 1 units ++ unit_checked number unit.notes
checked_more units unit number is =
    checked_append 1 units (unit ∷ [])
    ∙ ap (λ (l : List ℕ). units_checked 1 units ++ l) (append-nil (unit_checked (1 + length units) unit.notes) ∙ ap (λ n. unit_checked n unit.notes) (omega (arith, is)))

counted_more : (units : List NotedGroup) (unit : NotedGroup) → remark_count (units ++ unit ∷ []) ≡ remark_count units + length unit.notes
counted_more units unit = ap length (flat_more (λ (x : NotedGroup). x.notes) units unit) ∙ length-append (flat_map (λ (x : NotedGroup). x.notes) units) unit.notes

-- ---- laws

pub report_laws : ((to : Form) → TargetLaws (form_target to)) → (what : Report) → TargetLaws (report_target what)
report_laws forms (reports.Losses to) = loss_laws to (forms to)
report_laws forms reports.Show = record {
  fault_or_none = λ unit sound. inl tt;
  fault_once = λ unit a b has other. absurd has;
  no_fault = λ unit fault has can. has;
  none = refl;
  front = λ a b held. (units_shown b, flat_map-append (λ (unit : NotedGroup). group_shown unit.means) a b);
  closed = λ units. sym (append-nil (units_shown units));
}
report_laws forms reports.Check = record {
  fault_or_none = λ unit sound. inl tt;
  fault_once = λ unit a b has other. absurd has;
  no_fault = λ unit fault has can. has;
  none = refl;
  front = λ a b held. (units_checked (1 + length a) b, checked_append 1 a b);
  closed = λ units. refl;
}

pub written_laws : ((to : Form) → TargetLaws (form_target to)) → (what : Written) → TargetLaws (written_target what)
written_laws forms (written.Form to) = forms to
written_laws forms (written.Report what) = report_laws forms what

-- ---- what writers add

-- the lines of a group
pub shows_unit : {W : Type 0} (unit : NotedGroup) (tally : Tally) (writer later : W) (before now : List ℕ) → IsSoundGroup unit.means → IsProperGroup unit.means → now ≡ before ++ group_shown unit.means
    → WritesUnit (report_target reports.Show) StandsForAny unit tally writer later before now
shows_unit unit tally writer later before now sound proper appended = record {
  held = held_one (report_target reports.Show) unit sound proper tt tt;
  added = group_shown unit.means;
  appended = appended;
  adds = λ units held counts stands. (flat_more (λ (x : NotedGroup). group_shown x.means) units unit, tt);
}

module _ {W : Type 0} (remarks : W → ℕ) where
  -- the writer counted so many remarks
  abbrev Counted : W → List NotedGroup → Type 0
  Counted writer units = remarks writer ≡ min (remark_count units) last_count

  -- the lines of remarks on a unit
  pub checks_unit : (unit : NotedGroup) (tally : Tally) (writer later : W) (number : ℕ) (before now : List ℕ) → IsSoundGroup unit.means → IsProperGroup unit.means → number ≡ tally.units + 1
      → now ≡ before ++ unit_checked number unit.notes → remarks later ≡ min (remarks writer + length unit.notes) last_count → WritesUnit (report_target reports.Check) Counted unit tally writer later before now
  checks_unit unit tally writer later number before now sound proper is appended more = record {
    held = held_one (report_target reports.Check) unit sound proper tt tt;
    added = unit_checked number unit.notes;
    appended = appended;
    adds = λ units held counts stands. (
      checked_more units unit number (is ∙ ap (λ (t : Tally). t.units + 1) counts),
      (let all = counted_more units unit in omega (arith, all, more, stands)),
    );
  }

-- the last line
pub checks_end : (remarked : ℕ) (all : Tally) (units : List NotedGroup) (before now : List ℕ) → all ≡ units_tally units → remarked ≡ min (remark_count units) last_count
    → now ≡ before ++ counts_text all.units all.spans remarked → now ≡ before ++ check_end units
checks_end remarked all units before now counts is adds =
    adds ∙ ap (λ (t : Tally). before ++ counts_text t.units t.spans remarked) counts ∙ ap (λ n. before ++ counts_text (units_tally units).units (units_tally units).spans n) is
