-- The losses of a move to a form as a target of units, and what their writer adds.
use Rattle.std.proofs.Common.{◌≡◌, ◌++◌, ◌∷◌, ◌+◌, ℕ, suc, min, List, [], length, Option, None, refl, ap, sym, subst, ◌∙◌, arith, append_assoc, append-nil, length-append}
use Rattle.span_io.specs.Outside.{last_count}
use Rattle.span_io.specs.declared.form.Form.{Form}
use Rattle.trace_model.specs.OtlpParts.{NotedGroup}
use Rattle.trace_model.specs.Proper.{IsProperGroup}
use Rattle.trace_model.specs.Soundness.{IsSoundGroup}
use Rattle.trace_model.specs.declared.loss.Loss.{Loss}
use Rattle.trace_model.specs.declared.group.Group.{Group}
use Rattle.loss_report.specs.Lines.{loss_count_text}
use Rattle.map_zipkin.specs.Losses as zipkin
use Rattle.map_zipkin.specs.declared.run.Run.{Run}
use Rattle.span_convert.specs.Reports.{all_losses, last_run_in, loss_count, losses_end, form_losses, report_target, runs_behind, unit_lost, units_lost}
use Rattle.span_convert.specs.private.TargetSteps.{TargetLaws}
use Rattle.span_convert.specs.Targets.{form_target}
use Rattle.span_convert.specs.Units.{groups_in, CanHold}
use Rattle.span_convert.specs.private.WalkSteps.{WritesUnit}
use Rattle.span_convert.specs.declared.report.Report.TheVariants as reports
use Rattle.span_convert.specs.declared.tally.Tally.{Tally}
use Rattle.span_convert.proofs.WalkLemmas.{groups_push, held_one}

-- ---- texts that grow

-- the losses of more units, each behind the run of the last span before it
lost_append : (to : Form) (number : ℕ) (before : Option Run) (a b : List NotedGroup)
    → units_lost to number before (a ++ b) ≡ units_lost to number before a ++ units_lost to (number + length a) (runs_behind before (groups_in a)) b
lost_append to number before [] b = ap (λ n. units_lost to n before b) (omega arith)
lost_append to number before (unit ∷ a) b =
    let lines = unit_lost number (form_losses to before unit.means) in
    let next = zipkin.run_behind before unit.means in
    let behind = runs_behind next (groups_in a) in
    ap (λ (l : List ℕ). lines ++ l) (lost_append to (suc number) next a b)
    ∙ sym (append_assoc lines (units_lost to (suc number) next a) (units_lost to (suc number + length a) behind b))
    ∙ ap (λ n. (lines ++ units_lost to (suc number) next a) ++ units_lost to n behind b) (omega arith)

lost_more : (to : Form) (units : List NotedGroup) (unit : NotedGroup) (number : ℕ) → number ≡ length units + 1
    → units_lost to 1 None (units ++ unit ∷ []) ≡ units_lost to 1 None units ++ unit_lost number (form_losses to (last_run_in (groups_in units)) unit.means)
lost_more to units unit number is =
    let losses = form_losses to (last_run_in (groups_in units)) unit.means in
    lost_append to 1 None units (unit ∷ [])
    ∙ ap (λ (l : List ℕ). units_lost to 1 None units ++ l) (append-nil (unit_lost (1 + length units) losses) ∙ ap (λ n. unit_lost n losses) (omega (arith, is)))

all_append : (to : Form) (before : Option Run) (a b : List Group) → all_losses to before (a ++ b) ≡ all_losses to before a ++ all_losses to (runs_behind before a) b
all_append to before [] b = refl
all_append to before (group ∷ a) b =
    let next = zipkin.run_behind before group in
    ap (λ (l : List Loss). form_losses to before group ++ l) (all_append to next a b)
    ∙ sym (append_assoc (form_losses to before group) (all_losses to next a) (all_losses to (runs_behind next a) b))

counted_more : (to : Form) (units : List NotedGroup) (unit : NotedGroup)
    → loss_count to (units ++ unit ∷ []) ≡ loss_count to units + length (form_losses to (last_run_in (groups_in units)) unit.means)
counted_more to units unit =
    let losses = form_losses to (last_run_in (groups_in units)) unit.means in
    ap (λ (l : List Group). length (all_losses to None l)) (groups_push units unit)
    ∙ ap length (all_append to None (groups_in units) (unit.means ∷ []) ∙ ap (λ (l : List Loss). all_losses to None (groups_in units) ++ l) (append-nil losses))
    ∙ length-append (all_losses to None (groups_in units)) losses

-- one group more is behind them
last_push : (before : Option Run) (groups : List Group) (group : Group) → runs_behind before (groups ++ group ∷ []) ≡ zipkin.run_behind (runs_behind before groups) group
last_push before [] group = refl
last_push before (first ∷ groups) group = last_push (zipkin.run_behind before first) groups group

pub stands_behind : (groups : List Group) (group : Group) (before now : Option Run) → now ≡ zipkin.run_behind before group → before ≡ last_run_in groups → now ≡ last_run_in (groups ++ group ∷ [])
stands_behind groups group before now is was = is ∙ ap (λ (run : Option Run). zipkin.run_behind run group) was ∙ sym (last_push None groups group)

-- ---- laws

-- what the form keeps as a target of groups, its losses keep as well
pub loss_laws : (to : Form) → TargetLaws (form_target to) → TargetLaws (report_target (reports.Losses to))
loss_laws to laws = record {
  fault_or_none = λ unit sound. laws.fault_or_none unit sound;
  fault_once = λ unit a b has other. laws.fault_once unit a b has other;
  no_fault = λ unit fault has can. laws.no_fault unit fault has can;
  none = refl;
  front = λ a b held. (units_lost to (1 + length a) (last_run_in (groups_in a)) b, lost_append to 1 None a b);
  closed = λ units. refl;
}

-- ---- what their writer adds

module _ {W : Type 0} (to : Form) (count : W → ℕ) (Behind : W → List Group → Type 0) where
  -- the writer counted so many losses, and stands behind these units
  abbrev Lost : W → List NotedGroup → Type 0
  Lost writer units = (count writer ≡ min (loss_count to units) last_count) × Behind writer (groups_in units)

  -- the lines of the losses of a unit
  pub loses_unit : (unit : NotedGroup) (tally : Tally) (writer later : W) (number : ℕ) (losses : List Loss) (before now : List ℕ)
      → IsSoundGroup unit.means → IsProperGroup unit.means → CanHold to unit.means → number ≡ tally.units + 1
      → ((groups : List Group) → Behind writer groups → losses ≡ form_losses to (last_run_in groups) unit.means)
      → ((groups : List Group) → Behind writer groups → Behind later (groups ++ unit.means ∷ []))
      → now ≡ before ++ unit_lost number losses → count later ≡ min (count writer + length losses) last_count
      → WritesUnit (report_target (reports.Losses to)) Lost unit tally writer later before now
  loses_unit unit tally writer later number losses before now sound proper fine is found behind appended more = record {
    held = held_one (report_target (reports.Losses to)) unit sound proper fine tt;
    added = unit_lost number losses;
    appended = appended;
    adds = λ units held counts stands.
        let here = found (groups_in units) stands.1 in (
          lost_more to units unit number (is ∙ ap (λ (t : Tally). t.units + 1) counts) ∙ ap (λ (l : List Loss). units_lost to 1 None units ++ unit_lost number l) (sym here),
          (
            (let all = counted_more to units unit ∙ ap (λ (l : List Loss). loss_count to units + length l) (sym here) in let had = stands.0 in omega (arith, all, more, had)),
            subst (λ (l : List Group). Behind later l) (sym (groups_push units unit)) (behind (groups_in units) stands.1),
          ),
        );
  }

-- the last line
pub loses_end : (to : Form) (count : ℕ) (units : List NotedGroup) (before now : List ℕ) → count ≡ min (loss_count to units) last_count
    → now ≡ before ++ loss_count_text count → now ≡ before ++ losses_end to units
loses_end to count units before now is adds = adds ∙ ap (λ n. before ++ loss_count_text n) is
