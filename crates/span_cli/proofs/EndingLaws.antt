-- Each way for a run to end, whatever the command.
use Rattle.std.proofs.Common.{◌≡◌, ◌≢◌, ◌<◌, ◌⊎◌, ℕ, List, [], Option, Some, None, refl, sym, ap, subst, ◌++◌, ◌∙◌, inl, inr, arith, append-nil}
use Rattle.std.specs.Prelude.{IfSome, IsTrue}
use Rattle.std.specs.Io.KnownBytes.{Appends, Consumes}
use Rattle.span_io.specs.Outside.{Inlet, Outlet, Sure, so_many, any_number, less, Gains, GainsFront, Rises, InputFails, NoReadInVain, NoWriteInVain, OutputFails, OutputHolds, FailsWithin}
use Rattle.span_io.specs.declared.course.ReadCourse.TheVariants as reads
use Rattle.span_io.specs.declared.course.WriteCourse.TheVariants as writes
use Rattle.span_convert.specs.Outlooks.{SinkTold}
use Rattle.span_cli.specs.Inputs.{ReadsInput, IsReadThrough}
use Rattle.span_cli.specs.Jobs.{Job, MayFault}
use Rattle.span_cli.specs.Lines.{Stage, said, input_failed, output_failed, no_memory, IsRunStatus, Notes, stage_line, stage_of}
use Rattle.span_cli.specs.private.LineWords.{status_of, ending_line}
use Rattle.span_cli.specs.Outcomes.{Outcome, CarriesOut, IsOutcome, OnOutcome, IsJudgedAt}
use Rattle.span_cli.specs.private.RunSteps.{EndsInput, WritesAllOf, EndsRun}
use Rattle.span_cli.specs.Runs.{WritesRead, WritesSoFar}
use Rattle.span_cli.specs.declared.ending.Ending.{Ending}
use Rattle.span_cli.specs.declared.ending.Ending.TheVariants as endings

-- ---- statuses

pub unlike : (m n : ℕ) → (m < n) ⊎ (n < m) → m ≢ n
unlike m n (inl less) e = absurd (omega arith)
unlike m n (inr more) e = absurd (omega arith)

pub never_usage : (ending : Ending) → status_of ending ≢ 2
never_usage endings.Whole = unlike 0 2 (inl (omega arith))
never_usage (endings.Refused refusal) = unlike 3 2 (inr (omega arith))
never_usage (endings.Faulted noted) = unlike 4 2 (inr (omega arith))
never_usage (endings.BadHeaders cause) = unlike 3 2 (inr (omega arith))
never_usage endings.TooLong = unlike 3 2 (inr (omega arith))
never_usage endings.NoIds = unlike 4 2 (inr (omega arith))
never_usage endings.InputFailed = unlike 5 2 (inr (omega arith))
never_usage endings.OutputFailed = unlike 6 2 (inr (omega arith))
never_usage endings.NoMemory = unlike 7 2 (inr (omega arith))

pub is_status : (ending : Ending) → IsRunStatus (status_of ending)
is_status endings.Whole = refl
is_status (endings.Refused refusal) = refl
is_status (endings.Faulted noted) = refl
is_status (endings.BadHeaders cause) = refl
is_status endings.TooLong = refl
is_status endings.NoIds = refl
is_status endings.InputFailed = refl
is_status endings.OutputFailed = refl
is_status endings.NoMemory = refl

-- the line of each status but 3 and 4 is that of its stage
pub stage_noted : (ending : Ending) → status_of ending ≢ 3 → status_of ending ≢ 4 → ending_line ending ≡ stage_line (stage_of (status_of ending))
stage_noted endings.Whole third fourth = refl
stage_noted (endings.Refused refusal) third fourth = absurd (third refl)
stage_noted (endings.Faulted noted) third fourth = absurd (fourth refl)
stage_noted (endings.BadHeaders cause) third fourth = absurd (third refl)
stage_noted endings.TooLong third fourth = absurd (third refl)
stage_noted endings.NoIds third fourth = absurd (fourth refl)
stage_noted endings.InputFailed third fourth = refl
stage_noted endings.OutputFailed third fourth = refl
stage_noted endings.NoMemory third fourth = refl

-- ---- what is told

pub always : {A : Type 0} (told : Option A) (P : A → Type 0) → ((x : A) → P x) → IfSome told P
always None P holds = tt
always (Some x) P holds = holds x

pub on_outcome : (job : Job) (left : Option (List ℕ)) (P Q : Outcome → Type 0) → ((outcome : Outcome) → P outcome → Q outcome) → OnOutcome job left P → OnOutcome job left Q
on_outcome job None P Q holds p = tt
on_outcome job (Some bytes) P Q holds p = λ outcome is. holds outcome (p outcome is)

-- ---- a sink that took nothing

appends_nothing : (held : Option (List ℕ)) → Appends held held []
appends_nothing None = tt
appends_nothing (Some bytes) = sym (append-nil bytes)

rises_nothing : (taken : Option ℕ) → Rises taken taken 0
rises_nothing None = tt
rises_nothing (Some n) = omega arith

sure_nothing : (sure : Sure) → sure ≡ less sure 0
sure_nothing (so_many most) = ap so_many (omega arith)
sure_nothing any_number = refl

pub gains_nothing : (now : Outlet) → Gains now now []
gains_nothing now = record { held = appends_nothing now.held; taken = rises_nothing now.taken; sure = sure_nothing now.sure; faults = omega arith }

pub front_nothing : (now : Outlet) (bytes : List ℕ) → GainsFront now now bytes
front_nothing now bytes = record { front = []; is_front = (bytes, refl); gains = gains_nothing now }

pub holds_nothing : (now : Outlet) → OutputHolds now now
holds_nothing now = record { quiet = refl; sure = λ any. any; goes = λ going. going }

-- ---- calls in vain

pub untouched_in_vain : (now : Inlet) → NoReadInVain now now
untouched_in_vain now going vain = let e : ◌≡◌ {A = Option _} (Some reads.Going) (Some reads.InVain) = sym going ∙ vain in absurd (cc)

holds_in_vain : (before now : Outlet) → OutputHolds before now → NoWriteInVain before now
holds_in_vain before now holds going vain = let e : ◌≡◌ {A = Option _} (Some writes.Going) (Some writes.InVain) = sym (holds.goes going) ∙ vain in absurd (cc)

pub untouched_output_in_vain : (now : Outlet) → NoWriteInVain now now
untouched_output_in_vain now = holds_in_vain now now (holds_nothing now)

stopped_in_vain : (before now : Outlet) (byte : ℕ) → now.course ≡ Some (writes.Stopped byte) → now.course ≢ Some writes.InVain
stopped_in_vain before now byte stopped vain = let e : ◌≡◌ {A = Option _} (Some (writes.Stopped byte)) (Some writes.InVain) = sym stopped ∙ vain in absurd (cc)

fails_in_vain : (before now : Outlet) → OutputFails before now → NoWriteInVain before now
fails_in_vain before now fails going vain = let at = fails.stops going in stopped_in_vain before now at.0 at.1 vain

pub notes_in_vain : (before now : Outlet) (line : List ℕ) → Notes before now line → NoWriteInVain before now
notes_in_vain before now line (inl whole) = holds_in_vain before now whole.1
notes_in_vain before now line (inr at) = λ going vain. stopped_in_vain before now at.byte (at.stops going) vain

-- where the input told its bytes and was read to its end, they are those that it gave
pub all_told : (left now : Option (List ℕ)) (given : List ℕ) (P : List ℕ → Type 0) → Consumes left now given → IfSome left (λ bytes. now ≡ Some []) → P given → IfSome left P
all_told None now given P gave told holds = tt
all_told (Some bytes) None given P gave told holds = absurd gave
all_told (Some bytes) (Some rest) given P gave told holds =
    let none : rest ≡ [] = cc in
    subst P (sym (gave ∙ ap (λ (l : List ℕ). given ++ l) none ∙ append-nil given)) holds

module _ {K : Type 0} (outlet : K → Outlet) (job : Job) (before now : Inlet) (old new : K) where
  -- whatever stopped the run
  pub record RunCourse : Type 0 where
    pub reads : ReadsInput job before now
    pub in_vain : NoReadInVain before now
    pub front : WritesRead job before now (outlet old) (outlet new)

  -- the input had no fault
  input_quiet : (status : ℕ) → status ≢ 5 → (status ≡ 0 → IsReadThrough job before now) → now.faults ≡ before.faults → RunCourse → EndsInput job status before now
  input_quiet status other all quiet course = record {
    fails = λ e. absurd (other e);
    quiet = λ e. quiet;
    answers = λ steady. other;
    in_vain = course.in_vain;
    reads = course.reads;
    all_read = all;
  }

  -- and it wasn't read to its end
  input_left : (status : ℕ) → status ≢ 5 → status ≢ 0 → now.faults ≡ before.faults → RunCourse → EndsInput job status before now
  input_left status other some quiet course = input_quiet status other (λ e. absurd (some e)) quiet course

  output_holds : (status : ℕ) → status ≢ 6 → OutputHolds (outlet old) (outlet new) → SinkTold (status ≡ 6) (outlet old) (outlet new)
  output_holds status other holds = record { fails = λ e. absurd (other e); holds = λ e. holds }

  held_same : new ≡ old → OutputHolds (outlet old) (outlet new)
  held_same same = subst (λ (k : K). OutputHolds (outlet old) (outlet k)) (sym same) (holds_nothing (outlet old))

  same_front : new ≡ old → OnOutcome job before.left (λ o. GainsFront (outlet old) (outlet new) o.text)
  same_front same = always before.left (λ bytes. (o : Outcome) → IsOutcome job bytes o → GainsFront (outlet old) (outlet new) o.text)
      (λ bytes o is. subst (λ (k : K). GainsFront (outlet old) (outlet k) o.text) (sym same) (front_nothing (outlet old) o.text))

  -- ---- each ending

  -- what the ending did of an outcome
  abbrev pub Carries : Ending → Outcome → Type 0
  Carries ending = CarriesOut (status_of ending) (outlet old) (outlet new) (λ line. ending_line ending ≡ line)

  pub ends_input_failed : RunCourse → InputFails before now → (IsTrue before.steady → ⊥) → OutputHolds (outlet old) (outlet new) → WritesSoFar outlet job before now old new
      → OnOutcome job before.left (λ o. GainsFront (outlet old) (outlet new) o.text) → EndsRun outlet job endings.InputFailed before now old new
  ends_input_failed course fails unsteady holds so_far gains = record {
    input = record {
      fails = λ e. fails;
      quiet = λ other. absurd (other refl);
      answers = λ steady. absurd (unsteady steady);
      in_vain = course.in_vain;
      reads = course.reads;
      all_read = λ e. absurd (unlike 5 0 (inr (omega arith)) e);
    };
    output = output_holds 5 (unlike 5 6 (inl (omega arith))) holds;
    faults = λ e. absurd (unlike 5 4 (inr (omega arith)) e);
    so_far = λ e. so_far;
    front = course.front;
    judged = always before.left (λ bytes. IsJudgedAt job input_failed bytes) (λ bytes. tt);
    carried = on_outcome job before.left _ (Carries endings.InputFailed) (λ o front. record { agrees = tt; writes = front; notes = refl }) gains;
    whole = λ e. absurd (unlike 5 0 (inr (omega arith)) e);
  }

  -- before anything was written
  pub ends_input_unwritten : RunCourse → InputFails before now → (IsTrue before.steady → ⊥) → new ≡ old → WritesSoFar outlet job before now old new → EndsRun outlet job endings.InputFailed before now old new
  ends_input_unwritten course fails unsteady same so_far = ends_input_failed course fails unsteady (held_same same) so_far (same_front same)

  pub wants : RunCourse → now.faults ≡ before.faults → OutputHolds (outlet old) (outlet new) → OnOutcome job before.left (λ o. GainsFront (outlet old) (outlet new) o.text) → EndsRun outlet job endings.NoMemory before now old new
  wants course still holds gains = record {
    input = input_left 7 (unlike 7 5 (inr (omega arith))) (unlike 7 0 (inr (omega arith))) still course;
    output = output_holds 7 (unlike 7 6 (inr (omega arith))) holds;
    faults = λ e. absurd (unlike 7 4 (inr (omega arith)) e);
    so_far = λ e. absurd (unlike 7 5 (inr (omega arith)) e);
    front = course.front;
    judged = always before.left (λ bytes. IsJudgedAt job no_memory bytes) (λ bytes. tt);
    carried = on_outcome job before.left _ (Carries endings.NoMemory) (λ o front. record { agrees = tt; writes = front; notes = refl }) gains;
    whole = λ e. absurd (unlike 7 0 (inr (omega arith)) e);
  }

  pub ends_no_memory : RunCourse → now.faults ≡ before.faults → new ≡ old → EndsRun outlet job endings.NoMemory before now old new
  ends_no_memory course still same = wants course still (held_same same) (same_front same)

  pub ends_output_failed : RunCourse → now.faults ≡ before.faults → OutputFails (outlet old) (outlet new) → OnOutcome job before.left (λ o. FailsWithin (outlet old) (outlet new) o.text) → EndsRun outlet job endings.OutputFailed before now old new
  ends_output_failed course still fails within = record {
    input = input_left 6 (unlike 6 5 (inr (omega arith))) (unlike 6 0 (inr (omega arith))) still course;
    output = record {
      fails = λ e. fails;
      holds = λ other. absurd (other refl);
    };
    faults = λ e. absurd (unlike 6 4 (inr (omega arith)) e);
    so_far = λ e. absurd (unlike 6 5 (inr (omega arith)) e);
    front = course.front;
    judged = always before.left (λ bytes. IsJudgedAt job output_failed bytes) (λ bytes. tt);
    carried = on_outcome job before.left _ (Carries endings.OutputFailed) (λ o fails. record { agrees = tt; writes = fails; notes = refl }) within;
    whole = λ e. absurd (unlike 6 0 (inr (omega arith)) e);
  }

  pub ends_said : (ending : Ending) → stage_of (status_of ending) ≡ said → status_of ending ≢ 5 → status_of ending ≢ 6 → (status_of ending ≡ 4 → MayFault job)
      → (status_of ending ≡ 0 → IsReadThrough job before now)
      → (status_of ending ≡ 0 → IfSome before.left (WritesAllOf job (outlet old) (outlet new))) → RunCourse → now.faults ≡ before.faults
      → OutputHolds (outlet old) (outlet new) → IfSome before.left (IsJudgedAt job said) → OnOutcome job before.left (Carries ending) → EndsRun outlet job ending before now old new
  ends_said ending stage fifth sixth faults all whole course still holds judged on = record {
    input = input_quiet (status_of ending) fifth all still course;
    output = output_holds (status_of ending) sixth holds;
    faults = faults;
    so_far = λ e. absurd (fifth e);
    front = course.front;
    judged = subst (λ (s : Stage). IfSome before.left (IsJudgedAt job s)) (sym stage) judged;
    carried = on;
    whole = whole;
  }

-- whatever the ending, no write was in vain
pub output_in_vain : {K : Type 0} (outlet : K → Outlet) (ending : Ending) (old new : K) → SinkTold (status_of ending ≡ 6) (outlet old) (outlet new) → NoWriteInVain (outlet old) (outlet new)
output_in_vain outlet endings.Whole old new output = holds_in_vain (outlet old) (outlet new) (output.holds (unlike 0 6 (inl (omega arith))))
output_in_vain outlet (endings.Refused refusal) old new output = holds_in_vain (outlet old) (outlet new) (output.holds (unlike 3 6 (inl (omega arith))))
output_in_vain outlet (endings.Faulted noted) old new output = holds_in_vain (outlet old) (outlet new) (output.holds (unlike 4 6 (inl (omega arith))))
output_in_vain outlet (endings.BadHeaders cause) old new output = holds_in_vain (outlet old) (outlet new) (output.holds (unlike 3 6 (inl (omega arith))))
output_in_vain outlet endings.TooLong old new output = holds_in_vain (outlet old) (outlet new) (output.holds (unlike 3 6 (inl (omega arith))))
output_in_vain outlet endings.NoIds old new output = holds_in_vain (outlet old) (outlet new) (output.holds (unlike 4 6 (inl (omega arith))))
output_in_vain outlet endings.InputFailed old new output = holds_in_vain (outlet old) (outlet new) (output.holds (unlike 5 6 (inl (omega arith))))
output_in_vain outlet endings.OutputFailed old new output = fails_in_vain (outlet old) (outlet new) (output.fails refl)
output_in_vain outlet endings.NoMemory old new output = holds_in_vain (outlet old) (outlet new) (output.holds (unlike 7 6 (inr (omega arith))))
