-- Each way for a conversion or a report to end.
use Rattle.std.proofs.Common.{◌≡◌, ◌⊎◌, ℕ, Bool, List, [], Option, Some, None, Ok, Err, refl, sym, subst, inl, inr, arith, append-nil}
use Rattle.std.specs.Io.KnownBytes.{Keeps}
use Rattle.std.specs.Prelude.{IfSome, IsTrue, Result}
use Rattle.span_io.specs.Frames.{AreBytes}
use Rattle.span_io.specs.Limits.{shipped_limits}
use Rattle.span_io.specs.Outside.{Inlet, Outlet, Gains, GainsFront, GainLaws, InputFails, IsFront, NoReadInVain, OutputHolds, FailsWithin, Rose}
use Rattle.span_io.specs.declared.form.Form.{Form}
use Rattle.span_io.specs.declared.limits.Limits.{Limits}
use Rattle.span_io.specs.declared.refusal.Refusal.{Refusal}
use Rattle.trace_model.specs.OtlpParts.{NotedGroup}
use Rattle.trace_model.specs.declared.fault.Fault.{Fault}
use Rattle.span_convert.specs.Converters.{Feeds, Finishes, KeepsWhy, stop_in, refusal_in, fault_in}
use Rattle.span_convert.specs.Outlooks.{IfDocument, IsOutlookAs, EndsFrom, SinkTold, StopsFrom, WritesFrontFrom}
use Rattle.span_convert.specs.Reports.{IsVerdictAs, IsJudgedAs, written_target}
use Rattle.span_convert.specs.Targets.{Target, open_target}
use Rattle.span_convert.specs.Units.{InputForm, input_form, open_form}
use Rattle.span_convert.specs.Verdicts.{Verdict, good, refused, faulted, IsFaulted, IsVerdictOn, verdict_text}
use Rattle.span_convert.specs.declared.walker.State.{State}
use Rattle.span_convert.specs.declared.walker.State.TheVariants as states
use Rattle.span_convert.specs.declared.walker.Walker.{Walker}
use Rattle.span_convert.specs.declared.stop.Stop.{Stop}
use Rattle.span_convert.specs.declared.stop.Stop.TheVariants as stops
use Rattle.span_convert.specs.declared.tally.Tally.{Tally}
use Rattle.span_convert.specs.declared.target_fault.TargetFault.{TargetFault}
use Rattle.span_convert.specs.declared.report.Report.TheVariants as reports
use Rattle.span_convert.specs.declared.written.Written.{Written}
use Rattle.span_convert.specs.declared.written.Written.TheVariants as kinds
use Rattle.span_cli.specs.Inputs.{GaveInput, ReadsInput, IsAllRead}
use Rattle.span_cli.specs.private.ReadBlocks.{shipped}
use Rattle.span_cli.specs.Jobs.{HasFaults, Spans}
use Rattle.span_cli.specs.Lines.{said, fault_line}
use Rattle.span_cli.specs.private.LineWords.{noted_line}
use Rattle.span_cli.specs.Outcomes.{Outcome, OnOutcome, IsJudgedAt, verdict_outcome}
use Rattle.span_cli.specs.private.RunSteps.{IsEndingAt, IsEndingOf, EndsRun, WritesAllUnits}
use Rattle.span_cli.specs.Runs.{WritesWholeUnits}
use Rattle.span_cli.specs.declared.ending.Ending.{Ending}
use Rattle.span_cli.specs.declared.ending.Ending.TheVariants as endings
use Rattle.span_cli.specs.declared.noted_fault.NotedFault.{NotedFault}
use Rattle.span_cli.proofs.EndingLaws.{RunCourse, Carries, all_told, ends_input_failed, ends_output_failed, ends_said, unlike, wants}
use Rattle.span_cli.proofs.InputLemmas.{Feeding, gave_kept}
use Rattle.span_cli.proofs.WrittenSoFar.{Begins, Lasts, OneVerdict, SomeOutlook, failed, fronted, front_of_units, gained, gains_on, judged_whole, shipped_valid, stops_kept, stops_whole, told_behind}

-- ---- verdicts and outcomes

-- where the bytes of the input are told, the fact holds of each verdict on them
abbrev pub OnVerdict : Form → Written → Option (List ℕ) → (Verdict → Type 0) → Type 0
OnVerdict from what left P = IfSome left (λ bytes. (verdict : Verdict) → IsVerdictAs from what shipped_limits bytes verdict → P verdict)

pub on_verdict : (from : Form) (what : Written) (left : Option (List ℕ)) (P : Verdict → Type 0) (Q : Outcome → Type 0) → ((verdict : Verdict) → P verdict → Q (verdict_outcome verdict)) → OnVerdict from what left P → OnOutcome (Spans from what) left Q
on_verdict from what None P Q holds p = tt
on_verdict from what (Some bytes) P Q holds p = λ outcome is. let (verdict, is_verdict, same) = is in subst Q (sym same) (holds verdict (p verdict is_verdict))

judged_outcome : (from : Form) (what : Written) (left : Option (List ℕ)) → IfSome left (λ bytes. (verdict : Verdict) × IsVerdictAs from what shipped_limits bytes verdict) → IfSome left (IsJudgedAt (Spans from what) said)
judged_outcome from what None judged = tt
judged_outcome from what (Some bytes) (verdict, is) = (verdict_outcome verdict, (verdict, is, refl))

-- ---- faults

-- a target of which a unit has a fault has faults
has_faults : (what : Written) (unit : NotedGroup) (fault : Fault) → (written_target what).FaultOf unit fault → HasFaults what
has_faults (kinds.Form to) unit fault has = tt
has_faults (kinds.Report (reports.Losses to)) unit fault has = tt
has_faults (kinds.Report reports.Show) unit fault has = has
has_faults (kinds.Report reports.Check) unit fault has = has

-- so has that of a verdict whose fault is kept
faults_kept : (from : InputForm) (to : Target) (what : Written) → ((unit : NotedGroup) (fault : Fault) → to.FaultOf unit fault → HasFaults what) → (bytes : List ℕ) (verdict : Verdict) (found : TargetFault)
    → IsVerdictOn from to shipped_limits bytes verdict → KeepsWhy verdict (states.Faulted found) → HasFaults what
faults_kept from to what has bytes verdict found is kept =
    let there : IsFaulted from to shipped_limits bytes (verdict_text verdict) found = subst (λ (v : Verdict). IsVerdictOn from to shipped_limits bytes v) kept is in
    has there.next found.fault there.fault

-- ---- stops

-- a stop without a refusal or fault
pub stop_without_why : (state : State) (stop : Stop) → stop_in state ≡ Some stop → refusal_in state ≡ None → fault_in state ≡ None → (stop ≡ stops.Refused) ⊎ (stop ≡ stops.Faulted) → ⊥
stop_without_why states.Open stop kept none none' is = absurd (cc)
stop_without_why states.Ended stop kept none none' is = absurd (cc)
stop_without_why (states.Refused refusal) stop kept none none' is = absurd (cc)
stop_without_why (states.Faulted found) stop kept none none' is = absurd (cc)
stop_without_why states.Write stop kept none none' (inl is) = absurd (cc)
stop_without_why states.Write stop kept none none' (inr is) = absurd (cc)
stop_without_why states.OutOfMemory stop kept none none' (inl is) = absurd (cc)
stop_without_why states.OutOfMemory stop kept none none' (inr is) = absurd (cc)

-- the text of a verdict is that of its outcome
outcome_text : (verdict : Verdict) → verdict_text verdict ≡ (verdict_outcome verdict).text
outcome_text (good text tally) = refl
outcome_text (refused why text) = refl
outcome_text (faulted why text) = refl

-- what was written of the one was written of the other
module _ (verdict : Verdict) (before now : Outlet) where
  stops_write : StopsFrom [] verdict stops.Write before now → FailsWithin before now (verdict_outcome verdict).text
  stops_write s = subst (λ (l : List ℕ). FailsWithin before now l) (outcome_text verdict) (failed before now (verdict_text verdict) s)

  stops_wanting : StopsFrom [] verdict stops.OutOfMemory before now → GainsFront before now (verdict_outcome verdict).text
  stops_wanting s = subst (λ (l : List ℕ). GainsFront before now l) (outcome_text verdict) (fronted before now (verdict_text verdict) s)

  -- the text of the groups before was written, and memory was wanted for the key
  front_faulted : StopsFrom [] verdict stops.Faulted before now → GainsFront before now (verdict_outcome verdict).text
  front_faulted s = subst (λ (l : List ℕ). GainsFront before now l) (outcome_text verdict)
      (record { front = verdict_text verdict; is_front = ([], sym (append-nil (verdict_text verdict))); gains = gained before now (verdict_text verdict) s.1 })

-- ---- ends

-- a stop that is answered is one
pub stop_of : {T : Type 0} (a b : Stop) → ◌≡◌ {A = Result T Stop} (Err a) (Err b) → a ≡ b
stop_of a b e = cc

-- what is judged doesn't hang on what else would have been answered
judged_as : (from : Form) (what : Written) (limits : Limits) (bytes : List ℕ) (stop : Stop) → IsJudgedAs {T = Tally} from what limits bytes (Err stop) → IsJudgedAs {T = Unit} from what limits bytes (Err stop)
judged_as from what limits bytes stops.Refused j = j
judged_as from what limits bytes stops.Faulted j = j
judged_as from what limits bytes stops.Write j = j
judged_as from what limits bytes stops.OutOfMemory j = j

module _ {K : Type 0} (outlet : K → Outlet) (from : Form) (what : Written) (before now : Inlet) (old new : K) where
  abbrev Course : Type 0
  Course = RunCourse outlet (Spans from what) before now old new

  -- ---- each ending

  ends_refused : (refusal : Refusal) → Course → now.faults ≡ before.faults → OutputHolds (outlet old) (outlet new) → IfSome before.left (λ bytes. IsJudgedAs {T = Unit} from what shipped_limits bytes (Err stops.Refused))
      → OnVerdict from what before.left (λ v. StopsFrom [] v stops.Refused (outlet old) (outlet new) × KeepsWhy v (states.Refused refusal)) → EndsRun outlet (Spans from what) (endings.Refused refusal) before now old new
  ends_refused refusal course still holds judged on =
      ends_said outlet (Spans from what) before now old new (endings.Refused refusal) refl (unlike 3 5 (inl (omega arith))) (unlike 3 6 (inl (omega arith))) (λ e. absurd (unlike 3 4 (inl (omega arith)) e)) (λ e. absurd (unlike 3 0 (inr (omega arith)) e))
      (λ e. absurd (unlike 3 0 (inr (omega arith)) e)) course still holds
      (judged_outcome from what before.left judged)
      (on_verdict from what before.left _ (Carries outlet (Spans from what) before now old new (endings.Refused refusal)) (λ v carried.
      subst (λ (x : Verdict). Carries outlet (Spans from what) before now old new (endings.Refused refusal) (verdict_outcome x)) (sym carried.1)
      (record { agrees = refl; writes = gained (outlet old) (outlet new) (verdict_text v) carried.0.1; notes = refl })) on)

  ends_faulted : (noted : NotedFault) (found : TargetFault) → HasFaults what → noted_line noted ≡ fault_line found → Course → now.faults ≡ before.faults → OutputHolds (outlet old) (outlet new) → IfSome before.left (λ bytes. IsJudgedAs {T = Unit} from what shipped_limits bytes (Err stops.Faulted))
      → OnVerdict from what before.left (λ v. StopsFrom [] v stops.Faulted (outlet old) (outlet new) × KeepsWhy v (states.Faulted found)) → EndsRun outlet (Spans from what) (endings.Faulted noted) before now old new
  ends_faulted noted found faults says course still holds judged on =
      ends_said outlet (Spans from what) before now old new (endings.Faulted noted) refl (unlike 4 5 (inl (omega arith))) (unlike 4 6 (inl (omega arith))) (λ e. faults) (λ e. absurd (unlike 4 0 (inr (omega arith)) e))
      (λ e. absurd (unlike 4 0 (inr (omega arith)) e)) course still holds
      (judged_outcome from what before.left judged)
      (on_verdict from what before.left _ (Carries outlet (Spans from what) before now old new (endings.Faulted noted)) (λ v carried.
      subst (λ (x : Verdict). Carries outlet (Spans from what) before now old new (endings.Faulted noted) (verdict_outcome x)) (sym carried.1)
      (record { agrees = refl; writes = gained (outlet old) (outlet new) (verdict_text v) carried.0.1; notes = says })) on)

  -- ---- a stop of the converter

  -- what the call did to the devices
  pub record StopsDevices (stop : Stop) : Type 0 where
    pub course : Course
    pub still : now.faults ≡ before.faults
    pub sink : SinkTold (stop ≡ stops.Write) (outlet old) (outlet new)

  -- it carried out the verdict
  pub record StoppedBy (stop : Stop) (state : State) : Type 0 where
    pub devices : StopsDevices stop
    pub faults : (found : TargetFault) → stop ≡ stops.Faulted → state ≡ states.Faulted found → HasFaults what
    pub judged : IfSome before.left (λ bytes. IsJudgedAs {T = Unit} from what shipped_limits bytes (Err stop))
    pub carried : OnVerdict from what before.left (λ v. StopsFrom [] v stop (outlet old) (outlet new) × KeepsWhy v state)

  pub ends_at_stop : (ending : Ending) (stop : Stop) (state : State) → IsEndingAt ending stop state → StoppedBy stop state → EndsRun outlet (Spans from what) ending before now old new
  ends_at_stop endings.Whole stop state at by = absurd at
  ends_at_stop (endings.Refused refusal) stop state (stopped, kept) by =
      let there = subst (λ (s : Stop). StoppedBy s (states.Refused refusal)) stopped (subst (λ (s : State). StoppedBy stop s) kept by) in
      ends_refused refusal there.devices.course there.devices.still (there.devices.sink.holds (λ e. absurd (cc))) there.judged there.carried
  ends_at_stop (endings.Faulted noted) stop state at by =
      let there = subst (λ (s : Stop). StoppedBy s (states.Faulted at.found)) at.stopped (subst (λ (s : State). StoppedBy stop s) at.kept by) in
      ends_faulted noted at.found (by.faults at.found at.stopped at.kept) at.says there.devices.course there.devices.still (there.devices.sink.holds (λ e. absurd (cc))) there.judged there.carried
  ends_at_stop (endings.BadHeaders cause) stop state at by = absurd at
  ends_at_stop endings.TooLong stop state at by = absurd at
  ends_at_stop endings.NoIds stop state at by = absurd at
  ends_at_stop endings.InputFailed stop state at by = absurd at
  ends_at_stop endings.OutputFailed stop state at by =
      let there = subst (λ (s : Stop). StoppedBy s state) at by in
      ends_output_failed outlet (Spans from what) before now old new there.devices.course there.devices.still (there.devices.sink.fails refl)
      (on_verdict from what before.left _ (λ o. FailsWithin (outlet old) (outlet new) o.text) (λ v carried. stops_write v (outlet old) (outlet new) carried.0) there.carried)
  ends_at_stop endings.NoMemory stop state (inr at) by =
      let there = subst (λ (s : Stop). StoppedBy s state) at.stopped by in
      wants outlet (Spans from what) before now old new there.devices.course there.devices.still (there.devices.sink.holds (λ e. absurd (cc)))
      (on_verdict from what before.left _ (λ o. GainsFront (outlet old) (outlet new) o.text) (λ v carried. front_faulted v (outlet old) (outlet new) carried.0) there.carried)
  ends_at_stop endings.NoMemory stop state (inl at) by =
      let there = subst (λ (s : Stop). StoppedBy s state) at by in
      wants outlet (Spans from what) before now old new there.devices.course there.devices.still (there.devices.sink.holds (λ e. absurd (cc)))
      (on_verdict from what before.left _ (λ o. GainsFront (outlet old) (outlet new) o.text) (λ v carried. stops_wanting v (outlet old) (outlet new) carried.0) there.carried)

  -- ---- a source that failed

  front_text : (part : List ℕ) (v : Verdict) → IsFront part (verdict_text v) → IsFront part (verdict_outcome v).text
  front_text part (good text tally) front = front
  front_text part (refused why text) front = front
  front_text part (faulted why text) front = front

  -- the text of the whole units of what was read is a front of that of all
  pub ends_unread : Begins → (here : Inlet) (c : Walker) → Feeding from what before here (outlet old) (outlet new) c → IfDocument from (new ≡ old) → Keeps here.left now.left → InputFails here now
      → (IsTrue here.steady → ⊥) → NoReadInVain before now → EndsRun outlet (Spans from what) endings.InputFailed before now old new
  ends_unread begins here c feeding unwritten kept fails unsteady in_vain =
      let gave = gave_kept before.left here.left now.left feeding.given feeding.reading.gave kept in
      let units : WritesWholeUnits from what before now (outlet old) (outlet new) = record { given = feeding.given; gave = gave; writes = record { said = feeding.said; tally = feeding.fed.tally; outlook = feeding.fed.outlook; gains = feeding.gains } } in
      let course : Course = record {
        reads = record { given = feeding.given; gave = gave; within = omega (arith, feeding.fed.within) };
        in_vain = in_vain;
        front = record { given = feeding.given; gave = gave; front = feeding.front };
      } in
      ends_input_failed outlet (Spans from what) before now old new course (subst (λ (n : ℕ). Rose n now.faults) feeding.reading.quiet fails)
      (λ steady. unsteady (subst (λ (b : Bool). IsTrue b) (sym feeding.reading.steady) steady)) feeding.holds (units, unwritten)
      (on_verdict from what before.left (λ v. IsFront feeding.said (verdict_outcome v).text) (λ o. GainsFront (outlet old) (outlet new) o.text)
      (λ v front. record { front = feeding.said; is_front = front; gains = feeding.gains })
      (told_behind before.left now.left feeding.given (λ bytes. (v : Verdict) → IsVerdictAs from what shipped_limits bytes v → IsFront feeding.said (verdict_outcome v).text) gave
      (λ rest v is. front_text feeding.said v (begins from what shipped_limits feeding.given rest feeding.said feeding.fed.tally v shipped_valid feeding.fed.outlook is))))

module _ {K : Type 0} (outlet : K → Outlet) (from : Form) (what : Written) (before now : Inlet) (old here new : K) (gain : GainLaws)
    (written : List ℕ) (gains : Gains (outlet old) (outlet here) written) (held : OutputHolds (outlet old) (outlet here)) where
  -- a call that came behind what was written before
  devices_behind : (given : List ℕ) (stop : Stop) → GaveInput before now given → ReadsInput (Spans from what) before now → NoReadInVain before now → now.faults ≡ before.faults
      → WritesFrontFrom (input_form from) (written_target what) shipped_limits given written (outlet here) (outlet new)
      → SinkTold (stop ≡ stops.Write) (outlet here) (outlet new) → StopsDevices outlet from what before now old new stop
  devices_behind given stop gave reads in_vain still front sink = record {
    course = record {
      reads = reads;
      in_vain = in_vain;
      front = record { given = given; gave = gave; front = front_of_units gain written (outlet old) (outlet here) (outlet new) gains from what given front };
    };
    still = still;
    sink = record {
      fails = λ e. gain.failing (outlet old) (outlet here) (outlet new) held (sink.fails e);
      holds = λ other. gain.holding (outlet old) (outlet here) (outlet new) held (sink.holds other);
    };
  }

  -- a feed that stopped, by the outlook on what was read so far, which is the verdict on all or leaves a front of it
  pub ends_at_feed : Begins → Lasts → OneVerdict → SomeOutlook → (given : List ℕ) → AreBytes given → (ending : Ending) (stop : Stop) (c : Walker) → GaveInput before now given → IsEndingOf ending stop c
      → ReadsInput (Spans from what) before now → NoReadInVain before now → now.faults ≡ before.faults
      → Feeds (shipped from what) c written given (Err stop) (outlet here) (outlet new)
      → SinkTold (stop ≡ stops.Write) (outlet here) (outlet new) → EndsRun outlet (Spans from what) ending before now old new
  ends_at_feed begins lasts one some given are_bytes ending stop c gave at reads in_vain still says sink =
      ends_at_stop outlet from what before now old new ending stop c.state at (record {
        devices = devices_behind given stop gave reads in_vain still says.front sink;
        faults = λ found is kept. faults_kept (open_form from) (open_target (written_target what)) what (has_faults what) given foreseen.0 found foreseen.1
            (subst (KeepsWhy foreseen.0) kept (carried_out foreseen.0 foreseen.1).1);
        judged = told_behind before.left now.left given (λ bytes. IsJudgedAs {T = Unit} from what shipped_limits bytes (Err stop)) gave
            (λ rest. judged_whole begins lasts one from what given rest (outlet old) (outlet new) stop says.exists (λ o is. (carried_out o is).0));
        carried = told_behind before.left now.left given (λ bytes. (v : Verdict) → IsVerdictAs from what shipped_limits bytes v → StopsFrom [] v stop (outlet old) (outlet new) × KeepsWhy v c.state) gave
            (λ rest v is_verdict. stops_whole begins lasts one from what given rest (outlet old) (outlet new) stop c.state foreseen.0 v foreseen.1 is_verdict (carried_out foreseen.0 foreseen.1));
      })
    where
      foreseen : (outlook : Verdict) × IsOutlookAs from what shipped_limits given outlook
      foreseen = some from what shipped_limits given are_bytes

      carried_out : (outlook : Verdict) → IsOutlookAs from what shipped_limits given outlook → StopsFrom [] outlook stop (outlet old) (outlet new) × KeepsWhy outlook c.state
      carried_out outlook is = stops_kept gain written (outlet old) (outlet here) (outlet new) gains outlook stop (KeepsWhy outlook c.state)
          (says.outlook outlook is)

  module _ (fed : List ℕ) (c : Walker) where
    -- an end that came to the end, by the verdict on all that was read
    pub ends_whole : (counts : Tally) → GaveInput before now fed → IsAllRead before now → ReadsInput (Spans from what) before now
        → NoReadInVain before now → now.faults ≡ before.faults → Finishes (shipped from what) c written fed (Ok counts) (outlet here) (outlet new) → OutputHolds (outlet here) (outlet new)
        → EndsRun outlet (Spans from what) endings.Whole before now old new
    ends_whole counts gave all reads in_vain still end holds =
        ends_said outlet (Spans from what) before now old new endings.Whole refl (unlike 0 5 (inl (omega arith))) (unlike 0 6 (inl (omega arith))) (λ e. absurd (unlike 0 4 (inl (omega arith)) e)) (λ e. all)
        (λ e. all_told before.left now.left fed (WritesAllUnits from what (outlet old) (outlet new)) gave all.told (record {
          text = end.whole.text;
          tally = counts;
          all = end.whole.is_good;
          sized = end.whole.sized;
          gains = gained (outlet old) (outlet new) end.whole.text (gains_on gain written (outlet old) (outlet here) (outlet new) gains end.whole.text end.whole.gains);
        }))
        (record { reads = reads; in_vain = in_vain; front = record { given = fed; gave = gave; front = front_of_units gain written (outlet old) (outlet here) (outlet new) gains from what fed end.front } })
        still (gain.holding (outlet old) (outlet here) (outlet new) held holds)
        (judged_outcome from what before.left (all_told before.left now.left fed (λ bytes. (verdict : Verdict) × IsVerdictAs from what shipped_limits bytes verdict) gave all.told end.judged))
        (on_verdict from what before.left (λ v. EndsFrom written v counts (outlet here) (outlet new)) (Carries outlet (Spans from what) before now old new endings.Whole) (λ v carried.
        subst (λ (x : Verdict). Carries outlet (Spans from what) before now old new endings.Whole (verdict_outcome x)) (sym carried.0) (record {
          agrees = refl;
          writes = gained (outlet old) (outlet new) (verdict_text v) (gains_on gain written (outlet old) (outlet here) (outlet new) gains (verdict_text v) carried.1);
          notes = refl;
        })) (all_told before.left now.left fed (λ bytes. (v : Verdict) → IsVerdictAs from what shipped_limits bytes v → EndsFrom written v counts (outlet here) (outlet new)) gave all.told
        (λ v is. (end.verdict v is).0)))

    -- an end that stopped, by the verdict on all that was read
    pub ends_at_finish : (ending : Ending) (stop : Stop) → GaveInput before now fed → IfSome before.left (λ bytes. now.left ≡ Some []) → IsEndingOf ending stop c → ReadsInput (Spans from what) before now
        → NoReadInVain before now → now.faults ≡ before.faults → Finishes (shipped from what) c written fed (Err stop) (outlet here) (outlet new) → SinkTold (stop ≡ stops.Write) (outlet here) (outlet new)
        → EndsRun outlet (Spans from what) ending before now old new
    ends_at_finish ending stop gave told at reads in_vain still end sink = ends_at_stop outlet from what before now old new ending stop c.state at (record {
      devices = devices_behind fed stop gave reads in_vain still end.front sink;
      faults = λ found is kept.
          let there : IsJudgedAs {T = Tally} from what shipped_limits fed (Err stops.Faulted) = subst (λ (s : Stop). IsJudgedAs {T = Tally} from what shipped_limits fed (Err s)) is end.judged in
          faults_kept (input_form from) (written_target what) what (has_faults what) fed there.0 found there.1 (subst (KeepsWhy there.0) kept (end.verdict there.0 there.1).1);
      judged = all_told before.left now.left fed (λ bytes. IsJudgedAs {T = Unit} from what shipped_limits bytes (Err stop)) gave told (judged_as from what shipped_limits fed stop end.judged);
      carried = all_told before.left now.left fed (λ bytes. (v : Verdict) → IsVerdictAs from what shipped_limits bytes v → StopsFrom [] v stop (outlet old) (outlet new) × KeepsWhy v c.state) gave told
          (λ v is. stops_kept gain written (outlet old) (outlet here) (outlet new) gains v stop (KeepsWhy v c.state) (end.verdict v is));
    })
