use Rattle.std.proofs.Common.{◌≡◌, ◌≢◌, ℕ, ◌<◌, List, length, Option, Some, None, refl, sym, ap, subst, ◌∙◌, arith}
use Rattle.std.specs.Prelude.{IfSome, codes}
use Rattle.span_io.specs.Outside.{Takes}
use Rattle.span_io.specs.declared.form.Form.{Form}
use Rattle.span_cli.specs.declared.command.Command.{Command}
use Rattle.span_cli.specs.declared.command.Command.TheVariants.{Convert, Gauge, Headers, Losses, Serve}
use Rattle.span_cli.specs.Commands.{texts, OnJob, OnServing, Spells, SpellsServe}
use Rattle.span_cli.specs.Lines.{IsRunStatus, Notes, stage_line, stage_of}
use Rattle.span_cli.specs.private.LineWords.{status_of}
use Rattle.span_cli.specs.Jobs.{Job, task_of}
use Rattle.span_cli.specs.private.JobWords.{IfGauge}
use Rattle.span_cli.specs.Jobs as jobs
use Rattle.span_cli.specs.private.RunSteps.{EndsGauge, WritesAllOf}
use Rattle.span_cli.specs.Runs.{IsGaugeStatus}
use Rattle.span_cli.specs.declared.job.Task.TheVariants.{Make}
use Rattle.span_cli.specs.Outcomes.{OnOutcome, IsJudgedAt, Writes, CarriesOut, gauge_outcome}
use Rattle.span_cli.specs.Servings.{ServesConnections}
use Rattle.span_cli.proofs.EndingLaws.{never_usage, is_status, on_outcome, stage_noted, untouched_in_vain, untouched_output_in_vain, output_in_vain, notes_in_vain}
use Rattle.span_cli.proofs.GaugeEndings.{gauge_carried, gauge_status}
use Rattle.span_cli.proofs.LinesBack.{lines_back}
use Rattle.span_cli.proofs.LossesTold.{losses_told}
use Rattle.span_cli.proofs.SameRuns.{carried_out_agreeing, carried_out_same}
use Rattle.span_cli.proofs.ServeLemmas.{served_in_vain, untouched_door_in_vain}
use Rattle.span_notes.proofs.WordLaws.{place_within, word_at}
use Rattle.span_cli.proofs.TaskLemmas as task
use Rattle.span_cli.proofs.TextsBack.{text_back}
use Rattle.span_cli.proofs.top.run.Given.{Over}
use Rattle.span_cli.proofs.top.run.Goals.{Joined-ending, In-Serve}
use Rattle.span_cli.proofs.top.run.Goals as goal

-- ---- words that are no command

no_command : {P : Type 0} → (read : Option Command) (command : Command) → read ≡ None → read ≡ Some command → P
no_command read command none some = absurd (let h : ◌≡◌ {A = Option Command} None (Some command) = sym none ∙ some in cc)

pub returns-in_default-clause-reads : goal.returns-in_default-clause-reads
returns-in_default-clause-reads g c = λ command spelled. no_command c.read_words.result command c.in_default.is ((c.read_words.ensures command).1 spelled)

pub returns-in_default-clause-front : goal.returns-in_default-clause-front
returns-in_default-clause-front g c = λ command spelled. no_command c.read_words.result command c.in_default.is ((c.read_words.ensures command).1 spelled)

pub returns-in_default-clause-faults : goal.returns-in_default-clause-faults
returns-in_default-clause-faults g c = λ command spelled. no_command c.read_words.result command c.in_default.is ((c.read_words.ensures command).1 spelled)

pub returns-in_default-clause-so_far : goal.returns-in_default-clause-so_far
returns-in_default-clause-so_far g c = λ command spelled. no_command c.read_words.result command c.in_default.is ((c.read_words.ensures command).1 spelled)

pub returns-in_default-clause-output_takes : goal.returns-in_default-clause-output_takes
returns-in_default-clause-output_takes g c = λ command spelled. no_command c.read_words.result command c.in_default.is ((c.read_words.ensures command).1 spelled)

pub returns-in_default-clause-same : goal.returns-in_default-clause-same
returns-in_default-clause-same g c = λ command spelled. no_command c.read_words.result command c.in_default.is ((c.read_words.ensures command).1 spelled)

pub returns-in_default-clause-free_members : goal.returns-in_default-clause-free_members
returns-in_default-clause-free_members g c = λ command spelled. no_command c.read_words.result command c.in_default.is ((c.read_words.ensures command).1 spelled)

pub returns-in_default-clause-read_back : goal.returns-in_default-clause-read_back
returns-in_default-clause-read_back g c = λ form spelled. no_command c.read_words.result (Headers form) c.in_default.is ((c.read_words.ensures (Headers form)).1 spelled)

pub returns-in_default-clause-there_and_back : goal.returns-in_default-clause-there_and_back
returns-in_default-clause-there_and_back g c = λ from to spelled. no_command c.read_words.result (Convert from to) c.in_default.is ((c.read_words.ensures (Convert from to)).1 spelled)

pub returns-in_default-clause-nothing_lost : goal.returns-in_default-clause-nothing_lost
returns-in_default-clause-nothing_lost g c = λ from to spelled. no_command c.read_words.result (Losses from to) c.in_default.is ((c.read_words.ensures (Losses from to)).1 spelled)

pub returns-in_default-clause-all_read : goal.returns-in_default-clause-all_read
returns-in_default-clause-all_read g c = λ command spelled. no_command c.read_words.result command c.in_default.is ((c.read_words.ensures command).1 spelled)

pub returns-in_default-clause-gauge : goal.returns-in_default-clause-gauge
returns-in_default-clause-gauge g c = λ spans spelled. no_command c.read_words.result (Gauge spans) c.in_default.is ((c.read_words.ensures (Gauge spans)).1 spelled)

pub returns-in_default-clause-serves : goal.returns-in_default-clause-serves
returns-in_default-clause-serves g c = λ address to count spelled. no_command c.read_words.result (Serve address to count) c.in_default.is ((c.read_words.ensures (Serve address to count)).1 spelled)

pub returns-in_default-clause-input_in_vain : goal.returns-in_default-clause-input_in_vain
returns-in_default-clause-input_in_vain g c = untouched_in_vain (g.S.Source.inlet c.args.input.now)

pub returns-in_default-clause-output_in_vain : goal.returns-in_default-clause-output_in_vain
returns-in_default-clause-output_in_vain g c = untouched_output_in_vain (g.K.Sink.outlet c.args.output.now)

pub returns-in_default-clause-door_in_vain : goal.returns-in_default-clause-door_in_vain
returns-in_default-clause-door_in_vain g c = untouched_door_in_vain (g.D.Door.doorway c.args.door.now)

pub returns-in_default-clause-notes_in_vain : goal.returns-in_default-clause-notes_in_vain
returns-in_default-clause-notes_in_vain g c = notes_in_vain (g.N.Sink.outlet c.args.notes.now) (g.N.Sink.outlet c.note_usage.new.notes) _ c.note_usage.ensures

-- ---- a job

on_job : (g : Over) (c : Joined-ending g) (P : Job → Type 0) → P c.in-Make.job → OnJob (texts c.args.words.now) P
on_job g c P p = task.makes_it (texts c.args.words.now) c.in-Some.command c.in-Some.ensures c.task.result c.task.ensures c.in-Make.job c.in-Make.is P p

pub carry_out-ending-requires : goal.carry_out-ending-requires
carry_out-ending-requires g c = task.within (texts c.args.words.now) c.in-Some.command c.in-Some.ensures c.task.result c.task.ensures c.in-Make.job c.in-Make.is

pub returns-clause-usage : goal.returns-clause-usage
returns-clause-usage g c = (
  λ e. absurd (never_usage c.carry_out-ending.result (sym c.status.ensures ∙ e)),
  λ none. absurd (none c.in-Some.command ((c.in-Some.ensures c.in-Some.command).0 refl)),
)

pub returns-clause-statuses : goal.returns-clause-statuses
returns-clause-statuses g c = subst (λ (status : ℕ). IsRunStatus status) (sym c.status.ensures) (is_status c.carry_out-ending.result)

pub returns-clause-faults : goal.returns-clause-faults
returns-clause-faults g c = on_job g c _ (λ four. c.carry_out-ending.ensures.run.faults (sym c.status.ensures ∙ four))

pub returns-clause-line : goal.returns-clause-line
returns-clause-line g c = on_job g c _ (λ three four.
    let before = g.N.Sink.outlet c.args.notes.now in
    let now = g.N.Sink.outlet c.note_ending.new.notes in
    let ending = c.carry_out-ending.result in
    let same = stage_noted ending (λ e. three (c.status.ensures ∙ e)) (λ e. four (c.status.ensures ∙ e)) in
    subst (λ (status : ℕ). Notes before now (stage_line (stage_of status))) (sym c.status.ensures) (subst (λ (l : List ℕ). Notes before now l) same c.note_ending.ensures.line))

pub returns-clause-reads : goal.returns-clause-reads
returns-clause-reads g c = on_job g c _ c.carry_out-ending.ensures.run.input.reads

pub returns-clause-all_read : goal.returns-clause-all_read
returns-clause-all_read g c = on_job g c _ (λ zero. c.carry_out-ending.ensures.run.input.all_read (sym c.status.ensures ∙ zero))

pub returns-clause-front : goal.returns-clause-front
returns-clause-front g c = on_job g c _ c.carry_out-ending.ensures.run.front

pub returns-clause-so_far : goal.returns-clause-so_far
returns-clause-so_far g c = on_job g c _ (λ five. c.carry_out-ending.ensures.run.so_far (sym c.status.ensures ∙ five))

judged : (g : Over) (c : Joined-ending g) → IfSome (g.S.Source.inlet c.args.input.now).left (IsJudgedAt c.in-Make.job (stage_of c.status.result))
judged g c = subst (λ (status : ℕ). IfSome (g.S.Source.inlet c.args.input.now).left (IsJudgedAt c.in-Make.job (stage_of status))) (sym c.status.ensures)
    c.carry_out-ending.ensures.run.judged

pub returns-clause-judged : goal.returns-clause-judged
returns-clause-judged g c = on_job g c _ (judged g c)

carried : (g : Over) (c : Joined-ending g) → OnOutcome c.in-Make.job (g.S.Source.inlet c.args.input.now).left
    (CarriesOut c.status.result (g.K.Sink.outlet c.args.output.now) (g.K.Sink.outlet c.carry_out-ending.new.output) (Notes (g.N.Sink.outlet c.args.notes.now) (g.N.Sink.outlet c.note_ending.new.notes)))
carried g c =
    let left = (g.S.Source.inlet c.args.input.now).left in
    let noted = Notes (g.N.Sink.outlet c.args.notes.now) (g.N.Sink.outlet c.note_ending.new.notes) in
    subst (λ (status : ℕ). OnOutcome c.in-Make.job left (CarriesOut status (g.K.Sink.outlet c.args.output.now) (g.K.Sink.outlet c.carry_out-ending.new.output) noted)) (sym c.status.ensures)
    (on_outcome c.in-Make.job left _ (CarriesOut (status_of c.carry_out-ending.result) (g.K.Sink.outlet c.args.output.now) (g.K.Sink.outlet c.carry_out-ending.new.output) noted) (λ o by. record { agrees = by.agrees; writes = by.writes; notes = subst noted by.notes c.note_ending.ensures.line }) c.carry_out-ending.ensures.run.carried)

pub returns-clause-carried : goal.returns-clause-carried
returns-clause-carried g c = on_job g c _ (carried g c)

pub returns-clause-output_answers : goal.returns-clause-output_answers
returns-clause-output_answers g c = λ any e. (c.carry_out-ending.ensures.run.output.fails (sym c.status.ensures ∙ e)).unsure any

pub returns-clause-output_in_vain : goal.returns-clause-output_in_vain
returns-clause-output_in_vain g c = output_in_vain g.K.Sink.outlet c.carry_out-ending.result c.args.output.now c.carry_out-ending.new.output c.carry_out-ending.ensures.run.output

pub returns-clause-door_in_vain : goal.returns-clause-door_in_vain
returns-clause-door_in_vain g c = untouched_door_in_vain (g.D.Door.doorway c.args.door.now)

pub returns-clause-notes_in_vain : goal.returns-clause-notes_in_vain
returns-clause-notes_in_vain g c = notes_in_vain (g.N.Sink.outlet c.args.notes.now) (g.N.Sink.outlet c.note_ending.new.notes) _ c.note_ending.ensures.line

pub returns-clause-output_takes : goal.returns-clause-output_takes
returns-clause-output_takes g c =
    let before = g.K.Sink.outlet c.args.output.now in
    let now = g.K.Sink.outlet c.carry_out-ending.new.output in
    on_job g c _ (on_outcome c.in-Make.job (g.S.Source.inlet c.args.input.now).left _ (λ outcome. Takes before.sure (length outcome.text) → c.status.result ≢ 6)
    (λ outcome by takes e. (subst (λ (status : ℕ). Writes (stage_of status) outcome.text before now) e by.writes).unsure takes) (carried g c))

pub returns-clause-same : goal.returns-clause-same
returns-clause-same g c = on_job g c _
    (carried_out_same (g.S.Source.inlet c.args.input.now).left _ c.same_batches.ensures c.in-Make.job (carried g c))

pub returns-clause-free_members : goal.returns-clause-free_members
returns-clause-free_members g c = on_job g c _
    (carried_out_agreeing (g.S.Source.inlet c.args.input.now).left _ c.free_members.ensures c.in-Make.job (carried g c))

pub returns-clause-read_back : goal.returns-clause-read_back
returns-clause-read_back g c = λ form spelled.
    lines_back c.contexts_are_normal.ensures c.heads_are_sound.ensures c.headers_read_back.ensures form (g.S.Source.inlet c.args.input.now).left c.status.result
    (g.K.Sink.outlet c.args.output.now) (g.K.Sink.outlet c.carry_out-ending.new.output)
    _ (returns-clause-judged g c (Headers form) spelled) (returns-clause-carried g c (Headers form) spelled)

pub returns-clause-there_and_back : goal.returns-clause-there_and_back
returns-clause-there_and_back g c = λ from to spelled zero.
    let left = (g.S.Source.inlet c.args.input.now).left in
    let before = g.K.Sink.outlet c.args.output.now in
    let now = g.K.Sink.outlet c.carry_out-ending.new.output in
    text_back c.output_read_back.ensures.back from to before now left
    (on_job g c (λ job. IfSome left (WritesAllOf job before now)) (c.carry_out-ending.ensures.run.whole (sym c.status.ensures ∙ zero)) (Convert from to) spelled)

pub returns-clause-nothing_lost : goal.returns-clause-nothing_lost
returns-clause-nothing_lost g c = λ from to spelled.
    losses_told c.no_losses.ensures from to (g.S.Source.inlet c.args.input.now).left c.status.result
    (g.K.Sink.outlet c.args.output.now) (g.K.Sink.outlet c.carry_out-ending.new.output)
    _ (returns-clause-judged g c (Losses from to) spelled) (returns-clause-carried g c (Losses from to) spelled)

pub returns-clause-gauge : goal.returns-clause-gauge
returns-clause-gauge g c = λ spans spelled.
    let same : jobs.Gauge spans ≡ c.in-Make.job =
    task.job_is (texts c.args.words.now) c.in-Some.command c.in-Some.ensures c.task.result c.task.ensures c.in-Make.job c.in-Make.is (Gauge spans) (jobs.Gauge spans) refl spelled in
    let ends = subst (λ (job : Job). IfGauge job (λ n. (c.carry_out-ending.new.input ≡ c.args.input.now)
    × EndsGauge g.K.Sink.outlet n c.carry_out-ending.result c.args.output.now c.carry_out-ending.new.output)) (sym same) c.carry_out-ending.ensures.gauge in
    let before = g.N.Sink.outlet c.args.notes.now in
    let now = g.N.Sink.outlet c.note_ending.new.notes in
    record {
      unread = ends.0;
      status = subst (λ (status : ℕ). IsGaugeStatus status) (sym c.status.ensures)
          (gauge_status g.K.Sink.outlet spans c.args.output.now c.carry_out-ending.new.output before now c.carry_out-ending.result ends.1);
      carried = subst (λ (status : ℕ). CarriesOut status (g.K.Sink.outlet c.args.output.now) (g.K.Sink.outlet c.carry_out-ending.new.output) (Notes before now) (gauge_outcome spans)) (sym c.status.ensures)
          (gauge_carried g.K.Sink.outlet spans c.args.output.now c.carry_out-ending.new.output before now c.carry_out-ending.result ends.1 c.note_ending.ensures.line);
    }

no_serving : (g : Over) (c : Joined-ending g) (P : List ℕ → Form → ℕ → Type 0) → OnServing (texts c.args.words.now) P
no_serving g c P = task.serves_none (texts c.args.words.now) c.in-Some.command c.in-Some.ensures c.task.result c.task.ensures c.in-Make.job c.in-Make.is P

pub returns-clause-serves : goal.returns-clause-serves
returns-clause-serves g c = no_serving g c _

pub returns-clause-serves_alone : goal.returns-clause-serves_alone
returns-clause-serves_alone g c =
    no_serving g c (λ address to count. (c.carry_out-ending.new.input ≡ c.args.input.now) × (c.carry_out-ending.new.output ≡ c.args.output.now))

-- ---- serving

spelled : (g : Over) (c : In-Serve g) → SpellsServe c.in-Serve.address c.in-Serve.to c.in-Serve.count (texts c.args.words.now)
spelled g c = task.serve_spelled (texts c.args.words.now) c.in-Some.command c.in-Some.ensures c.task.result c.task.ensures c.in-Serve.address c.in-Serve.to c.in-Serve.count c.in-Serve.is

within : (g : Over) (c : In-Serve g) → c.in-Serve.address < length c.args.words.now
within g c = place_within c.args.words.now 1 (codes "--listen") c.in-Serve.address (spelled g c).listen.0 (spelled g c).listen.1

no_job : (g : Over) (c : In-Serve g) (command : Command) (job : Job) → task_of command ≡ Make job → Spells command (texts c.args.words.now) → ⊥
no_job g c = task.no_other (texts c.args.words.now) c.in-Some.command c.in-Some.ensures c.task.result c.task.ensures c.in-Serve.address c.in-Serve.to c.in-Serve.count c.in-Serve.is

pub offset_bounds-words-address : goal.offset_bounds-words-address
offset_bounds-words-address g c = omega (arith, within g c)

pub bounds-words-address : goal.bounds-words-address
bounds-words-address g c = within g c

pub serve-requires : goal.serve-requires
serve-requires g c = (spelled g (goal.at.serve-requires g c).In-Serve).connections.some

pub returns-in-Serve-clause-there_and_back : goal.returns-in-Serve-clause-there_and_back
returns-in-Serve-clause-there_and_back g c = λ from to convert. absurd (no_job g (goal.at.returns-in-Serve-clause-there_and_back g c).In-Serve (Convert from to) _ refl convert)

pub returns-in-Serve-clause-nothing_lost : goal.returns-in-Serve-clause-nothing_lost
returns-in-Serve-clause-nothing_lost g c = λ from to lost. absurd (no_job g (goal.at.returns-in-Serve-clause-nothing_lost g c).In-Serve (Losses from to) _ refl lost)

pub returns-in-Serve-clause-gauge : goal.returns-in-Serve-clause-gauge
returns-in-Serve-clause-gauge g c = λ spans sizes. absurd (no_job g (goal.at.returns-in-Serve-clause-gauge g c).In-Serve (Gauge spans) _ refl sizes)

pub returns-in-Serve-clause-read_back : goal.returns-in-Serve-clause-read_back
returns-in-Serve-clause-read_back g c = λ form read. absurd (no_job g (goal.at.returns-in-Serve-clause-read_back g c).In-Serve (Headers form) _ refl read)

pub returns-in-Serve-clause-usage : goal.returns-in-Serve-clause-usage
returns-in-Serve-clause-usage g c = (
  λ e. absurd (task.never_usage c.serve.ensures.end (sym c.serve.ensures.is_status ∙ e)),
  λ none. absurd (none (Serve c.in-Serve.address c.in-Serve.to c.in-Serve.count) (spelled g (goal.at.returns-in-Serve-clause-usage g c).In-Serve)),
)

pub returns-in-Serve-clause-door_in_vain : goal.returns-in-Serve-clause-door_in_vain
returns-in-Serve-clause-door_in_vain g c =
    served_in_vain (g.D.Door.doorway c.args.door.now) (g.D.Door.doorway c.serve.new.door) c.serve.ensures.end c.serve.ensures.door.course

pub returns-in-Serve-clause-serves : goal.returns-in-Serve-clause-serves
returns-in-Serve-clause-serves g c =
    let served = (goal.at.returns-in-Serve-clause-serves g c).In-Serve in
    task.serves_it (texts c.args.words.now) c.in-Some.command c.in-Some.ensures c.task.result c.task.ensures c.in-Serve.address c.in-Serve.to c.in-Serve.count c.in-Serve.is
    (λ address to count. ServesConnections address to count c.serve.result (g.D.Door.doorway c.args.door.now) (g.D.Door.doorway c.serve.new.door)
    (g.N.Sink.outlet c.args.notes.now) (g.N.Sink.outlet c.serve.new.notes))
    c.as_str.result.now
    (word_at c.args.words.now c.in-Serve.address c.index-words-address.result (within g served) c.index-words-address.is
    ∙ ap (λ (w : List ℕ). Some w) (sym c.as_str.ensures.value))
    c.serve.ensures
