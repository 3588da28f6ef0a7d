-- What the words ask for, as it was read of them.
use Rattle.std.proofs.Common.{◌≡◌, ◌≢◌, ◌↔◌, ℕ, List, Option, Some, refl, sym, ap, subst, ◌∙◌, arith}
use Rattle.std.specs.Prelude.{slice_get}
use Rattle.span_io.specs.declared.form.Form.{Form}
use Rattle.span_cli.specs.Commands.{OnJob, OnServing, Spells, SpellsServe}
use Rattle.span_cli.specs.Jobs.{Job, IfMakes, task_of}
use Rattle.span_cli.specs.private.JobWords.{IsInRange}
use Rattle.span_cli.specs.declared.command.Command.{Command}
use Rattle.span_cli.specs.declared.command.Command.TheVariants as commands
use Rattle.span_cli.specs.declared.job.Task.{Task}
use Rattle.span_cli.specs.declared.job.Task.TheVariants as tasks
use Rattle.span_cli.specs.Servings.{end_status}
use Rattle.span_cli.specs.declared.serve.ServeEnd.{ServeEnd}
use Rattle.span_cli.specs.declared.serve.ServeEnd.TheVariants.{AllServed, DoorFailed, NoMemory}
use Rattle.span_cli.proofs.CommandLemmas.{in_range}
use Rattle.span_notes.proofs.WordLaws.{one_word}

-- ---- the status of serving

pub never_usage : (end : ServeEnd) → end_status end ≢ 2
never_usage AllServed e = absurd (omega (arith, e))
never_usage DoorFailed e = absurd (omega (arith, e))
never_usage NoMemory e = absurd (omega (arith, e))

-- ---- tasks

make_or_serve : (job : Job) (address : ℕ) (to : Form) (count : ℕ) → tasks.Make job ≡ tasks.Serve address to count → ⊥
make_or_serve job address to count e = cc

-- only `serve` asks for serving
serve_command : (command : Command) (address : ℕ) (to : Form) (count : ℕ) → task_of command ≡ tasks.Serve address to count → command ≡ commands.Serve address to count
serve_command (commands.Convert source target) address to count e = absurd (make_or_serve _ address to count e)
serve_command (commands.Losses source target) address to count e = absurd (make_or_serve _ address to count e)
serve_command (commands.Show source) address to count e = absurd (make_or_serve _ address to count e)
serve_command (commands.Check source) address to count e = absurd (make_or_serve _ address to count e)
serve_command (commands.Headers form) address to count e = absurd (make_or_serve _ address to count e)
serve_command (commands.Gauge spans) address to count e = absurd (make_or_serve _ address to count e)
serve_command (commands.Serve a t n) address to count e = cc

one_job : (job other : Job) → tasks.Make other ≡ tasks.Make job → other ≡ job
one_job job other e = cc

-- a job that a command has
on_job : (task : Task) (P : Job → Type 0) (job : Job) → task ≡ tasks.Make job → P job → IfMakes task P
on_job task P job is p = subst (λ (t : Task). IfMakes t P) (sym is) p

module _ (t : List (List ℕ)) (read : Command) (spelled : (command : Command) → (◌≡◌ {A = Option Command} (Some read) (Some command)) ↔ Spells command t)
    (task : Task) (is_task : task ≡ task_of read) where
  -- each command that the words spell is the one that was read
  task_is : (command : Command) → Spells command t → task_of command ≡ task
  task_is command spells = sym (is_task ∙ ap task_of (same command ((spelled command).1 spells)))
    where
      same : (other : Command) → ◌≡◌ {A = Option Command} (Some read) (Some other) → read ≡ other
      same other e = cc

  module _ (job : Job) (is : task ≡ tasks.Make job) where
    pub makes_it : (P : Job → Type 0) → P job → OnJob t P
    makes_it P p command spells = on_job (task_of command) P job (task_is command spells ∙ is) p

    -- it is that of each command that the words spell
    pub job_is : (command : Command) (other : Job) → task_of command ≡ tasks.Make other → Spells command t → other ≡ job
    job_is command other is_other spells = one_job job other (sym is_other ∙ task_is command spells ∙ is)

    pub within : IsInRange job
    within =
        let made : task_of read ≡ tasks.Make job = sym is_task ∙ is in
        subst (λ (k : Task). IfMakes k IsInRange) made (in_range read t ((spelled read).0 refl))

    pub serves_none : (P : List ℕ → Form → ℕ → Type 0) → OnServing t P
    serves_none P address to count spells word at = absurd (make_or_serve job address to count (sym is ∙ sym (task_is (commands.Serve address to count) spells)))

  module _ (address : ℕ) (to : Form) (count : ℕ) (is : task ≡ tasks.Serve address to count) where
    pub serve_spelled : SpellsServe address to count t
    serve_spelled = (spelled (commands.Serve address to count)).0
        (ap (λ (c : Command). Some c) (serve_command read address to count (sym is_task ∙ is)))

    pub no_other : (command : Command) (job : Job) → task_of command ≡ tasks.Make job → Spells command t → ⊥
    no_other command job is_made spells = make_or_serve job address to count (sym is_made ∙ task_is command spells ∙ is)

    pub serves_it : (P : List ℕ → Form → ℕ → Type 0) (own : List ℕ) → slice_get t address ≡ Some own → P own to count → OnServing t P
    serves_it P own here p a f n spells word at =
        let same = task_is (commands.Serve a f n) spells ∙ is in
        let same_address : a ≡ address = cc in
        let same_form : f ≡ to = cc in
        let same_count : n ≡ count = cc in
        let same_word : word ≡ own = one_word word own (sym at ∙ ap (λ (i : ℕ). slice_get t i) same_address ∙ here) in
        subst (λ (m : ℕ). P word f m) (sym same_count) (subst (λ (g : Form). P word g count) (sym same_form) (subst (λ (w : List ℕ). P w to count) (sym same_word) p))
