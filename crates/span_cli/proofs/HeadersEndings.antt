-- Each way for a run of `headers` to end.
use Rattle.std.proofs.Common.{◌≡◌, ◌+◌, ◌<◌, ◌≤◌, ℕ, Bool, List, [], length, Option, Some, None, refl, sym, ap, subst, ◌∙◌, inl, inr, arith, append-nil, length-append}
use Rattle.std.specs.Prelude.{IfSome}
use Rattle.std.specs.Io.KnownBytes.{Consumes}
use Rattle.propagation.specs.Heads.{told, refused}
use Rattle.propagation.specs.StatedLaws.{OneHeaderVerdict}
use Rattle.propagation.specs.NormalContexts.{CannotTell, context_lines}
use Rattle.propagation.specs.declared.context.Context.{Context}
use Rattle.propagation.specs.declared.header_cause.HeaderCause.{HeaderCause}
use Rattle.propagation.specs.declared.header_form.HeaderForm.{HeaderForm}
use Rattle.span_io.specs.Outside.{Inlet, Outlet, Gains, GainsFront, NoReadInVain, OutputFails, OutputHolds, FailsWithin}
use Rattle.span_cli.specs.Inputs.{GaveInput, header_limit, piece}
use Rattle.span_cli.specs.private.ReadBlocks.{IsReadWhole, BlockHalts}
use Rattle.span_cli.specs.Jobs.{HeaderLines}
use Rattle.span_cli.specs.Lines.{said, header_cause_line, too_long_line}
use Rattle.span_cli.specs.Outcomes.{Outcome, IsHeadersOutcome, too_long, bad, no_ids, written, OnOutcome, IsJudgedAt}
use Rattle.span_cli.specs.Runs.{none, some}
use Rattle.span_cli.specs.private.RunSteps.{EndsRun, TellsLines, HaltsLines}
use Rattle.span_cli.specs.declared.ending.Ending.{Ending}
use Rattle.span_cli.specs.declared.ending.Ending.TheVariants as endings
use Rattle.span_cli.proofs.EndingLaws.{RunCourse, Carries, all_told, always, ends_input_unwritten, ends_no_memory, ends_output_failed, ends_said, gains_nothing, holds_nothing, unlike}

-- ---- a block has one outcome

same_context : (a b : Context) (d e : Bool) → told a d ≡ told b e → a ≡ b
same_context a b d e same = cc

same_cause : (a b : HeaderCause) → refused a ≡ refused b → a ≡ b
same_cause a b same = cc

told_refused : (c : Context) (d : Bool) (cause : HeaderCause) → told c d ≡ refused cause → ⊥
told_refused c d cause same = absurd (cc)

module _ (law : OneHeaderVerdict) (form : HeaderForm) where
  one_outcome : (bytes : List ℕ) (a b : Outcome) → IsHeadersOutcome form bytes a → IsHeadersOutcome form bytes b → a ≡ b
  one_outcome bytes a b (too_long long e) (too_long long' e') = e ∙ sym e'
  one_outcome bytes a b (too_long long e) (bad cause within why e') = absurd (omega (arith, long, within))
  one_outcome bytes a b (too_long long e) (no_ids c d within head cannot e') = absurd (omega (arith, long, within))
  one_outcome bytes a b (too_long long e) (written c d within head can e') = absurd (omega (arith, long, within))
  one_outcome bytes a b (bad cause within why e) (too_long long e') = absurd (omega (arith, long, within))
  one_outcome bytes a b (bad cause within why e) (bad cause' within' why' e') =
      e ∙ ap (λ (x : HeaderCause). record { status = 3; text = []; line = header_cause_line x }) (same_cause cause cause' (law.one bytes (refused cause) (refused cause') why why')) ∙ sym e'
  one_outcome bytes a b (bad cause within why e) (no_ids c d within' head cannot e') = absurd (told_refused c d cause (law.one bytes (told c d) (refused cause) head why))
  one_outcome bytes a b (bad cause within why e) (written c d within' head can e') = absurd (told_refused c d cause (law.one bytes (told c d) (refused cause) head why))
  one_outcome bytes a b (no_ids c d within head cannot e) (too_long long e') = absurd (omega (arith, long, within))
  one_outcome bytes a b (no_ids c d within head cannot e) (bad cause within' why e') = absurd (told_refused c d cause (law.one bytes (told c d) (refused cause) head why))
  one_outcome bytes a b (no_ids c d within head cannot e) (no_ids c' d' within' head' cannot' e') = e ∙ sym e'
  one_outcome bytes a b (no_ids c d within head cannot e) (written c' d' within' head' can e') =
      absurd (can (subst (λ (x : Context). CannotTell form x) (same_context c c' d d' (law.one bytes (told c d) (told c' d') head head')) cannot))
  one_outcome bytes a b (written c d within head can e) (too_long long e') = absurd (omega (arith, long, within))
  one_outcome bytes a b (written c d within head can e) (bad cause within' why e') = absurd (told_refused c d cause (law.one bytes (told c d) (refused cause) head why))
  one_outcome bytes a b (written c d within head can e) (no_ids c' d' within' head' cannot e') =
      absurd (can (subst (λ (x : Context). CannotTell form x) (same_context c' c d' d (law.one bytes (told c' d') (told c d) head' head)) cannot))
  one_outcome bytes a b (written c d within head can e) (written c' d' within' head' can' e') =
      e ∙ ap (λ (x : Context). record { status = 0; text = context_lines form x; line = [] }) (same_context c c' d d' (law.one bytes (told c d) (told c' d') head head')) ∙ sym e'

  -- what holds of the outcome that was found holds of each
  on_told : (left : Option (List ℕ)) (found : Outcome) (P : Outcome → Type 0) → IfSome left (λ bytes. IsHeadersOutcome form bytes found) → P found → OnOutcome (HeaderLines form) left P
  on_told None found P is holds = tt
  on_told (Some bytes) found P is holds = λ outcome is'. subst P (one_outcome bytes found outcome is is') holds

judged_told : (form : HeaderForm) (left : Option (List ℕ)) (found : Outcome) → IfSome left (λ bytes. IsHeadersOutcome form bytes found) → IfSome left (IsJudgedAt (HeaderLines form) said)
judged_told form None found is = tt
judged_told form (Some bytes) found is = (found, is)

-- bytes behind a front that is too long change nothing
too_long_told : (form : HeaderForm) (left now : Option (List ℕ)) (given : List ℕ) → Consumes left now given → header_limit < length given
    → IfSome left (λ bytes. IsHeadersOutcome form bytes (record { status = 3; text = []; line = too_long_line }))
too_long_told form None now given gave long = tt
too_long_told form (Some bytes) None given gave long = absurd gave
too_long_told form (Some bytes) (Some rest) given gave long =
    too_long (subst (λ (l : List ℕ). header_limit < length l) (sym gave) (omega (arith, long, length-append given rest))) refl

module _ {K : Type 0} (outlet : K → Outlet) (law : OneHeaderVerdict) (form : HeaderForm) (before now : Inlet) (old : K) where
  -- ---- nothing was written

  course_unwritten : (given : List ℕ) → GaveInput before now given → length given ≤ header_limit + piece → NoReadInVain before now → RunCourse outlet (HeaderLines form) before now old old
  course_unwritten given gave within in_vain = record {
    reads = record { given = given; gave = gave; within = within };
    in_vain = in_vain;
    front = record { given = given; gave = gave; front = none (gains_nothing (outlet old)) };
  }

  nothing_whole : IfSome before.left (λ bytes. Unit {0})
  nothing_whole = always before.left (λ bytes. Unit {0}) (λ bytes. tt)

  -- an outcome of which nothing is written
  says_nothing : (ending : Ending) (found : Outcome) → IfSome before.left (λ bytes. IsHeadersOutcome form bytes found) → Carries outlet (HeaderLines form) before now old old ending found
      → OnOutcome (HeaderLines form) before.left (Carries outlet (HeaderLines form) before now old old ending)
  says_nothing ending found is by = on_told law form before.left found (Carries outlet (HeaderLines form) before now old old ending) is by

  ends_too_long : (given : List ℕ) → GaveInput before now given → length given ≤ header_limit + piece → NoReadInVain before now → now.faults ≡ before.faults → header_limit < length given
      → EndsRun outlet (HeaderLines form) endings.TooLong before now old old
  ends_too_long given gave within in_vain still long =
      let is = too_long_told form before.left now.left given gave long in
      ends_said outlet (HeaderLines form) before now old old endings.TooLong refl (unlike 3 5 (inl (omega arith))) (unlike 3 6 (inl (omega arith))) (λ e. tt) (λ e. absurd (unlike 3 0 (inr (omega arith)) e)) (λ e. nothing_whole)
      (course_unwritten given gave within in_vain) still (holds_nothing (outlet old)) (judged_told form before.left _ is)
      (says_nothing endings.TooLong _ is (record { agrees = refl; writes = gains_nothing (outlet old); notes = refl }))

  -- the block wasn't read to its end
  pub ends_block : (ending : Ending) → BlockHalts ending before now → EndsRun outlet (HeaderLines form) ending before now old old
  ends_block endings.Whole halts = absurd halts.why
  ends_block (endings.Refused refusal) halts = absurd halts.why
  ends_block (endings.Faulted noted) halts = absurd halts.why
  ends_block (endings.BadHeaders cause) halts = absurd halts.why
  ends_block endings.NoIds halts = absurd halts.why
  ends_block endings.OutputFailed halts = absurd halts.why
  ends_block endings.TooLong halts = ends_too_long halts.given halts.gave halts.within halts.in_vain halts.why.0 halts.why.1
  ends_block endings.InputFailed halts = ends_input_unwritten outlet (HeaderLines form) before now old old (course_unwritten halts.given halts.gave halts.within halts.in_vain) halts.why.0 halts.why.1 refl
      (record { given = halts.given; gave = halts.gave; within = halts.why.2 }, refl)
  ends_block endings.NoMemory halts = ends_no_memory outlet (HeaderLines form) before now old old (course_unwritten halts.given halts.gave halts.within halts.in_vain) halts.why refl

  -- ---- the block was read to its end

  module _ (block : List ℕ) (read : IsReadWhole before now block) (within : length block ≤ header_limit) where
    whole_told : (found : Outcome) → IsHeadersOutcome form block found → IfSome before.left (λ bytes. IsHeadersOutcome form bytes found)
    whole_told found is = all_told before.left now.left block (λ bytes. IsHeadersOutcome form bytes found) read.gave read.all_read.told is

    few : length block ≤ header_limit + piece
    few = omega (arith, within)

    -- it tells no context, or none that the form can tell
    pub ends_lines : (ending : Ending) → HaltsLines ending form block → EndsRun outlet (HeaderLines form) ending before now old old
    ends_lines endings.Whole halts = absurd halts
    ends_lines (endings.Refused refusal) halts = absurd halts
    ends_lines (endings.Faulted noted) halts = absurd halts
    ends_lines endings.TooLong halts = absurd halts
    ends_lines endings.InputFailed halts = absurd halts
    ends_lines endings.OutputFailed halts = absurd halts
    ends_lines endings.NoMemory halts = ends_no_memory outlet (HeaderLines form) before now old old (course_unwritten block read.gave few read.in_vain) read.quiet refl
    ends_lines (endings.BadHeaders cause) halts =
        let is = whole_told _ (bad cause within halts refl) in
        ends_said outlet (HeaderLines form) before now old old (endings.BadHeaders cause) refl (unlike 3 5 (inl (omega arith))) (unlike 3 6 (inl (omega arith))) (λ e. tt) (λ e. absurd (unlike 3 0 (inr (omega arith)) e)) (λ e. nothing_whole)
        (course_unwritten block read.gave few read.in_vain) read.quiet (holds_nothing (outlet old)) (judged_told form before.left _ is)
        (says_nothing (endings.BadHeaders cause) _ is (record { agrees = refl; writes = gains_nothing (outlet old); notes = refl }))
    ends_lines endings.NoIds halts =
        let is = whole_told _ (no_ids halts.context halts.dropped within halts.told halts.cannot refl) in
        ends_said outlet (HeaderLines form) before now old old endings.NoIds refl (unlike 4 5 (inl (omega arith))) (unlike 4 6 (inl (omega arith))) (λ e. tt) (λ e. absurd (unlike 4 0 (inr (omega arith)) e)) (λ e. nothing_whole)
        (course_unwritten block read.gave few read.in_vain) read.quiet (holds_nothing (outlet old)) (judged_told form before.left _ is)
        (says_nothing endings.NoIds _ is (record { agrees = refl; writes = gains_nothing (outlet old); notes = refl }))

    -- it tells a context, whose lines were written, or the output failed within them
    module _ (lines : List ℕ) (tells : TellsLines form block lines) (new : K) where
      abbrev found : Outcome
      found = record { status = 0; text = context_lines form tells.context; line = [] }

      found_told : IfSome before.left (λ bytes. IsHeadersOutcome form bytes found)
      found_told = whole_told found (written tells.context tells.dropped within tells.told tells.can_tell refl)

      course_written : GainsFront (outlet old) (outlet new) lines → RunCourse outlet (HeaderLines form) before now old new
      course_written front = record {
        reads = record { given = block; gave = read.gave; within = few };
        in_vain = read.in_vain;
        front = record {
          given = block;
          gave = read.gave;
          front = some tells.context tells.dropped tells.told (subst (λ (l : List ℕ). GainsFront (outlet old) (outlet new) l) tells.are_lines front);
        };
      }

      pub ends_written : Gains (outlet old) (outlet new) lines → OutputHolds (outlet old) (outlet new) → EndsRun outlet (HeaderLines form) endings.Whole before now old new
      ends_written gains holds =
          ends_said outlet (HeaderLines form) before now old new endings.Whole refl (unlike 0 5 (inl (omega arith))) (unlike 0 6 (inl (omega arith))) (λ e. tt) (λ e. read.all_read) (λ e. nothing_whole)
          (course_written (record { front = lines; is_front = ([], sym (append-nil lines)); gains = gains })) read.quiet holds (judged_told form before.left found found_told)
          (on_told law form before.left found (Carries outlet (HeaderLines form) before now old new endings.Whole) found_told
          (record { agrees = refl; writes = subst (λ (l : List ℕ). Gains (outlet old) (outlet new) l) tells.are_lines gains; notes = refl }))

      pub ends_failed : OutputFails (outlet old) (outlet new) → FailsWithin (outlet old) (outlet new) lines → EndsRun outlet (HeaderLines form) endings.OutputFailed before now old new
      ends_failed fails inside =
          ends_output_failed outlet (HeaderLines form) before now old new (course_written inside.front) read.quiet fails
          (on_told law form before.left found (λ o. FailsWithin (outlet old) (outlet new) o.text) found_told (subst (λ (l : List ℕ). FailsWithin (outlet old) (outlet new) l) tells.are_lines inside))
