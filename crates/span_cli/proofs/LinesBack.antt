-- What was written of header lines is read back as the normal form of their context.
use Rattle.std.proofs.Common.{◌≡◌, ℕ, List, Option, refl, ap, subst, arith}
use Rattle.std.specs.Prelude.{IfSome}
use Rattle.propagation.specs.StatedLaws.{ContextsAreNormal, HeadsAreSound, HeadersReadBack}
use Rattle.propagation.specs.NormalContexts.{context_lines}
use Rattle.propagation.specs.declared.header_form.HeaderForm.{HeaderForm}
use Rattle.span_io.specs.Outside.{Outlet, Gains}
use Rattle.span_cli.specs.Jobs.{HeaderLines}
use Rattle.span_cli.specs.Lines.{stage_of}
use Rattle.span_cli.specs.Outcomes.{Outcome, IsHeadersOutcome, too_long, bad, no_ids, written, OnOutcome, IsJudgedAt, CarriesOut, WritesLinesOf}
use Rattle.span_cli.proofs.WholeRuns.{not_zero, whole_run}

module _ (normal : ContextsAreNormal) (sound : HeadsAreSound) (back : HeadersReadBack) (form : HeaderForm) where
  lines_of_block : (bytes : List ℕ) (outcome : Outcome) (before now : Outlet) → IsHeadersOutcome form bytes outcome → 0 ≡ outcome.status → Gains before now outcome.text → WritesLinesOf form before now bytes
  lines_of_block bytes outcome before now (too_long long e) agrees gains = absurd (not_zero outcome _ 3 agrees e refl (omega arith))
  lines_of_block bytes outcome before now (bad cause within why e) agrees gains = absurd (not_zero outcome _ 3 agrees e refl (omega arith))
  lines_of_block bytes outcome before now (no_ids c dropped within head cannot e) agrees gains = absurd (not_zero outcome _ 4 agrees e refl (omega arith))
  lines_of_block bytes outcome before now (written c dropped within head can e) agrees gains =
      let is_sound = sound.sound bytes c dropped head in
      let is_proper = sound.proper bytes c dropped head in
      record {
        context = c;
        dropped = dropped;
        read = head;
        lines = context_lines form c;
        gains = subst (λ (text : List ℕ). Gains before now text) (ap (λ (o : Outcome). o.text) e) gains;
        are_lines = record {
          told = back.read_back form c is_sound is_proper can;
          itself = normal.normal_again form c;
          equal = λ other other_sound other_proper other_can. back.equal_lines form other c other_sound other_proper other_can is_sound is_proper can;
        };
      }

  pub lines_back : (left : Option (List ℕ)) (status : ℕ) (before now : Outlet) (Noted : List ℕ → Type 0) → IfSome left (IsJudgedAt (HeaderLines form) (stage_of status))
      → OnOutcome (HeaderLines form) left (CarriesOut status before now Noted) → status ≡ 0 → IfSome left (WritesLinesOf form before now)
  lines_back left status before now Noted = whole_run (HeaderLines form) before now Noted (WritesLinesOf form before now)
      (λ bytes outcome is zero gains. lines_of_block bytes outcome before now is zero gains) left status
