-- What a run did that wrote the whole text.
use Rattle.std.proofs.Common.{◌≡◌, ◌≤◌, ℕ, List, Option, Some, None, ap, subst, ◌∙◌, arith}
use Rattle.std.specs.Prelude.{IfSome}
use Rattle.span_io.specs.Outside.{Outlet, Gains}
use Rattle.span_cli.specs.Jobs.{Job}
use Rattle.span_cli.specs.Lines.{said, stage_of}
use Rattle.span_cli.specs.Outcomes.{Outcome, CarriesOut, IsOutcome, OnOutcome, IsJudgedAt}

pub not_zero : (outcome other : Outcome) (status : ℕ) → 0 ≡ outcome.status → outcome ≡ other → other.status ≡ status → 1 ≤ status → ⊥
not_zero outcome other status agrees is same some = let e = agrees ∙ ap (λ (o : Outcome). o.status) is ∙ same in omega arith

module _ (job : Job) (before now : Outlet) (Noted P : List ℕ → Type 0)
    (shown : (bytes : List ℕ) (outcome : Outcome) → IsOutcome job bytes outcome → 0 ≡ outcome.status → Gains before now outcome.text → P bytes) where
  on_bytes : (left : Option (List ℕ)) → IfSome left (IsJudgedAt job said) → OnOutcome job left (CarriesOut 0 before now Noted) → IfSome left P
  on_bytes None judged carried = tt
  on_bytes (Some bytes) (outcome, is) carried = shown bytes outcome is (carried outcome is).agrees (carried outcome is).writes

  pub whole_run : (left : Option (List ℕ)) (status : ℕ) → IfSome left (IsJudgedAt job (stage_of status)) → OnOutcome job left (CarriesOut status before now Noted) → status ≡ 0 → IfSome left P
  whole_run left status judged carried zero = on_bytes left
      (subst (λ (s : ℕ). IfSome left (IsJudgedAt job (stage_of s))) zero judged)
      (subst (λ (s : ℕ). OnOutcome job left (CarriesOut s before now Noted)) zero carried)
