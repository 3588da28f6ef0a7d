-- What a run says of the verdict on its input it says of the verdicts on inputs that hold the same batches, or that differ in unknown
-- members alone.
use Rattle.std.proofs.Common.{◌↔◌, ℕ, List, Option, Some, None}
use Rattle.span_io.specs.Limits.{AreLimits, shipped_limits}
use Rattle.span_io.specs.declared.form.Form.{Form}
use Rattle.span_io.specs.declared.limits.Limits.{Limits}
use Rattle.span_convert.specs.Reports.{IsVerdictAs}
use Rattle.span_convert.specs.SameBatches.{SameBatches}
use Rattle.span_convert.specs.SameDocuments.{AgreeingDocuments}
use Rattle.span_convert.specs.Verdicts.{Verdict}
use Rattle.span_convert.specs.declared.written.Written.{Written}
use Rattle.span_cli.specs.Jobs.{Job, Spans, HeaderLines, Gauge, IfSpans}
use Rattle.span_cli.specs.Outcomes.{Outcome, OnOutcome, OnSameBatches, OnAgreeingDocuments}
use Rattle.span_cli.proofs.WrittenSoFar.{shipped_valid}

on_same_batches : ((from other : Form) (what : Written) (limits : Limits) (bytes others : List ℕ) → AreLimits limits → SameBatches limits from bytes other others
    → (verdict : Verdict) → IsVerdictAs from what limits bytes verdict ↔ IsVerdictAs other what limits others verdict)
    → (from : Form) (what : Written) (left : Option (List ℕ)) (P : Outcome → Type 0) → OnOutcome (Spans from what) left P → OnSameBatches from what left P
on_same_batches law from what None P h = tt
on_same_batches law from what (Some bytes) P h = λ other others same outcome (verdict, is, outcome_is).
    h outcome (verdict, (law from other what shipped_limits bytes others shipped_valid same verdict).1 is, outcome_is)

on_agreeing_documents : ((from : Form) (what : Written) (limits : Limits) (bytes others : List ℕ) → AgreeingDocuments limits from bytes others
    → (verdict : Verdict) → IsVerdictAs from what limits bytes verdict ↔ IsVerdictAs from what limits others verdict)
    → (from : Form) (what : Written) (left : Option (List ℕ)) (P : Outcome → Type 0) → OnOutcome (Spans from what) left P → OnAgreeingDocuments from what left P
on_agreeing_documents law from what None P h = tt
on_agreeing_documents law from what (Some bytes) P h = λ others agree outcome (verdict, is, outcome_is).
    h outcome (verdict, (law from what shipped_limits bytes others agree verdict).1 is, outcome_is)

module _ (left : Option (List ℕ)) (P : Outcome → Type 0) where
  -- so are the outcomes on such other inputs, where spans are read
  pub carried_out_same : ((from other : Form) (what : Written) (limits : Limits) (bytes others : List ℕ) → AreLimits limits → SameBatches limits from bytes other others
      → (verdict : Verdict) → IsVerdictAs from what limits bytes verdict ↔ IsVerdictAs other what limits others verdict)
      → (job : Job) → OnOutcome job left P → IfSpans job (λ from what. OnSameBatches from what left P)
  carried_out_same law (Spans from what) carried = on_same_batches law from what left P carried
  carried_out_same law (HeaderLines form) carried = tt
  carried_out_same law (Gauge spans) carried = tt

  pub carried_out_agreeing : ((from : Form) (what : Written) (limits : Limits) (bytes others : List ℕ) → AgreeingDocuments limits from bytes others
      → (verdict : Verdict) → IsVerdictAs from what limits bytes verdict ↔ IsVerdictAs from what limits others verdict)
      → (job : Job) → OnOutcome job left P → IfSpans job (λ from what. OnAgreeingDocuments from what left P)
  carried_out_agreeing law (Spans from what) carried = on_agreeing_documents law from what left P carried
  carried_out_agreeing law (HeaderLines form) carried = tt
  carried_out_agreeing law (Gauge spans) carried = tt
