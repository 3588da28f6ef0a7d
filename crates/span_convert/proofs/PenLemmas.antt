-- What a writer of units adds, its pen adds.
use Rattle.std.proofs.Common.{ℕ, List}
use Rattle.trace_model.specs.OtlpParts.{NotedGroup}
use Rattle.span_convert.specs.Targets.{Target}
use Rattle.span_convert.specs.private.WalkSteps.{WritesUnit}
use Rattle.span_convert.specs.declared.tally.Tally.{Tally}

-- The pen stands for the same units.
pub by_pen : {to : Target} {V W : Type 0} {S : V → List NotedGroup → Type 0} {T : W → List NotedGroup → Type 0} {unit : NotedGroup} {tally : Tally} {v w : V} {x y : W} {old new : List ℕ}
    → ((units : List NotedGroup) → T x units → S v units) → ((units : List NotedGroup) → S w units → T y units) → WritesUnit to S unit tally v w old new → WritesUnit to T unit tally x y old new
by_pen before now h = record {
  held = h.held;
  added = h.added;
  appended = h.appended;
  adds = λ units held counts stands. (let more = h.adds units held counts (before units stands) in (more.0, now _ more.1));
}
