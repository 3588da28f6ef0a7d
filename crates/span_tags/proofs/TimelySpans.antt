-- Memory is wanted for the fault of spans only where the first of them doesn't end before its start: behind one that does,
-- none is looked at.
use Rattle.std.proofs.Common.{◌≡◌, ℕ, Bool, true, false, List, [], ◌∷◌, ◌++◌, map, Option, Some, None, refl, sym, ap, ◌∙◌}
use Rattle.std.specs.Prelude.{nat_lt}
use Rattle.std.specs.Option.{option_or}
use Rattle.std.proofs.lemmas.Bool.{ltb-false}
use Rattle.trace_model.specs.declared.fault.Fault.{Fault}
use Rattle.trace_model.specs.declared.fault.Fault.TheVariants.{EndBeforeStart}
use Rattle.trace_model.specs.declared.span.Span.{Span}
use Rattle.trace_model.specs.declared.group.Scope.{Scope}
use Rattle.span_tags.specs.FaultTables.{FaultTable, IsTimely, BeginsWith, if_so, fault_of_span, fault_of_spans, fault_of_scopes}
use Rattle.span_tags.specs.Runs.{Scoped, under, scoped}

not_early : (early : Bool) (rest : Option Fault) → option_or (if_so early EndBeforeStart) rest ≡ None → early ≡ false
not_early true rest none = let never : ◌≡◌ {A = Option Fault} (Some EndBeforeStart) None = none in absurd (cc)
not_early false rest none = refl

no_first : (one other : Option Fault) → option_or one other ≡ None → one ≡ None
no_first None other none = refl
no_first (Some fault) other none = none

module _ (table : FaultTable) where
  timely : (span : Span) → fault_of_span table span ≡ None → IsTimely span
  timely span none = ltb-false span.end span.start (not_early (nat_lt span.end span.start) _ none)

  -- the spans that are left, where those before them have no fault
  pub record SpansPassed (spans left : List Span) : Type 0 where
    pub same : fault_of_spans table left ≡ fault_of_spans table spans
    pub begins : BeginsWith IsTimely left → BeginsWith IsTimely spans

  pub spans_begin : (spans : List Span) → SpansPassed spans spans
  spans_begin spans = record { same = refl; begins = λ h. h }

  pub spans_pass : (spans more : List Span) (span : Span) → fault_of_span table span ≡ None → SpansPassed spans (span ∷ more) → SpansPassed spans more
  spans_pass spans more span none passed = record {
    same = sym (ap (λ found. option_or found (fault_of_spans table more)) none) ∙ passed.same;
    begins = λ h. passed.begins (timely span none);
  }

  -- the same of scopes
  pub record ScopesPassed (scopes left : List Scope) : Type 0 where
    pub same : fault_of_scopes table left ≡ fault_of_scopes table scopes
    pub begins : BeginsWith (λ one. IsTimely one.span) (scoped left) → BeginsWith (λ one. IsTimely one.span) (scoped scopes)

  pub scopes_begin : (scopes : List Scope) → ScopesPassed scopes scopes
  scopes_begin scopes = record { same = refl; begins = λ h. h }

  -- the first span of a scope is the first of all that follow
  first_under : (name version : List ℕ) (spans : List Span) (more : List (Scoped Span)) → BeginsWith IsTimely spans
      → BeginsWith (λ one. IsTimely one.span) (map (under name version) spans ++ more)
  first_under name version [] more h = absurd h
  first_under name version (span ∷ spans) more h = h

  -- behind spans without a fault
  later_under : (name version : List ℕ) (spans : List Span) (more : List (Scoped Span)) → fault_of_spans table spans ≡ None
      → BeginsWith (λ one. IsTimely one.span) more → BeginsWith (λ one. IsTimely one.span) (map (under name version) spans ++ more)
  later_under name version [] more none h = h
  later_under name version (span ∷ spans) more none h = timely span (no_first (fault_of_span table span) (fault_of_spans table spans) none)

  pub scopes_pass : (scopes more : List Scope) (scope : Scope) → fault_of_spans table scope.spans ≡ None → ScopesPassed scopes (scope ∷ more)
      → ScopesPassed scopes more
  scopes_pass scopes more scope none passed = record {
    same = sym (ap (λ found. option_or found (fault_of_scopes table more)) none) ∙ passed.same;
    begins = λ h. passed.begins (later_under scope.name scope.version scope.spans (scoped more) none h);
  }

  pub scopes_want : (scopes more : List Scope) (scope : Scope) → BeginsWith IsTimely scope.spans → ScopesPassed scopes (scope ∷ more)
      → BeginsWith (λ one. IsTimely one.span) (scoped scopes)
  scopes_want scopes more scope h passed = passed.begins (first_under scope.name scope.version scope.spans (scoped more) h)
