-- The spans of a group that Jaeger can hold, each by itself; and such a group, by its resource and spans.
use Rattle.std.proofs.Common.{ℕ, List, [], ◌∷◌, map, All, refl, sym, subst, arith}
use Rattle.std.specs.Prelude.{◌≢◌, IsUtf8}
use Rattle.std.proofs.lemmas.List.Elements.{All-nil, All-cons, All-head, All-tail, All-map, All-weaker}
use Rattle.std.proofs.lemmas.Str.{IsUtf8-nil}
use Rattle.trace_model.specs.Proper.{IsProperPair, AreProper, IsProperSpan, IsProperScope}
use Rattle.trace_model.specs.Soundness.{IsSoundSpan, IsSoundScope}
use Rattle.trace_model.specs.Values.{IsSound, AreSound}
use Rattle.trace_model.specs.declared.fault.Fault.{Fault}
use Rattle.trace_model.specs.declared.span.Span.{Span}
use Rattle.trace_model.specs.declared.group.Group.{Group}
use Rattle.trace_model.specs.declared.group.Scope.{Scope}
use Rattle.trace_model.specs.declared.value.Value.{Value}
use Rattle.span_tags.proofs.AttributeLaws.{attrs_rise}
use Rattle.span_tags.proofs.FaultLaws.{sound_spans, none_plain, plain_spans, none_counts}
use Rattle.span_tags.specs.Runs.{IsPlain}
use Rattle.span_tags.proofs.RunLaws.{scoped_all, scoped_runs, runs_each}
use Rattle.span_tags.specs.Runs.{Scoped, spans_of, scoped, runs}
use Rattle.map_jaeger.specs.Faults.{IsSpanFault, IsResourceFault, HasNoFault}
use Rattle.map_jaeger.specs.StatedLaws.{IsHeld}
use Rattle.map_jaeger.specs.LeastFault.{jaeger_faults}
use Rattle.map_jaeger.proofs.FaultRows.{finds_faults}

abbrev pub NoSpanFault : Span → Type 0
NoSpanFault span = (fault : Fault) → IsSpanFault span fault → ⊥

abbrev pub NoResourceFault : List (List ℕ × Value) → Type 0
NoResourceFault resource = (fault : Fault) → IsResourceFault resource fault → ⊥

-- a span that Jaeger can hold, under the name and version of its scope
pub record IsHeldSpan (one : Scoped Span) : Type 0 where
  pub name : IsUtf8 one.name
  pub version : IsUtf8 one.version
  pub sound : IsSoundSpan one.span
  pub proper : IsProperSpan one.span
  pub no_fault : NoSpanFault one.span

-- ---- what a group is, by its spans

-- a group of a resource and runs of spans
abbrev pub group_by : List (List ℕ × Value) → List (Scoped Span) → Group
group_by resource spans = record { resource = resource; dropped = 0; schema_url = []; scopes = runs spans }

all_mapped : {X Y : Type 0} (P : Y → Type 0) (f : X → Y) (xs : List X) → All P (map f xs) → All (λ x. P (f x)) xs
all_mapped P f [] all = All-nil (λ x. P (f x))
all_mapped P f (x ∷ xs) all = All-cons (λ x. P (f x)) x xs (All-head P (f x) (map f xs) all) (all_mapped P f xs (All-tail P (f x) (map f xs) all))

-- ---- faults

pub no_fault_by : (group : Group) → NoResourceFault group.resource → All (λ one. NoSpanFault one.span) (scoped group.scopes) → HasNoFault group
no_fault_by = none_counts IsResourceFault IsSpanFault (none_plain jaeger_faults IsResourceFault IsSpanFault finds_faults)

-- ---- there and back

record IsProperScoped (one : Scoped Span) : Type 0 where
  name : IsUtf8 one.name
  version : IsUtf8 one.version
  span : IsProperSpan one.span

scope_proper : (scope : Scope) → IsProperScope scope → All IsProperScoped (spans_of scope)
scope_proper scope proper = All-map IsProperScoped (λ span. record { name = scope.name; version = scope.version; span = span }) scope.spans
    (λ k d lt. record { name = proper.name; version = proper.version; span = proper.spans k d lt })

pub held_spans : (group : Group) → IsHeld group → All IsHeldSpan (scoped group.scopes)
held_spans group held =
    let sound : All (λ one. IsSoundSpan one.span) (scoped group.scopes) = sound_spans group held.sound in
    let proper : All IsProperScoped (scoped group.scopes) =
    scoped_all IsProperScoped group.scopes (All-weaker IsProperScope (λ scope. All IsProperScoped (spans_of scope)) scope_proper group.scopes held.proper.scopes) in
    λ k d lt. record {
      name = (proper k d lt).name;
      version = (proper k d lt).version;
      sound = sound k d lt;
      proper = (proper k d lt).span;
      no_fault = plain_spans IsResourceFault IsSpanFault group held.no_fault k d lt;
    }

none_sound : AreSound []
none_sound = record { rising = attrs_rise {V = Value} []; values = All-nil (λ pair. IsSound pair.1) }

run_spans : (Q : Scoped Span → Type 0) (scope : Scope) → All Q (spans_of scope) → All (λ span. Q (record { name = scope.name; version = scope.version; span = span })) scope.spans
run_spans Q scope all = all_mapped Q (λ span. record { name = scope.name; version = scope.version; span = span }) scope.spans all

run_sound : (scope : Scope) → IsPlain scope × All IsHeldSpan (spans_of scope) → IsSoundScope scope
run_sound scope (plain, held) = record {
  attributes = subst AreSound (sym plain.attributes) none_sound;
  spans = λ k d lt. (run_spans IsHeldSpan scope held k d lt).sound;
}

first_held : (name version : List ℕ) (spans : List Span) → spans ≢ [] → All (λ span. IsHeldSpan (record { name = name; version = version; span = span })) spans → IsUtf8 name × IsUtf8 version
first_held name version [] some all = absurd (some refl)
first_held name version (span ∷ spans) some all =
    let first = All-head (λ span. IsHeldSpan (record { name = name; version = version; span = span })) span spans all in (first.name, first.version)

run_proper : (scope : Scope) → IsPlain scope × All IsHeldSpan (spans_of scope) → IsProperScope scope
run_proper scope (plain, held) =
    let each = run_spans IsHeldSpan scope held in
    let first = first_held scope.name scope.version scope.spans plain.some each in
    record {
      name = first.0;
      version = first.1;
      attributes = subst AreProper (sym plain.attributes) (All-nil IsProperPair);
      dropped = omega (arith, plain.dropped);
      schema_url = subst IsUtf8 (sym plain.schema_url) IsUtf8-nil;
      spans = λ k d lt. (each k d lt).proper;
    }

-- the group of a resource and spans that Jaeger can hold is held
pub held_by : (resource : List (List ℕ × Value)) (spans : List (Scoped Span)) → AreSound resource → AreProper resource → NoResourceFault resource → All IsHeldSpan spans → IsHeld (group_by resource spans)
held_by resource spans sound proper plain held =
    let each = runs_each IsHeldSpan spans held in
    record {
      sound = record {
        resource = sound;
        scopes = All-weaker (λ scope. IsPlain scope × All IsHeldSpan (spans_of scope)) IsSoundScope run_sound (runs spans) each;
      };
      proper = record {
        resource = proper;
        dropped = omega arith;
        schema_url = IsUtf8-nil;
        scopes = All-weaker (λ scope. IsPlain scope × All IsHeldSpan (spans_of scope)) IsProperScope run_proper (runs spans) each;
      };
      no_fault = no_fault_by (group_by resource spans) plain (subst (All (λ one. NoSpanFault one.span)) (sym (scoped_runs spans)) (λ k d lt. (held k d lt).no_fault));
    }
