-- The spans of a group that Zipkin can hold, each by itself.
use Rattle.std.proofs.Common.{All}
use Rattle.std.specs.Prelude.{IsUtf8}
use Rattle.std.proofs.lemmas.List.Elements.{All-map, All-weaker}
use Rattle.trace_model.specs.Proper.{IsProperSpan, IsProperScope}
use Rattle.trace_model.specs.Soundness.{IsSoundSpan, IsSoundScope}
use Rattle.trace_model.specs.declared.fault.Fault.{Fault}
use Rattle.trace_model.specs.declared.span.Span.{Span}
use Rattle.trace_model.specs.declared.group.Group.{Group}
use Rattle.trace_model.specs.declared.group.Scope.{Scope}
use Rattle.span_tags.proofs.FaultLaws.{plain_spans}
use Rattle.span_tags.proofs.RunLaws.{scoped_all}
use Rattle.span_tags.specs.Runs.{Scoped, spans_of, scoped}
use Rattle.map_zipkin.specs.Faults.{IsZipkinResourceFault, IsZipkinSpanFault, HasNoZipkinFault}
use Rattle.map_zipkin.specs.StatedLaws.{IsHeldByZipkin}

abbrev pub NoSpanFault : Span → Type 0
NoSpanFault span = (fault : Fault) → IsZipkinSpanFault span fault → ⊥

-- a span that Zipkin can hold, under the name and version of its scope
pub record IsHeldSpan (one : Scoped Span) : Type 0 where
  pub name : IsUtf8 one.name
  pub version : IsUtf8 one.version
  pub sound : IsSoundSpan one.span
  pub proper : IsProperSpan one.span
  pub no_fault : NoSpanFault one.span

-- no span of a group without fault has one
pub spans_plain : (group : Group) → HasNoZipkinFault group → All (λ one. NoSpanFault one.span) (scoped group.scopes)
spans_plain = plain_spans IsZipkinResourceFault IsZipkinSpanFault

pub scope_sound : (scope : Scope) → IsSoundScope scope → All (λ one. IsSoundSpan one.span) (spans_of scope)
scope_sound scope sound = All-map (λ one. IsSoundSpan one.span) (λ span. record { name = scope.name; version = scope.version; span = span }) scope.spans sound.spans

record IsProperScoped (one : Scoped Span) : Type 0 where
  name : IsUtf8 one.name
  version : IsUtf8 one.version
  span : IsProperSpan one.span

scope_proper : (scope : Scope) → IsProperScope scope → All IsProperScoped (spans_of scope)
scope_proper scope proper = All-map IsProperScoped (λ span. record { name = scope.name; version = scope.version; span = span }) scope.spans
    (λ k d lt. record { name = proper.name; version = proper.version; span = proper.spans k d lt })

pub held_spans : (group : Group) → IsHeldByZipkin group → All IsHeldSpan (scoped group.scopes)
held_spans group held =
    let sound : All (λ one. IsSoundSpan one.span) (scoped group.scopes) =
    scoped_all (λ one. IsSoundSpan one.span) group.scopes (All-weaker IsSoundScope (λ scope. All (λ one. IsSoundSpan one.span) (spans_of scope)) scope_sound group.scopes held.sound.scopes) in
    let proper : All IsProperScoped (scoped group.scopes) =
    scoped_all IsProperScoped group.scopes (All-weaker IsProperScope (λ scope. All IsProperScoped (spans_of scope)) scope_proper group.scopes held.proper.scopes) in
    λ k d lt. record {
      name = (proper k d lt).name;
      version = (proper k d lt).version;
      sound = sound k d lt;
      proper = (proper k d lt).span;
      no_fault = spans_plain group held.no_fault k d lt;
    }
