-- The groups that are read are sound, whatever the spans are.
use Rattle.std.proofs.Common.{List, All, map, get_or, sym, subst}
use Rattle.std.proofs.lemmas.List.Elements.{All-map, All-weaker}
use Rattle.span_tags.specs.Runs.{IsPlain}
use Rattle.span_tags.proofs.RunLaws.{scoped_each}
use Rattle.span_tags.specs.Runs.{Scoped, spans_of}
use Rattle.trace_model.specs.Soundness.{IsSoundSpan, IsSoundScope, IsSoundGroup}
use Rattle.trace_model.specs.Values.{AreSound}
use Rattle.trace_model.specs.declared.span.Span.{Span}
use Rattle.trace_model.specs.declared.group.Group.{Group}
use Rattle.trace_model.specs.declared.group.Scope.{Scope}
use Rattle.zipkin_json.specs.declared.span.ZSpan.{ZSpan}
use Rattle.map_zipkin.specs.Reading.{run_span_of, groups_of}
use Rattle.map_zipkin.proofs.EventFacts.{EventsRead}
use Rattle.map_zipkin.proofs.GroupsHeld.{none_sound, run_spans}
use Rattle.map_zipkin.proofs.ReadHeld.{resource_sound, span_sound}
use Rattle.map_zipkin.proofs.Regrouping.{IsGroupOf, IsRunOf, regrouped_all}

abbrev IsSoundOne : Scoped Span → Type 0
IsSoundOne one = IsSoundSpan one.span

abbrev HasSoundParts : Group → Type 0
HasSoundParts = IsGroupOf AreSound IsSoundOne

scope_sound : (scope : Scope) → IsPlain scope → All IsSoundOne (spans_of scope) → IsSoundScope scope
scope_sound scope plain sound = record {
  attributes = subst AreSound (sym plain.attributes) none_sound;
  spans = run_spans IsSoundOne scope sound;
}

group_sound : (group : Group) → HasSoundParts group → IsSoundGroup group
group_sound group parts = record {
  resource = parts.resource;
  scopes = λ k d lt. scope_sound (get_or group.scopes k d) (parts.plain k d lt) (scoped_each IsSoundOne group.scopes parts.spans k d lt);
}

pub groups_sound : EventsRead → (spans : List ZSpan) → All IsSoundGroup (groups_of spans)
groups_sound facts spans = All-weaker HasSoundParts IsSoundGroup group_sound (groups_of spans)
    (regrouped_all AreSound IsSoundOne (map run_span_of spans)
    (All-map (IsRunOf AreSound IsSoundOne) run_span_of spans (λ k d lt. (resource_sound (get_or spans k d), span_sound facts (get_or spans k d)))))
