-- Groups of regrouped spans that Zipkin can hold are held.
use Rattle.std.proofs.Common.{ℕ, List, [], ◌∷◌, map, get_or, All, refl, sym, subst, arith}
use Rattle.std.specs.Prelude.{◌≢◌, IsUtf8}
use Rattle.std.proofs.lemmas.List.Elements.{All-nil, All-cons, All-head, All-tail, All-map, All-weaker}
use Rattle.std.proofs.lemmas.Str.{IsUtf8-nil}
use Rattle.span_tags.proofs.AttributeLaws.{attrs_rise}
use Rattle.span_tags.proofs.FaultLaws.{none_plain, none_counts}
use Rattle.span_tags.specs.Runs.{IsPlain}
use Rattle.span_tags.proofs.RunLaws.{scoped_each}
use Rattle.span_tags.specs.Runs.{Scoped, spans_of, under}
use Rattle.span_tags.specs.TagWords.{Pairs}
use Rattle.trace_model.specs.Proper.{IsProperPair, AreProper, IsProperSpan, IsProperScope, IsProperGroup}
use Rattle.trace_model.specs.Soundness.{IsSoundSpan, IsSoundScope, IsSoundGroup}
use Rattle.trace_model.specs.Values.{IsSound, AreSound}
use Rattle.trace_model.specs.declared.fault.Fault.{Fault}
use Rattle.trace_model.specs.declared.span.Span.{Span}
use Rattle.trace_model.specs.declared.group.Group.{Group}
use Rattle.trace_model.specs.declared.group.Scope.{Scope}
use Rattle.trace_model.specs.declared.value.Value.{Value}
use Rattle.zipkin_json.specs.Proper.{IsProperZSpan, IsTimelyZSpan}
use Rattle.zipkin_json.specs.declared.span.ZSpan.{ZSpan}
use Rattle.map_zipkin.specs.Faults.{IsZipkinSpanFault, IsZipkinResourceFault, HasNoZipkinFault}
use Rattle.map_zipkin.specs.LeastZipkinFault.{zipkin_faults}
use Rattle.map_zipkin.specs.StatedLaws.{ReadIsHeld}
use Rattle.map_zipkin.specs.Reading.{run_span_of, groups_of}
use Rattle.map_zipkin.proofs.EventFacts.{EventsRead, EventsProper}
use Rattle.map_zipkin.proofs.FaultRows.{finds_faults}
use Rattle.map_zipkin.proofs.ReadFaults.{read_no_fault, resource_no_fault}
use Rattle.map_zipkin.proofs.ReadHeld.{resource_sound, span_sound, resource_proper, name_utf8, version_utf8, span_proper}
use Rattle.map_zipkin.proofs.ReadTexts.{resource_texts}
use Rattle.map_zipkin.proofs.Regrouping.{IsGroupOf, IsRunOf, regrouped_all}

-- ---- resources and spans that are sound and without fault, and proper ones

pub record IsSoundResource (resource : Pairs) : Type 0 where
  pub sound : AreSound resource
  pub no_fault : (fault : Fault) → IsZipkinResourceFault resource fault → ⊥

pub record IsSoundRun (one : Scoped Span) : Type 0 where
  pub sound : IsSoundSpan one.span
  pub no_fault : (fault : Fault) → IsZipkinSpanFault one.span fault → ⊥

pub record IsProperRun (one : Scoped Span) : Type 0 where
  pub name : IsUtf8 one.name
  pub version : IsUtf8 one.version
  pub span : IsProperSpan one.span

abbrev pub HasSoundRuns : Group → Type 0
HasSoundRuns = IsGroupOf IsSoundResource IsSoundRun

abbrev pub HasProperRuns : Group → Type 0
HasProperRuns = IsGroupOf AreProper IsProperRun

-- ---- scopes of them

all_mapped : {X Y : Type 0} (P : Y → Type 0) (f : X → Y) (xs : List X) → All P (map f xs) → All (λ x. P (f x)) xs
all_mapped P f [] all = All-nil (λ x. P (f x))
all_mapped P f (x ∷ xs) all = All-cons (λ x. P (f x)) x xs (All-head P (f x) (map f xs) all) (all_mapped P f xs (All-tail P (f x) (map f xs) all))

pub none_sound : AreSound []
none_sound = record { rising = attrs_rise {V = Value} []; values = All-nil (λ pair. IsSound pair.1) }

pub run_spans : (P : Scoped Span → Type 0) (scope : Scope) → All P (spans_of scope) → All (λ span. P (under scope.name scope.version span)) scope.spans
run_spans P scope all = all_mapped P (under scope.name scope.version) scope.spans all

run_sound : (scope : Scope) → IsPlain scope → All IsSoundRun (spans_of scope) → IsSoundScope scope
run_sound scope plain held = record {
  attributes = subst AreSound (sym plain.attributes) none_sound;
  spans = λ k d lt. (run_spans IsSoundRun scope held k d lt).sound;
}

first_held : (name version : List ℕ) (spans : List Span) → spans ≢ [] → All (λ span. IsProperRun (record { name = name; version = version; span = span })) spans → IsUtf8 name × IsUtf8 version
first_held name version [] some all = absurd (some refl)
first_held name version (span ∷ spans) some all =
    let first = All-head (λ span. IsProperRun (record { name = name; version = version; span = span })) span spans all in (first.name, first.version)

run_proper : (scope : Scope) → IsPlain scope → All IsProperRun (spans_of scope) → IsProperScope scope
run_proper scope plain held =
    let each = run_spans IsProperRun scope held in
    let first = first_held scope.name scope.version scope.spans plain.some each in
    record {
      name = first.0;
      version = first.1;
      attributes = subst AreProper (sym plain.attributes) (All-nil IsProperPair);
      dropped = omega (arith, plain.dropped);
      schema_url = subst IsUtf8 (sym plain.schema_url) IsUtf8-nil;
      spans = λ k d lt. (each k d lt).span;
    }

-- ---- the group

pub group_sound : (group : Group) → HasSoundRuns group → IsSoundGroup group
group_sound group held = record {
  resource = held.resource.sound;
  scopes = λ k d lt. run_sound (get_or group.scopes k d) (held.plain k d lt) (scoped_each IsSoundRun group.scopes held.spans k d lt);
}

pub group_proper : (group : Group) → HasProperRuns group → IsProperGroup group
group_proper group held = record {
  resource = held.resource;
  dropped = omega (arith, held.dropped);
  schema_url = subst IsUtf8 (sym held.schema_url) IsUtf8-nil;
  scopes = λ k d lt. run_proper (get_or group.scopes k d) (held.plain k d lt) (scoped_each IsProperRun group.scopes held.spans k d lt);
}

-- ---- what is read

module _ (facts : EventsRead) where
  sound_run : (span : ZSpan) → IsTimelyZSpan span → IsProperZSpan span → IsRunOf IsSoundResource IsSoundRun (run_span_of span)
  sound_run span timely proper = (
    record { sound = resource_sound span; no_fault = resource_no_fault (run_span_of span).0.resource (resource_texts span.local.service span) },
    record { sound = span_sound facts span; no_fault = read_no_fault facts span timely proper },
  )

  sound_groups : (spans : List ZSpan) → All IsTimelyZSpan spans → All IsProperZSpan spans → All HasSoundRuns (groups_of spans)
  sound_groups spans timely proper = regrouped_all IsSoundResource IsSoundRun (map run_span_of spans)
      (All-map (IsRunOf IsSoundResource IsSoundRun) run_span_of spans (λ k d lt. sound_run (get_or spans k d) (timely k d lt) (proper k d lt)))

  group_no_fault : (group : Group) → HasSoundRuns group → HasNoZipkinFault group
  group_no_fault group held = none_counts IsZipkinResourceFault IsZipkinSpanFault
      (none_plain zipkin_faults IsZipkinResourceFault IsZipkinSpanFault (finds_faults facts.reads))
      group held.resource.no_fault (λ k d lt. (held.spans k d lt).no_fault)

  pub read_sound : (spans : List ZSpan) → All IsTimelyZSpan spans → All IsProperZSpan spans → All IsSoundGroup (groups_of spans)
  read_sound spans timely proper = All-weaker HasSoundRuns IsSoundGroup group_sound (groups_of spans) (sound_groups spans timely proper)

  pub read_without_fault : (spans : List ZSpan) → All IsTimelyZSpan spans → All IsProperZSpan spans → All HasNoZipkinFault (groups_of spans)
  read_without_fault spans timely proper = All-weaker HasSoundRuns HasNoZipkinFault group_no_fault (groups_of spans) (sound_groups spans timely proper)

  module _ (events : EventsProper) where
    proper_run : (span : ZSpan) → IsProperZSpan span → IsRunOf AreProper IsProperRun (run_span_of span)
    proper_run span proper = (
      resource_proper span proper,
      record { name = name_utf8 span proper; version = version_utf8 span proper; span = span_proper span proper facts events },
    )

    read_proper : (spans : List ZSpan) → All IsProperZSpan spans → All IsProperGroup (groups_of spans)
    read_proper spans proper = All-weaker HasProperRuns IsProperGroup group_proper (groups_of spans)
        (regrouped_all AreProper IsProperRun (map run_span_of spans)
        (All-map (IsRunOf AreProper IsProperRun) run_span_of spans (λ k d lt. proper_run (get_or spans k d) (proper k d lt))))

    pub read_is_held : ReadIsHeld
    read_is_held = record { sound = read_sound; proper = λ spans timely proper. read_proper spans proper }
