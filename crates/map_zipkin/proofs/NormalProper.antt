-- The normal form of proper groups is proper.
use Rattle.std.proofs.Common.{ℕ, List, [], ◌∷◌, ◌++◌, get_or, All, Option, Some, None, refl, arith}
use Rattle.std.specs.Prelude.{not, IsUtf8}
use Rattle.std.specs.List.{flat_map}
use Rattle.std.specs.Option.{IfSome}
use Rattle.std.specs.Str.{bytes_eq}
use Rattle.std.proofs.lemmas.List.Elements.{All-nil, All-cons, All-head, All-tail, All-append, All-filter, All-map, All-weaker}
use Rattle.std.proofs.lemmas.Map.Entries.{All-lookup}
use Rattle.std.proofs.lemmas.Str.{IsUtf8-nil}
use Rattle.span_tags.proofs.AttributeLaws.{all_attrs}
use Rattle.span_tags.proofs.RunLaws.{scoped_all}
use Rattle.span_tags.specs.Runs.{Scoped, spans_of, scoped}
use Rattle.span_tags.specs.TagKeys.{service_key}
use Rattle.span_tags.specs.TagWords.{Pairs, row, without, text_given, text_or_none}
use Rattle.trace_model.specs.Attributes.{at}
use Rattle.trace_model.specs.EventTexts.{with_texts}
use Rattle.trace_model.specs.Proper.{IsProperValue, IsProperPair, AreProper, IsProperEvent, IsProperLink, IsProperSpan, IsProperScope, IsProperGroup}
use Rattle.trace_model.specs.ValueTexts.{value_text}
use Rattle.trace_model.specs.declared.span.Code.{Code}
use Rattle.trace_model.specs.declared.span.Code.TheVariants as statuses
use Rattle.trace_model.specs.declared.span.Event.{Event}
use Rattle.trace_model.specs.declared.span.Span.{Span}
use Rattle.trace_model.specs.declared.group.Group.{Group}
use Rattle.trace_model.specs.declared.group.Scope.{Scope}
use Rattle.trace_model.specs.declared.value.Value.{Value, Text}
use Rattle.map_zipkin.specs.Keys.{peer_key}
use Rattle.map_zipkin.specs.StatedLaws.{IsHeldByZipkin}
use Rattle.map_zipkin.specs.Normal.{normal_pairs, message_kept, zipkin_normal_event, zipkin_normal_span, normal_one, normal_spans, zipkin_normal}
use Rattle.map_zipkin.specs.Regrouped.{RunSpan}
use Rattle.map_zipkin.specs.Writing.{as_text, as_texts}
use Rattle.map_zipkin.proofs.GroupsHeld.{IsProperRun, HasProperRuns, group_proper}
use Rattle.map_zipkin.proofs.ReadHeld.{word}
use Rattle.map_zipkin.proofs.Regrouping.{IsRunOf, regrouped_all}

-- laws of the model
abbrev pub TextsAreUtf8 : Type 0
TextsAreUtf8 = (value : Value) → IsProperValue value → IsUtf8 (value_text value)

abbrev pub TextsAreProper : Type 0
TextsAreProper = (attributes : Pairs) → AreProper attributes → AreProper (with_texts attributes)

message_proper : (code : Code) (message : List ℕ) → IsUtf8 message → IsUtf8 (message_kept code message)
message_proper statuses.Unset message utf8 = IsUtf8-nil
message_proper statuses.Okay message utf8 = IsUtf8-nil
message_proper statuses.Fail message utf8 = utf8

row_proper : (key : List ℕ) → IsUtf8 key → (text : List ℕ) → IsUtf8 text → AreProper (row key (text_given text))
row_proper key its [] utf8 = All-nil IsProperPair
row_proper key its (x ∷ more) utf8 = All-cons IsProperPair (key, Text (x ∷ more)) [] (record { key = its; value = utf8 }) (All-nil IsProperPair)

module _ (utf8 : TextsAreUtf8) (bytes : TextsAreProper) where
  text_proper : (value : Option Value) → IfSome value IsProperValue → IsUtf8 (text_or_none value)
  text_proper None held = IsUtf8-nil
  text_proper (Some value) held = utf8 value held

  pairs_proper : (key : List ℕ) → IsUtf8 key → (pairs : Pairs) → AreProper pairs → AreProper (normal_pairs key pairs)
  pairs_proper key its pairs all =
      let others = without key pairs in
      let kept : AreProper others = All-filter (λ attribute. not (bytes_eq key attribute.0)) IsProperPair pairs all in
      all_attrs IsProperPair (row key (text_given (text_or_none (at key pairs))) ++ as_texts others)
      (All-append IsProperPair (row key (text_given (text_or_none (at key pairs)))) (as_texts others)
      (row_proper key its (text_or_none (at key pairs)) (text_proper (at key pairs) (All-lookup IsProperValue (bytes_eq key) pairs (λ k d lt. (all k d lt).value))))
      (All-map IsProperPair as_text others (λ k d lt. record { key = (kept k d lt).key; value = utf8 (get_or others k d).1 (kept k d lt).value })))

  event_proper : (event : Event) → IsProperEvent event → IsProperEvent (zipkin_normal_event event)
  event_proper event h = record { time = let small = h.time in omega (arith, small); name = h.name; attributes = bytes event.attributes h.attributes; dropped = omega arith }

  span_proper : (span : Span) → IsProperSpan span → IsProperSpan (zipkin_normal_span span)
  span_proper span h = record {
    trace = h.trace;
    id = h.id;
    state = h.state;
    parent = h.parent;
    name = h.name;
    start = let small = h.start in omega (arith, small);
    end = let small = h.end in omega (arith, small);
    attributes = pairs_proper peer_key (word peer_key refl) span.attributes h.attributes;
    dropped_attributes = h.dropped_attributes;
    events = All-map IsProperEvent zipkin_normal_event span.events (λ k d lt. event_proper (get_or span.events k d) (h.events k d lt));
    dropped_events = h.dropped_events;
    links = All-nil IsProperLink;
    dropped_links = h.dropped_links;
    status = record { message = message_proper span.status.code span.status.message h.status.message };
    flags = omega arith;
  }

  scope_proper : (scope : Scope) → IsProperScope scope → All IsProperRun (spans_of scope)
  scope_proper scope h = All-map IsProperRun (λ span. record { name = scope.name; version = scope.version; span = span }) scope.spans
      (λ k d lt. record { name = h.name; version = h.version; span = h.spans k d lt })

  abbrev IsProperOne : RunSpan → Type 0
  IsProperOne = IsRunOf AreProper IsProperRun

  one_proper : (resource : Pairs) → AreProper resource → (one : Scoped Span) → IsProperRun one → IsProperOne (normal_one resource one)
  one_proper resource all one h = (
    pairs_proper service_key (word service_key refl) resource all,
    record { name = h.name; version = h.version; span = span_proper one.span h.span },
  )

  spans_proper : (group : Group) → IsProperGroup group → All IsProperOne (normal_spans group)
  spans_proper group h =
      let each = scoped_all IsProperRun group.scopes (All-weaker IsProperScope (λ scope. All IsProperRun (spans_of scope)) scope_proper group.scopes h.scopes) in
      All-map IsProperOne (normal_one group.resource) (scoped group.scopes) (λ k d lt. one_proper group.resource h.resource (get_or (scoped group.scopes) k d) (each k d lt))

  all_proper : (groups : List Group) → All IsHeldByZipkin groups → All IsProperOne (flat_map normal_spans groups)
  all_proper [] held = All-nil IsProperOne
  all_proper (group ∷ groups) held = All-append IsProperOne (normal_spans group) (flat_map normal_spans groups)
      (spans_proper group (All-head IsHeldByZipkin group groups held).proper) (all_proper groups (All-tail IsHeldByZipkin group groups held))

  pub normal_proper : (groups : List Group) → All IsHeldByZipkin groups → All IsProperGroup (zipkin_normal groups)
  normal_proper groups held = All-weaker HasProperRuns IsProperGroup group_proper (zipkin_normal groups)
      (regrouped_all AreProper IsProperRun (flat_map normal_spans groups) (all_proper groups held))
