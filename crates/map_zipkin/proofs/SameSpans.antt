-- The span of Zipkin of a span in normal form is that of the span.
use Rattle.std.proofs.Common.{◌≡◌, ℕ, List, [], ◌∷◌, ◌++◌, map, get_or, All, Option, Some, None, is_some, option_map, refl, sym, ap, ◌∙◌, arith}
use Rattle.std.specs.List.{flat_map}
use Rattle.std.proofs.lemmas.List.Elements.{All-nil, All-head, All-tail, All-map, All-append, All-weaker}
use Rattle.span_ids.specs.Times.{floor}
use Rattle.span_tags.proofs.RunLaws.{scoped_all}
use Rattle.span_tags.specs.Escapes.{escaped}
use Rattle.span_tags.specs.Runs.{spans_of, scoped}
use Rattle.span_tags.specs.TagKeys.{service_key}
use Rattle.trace_model.specs.Attributes.{Rise, keys, attrs}
use Rattle.trace_model.specs.Soundness.{IsSoundScope}
use Rattle.trace_model.specs.declared.fault.Fault.TheVariants.{OwnKey}
use Rattle.trace_model.specs.declared.span.Code.{Code}
use Rattle.trace_model.specs.declared.span.Code.TheVariants as statuses
use Rattle.trace_model.specs.declared.span.Event.{Event}
use Rattle.trace_model.specs.declared.span.Kind.{Kind}
use Rattle.trace_model.specs.declared.span.Kind.TheVariants as kinds
use Rattle.trace_model.specs.declared.span.Span.{Span}
use Rattle.trace_model.specs.declared.group.Group.{Group}
use Rattle.trace_model.specs.declared.group.Scope.{Scope}
use Rattle.trace_model.specs.declared.value.Value.{Value, Text}
use Rattle.zipkin_json.specs.declared.span.ZSpan.{ZSpan}
use Rattle.map_zipkin.specs.Faults.{IsOutOfForm, HasOwnKey}
use Rattle.map_zipkin.specs.Keys.{is_zipkin_reserved, peer_key}
use Rattle.map_zipkin.specs.OwnColumns.{own_row, own_form, own_in, is_true_text, is_address, is_port_text}
use Rattle.map_zipkin.specs.StatedLaws.{IsHeldByZipkin}
use Rattle.map_zipkin.specs.Normal.{normal_pairs, zipkin_normal_kind, message_kept, zipkin_normal_event, zipkin_normal}
use Rattle.map_zipkin.specs.Regrouped.{RunSpan, run_of, runs_of, in_scope, regrouped}
use Rattle.map_zipkin.specs.TagColumns.{error_message, zipkin_columns_of, column_rows, text_told, port_told}
use Rattle.map_zipkin.specs.Writing.{zipkin_kind, zipkin_tag_of, annotation_of, zipkin_span, spans_of_group}
use Rattle.map_zipkin.specs.declared.columns.Column.{Column}
use Rattle.map_zipkin.specs.declared.columns.Column.TheVariants as columns
use Rattle.map_zipkin.specs.declared.own.Own.{Own}
use Rattle.map_zipkin.specs.declared.own.Own.TheVariants as owns
use Rattle.map_zipkin.proofs.ColumnLemmas.{own_no_peer, own_there}
use Rattle.map_zipkin.proofs.EventFacts.{SameEventText}
use Rattle.map_zipkin.proofs.HeldSpans.{spans_plain}
use Rattle.map_zipkin.proofs.NormalPairs.{to_text, text_kept, at_others, resource_same, told_same}
use Rattle.map_zipkin.proofs.ReadNormal.{normal_run, map_map, map_flat, flat_each, normal_flat}
use Rattle.map_zipkin.proofs.Regrouping.{regrouped_spans}

-- ---- columns

kind_same : (kind : Kind) → zipkin_kind (zipkin_normal_kind kind) ≡ zipkin_kind kind
kind_same kinds.Unspecified = refl
kind_same kinds.Internal = refl
kind_same kinds.Server = refl
kind_same kinds.Client = refl
kind_same kinds.Producer = refl
kind_same kinds.Consumer = refl

error_same : (code : Code) (message : List ℕ) → error_message code (message_kept code message) ≡ error_message code message
error_same statuses.Unset message = refl
error_same statuses.Okay message = refl
error_same statuses.Fail message = refl

-- an error has its message, and the other columns stay
column_same : (one : RunSpan) (column : Column) → zipkin_columns_of (in_scope (normal_run one)) column ≡ zipkin_columns_of (in_scope one) column
column_same one columns.Error = error_same one.1.status.code one.1.status.message
column_same one other = refl

floor_twice : (n : ℕ) → floor (floor n) ≡ floor n
floor_twice n = omega arith

-- ---- own keys: what is of its form is a text

true_leaf : (o : Option Value) → (IsOutOfForm is_true_text o → ⊥) → option_map to_text o ≡ o
true_leaf None formed = refl
true_leaf (Some (Text text)) formed = refl
true_leaf (Some other) formed = absurd (formed refl)

address_leaf : (o : Option Value) → (IsOutOfForm is_address o → ⊥) → option_map to_text o ≡ o
address_leaf None formed = refl
address_leaf (Some (Text text)) formed = refl
address_leaf (Some other) formed = absurd (formed refl)

port_leaf : (o : Option Value) → (IsOutOfForm is_port_text o → ⊥) → option_map to_text o ≡ o
port_leaf None formed = refl
port_leaf (Some (Text text)) formed = refl
port_leaf (Some other) formed = absurd (formed refl)

-- no own key of the span is out of its form
abbrev AreFormed : Span → Type 0
AreFormed span = (key : List ℕ) → HasOwnKey span key → ⊥

module _ (span : Span) (up : Rise (keys span.attributes)) (formed : AreFormed span) where
  pub own_same : own_in (normal_pairs peer_key span.attributes) ≡ own_in span.attributes
  own_same = λ i own. (at_others peer_key span.attributes up (own_row own).key (own_no_peer own) ∙ leaf own) i
    where
      out : (own : Own) → IsOutOfForm (own_form own) (own_in span.attributes own) → ⊥
      out own bad = let there = own_there own in formed (own_row own).key (there.0, ((own_row own).key, own_form own), there.1, there.2, (refl, bad))

      leaf : (own : Own) → option_map to_text (own_in span.attributes own) ≡ own_in span.attributes own
      leaf owns.Debug = true_leaf (own_in span.attributes owns.Debug) (out owns.Debug)
      leaf owns.LocalPort = port_leaf (own_in span.attributes owns.LocalPort) (out owns.LocalPort)
      leaf owns.RemotePort = port_leaf (own_in span.attributes owns.RemotePort) (out owns.RemotePort)
      leaf owns.Shared = true_leaf (own_in span.attributes owns.Shared) (out owns.Shared)
      leaf other = address_leaf (own_in span.attributes other) (out other)

-- ---- the span

pub map_each : {A B C : Type 0} → (f : B → C) (g : A → B) (h : A → C) (xs : List A) → All (λ x. f (g x) ≡ h x) xs → map f (map g xs) ≡ map h xs
map_each f g h [] all = refl
map_each f g h (x ∷ xs) all =
    let here : f (g x) ≡ h x = All-head (λ y. f (g y) ≡ h y) x xs all in
    let rest : map f (map g xs) ≡ map h xs = map_each f g h xs (All-tail (λ y. f (g y) ≡ h y) x xs all) in
    λ i. here i ∷ rest i

abbrev pub zspan : RunSpan → ZSpan
zspan one = zipkin_span one.0.resource (in_scope one)

module _ (texts : SameEventText) where
  annotation_same : (event : Event) → annotation_of (zipkin_normal_event event) ≡ annotation_of event
  annotation_same event = λ i. (floor_twice event.time i, texts event.name event.attributes i)

  same_span : (one : RunSpan) → Rise (keys one.0.resource) → Rise (keys one.1.attributes) → AreFormed one.1 → zspan (normal_run one) ≡ zspan one
  same_span one up_resource up formed =
      let s = one.1 in
      let own = own_same s up formed in
      let local = text_kept service_key one.0.resource up_resource in
      let remote = text_kept peer_key s.attributes up in
      let resource = resource_same one.0.resource up_resource in
      let told = ap (escaped is_zipkin_reserved) (told_same s.attributes up) in
      let annotations : map annotation_of (map zipkin_normal_event s.events) ≡ map annotation_of s.events =
      map_each annotation_of zipkin_normal_event annotation_of s.events (λ k d lt. annotation_same (get_or s.events k d)) in
      λ i. record {
        trace = s.trace;
        id = s.id;
        parent = s.parent;
        name = s.name;
        kind = kind_same s.kind i;
        start = floor_twice s.start i;
        end = floor_twice s.end i;
        debug = is_some (own i owns.Debug);
        shared = is_some (own i owns.Shared);
        local = record {
          service = local i;
          ipv4 = text_told (own i owns.LocalIpv4);
          ipv6 = text_told (own i owns.LocalIpv6);
          port = port_told (own i owns.LocalPort);
        };
        remote = record {
          service = remote i;
          ipv4 = text_told (own i owns.RemoteIpv4);
          ipv6 = text_told (own i owns.RemoteIpv6);
          port = port_told (own i owns.RemotePort);
        };
        annotations = annotations i;
        tags = map zipkin_tag_of (attrs (column_rows (λ column. column_same one column i) ++ (resource i ++ told i)));
      }

  -- ---- the spans of groups

  abbrev IsSame : RunSpan → Type 0
  IsSame one = zspan (normal_run one) ≡ zspan one

  scope_rise : (scope : Scope) → IsSoundScope scope → All (λ one. Rise (keys one.span.attributes)) (spans_of scope)
  scope_rise scope sound = All-map (λ one. Rise (keys one.span.attributes)) (λ span. record { name = scope.name; version = scope.version; span = span }) scope.spans
      (λ k d lt. (sound.spans k d lt).attributes.rising)

  group_same : (group : Group) → IsHeldByZipkin group → All IsSame (runs_of group)
  group_same group held =
      let rise : All (λ one. Rise (keys one.span.attributes)) (scoped group.scopes) =
      scoped_all (λ one. Rise (keys one.span.attributes)) group.scopes
      (All-weaker IsSoundScope (λ scope. All (λ one. Rise (keys one.span.attributes)) (spans_of scope)) scope_rise group.scopes held.sound.scopes) in
      All-map IsSame (run_of group.resource) (scoped group.scopes)
      (λ k d lt. same_span (run_of group.resource (get_or (scoped group.scopes) k d)) held.sound.resource.rising (rise k d lt)
      (λ key. spans_plain group held.no_fault k d lt (OwnKey key)))

  groups_same : (groups : List Group) → All IsHeldByZipkin groups → All IsSame (flat_map runs_of groups)
  groups_same [] held = All-nil IsSame
  groups_same (group ∷ groups) held = All-append IsSame (runs_of group) (flat_map runs_of groups)
      (group_same group (All-head IsHeldByZipkin group groups held)) (groups_same groups (All-tail IsHeldByZipkin group groups held))

  group_spans : (group : Group) → map zspan (runs_of group) ≡ spans_of_group group
  group_spans group = map_map zspan (run_of group.resource) (scoped group.scopes)

  written_flat : (groups : List Group) → flat_map spans_of_group groups ≡ map zspan (flat_map runs_of groups)
  written_flat groups = sym (map_flat zspan runs_of groups ∙ flat_each (λ group. map zspan (runs_of group)) spans_of_group group_spans groups)

  -- the spans of the normal form are those of the groups
  pub same_spans : (groups : List Group) → All IsHeldByZipkin groups → flat_map spans_of_group (zipkin_normal groups) ≡ flat_map spans_of_group groups
  same_spans groups held =
      written_flat (zipkin_normal groups)
      ∙ ap (map zspan) (ap (λ l. flat_map runs_of (regrouped l)) (normal_flat groups) ∙ regrouped_spans (map normal_run (flat_map runs_of groups)))
      ∙ map_each zspan normal_run zspan (flat_map runs_of groups) (groups_same groups held)
      ∙ sym (written_flat groups)
