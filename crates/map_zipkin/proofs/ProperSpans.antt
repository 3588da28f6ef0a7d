-- The spans that are written of a group that Zipkin can hold are proper and timely.
use Rattle.std.proofs.Common.{◌≡◌, ℕ, ◌<◌, ◌≤◌, ◌^◌, Bool, true, false, cond, ◌==◌, List, [], ◌∷◌, ◌++◌, map, filter, get_or, All, Option, Some, None, decimal, refl, sym, subst, ap, arith}
use Rattle.std.specs.Prelude.{not, codes, IsUtf8}
use Rattle.std.specs.List.{list_all}
use Rattle.std.specs.Option.{IfSome}
use Rattle.std.specs.Str.{bytes_eq}
use Rattle.std.proofs.Math.Dec.{ltb}
use Rattle.std.proofs.lemmas.Fmt.{IsAscii-decimal}
use Rattle.std.proofs.lemmas.List.Elements.{All-nil, All-cons, All-append, All-filter, All-map}
use Rattle.std.proofs.lemmas.Map.Entries.{All-lookup}
use Rattle.std.proofs.lemmas.Str.{IsUtf8-nil, IsUtf8-append, IsUtf8-from_ascii}
use Rattle.span_ids.specs.Times.{floor}
use Rattle.span_tags.proofs.AttributeLaws.{attrs_rise, all_attrs}
use Rattle.span_tags.proofs.ColumnLaws.{all_rows}
use Rattle.span_tags.proofs.EscapeLaws.{escaped_all, esc_holds}
use Rattle.span_tags.specs.Escapes.{front, esc}
use Rattle.span_tags.specs.Runs.{Scoped, scoped}
use Rattle.span_tags.specs.TagKeys.{service_key}
use Rattle.span_tags.specs.TagWords.{Pairs, row, without, text_given, code_given, text_or_none}
use Rattle.trace_model.specs.Attributes.{Rise, keys, attrs, at}
use Rattle.trace_model.specs.EventTexts.{event_text}
use Rattle.trace_model.specs.Proper.{IsProperValue, IsProperPair, AreProper, IsProperEvent}
use Rattle.trace_model.specs.ValueTexts.{value_text}
use Rattle.trace_model.specs.declared.fault.Fault.TheVariants.{EndBeforeStart}
use Rattle.trace_model.specs.declared.span.Code.{Code}
use Rattle.trace_model.specs.declared.span.Code.TheVariants as statuses
use Rattle.trace_model.specs.declared.span.Event.{Event}
use Rattle.trace_model.specs.declared.span.Span.{Span}
use Rattle.trace_model.specs.declared.group.Group.{Group}
use Rattle.trace_model.specs.declared.value.Value.{Value, Text, Truth, Number, Eight, Bytes, List', Map', Nothing}
use Rattle.zipkin_json.specs.Proper as written
use Rattle.map_zipkin.specs.Faults.{HasNoZipkinFault}
use Rattle.map_zipkin.specs.Keys.{resource_prefix, is_zipkin_reserved, peer_key}
use Rattle.map_zipkin.specs.OwnColumns.{OwnColumns, own_row, own_in}
use Rattle.map_zipkin.specs.StatedLaws.{IsHeldByZipkin, WrittenIsWritable}
use Rattle.map_zipkin.specs.TagColumns.{all_columns, count_text, error_message, row_of, zipkin_columns_of, column_rows, text_told}
use Rattle.map_zipkin.specs.Writing.{as_text, as_texts, prefixed, resource_pairs, is_told, told_pairs, escaped_pairs, zipkin_tag_of, zipkin_tags_of, annotation_of, zipkin_span, spans_of_group}
use Rattle.map_zipkin.specs.declared.columns.Column.{Column}
use Rattle.map_zipkin.specs.declared.columns.Column.TheVariants as columns
use Rattle.map_zipkin.specs.declared.own.Own.{Own}
use Rattle.map_zipkin.specs.declared.own.Own.TheVariants as owns
use Rattle.map_zipkin.proofs.HeldSpans.{NoSpanFault, spans_plain, IsHeldSpan, held_spans}
use Rattle.map_zipkin.proofs.OwnForms.{port_fits}
use Rattle.map_zipkin.proofs.ReadHeld.{word}
use Rattle.map_zipkin.proofs.SpanBack.{all_formed}
use Rattle.map_zipkin.proofs.TagsBack.{AreFormed}

-- ---- rows

abbrev Held : Option Value → Type 0
Held None = Unit {0}
Held (Some value) = IsProperValue value

row_proper : (key : List ℕ) → IsUtf8 key → (value : Option Value) → Held value → AreProper (row key value)
row_proper key utf8 None held = All-nil IsProperPair
row_proper key utf8 (Some value) held = All-cons IsProperPair (key, value) [] (record { key = utf8; value = held }) (All-nil IsProperPair)

text_held : (text : List ℕ) → IsUtf8 text → Held (text_given text)
text_held [] utf8 = tt
text_held (x ∷ more) utf8 = utf8

count_held : (n : ℕ) → n < 2 ^ 32 → Held (count_text n)
count_held n lt = by (n == 0)
  where
    by : (none : Bool) → Held (cond none None (Some (Text (decimal n))))
    by true = tt
    by false = IsUtf8-from_ascii (decimal n) (IsAscii-decimal n (omega (arith, lt)))

error_held : (code : Code) (message : List ℕ) → IsUtf8 message → Held (error_message code message)
error_held statuses.Unset message utf8 = tt
error_held statuses.Okay message utf8 = tt
error_held statuses.Fail message utf8 = utf8

code_held : (code : Code) → Held (code_given code)
code_held statuses.Unset = tt
code_held statuses.Okay = word (codes "OK") refl
code_held statuses.Fail = word (codes "ERROR") refl

held_in : (one : Scoped Span) → IsHeldSpan one → (column : Column) → Held (zipkin_columns_of one column)
held_in one h columns.Error = error_held one.span.status.code one.span.status.message h.proper.status.message
held_in one h columns.DroppedAttributes = count_held one.span.dropped_attributes h.proper.dropped_attributes
held_in one h columns.DroppedEvents = count_held one.span.dropped_events h.proper.dropped_events
held_in one h columns.DroppedLinks = count_held one.span.dropped_links h.proper.dropped_links
held_in one h columns.ScopeName = text_held one.name h.name
held_in one h columns.ScopeVersion = text_held one.version h.version
held_in one h columns.Code = code_held one.span.status.code
held_in one h columns.State = text_held one.span.state h.proper.state
held_in one h other = tt

key_ascii : (column : Column) → list_all (λ b. ltb b 128) (row_of column).key ≡ true
key_ascii columns.Error = refl
key_ascii other = refl

rows_proper : (one : Scoped Span) → IsHeldSpan one → AreProper (column_rows (zipkin_columns_of one))
rows_proper one h = all_rows row_of IsProperPair all_columns (zipkin_columns_of one) (λ column.
    let key = (row_of column).key in row_proper key (word key (key_ascii column)) (zipkin_columns_of one column) (held_in one h column))

-- ---- endpoints

told_utf8 : (value : Option Value) → IfSome value IsProperValue → IsUtf8 (text_told value)
told_utf8 None proper = IsUtf8-nil
told_utf8 (Some (Text text)) proper = proper
told_utf8 (Some (Truth b)) proper = IsUtf8-nil
told_utf8 (Some (Number z)) proper = IsUtf8-nil
told_utf8 (Some (Eight d)) proper = IsUtf8-nil
told_utf8 (Some (Bytes b)) proper = IsUtf8-nil
told_utf8 (Some (List' shape members)) proper = IsUtf8-nil
told_utf8 (Some (Map' shape members)) proper = IsUtf8-nil
told_utf8 (Some Nothing) proper = IsUtf8-nil

at_proper : (key : List ℕ) (attributes : Pairs) → AreProper attributes → IfSome (at key attributes) IsProperValue
at_proper key attributes proper = All-lookup IsProperValue (bytes_eq key) attributes (λ k d lt. (proper k d lt).value)

-- ---- times and keys

floor_again : (n : ℕ) → floor (floor n) ≡ floor n
floor_again n = omega arith

floor_order : (a b : ℕ) → a ≤ b → floor a ≤ floor b
floor_order a b le = omega arith

not_after : (a b : ℕ) → (b < a → ⊥) → a ≤ b
not_after a b never = omega (arith, never)

tag_keys : (l : Pairs) → map (λ tag. tag.0) (map zipkin_tag_of l) ≡ keys l
tag_keys [] = refl
tag_keys (p ∷ l) = ap (λ ks. p.0 ∷ ks) (tag_keys l)

tag_utf8 : (key : List ℕ) → IsUtf8 key → IsUtf8 (esc is_zipkin_reserved key)
tag_utf8 = esc_holds is_zipkin_reserved IsUtf8 (λ key utf8. IsUtf8-append front key (word front refl) utf8)

-- laws of the model: texts of values and of events are UTF-8
abbrev pub TextsAreUtf8 : Type 0
TextsAreUtf8 = (value : Value) → IsProperValue value → IsUtf8 (value_text value)

abbrev pub EventsAreUtf8 : Type 0
EventsAreUtf8 = (name : List ℕ) (attributes : Pairs) → IsUtf8 name → AreProper attributes → IsUtf8 (event_text name attributes)

-- ---- times and order

pub span_timely : (resource : Pairs) (one : Scoped Span) → NoSpanFault one.span → written.IsTimelyZSpan (zipkin_span resource one)
span_timely resource one none =
    let pairs = column_rows (zipkin_columns_of one) ++ (resource_pairs resource ++ escaped_pairs one.span.attributes) in
    record {
      start = floor_again one.span.start;
      end = floor_again one.span.end;
      order = floor_order one.span.start one.span.end (not_after one.span.start one.span.end (λ early. none EndBeforeStart early));
      annotations = All-map written.IsTimelyAnnotation annotation_of one.span.events (λ k d lt. floor_again (get_or one.span.events k d).time);
      rising = subst Rise (sym (tag_keys (attrs pairs))) (attrs_rise pairs);
    }

pub spans_timely : (group : Group) → HasNoZipkinFault group → All written.IsTimelyZSpan (spans_of_group group)
spans_timely group none = All-map written.IsTimelyZSpan (zipkin_span group.resource) (scoped group.scopes)
    (λ k d lt. span_timely group.resource (get_or (scoped group.scopes) k d) (spans_plain group none k d lt))

module _ (utf8 : TextsAreUtf8) (events_utf8 : EventsAreUtf8) where
  -- ---- tags

  texts_proper : (attributes : Pairs) → AreProper attributes → AreProper (as_texts attributes)
  texts_proper attributes proper = All-map IsProperPair as_text attributes
      (λ k d lt. record { key = (proper k d lt).key; value = utf8 (get_or attributes k d).1 (proper k d lt).value })

  resource_proper : (resource : Pairs) → AreProper resource → AreProper (resource_pairs resource)
  resource_proper resource proper =
      let others : AreProper (as_texts (without service_key resource)) =
      texts_proper (without service_key resource) (All-filter (λ attribute. not (bytes_eq service_key attribute.0)) IsProperPair resource proper) in
      All-map IsProperPair prefixed (as_texts (without service_key resource)) (λ k d lt. record {
        key = IsUtf8-append resource_prefix (get_or (as_texts (without service_key resource)) k d).0 (word resource_prefix refl) (others k d lt).key;
        value = (others k d lt).value;
      })

  told_proper : (attributes : Pairs) → AreProper attributes → AreProper (told_pairs attributes)
  told_proper attributes proper = texts_proper (filter (λ attribute. is_told attribute.0) attributes) (All-filter (λ attribute. is_told attribute.0) IsProperPair attributes proper)

  escaped_proper : (attributes : Pairs) → AreProper attributes → AreProper (escaped_pairs attributes)
  escaped_proper attributes proper = escaped_all is_zipkin_reserved IsProperPair (told_pairs attributes) (λ k d lt.
      let its = told_proper attributes proper k d lt in record { key = tag_utf8 (get_or (told_pairs attributes) k d).0 its.key; value = its.value })

  tags_proper : (resource : Pairs) (one : Scoped Span) → AreProper resource → IsHeldSpan one → All written.IsProperZTag (zipkin_tags_of resource one)
  tags_proper resource one proper h =
      let pairs = column_rows (zipkin_columns_of one) ++ (resource_pairs resource ++ escaped_pairs one.span.attributes) in
      let all : AreProper (attrs pairs) = all_attrs IsProperPair pairs (All-append IsProperPair (column_rows (zipkin_columns_of one)) _ (rows_proper one h)
      (All-append IsProperPair (resource_pairs resource) (escaped_pairs one.span.attributes) (resource_proper resource proper) (escaped_proper one.span.attributes h.proper.attributes))) in
      All-map written.IsProperZTag zipkin_tag_of (attrs pairs) (λ k d lt. ((all k d lt).key, utf8 (get_or (attrs pairs) k d).1 (all k d lt).value))

  -- ---- the span

  service_utf8 : (value : Option Value) → IfSome value IsProperValue → IsUtf8 (text_or_none value)
  service_utf8 None proper = IsUtf8-nil
  service_utf8 (Some value) proper = utf8 value proper

  annotation_proper : (event : Event) → IsProperEvent event → written.IsProperAnnotation (annotation_of event)
  annotation_proper event h = let early = h.time in (omega (arith, early), events_utf8 event.name event.attributes h.name h.attributes)

  span_proper : (resource : Pairs) (one : Scoped Span) → AreProper resource → IsHeldSpan one → written.IsProperZSpan (zipkin_span resource one)
  span_proper resource one proper h =
      let its = h.proper.attributes in
      let formed : AreFormed one.span.attributes = all_formed one.span h.no_fault in
      let held : OwnColumns = own_in one.span.attributes in
      let held_proper : (own : Own) → IfSome (held own) IsProperValue = λ own. at_proper (own_row own).key one.span.attributes its in
      let first = h.proper.start in
      let last = h.proper.end in
      record {
        trace = h.proper.trace;
        id = h.proper.id;
        parent = h.proper.parent;
        name = h.proper.name;
        start = omega (arith, first);
        end = omega (arith, last);
        local = record {
          service = service_utf8 (at service_key resource) (at_proper service_key resource proper);
          ipv4 = told_utf8 (held owns.LocalIpv4) (held_proper owns.LocalIpv4);
          ipv6 = told_utf8 (held owns.LocalIpv6) (held_proper owns.LocalIpv6);
          port = port_fits (held owns.LocalPort) (formed owns.LocalPort);
        };
        remote = record {
          service = service_utf8 (at peer_key one.span.attributes) (at_proper peer_key one.span.attributes its);
          ipv4 = told_utf8 (held owns.RemoteIpv4) (held_proper owns.RemoteIpv4);
          ipv6 = told_utf8 (held owns.RemoteIpv6) (held_proper owns.RemoteIpv6);
          port = port_fits (held owns.RemotePort) (formed owns.RemotePort);
        };
        annotations = All-map written.IsProperAnnotation annotation_of one.span.events (λ k d lt. annotation_proper (get_or one.span.events k d) (h.proper.events k d lt));
        tags = tags_proper resource one proper h;
      }

  group_proper : (group : Group) → IsHeldByZipkin group → All written.IsProperZSpan (spans_of_group group)
  group_proper group is = All-map written.IsProperZSpan (zipkin_span group.resource) (scoped group.scopes)
      (λ k d lt. span_proper group.resource (get_or (scoped group.scopes) k d) is.proper.resource (held_spans group is k d lt))

  pub written_is_proper : WrittenIsWritable
  written_is_proper = record { proper = group_proper; timely = λ group held. spans_timely group held.no_fault }
