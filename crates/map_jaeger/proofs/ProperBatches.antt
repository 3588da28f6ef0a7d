-- The batch of a proper group is proper: the texts of values are UTF-8, and numbers stay in their ranges.
use Rattle.std.proofs.Common.{◌≡◌, ℕ, ◌+◌, ◌%◌, ◌<◌, ◌≤◌, ◌^◌, pos, Bool, true, false, List, [], ◌∷◌, ◌++◌, map, get_or, All, Option, Some, None, unwrap_or, cond, refl, arith}
use Rattle.std.specs.Prelude.{not, ◌==◌, codes, IsUtf8, FitsSigned}
use Rattle.std.specs.Int.{w32, w64, cast_signed}
use Rattle.std.specs.List.{list_all}
use Rattle.std.specs.Str.{bytes_eq}
use Rattle.std.proofs.Math.Dec.{ltb}
use Rattle.std.proofs.Math.Facts.{sfits_to_z}
use Rattle.std.proofs.lemmas.Int.{fits_signed_from_abs}
use Rattle.std.proofs.lemmas.List.Elements.{All-nil, All-cons, All-append, All-filter, All-map}
use Rattle.std.proofs.lemmas.Map.Entries.{All-lookup}
use Rattle.std.proofs.lemmas.Str.{IsUtf8-nil, IsUtf8-from_ascii}
use Rattle.std.proofs.lemmas.Str.Ascii.{IsAscii-from_all}
use Rattle.trace_model.specs.Attributes.{attrs, at}
use Rattle.span_ids.specs.Proper.{IsProperParent}
use Rattle.trace_model.specs.Proper.{IsProperValue, IsProperPair, AreProper, IsProperEvent, IsProperLink, IsProperSpan, IsProperScope, IsProperGroup}
use Rattle.trace_model.specs.declared.span.Code.{Code}
use Rattle.trace_model.specs.declared.span.Code.TheVariants as statuses
use Rattle.trace_model.specs.declared.span.Event.{Event}
use Rattle.trace_model.specs.declared.span.Kind.{Kind}
use Rattle.trace_model.specs.declared.span.Kind.TheVariants as kinds
use Rattle.trace_model.specs.declared.span.Link.{Link}
use Rattle.trace_model.specs.declared.span.Span.{Span}
use Rattle.trace_model.specs.declared.group.Group.{Group}
use Rattle.trace_model.specs.declared.group.Scope.{Scope}
use Rattle.trace_model.specs.declared.value.Value.{Value, Text, Number, Eight, Bytes, Truth, List', Map', Nothing}
use Rattle.jaeger_model.specs.Proper as written
use Rattle.span_tags.specs.Escapes.{escaped}
use Rattle.span_tags.proofs.AttributeLaws.{all_attrs}
use Rattle.span_tags.proofs.RunLaws.{scoped_all}
use Rattle.span_tags.proofs.ColumnLaws.{all_rows}
use Rattle.span_tags.specs.Runs.{Scoped, scoped, spans_of}
use Rattle.span_tags.specs.TagKeys.{service_key}
use Rattle.span_tags.specs.TagWords.{row, text_given, without, code_given}
use Rattle.map_jaeger.specs.ColumnWords.{flags_in, count_given, kind_given, error_given, description_given}
use Rattle.map_jaeger.specs.Columns.{all_columns, row_of, columns_of, rows, is_reserved}
use Rattle.map_jaeger.specs.Keys.{flags_key, event_key, is_event_reserved}
use Rattle.map_jaeger.specs.TagValues.{tag_value, tag_of}
use Rattle.map_jaeger.specs.Writing.{flags_of, tags_of, log_of, reference_of, jaeger_span, batch_of}
use Rattle.map_jaeger.specs.declared.columns.Column.{Column}
use Rattle.map_jaeger.specs.declared.columns.Column.TheVariants as columns
use Rattle.map_jaeger.proofs.EscapedKeys.{escaped_proper}
use Rattle.map_jaeger.proofs.FlagLemmas.{IsFlags, flags_are}
use Rattle.map_jaeger.proofs.GroupProper.{TextsAreUtf8, ascii, service_utf8}

-- ---- a row

abbrev pub Held : Option Value → Type 0
Held None = Unit {0}
Held (Some value) = IsProperValue value

pub row_proper : (key : List ℕ) → IsUtf8 key → (value : Option Value) → Held value → AreProper (row key value)
row_proper key utf8 None held = All-nil IsProperPair
row_proper key utf8 (Some value) held = All-cons IsProperPair (key, value) [] (record { key = utf8; value = held }) (All-nil IsProperPair)

pub text_held : (text : List ℕ) → IsUtf8 text → Held (text_given text)
text_held [] utf8 = tt
text_held (x ∷ more) utf8 = utf8

count_held : (n : ℕ) → n < 2 ^ 32 → Held (count_given n)
count_held n lt = by (n == 0)
  where
    by : (none : Bool) → Held (cond none None (Some (Number (pos n))))
    by true = tt
    by false = fits_signed_from_abs w64 (pos n) (omega (arith, lt))

error_held : (code : Code) → Held (error_given code)
error_held statuses.Unset = tt
error_held statuses.Okay = tt
error_held statuses.Fail = tt

pub word : (text : List ℕ) → All (λ b. b < 128) text → IsUtf8 text
word text all = IsUtf8-from_ascii text (IsAscii-from_all text all)

code_held : (code : Code) → Held (code_given code)
code_held statuses.Unset = tt
code_held statuses.Okay = word (codes "OK") (ascii (codes "OK") refl)
code_held statuses.Fail = word (codes "ERROR") (ascii (codes "ERROR") refl)

kind_held : (kind : Kind) → Held (kind_given kind)
kind_held kinds.Unspecified = tt
kind_held kinds.Internal = tt
kind_held kinds.Server = word (codes "server") (ascii (codes "server") refl)
kind_held kinds.Client = word (codes "client") (ascii (codes "client") refl)
kind_held kinds.Producer = word (codes "producer") (ascii (codes "producer") refl)
kind_held kinds.Consumer = word (codes "consumer") (ascii (codes "consumer") refl)

description_held : (code : Code) (message : List ℕ) → IsUtf8 message → Held (description_given code message)
description_held statuses.Unset message utf8 = tt
description_held statuses.Okay message utf8 = text_held message utf8
description_held statuses.Fail message utf8 = text_held message utf8

-- ---- a span under its scope

pub record IsProperScoped (one : Scoped Span) : Type 0 where
  pub name : IsUtf8 one.name
  pub version : IsUtf8 one.version
  pub span : IsProperSpan one.span

held_in : (one : Scoped Span) → IsProperScoped one → (column : Column) → Held (columns_of one column)
held_in one h columns.Error = error_held one.span.status.code
held_in one h columns.DroppedAttributes = count_held one.span.dropped_attributes h.span.dropped_attributes
held_in one h columns.DroppedEvents = count_held one.span.dropped_events h.span.dropped_events
held_in one h columns.DroppedLinks = count_held one.span.dropped_links h.span.dropped_links
held_in one h columns.ScopeName = text_held one.name h.name
held_in one h columns.ScopeVersion = text_held one.version h.version
held_in one h columns.Code = code_held one.span.status.code
held_in one h columns.Description = description_held one.span.status.code one.span.status.message h.span.status.message
held_in one h columns.Kind = kind_held one.span.kind
held_in one h columns.State = text_held one.span.state h.span.state
held_in one h other = tt

key_ascii : (column : Column) → list_all (λ b. ltb b 128) (row_of column).key ≡ true
key_ascii columns.Error = refl
key_ascii other = refl

rows_proper : (one : Scoped Span) → IsProperScoped one → AreProper (rows (columns_of one))
rows_proper one h = all_rows row_of IsProperPair all_columns (columns_of one) (λ column.
    let key = (row_of column).key in row_proper key (word key (ascii key (key_ascii column))) (columns_of one column) (held_in one h column))

-- ---- flags

flags_held : (value : Option Value) → unwrap_or (flags_in value) 0 ≤ 4294967294
flags_held value = by (flags_in value) refl
  where
    by : (found : Option ℕ) → flags_in value ≡ found → unwrap_or found 0 ≤ 4294967294
    by None e = omega arith
    by (Some n) e = let told : IsFlags value n = flags_are value n e in told.number.high

bits_fit : (n : ℕ) → n < 2 ^ 32 → FitsSigned w32 (cast_signed w32 n)
bits_fit n lt = sfits_to_z {w = w32} {n = n} (record { fits = lt })

flags_fit : (span : Span) → FitsSigned w32 (flags_of span)
flags_fit span =
    let high = flags_held (at flags_key span.attributes) in
    bits_fit (span.flags % 2 + unwrap_or (flags_in (at flags_key span.attributes)) 0) (omega (arith, high))

-- ---- the batch

parent_proper : (parent : Option ℕ) → IsProperParent parent → IsProperParent parent
parent_proper None h = tt
parent_proper (Some id) h = h

references_proper : (links : List Link) → All IsProperLink links → All written.IsProperReference (map reference_of links)
references_proper links all = All-map written.IsProperReference reference_of links (λ k d lt. record { trace = (all k d lt).trace; span = (all k d lt).span })

module _ (utf8 : TextsAreUtf8) where
  value_proper : (value : Value) → IsProperValue value → written.IsProperTagValue (tag_value value)
  value_proper (List' shape members) proper = utf8 (List' shape members) proper
  value_proper (Map' shape members) proper = utf8 (Map' shape members) proper
  value_proper Nothing proper = IsUtf8-nil
  value_proper (Text text) proper = proper
  value_proper (Number n) proper = proper
  value_proper (Eight double) proper = proper
  value_proper (Bytes bytes) proper = proper
  value_proper (Truth truth) proper = tt

  tags_proper : (attributes : List (List ℕ × Value)) → AreProper attributes → All written.IsProperTag (map tag_of attributes)
  tags_proper attributes all =
      All-map written.IsProperTag tag_of attributes (λ k d lt. record { key = (all k d lt).key; value = value_proper (get_or attributes k d).1 (all k d lt).value })

  without_proper : (key : List ℕ) (attributes : List (List ℕ × Value)) → AreProper attributes → AreProper (without key attributes)
  without_proper key attributes all = All-filter (λ attribute. not (bytes_eq key attribute.0)) IsProperPair attributes all

  span_tags : (one : Scoped Span) → IsProperScoped one → All written.IsProperTag (tags_of one)
  span_tags one h =
      let others = without flags_key one.span.attributes in
      let pairs = rows (columns_of one) ++ escaped is_reserved others in
      tags_proper (attrs pairs) (all_attrs IsProperPair pairs (All-append IsProperPair (rows (columns_of one)) (escaped is_reserved others) (rows_proper one h)
      (escaped_proper is_reserved others (without_proper flags_key one.span.attributes h.span.attributes))))

  log_proper : (event : Event) → IsProperEvent event → written.IsProperLog (log_of event)
  log_proper event h =
      let others = escaped is_event_reserved event.attributes in
      let pairs = row event_key (text_given event.name) ++ others in
      record {
        time = omega (arith, h.time);
        fields = tags_proper (attrs pairs) (all_attrs IsProperPair pairs (All-append IsProperPair (row event_key (text_given event.name)) others
            (row_proper event_key (word event_key (ascii event_key refl)) (text_given event.name) (text_held event.name h.name)) (escaped_proper is_event_reserved event.attributes h.attributes)));
      }

  span_proper : (one : Scoped Span) → IsProperScoped one → written.IsProperJSpan (jaeger_span one)
  span_proper one h = record {
    trace = h.span.trace;
    id = h.span.id;
    parent = parent_proper one.span.parent h.span.parent;
    name = h.span.name;
    references = references_proper one.span.links h.span.links;
    invalid_refs = omega arith;
    flags = flags_fit one.span;
    start = omega (arith, h.span.start);
    end = omega (arith, h.span.end);
    tags = span_tags one h;
    logs = All-map written.IsProperLog log_of one.span.events (λ k d lt. log_proper (get_or one.span.events k d) (h.span.events k d lt));
  }

  scope_spans : (scope : Scope) → IsProperScope scope → All IsProperScoped (spans_of scope)
  scope_spans scope h =
      All-map IsProperScoped (λ span. record { name = scope.name; version = scope.version; span = span }) scope.spans
      (λ k d lt. record { name = h.name; version = h.version; span = h.spans k d lt })

  pub batch_proper : (group : Group) → IsProperGroup group → written.IsProperBatch (batch_of group)
  batch_proper group h =
      let each : All IsProperScoped (scoped group.scopes) = scoped_all IsProperScoped group.scopes (λ k d lt. scope_spans (get_or group.scopes k d) (h.scopes k d lt)) in
      record {
        service = service_utf8 utf8 (at service_key group.resource) (All-lookup IsProperValue (bytes_eq service_key) group.resource (λ k d lt. (h.resource k d lt).value));
        tags = tags_proper (without service_key group.resource) (without_proper service_key group.resource h.resource);
        spans = All-map written.IsProperJSpan jaeger_span (scoped group.scopes) (λ k d lt. span_proper (get_or (scoped group.scopes) k d) (each k d lt));
      }
