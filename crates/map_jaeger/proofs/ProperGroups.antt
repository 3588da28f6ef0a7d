-- The group that is read of a proper batch is proper.
use Rattle.std.proofs.Common.{◌≡◌, ℕ, ◌-◌, ◌%◌, ◌<◌, ◌≤◌, ◌^◌, ℤ, pos, negsuc, Bool, true, false, nat_le, List, [], ◌∷◌, ◌++◌, map, filter, find, get_or, All, Option, Some, None, option_map, option_and_then, unwrap_or, decimal, cond, refl, arith, leb-true}
use Rattle.std.specs.Prelude.{not, ◌&&◌, ◌==◌, if◌then◌else◌, IsUtf8}
use Rattle.std.specs.Option.{IfSome, option_or}
use Rattle.std.specs.Str.{bytes_eq}
use Rattle.std.proofs.lemmas.Fmt.{IsAscii-decimal}
use Rattle.std.proofs.lemmas.List.Elements.{All-nil, All-cons, All-head, All-tail, All-append, All-filter, All-map}
use Rattle.std.proofs.lemmas.Map.Entries.{All-lookup}
use Rattle.std.proofs.lemmas.Str.{IsUtf8-nil, IsUtf8-from_ascii}
use Rattle.trace_model.specs.Attributes.{at}
use Rattle.span_ids.specs.Proper.{IsProperParent}
use Rattle.trace_model.specs.Proper.{IsProperValue, IsProperPair, AreProper, IsProperEvent, IsProperLink, IsProperSpan, IsProperScope, IsProperGroup}
use Rattle.trace_model.specs.declared.span.Code.{Code}
use Rattle.trace_model.specs.declared.span.Code.TheVariants as statuses
use Rattle.trace_model.specs.declared.span.Span.{Span}
use Rattle.trace_model.specs.declared.group.Scope.{Scope}
use Rattle.trace_model.specs.declared.value.Value.{Value, Text, Number, Eight, Bytes, Truth, List', Map', Nothing}
use Rattle.jaeger_model.specs.Proper as written
use Rattle.jaeger_model.specs.declared.batch.Batch.{Batch}
use Rattle.jaeger_model.specs.declared.span.JSpan.{JSpan}
use Rattle.jaeger_model.specs.declared.span.Log.{Log}
use Rattle.jaeger_model.specs.declared.span.SpanRef.{SpanRef}
use Rattle.jaeger_model.specs.declared.tag.Tag.{Tag}
use Rattle.jaeger_model.specs.declared.tag.TagValue.{TagValue}
use Rattle.jaeger_model.specs.declared.tag.TagValue.TheVariants as tags
use Rattle.span_tags.specs.Escapes.{unescaped}
use Rattle.span_tags.proofs.AttributeLaws.{all_attrs}
use Rattle.span_tags.specs.Runs.{Scoped, in_front, is_of, plain_scope, runs}
use Rattle.span_tags.specs.TagKeys.{service_key}
use Rattle.span_tags.specs.TagWords.{row, text_in, at_most, decimal_in, count_in, text_given, without, name_in}
use Rattle.map_jaeger.specs.ColumnWords.{message_by}
use Rattle.map_jaeger.specs.Columns.{row_of, looked, is_free, is_reserved}
use Rattle.map_jaeger.specs.Keys.{flags_key, event_key, is_event_reserved, reference_key, child_of_word}
use Rattle.map_jaeger.specs.Reading.{attributes_of, flag_bits, high_flags, high_flags_of, event_of, link_of_reference, is_own_parent, parent_of, names, scoped_of, span_attributes, group_of}
use Rattle.map_jaeger.specs.TagValues.{value_of, attribute_of}
use Rattle.map_jaeger.specs.declared.columns.Column.{Column}
use Rattle.map_jaeger.specs.declared.columns.Column.TheVariants as columns
use Rattle.map_jaeger.proofs.EscapedKeys.{unescaped_proper}
use Rattle.map_jaeger.proofs.GroupProper.{ascii}
use Rattle.map_jaeger.proofs.ProperBatches.{IsProperScoped, row_proper, word, text_held}

-- ---- tags

value_proper : (value : TagValue) → written.IsProperTagValue value → IsProperValue (value_of value)
value_proper (tags.Text text) proper = proper
value_proper (tags.Eight double) proper = proper
value_proper (tags.Truth truth) proper = tt
value_proper (tags.Number number) proper = proper
value_proper (tags.Bytes bytes) proper = proper

attributes_proper : (list : List Tag) → All written.IsProperTag list → AreProper (attributes_of list)
attributes_proper list all =
    all_attrs IsProperPair (map attribute_of list) (All-map IsProperPair attribute_of list (λ k d lt. record { key = (all k d lt).key; value = value_proper (get_or list k d).value (all k d lt).value }))

without_proper : (key : List ℕ) (attributes : List (List ℕ × Value)) → AreProper attributes → AreProper (without key attributes)
without_proper key attributes all = All-filter (λ attribute. not (bytes_eq key attribute.0)) IsProperPair attributes all

-- ---- what stands under a key

under : (key : List ℕ) (attributes : List (List ℕ × Value)) → AreProper attributes → IfSome (at key attributes) IsProperValue
under key attributes all = All-lookup IsProperValue (bytes_eq key) attributes (λ k d lt. (all k d lt).value)

in_column : (attributes : List (List ℕ × Value)) → AreProper attributes → (column : Column) → IfSome (looked attributes column) IsProperValue
in_column attributes all column = under (row_of column).key attributes all

text_in_proper : (value : Option Value) → IfSome value IsProperValue → IfSome (text_in value) IsUtf8
text_in_proper None held = tt
text_in_proper (Some (Text text)) held = held
text_in_proper (Some (Truth truth)) held = tt
text_in_proper (Some (Number n)) held = tt
text_in_proper (Some (Eight double)) held = tt
text_in_proper (Some (Bytes bytes)) held = tt
text_in_proper (Some (List' shape members)) held = tt
text_in_proper (Some (Map' shape members)) held = tt
text_in_proper (Some Nothing) held = tt

or_proper : (one other : Option (List ℕ)) → IfSome one IsUtf8 → IfSome other IsUtf8 → IfSome (option_or one other) IsUtf8
or_proper None other a b = b
or_proper (Some text) other a b = a

or_nothing : (text : Option (List ℕ)) → IfSome text IsUtf8 → IsUtf8 (unwrap_or text [])
or_nothing None held = IsUtf8-nil
or_nothing (Some text) held = held

said : (value : Option Value) → IfSome value IsProperValue → IsUtf8 (unwrap_or (text_in value) [])
said value held = or_nothing (text_in value) (text_in_proper value held)

-- ---- counts

at_most_low : (n : ℕ) → unwrap_or (at_most 4294967295 n) 0 ≤ 4294967295
at_most_low n = by (nat_le n 4294967295) refl
  where
    by : (low : Bool) → nat_le n 4294967295 ≡ low → unwrap_or (cond low (Some n) None) 0 ≤ 4294967295
    by true e = leb-true n 4294967295 e
    by false e = omega arith

decimal_low : (found : Option ℕ) → unwrap_or (option_and_then (at_most 4294967295) found) 0 ≤ 4294967295
decimal_low None = omega arith
decimal_low (Some n) = at_most_low n

count_low : (value : Option Value) → unwrap_or (count_in value) 0 ≤ 4294967295
count_low None = omega arith
count_low (Some (Text text)) = decimal_low (decimal_in text)
count_low (Some (Truth truth)) = omega arith
count_low (Some (Number (pos n))) = at_most_low n
count_low (Some (Number (negsuc n))) = omega arith
count_low (Some (Eight double)) = omega arith
count_low (Some (Bytes bytes)) = omega arith
count_low (Some (List' shape members)) = omega arith
count_low (Some (Map' shape members)) = omega arith
count_low (Some Nothing) = omega arith

count_proper : (value : Option Value) → unwrap_or (count_in value) 0 < 2 ^ 32
count_proper value = let low = count_low value in omega (arith, low)

-- ---- the parts of a span

flags_row : (n : ℕ) → n < 2 ^ 64 → AreProper (row flags_key (high_flags n))
flags_row n lt = by (n == 0)
  where
    by : (none : Bool) → AreProper (row flags_key (cond none None (Some (Text (decimal n)))))
    by true = All-nil IsProperPair
    by false = row_proper flags_key (word flags_key (ascii flags_key refl)) (Some (Text (decimal n))) (IsUtf8-from_ascii (decimal n) (IsAscii-decimal n lt))

span_attributes_proper : (flags : ℤ) (attributes : List (List ℕ × Value)) → AreProper attributes → AreProper (span_attributes flags attributes)
span_attributes_proper flags attributes all =
    let free = filter (λ attribute. is_free attribute.0) attributes in
    all_attrs IsProperPair (row flags_key (high_flags_of flags) ++ unescaped is_reserved free)
    (All-append IsProperPair (row flags_key (high_flags_of flags)) (unescaped is_reserved free)
    (flags_row (flag_bits flags - flag_bits flags % 2) (omega arith))
    (unescaped_proper is_reserved free (All-filter (λ attribute. is_free attribute.0) IsProperPair attributes all)))

event_proper : (log : Log) → written.IsProperLog log → IsProperEvent (event_of log)
event_proper log h =
    let attributes = attributes_of log.fields in
    let all : AreProper attributes = attributes_proper log.fields h.fields in
    record { time = h.time; name = said (at event_key attributes) (under event_key attributes all); attributes = unescaped_proper is_event_reserved (without event_key attributes) (without_proper event_key attributes all); dropped = omega arith }

mark_proper : (child_of : Bool) → AreProper (if child_of then (reference_key, Text child_of_word) ∷ [] else [])
mark_proper true = row_proper reference_key (word reference_key (ascii reference_key refl)) (Some (Text child_of_word)) (word child_of_word (ascii child_of_word refl))
mark_proper false = All-nil IsProperPair

link_proper : (reference : SpanRef) → written.IsProperReference reference → IsProperLink (link_of_reference reference)
link_proper reference h =
    record { trace = h.trace; span = h.span; state = IsUtf8-nil; attributes = mark_proper reference.child_of; dropped = omega arith; flags = omega arith }

named_proper : (test : SpanRef → Bool) (references : List SpanRef) → All written.IsProperReference references → IsProperParent (option_map (λ reference. reference.span) (find test references))
named_proper test [] all = tt
named_proper test (reference ∷ references) all = by (test reference) (named_proper test references (All-tail written.IsProperReference reference references all))
  where
    by : (found : Bool) → IsProperParent (option_map (λ reference. reference.span) (find test references))
        → IsProperParent (option_map (λ reference. reference.span) (cond found (Some reference) (find test references)))
    by true others = (All-head written.IsProperReference reference references all).span
    by false others = others

or_named : (parent : Option ℕ) (other : Option ℕ) → IsProperParent parent → IsProperParent other → IsProperParent (option_or parent other)
or_named None other held named = named
or_named (Some id) other held named = held

message_proper : (code : Code) (description : Option Value) → IfSome description IsProperValue → IsUtf8 (message_by code description)
message_proper statuses.Unset description held = IsUtf8-nil
message_proper statuses.Okay description held = said description held
message_proper statuses.Fail description held = said description held

span_proper : (span : JSpan) → written.IsProperJSpan span → IsProperSpan (scoped_of span).span
span_proper span h =
    let attributes = attributes_of span.tags in
    let all : AreProper attributes = attributes_proper span.tags h.tags in
    let c = looked attributes in
    let links = filter (λ reference. not (is_own_parent span.trace reference && names (parent_of span) reference.span)) span.references in
    let kept : All written.IsProperReference links = All-filter (λ reference. not (is_own_parent span.trace reference && names (parent_of span) reference.span)) written.IsProperReference span.references h.references in
    record {
      trace = h.trace;
      id = h.id;
      state = said (c columns.State) (in_column attributes all columns.State);
      parent = or_named span.parent (option_map (λ reference. reference.span) (find (is_own_parent span.trace) span.references)) h.parent (named_proper (is_own_parent span.trace) span.references h.references);
      name = h.name;
      start = h.start;
      end = h.end;
      attributes = span_attributes_proper span.flags attributes all;
      dropped_attributes = count_proper (c columns.DroppedAttributes);
      events = All-map IsProperEvent event_of span.logs (λ k d lt. event_proper (get_or span.logs k d) (h.logs k d lt));
      dropped_events = count_proper (c columns.DroppedEvents);
      links = All-map IsProperLink link_of_reference links (λ k d lt. link_proper (get_or links k d) (kept k d lt));
      dropped_links = count_proper (c columns.DroppedLinks);
      status = record { message = message_proper (scoped_of span).span.status.code (c columns.Description) (in_column attributes all columns.Description) };
      flags = omega arith;
    }

name_proper : (newer older : Option Value) → IfSome newer IsProperValue → IfSome older IsProperValue → IsUtf8 (name_in newer older)
name_proper newer older a b = or_nothing (option_or (text_in newer) (text_in older)) (or_proper (text_in newer) (text_in older) (text_in_proper newer a) (text_in_proper older b))

scoped_proper : (span : JSpan) → written.IsProperJSpan span → IsProperScoped (scoped_of span)
scoped_proper span h =
    let attributes = attributes_of span.tags in
    let all : AreProper attributes = attributes_proper span.tags h.tags in
    let c = looked attributes in
    record {
      name = name_proper (c columns.ScopeName) (c columns.LibraryName) (in_column attributes all columns.ScopeName) (in_column attributes all columns.LibraryName);
      version = name_proper (c columns.ScopeVersion) (c columns.LibraryVersion) (in_column attributes all columns.ScopeVersion) (in_column attributes all columns.LibraryVersion);
      span = span_proper span h;
    }

-- ---- scopes

plain_proper : (name version : List ℕ) (spans : List Span) → IsUtf8 name → IsUtf8 version → All IsProperSpan spans → IsProperScope (plain_scope name version spans)
plain_proper name version spans its_name its_version each =
    record { name = its_name; version = its_version; attributes = All-nil IsProperPair; dropped = omega arith; schema_url = IsUtf8-nil; spans = each }

single : (one : Scoped Span) → IsProperScoped one → IsProperScope (plain_scope one.name one.version (one.span ∷ []))
single one its = plain_proper one.name one.version (one.span ∷ []) its.name its.version (All-cons IsProperSpan one.span [] its.span (All-nil IsProperSpan))

by_test : (one : Scoped Span) (scope : Scope) (scopes : List Scope) (same : Bool) → IsProperScoped one → IsProperScope scope → All IsProperScope scopes
    → All IsProperScope (if same then plain_scope scope.name scope.version (one.span ∷ scope.spans) ∷ scopes
    else plain_scope one.name one.version (one.span ∷ []) ∷ scope ∷ scopes)
by_test one scope scopes true its first others = All-cons IsProperScope (plain_scope scope.name scope.version (one.span ∷ scope.spans)) scopes
    (plain_proper scope.name scope.version (one.span ∷ scope.spans) first.name first.version (All-cons IsProperSpan one.span scope.spans its.span first.spans)) others
by_test one scope scopes false its first others = All-cons IsProperScope (plain_scope one.name one.version (one.span ∷ [])) (scope ∷ scopes)
    (single one its) (All-cons IsProperScope scope scopes first others)

front_proper : (one : Scoped Span) (scopes : List Scope) → IsProperScoped one → All IsProperScope scopes → All IsProperScope (in_front one scopes)
front_proper one [] its each = All-cons IsProperScope (plain_scope one.name one.version (one.span ∷ [])) [] (single one its) (All-nil IsProperScope)
front_proper one (scope ∷ scopes) its each =
    by_test one scope scopes (is_of one scope) its (All-head IsProperScope scope scopes each) (All-tail IsProperScope scope scopes each)

scopes_proper : (spans : List JSpan) → All written.IsProperJSpan spans → All IsProperScope (runs (map scoped_of spans))
scopes_proper [] all = All-nil IsProperScope
scopes_proper (span ∷ spans) all =
    front_proper (scoped_of span) (runs (map scoped_of spans)) (scoped_proper span (All-head written.IsProperJSpan span spans all)) (scopes_proper spans (All-tail written.IsProperJSpan span spans all))

-- ---- the group

service_row : (service : List ℕ) → IsUtf8 service → AreProper (row service_key (text_given service))
service_row service utf8 = row_proper service_key (word service_key (ascii service_key refl)) (text_given service) (text_held service utf8)

pub group_proper : (batch : Batch) → written.IsProperBatch batch → IsProperGroup (group_of batch)
group_proper batch h =
    let others : AreProper (without service_key (attributes_of batch.tags)) = without_proper service_key (attributes_of batch.tags) (attributes_proper batch.tags h.tags) in
    record {
      resource = all_attrs IsProperPair (row service_key (text_given batch.service) ++ without service_key (attributes_of batch.tags))
          (All-append IsProperPair (row service_key (text_given batch.service)) (without service_key (attributes_of batch.tags)) (service_row batch.service h.service) others);
      dropped = omega arith;
      schema_url = IsUtf8-nil;
      scopes = scopes_proper batch.spans h.spans;
    }
