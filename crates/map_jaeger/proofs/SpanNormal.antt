-- The normal form of a span that Jaeger can hold: it can be held, is sound and proper, is its own normal form, and is written alike.
use Rattle.std.proofs.Common.{◌≡◌, ℕ, ◌+◌, ◌%◌, ◌<◌, ◌≤◌, Bool, true, false, nat_lt, ltb-true, List, [], ◌∷◌, ◌++◌, map, get_or, All, Contains, unwrap_or, refl, sym, ap, ◌∙◌, subst, ⊎_elim, arith}
use Rattle.std.specs.Prelude.{Any, if◌then◌else◌, IsUtf8}
use Rattle.std.specs.List.{list_all}
use Rattle.std.specs.Int.{w32, cast_signed}
use Rattle.std.proofs.lemmas.Bool.{cases_lt}
use Rattle.std.proofs.lemmas.List.Elements.{All-nil, All-cons, All-map, All-contains}
use Rattle.std.proofs.lemmas.Str.{IsUtf8-nil, IsUtf8-from_ascii}
use Rattle.std.proofs.lemmas.Str.Ascii.{IsAscii-from_all}
use Rattle.std.proofs.lemmas.List.Sums.{AllPass-from_list_all}
use Rattle.span_ids.specs.Times.{floor}
use Rattle.trace_model.specs.Attributes.{Rise, keys, attrs, at}
use Rattle.trace_model.specs.Proper.{IsProperPair, AreProper, IsProperEvent, IsProperLink, IsProperSpan}
use Rattle.trace_model.specs.Soundness.{IsSoundEvent, IsSoundLink, IsSoundSpan}
use Rattle.trace_model.specs.Values.{AreSound}
use Rattle.trace_model.specs.declared.fault.Fault.{Fault}
use Rattle.trace_model.specs.declared.fault.Fault.TheVariants.{EndBeforeStart, OwnKey, EventText, ChildOfLink, DoubleInText}
use Rattle.trace_model.specs.declared.span.Code.{Code}
use Rattle.trace_model.specs.declared.span.Code.TheVariants as statuses
use Rattle.trace_model.specs.declared.span.Event.{Event}
use Rattle.trace_model.specs.declared.span.Kind.{Kind}
use Rattle.trace_model.specs.declared.span.Kind.TheVariants as kinds
use Rattle.trace_model.specs.declared.span.Link.{Link}
use Rattle.trace_model.specs.declared.span.Span.{Span}
use Rattle.trace_model.specs.declared.value.Value.{Value, Text}
use Rattle.span_tags.specs.Escapes.{escaped}
use Rattle.span_tags.proofs.AttributeLaws.{attrs_rise, at_map, keys_map, map_rise, map_attrs}
use Rattle.span_tags.proofs.EscapeLaws.{escaped_values}
use Rattle.span_tags.specs.Runs.{Scoped}
use Rattle.span_tags.specs.TagWords.{row, text_given, without}
use Rattle.map_jaeger.specs.ColumnWords.{flags_in, kind_given, description_given}
use Rattle.map_jaeger.specs.Columns.{columns_of, rows, is_reserved}
use Rattle.map_jaeger.specs.Faults.{IsOwnParent, HasDouble, IsSpanFault}
use Rattle.map_jaeger.specs.Keys.{flags_key, event_key, is_event_reserved, reference_key, child_of_word}
use Rattle.map_jaeger.specs.Normal.{normal_attributes, normal_kind, normal_status, normal_event, normal_link, normal_span, normal_scoped}
use Rattle.map_jaeger.specs.TagValues.{normal_value, tag_of}
use Rattle.map_jaeger.specs.Writing.{flags_of, tags_of, log_of, is_child_of, reference_of, jaeger_span}
use Rattle.map_jaeger.specs.declared.columns.Column.{Column}
use Rattle.map_jaeger.specs.declared.columns.Column.TheVariants as columns
use Rattle.map_jaeger.proofs.ColumnLemmas.{normal_rows}
use Rattle.map_jaeger.proofs.GroupLeaves.{IsLeaf, AreLeaves, leaf_sound, normal_leaves, leaves_normal, leaves_plain, tags_same, without_normal_values}
use Rattle.map_jaeger.proofs.GroupProper.{TextsAreUtf8, normal_proper as attributes_proper}
use Rattle.map_jaeger.proofs.SpanBack.{own_leaf}
use Rattle.map_jaeger.proofs.SpanParts.{back_each, none_of, columns_leaves}

-- ---- times, numbers and rows

pub floor_twice : (n : ℕ) → floor (floor n) ≡ floor n
floor_twice n = omega arith

floor_rises : (m n : ℕ) → m ≤ n → floor m ≤ floor n
floor_rises m n le = omega arith

pub bit_twice : (n : ℕ) → n % 2 % 2 ≡ n % 2
bit_twice n = omega arith

kind_twice : (kind : Kind) → normal_kind (normal_kind kind) ≡ normal_kind kind
kind_twice kinds.Unspecified = refl
kind_twice kinds.Internal = refl
kind_twice kinds.Server = refl
kind_twice kinds.Client = refl
kind_twice kinds.Producer = refl
kind_twice kinds.Consumer = refl

kind_same : (kind : Kind) → kind_given (normal_kind kind) ≡ kind_given kind
kind_same kinds.Unspecified = refl
kind_same kinds.Internal = refl
kind_same kinds.Server = refl
kind_same kinds.Client = refl
kind_same kinds.Producer = refl
kind_same kinds.Consumer = refl

-- the message that stays with a code
abbrev kept_message : Code → List ℕ → List ℕ
kept_message code message = (normal_status (record { code = code; message = message })).message

message_twice : (code : Code) (message : List ℕ) → kept_message code (kept_message code message) ≡ kept_message code message
message_twice statuses.Unset message = refl
message_twice statuses.Okay message = refl
message_twice statuses.Fail message = refl

message_same : (code : Code) (message : List ℕ) → description_given code (kept_message code message) ≡ description_given code message
message_same statuses.Unset message = refl
message_same statuses.Okay message = refl
message_same statuses.Fail message = refl

message_utf8 : (code : Code) (message : List ℕ) → IsUtf8 message → IsUtf8 (kept_message code message)
message_utf8 statuses.Unset message utf8 = IsUtf8-nil
message_utf8 statuses.Okay message utf8 = utf8
message_utf8 statuses.Fail message utf8 = utf8

pub no_any : {A : Type 0} → (P : A → Type 0) (xs : List A) → All (λ x. P x → ⊥) xs → Any P xs → ⊥
no_any P xs all any = All-contains (λ x. P x → ⊥) xs any.1 all (any.0, any.2, any.3) any.4

pub leaves_sound : (l : List (List ℕ × Value)) → Rise (keys l) → AreLeaves l → AreSound l
leaves_sound l up leaves = record { rising = up; values = λ k d lt. leaf_sound (get_or l k d).1 (leaves k d lt) }

-- ---- attributes

append_map : (a b : List (List ℕ × Value)) → normal_attributes (a ++ b) ≡ normal_attributes a ++ normal_attributes b
append_map [] b = refl
append_map (pair ∷ a) b = ap (λ l. (pair.0, normal_value pair.1) ∷ l) (append_map a b)

-- tags behind rows of leaves are those of the normal form
tags_alike : (told rest : List (List ℕ × Value)) → normal_attributes told ≡ told → map tag_of (attrs (told ++ normal_attributes rest)) ≡ map tag_of (attrs (told ++ rest))
tags_alike told rest leaves =
    ap (λ l. map tag_of (attrs (l ++ normal_attributes rest))) (sym leaves)
    ∙ ap (λ l. map tag_of (attrs l)) (sym (append_map told rest))
    ∙ ap (map tag_of) (sym (map_attrs normal_value (told ++ rest)))
    ∙ tags_same (attrs (told ++ rest))

-- and so they are behind them under the keys that they are written under
escaped_alike : (is_reserved : List ℕ → Bool) (told rest : List (List ℕ × Value)) → normal_attributes told ≡ told
    → map tag_of (attrs (told ++ escaped is_reserved (normal_attributes rest))) ≡ map tag_of (attrs (told ++ escaped is_reserved rest))
escaped_alike is_reserved told rest leaves =
    ap (λ l. map tag_of (attrs (told ++ l))) (sym (escaped_values is_reserved normal_value rest))
    ∙ tags_alike told (escaped is_reserved rest) leaves

-- ---- links

-- the attributes of a link by its mark
abbrev pub mark : Bool → List (List ℕ × Value)
mark marked = if marked then (reference_key, Text child_of_word) ∷ [] else []

pub mark_back : (marked : Bool) → is_child_of (at reference_key (mark marked)) ≡ marked
mark_back true = refl
mark_back false = refl

pub mark_leaves : (marked : Bool) → AreLeaves (mark marked)
mark_leaves true = All-cons (λ pair. IsLeaf pair.1) (reference_key, Text child_of_word) [] tt (All-nil (λ pair. IsLeaf pair.1))
mark_leaves false = All-nil (λ pair. IsLeaf pair.1)

pub mark_rise : (marked : Bool) → Rise (keys (mark marked))
mark_rise true = attrs_rise ((reference_key, Text child_of_word) ∷ [])
mark_rise false = attrs_rise {V = Value} []

ascii_utf8 : (bs : List ℕ) → list_all (λ b. nat_lt b 128) bs ≡ true → IsUtf8 bs
ascii_utf8 bs e = IsUtf8-from_ascii bs (IsAscii-from_all bs (λ k d lt. ltb-true (get_or bs k d) 128 (AllPass-from_list_all (λ b. nat_lt b 128) bs e k d lt)))

mark_proper : (marked : Bool) → AreProper (mark marked)
mark_proper true = All-cons IsProperPair (reference_key, Text child_of_word) []
    (record { key = ascii_utf8 reference_key refl; value = ascii_utf8 child_of_word refl }) (All-nil IsProperPair)
mark_proper false = All-nil IsProperPair

abbrev marked : Link → Bool
marked link = is_child_of (at reference_key link.attributes)

link_twice : (link : Link) → normal_link (normal_link link) ≡ normal_link link
link_twice link = λ i. record { trace = link.trace; span = link.span; state = []; attributes = mark (mark_back (marked link) i); dropped = 0; flags = 0 }

link_same : (link : Link) → reference_of (normal_link link) ≡ reference_of link
link_same link = λ i. record { child_of = mark_back (marked link) i; trace = link.trace; span = link.span }

link_sound : (link : Link) → IsSoundLink (normal_link link)
link_sound link = leaves_sound (mark (marked link)) (mark_rise (marked link)) (mark_leaves (marked link))

link_proper : (link : Link) → IsProperLink link → IsProperLink (normal_link link)
link_proper link proper = record {
  trace = proper.trace;
  span = proper.span;
  state = IsUtf8-nil;
  attributes = mark_proper (marked link);
  dropped = omega arith;
  flags = omega arith;
}

-- ---- events

event_twice : (event : Event) → normal_event (normal_event event) ≡ normal_event event
event_twice event =
    let attributes : normal_attributes (normal_attributes event.attributes) ≡ normal_attributes event.attributes =
    leaves_normal (normal_attributes event.attributes) (normal_leaves event.attributes) in
    λ i. record { time = floor_twice event.time i; name = event.name; attributes = attributes i; dropped = 0 }

row_leaf : (name : List ℕ) → normal_attributes (row event_key (text_given name)) ≡ row event_key (text_given name)
row_leaf [] = refl
row_leaf (x ∷ more) = refl

event_same : (event : Event) → log_of (normal_event event) ≡ log_of event
event_same event = λ i. record {
  time = floor_twice event.time i;
  fields = escaped_alike is_event_reserved (row event_key (text_given event.name)) event.attributes (row_leaf event.name) i;
}

event_sound : (event : Event) → IsSoundEvent event → IsSoundEvent (normal_event event)
event_sound event sound = leaves_sound (normal_attributes event.attributes) (map_rise normal_value event.attributes sound.rising) (normal_leaves event.attributes)

event_proper : TextsAreUtf8 → (event : Event) → IsProperEvent event → IsProperEvent (normal_event event)
event_proper utf8 event proper =
    let low = proper.time in
    record { time = omega arith; name = proper.name; attributes = attributes_proper utf8 event.attributes proper.attributes; dropped = omega arith }

-- ---- the span

module _ (span : Span) (sound : IsSoundSpan span) (proper : IsProperSpan span) (faultless : (fault : Fault) → IsSpanFault span fault → ⊥) where
  own_same : at flags_key (normal_attributes span.attributes) ≡ at flags_key span.attributes
  own_same = at_map normal_value flags_key span.attributes ∙ own_leaf (record { name = []; version = []; span = span }) sound proper faultless

  key_kept : (l : List (List ℕ × Value)) (key : List ℕ) → Contains (keys (normal_attributes l)) key → Contains (keys l) key
  key_kept l key there = subst (λ ks. Contains ks key) (keys_map normal_value l) there

  parent_kept : (link : Link) → IsOwnParent (normal_span span) (normal_link link) → IsOwnParent span link
  parent_kept link is = (sym (mark_back (marked link)) ∙ is.0, is.1, is.2)

  pub normal_no_fault : (fault : Fault) → IsSpanFault (normal_span span) fault → ⊥
  normal_no_fault EndBeforeStart early = ⊎_elim
      (λ (lt : span.end < span.start). faultless EndBeforeStart lt)
      (λ (le : span.start ≤ span.end). let rises = floor_rises span.start span.end le in absurd (omega arith))
      (cases_lt span.end span.start)
  normal_no_fault (OwnKey key) has = faultless (OwnKey flags_key) (refl, key_kept span.attributes flags_key has.1, ap flags_in (sym own_same) ∙ has.2)
  normal_no_fault EventText has = has
  normal_no_fault ChildOfLink any = no_any (IsOwnParent (normal_span span)) (map normal_link span.links)
      (All-map (λ link. IsOwnParent (normal_span span) link → ⊥) normal_link span.links
      (λ k d lt is. links_free k d lt (parent_kept (get_or span.links k d) is)))
      any
    where
      links_free : All (λ link. IsOwnParent span link → ⊥) span.links
      links_free = none_of (IsOwnParent span) span.links (λ any. faultless ChildOfLink any)
  normal_no_fault DoubleInText has = ⊎_elim
      (λ (inside : HasDouble (normal_attributes span.attributes)). leaves_plain (normal_attributes span.attributes) (normal_leaves span.attributes) inside)
      (λ (any : Any (λ event. HasDouble event.attributes) (map normal_event span.events)). no_any (λ event. HasDouble event.attributes) (map normal_event span.events)
      (All-map (λ event. HasDouble event.attributes → ⊥) normal_event span.events
      (λ k d lt inside. leaves_plain (normal_attributes (get_or span.events k d).attributes) (normal_leaves (get_or span.events k d).attributes) inside))
      any)
      has

  pub normal_sound : IsSoundSpan (normal_span span)
  normal_sound = record {
    attributes = leaves_sound (normal_attributes span.attributes) (map_rise normal_value span.attributes sound.attributes.rising) (normal_leaves span.attributes);
    events = All-map IsSoundEvent normal_event span.events (λ k d lt. event_sound (get_or span.events k d) (sound.events k d lt));
    links = All-map IsSoundLink normal_link span.links (λ k d lt. link_sound (get_or span.links k d));
  }

  pub normal_normal : normal_span (normal_span span) ≡ normal_span span
  normal_normal =
      let attributes : normal_attributes (normal_attributes span.attributes) ≡ normal_attributes span.attributes =
      leaves_normal (normal_attributes span.attributes) (normal_leaves span.attributes) in
      let events : map normal_event (map normal_event span.events) ≡ map normal_event span.events =
      back_each normal_event normal_event normal_event span.events (λ k d lt. event_twice (get_or span.events k d)) in
      let links : map normal_link (map normal_link span.links) ≡ map normal_link span.links =
      back_each normal_link normal_link normal_link span.links (λ k d lt. link_twice (get_or span.links k d)) in
      λ i. record (normal_span span) {
        kind = kind_twice span.kind i;
        start = floor_twice span.start i;
        end = floor_twice span.end i;
        attributes = attributes i;
        events = events i;
        links = links i;
        status = record { code = span.status.code; message = message_twice span.status.code span.status.message i };
        flags = bit_twice span.flags i;
      }

  -- by a law of the model: texts of values are UTF-8
  pub normal_proper : TextsAreUtf8 → IsProperSpan (normal_span span)
  normal_proper utf8 =
      let start = proper.start in
      let end = proper.end in
      let flags = proper.flags in
      record {
        trace = proper.trace;
        id = proper.id;
        state = proper.state;
        parent = proper.parent;
        name = proper.name;
        start = omega arith;
        end = omega arith;
        attributes = attributes_proper utf8 span.attributes proper.attributes;
        dropped_attributes = proper.dropped_attributes;
        events = All-map IsProperEvent normal_event span.events (λ k d lt. event_proper utf8 (get_or span.events k d) (proper.events k d lt));
        dropped_events = proper.dropped_events;
        links = All-map IsProperLink normal_link span.links (λ k d lt. link_proper (get_or span.links k d) (proper.links k d lt));
        dropped_links = proper.dropped_links;
        status = record { message = message_utf8 span.status.code span.status.message proper.status.message };
        flags = omega arith;
      }

module _ (one : Scoped Span) (sound : IsSoundSpan one.span) (proper : IsProperSpan one.span) (faultless : (fault : Fault) → IsSpanFault one.span fault → ⊥) where
  same_in : (column : Column) → columns_of (normal_scoped one) column ≡ columns_of one column
  same_in columns.Description = message_same one.span.status.code one.span.status.message
  same_in columns.Kind = kind_same one.span.kind
  same_in other = refl

  tags_kept : tags_of (normal_scoped one) ≡ tags_of one
  tags_kept =
      (λ i. map tag_of (attrs (rows (λ column. same_in column i) ++ escaped is_reserved (without_normal_values flags_key one.span.attributes i))))
      ∙ escaped_alike is_reserved (rows (columns_of one)) (without flags_key one.span.attributes) (normal_rows (columns_of one) ∙ ap rows (columns_leaves one))

  flags_kept : flags_of (normal_span one.span) ≡ flags_of one.span
  flags_kept = λ i. cast_signed w32 (bit_twice one.span.flags i + unwrap_or (flags_in (own_same one.span sound proper faultless i)) 0)

  pub normal_same : jaeger_span (normal_scoped one) ≡ jaeger_span one
  normal_same =
      let references : map reference_of (map normal_link one.span.links) ≡ map reference_of one.span.links =
      back_each reference_of normal_link reference_of one.span.links (λ k d lt. link_same (get_or one.span.links k d)) in
      let logs : map log_of (map normal_event one.span.events) ≡ map log_of one.span.events =
      back_each log_of normal_event log_of one.span.events (λ k d lt. event_same (get_or one.span.events k d)) in
      λ i. record (jaeger_span one) {
        references = references i;
        flags = flags_kept i;
        start = floor_twice one.span.start i;
        end = floor_twice one.span.end i;
        tags = tags_kept i;
        logs = logs i;
      }
