-- What is read of a proper span is sound and proper.
use Rattle.std.proofs.Common.{◌≡◌, ℕ, ◌<◌, ◌≤◌, ◌^◌, pos, negsuc, Bool, true, false, cond, nat_le, List, [], ◌∷◌, ◌++◌, take, drop, get_or, All, Option, Some, None, option_and_then, unwrap_or, decimal, is_some, refl, sym, ap, ◌∙◌, subst, true≢false, leb-true, take-append-drop, lit≤, arith}
use Rattle.std.specs.Prelude.{◌&&◌, ◌==◌, not, codes, IsUtf8}
use Rattle.std.specs.Option.{IfSome, option_or}
use Rattle.std.specs.Str.{bytes_eq}
use Rattle.std.proofs.lemmas.Fmt.{IsAscii-decimal}
use Rattle.std.proofs.lemmas.List.Elements.{All-nil, All-cons, All-map, All-filter, All-weaker}
use Rattle.std.proofs.lemmas.Map.Entries.{All-lookup}
use Rattle.std.proofs.lemmas.Str.Ascii.{IsAscii-from_all}
use Rattle.std.proofs.lemmas.Bool.{ltb-true}
use Rattle.std.proofs.Math.Dec.{ltb}
use Rattle.std.specs.List.{list_all}
use Rattle.std.proofs.lemmas.Str.{IsUtf8-nil, IsUtf8-drop, IsUtf8-from_ascii, IsCharBoundary-after_ascii}
use Rattle.span_tags.specs.Escapes.{front, unesc}
use Rattle.span_tags.proofs.AttributeLaws.{attrs_rise, same_key}
use Rattle.span_tags.proofs.EscapeLaws.{unesc_holds}
use Rattle.span_tags.specs.TagKeys.{service_key}
use Rattle.span_tags.specs.TagWords.{Pairs, text_in, text_given, at_most, decimal_in, count_in, name_in}
use Rattle.trace_model.specs.Attributes.{Rise, keys, at}
use Rattle.trace_model.specs.EventReading.{event_text_read}
use Rattle.trace_model.specs.Proper.{IsProperValue, IsProperPair, AreProper, IsProperEvent, IsProperSpan, IsProperLink}
use Rattle.trace_model.specs.Soundness.{IsSoundEvent, IsSoundSpan, IsSoundLink}
use Rattle.trace_model.specs.Values.{IsSound, AreSound}
use Rattle.trace_model.specs.declared.span.Code.{Code}
use Rattle.trace_model.specs.declared.span.Code.TheVariants as statuses
use Rattle.trace_model.specs.declared.value.Value.{Value, Text, Truth, Number, Eight, Bytes, List', Map', Nothing}
use Rattle.zipkin_json.specs.Proper as written
use Rattle.zipkin_json.specs.Proper.{IsProperZSpan}
use Rattle.zipkin_json.specs.declared.span.ZSpan.{ZSpan}
use Rattle.map_zipkin.specs.Keys.{resource_prefix, is_zipkin_reserved, peer_key}
use Rattle.map_zipkin.specs.OwnColumns.{own_row, own_of, truth_given}
use Rattle.map_zipkin.specs.Reading.{pair_of, pairs_of, resource_tags, resource_by, attributes_by, event_by, zipkin_event_of, message_of, run_span_of}
use Rattle.map_zipkin.specs.TagColumns.{TagColumns, count_text, row_of, columns_in}
use Rattle.map_zipkin.specs.declared.columns.Column.{Column}
use Rattle.map_zipkin.specs.declared.columns.Column.TheVariants as columns
use Rattle.map_zipkin.specs.declared.own.Own.{Own}
use Rattle.map_zipkin.specs.declared.own.Own.TheVariants as owns
use Rattle.map_zipkin.proofs.EventFacts.{EventsRead, EventsProper}
use Rattle.map_zipkin.proofs.ReadFaults.{found_has}
use Rattle.map_zipkin.proofs.ReadTexts.{free_all, IsTextPair, attributes_all, attributes_texts, attributes_rise, resource_all, resource_tags_all, resource_texts, resource_rise}

-- ---- sound

text_sound : (pair : List ℕ × Value) → IsTextPair pair → IsSound pair.1
text_sound pair is = subst IsSound (sym is.is) (record { shallow = lit≤ tt; rising = tt })

texts_sound : (pairs : Pairs) → Rise (keys pairs) → All IsTextPair pairs → AreSound pairs
texts_sound pairs up all = record { rising = up; values = All-weaker IsTextPair (λ pair. IsSound pair.1) text_sound pairs all }

none_sound : AreSound []
none_sound = record { rising = attrs_rise {V = Value} []; values = All-nil (λ pair. IsSound pair.1) }

pub resource_sound : (span : ZSpan) → AreSound (resource_by span.local.service (pairs_of span))
resource_sound span = texts_sound (resource_by span.local.service (pairs_of span)) (resource_rise span.local.service (pairs_of span)) (resource_texts span.local.service span)

module _ (facts : EventsRead) where
  event_sound : (time : ℕ) (text : List ℕ) (read : Option (List ℕ × Pairs)) → event_text_read text ≡ read → IsSoundEvent (event_by time text read)
  event_sound time text None e = none_sound
  event_sound time text (Some found) e = ((facts.reads text found.0 found.1).0 e).event.sound

  pub span_sound : (span : ZSpan) → IsSoundSpan (run_span_of span).1
  span_sound span = record {
    attributes = texts_sound (attributes_by span (pairs_of span)) (attributes_rise span (pairs_of span)) (attributes_texts span);
    events = All-map IsSoundEvent zipkin_event_of span.annotations
        (λ k d lt. let one = get_or span.annotations k d in event_sound one.0 one.1 (event_text_read one.1) refl);
    links = All-nil IsSoundLink;
  }

-- ---- texts

text_in_proper : (value : Option Value) → IfSome value IsProperValue → IfSome (text_in value) IsUtf8
text_in_proper None held = tt
text_in_proper (Some (Text text)) held = held
text_in_proper (Some (Truth truth)) held = tt
text_in_proper (Some (Number n)) held = tt
text_in_proper (Some (Eight double)) held = tt
text_in_proper (Some (Bytes bytes)) held = tt
text_in_proper (Some (List' shape members)) held = tt
text_in_proper (Some (Map' shape members)) held = tt
text_in_proper (Some Nothing) held = tt

or_proper : (one other : Option (List ℕ)) → IfSome one IsUtf8 → IfSome other IsUtf8 → IfSome (option_or one other) IsUtf8
or_proper None other a b = b
or_proper (Some text) other a b = a

or_nothing : (text : Option (List ℕ)) → IfSome text IsUtf8 → IsUtf8 (unwrap_or text [])
or_nothing None held = IsUtf8-nil
or_nothing (Some text) held = held

said : (value : Option Value) → IfSome value IsProperValue → IsUtf8 (unwrap_or (text_in value) [])
said value held = or_nothing (text_in value) (text_in_proper value held)

name_proper : (newer older : Option Value) → IfSome newer IsProperValue → IfSome older IsProperValue → IsUtf8 (name_in newer older)
name_proper newer older a b = or_nothing (option_or (text_in newer) (text_in older)) (or_proper (text_in newer) (text_in older) (text_in_proper newer a) (text_in_proper older b))

message_proper : (code : Code) (error : Option Value) → IfSome error IsProperValue → IsUtf8 (message_of code error)
message_proper statuses.Unset error held = IsUtf8-nil
message_proper statuses.Okay error held = IsUtf8-nil
message_proper statuses.Fail error held = said error held

-- ---- counts

at_most_low : (n : ℕ) → unwrap_or (at_most 4294967295 n) 0 ≤ 4294967295
at_most_low n = by (nat_le n 4294967295) refl
  where
    by : (low : Bool) → nat_le n 4294967295 ≡ low → unwrap_or (cond low (Some n) None) 0 ≤ 4294967295
    by true e = leb-true n 4294967295 e
    by false e = omega arith

decimal_low : (found : Option ℕ) → unwrap_or (option_and_then (at_most 4294967295) found) 0 ≤ 4294967295
decimal_low None = omega arith
decimal_low (Some n) = at_most_low n

count_low : (value : Option Value) → unwrap_or (count_in value) 0 ≤ 4294967295
count_low None = omega arith
count_low (Some (Text text)) = decimal_low (decimal_in text)
count_low (Some (Truth truth)) = omega arith
count_low (Some (Number (pos n))) = at_most_low n
count_low (Some (Number (negsuc n))) = omega arith
count_low (Some (Eight double)) = omega arith
count_low (Some (Bytes bytes)) = omega arith
count_low (Some (List' shape members)) = omega arith
count_low (Some (Map' shape members)) = omega arith
count_low (Some Nothing) = omega arith

count_proper : (value : Option Value) → unwrap_or (count_in value) 0 < 2 ^ 32
count_proper value = let low = count_low value in omega (arith, low)

-- ---- tags

ascii : (bs : List ℕ) → list_all (λ b. ltb b 128) bs ≡ true → All (λ b. b < 128) bs
ascii [] e = All-nil (λ b. b < 128)
ascii (b ∷ bs) e = by (λ rest. ascii bs rest) (ltb b 128) refl e
  where
    by : (list_all (λ c. ltb c 128) bs ≡ true → All (λ c. c < 128) bs) → (low : Bool) → ltb b 128 ≡ low → (low && list_all (λ c. ltb c 128) bs) ≡ true → All (λ c. c < 128) (b ∷ bs)
    by others true low rest = All-cons (λ c. c < 128) b bs (ltb-true b 128 low) (others rest)
    by others false low rest = absurd (true≢false (sym rest))

-- a text of ASCII is UTF-8
pub word : (text : List ℕ) → list_all (λ b. ltb b 128) text ≡ true → IsUtf8 text
word text e = IsUtf8-from_ascii text (IsAscii-from_all text (ascii text e))

tag_proper : (tag : List ℕ × List ℕ) → written.IsProperZTag tag → IsProperPair (pair_of tag)
tag_proper tag its = record { key = its.0; value = its.1 }

tags_proper : (span : ZSpan) → IsProperZSpan span → AreProper (pairs_of span)
tags_proper span proper = All-map IsProperPair pair_of span.tags (λ k d lt. tag_proper (get_or span.tags k d) (proper.tags k d lt))

under_key : (key : List ℕ) (tags : Pairs) → AreProper tags → IfSome (at key tags) IsProperValue
under_key key tags all = All-lookup IsProperValue (bytes_eq key) tags (λ k d lt. (all k d lt).value)

behind : (more : List ℕ) → IsUtf8 (resource_prefix ++ more) → IsUtf8 more
behind more utf8 = IsUtf8-drop (resource_prefix ++ more) 14 utf8 (IsCharBoundary-after_ascii (resource_prefix ++ more) 13 utf8 (omega arith) (lit≤ tt))

key_behind : (key k : List ℕ) (b : Bool) → bytes_eq (take 14 key) resource_prefix ≡ b → cond b (Some (drop 14 key)) None ≡ Some k → IsUtf8 key → IsUtf8 k
key_behind key k false apart e utf8 = absurd (true≢false (sym (ap is_some e)))
key_behind key k true same e utf8 =
    let rest : drop 14 key ≡ k = cc in
    let whole : key ≡ resource_prefix ++ drop 14 key = sym (take-append-drop 14 key) ∙ ap (λ l. l ++ drop 14 key) (same_key (take 14 key) resource_prefix same) in
    subst IsUtf8 rest (behind (drop 14 key) (subst IsUtf8 whole utf8))

behind_front : (more : List ℕ) → IsUtf8 (front ++ more) → IsUtf8 more
behind_front more utf8 = IsUtf8-drop (front ++ more) 10 utf8 (IsCharBoundary-after_ascii (front ++ more) 9 utf8 (omega arith) (lit≤ tt))

attribute_utf8 : (key : List ℕ) → IsUtf8 key → IsUtf8 (unesc is_zipkin_reserved key)
attribute_utf8 = unesc_holds is_zipkin_reserved IsUtf8 behind_front

number_utf8 : (n : ℕ) → n < 65536 → IsUtf8 (decimal n)
number_utf8 n lt = IsUtf8-from_ascii (decimal n) (IsAscii-decimal n (omega (arith, lt)))

own_ascii : (own : Own) → list_all (λ b. ltb b 128) (own_row own).key ≡ true
own_ascii owns.Debug = refl
own_ascii other = refl

truth_proper : (truth : Bool) (value : Value) → truth_given truth ≡ Some value → IsProperValue value
truth_proper false value e = absurd (cc)
truth_proper true value e = let is : Text (codes "true") ≡ value = cc in subst IsProperValue is (word (codes "true") refl)

text_proper : (text : List ℕ) → IsUtf8 text → (value : Value) → text_given text ≡ Some value → IsProperValue value
text_proper [] utf8 value e = absurd (cc)
text_proper (x ∷ more) utf8 value e = let is : Text (x ∷ more) ≡ value = cc in subst IsProperValue is utf8

count_proper_in : (n : ℕ) → n < 65536 → (value : Value) → count_text n ≡ Some value → IsProperValue value
count_proper_in n lt value e = by (n == 0) e
  where
    by : (b : Bool) → cond b None (Some (Text (decimal n))) ≡ Some value → IsProperValue value
    by true e = absurd (cc)
    by false e = let is : Text (decimal n) ≡ value = cc in subst IsProperValue is (number_utf8 n lt)

module _ (span : ZSpan) (proper : IsProperZSpan span) where
  own_proper : (own : Own) (value : Value) → own_of span own ≡ Some value → IsProperValue value
  own_proper owns.Debug value e = truth_proper span.debug value e
  own_proper owns.LocalIpv4 value e = text_proper span.local.ipv4 proper.local.ipv4 value e
  own_proper owns.LocalIpv6 value e = text_proper span.local.ipv6 proper.local.ipv6 value e
  own_proper owns.LocalPort value e = count_proper_in span.local.port proper.local.port value e
  own_proper owns.RemoteIpv4 value e = text_proper span.remote.ipv4 proper.remote.ipv4 value e
  own_proper owns.RemoteIpv6 value e = text_proper span.remote.ipv6 proper.remote.ipv6 value e
  own_proper owns.RemotePort value e = count_proper_in span.remote.port proper.remote.port value e
  own_proper owns.Shared value e = truth_proper span.shared value e

  pub attributes_proper : AreProper (attributes_by span (pairs_of span))
  attributes_proper = attributes_all IsProperPair span (pairs_of span) (record {
    service = λ x more e. record { key = word peer_key refl; value = subst IsUtf8 e proper.remote.service };
    tag = λ x more e. record { key = word peer_key refl; value = (found_has IsProperPair peer_key (pairs_of span) (Text (x ∷ more)) (tags_proper span proper) e).value };
    own = λ own value e. record { key = word (own_row own).key (own_ascii own); value = own_proper own value e };
    others = free_all IsProperPair IsProperPair (λ pair is e. record { key = attribute_utf8 pair.0 is.key; value = is.value }) (pairs_of span) (tags_proper span proper);
  })

  pub resource_proper : AreProper (resource_by span.local.service (pairs_of span))
  resource_proper = resource_all IsProperPair span.local.service (pairs_of span)
      (λ x more e. record { key = word service_key refl; value = subst IsUtf8 e proper.local.service })
      (All-filter (λ attribute. not (bytes_eq service_key attribute.0)) IsProperPair (resource_tags (pairs_of span))
      (resource_tags_all IsProperPair IsProperPair
      (λ pair k is e. record { key = key_behind pair.0 k (bytes_eq (take 14 pair.0) resource_prefix) refl e is.key; value = is.value })
      (pairs_of span) (tags_proper span proper)))

  -- ---- the span and its run

  abbrev its : TagColumns
  its = columns_in (pairs_of span)

  its_proper : (column : Column) → IfSome (its column) IsProperValue
  its_proper column = under_key (row_of column).key (pairs_of span) (tags_proper span proper)

  pub name_utf8 : IsUtf8 (run_span_of span).0.name
  name_utf8 = name_proper (its columns.ScopeName) (its columns.LibraryName) (its_proper columns.ScopeName) (its_proper columns.LibraryName)

  pub version_utf8 : IsUtf8 (run_span_of span).0.version
  version_utf8 = name_proper (its columns.ScopeVersion) (its columns.LibraryVersion) (its_proper columns.ScopeVersion) (its_proper columns.LibraryVersion)

  module _ (facts : EventsRead) (events : EventsProper) where
    event_proper : (time : ℕ) (text : List ℕ) (read : Option (List ℕ × Pairs)) → event_text_read text ≡ read → time < 2 ^ 64 → IsUtf8 text → IsProperEvent (event_by time text read)
    event_proper time text None e lt utf8 = record { time = lt; name = utf8; attributes = All-nil IsProperPair; dropped = omega arith }
    event_proper time text (Some found) e lt utf8 =
        let both = events text found.0 found.1 ((facts.reads text found.0 found.1).0 e) utf8 in
        record { time = lt; name = both.0; attributes = both.1; dropped = omega arith }

    pub span_proper : IsProperSpan (run_span_of span).1
    span_proper = record {
      trace = proper.trace;
      id = proper.id;
      state = said (its columns.State) (its_proper columns.State);
      parent = proper.parent;
      name = proper.name;
      start = proper.start;
      end = proper.end;
      attributes = attributes_proper;
      dropped_attributes = count_proper (its columns.DroppedAttributes);
      events = All-map IsProperEvent zipkin_event_of span.annotations
          (λ k d lt. let one = get_or span.annotations k d in event_proper one.0 one.1 (event_text_read one.1) refl (proper.annotations k d lt).0 (proper.annotations k d lt).1);
      dropped_events = count_proper (its columns.DroppedEvents);
      links = All-nil IsProperLink;
      dropped_links = count_proper (its columns.DroppedLinks);
      status = record { message = message_proper (run_span_of span).1.status.code (its columns.Error) (its_proper columns.Error) };
      flags = omega arith;
    }
