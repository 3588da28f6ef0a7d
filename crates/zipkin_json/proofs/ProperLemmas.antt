-- What is read of a text can be written.
use Rattle.std.proofs.Common.{◌≡◌, ℕ, ◌+◌, ◌<◌, ◌≤◌, List, [], ◌∷◌, map, Option, Some, None, option_map, codes, IsUtf8, refl, sym, subst, arith, Less}
use Rattle.std.proofs.lemmas.List.Elements.{All-cons, All-nil}
use Rattle.std.proofs.lemmas.Str.{IsUtf8-nil}
use Rattle.std.specs.Cmp.Lexicographic.{slice_cmp}
use Rattle.std.specs.List.{All, AllZip, AllByRecursion}
use Rattle.std.specs.List.Sorted.{IsStrictlySortedBy}
use Rattle.std.specs.Ordering.{nat_cmp}
use Rattle.serde_json.specs.Data.{Data, null, boolean, number, string, array, object, Items, no_items, item, Members, no_members, member as has}
use Rattle.span_ids.specs.Times.{last_micros, nanos, IsWhole}
use Rattle.span_io.specs.Paths.{Given, Never}
use Rattle.json_members.proofs.SoundLaws.{Sound, ItemsSound, MembersSound, before_behind, read_sound, member_sound, given_text, needed_text, array_sound, object_sound}
use Rattle.json_members.proofs.TextLaws.{number_below}
use Rattle.zipkin_json.specs.Identifiers.{SpellsTrace, SpellsSpan, SpellsParent}
use Rattle.zipkin_json.specs.StatedLaws.{ReadsWritable}
use Rattle.json_members.specs.Members.{member, elements, Spelled}
use Rattle.zipkin_json.specs.Members.{IsPort}
use Rattle.span_ids.specs.Proper.{IsProperTraceId, IsProperSpanId, IsProperParent}
use Rattle.zipkin_json.specs.Proper.{IsProperEndpoint, IsProperAnnotation, IsProperZTag, IsProperZSpan, IsTimelyAnnotation, IsWritableZSpan}
use Rattle.zipkin_json.specs.Span.{IsEndpoint, no_endpoint, IsAnnotation, AreAnnotations, texts_in, AreTags, IsZSpan, HasRisingTags, TagsRise}
use Rattle.zipkin_json.specs.declared.span.Endpoint.{Endpoint}
use Rattle.zipkin_json.specs.declared.span.ZSpan.{ZSpan}
use Rattle.json_members.proofs.ReadBackLaws.{Follow}
use Rattle.json_members.proofs.Utf8Laws.{HoldsOf}

-- ---- identifiers

trace_proper : (text : List ℕ) (id : ℕ) → SpellsTrace text id → IsProperTraceId id
trace_proper text id h =
    let below = number_below text 32 h.0.0.2 h.0.0.1 in
    let some = h.0.1 in
    let is = h.1 in
    (omega (arith, some, is), omega (arith, below, is))

id_proper : (text : List ℕ) (id : ℕ) → SpellsSpan text id → IsProperSpanId id
id_proper text id h =
    let below = number_below text 16 h.0.0.2 h.0.0.1 in
    let some = h.0.1 in
    let is = h.1 in
    (omega (arith, some, is), omega (arith, below, is))

given_trace : (id : ℕ) (o : Option Data) → Given (Spelled SpellsTrace) Never id o → IsProperTraceId id
given_trace id None h = absurd h
given_trace id (Some d) h = trace_proper h.held id h.means

given_id : (id : ℕ) (o : Option Data) → Given (Spelled SpellsSpan) Never id o → IsProperSpanId id
given_id id None h = absurd h
given_id id (Some d) h = id_proper h.held id h.means

given_parent : (parent : Option ℕ) (o : Option Data) → Given (Spelled SpellsParent) (λ p. p ≡ None) parent o → IsProperParent parent
given_parent None o h = tt
given_parent (Some id) None h = cc
given_parent (Some id) (Some d) h = id_proper h.held id h.means

-- ---- endpoints

given_port : (port : ℕ) (o : Option Data) → Given IsPort (λ p. p ≡ 0) port o → port < 65536
given_port port None h = omega (arith, h)
given_port port (Some d) h = let fits = h.1 in omega (arith, fits)

given_endpoint : (e : Endpoint) (o : Option Data) → HoldsOf Sound o → Given IsEndpoint (λ e. e ≡ no_endpoint) e o → IsProperEndpoint e
given_endpoint e None h is = subst IsProperEndpoint (sym is) (record { service = IsUtf8-nil; ipv4 = IsUtf8-nil; ipv6 = IsUtf8-nil; port = omega arith })
given_endpoint e (Some d) h is = record {
  service = given_text e.service _ (member_sound (codes "serviceName") d h) is.service;
  ipv4 = given_text e.ipv4 _ (member_sound (codes "ipv4") d h) is.ipv4;
  ipv6 = given_text e.ipv6 _ (member_sound (codes "ipv6") d h) is.ipv6;
  port = given_port e.port _ is.port;
}

-- ---- annotations

time_fits : (time count : ℕ) → time ≡ nanos count → count ≤ last_micros → time < 18446744073709551616
time_fits time count is fits = omega (arith, is, fits)

time_whole : (time count : ℕ) → time ≡ nanos count → IsWhole time
time_whole time count is = omega (arith, is)

each_annotation : (ds : Items) (list : List (ℕ × List ℕ)) → ItemsSound ds → AllZip (λ d x. IsAnnotation x d) (elements ds) list → All IsProperAnnotation list
each_annotation no_items [] h are = All-nil IsProperAnnotation
each_annotation no_items (a ∷ list) h are = absurd are
each_annotation (item d ds) [] h are = absurd are
each_annotation (item d ds) (a ∷ list) h are =
    let is = are.0 in
    let text = needed_text a.1 (member (codes "value") d) (member_sound (codes "value") d h.0) is.value in
    All-cons IsProperAnnotation a list (time_fits a.0 is.timestamp is.time is.fits, text) (each_annotation ds list h.1 are.1)

given_annotations : (list : List (ℕ × List ℕ)) (o : Option Data) → HoldsOf Sound o → Given AreAnnotations (λ l. l ≡ []) list o → All IsProperAnnotation list
given_annotations list None h are = subst (All IsProperAnnotation) (sym are) (All-nil IsProperAnnotation)
given_annotations list (Some d) h are = each_annotation are.held list (array_sound d are.held h are.shape) are.means

each_timely : (ds : List Data) (list : List (ℕ × List ℕ)) → AllZip (λ d x. IsAnnotation x d) ds list → All IsTimelyAnnotation list
each_timely [] [] are = All-nil IsTimelyAnnotation
each_timely [] (a ∷ list) are = absurd are
each_timely (d ∷ ds) [] are = absurd are
each_timely (d ∷ ds) (a ∷ list) are =
    let is = are.0 in
    All-cons IsTimelyAnnotation a list (time_whole a.0 is.timestamp is.time) (each_timely ds list are.1)

given_timely : (list : List (ℕ × List ℕ)) (o : Option Data) → Given AreAnnotations (λ l. l ≡ []) list o → All IsTimelyAnnotation list
given_timely list None are = subst (All IsTimelyAnnotation) (sym are) (All-nil IsTimelyAnnotation)
given_timely list (Some d) are = each_timely (elements are.held) list are.means

-- ---- tags

record FineTags (ms : Members) (tags : List (List ℕ × List ℕ)) : Type 0 where
  proper : All IsProperZTag tags
  rise : TagsRise tags
  follow : (key : List ℕ) → Follow key ms → AllByRecursion (λ k. slice_cmp nat_cmp key k ≡ Less) (map (λ tag. tag.0) tags)

first_text : (key text : List ℕ) (more : Members) (o : Option (List (List ℕ × List ℕ))) (tags : List (List ℕ × List ℕ)) → IsUtf8 key → IsUtf8 text → Follow key more
    → ((texts : List (List ℕ × List ℕ)) → o ≡ Some texts → FineTags more texts) → option_map (λ texts. (key, text) ∷ texts) o ≡ Some tags → FineTags (has key (string text) more) tags
unfolding IsStrictlySortedBy
first_text key text more None tags first second follow fine is = cc
first_text key text more (Some texts) tags first second follow fine is =
    let rest = fine texts refl in
    let e : (key, text) ∷ texts ≡ tags = cc in
    subst (FineTags (has key (string text) more)) e (record {
      proper = All-cons IsProperZTag (key, text) texts (first, second) rest.proper;
      rise = (rest.follow key follow, rest.rise);
      follow = λ k h. (before_behind key k h.0, rest.follow k h.1);
    })

tags_fine : (ms : Members) (tags : List (List ℕ × List ℕ)) → MembersSound ms → texts_in ms ≡ Some tags → FineTags ms tags
unfolding IsStrictlySortedBy
tags_fine no_members tags h is =
    let e : [] ≡ tags = cc in
    subst (FineTags no_members) e (record { proper = All-nil IsProperZTag; rise = tt; follow = λ key k. tt })
tags_fine (has key null more) tags h is =
    let rest = tags_fine more tags h.1.1.1 is in
    record { proper = rest.proper; rise = rest.rise; follow = λ k f. rest.follow k f.1 }
tags_fine (has key (string text) more) tags h is = first_text key text more (texts_in more) tags h.0 h.1.0 h.1.1.0 (λ texts e. tags_fine more texts h.1.1.1 e) is
tags_fine (has key (boolean b) more) tags h is = cc
tags_fine (has key (number n) more) tags h is = cc
tags_fine (has key (array ds) more) tags h is = cc
tags_fine (has key (object ms) more) tags h is = cc

given_tags : (tags : List (List ℕ × List ℕ)) (o : Option Data) → HoldsOf Sound o → Given AreTags (λ t. t ≡ []) tags o → All IsProperZTag tags × TagsRise tags
unfolding IsStrictlySortedBy
given_tags tags None h are = subst (λ t. All IsProperZTag t × TagsRise t) (sym are) (All-nil IsProperZTag, tt)
given_tags tags (Some d) h are = let fine = tags_fine are.held tags (object_sound d are.held h are.shape) are.means in (fine.proper, fine.rise)

-- ---- spans

span_proper : (s : ZSpan) (d : Data) → Sound d → IsZSpan s d → IsProperZSpan s
span_proper s d h is =
    let sum = is.sum in
    let low : is.timestamp ≤ last_micros = omega (arith, sum) in
    record {
      trace = given_trace s.trace _ is.trace;
      id = given_id s.id _ is.id;
      parent = given_parent s.parent _ is.parent;
      name = given_text s.name _ (member_sound (codes "name") d h) is.name;
      start = time_fits s.start is.timestamp is.start low;
      end = time_fits s.end (is.timestamp + is.duration) is.end is.sum;
      local = given_endpoint s.local _ (member_sound (codes "localEndpoint") d h) is.local;
      remote = given_endpoint s.remote _ (member_sound (codes "remoteEndpoint") d h) is.remote;
      annotations = given_annotations s.annotations _ (member_sound (codes "annotations") d h) is.annotations;
      tags = (given_tags s.tags _ (member_sound (codes "tags") d h) is.tags).0;
    }

-- a span that was read, which is proper in hand
pub span_writable : (s : ZSpan) (d : Data) → IsZSpan s d → HasRisingTags s → IsProperZSpan s → IsWritableZSpan s
span_writable s d is rising proper =
    let starts = is.start in
    let ends = is.end in
    record {
      proper = proper;
      timely = record {
        start = time_whole s.start is.timestamp is.start;
        end = time_whole s.end (is.timestamp + is.duration) is.end;
        order = omega (arith, starts, ends);
        annotations = given_timely s.annotations _ is.annotations;
        rising = rising;
      };
    }

each_writable : (ds : Items) (spans : List ZSpan) → ItemsSound ds → AllZip (λ d x. IsZSpan x d) (elements ds) spans → All IsWritableZSpan spans
each_writable no_items [] h are = All-nil IsWritableZSpan
each_writable no_items (s ∷ spans) h are = absurd are
each_writable (item d ds) [] h are = absurd are
each_writable (item d ds) (s ∷ spans) h are =
    let rising = (given_tags s.tags _ (member_sound (codes "tags") d h.0) (are.0).tags).1 in
    All-cons IsWritableZSpan s spans (span_writable s d are.0 rising (span_proper s d h.0 are.0)) (each_writable ds spans h.1 are.1)

pub text_writable : ReadsWritable
text_writable spans bytes h =
    let sound = read_sound bytes h.value h.is_text.utf8 h.is_text.reading in
    each_writable h.are_spans.held spans (array_sound h.value h.are_spans.held sound h.are_spans.shape) h.are_spans.means
