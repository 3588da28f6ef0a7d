-- A JSON value means one list of spans and nothing in it offends, or it means none and one offence counts.
use Rattle.std.proofs.Common.{◌≡◌, ℕ, ◌+◌, ◌<◌, ◌≤◌, ◌⊎◌, inl, inr, List, [], ◌∷◌, false, Option, Some, None, option_map, unwrap_or, codes, refl, sym, ap, arith}
use Rattle.serde_json.specs.Data.{Data, null, boolean, number, string, array, object, unsigned, negative, float, Members, no_members, member as has}
use Rattle.serde_json.specs.Find.{as_object}
use Rattle.span_ids.specs.Times.{last_micros, nanos}
use Rattle.span_io.specs.Causes.{cause_number}
use Rattle.span_io.specs.declared.cause.Cause.{Cause}
use Rattle.span_io.specs.declared.cause.Cause.TheVariants as causes
use Rattle.span_io.specs.Paths.{Offences, here, ◌▹◌, required, optional, each, valued, Given, Never, Quiet}
use Rattle.span_io.proofs.PathLaws.{clean_nothing, clean_here, counts_here, counts_only, least_here, first_of_parts, quiet_each}
use Rattle.span_io.proofs.PathDecisions.{IsSettled, one, none, decided_as, also, no_more, decided_required, decided_optional, decided_valued, pair}
use Rattle.json_members.proofs.ChoiceLaws.{either_side, SpellsOne}
use Rattle.json_members.proofs.DecisionLaws.{◌&◌, text_decided, truth_decided, spelled_decided, last, next, next_by, object_settled, elements_settled, array_settled, text_settled}
use Rattle.json_members.specs.Members.{member, member_values, IsText, text_offends, IsTruth, truth_offends, IsCount, Spelled, unspelled}
use Rattle.zipkin_json.specs.Members.{IsPort, port_offends, count_offends, count_or_zero}
use Rattle.zipkin_json.specs.Identifiers.{SpellsTrace, SpellsSpan, SpellsParent}
use Rattle.zipkin_json.specs.declared.span.ZKind.TheVariants as kinds
use Rattle.zipkin_json.specs.Span.{SpellsKind, IsEndpoint, endpoint_members, endpoint_offends, no_endpoint, IsAnnotation, annotation_members, annotation_offends, texts_in, AreTags, tag_offends, tags_offend, IsZSpan, span_members, span_offends, AreSpans, spans_offend}
use Rattle.zipkin_json.proofs.Choices.{trace_chosen, span_chosen, parent_chosen, kind_chosen}
use Rattle.zipkin_json.specs.declared.span.ZSpan.{ZSpan}

-- ---- numbers

-- a count that fits behind `start`
abbrev Fits : ℕ → ℕ → Data → Type 0
Fits start count d = IsCount count d × (start + count ≤ last_micros)

unsigned_decided : (start u : ℕ) → IsSettled (λ count. Fits start count (number (unsigned u))) (here (λ n. (n ≡ 16) × (last_micros < start + u)))
unsigned_decided start u = on (either_side (start + u) last_micros)
  where
    only : (y : ℕ) → Fits start y (number (unsigned u)) → u ≡ y
    only y h = let e = h.0 in cc

    never : last_micros < start + u → (y : ℕ) → ¬ Fits start y (number (unsigned u))
    never late y h = let e : u ≡ y = only y h in let k = h.1 in omega arith

    on : (start + u ≤ last_micros) ⊎ (last_micros < start + u) → IsSettled (λ count. Fits start count (number (unsigned u))) (here (λ n. (n ≡ 16) × (last_micros < start + u)))
    on (inl fits) = one u (refl, fits) only (clean_here _ (λ n h. let k = h.1 in omega arith))
    on (inr late) = none causes.BadTime (counts_here _ 16 (refl, late) (λ n h. let k = h.0 in omega arith)) (never late)

count_decided : (start : ℕ) (d : Data) → IsSettled (λ count. Fits start count d) (count_offends start d)
count_decided start (number (unsigned u)) = unsigned_decided start u
count_decided start (number (negative z)) = none causes.BadTime (counts_only 16) (λ y h. let e = h.0 in cc)
count_decided start (number (float x)) = none causes.BadShape (counts_only 11) (λ y h. let e = h.0 in cc)
count_decided start null = none causes.BadShape (counts_only 11) (λ y h. let e = h.0 in cc)
count_decided start (boolean b) = none causes.BadShape (counts_only 11) (λ y h. let e = h.0 in cc)
count_decided start (string s) = none causes.BadShape (counts_only 11) (λ y h. let e = h.0 in cc)
count_decided start (array ds) = none causes.BadShape (counts_only 11) (λ y h. let e = h.0 in cc)
count_decided start (object ms) = none causes.BadShape (counts_only 11) (λ y h. let e = h.0 in cc)

small_decided : (o : Option ℕ) → IsSettled (λ port. (o ≡ Some port) × (port ≤ 65535)) (valued (λ port. here (λ n. (n ≡ 11) × (65535 < port))) o)
small_decided None = none causes.BadShape (counts_only 11) (λ y h. let e = h.0 in cc)
small_decided (Some p) = on (either_side p 65535)
  where
    only : (y : ℕ) → (Some p ≡ Some y) × (y ≤ 65535) → p ≡ y
    only y h = let e = h.0 in cc

    on : (p ≤ 65535) ⊎ (65535 < p) → IsSettled (λ port. (Some p ≡ Some port) × (port ≤ 65535)) (here (λ n. (n ≡ 11) × (65535 < p)))
    on (inl small) = one p (refl, small) only (clean_here _ (λ n h. let k = h.1 in omega arith))
    on (inr large) = none causes.BadShape (counts_here _ 11 (refl, large) (λ n h. let k = h.0 in omega arith)) (λ y h. let e : p ≡ y = only y h in let k = h.1 in omega arith)

port_decided : (d : Data) → IsSettled (λ port. IsPort port d) (port_offends d)
port_decided d = small_decided _

-- ---- endpoints

endpoint_decided : (d : Data) → IsSettled (λ e. IsEndpoint e d) (endpoint_offends d)
unfolding endpoint_members
endpoint_decided d =
    object_settled d
    (next (text_settled d (codes "serviceName"))
    (next (text_settled d (codes "ipv4"))
    (next (text_settled d (codes "ipv6"))
    (next (decided_optional IsPort port_offends port_decided 0 (member (codes "port") d)) last)))).settled
    (λ e. IsEndpoint e d)
    (λ p. record { service = p.0; ipv4 = p.1.0; ipv6 = p.1.1.0; port = p.1.1.1.0 })
    (λ p shape h. record { shape = shape; service = h.0; ipv4 = h.1.0; ipv6 = h.1.1.0; port = h.1.1.1.0 })
    (λ z h. (h.shape, (z.service & z.ipv4 & z.ipv6 & z.port & tt, h.service & h.ipv4 & h.ipv6 & h.port & tt, refl)))

endpoint_settled : (d : Data) (name : List ℕ)
    → IsSettled (λ e. Given IsEndpoint (λ x. x ≡ no_endpoint) e (member name d)) (optional endpoint_offends (member name d))
endpoint_settled d name = decided_optional IsEndpoint endpoint_offends endpoint_decided no_endpoint (member name d)

-- ---- annotations

-- a count that fits behind 0
alone : (count : ℕ) → 0 + count ≤ last_micros → count ≤ last_micros
alone count fits = omega (arith, fits)

from_none : (count : ℕ) → count ≤ last_micros → 0 + count ≤ last_micros
from_none count fits = omega (arith, fits)

-- what a count that is given adds up to, and the same where it may be absent
sum_given : (start count : ℕ) (o : Option Data) → Given (Fits start) Never count o → Given IsCount Never count o × (start + count ≤ last_micros)
sum_given start count None h = absurd h
sum_given start count (Some d) h = h

given_sum : (start count : ℕ) (o : Option Data) → Given IsCount Never count o → start + count ≤ last_micros → Given (Fits start) Never count o
given_sum start count None h fits = absurd h
given_sum start count (Some d) h fits = (h, fits)

annotation_decided : (d : Data) → IsSettled (λ a. IsAnnotation a d) (annotation_offends d)
unfolding annotation_members
annotation_decided d =
    object_settled d
    (next (decided_required (Fits 0) (count_offends 0) (count_decided 0) (member (codes "timestamp") d))
    (next (decided_required IsText text_offends text_decided (member (codes "value") d)) last)).settled
    (λ a. IsAnnotation a d)
    (λ p. (nanos p.0, p.1.0))
    (λ p shape h. record {
      shape = shape;
      timestamp = p.0;
      its_timestamp = (sum_given 0 p.0 _ h.0).0;
      fits = alone p.0 (sum_given 0 p.0 _ h.0).1;
      time = refl;
      value = h.1.0;
    })
    (λ z h. (
      h.shape,
      (
        h.timestamp & z.1 & tt,
        given_sum 0 h.timestamp _ h.its_timestamp (from_none h.timestamp h.fits) & h.value & tt,
        pair (nanos h.timestamp) z.0 z.1 z.1 (sym h.time) refl,
      ),
    ))

-- ---- tags

no_tags : {Others : Offences} → Quiet Others → IsSettled (λ (tags : List (List ℕ × List ℕ)). None ≡ Some tags) (here (λ n. n ≡ 11) ▹ Others)
no_tags {Others} quiet =
    none causes.BadShape (record { path = _; is_least = first_of_parts _ Others quiet _ 11 (least_here _ 11 refl (λ n h. omega arith)) }) (λ y h. cc)

tags_in : (ms : Members) → IsSettled (λ tags. texts_in ms ≡ Some tags) (each tag_offends (member_values ms))
tags_in no_members = one [] refl (λ y h. cc) clean_nothing
tags_in (has key null more) =
    decided_as (λ tags. texts_in more ≡ Some tags) (λ p. p.1) (λ p h. h.1) (λ z h. ((tt, z), (tt, h), refl)) (also (quiet_each tag_offends (member_values more)) no_more (λ x h. tags_in more))
tags_in (has key (string text) more) =
    decided_as (λ tags. texts_in (has key (string text) more) ≡ Some tags) made there back (also (quiet_each tag_offends (member_values more)) no_more (λ x h. tags_in more))
  where
    made : Unit {0} × List (List ℕ × List ℕ) → List (List ℕ × List ℕ)
    made p = (key, text) ∷ p.1

    there : (p : Unit {0} × List (List ℕ × List ℕ)) → Unit {0} × (texts_in more ≡ Some p.1) → texts_in (has key (string text) more) ≡ Some (made p)
    there p h = ap (λ o. option_map (λ texts. (key, text) ∷ texts) o) h.1

    behind : (o : Option (List (List ℕ × List ℕ))) (z : List (List ℕ × List ℕ)) → option_map (λ texts. (key, text) ∷ texts) o ≡ Some z → (y : List (List ℕ × List ℕ)) × (o ≡ Some y) × ((key, text) ∷ y ≡ z)
    behind None z h = cc
    behind (Some y) z h = (y, refl, cc)

    back : (z : List (List ℕ × List ℕ)) → texts_in (has key (string text) more) ≡ Some z → (p : Unit {0} × List (List ℕ × List ℕ)) × (Unit {0} × (texts_in more ≡ Some p.1)) × (made p ≡ z)
    back z h = let made_of = behind (texts_in more) z h in ((tt, made_of.0), (tt, made_of.1), made_of.2)
tags_in (has key (boolean b) more) = no_tags (quiet_each tag_offends (member_values more))
tags_in (has key (number n) more) = no_tags (quiet_each tag_offends (member_values more))
tags_in (has key (array ds) more) = no_tags (quiet_each tag_offends (member_values more))
tags_in (has key (object os) more) = no_tags (quiet_each tag_offends (member_values more))

tags_decided : (d : Data) → IsSettled (λ tags. AreTags tags d) (tags_offend d)
tags_decided d = decided_valued _ (λ members. each tag_offends (member_values members)) tags_in (as_object d)

-- ---- spans

-- a count that may be absent, and fits behind `start`
abbrev CountIn : ℕ → Option Data → ℕ → Type 0
CountIn start o count = Given IsCount (λ c. c ≡ 0) count o × (start + count ≤ last_micros)

count_in_decided : (start : ℕ) → start ≤ last_micros → (o : Option Data) → IsSettled (λ count. CountIn start o count) (optional (count_offends start) o)
count_in_decided start low None = one 0 (refl, omega arith) (λ y h. sym h.0) clean_nothing
count_in_decided start low (Some d) = count_decided start d

count_given : (count : ℕ) (o : Option Data) → Given IsCount (λ c. c ≡ 0) count o → count_or_zero o ≡ count
count_given count None h = sym h
count_given count (Some d) h = ap (λ o. unwrap_or o 0) h

timestamp_fits : (timestamp : ℕ) (o : Option Data) → CountIn 0 o timestamp → count_or_zero o ≤ last_micros
timestamp_fits timestamp o h = let e = count_given timestamp o h.0 in let fits = h.1 in omega arith

module _ {A : Type 0} (Spells : List ℕ → A → Type 0) (cause : Cause) (chosen : (text : List ℕ) → SpellsOne Spells text) (d : Data) (name : List ℕ) where
  needed_settled : IsSettled (λ x. Given (Spelled Spells) Never x (member name d)) (required (unspelled Spells (cause_number cause)) (member name d))
  needed_settled =
      decided_required (Spelled Spells) (unspelled Spells (cause_number cause)) (spelled_decided Spells cause chosen)
      (member name d)

  spelled_settled : (default : A)
      → IsSettled (λ x. Given (Spelled Spells) (λ y. y ≡ default) x (member name d)) (optional (unspelled Spells (cause_number cause)) (member name d))
  spelled_settled default =
      decided_optional (Spelled Spells) (unspelled Spells (cause_number cause)) (spelled_decided Spells cause chosen) default
      (member name d)

truth_settled : (d : Data) (name : List ℕ)
    → IsSettled (λ truth. Given IsTruth (λ t. t ≡ false) truth (member name d)) (optional truth_offends (member name d))
truth_settled d name = decided_optional IsTruth truth_offends truth_decided false (member name d)

ends : (z : ZSpan) (start end : ℕ) → start ≡ z.start → end ≡ z.end → record z { start = start; end = end } ≡ z
ends z start end e k = rw (e, k) refl

span_decided : (d : Data) → IsSettled (λ s. IsZSpan s d) (span_offends d)
unfolding span_members
span_decided d =
    object_settled d
    (next (needed_settled SpellsTrace causes.BadId trace_chosen d (codes "traceId"))
    (next (needed_settled SpellsSpan causes.BadId span_chosen d (codes "id"))
    (next (spelled_settled SpellsParent causes.BadId parent_chosen d (codes "parentId") None)
    (next (text_settled d (codes "name"))
    (next (spelled_settled SpellsKind causes.BadEnum kind_chosen d (codes "kind") kinds.Absent)
    (next_by (count_in_decided 0 (omega arith) (member (codes "timestamp") d)) (λ timestamp its_timestamp.
    (next (count_in_decided (count_or_zero (member (codes "timestamp") d)) (timestamp_fits timestamp _ its_timestamp) (member (codes "duration") d))
    (next (truth_settled d (codes "debug"))
    (next (truth_settled d (codes "shared"))
    (next (endpoint_settled d (codes "localEndpoint"))
    (next (endpoint_settled d (codes "remoteEndpoint"))
    (next (array_settled IsAnnotation annotation_offends annotation_decided (member (codes "annotations") d))
    (next (decided_optional AreTags tags_offend tags_decided [] (member (codes "tags") d)) last)))))))))))))).settled
    (λ s. IsZSpan s d)
    (λ p. record {
      trace = p.0;
      id = p.1.0;
      parent = p.1.1.0;
      name = p.1.1.1.0;
      kind = p.1.1.1.1.0;
      start = nanos p.1.1.1.1.1.0;
      end = nanos (p.1.1.1.1.1.0 + p.1.1.1.1.1.1.0);
      debug = p.1.1.1.1.1.1.1.0;
      shared = p.1.1.1.1.1.1.1.1.0;
      local = p.1.1.1.1.1.1.1.1.1.0;
      remote = p.1.1.1.1.1.1.1.1.1.1.0;
      annotations = p.1.1.1.1.1.1.1.1.1.1.1.0;
      tags = p.1.1.1.1.1.1.1.1.1.1.1.1.0;
    })
    (λ p shape h. record {
      shape = shape;
      trace = h.0;
      id = h.1.0;
      parent = h.1.1.0;
      name = h.1.1.1.0;
      kind = h.1.1.1.1.0;
      timestamp = p.1.1.1.1.1.0;
      its_timestamp = h.1.1.1.1.1.0.0;
      start = refl;
      duration = p.1.1.1.1.1.1.0;
      its_duration = h.1.1.1.1.1.1.0.0;
      sum = sum_of _ _ _ (count_given p.1.1.1.1.1.0 _ h.1.1.1.1.1.0.0) h.1.1.1.1.1.1.0.1;
      end = refl;
      debug = h.1.1.1.1.1.1.1.0;
      shared = h.1.1.1.1.1.1.1.1.0;
      local = h.1.1.1.1.1.1.1.1.1.0;
      remote = h.1.1.1.1.1.1.1.1.1.1.0;
      annotations = h.1.1.1.1.1.1.1.1.1.1.1.0;
      tags = h.1.1.1.1.1.1.1.1.1.1.1.1.0;
    })
    (λ z h. (
      h.shape,
      (
        z.trace & z.id & z.parent & z.name & z.kind & h.timestamp & h.duration & z.debug & z.shared & z.local & z.remote & z.annotations & z.tags & tt,
        h.trace & h.id & h.parent & h.name & h.kind & (h.its_timestamp, low _ h.duration h.sum)
            & (h.its_duration, sum_with _ _ _ (count_given h.timestamp _ h.its_timestamp) h.sum)
            & h.debug & h.shared & h.local & h.remote & h.annotations & h.tags & tt,
        ends z (nanos h.timestamp) (nanos (h.timestamp + h.duration)) (sym h.start) (sym h.end),
      ),
    ))
  where
    low : (timestamp duration : ℕ) → timestamp + duration ≤ last_micros → 0 + timestamp ≤ last_micros
    low timestamp duration sum = omega (arith, sum)

    -- the start is what the timestamp gives
    sum_of : (start timestamp duration : ℕ) → start ≡ timestamp → start + duration ≤ last_micros
        → timestamp + duration ≤ last_micros
    sum_of start timestamp duration e sum = omega (arith, e, sum)

    sum_with : (start timestamp duration : ℕ) → start ≡ timestamp → timestamp + duration ≤ last_micros
        → start + duration ≤ last_micros
    sum_with start timestamp duration e sum = omega (arith, e, sum)

pub spans_decided : (d : Data) → IsSettled (λ spans. AreSpans spans d) (spans_offend d)
spans_decided d = elements_settled IsZSpan span_offends span_decided d
