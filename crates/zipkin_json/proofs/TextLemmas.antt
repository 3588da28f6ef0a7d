-- The text of writable spans is a text of these spans, and of no others.
use Rattle.std.proofs.Common.{◌≡◌, ℕ, suc, ◌-◌, ◌<◌, ◌^◌, List, [], ◌∷◌, map, codes, refl, ap, subst, arith, Less}
use Rattle.std.proofs.lemmas.List.Elements.{All-head, All-tail}
use Rattle.std.specs.Cmp.Lexicographic.{slice_cmp}
use Rattle.std.specs.List.{All, AllByRecursion}
use Rattle.std.specs.List.Sorted.{IsStrictlySortedBy}
use Rattle.std.specs.Ordering.{nat_cmp}
use Rattle.serde_json.specs.Data.{Data, string}
use Rattle.serde_json.specs.View.{items_of}
use Rattle.serde_json.specs.Written.{compact_text}
use Rattle.span_ids.specs.StatedLaws.{IdentifiersReadBack}
use Rattle.span_ids.specs.Times.{micros}
use Rattle.json_members.proofs.TextLaws.{text_back, number_back, true_back, trace_back, id_back, parent_back, items_joined}
use Rattle.zipkin_json.specs.Canonical.{endpoint_rows, endpoint_data, annotation_json, annotations_data, tag_members, kind_data, zspan_rows, span_json, zspan_text, spans_json, spans_text}
use Rattle.zipkin_json.specs.StatedLaws.{OneList, SpansWrittenAgain, EqualSpansTexts}
use Rattle.zipkin_json.specs.Proper.{IsProperEndpoint, IsProperAnnotation, IsProperZTag, IsWritableZSpan}
use Rattle.zipkin_json.specs.Span.{TagsRise, AreSpans}
use Rattle.zipkin_json.specs.Texts.{AreSpansText}
use Rattle.zipkin_json.specs.declared.span.Endpoint.{Endpoint}
use Rattle.zipkin_json.specs.declared.span.ZKind.{ZKind}
use Rattle.zipkin_json.specs.declared.span.ZKind.TheVariants as kinds
use Rattle.zipkin_json.specs.declared.span.ZSpan.{ZSpan}
use Rattle.json.proofs.Printed.Utf8.{IsUtf8-are_ascii}
use Rattle.zipkin_json.proofs.MeaningLemmas.{span_again, spans_again}
use Rattle.json_members.proofs.ReadBackLaws.{GivesBack, ItemsGiveBack, MembersGiveBack, GivenGivesBack, Follow, gives_deeper, reads_back, string_back, count_back, no_items_back, item_back, array_back, no_members_back, member_back, object_back, rows_back, unless_empty_back, behind_before}

-- ---- members

kind_back : (n : ℕ) (kind : ZKind) → GivenGivesBack n (kind_data kind)
kind_back n kinds.Absent = tt
kind_back n kinds.Client = string_back n (codes "CLIENT") (IsUtf8-are_ascii _ refl)
kind_back n kinds.Server = string_back n (codes "SERVER") (IsUtf8-are_ascii _ refl)
kind_back n kinds.Producer = string_back n (codes "PRODUCER") (IsUtf8-are_ascii _ refl)
kind_back n kinds.Consumer = string_back n (codes "CONSUMER") (IsUtf8-are_ascii _ refl)

-- ---- objects and arrays

endpoint_back : (n : ℕ) (e : Endpoint) → IsProperEndpoint e → GivenGivesBack (suc n) (endpoint_data e)
endpoint_back n e h =
    let port = h.port in
    unless_empty_back n _ (rows_back n (endpoint_rows e) refl (text_back n e.ipv4 h.ipv4, (text_back n e.ipv6 h.ipv6, (number_back n e.port (omega (arith, port)), (text_back n e.service h.service, tt)))))

micros_fit : (time : ℕ) → time < 2 ^ 64 → micros time < 2 ^ 64
micros_fit time h = omega (arith, h)

length_fits : (start end : ℕ) → end < 2 ^ 64 → micros end - micros start < 2 ^ 64
length_fits start end h = omega (arith, h)

annotation_back : (n : ℕ) (a : ℕ × List ℕ) → IsProperAnnotation a → GivesBack (suc n) (annotation_json a)
annotation_back n a h =
    object_back n _ (member_back n (codes "timestamp") _ _ (IsUtf8-are_ascii _ refl) (refl, tt) (count_back n (micros a.0) (micros_fit a.0 h.0))
    (member_back n (codes "value") _ _ (IsUtf8-are_ascii _ refl) tt (string_back n a.1 h.1) (no_members_back n)))

each_annotation_back : (n : ℕ) (list : List (ℕ × List ℕ)) → All IsProperAnnotation list → ItemsGiveBack (suc n) (items_of (map annotation_json list))
each_annotation_back n [] h = no_items_back (suc n)
each_annotation_back n (a ∷ list) h =
    item_back (suc n) (annotation_json a) _ (annotation_back n a (All-head IsProperAnnotation a list h)) (each_annotation_back n list (All-tail IsProperAnnotation a list h))

annotations_back : (n : ℕ) (list : List (ℕ × List ℕ)) → All IsProperAnnotation list → GivenGivesBack (suc (suc n)) (annotations_data list)
annotations_back n [] h = tt
annotations_back n (a ∷ list) h = array_back (suc n) _ (each_annotation_back n (a ∷ list) h)

tags_follow : (key : List ℕ) (tags : List (List ℕ × List ℕ)) → AllByRecursion (λ k. slice_cmp nat_cmp key k ≡ Less) (map (λ tag. tag.0) tags) → Follow key (tag_members tags)
tags_follow key [] h = tt
tags_follow key (tag ∷ tags) h = (behind_before key tag.0 h.0, tags_follow key tags h.1)

each_tag_back : (n : ℕ) (tags : List (List ℕ × List ℕ)) → All IsProperZTag tags → TagsRise tags → MembersGiveBack n (tag_members tags)
unfolding IsStrictlySortedBy
each_tag_back n [] h rise = no_members_back n
each_tag_back n (tag ∷ tags) h rise =
    let first = All-head IsProperZTag tag tags h in
    member_back n tag.0 (string tag.1) (tag_members tags) first.0 (tags_follow tag.0 tags rise.0) (string_back n tag.1 first.1) (each_tag_back n tags (All-tail IsProperZTag tag tags h) rise.1)

-- ---- spans

module _ (ids : IdentifiersReadBack) where
  span_back : (s : ZSpan) → IsWritableZSpan s → GivesBack 3 (span_json s)
  span_back s h =
      let p = h.proper in
      object_back 2 _ (rows_back 2 (zspan_rows s) refl (
        annotations_back 0 s.annotations p.annotations,
        (
          true_back 2 s.debug,
          (
            number_back 2 _ (length_fits s.start s.end p.end),
            (
              id_back ids 2 s.id p.id,
              (
                kind_back 2 s.kind,
                (
                  endpoint_back 1 s.local p.local,
                  (
                    text_back 2 s.name p.name,
                    (
                      parent_back ids 2 s.parent p.parent,
                      (
                        endpoint_back 1 s.remote p.remote,
                        (true_back 2 s.shared, (unless_empty_back 1 _ (each_tag_back 1 s.tags p.tags h.timely.rising), (number_back 2 _ (micros_fit s.start p.start), (trace_back ids 2 s.trace p.trace, tt)))),
                      ),
                    ),
                  ),
                ),
              ),
            ),
          ),
        ),
      ))

  each_span_back : (spans : List ZSpan) → All IsWritableZSpan spans → ItemsGiveBack 3 (items_of (map span_json spans))
  each_span_back [] h = no_items_back 3
  each_span_back (s ∷ spans) h = item_back 3 (span_json s) _ (span_back s (All-head IsWritableZSpan s spans h)) (each_span_back spans (All-tail IsWritableZSpan s spans h))

  spans_back : (spans : List ZSpan) → All IsWritableZSpan spans → GivesBack 127 (spans_json spans)
  spans_back spans h = gives_deeper 4 127 (spans_json spans) (omega arith) (array_back 3 _ (each_span_back spans h))

-- ---- the whole text

whole_text : (spans : List ZSpan) → compact_text (spans_json spans) ≡ spans_text spans
unfolding spans_text zspan_text
whole_text [] = refl
whole_text (s ∷ more) = ap (λ l. 91 ∷ l) (items_joined span_json s more)

module _ (ids : IdentifiersReadBack) where
  pub text_again : (spans : List ZSpan) → All IsWritableZSpan spans → AreSpansText spans (spans_text spans)
  text_again spans h =
      let back = spans_back ids spans h in
      subst (AreSpansText spans) (whole_text spans) (record {
        value = spans_json spans;
        is_text = record { utf8 = back.utf8; reading = reads_back (spans_json spans) back };
        are_spans = spans_again ids spans h;
      })

  pub all_again : SpansWrittenAgain
  all_again = record { span = span_again ids; spans = spans_again ids; text = text_again }

one_text : OneList → (bytes : List ℕ) (a b : List ZSpan) → AreSpansText a bytes → AreSpansText b bytes → a ≡ b
one_text laws bytes a b h k =
    let i = h.is_text.reading in
    let j = k.is_text.reading in
    let same : h.value ≡ k.value = cc in
    laws.once k.value a b (subst (λ (d : Data). AreSpans a d) same h.are_spans) k.are_spans

pub equal_texts : OneList → SpansWrittenAgain → EqualSpansTexts
equal_texts laws written a b h k = (
  (λ same. one_text laws (spans_text b) a b (subst (AreSpansText a) same (written.text a h)) (written.text b k)),
  (λ same. ap spans_text same),
)
