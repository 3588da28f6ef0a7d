-- Attributes of a span and the tags that they are, by their keys: no tag stands under a reserved key, and what has a place of its own keeps
-- its key, so that it has one either way.
use Rattle.std.proofs.Common.{◌≡◌, ℕ, Bool, true, false, cond, ◌||◌, List, [], ◌∷◌, ◌++◌, filter, All, Some, None, refl, sym, ap, ◌∙◌, true≢false}
use Rattle.std.specs.Prelude.{not, if◌then◌else◌}
use Rattle.std.specs.Option.{option_or}
use Rattle.std.specs.Str.{bytes_eq}
use Rattle.std.proofs.lemmas.List.Elements.{All-head, All-tail}
use Rattle.trace_model.specs.Attributes.{attrs, at}
use Rattle.trace_model.specs.ValueTexts.{value_text}
use Rattle.trace_model.specs.declared.value.Value.{Value, Text}
use Rattle.span_tags.specs.Escapes.{front, rekeyed, is_touched, esc, unesc, escaped, unescaped}
use Rattle.span_tags.proofs.AttributeLaws.{same_key, key_itself, last_at, last_at-rising, attrs_rise, at_attrs, all_attrs, same_pairs}
use Rattle.span_tags.proofs.ColumnLaws.{each_key}
use Rattle.span_tags.specs.Escapes.{IsApart}
use Rattle.span_tags.proofs.EscapeLaws.{esc_injective, esc_unesc, unesc_esc, esc_free, esc_untouched, touched_reserved, escaped_rise, unescaped_rise, at_reserved}
use Rattle.span_tags.specs.TagWords.{Pairs}
use Rattle.map_zipkin.specs.Keys.{is_zipkin_reserved, peer_key}
use Rattle.map_zipkin.specs.OwnColumns.{all_own, own_row, is_own}
use Rattle.map_zipkin.specs.Reading.{is_free_tag}
use Rattle.map_zipkin.specs.Writing.{as_texts, is_told}
use Rattle.map_zipkin.specs.declared.own.Own.{Own}
use Rattle.map_zipkin.specs.declared.own.Own.TheVariants as owns

abbrev pub tag_key : List ℕ → List ℕ
tag_key = esc is_zipkin_reserved

abbrev pub attribute_key : List ℕ → List ℕ
attribute_key = unesc is_zipkin_reserved

pub apart : IsApart is_zipkin_reserved
apart key = refl

-- ---- keys with a place of their own

own_untouched : (own : Own) → is_touched is_zipkin_reserved (own_row own).key ≡ false
own_untouched owns.Debug = refl
own_untouched other = refl

placed_by : (k : List ℕ) (own peer : Bool) → is_own k ≡ own → bytes_eq peer_key k ≡ peer → not (own || peer) ≡ false → is_touched is_zipkin_reserved k ≡ false
placed_by k true peer is_own is_peer e = each_key own_row (λ q. is_touched is_zipkin_reserved q ≡ false) all_own own_untouched k is_own
placed_by k false true is_own is_peer e = ap (is_touched is_zipkin_reserved) (sym (same_key peer_key k is_peer))
placed_by k false false is_own is_peer e = absurd (true≢false e)

placed_untouched : (k : List ℕ) → is_told k ≡ false → is_touched is_zipkin_reserved k ≡ false
placed_untouched k e = placed_by k (is_own k) (bytes_eq peer_key k) refl refl e

-- such a key stays, either way
pub placed_stays : (k : List ℕ) → is_told k ≡ false → tag_key k ≡ k
placed_stays k e = esc_untouched is_zipkin_reserved k (placed_untouched k e)

pub placed_same : (k : List ℕ) → is_told k ≡ false → attribute_key k ≡ k
placed_same k e = ap attribute_key (sym (placed_stays k e)) ∙ unesc_esc is_zipkin_reserved k

pub placed_unreserved : (k : List ℕ) → is_told k ≡ false → is_zipkin_reserved k ≡ false
placed_unreserved k e = by (is_zipkin_reserved k) refl
  where
    by : (b : Bool) → is_zipkin_reserved k ≡ b → b ≡ false
    by true is = sym (touched_reserved is_zipkin_reserved apart k is) ∙ placed_untouched k e
    by false is = refl

-- a key has one where its tag's has
pub told_tag : (k : List ℕ) → is_told (tag_key k) ≡ is_told k
told_tag k = by (is_touched is_zipkin_reserved k) (is_told k) refl refl
  where
    by : (t o : Bool) → is_touched is_zipkin_reserved k ≡ t → is_told k ≡ o → is_told (if t then front ++ k else k) ≡ o
    by true true touched e = refl
    by true false touched e = absurd (true≢false (sym touched ∙ placed_untouched k e))
    by false o untouched e = e

-- ---- tags that are attributes

-- the tag of an attribute is one, unless it has a place of its own
pub free_tag : (k : List ℕ) → is_free_tag (tag_key k) ≡ is_told k
free_tag k = ap (λ r. not (r || (is_own (tag_key k) || bytes_eq peer_key (tag_key k)))) (esc_free is_zipkin_reserved apart k) ∙ told_tag k

pub reserved_not_free : (k : List ℕ) → is_zipkin_reserved k ≡ true → is_free_tag k ≡ false
reserved_not_free k is = ap (λ r. not (r || (is_own k || bytes_eq peer_key k))) is

free_by : (r o : Bool) → not (r || o) ≡ true → (r ≡ false) × (not o ≡ true)
free_by true o e = absurd (true≢false (sym e))
free_by false o e = (refl, e)

pub free_unreserved : (k : List ℕ) → is_free_tag k ≡ true → is_zipkin_reserved k ≡ false
free_unreserved k e = (free_by (is_zipkin_reserved k) (is_own k || bytes_eq peer_key k) e).0

-- the attribute that a tag is has no place of its own
pub free_told : (k : List ℕ) → is_free_tag k ≡ true → is_told (attribute_key k) ≡ true
free_told k e =
    let parts = free_by (is_zipkin_reserved k) (is_own k || bytes_eq peer_key k) e in
    sym (told_tag (attribute_key k)) ∙ ap is_told (esc_unesc is_zipkin_reserved k parts.0) ∙ parts.1

told_parts : (o p : Bool) → not (o || p) ≡ true → (o ≡ false) × (p ≡ false)
told_parts true p e = absurd (true≢false (sym e))
told_parts false true e = absurd (true≢false (sym e))
told_parts false false e = (refl, refl)

pub free_own : (k : List ℕ) → is_free_tag k ≡ true → is_own (attribute_key k) ≡ false
free_own k e = (told_parts (is_own (attribute_key k)) (bytes_eq peer_key (attribute_key k)) (free_told k e)).0

pub free_peer : (k : List ℕ) → is_free_tag k ≡ true → bytes_eq peer_key (attribute_key k) ≡ false
free_peer k e = (told_parts (is_own (attribute_key k)) (bytes_eq peer_key (attribute_key k)) (free_told k e)).1

-- ---- lists

-- those with a place of their own go before their keys are written, or after it
pub texts_moved : (l : Pairs) → as_texts (filter (λ attribute. is_told attribute.0) (rekeyed tag_key l)) ≡ rekeyed tag_key (as_texts (filter (λ attribute. is_told attribute.0) l))
texts_moved [] = refl
texts_moved (p ∷ l) =
    let others = filter (λ attribute. is_told attribute.0) (rekeyed tag_key l) in
    ap (λ b. as_texts (cond b ((tag_key p.0, p.1) ∷ others) others)) (told_tag p.0)
    ∙ by (is_told p.0) (texts_moved l)
  where
    by : (b : Bool) → as_texts (filter (λ attribute. is_told attribute.0) (rekeyed tag_key l)) ≡ rekeyed tag_key (as_texts (filter (λ attribute. is_told attribute.0) l))
        → as_texts (cond b ((tag_key p.0, p.1) ∷ filter (λ attribute. is_told attribute.0) (rekeyed tag_key l)) (filter (λ attribute. is_told attribute.0) (rekeyed tag_key l)))
        ≡ rekeyed tag_key (as_texts (cond b (p ∷ filter (λ attribute. is_told attribute.0) l) (filter (λ attribute. is_told attribute.0) l)))
    by true rest = ap (λ m. (tag_key p.0, Text (value_text p.1)) ∷ m) rest
    by false rest = rest

-- ---- in order or not

same_tags : (k q : List ℕ) → bytes_eq (tag_key k) (tag_key q) ≡ bytes_eq k q
same_tags k q = by (bytes_eq (tag_key k) (tag_key q)) (bytes_eq k q) refl refl
  where
    by : (a b : Bool) → bytes_eq (tag_key k) (tag_key q) ≡ a → bytes_eq k q ≡ b → a ≡ b
    by true true e f = refl
    by true false e f = absurd (true≢false (sym (key_itself k) ∙ ap (bytes_eq k) (esc_injective is_zipkin_reserved k q (same_key (tag_key k) (tag_key q) e)) ∙ f))
    by false true e f = absurd (true≢false (sym (key_itself (tag_key k)) ∙ ap (λ x. bytes_eq (tag_key k) (tag_key x)) (same_key k q f) ∙ e))
    by false false e f = refl

last_at_tag : (k : List ℕ) (l : Pairs) → last_at (tag_key k) (rekeyed tag_key l) ≡ last_at k l
last_at_tag k [] = refl
last_at_tag k (p ∷ l) = λ i. option_or (last_at_tag k l i) (cond (same_tags k p.0 i) (Some p.1) None)

at_tag : (k : List ℕ) (l : Pairs) → at (tag_key k) (escaped is_zipkin_reserved l) ≡ last_at k l
at_tag k l = at_attrs (tag_key k) (rekeyed tag_key l) ∙ last_at_tag k l

last_of_attrs : (k : List ℕ) (l : Pairs) → last_at k (attrs l) ≡ last_at k l
last_of_attrs k l = last_at-rising k (attrs l) (attrs_rise l) ∙ at_attrs k l

-- attributes that are put in order have the same tags
pub escaped_in_order : (l : Pairs) → escaped is_zipkin_reserved (attrs l) ≡ escaped is_zipkin_reserved l
escaped_in_order l = same_pairs (escaped is_zipkin_reserved (attrs l)) (escaped is_zipkin_reserved l)
    (escaped_rise is_zipkin_reserved (attrs l)) (escaped_rise is_zipkin_reserved l) (λ k. by k (is_zipkin_reserved k) refl)
  where
    by : (k : List ℕ) (b : Bool) → is_zipkin_reserved k ≡ b → at k (escaped is_zipkin_reserved (attrs l)) ≡ at k (escaped is_zipkin_reserved l)
    by k true e = at_reserved is_zipkin_reserved apart (attrs l) k e ∙ sym (at_reserved is_zipkin_reserved apart l k e)
    by k false e =
        let key = attribute_key k in
        let same : tag_key key ≡ k = esc_unesc is_zipkin_reserved k e in
        ap (λ q. at q (escaped is_zipkin_reserved (attrs l))) (sym same)
        ∙ (at_tag key (attrs l)
        ∙ (last_of_attrs key l
        ∙ (sym (at_tag key l)
        ∙ ap (λ q. at q (escaped is_zipkin_reserved l)) same)))

abbrev pub IsUnreserved : List ℕ × Value → Type 0
IsUnreserved pair = is_zipkin_reserved pair.0 ≡ false

last_at_attribute : (k : List ℕ) (l : Pairs) → All IsUnreserved l → last_at k (rekeyed attribute_key l) ≡ last_at (tag_key k) l
last_at_attribute k [] all = refl
last_at_attribute k (p ∷ l) all =
    let same : bytes_eq k (attribute_key p.0) ≡ bytes_eq (tag_key k) p.0 =
    sym (same_tags k (attribute_key p.0)) ∙ ap (bytes_eq (tag_key k)) (esc_unesc is_zipkin_reserved p.0 (All-head IsUnreserved p l all)) in
    let rest = last_at_attribute k l (All-tail IsUnreserved p l all) in
    λ i. option_or (rest i) (cond (same i) (Some p.1) None)

-- tags that are put in order, of which none is under a reserved key, are the same attributes
pub unescaped_in_order : (l : Pairs) → All IsUnreserved l → unescaped is_zipkin_reserved (attrs l) ≡ unescaped is_zipkin_reserved l
unescaped_in_order l all = same_pairs (unescaped is_zipkin_reserved (attrs l)) (unescaped is_zipkin_reserved l)
    (unescaped_rise is_zipkin_reserved (attrs l)) (unescaped_rise is_zipkin_reserved l) (λ k.
    at_attrs k (rekeyed attribute_key (attrs l))
    ∙ (last_at_attribute k (attrs l) (all_attrs IsUnreserved l all)
    ∙ (last_of_attrs (tag_key k) l
    ∙ sym (at_attrs k (rekeyed attribute_key l) ∙ last_at_attribute k l all))))
