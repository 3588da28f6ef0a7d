-- Pairs that have a place of their own, as those under keys of Zipkin's own and that of the service at the other end do, are under keys of no
-- attribute that a tag is. So they may stand behind those as well as before them.
use Rattle.std.proofs.Common.{◌≡◌, ℕ, Bool, true, false, cond, List, [], ◌∷◌, ◌++◌, filter, All, Option, Some, None, refl, sym, ap, ◌∙◌, true≢false}
use Rattle.std.specs.Prelude.{not}
use Rattle.std.specs.Option.{option_or}
use Rattle.std.specs.Str.{bytes_eq}
use Rattle.std.proofs.lemmas.List.{map-append}
use Rattle.std.proofs.lemmas.List.Elements.{All-nil, All-cons, All-head, All-tail, All-append, All-weaker}
use Rattle.trace_model.specs.Attributes.{attrs}
use Rattle.trace_model.specs.declared.value.Value.{Value}
use Rattle.span_tags.specs.Columns.{rows_by}
use Rattle.span_tags.specs.Escapes.{rekeyed, unescaped}
use Rattle.span_tags.proofs.AttributeLaws.{same_key, option_or-none, last_at, last_at-append, attrs_rise, at_attrs, same_pairs}
use Rattle.span_tags.specs.TagWords.{Pairs, row}
use Rattle.map_zipkin.specs.Keys.{is_zipkin_reserved, peer_key}
use Rattle.map_zipkin.specs.OwnColumns.{OwnColumns, all_own, own_row, own_rows}
use Rattle.map_zipkin.specs.Reading.{is_free_tag, free_pairs}
use Rattle.map_zipkin.specs.Writing.{is_told}
use Rattle.map_zipkin.specs.declared.own.Own.{Own}
use Rattle.map_zipkin.specs.private.ReadColumns.{ArePlaced}
use Rattle.map_zipkin.proofs.ColumnLemmas.{own_untold}
use Rattle.map_zipkin.proofs.EscapedKeys.{attribute_key, placed_same, placed_unreserved, free_unreserved, free_told, IsUnreserved, unescaped_in_order}
use Rattle.map_zipkin.proofs.ReadTexts.{kept, free_all}
use Rattle.map_zipkin.proofs.RowsJoined.{attrs_within}

-- ---- what has a place

-- all have one, or none has
abbrev AreTold : Bool → Pairs → Type 0
AreTold told pairs = All (λ pair. is_told pair.0 ≡ told) pairs

abbrev Placed : List ℕ × Value → Type 0
Placed pair = is_told pair.0 ≡ false

row_placed : (key : List ℕ) (value : Option Value) → is_told key ≡ false → ArePlaced (row key value)
row_placed key None e = All-nil Placed
row_placed key (Some value) e = All-cons Placed (key, value) [] e (All-nil Placed)

rows_placed : (keys : List Own) (c : OwnColumns) → ArePlaced (rows_by own_row keys c)
rows_placed [] c = All-nil Placed
rows_placed (own ∷ keys) c =
    All-append Placed (row (own_row own).key (c own)) (rows_by own_row keys c) (row_placed (own_row own).key (c own) (own_untold own)) (rows_placed keys c)

pub own_pairs : (peer : Option Value) (c : OwnColumns) → ArePlaced (row peer_key peer ++ own_rows c)
own_pairs peer c = All-append Placed (row peer_key peer) (own_rows c) (row_placed peer_key peer refl) (rows_placed all_own c)

-- they keep their keys
keys_stay : (pairs : Pairs) → ArePlaced pairs → rekeyed attribute_key pairs ≡ pairs
keys_stay [] all = refl
keys_stay (p ∷ pairs) all =
    let key : attribute_key p.0 ≡ p.0 = placed_same p.0 (All-head Placed p pairs all) in
    let rest : rekeyed attribute_key pairs ≡ pairs = keys_stay pairs (All-tail Placed p pairs all) in
    λ i. (key i, p.1) ∷ rest i

-- ---- either way

none_at : (k : List ℕ) (told : Bool) (pairs : Pairs) → is_told k ≡ not told → AreTold told pairs → last_at k pairs ≡ None
none_at k told [] is all = refl
none_at k told (p ∷ pairs) is all = by told (bytes_eq k p.0) refl is (All-head (λ pair. is_told pair.0 ≡ told) p pairs all)
    (none_at k told pairs is (All-tail (λ pair. is_told pair.0 ≡ told) p pairs all))
  where
    by : (t b : Bool) → bytes_eq k p.0 ≡ b → is_told k ≡ not t → is_told p.0 ≡ t → last_at k pairs ≡ None → option_or (last_at k pairs) (cond b (Some p.1) None) ≡ None
    by true true same is here rest = absurd (true≢false (sym here ∙ ap is_told (sym (same_key k p.0 same)) ∙ is))
    by false true same is here rest = absurd (true≢false (sym is ∙ ap is_told (same_key k p.0 same) ∙ here))
    by t false apart is here rest = ap (λ o. option_or o None) rest

either_way : (pairs others : Pairs) → ArePlaced pairs → AreTold true others → attrs (others ++ pairs) ≡ attrs (pairs ++ others)
either_way pairs others placed told = same_pairs (attrs (others ++ pairs)) (attrs (pairs ++ others)) (attrs_rise (others ++ pairs)) (attrs_rise (pairs ++ others)) (λ k.
    at_attrs k (others ++ pairs)
    ∙ (last_at-append k others pairs
    ∙ (swapped k (is_told k) refl
    ∙ sym (at_attrs k (pairs ++ others) ∙ last_at-append k pairs others))))
  where
    swapped : (k : List ℕ) (b : Bool) → is_told k ≡ b → option_or (last_at k pairs) (last_at k others) ≡ option_or (last_at k others) (last_at k pairs)
    swapped k true is =
        let none : last_at k pairs ≡ None = none_at k false pairs is placed in
        ap (λ o. option_or o (last_at k others)) none ∙ sym (ap (option_or (last_at k others)) none ∙ option_or-none (last_at k others))
    swapped k false is =
        let none : last_at k others ≡ None = none_at k true others is told in
        ap (option_or (last_at k pairs)) none ∙ option_or-none (last_at k pairs) ∙ sym (ap (λ o. option_or o (last_at k pairs)) none)

anything : (l : Pairs) → All (λ pair. Unit {0}) l
anything l k d lt = tt

pub own_behind : (pairs tags : Pairs) → ArePlaced pairs
    → unescaped is_zipkin_reserved (attrs (filter (λ tag. is_free_tag tag.0) tags ++ pairs)) ≡ attrs (pairs ++ free_pairs tags)
own_behind pairs tags placed =
    let free = filter (λ tag. is_free_tag tag.0) tags in
    unescaped_in_order (free ++ pairs) (All-append IsUnreserved free pairs
    (kept (λ pair. Unit {0}) IsUnreserved (λ tag. is_free_tag tag.0) (λ pair held e. free_unreserved pair.0 e) tags (anything tags))
    (All-weaker Placed IsUnreserved (λ pair e. placed_unreserved pair.0 e) pairs placed))
    ∙ (ap attrs (map-append (λ pair. (attribute_key pair.0, pair.1)) free pairs ∙ ap (λ l. rekeyed attribute_key free ++ l) (keys_stay pairs placed))
    ∙ (sym (attrs_within (rekeyed attribute_key free) pairs)
    ∙ either_way pairs (free_pairs tags) placed
    (free_all (λ pair. Unit {0}) (λ pair. is_told pair.0 ≡ true) (λ pair held e. free_told pair.0 e) tags (anything tags))))
