-- Rising rows and rising pairs become one list: the rows below a pair stand before it, one of its key gives way, and those above it come after.
use Rattle.std.proofs.Common.{◌≡◌, ℕ, Bool, true, false, cond, List, [], ◌∷◌, ◌++◌, filter, map, take, drop, None, refl, sym, ap, subst, ◌∙◌, append_assoc}
use Rattle.std.specs.Cmp.Lexicographic.{slice_cmp}
use Rattle.std.specs.List.{AllByRecursion}
use Rattle.std.specs.List.Sorted.{IsStrictlySortedBy}
use Rattle.std.specs.Ordering.{nat_cmp, is_eq, ordering_reverse}
use Rattle.std.specs.declared.cmp.Ordering.{Ordering}
use Rattle.std.specs.declared.cmp.Ordering.TheVariants.{Less, Equal, Greater}
use Rattle.std.proofs.lemmas.Cmp.{nat_list_cmp_total}
use Rattle.std.proofs.lemmas.List.{map-append}
use Rattle.std.proofs.lemmas.Map.Text.{is_eq-slice_cmp}
use Rattle.trace_model.specs.Attributes.{Rise, keys, by_order, placed, attrs}
use Rattle.trace_model.specs.ValueTexts.{value_text}
use Rattle.trace_model.specs.declared.value.Value.{Value, Text}
use Rattle.span_tags.specs.Escapes.{rekeyed, escaped}
use Rattle.span_tags.proofs.AttributeLaws.{same_key, below_all, attrs_itself, attrs_rise, at_attrs, same_pairs, at_filter, filter_rise, map_attrs}
use Rattle.span_tags.proofs.RowLaws.{last_at-filter}
use Rattle.span_tags.specs.TagWords.{Pairs}
use Rattle.map_zipkin.specs.Keys.{is_zipkin_reserved}
use Rattle.map_zipkin.specs.Writing.{as_text, as_texts, is_told, told_pairs, escaped_pairs, zipkin_tag_of}
use Rattle.map_zipkin.specs.private.WritingSoFar.{rows_below, rows_above}
use Rattle.map_zipkin.proofs.EscapedKeys.{tag_key, texts_moved, escaped_in_order}
use Rattle.map_zipkin.proofs.RowsJoined.{attrs_within}

abbrev cmp : List ℕ → List ℕ → Ordering
cmp = slice_cmp nat_cmp

abbrev AllAbove : List ℕ → Pairs → Type 0
AllAbove key pairs = AllByRecursion (λ k. cmp key k ≡ Less) (keys pairs)

flipped : (x y : List ℕ) → cmp x y ≡ ordering_reverse (cmp y x)
flipped x y = nat_list_cmp_total.antisymm x y

same_from_Equal : (x y : List ℕ) → cmp x y ≡ Equal → x ≡ y
same_from_Equal x y e = same_key x y (sym (is_eq-slice_cmp x y) ∙ ap is_eq e)

-- ---- those above a pair come after it

in_front : (pair : List ℕ × Value) (rows more : Pairs) → AllAbove pair.0 rows → Rise (keys (pair ∷ more)) → attrs (rows ++ (pair ∷ more)) ≡ pair ∷ attrs (rows ++ more)
unfolding IsStrictlySortedBy
in_front pair [] more high up = attrs_itself (pair ∷ more) up ∙ ap (λ l. pair ∷ l) (sym (attrs_itself more up.1))
in_front pair (row ∷ rows) more high up =
    ap (placed row) (in_front pair rows more high.1 up)
    ∙ ap (λ o. by_order o (row ∷ pair ∷ attrs (rows ++ more)) (pair ∷ attrs (rows ++ more)) (pair ∷ placed row (attrs (rows ++ more)))) (flipped row.0 pair.0 ∙ ap ordering_reverse high.0)

-- one of its key gives way
gives_way : (pair row : List ℕ × Value) (rows more : Pairs) → cmp row.0 pair.0 ≡ Equal → AllAbove row.0 rows → Rise (keys (pair ∷ more))
    → attrs (row ∷ (rows ++ (pair ∷ more))) ≡ pair ∷ attrs (rows ++ more)
gives_way pair row rows more same high up =
    ap (placed row) (in_front pair rows more (subst (λ k. AllAbove k rows) (same_from_Equal row.0 pair.0 same) high) up)
    ∙ ap (λ o. by_order o (row ∷ pair ∷ attrs (rows ++ more)) (pair ∷ attrs (rows ++ more)) (pair ∷ placed row (attrs (rows ++ more)))) same

-- ---- those below it stand before it

-- a row below the first of others goes in front of them
stays_first : (row pair : List ℕ × Value) (rows rest : Pairs) → cmp row.0 pair.0 ≡ Less → AllAbove row.0 rows
    → placed row (rows_below pair.0 rows ++ (pair ∷ rest)) ≡ row ∷ (rows_below pair.0 rows ++ (pair ∷ rest))
stays_first row pair [] rest low high = ap (λ o. by_order o (row ∷ pair ∷ rest) (pair ∷ rest) (pair ∷ placed row rest)) low
stays_first row pair (other ∷ rows) rest low high = by (cmp other.0 pair.0)
  where
    by : (o : Ordering) → placed row (by_order o (other ∷ rows_below pair.0 rows) [] [] ++ (pair ∷ rest)) ≡ row ∷ (by_order o (other ∷ rows_below pair.0 rows) [] [] ++ (pair ∷ rest))
    by Less = ap (λ o. by_order o (row ∷ other ∷ (rows_below pair.0 rows ++ (pair ∷ rest))) (other ∷ (rows_below pair.0 rows ++ (pair ∷ rest)))
        (other ∷ placed row (rows_below pair.0 rows ++ (pair ∷ rest)))) high.0
    by Equal = ap (λ o. by_order o (row ∷ pair ∷ rest) (pair ∷ rest) (pair ∷ placed row rest)) low
    by Greater = ap (λ o. by_order o (row ∷ pair ∷ rest) (pair ∷ rest) (pair ∷ placed row rest)) low

pub one_between : (pair : List ℕ × Value) (rows more : Pairs) → Rise (keys rows) → Rise (keys (pair ∷ more))
    → attrs (rows ++ (pair ∷ more)) ≡ rows_below pair.0 rows ++ (pair ∷ attrs (rows_above pair.0 rows ++ more))
unfolding IsStrictlySortedBy
one_between pair [] more up_rows up = in_front pair [] more tt up
one_between pair (row ∷ rows) more up_rows up = by (cmp row.0 pair.0) refl (one_between pair rows more up_rows.1 up)
  where
    by : (o : Ordering) → cmp row.0 pair.0 ≡ o
        → attrs (rows ++ (pair ∷ more)) ≡ rows_below pair.0 rows ++ (pair ∷ attrs (rows_above pair.0 rows ++ more))
        → attrs (row ∷ (rows ++ (pair ∷ more))) ≡ by_order o (row ∷ rows_below pair.0 rows) [] [] ++ (pair ∷ attrs (by_order o (rows_above pair.0 rows) rows (row ∷ rows) ++ more))
    by Less low later = ap (placed row) later ∙ stays_first row pair rows (attrs (rows_above pair.0 rows ++ more)) low up_rows.0
    by Equal same later = gives_way pair row rows more same up_rows.0 up
    by Greater above later =
        let high : cmp pair.0 row.0 ≡ Less = flipped pair.0 row.0 ∙ ap ordering_reverse above in
        in_front pair (row ∷ rows) more (high, below_all pair.0 row.0 (keys rows) high up_rows.0) up

-- ---- what is left

pub rise_above : (key : List ℕ) (rows : Pairs) → Rise (keys rows) → Rise (keys (rows_above key rows))
unfolding IsStrictlySortedBy
rise_above key [] up = up
rise_above key (row ∷ rows) up = by (cmp row.0 key) (rise_above key rows up.1)
  where
    by : (o : Ordering) → Rise (keys (rows_above key rows)) → Rise (keys (by_order o (rows_above key rows) rows (row ∷ rows)))
    by Less later = later
    by Equal later = up.1
    by Greater later = up

pub rise_behind : (pair : List ℕ × Value) (more : Pairs) → Rise (keys (told_pairs (pair ∷ more))) → Rise (keys (told_pairs more))
unfolding IsStrictlySortedBy
rise_behind pair more up = by (is_told pair.0) up
  where
    by : (b : Bool) → Rise (keys (as_texts (cond b (pair ∷ filter (λ attribute. is_told attribute.0) more) (filter (λ attribute. is_told attribute.0) more)))) → Rise (keys (told_pairs more))
    by true up = up.1
    by false up = up

pub told_rise : (attributes : Pairs) → Rise (keys attributes) → Rise (keys (told_pairs attributes))
told_rise attributes up = texts_rise (filter (λ attribute. is_told attribute.0) attributes) (filter_rise is_told attributes up)
  where
    texts_rise : (l : Pairs) → Rise (keys l) → Rise (keys (as_texts l))
    texts_rise l up = subst Rise (sym (keys_texts l)) up
      where
        keys_texts : (l : Pairs) → keys (as_texts l) ≡ keys l
        keys_texts [] = refl
        keys_texts (p ∷ l) = ap (λ ks. p.0 ∷ ks) (keys_texts l)

-- ---- in order or not

kept_in_order : (f : List ℕ → Bool) (l : Pairs) → filter (λ pair. f pair.0) (attrs l) ≡ attrs (filter (λ pair. f pair.0) l)
kept_in_order f l = same_pairs (filter (λ pair. f pair.0) (attrs l)) (attrs (filter (λ pair. f pair.0) l)) (filter_rise f (attrs l) (attrs_rise l)) (attrs_rise (filter (λ pair. f pair.0) l)) (λ k.
    at_filter k f (attrs l)
    ∙ (ap (λ o. cond (f k) o None) (at_attrs k l)
    ∙ (sym (last_at-filter k f l)
    ∙ sym (at_attrs k (filter (λ pair. f pair.0) l)))))

-- what is told of attributes under the keys of their tags
told_escaped : (l : Pairs) → told_pairs (escaped is_zipkin_reserved l) ≡ escaped_pairs l
told_escaped l =
    ap as_texts (kept_in_order is_told (rekeyed tag_key l))
    ∙ (map_attrs (λ value. Text (value_text value)) (filter (λ attribute. is_told attribute.0) (rekeyed tag_key l))
    ∙ ap attrs (texts_moved l))

-- that are put in order before
pub told_in_order : (l : Pairs) → told_pairs (escaped is_zipkin_reserved (attrs l)) ≡ escaped_pairs l
told_in_order l = ap told_pairs (escaped_in_order l) ∙ told_escaped l

-- rows that became one list before make the same tags
pub joined_before : (own shared others rows : Pairs) → rows ≡ attrs (own ++ shared) → attrs (rows ++ others) ≡ attrs (own ++ (shared ++ others))
joined_before own shared others rows is =
    ap (λ l. attrs (l ++ others)) is
    ∙ (attrs_within (own ++ shared) others
    ∙ ap attrs (append_assoc own shared others))

-- ---- one attribute more

-- one that has a place of its own
pub passed : (pair : List ℕ × Value) (more : Pairs) → is_told pair.0 ≡ false → told_pairs (pair ∷ more) ≡ told_pairs more
passed pair more e = ap (λ b. as_texts (cond b (pair ∷ filter (λ attribute. is_told attribute.0) more) (filter (λ attribute. is_told attribute.0) more))) e

pub kept : (pair : List ℕ × Value) (more : Pairs) → is_told pair.0 ≡ true → told_pairs (pair ∷ more) ≡ as_text pair ∷ told_pairs more
kept pair more e = ap (λ b. as_texts (cond b (pair ∷ filter (λ attribute. is_told attribute.0) more) (filter (λ attribute. is_told attribute.0) more))) e

pub added_between : (old below_added new : List (List ℕ × List ℕ)) (rows more : Pairs) (pair : List ℕ × Value) → is_told pair.0 ≡ true
    → below_added ≡ old ++ map zipkin_tag_of (rows_below pair.0 rows) → new ≡ below_added ++ (zipkin_tag_of pair ∷ [])
    → Rise (keys rows) → Rise (keys (told_pairs (pair ∷ more)))
    → new ++ map zipkin_tag_of (attrs (rows_above pair.0 rows ++ told_pairs more)) ≡ old ++ map zipkin_tag_of (attrs (rows ++ told_pairs (pair ∷ more)))
added_between old below_added new rows more pair told e1 e2 up_rows up =
    let left = attrs (rows_above pair.0 rows ++ told_pairs more) in
    let tags = map zipkin_tag_of left in
    let below = rows_below pair.0 rows in
    ap (λ l. l ++ tags) e2
    ∙ (append_assoc below_added (zipkin_tag_of pair ∷ []) tags
    ∙ (ap (λ l. l ++ (zipkin_tag_of pair ∷ tags)) e1
    ∙ (append_assoc old (map zipkin_tag_of below) (zipkin_tag_of pair ∷ tags)
    ∙ (ap (λ l. old ++ l) (sym (map-append zipkin_tag_of below (as_text pair ∷ left)))
    ∙ (ap (λ l. old ++ map zipkin_tag_of l) (sym (one_between (as_text pair) rows (told_pairs more) up_rows (subst (λ l. Rise (keys l)) (kept pair more told) up)))
    ∙ ap (λ l. old ++ map zipkin_tag_of (attrs (rows ++ l))) (sym (kept pair more told)))))))

-- ---- going over rows up to a key

-- the first i rows are below the key
pub record ArePast (key : List ℕ) (i : ℕ) (rows : Pairs) : Type 0 where
  pub below : rows_below key rows ≡ take i rows ++ rows_below key (drop i rows)
  pub above : rows_above key rows ≡ rows_above key (drop i rows)
