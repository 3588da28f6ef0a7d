-- The tags of a span that was written: what they hold in columns, of the resource, and as attributes.
use Rattle.std.proofs.Common.{◌≡◌, ℕ, Bool, true, false, cond, not, ◌||◌, List, [], ◌∷◌, ◌++◌, map, filter, Option, Some, None, is_some, option_map, option_and_then, refl, sym, ap, ◌∙◌, true≢false}
use Rattle.std.specs.Option.{option_or}
use Rattle.std.specs.Str.{bytes_eq}
use Rattle.std.proofs.lemmas.List.{map-append}
use Rattle.trace_model.specs.Attributes.{Rise, keys, attrs, at}
use Rattle.trace_model.specs.declared.span.Code.{Code}
use Rattle.trace_model.specs.declared.span.Code.TheVariants as statuses
use Rattle.trace_model.specs.declared.span.Span.{Span}
use Rattle.trace_model.specs.declared.value.Value.{Value}
use Rattle.span_tags.proofs.AttributeLaws.{same_key, option_or-none, last_at, last_at-append, last_at-rising, attrs_rise, at_attrs, same_pairs, at_filter, filter_rise, on_values, at_map, map_rise, map_attrs}
use Rattle.span_tags.proofs.ColumnLaws.{each_key}
use Rattle.span_tags.proofs.EscapeLaws.{esc_free, escaped_rise, unescaped_rise, escaped_values, at_esc, at_reserved, at_unescaped, NoneReserved}
use Rattle.span_tags.proofs.RowLaws.{last_at-filter}
use Rattle.span_tags.specs.Escapes.{escaped}
use Rattle.span_tags.specs.Runs.{Scoped}
use Rattle.span_tags.specs.TagKeys.{service_key}
use Rattle.span_tags.specs.TagWords.{Pairs, row, without, text_in, text_given, code_given, text_or_none}
use Rattle.map_zipkin.specs.Keys.{resource_prefix, resource_key, is_zipkin_reserved, peer_key}
use Rattle.map_zipkin.specs.Normal.{normal_pairs}
use Rattle.map_zipkin.specs.Reading.{pair_of, resource_tags, resource_by, peer_of, is_free_tag, free_pairs, attributes_by}
use Rattle.map_zipkin.specs.OwnColumns.{all_own, own_row, own_form, is_own, own_rows, own_in, own_of}
use Rattle.map_zipkin.specs.TagColumns.{error_message, row_of, is_column, columns_in, zipkin_columns_of, column_rows}
use Rattle.map_zipkin.specs.Writing.{as_texts, prefixed, resource_pairs, is_told, told_pairs, escaped_pairs, zipkin_tag_of, zipkin_tags_of, zipkin_span}
use Rattle.map_zipkin.specs.declared.columns.Column.{Column}
use Rattle.map_zipkin.specs.declared.columns.Column.TheVariants as columns
use Rattle.map_zipkin.specs.declared.own.Own.{Own}
use Rattle.map_zipkin.specs.declared.own.Own.TheVariants as owns
use Rattle.map_zipkin.proofs.ColumnLemmas.{its_key, none_in_rows, AreFree, columns_back, textual, texts_of_columns, texts_in_rows, own_at}
use Rattle.map_zipkin.proofs.EscapedKeys.{apart, tag_key, placed_stays, free_tag, reserved_not_free}
use Rattle.map_zipkin.proofs.OwnForms.{text_leaf, count_leaf, IsFormed, truth_back, address_back, port_back, truth_text_leaf, address_leaf, port_leaf}
use Rattle.map_zipkin.proofs.ResourceTags.{last_at-resource_tags, last_at-prefixed, none_prefixed}

-- ---- options and truth values

left_false : (a b : Bool) → (a || b) ≡ false → a ≡ false
left_false true b e = absurd (true≢false e)
left_false false b e = refl

right_false : (a b : Bool) → (a || b) ≡ false → b ≡ false
right_false true b e = absurd (true≢false e)
right_false false b e = e

none_is : (o : Option (List ℕ)) → is_some o ≡ false → o ≡ None
none_is None e = refl
none_is (Some x) e = absurd (true≢false e)

-- ---- texts

pub error_leaf : (code : Code) (message : List ℕ) → option_map textual (error_message code message) ≡ error_message code message
error_leaf statuses.Unset message = refl
error_leaf statuses.Okay message = refl
error_leaf statuses.Fail message = refl

pub code_leaf : (code : Code) → option_map textual (code_given code) ≡ code_given code
code_leaf statuses.Unset = refl
code_leaf statuses.Okay = refl
code_leaf statuses.Fail = refl

pub column_leaf : (one : Scoped Span) (column : Column) → option_map textual (zipkin_columns_of one column) ≡ zipkin_columns_of one column
column_leaf one columns.Error = error_leaf one.span.status.code one.span.status.message
column_leaf one columns.DroppedAttributes = count_leaf one.span.dropped_attributes
column_leaf one columns.DroppedEvents = count_leaf one.span.dropped_events
column_leaf one columns.DroppedLinks = count_leaf one.span.dropped_links
column_leaf one columns.ScopeName = text_leaf one.name
column_leaf one columns.ScopeVersion = text_leaf one.version
column_leaf one columns.Code = code_leaf one.span.status.code
column_leaf one columns.State = text_leaf one.span.state
column_leaf one other = refl

columns_texts : (one : Scoped Span) → texts_of_columns (zipkin_columns_of one) ≡ zipkin_columns_of one
columns_texts one = λ i column. column_leaf one column i

texts_again : (l : Pairs) → on_values textual (as_texts l) ≡ as_texts l
texts_again [] = refl
texts_again (p ∷ l) = ap (λ more. (p.0, textual p.1) ∷ more) (texts_again l)

prefixed_again : (l : Pairs) → on_values textual (map prefixed (as_texts l)) ≡ map prefixed (as_texts l)
prefixed_again [] = refl
prefixed_again (p ∷ l) = ap (λ more. (resource_prefix ++ p.0, textual p.1) ∷ more) (prefixed_again l)

escaped_again : (l : Pairs) → on_values textual (escaped_pairs l) ≡ escaped_pairs l
escaped_again l = escaped_values is_zipkin_reserved textual (told_pairs l)
    ∙ ap (escaped is_zipkin_reserved) (texts_again (filter (λ attribute. is_told attribute.0) l))

tags_read : (l : Pairs) → map pair_of (map zipkin_tag_of l) ≡ on_values textual l
tags_read [] = refl
tags_read (p ∷ l) = ap (λ more. (p.0, textual p.1) ∷ more) (tags_read l)

-- ---- the tags are texts

-- what is told in them, before it is put in order
abbrev pub pairs_by : Pairs → Scoped Span → Pairs
pairs_by resource one = column_rows (zipkin_columns_of one) ++ (resource_pairs resource ++ escaped_pairs one.span.attributes)

-- those of the columns are
pub texts_in_columns : (one : Scoped Span) → on_values textual (column_rows (zipkin_columns_of one)) ≡ column_rows (zipkin_columns_of one)
texts_in_columns one = texts_in_rows (zipkin_columns_of one) ∙ ap column_rows (columns_texts one)

pub pairs_texts : (resource : Pairs) (one : Scoped Span) → on_values textual (pairs_by resource one) ≡ pairs_by resource one
pairs_texts resource one =
    let each : List ℕ × Value → List ℕ × Value = λ pair. (pair.0, textual pair.1) in
    map-append each (column_rows (zipkin_columns_of one)) (resource_pairs resource ++ escaped_pairs one.span.attributes)
    ∙ (λ i. texts_in_columns one i
    ++ (map-append each (resource_pairs resource) (escaped_pairs one.span.attributes)
    ∙ (λ j. prefixed_again (without service_key resource) j ++ escaped_again one.span.attributes j)) i)

-- ---- keys

column_unprefixed : (column : Column) → resource_key (row_of column).key ≡ None
column_unprefixed columns.Error = refl
column_unprefixed other = refl

-- what stands at the own keys is of their forms
abbrev pub AreFormed : Pairs → Type 0
AreFormed attributes = (own : Own) → IsFormed (own_form own) (own_in attributes own)

own_leaves : (attributes : Pairs) → AreFormed attributes → (own : Own) → option_map textual (own_in attributes own) ≡ own_in attributes own
own_leaves attributes formed owns.Debug = truth_text_leaf (own_in attributes owns.Debug) (formed owns.Debug)
own_leaves attributes formed owns.Shared = truth_text_leaf (own_in attributes owns.Shared) (formed owns.Shared)
own_leaves attributes formed owns.LocalPort = port_leaf (own_in attributes owns.LocalPort) (formed owns.LocalPort)
own_leaves attributes formed owns.RemotePort = port_leaf (own_in attributes owns.RemotePort) (formed owns.RemotePort)
own_leaves attributes formed other = address_leaf (own_in attributes other) (formed other)

module _ (resource : Pairs) (one : Scoped Span) (up_resource : Rise (keys resource)) (up : Rise (keys one.span.attributes)) where
  -- ---- what stands at a key

  abbrev others : Pairs
  others = as_texts (without service_key resource)

  others_rise : Rise (keys others)
  others_rise = map_rise textual (without service_key resource) (filter_rise (λ k. not (bytes_eq service_key k)) resource up_resource)

  abbrev told : Pairs
  told = escaped_pairs one.span.attributes

  told_rise : Rise (keys told)
  told_rise = escaped_rise is_zipkin_reserved (told_pairs one.span.attributes)

  -- an attribute stands under the key of its tag
  last_in_told : (k : List ℕ) → last_at (tag_key k) told ≡ option_map textual (cond (is_told k) (at k one.span.attributes) None)
  last_in_told k =
      let others = filter (λ attribute. is_told attribute.0) one.span.attributes in
      last_at-rising (tag_key k) told told_rise
      ∙ at_esc is_zipkin_reserved (told_pairs one.span.attributes) k (map_rise textual others (filter_rise is_told one.span.attributes up))
      ∙ at_map textual k others
      ∙ ap (option_map textual) (at_filter k is_told one.span.attributes)

  none_reserved : (k : List ℕ) → is_zipkin_reserved k ≡ true → last_at k told ≡ None
  none_reserved k is = last_at-rising k told told_rise ∙ at_reserved is_zipkin_reserved apart (told_pairs one.span.attributes) k is

  abbrev rest : Pairs
  rest = resource_pairs resource ++ told

  rest_free : AreFree rest
  rest_free column =
      let k = (row_of column).key in
      let reserved : is_zipkin_reserved k ≡ true = ap (λ b. b || is_some (resource_key k)) (its_key column) in
      last_at-append k (resource_pairs resource) told
      ∙ (λ i. option_or (none_reserved k reserved i) (none_prefixed k others (column_unprefixed column) i))

  abbrev pairs : Pairs
  pairs = column_rows (zipkin_columns_of one) ++ rest

  abbrev pub held : Pairs
  held = attrs pairs

  last_in : (k : List ℕ) → at k held ≡ option_or (option_or (last_at k told) (last_at k (resource_pairs resource))) (last_at k (column_rows (zipkin_columns_of one)))
  last_in k =
      at_attrs k pairs
      ∙ last_at-append k (column_rows (zipkin_columns_of one)) rest
      ∙ ap (λ o. option_or o (last_at k (column_rows (zipkin_columns_of one)))) (last_at-append k (resource_pairs resource) told)

  -- under other keys than reserved ones
  at_held : (k : List ℕ) → is_zipkin_reserved k ≡ false → at k held ≡ last_at k told
  at_held k e =
      let unprefixed : resource_key k ≡ None = none_is (resource_key k) (right_false (is_column k) (is_some (resource_key k)) e) in
      let no_column : is_column k ≡ false = left_false (is_column k) (is_some (resource_key k)) e in
      last_in k
      ∙ (λ i. option_or (option_or (last_at k told) (none_prefixed k others unprefixed i)) (none_in_rows k (zipkin_columns_of one) no_column i))
      ∙ option_or-none (option_or (last_at k told) None)
      ∙ option_or-none (last_at k told)

  -- under the prefix
  at_prefixed : (k : List ℕ) → at (resource_prefix ++ k) held ≡ last_at k others
  at_prefixed k =
      last_in (resource_prefix ++ k)
      ∙ (λ i. option_or (option_or (none_reserved (resource_prefix ++ k) refl i) (last_at-prefixed k others i)) (none_in_rows (resource_prefix ++ k) (zipkin_columns_of one) refl i))
      ∙ option_or-none (last_at k others)

  -- ---- the tags are texts

  pub tags_back : map pair_of (zipkin_tags_of resource one) ≡ held
  tags_back = tags_read held ∙ map_attrs textual pairs ∙ ap attrs (pairs_texts resource one)

  pub columns_read : columns_in held ≡ zipkin_columns_of one
  columns_read = columns_back (zipkin_columns_of one) rest rest_free

  -- ---- the resource

  others_none : last_at service_key others ≡ None
  others_none = last_at-rising service_key others others_rise ∙ at_map textual service_key (without service_key resource)
      ∙ ap (option_map textual) (at_filter service_key (λ k. not (bytes_eq service_key k)) resource)

  resource_by_key : (k : List ℕ) (b : Bool) → bytes_eq service_key k ≡ b → cond (not b) (last_at k others) None ≡ last_at k others
  resource_by_key k true e = sym (ap (λ q. last_at q others) (sym (same_key service_key k e)) ∙ others_none)
  resource_by_key k false e = refl

  resource_at : (k : List ℕ) → last_at k (without service_key (resource_tags held)) ≡ last_at k others
  resource_at k =
      last_at-filter k (λ q. not (bytes_eq service_key q)) (resource_tags held)
      ∙ ap (λ o. cond (not (bytes_eq service_key k)) o None)
      (last_at-resource_tags k held ∙ last_at-rising (resource_prefix ++ k) held (attrs_rise pairs) ∙ at_prefixed k)
      ∙ resource_by_key k (bytes_eq service_key k) refl

  same_attrs : (first a b : Pairs) → ((k : List ℕ) → last_at k a ≡ last_at k b) → attrs (first ++ a) ≡ attrs (first ++ b)
  same_attrs first a b same = same_pairs (attrs (first ++ a)) (attrs (first ++ b)) (attrs_rise (first ++ a)) (attrs_rise (first ++ b))
      (λ k. at_attrs k (first ++ a) ∙ last_at-append k first a ∙ ap (λ o. option_or o (last_at k first)) (same k)
      ∙ sym (at_attrs k (first ++ b) ∙ last_at-append k first b))

  pub resource_back : resource_by (text_or_none (at service_key resource)) held ≡ normal_pairs service_key resource
  resource_back = same_attrs (row service_key (text_given (text_or_none (at service_key resource)))) (without service_key (resource_tags held)) others resource_at

  -- the service has no tag under the prefix
  pub service_none : at (resource_prefix ++ service_key) held ≡ None
  service_none = at_prefixed service_key ∙ others_none

  -- ---- attributes

  -- nor has a key with a place of its own
  pub placed_none : (k : List ℕ) → is_zipkin_reserved k ≡ false → is_told k ≡ false → at k held ≡ None
  placed_none k e f =
      at_held k e
      ∙ ap (λ q. last_at q told) (sym (placed_stays k f))
      ∙ last_in_told k
      ∙ ap (λ b. option_map textual (cond b (at k one.span.attributes) None)) f

  abbrev peer : List ℕ
  peer = text_or_none (at peer_key one.span.attributes)

  peer_back : peer_of peer (at peer_key held) ≡ text_given peer
  peer_back = ap (λ o. option_or (text_given peer) (option_and_then text_given (text_in o))) (placed_none peer_key refl refl) ∙ option_or-none (text_given peer)

  normal_at : (k : List ℕ) → last_at k (as_texts (without peer_key one.span.attributes)) ≡ option_map textual (cond (not (bytes_eq peer_key k)) (at k one.span.attributes) None)
  normal_at k =
      last_at-rising k (as_texts (without peer_key one.span.attributes)) (map_rise textual (without peer_key one.span.attributes) (filter_rise (λ q. not (bytes_eq peer_key q)) one.span.attributes up))
      ∙ at_map textual k (without peer_key one.span.attributes)
      ∙ ap (option_map textual) (at_filter k (λ q. not (bytes_eq peer_key q)) one.span.attributes)

  module _ (formed : AreFormed one.span.attributes) where
    own_back : own_of (zipkin_span resource one) ≡ own_in one.span.attributes
    own_back = λ i own. back own i
      where
        back : (own : Own) → own_of (zipkin_span resource one) own ≡ own_in one.span.attributes own
        back owns.Debug = truth_back (own_in one.span.attributes owns.Debug) (formed owns.Debug)
        back owns.Shared = truth_back (own_in one.span.attributes owns.Shared) (formed owns.Shared)
        back owns.LocalPort = port_back (own_in one.span.attributes owns.LocalPort) (formed owns.LocalPort)
        back owns.RemotePort = port_back (own_in one.span.attributes owns.RemotePort) (formed owns.RemotePort)
        back other = address_back (own_in one.span.attributes other) (formed other)

    -- what stands at a key as its tag does
    abbrev kept_at : List ℕ → Bool → Option Value
    kept_at k told_is = option_map textual (cond told_is (at k one.span.attributes) None)

    none_free : NoneReserved is_zipkin_reserved (filter (λ tag. is_free_tag tag.0) held)
    none_free q is = at_filter q is_free_tag held ∙ ap (λ b. cond b (at q held) None) (reserved_not_free q is)

    free_at : (k : List ℕ) → last_at k (free_pairs held) ≡ cond (is_told k) (kept_at k (is_told k)) None
    free_at k =
        let tags = filter (λ tag. is_free_tag tag.0) held in
        last_at-rising k (free_pairs held) (unescaped_rise is_zipkin_reserved tags)
        ∙ at_unescaped is_zipkin_reserved tags k (filter_rise is_free_tag held (attrs_rise pairs)) none_free
        ∙ at_filter (tag_key k) is_free_tag held
        ∙ (λ i. cond (free_tag k i) ((at_held (tag_key k) (esc_free is_zipkin_reserved apart k) ∙ last_in_told k) i) None)

    read_by : (k : List ℕ) (o p : Bool) → is_own k ≡ o → bytes_eq peer_key k ≡ p
        → option_or (cond (not (o || p)) (kept_at k (not (o || p))) None) (cond o (at k one.span.attributes) None) ≡ kept_at k (not p)
    read_by k true true own is_peer = absurd (true≢false (sym own ∙ ap is_own (sym (same_key peer_key k is_peer))))
    read_by k true false own is_peer =
        sym (each_key own_row (λ q. option_map textual (at q one.span.attributes) ≡ at q one.span.attributes) all_own (own_leaves one.span.attributes formed) k own)
    read_by k false true own is_peer = refl
    read_by k false false own is_peer = option_or-none (option_map textual (at k one.span.attributes))

    abbrev read : Pairs
    read = own_rows (own_of (zipkin_span resource one)) ++ free_pairs held

    read_at : (k : List ℕ) → last_at k read ≡ last_at k (as_texts (without peer_key one.span.attributes))
    read_at k =
        last_at-append k (own_rows (own_of (zipkin_span resource one))) (free_pairs held)
        ∙ (λ i. option_or (free_at k i) ((ap (λ c. last_at k (own_rows c)) own_back ∙ own_at k one.span.attributes) i))
        ∙ read_by k (is_own k) (bytes_eq peer_key k) refl refl
        ∙ sym (normal_at k)

    pub attributes_back : attributes_by (zipkin_span resource one) held ≡ normal_pairs peer_key one.span.attributes
    attributes_back =
        ap (λ o. attrs (row peer_key o ++ read)) peer_back
        ∙ same_attrs (row peer_key (text_given peer)) read (as_texts (without peer_key one.span.attributes)) read_at
