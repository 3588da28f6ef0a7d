-- A span that was written is read as its normal form, without a remark.
use Rattle.std.proofs.Common.{◌≡◌, ℕ, Bool, true, false, cond, not, ◌&&◌, ◌==◌, List, [], ◌∷◌, ◌++◌, map, filter, find, get_or, suc, All, Option, Some, None, is_some, unwrap_or, option_map, refl, sym, ap, ◌∙◌, subst, decimal}
use Rattle.std.specs.List.{AllZip, zip}
use Rattle.std.specs.Option.{option_or}
use Rattle.std.specs.Str.{bytes_eq}
use Rattle.std.proofs.lemmas.List.Elements.{All-head, All-tail, All-map}
use Rattle.span_ids.specs.Times.{floor}
use Rattle.trace_model.specs.Attributes.{Rise, keys, attrs, at, AreRepeated}
use Rattle.trace_model.specs.Proper.{IsProperSpan}
use Rattle.trace_model.specs.Remarks.{tags_dropped, numbered}
use Rattle.trace_model.specs.Soundness.{IsSoundSpan}
use Rattle.trace_model.specs.declared.fault.Fault.{Fault}
use Rattle.trace_model.specs.declared.fault.Fault.TheVariants.{OwnKey, ChildOfLink}
use Rattle.trace_model.specs.declared.place.Place.TheVariants as places
use Rattle.trace_model.specs.declared.span.Event.{Event}
use Rattle.trace_model.specs.declared.span.Span.{Span}
use Rattle.trace_model.specs.declared.value.Value.{Value, Text}
use Rattle.span_tags.specs.Escapes.{escaped, unescaped}
use Rattle.span_tags.proofs.AttributeLaws.{same_key, key_itself, other_way, option_or-none, key_of_some, attrs_rise, at_attrs-append, same_pairs, at_filter, filter_rise, at_map, map_rise}
use Rattle.span_tags.proofs.RowLaws.{last_at-row}
use Rattle.span_tags.proofs.ColumnLaws.{none_left}
use Rattle.span_tags.proofs.EscapeLaws.{at_reserved, at_untouched, escaped_rise, escaped_values, unescaped_escaped}
use Rattle.span_tags.specs.Runs.{Scoped}
use Rattle.span_tags.specs.TagWords.{row, text_in, without, is_idle, if_left}
use Rattle.map_jaeger.specs.ColumnWords.{flags_in}
use Rattle.map_jaeger.specs.Columns.{all_columns, row_of, columns_of, rows, looked, left_out, has_column, is_free, is_reserved}
use Rattle.map_jaeger.specs.Faults.{IsSpanFault, IsOwnParent}
use Rattle.map_jaeger.specs.Keys.{flags_key, event_key}
use Rattle.map_jaeger.specs.Normal.{normal_scoped, normal_event, normal_link, normal_attributes}
use Rattle.map_jaeger.specs.Reading.{attributes_of, high_flags, high_flags_of, span_attributes, is_own_parent, parent_of, names, event_of, link_of_reference, links_of, scoped_by, scoped_of}
use Rattle.map_jaeger.specs.Remarks.{log_remarks, jspan_remarks, SpanKeys, RepeatsOf, RepeatsOfSpan}
use Rattle.map_jaeger.specs.TagValues.{attribute_of, normal_value}
use Rattle.map_jaeger.specs.Writing.{flags_of, log_of, reference_of, jaeger_span}
use Rattle.map_jaeger.proofs.ColumnLemmas.{none_in_rows, AreFree, normal_column, looked_back_leaves}
use Rattle.map_jaeger.proofs.EscapedKeys.{spans_apart}
use Rattle.map_jaeger.proofs.FlagLemmas.{count_back, own_back, low_back, high_flags_back}
use Rattle.map_jaeger.proofs.GroupLeaves.{map_back, attributes_back, without_normal_values}
use Rattle.map_jaeger.proofs.GroupResource.{without_rise, at_without}
use Rattle.map_jaeger.proofs.SpanParts.{back_each, find_none, filter_each, none_of, kind_back, code_back, message_back, text_back, name_back, columns_leaves, told_in, named, told_fields, event_back, event_told, root_link, kept_link, link_back}

high_leaf : (n : ℕ) → normal_column (high_flags n) ≡ high_flags n
high_leaf n = by (n == 0)
  where
    by : (b : Bool) → normal_column (cond b None (Some (Text (decimal n)))) ≡ cond b None (Some (Text (decimal n)))
    by true = refl
    by false = refl

-- ---- logs

-- a log in which no tag is left out
abbrev IsQuiet : Event → Type 0
IsQuiet event = if_left event_key (is_idle (at event_key (attributes_of (log_of event).fields)) (text_in (at event_key (attributes_of (log_of event).fields)))) ≡ []

log_quiet : (n m : ℕ) (events : List Event) → All IsQuiet events → numbered (log_remarks n) m (zip (map log_of events) (map (λ event. []) events)) ≡ []
unfolding numbered
log_quiet n m [] all = refl
log_quiet n m (event ∷ events) all =
    let here : IsQuiet event = All-head IsQuiet event events all in
    let rest : numbered (log_remarks n) (suc m) (zip (map log_of events) (map (λ event. []) events)) ≡ [] = log_quiet n (suc m) events (All-tail IsQuiet event events all) in
    λ i. tags_dropped (places.Event n m) (here i) ++ rest i

-- by a law of the model: no key is repeated where the keys rise
abbrev pub NoneRepeated : Type 0
NoneRepeated = (pairs : List (List ℕ × Value)) → Rise (keys pairs) → AreRepeated [] pairs

-- no key of a span that was written is repeated
abbrev pub no_repeats : Scoped Span → SpanKeys
no_repeats one = record { span = []; logs = map (λ event. []) one.span.events }

module _ (unrepeated : NoneRepeated) where
  log_once : (event : Event) → RepeatsOf (log_of event) []
  log_once event = subst (AreRepeated []) (sym (map_back (attrs (named event))))
      (unrepeated (told_fields event) (map_rise normal_value (attrs (named event)) (attrs_rise (named event))))

  logs_once : (events : List Event) → AllZip RepeatsOf (map log_of events) (map (λ event. []) events)
  logs_once [] = tt
  logs_once (event ∷ events) = (log_once event, logs_once events)

module _ (one : Scoped Span) (sound : IsSoundSpan one.span) (proper : IsProperSpan one.span) (faultless : (fault : Fault) → IsSpanFault one.span fault → ⊥) where
  up : Rise (keys one.span.attributes)
  up = sound.attributes.rising

  formed : is_some (at flags_key one.span.attributes) ≡ true → flags_in (at flags_key one.span.attributes) ≡ None → ⊥
  formed there none = faultless (OwnKey flags_key) (refl, key_of_some flags_key one.span.attributes there, none)

  links_free : All (λ link. IsOwnParent one.span link → ⊥) one.span.links
  links_free = none_of (IsOwnParent one.span) one.span.links (λ any. faultless ChildOfLink any)

  -- ---- tags

  -- the attributes but the flags, and how they are written
  abbrev kept : List (List ℕ × Value)
  kept = without flags_key one.span.attributes

  kept_rise : Rise (keys kept)
  kept_rise = without_rise flags_key one.span.attributes up

  abbrev others : List (List ℕ × Value)
  others = escaped is_reserved kept

  others_rise : Rise (keys others)
  others_rise = escaped_rise is_reserved kept

  others_free : AreFree others
  others_free k is = by (bytes_eq flags_key k) refl
    where
      by : (f : Bool) → bytes_eq flags_key k ≡ f → at k others ≡ None
      by true own_key = ap (λ q. at q others) (sym (same_key flags_key k own_key))
          ∙ at_untouched is_reserved kept flags_key kept_rise refl ∙ at_without flags_key one.span.attributes
      by false apart = at_reserved is_reserved spans_apart kept k (λ i. is i && not (apart i))

  abbrev told : List (List ℕ × Value)
  told = rows (columns_of one) ++ others

  -- what its tags hold
  abbrev held : List (List ℕ × Value)
  held = normal_attributes (attrs told)

  tags_back : attributes_of (jaeger_span one).tags ≡ held
  tags_back = attributes_back (attrs told) (attrs_rise told)

  held_rise : Rise (keys held)
  held_rise = map_rise normal_value (attrs told) (attrs_rise told)

  columns_back : looked held ≡ columns_of one
  columns_back = looked_back_leaves (columns_of one) others others_rise others_free (columns_leaves one)

  at_held : (k : List ℕ) → has_column k ≡ false → at k held ≡ normal_column (at k others)
  at_held k e =
      at_map normal_value k (attrs told)
      ∙ ap normal_column (at_attrs-append k (rows (columns_of one)) others others_rise
      ∙ ap (option_or (at k others)) (none_in_rows k (columns_of one) e)
      ∙ option_or-none (at k others))

  -- ---- attributes

  abbrev high : Option Value
  high = high_flags_of (flags_of one.span)

  abbrev own : Option Value
  own = at flags_key one.span.attributes

  high_back : high ≡ own
  high_back = high_flags_back one.span.flags own ∙ own_back own formed

  pub own_leaf : normal_column own ≡ own
  own_leaf = subst (λ o. normal_column o ≡ o) (own_back own formed) (high_leaf (unwrap_or (flags_in own) 0))

  abbrev normal : List (List ℕ × Value)
  normal = normal_attributes one.span.attributes

  normal_at : (k : List ℕ) → at k normal ≡ normal_column (at k one.span.attributes)
  normal_at k = at_map normal_value k one.span.attributes

  own_at : (k : List ℕ) → flags_key ≡ k → high ≡ at k normal
  own_at k e = high_back ∙ sym own_leaf ∙ sym (normal_at flags_key) ∙ ap (λ q. at q normal) e

  normal_rise : Rise (keys normal)
  normal_rise = map_rise normal_value one.span.attributes up

  -- of what its tags hold, the table leaves these
  abbrev free : List (List ℕ × Value)
  free = filter (λ tag. is_free tag.0) held

  free_by : (k : List ℕ) (b : Bool) → has_column k ≡ b → cond (not b) (at k held) None ≡ at k (normal_attributes others)
  free_by k true is = sym (at_map normal_value k others ∙ ap normal_column (others_free k is))
  free_by k false is = at_held k is ∙ sym (at_map normal_value k others)

  free_back : free ≡ normal_attributes others
  free_back = same_pairs free (normal_attributes others) (filter_rise is_free held held_rise) (map_rise normal_value others others_rise)
      (λ k. at_filter k is_free held ∙ free_by k (has_column k) refl)

  kept_back : unescaped is_reserved free ≡ without flags_key normal
  kept_back =
      ap (unescaped is_reserved) (free_back ∙ escaped_values is_reserved normal_value kept)
      ∙ unescaped_escaped is_reserved spans_apart (normal_attributes kept) (map_rise normal_value kept kept_rise)
      ∙ sym (without_normal_values flags_key one.span.attributes)

  read_by : (k : List ℕ) (f : Bool) → bytes_eq flags_key k ≡ f
      → option_or (cond (not f) (at k normal) None) (cond (bytes_eq k flags_key) high None) ≡ at k normal
  read_by k true own_key =
      ap (λ b. cond b high None) (ap (λ q. bytes_eq q flags_key) (sym (same_key flags_key k own_key)) ∙ key_itself flags_key) ∙ own_at k (same_key flags_key k own_key)
  read_by k false apart = ap (λ b. option_or (at k normal) (cond b high None)) (other_way flags_key k apart) ∙ option_or-none (at k normal)

  read_at : (k : List ℕ) → at k (attrs (row flags_key high ++ without flags_key normal)) ≡ at k normal
  read_at k =
      at_attrs-append k (row flags_key high) (without flags_key normal) (without_rise flags_key normal normal_rise)
      ∙ (λ i. option_or (at_filter k (λ q. not (bytes_eq flags_key q)) normal i) (last_at-row k flags_key high i))
      ∙ read_by k (bytes_eq flags_key k) refl

  attributes_same : span_attributes (flags_of one.span) held ≡ normal
  attributes_same =
      ap (λ l. attrs (row flags_key high ++ l)) kept_back
      ∙ same_pairs (attrs (row flags_key high ++ without flags_key normal)) normal
      (attrs_rise (row flags_key high ++ without flags_key normal)) normal_rise read_at

  -- ---- events and links

  events_back : map event_of (map log_of one.span.events) ≡ map normal_event one.span.events
  events_back = back_each event_of log_of normal_event one.span.events
      (λ k d lt. event_back (get_or one.span.events k d) (sound.events k d lt).rising)

  parent_by : (parent : Option ℕ) → one.span.parent ≡ parent
      → option_or parent (option_map (λ reference. reference.span) (find (is_own_parent one.span.trace) (map reference_of one.span.links))) ≡ parent
  parent_by None e = ap (option_map (λ reference. reference.span)) (find_none (is_own_parent one.span.trace) (map reference_of one.span.links)
      (All-map (λ reference. is_own_parent one.span.trace reference ≡ false) reference_of one.span.links
      (λ k d lt. root_link one.span (get_or one.span.links k d) (links_free k d lt) e)))
  parent_by (Some q) e = refl

  parent_back : parent_of (jaeger_span one) ≡ one.span.parent
  parent_back = parent_by one.span.parent refl

  links_back : links_of (jaeger_span one) ≡ map normal_link one.span.links
  links_back =
      ap (λ parent. map link_of_reference (filter (λ reference. not (is_own_parent one.span.trace reference && names parent reference.span)) (map reference_of one.span.links))) parent_back
      ∙ ap (map link_of_reference) (filter_each (λ reference. not (is_own_parent one.span.trace reference && names one.span.parent reference.span)) (map reference_of one.span.links)
      (All-map (λ reference. not (is_own_parent one.span.trace reference && names one.span.parent reference.span) ≡ true) reference_of one.span.links
      (λ k d lt. kept_link one.span (get_or one.span.links k d) (links_free k d lt))))
      ∙ back_each link_of_reference reference_of normal_link one.span.links (λ k d lt. link_back (get_or one.span.links k d))

  -- ---- the span

  by_columns : scoped_by (jaeger_span one) (columns_of one) held ≡ normal_scoped one
  by_columns = λ i. record {
    name = name_back one.name i;
    version = name_back one.version i;
    span = record {
      trace = one.span.trace;
      id = one.span.id;
      state = text_back one.span.state i;
      parent = parent_back i;
      name = one.span.name;
      kind = kind_back one.span.kind i;
      start = floor one.span.start;
      end = floor one.span.end;
      attributes = attributes_same i;
      dropped_attributes = count_back one.span.dropped_attributes proper.dropped_attributes i;
      events = events_back i;
      dropped_events = count_back one.span.dropped_events proper.dropped_events i;
      links = links_back i;
      dropped_links = count_back one.span.dropped_links proper.dropped_links i;
      status = record { code = code_back one.span.status.code i; message = message_back one.span.status.code one.span.status.message i };
      flags = low_back one.span.flags own i;
    };
  }

  -- a written span is read as its normal form
  pub span_back : scoped_of (jaeger_span one) ≡ normal_scoped one
  span_back =
      ap (λ l. scoped_by (jaeger_span one) (looked l) l) tags_back
      ∙ ap (λ c. scoped_by (jaeger_span one) c held) columns_back
      ∙ by_columns

  -- ---- no tag is left out, and no key repeated

  pub none_left_out : left_out (looked (attributes_of (jaeger_span one).tags)) ≡ []
  none_left_out =
      ap (λ l. left_out (looked l)) tags_back
      ∙ ap left_out columns_back
      ∙ none_left row_of all_columns (columns_of one) (told_in one proper)

  module _ (unrepeated : NoneRepeated) where
    tags_once : AreRepeated [] (map attribute_of (jaeger_span one).tags)
    tags_once = subst (AreRepeated []) (sym (map_back (attrs told))) (unrepeated held held_rise)

    repeats : RepeatsOfSpan (jaeger_span one) (no_repeats one)
    repeats = record { tags = tags_once; logs = logs_once unrepeated one.span.events }

    quiet : (n : ℕ) → jspan_remarks n (jaeger_span one, no_repeats one) ≡ []
    quiet n = λ i. tags_dropped (places.Span n) (none_left_out i)
        ++ log_quiet n 1 one.span.events
        (λ k d lt. event_told (get_or one.span.events k d) (sound.events k d lt).rising) i

    -- no key of a span that was written is repeated, and there is no remark on it
    pub span_plain : RepeatsOfSpan (jaeger_span one) (no_repeats one) × ((n : ℕ) → jspan_remarks n (jaeger_span one, no_repeats one) ≡ [])
    span_plain = (repeats, quiet)
