-- What is read of a span is its own normal form, and nothing in it is a fault. The flags have 32 bits, as jaeger.thrift says.
use Rattle.std.proofs.Common.{◌≡◌, ℕ, ◌-◌, ◌%◌, decimal, Bool, true, false, cond, not, ◌&&◌, ◌==◌, List, [], ◌∷◌, ◌++◌, map, filter, find, get_or, All, Option, Some, None, is_some, unwrap_or, option_map, option_and_then, refl, sym, ap, ◌∙◌, true≢false, ⊎_elim, eq-eqb, arith}
use Rattle.std.specs.Prelude.{Any, if◌then◌else◌, codes}
use Rattle.std.specs.Option.{option_or}
use Rattle.std.specs.Str.{bytes_eq}
use Rattle.std.proofs.lemmas.List.Elements.{All-nil, All-cons, All-append, All-filter, All-map, filter_passes}
use Rattle.jaeger_model.specs.declared.span.JSpan.{JSpan}
use Rattle.jaeger_model.specs.declared.span.Log.{Log}
use Rattle.jaeger_model.specs.declared.span.SpanRef.{SpanRef}
use Rattle.span_ids.specs.Times.{floor}
use Rattle.trace_model.specs.Attributes.{Rise, keys, at}
use Rattle.trace_model.specs.declared.fault.Fault.{Fault}
use Rattle.trace_model.specs.declared.fault.Fault.TheVariants.{EndBeforeStart, OwnKey, EventText, ChildOfLink, DoubleInText}
use Rattle.trace_model.specs.declared.span.Code.{Code}
use Rattle.trace_model.specs.declared.span.Code.TheVariants as statuses
use Rattle.trace_model.specs.declared.span.Kind.TheVariants as kinds
use Rattle.trace_model.specs.declared.value.Value.{Value, Text}
use Rattle.span_tags.specs.Escapes.{unescaped}
use Rattle.span_tags.proofs.AttributeLaws.{some_of_key, attrs_rise, at_attrs-append, all_attrs, at_filter, filter_rise}
use Rattle.span_tags.proofs.EscapeLaws.{at_unescaped, unescaped_all, unescaped_rise}
use Rattle.span_tags.proofs.RowLaws.{last_at-row}
use Rattle.span_tags.specs.TagWords.{row, text_in, without}
use Rattle.map_jaeger.specs.ColumnWords.{flags_in, kind_named, kind_in, message_by}
use Rattle.map_jaeger.specs.Columns.{looked, status_of_columns, has_column, is_free, is_reserved}
use Rattle.map_jaeger.specs.Faults.{IsOwnParent, HasDouble, IsSpanFault}
use Rattle.map_jaeger.specs.Keys.{flags_key, event_key, is_event_reserved}
use Rattle.map_jaeger.specs.StatedLaws.{IsTimely}
use Rattle.map_jaeger.specs.Normal.{normal_attributes, normal_kind, normal_status, normal_event, normal_link, normal_span}
use Rattle.map_jaeger.specs.Reading.{attributes_of, flag_bits, high_flags, high_flags_of, span_attributes, event_of, link_of_reference, is_own_parent, parent_of, names, scoped_of}
use Rattle.map_jaeger.specs.TagValues.{attribute_of}
use Rattle.map_jaeger.specs.declared.columns.Column.TheVariants as columns
use Rattle.map_jaeger.proofs.FlagLemmas.{read_formed}
use Rattle.map_jaeger.proofs.GroupLeaves.{IsLeaf, AreLeaves, tags_leaves, leaves_normal, leaves_plain}
use Rattle.map_jaeger.proofs.SpanNormal.{bit_twice, no_any, mark, mark_back}
use Rattle.map_jaeger.proofs.SpanParts.{back_each}

abbrev leaf : List ℕ × Value → Type 0
leaf pair = IsLeaf pair.1

-- ---- rows

-- no tag says that the kind isn't known
kind_by : (a b c d e : Bool)
    → normal_kind (unwrap_or (if a then Some kinds.Client else (if b then Some kinds.Consumer else (if c then Some kinds.Internal else (if d then Some kinds.Producer else (if e then Some kinds.Server else None))))) kinds.Internal)
    ≡ unwrap_or (if a then Some kinds.Client else (if b then Some kinds.Consumer else (if c then Some kinds.Internal else (if d then Some kinds.Producer else (if e then Some kinds.Server else None))))) kinds.Internal
kind_by true b c d e = refl
kind_by false true c d e = refl
kind_by false false true d e = refl
kind_by false false false true e = refl
kind_by false false false false true = refl
kind_by false false false false false = refl

kind_of_text : (text : Option (List ℕ)) → normal_kind (unwrap_or (option_and_then kind_named text) kinds.Internal) ≡ unwrap_or (option_and_then kind_named text) kinds.Internal
kind_of_text None = refl
kind_of_text (Some text) = kind_by (bytes_eq text (codes "client")) (bytes_eq text (codes "consumer")) (bytes_eq text (codes "internal")) (bytes_eq text (codes "producer")) (bytes_eq text (codes "server"))

kind_read : (value : Option Value) → normal_kind (unwrap_or (kind_in value) kinds.Internal) ≡ unwrap_or (kind_in value) kinds.Internal
kind_read value = kind_of_text (text_in value)

message_read : (code : Code) (description : Option Value) → (normal_status (record { code = code; message = message_by code description })).message ≡ message_by code description
message_read statuses.Unset description = refl
message_read statuses.Okay description = refl
message_read statuses.Fail description = refl

high_by : (n : ℕ) (b : Bool) (text : List ℕ) → AreLeaves (row flags_key (cond b None (Some (Text text))))
high_by n true text = All-nil leaf
high_by n false text = All-cons leaf (flags_key, Text text) [] tt (All-nil leaf)

-- ---- the first that passes, and none

none_found : {A : Type 0} → (test : A → Bool) (xs : List A) → find test xs ≡ None → All (λ x. test x ≡ false) xs
none_found test [] e = All-nil (λ x. test x ≡ false)
none_found test (x ∷ xs) e = by (none_found test xs) (test x) refl e
  where
    by : (find test xs ≡ None → All (λ y. test y ≡ false) xs) → (b : Bool) → test x ≡ b → cond b (Some x) (find test xs) ≡ None → All (λ y. test y ≡ false) (x ∷ xs)
    by rest true is e = absurd (true≢false (ap is_some e))
    by rest false is e = All-cons (λ y. test y ≡ false) x xs is (rest e)

second_none : {A : Type 0} → (a b : Option A) → option_or a b ≡ None → b ≡ None
second_none None b e = e
second_none (Some x) b e = absurd (true≢false (ap is_some e))

mapped_none : {A B : Type 0} → (f : A → B) (o : Option A) → option_map f o ≡ None → o ≡ None
mapped_none f None e = refl
mapped_none f (Some x) e = absurd (true≢false (ap is_some e))

-- ---- the span

module _ (span : JSpan) where
  abbrev tags : List (List ℕ × Value)
  tags = attributes_of span.tags

  tags_are_leaves : AreLeaves tags
  tags_are_leaves = all_attrs leaf (map attribute_of span.tags) (tags_leaves span.tags)

  abbrev high : Option Value
  high = high_flags_of span.flags

  -- the tags that aren't of the table, and the attributes that they are
  abbrev free : List (List ℕ × Value)
  free = filter (λ tag. is_free tag.0) tags

  free_rise : Rise (keys free)
  free_rise = filter_rise is_free tags (attrs_rise (map attribute_of span.tags))

  abbrev kept : List (List ℕ × Value)
  kept = unescaped is_reserved free

  abbrev attributes : List (List ℕ × Value)
  attributes = span_attributes span.flags tags

  attributes_leaves : AreLeaves attributes
  attributes_leaves = all_attrs leaf (row flags_key high ++ kept)
      (All-append leaf (row flags_key high) kept (high_leaves (flag_bits span.flags - flag_bits span.flags % 2)) (unescaped_all is_reserved leaf free (All-filter (λ tag. is_free tag.0) leaf tags tags_are_leaves)))
    where
      high_leaves : (n : ℕ) → AreLeaves (row flags_key (high_flags n))
      high_leaves n = high_by n (n == 0) (decimal n)

  none_reserved : (k : List ℕ) → is_reserved k ≡ true → at k free ≡ None
  none_reserved k is = at_filter k is_free tags ∙ by (has_column k) is
    where
      by : (b : Bool) → (b && not (bytes_eq flags_key k)) ≡ true → cond (not b) (at k tags) None ≡ None
      by true e = refl
      by false e = absurd (true≢false (sym e))

  -- the flags are those of the span
  own_at : at flags_key attributes ≡ high
  own_at =
      at_attrs-append flags_key (row flags_key high) kept (unescaped_rise is_reserved free)
      ∙ (λ i. option_or (at_unescaped is_reserved free flags_key free_rise none_reserved i) (last_at-row flags_key flags_key high i))
      ∙ ap (λ o. option_or o high) (at_filter flags_key is_free tags)

  -- ---- events

  abbrev fields : Log → List (List ℕ × Value)
  fields log = attributes_of log.fields

  abbrev told : Log → List (List ℕ × Value)
  told log = unescaped is_event_reserved (without event_key (fields log))

  told_leaves : (log : Log) → AreLeaves (told log)
  told_leaves log = unescaped_all is_event_reserved leaf (without event_key (fields log))
      (All-filter (λ attribute. not (bytes_eq event_key attribute.0)) leaf (fields log) (all_attrs leaf (map attribute_of log.fields) (tags_leaves log.fields)))

  event_read : (log : Log) → log.time ≡ floor log.time → normal_event (event_of log) ≡ event_of log
  event_read log timely =
      let others : normal_attributes (told log) ≡ told log = leaves_normal (told log) (told_leaves log) in
      λ i. record { time = sym timely i; name = (event_of log).name; attributes = others i; dropped = 0 }

  -- ---- links

  abbrev is_own : SpanRef → Bool
  is_own reference = is_own_parent span.trace reference

  abbrev stays : SpanRef → Bool
  stays reference = not (is_own reference && names (parent_of span) reference.span)

  abbrev others : List SpanRef
  others = filter stays span.references

  -- where there is no parent, no reference is one
  root : parent_of span ≡ None → All (λ reference. is_own reference ≡ false) others
  root e = All-filter stays (λ reference. is_own reference ≡ false) span.references
      (none_found is_own span.references
      (mapped_none (λ reference. reference.span) (find is_own span.references)
      (second_none span.parent (option_map (λ reference. reference.span) (find is_own span.references)) e)))

  own_of : (reference : SpanRef) → IsOwnParent (scoped_of span).span (link_of_reference reference) → is_own reference ≡ true
  own_of reference is =
      let child : reference.child_of ≡ true = sym (mark_back reference.child_of) ∙ is.0 in
      let trace : (reference.trace == span.trace) ≡ true = eq-eqb reference.trace span.trace is.1 in
      λ i. child i && trace i

  goes : (reference : SpanRef) → is_own reference ≡ true → parent_of span ≡ Some reference.span → stays reference ≡ false
  goes reference own parent =
      let named : names (parent_of span) reference.span ≡ true = ap (λ o. names o reference.span) parent ∙ eq-eqb reference.span reference.span refl in
      λ i. not (own i && named i)

  never_parent : All (λ reference. IsOwnParent (scoped_of span).span (link_of_reference reference) → ⊥) others
  never_parent k d lt is = ⊎_elim
      (λ (none : parent_of span ≡ None). true≢false (sym (own_of (get_or others k d) is) ∙ root none k d lt))
      (λ (some : parent_of span ≡ Some (get_or others k d).span).
      true≢false (sym (filter_passes stays span.references k d lt) ∙ goes (get_or others k d) (own_of (get_or others k d) is) some))
      is.2

  link_read : (reference : SpanRef) → normal_link (link_of_reference reference) ≡ link_of_reference reference
  link_read reference = λ i. record { trace = reference.trace; span = reference.span; state = []; attributes = mark (mark_back reference.child_of i); dropped = 0; flags = 0 }

  -- ---- faults

  module _ (timely : IsTimely span) where
    -- nothing that was read is a fault
    pub read_no_fault : (fault : Fault) → IsSpanFault (scoped_of span).span fault → ⊥
    read_no_fault EndBeforeStart early = let ordered = timely.ordered in absurd (omega arith)
    read_no_fault (OwnKey key) has = read_formed span.flags (ap is_some (sym own_at) ∙ some_of_key flags_key attributes has.1) (ap flags_in (sym own_at) ∙ has.2)
    read_no_fault EventText has = has
    read_no_fault ChildOfLink any = no_any (IsOwnParent (scoped_of span).span) (map link_of_reference others)
        (All-map (λ link. IsOwnParent (scoped_of span).span link → ⊥) link_of_reference others never_parent) any
    read_no_fault DoubleInText has = ⊎_elim
        (λ (inside : HasDouble attributes). leaves_plain attributes attributes_leaves inside)
        (λ (any : Any (λ event. HasDouble event.attributes) (map event_of span.logs)). no_any (λ event. HasDouble event.attributes) (map event_of span.logs)
        (All-map (λ event. HasDouble event.attributes → ⊥) event_of span.logs
        (λ k d lt inside. leaves_plain (told (get_or span.logs k d)) (told_leaves (get_or span.logs k d)) inside))
        any)
        has

  module _ (timely : IsTimely span) where
    -- what was read is its own normal form
    pub read_normal : normal_span (scoped_of span).span ≡ (scoped_of span).span
    read_normal =
        let same : normal_attributes attributes ≡ attributes = leaves_normal attributes attributes_leaves in
        let events : map normal_event (map event_of span.logs) ≡ map event_of span.logs =
        back_each normal_event event_of event_of span.logs (λ k d lt. event_read (get_or span.logs k d) (timely.logs k d lt)) in
        let links : map normal_link (map link_of_reference others) ≡ map link_of_reference others =
        back_each normal_link link_of_reference link_of_reference others (λ k d lt. link_read (get_or others k d)) in
        λ i. record ((scoped_of span).span) {
          kind = kind_read (looked tags columns.Kind) i;
          start = sym timely.start i;
          end = sym timely.end i;
          attributes = same i;
          events = events i;
          links = links i;
          status = record { code = status_of_columns (looked tags); message = message_read (status_of_columns (looked tags)) (looked tags columns.Description) i };
          flags = bit_twice (flag_bits span.flags) i;
        }
