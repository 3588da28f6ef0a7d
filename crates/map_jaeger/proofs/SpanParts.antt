-- The parts of a span, written and read back: its columns, row by row, its events and its links.
use Rattle.std.proofs.Common.{◌≡◌, ℕ, pos, Bool, true, false, cond, not, ◌&&◌, ◌==◌, List, [], ◌∷◌, ◌++◌, map, filter, find, get_or, All, Option, Some, None, unwrap_or, refl, sym, ap, ◌∙◌, inl, inr, eqb-true}
use Rattle.std.specs.Prelude.{Any, if◌then◌else◌}
use Rattle.std.specs.Option.{option_or}
use Rattle.std.specs.Str.{bytes_eq}
use Rattle.std.proofs.lemmas.List.{get_or_default}
use Rattle.std.proofs.lemmas.List.Elements.{All-head, All-tail}
use Rattle.trace_model.specs.Attributes.{Rise, keys, attrs, at}
use Rattle.trace_model.specs.Proper.{IsProperSpan}
use Rattle.trace_model.specs.declared.span.Code.{Code}
use Rattle.trace_model.specs.declared.span.Code.TheVariants as statuses
use Rattle.trace_model.specs.declared.span.Event.{Event}
use Rattle.trace_model.specs.declared.span.Kind.{Kind}
use Rattle.trace_model.specs.declared.span.Kind.TheVariants as kinds
use Rattle.trace_model.specs.declared.span.Link.{Link}
use Rattle.trace_model.specs.declared.span.Span.{Span}
use Rattle.trace_model.specs.declared.value.Value.{Value, Number}
use Rattle.span_tags.specs.Escapes.{escaped, unescaped}
use Rattle.span_tags.proofs.AttributeLaws.{same_key, other_way, option_or-none, attrs_rise, at_attrs-append, same_pairs, at_filter, filter_rise, at_map, map_rise}
use Rattle.span_tags.proofs.EscapeLaws.{at_reserved, escaped_rise, escaped_values, unescaped_escaped}
use Rattle.span_tags.proofs.RowLaws.{last_at-row}
use Rattle.span_tags.specs.Runs.{Scoped}
use Rattle.span_tags.specs.TagWords.{row, text_in, text_given, without, code_in, name_in, is_idle, if_left, code_given}
use Rattle.map_jaeger.specs.ColumnWords.{count_given, kind_in, kind_given, error_in, error_given, is_idle_error, message_by, description_given, is_idle_description}
use Rattle.map_jaeger.specs.Columns.{columns_of, is_idle_in}
use Rattle.map_jaeger.specs.Faults.{IsOwnParent}
use Rattle.map_jaeger.specs.Keys.{event_key, is_event_reserved, reference_key}
use Rattle.map_jaeger.specs.Normal.{normal_kind, normal_status, normal_event, normal_link, normal_attributes}
use Rattle.map_jaeger.specs.Reading.{attributes_of, event_of, link_of_reference, names}
use Rattle.map_jaeger.specs.TagValues.{normal_value}
use Rattle.map_jaeger.specs.Writing.{log_of, is_child_of, reference_of}
use Rattle.map_jaeger.specs.declared.columns.Column.{Column}
use Rattle.map_jaeger.specs.declared.columns.Column.TheVariants as columns
use Rattle.map_jaeger.proofs.ColumnLemmas.{normal_column, normal_columns}
use Rattle.map_jaeger.proofs.EscapedKeys.{events_apart}
use Rattle.map_jaeger.proofs.FlagLemmas.{count_told}
use Rattle.map_jaeger.proofs.GroupLeaves.{attributes_back}

-- ---- lists

pub back_each : {A B C : Type 0} → (f : B → C) (g : A → B) (h : A → C) (xs : List A) → All (λ x. f (g x) ≡ h x) xs → map f (map g xs) ≡ map h xs
back_each f g h [] all = refl
back_each f g h (x ∷ xs) all =
    let here : f (g x) ≡ h x = All-head (λ y. f (g y) ≡ h y) x xs all in
    let rest : map f (map g xs) ≡ map h xs = back_each f g h xs (All-tail (λ y. f (g y) ≡ h y) x xs all) in
    λ i. here i ∷ rest i

pub find_none : {A : Type 0} → (test : A → Bool) (xs : List A) → All (λ x. test x ≡ false) xs → find test xs ≡ None
find_none test [] all = refl
find_none test (x ∷ xs) all =
    ap (λ b. cond b (Some x) (find test xs)) (All-head (λ y. test y ≡ false) x xs all) ∙ find_none test xs (All-tail (λ y. test y ≡ false) x xs all)

pub filter_each : {A : Type 0} → (test : A → Bool) (xs : List A) → All (λ x. test x ≡ true) xs → filter test xs ≡ xs
filter_each test [] all = refl
filter_each test (x ∷ xs) all =
    ap (λ b. cond b (x ∷ filter test xs) (filter test xs)) (All-head (λ y. test y ≡ true) x xs all)
    ∙ ap (λ l. x ∷ l) (filter_each test xs (All-tail (λ y. test y ≡ true) x xs all))

pub none_of : {A : Type 0} → (P : A → Type 0) (xs : List A) → (Any P xs → ⊥) → All (λ x. P x → ⊥) xs
none_of P xs never k d lt here = never (k, get_or xs k d, lt, get_or_default xs k (get_or xs k d) d lt, here)

-- ---- columns: read back

pub kind_back : (kind : Kind) → unwrap_or (kind_in (kind_given kind)) kinds.Internal ≡ normal_kind kind
kind_back kinds.Unspecified = refl
kind_back kinds.Internal = refl
kind_back kinds.Server = refl
kind_back kinds.Client = refl
kind_back kinds.Producer = refl
kind_back kinds.Consumer = refl

-- the code that the columns of a code say
abbrev pub code_by : Code → Code
code_by code = unwrap_or (code_in (code_given code)) (if unwrap_or (error_in (error_given code)) false then statuses.Fail else statuses.Unset)

pub code_back : (code : Code) → code_by code ≡ code
code_back statuses.Unset = refl
code_back statuses.Okay = refl
code_back statuses.Fail = refl

pub message_back : (code : Code) (message : List ℕ) → message_by (code_by code) (description_given code message) ≡ (normal_status (record { code = code; message = message })).message
message_back statuses.Unset message = refl
message_back statuses.Okay [] = refl
message_back statuses.Okay (x ∷ more) = refl
message_back statuses.Fail [] = refl
message_back statuses.Fail (x ∷ more) = refl

pub text_back : (text : List ℕ) → unwrap_or (text_in (text_given text)) [] ≡ text
text_back [] = refl
text_back (x ∷ more) = refl

pub name_back : (text : List ℕ) → name_in (text_given text) None ≡ text
name_back [] = refl
name_back (x ∷ more) = refl

-- ---- columns: they hold leaves

pub text_leaf : (text : List ℕ) → normal_column (text_given text) ≡ text_given text
text_leaf [] = refl
text_leaf (x ∷ more) = refl

count_by : (n : ℕ) (b : Bool) → normal_column (cond b None (Some (Number (pos n)))) ≡ cond b None (Some (Number (pos n)))
count_by n true = refl
count_by n false = refl

count_leaf : (n : ℕ) → normal_column (count_given n) ≡ count_given n
count_leaf n = count_by n (n == 0)

error_leaf : (code : Code) → normal_column (error_given code) ≡ error_given code
error_leaf statuses.Unset = refl
error_leaf statuses.Okay = refl
error_leaf statuses.Fail = refl

code_leaf : (code : Code) → normal_column (code_given code) ≡ code_given code
code_leaf statuses.Unset = refl
code_leaf statuses.Okay = refl
code_leaf statuses.Fail = refl

description_leaf : (code : Code) (message : List ℕ) → normal_column (description_given code message) ≡ description_given code message
description_leaf statuses.Unset message = refl
description_leaf statuses.Okay message = text_leaf message
description_leaf statuses.Fail message = text_leaf message

kind_leaf : (kind : Kind) → normal_column (kind_given kind) ≡ kind_given kind
kind_leaf kinds.Unspecified = refl
kind_leaf kinds.Internal = refl
kind_leaf kinds.Server = refl
kind_leaf kinds.Client = refl
kind_leaf kinds.Producer = refl
kind_leaf kinds.Consumer = refl

pub leaf_in : (one : Scoped Span) (column : Column) → normal_column (columns_of one column) ≡ columns_of one column
leaf_in one columns.Error = error_leaf one.span.status.code
leaf_in one columns.DroppedAttributes = count_leaf one.span.dropped_attributes
leaf_in one columns.DroppedEvents = count_leaf one.span.dropped_events
leaf_in one columns.DroppedLinks = count_leaf one.span.dropped_links
leaf_in one columns.ScopeName = text_leaf one.name
leaf_in one columns.ScopeVersion = text_leaf one.version
leaf_in one columns.Code = code_leaf one.span.status.code
leaf_in one columns.Description = description_leaf one.span.status.code one.span.status.message
leaf_in one columns.Kind = kind_leaf one.span.kind
leaf_in one columns.State = text_leaf one.span.state
leaf_in one other = refl

pub columns_leaves : (one : Scoped Span) → normal_columns (columns_of one) ≡ columns_of one
columns_leaves one = λ i column. leaf_in one column i

-- ---- columns: none is idle

pub text_told : (text : List ℕ) → is_idle (text_given text) (text_in (text_given text)) ≡ false
text_told [] = refl
text_told (x ∷ more) = refl

error_told : (code : Code) → is_idle_error (error_given code) (error_in (error_given code)) (code_in (code_given code)) ≡ false
error_told statuses.Unset = refl
error_told statuses.Okay = refl
error_told statuses.Fail = refl

code_told : (code : Code) → is_idle (code_given code) (code_in (code_given code)) ≡ false
code_told statuses.Unset = refl
code_told statuses.Okay = refl
code_told statuses.Fail = refl

description_told : (code : Code) (message : List ℕ) → is_idle_description (description_given code message) (code_by code) ≡ false
description_told statuses.Unset message = refl
description_told statuses.Okay message = text_told message
description_told statuses.Fail message = text_told message

kind_told : (kind : Kind) → is_idle (kind_given kind) (kind_in (kind_given kind)) ≡ false
kind_told kinds.Unspecified = refl
kind_told kinds.Internal = refl
kind_told kinds.Server = refl
kind_told kinds.Client = refl
kind_told kinds.Producer = refl
kind_told kinds.Consumer = refl

pub told_in : (one : Scoped Span) → IsProperSpan one.span → (column : Column) → is_idle_in (columns_of one) column ≡ false
told_in one proper columns.Error = error_told one.span.status.code
told_in one proper columns.DroppedAttributes = count_told one.span.dropped_attributes proper.dropped_attributes
told_in one proper columns.DroppedEvents = count_told one.span.dropped_events proper.dropped_events
told_in one proper columns.DroppedLinks = count_told one.span.dropped_links proper.dropped_links
told_in one proper columns.ScopeName = text_told one.name
told_in one proper columns.ScopeVersion = text_told one.version
told_in one proper columns.Code = code_told one.span.status.code
told_in one proper columns.Description = description_told one.span.status.code one.span.status.message
told_in one proper columns.Kind = kind_told one.span.kind
told_in one proper columns.State = text_told one.span.state
told_in one proper other = refl

-- ---- an event

module _ (event : Event) where
  -- its attributes as they are written
  abbrev others : List (List ℕ × Value)
  others = escaped is_event_reserved event.attributes

  others_rise : Rise (keys others)
  others_rise = escaped_rise is_event_reserved event.attributes

  abbrev pub named : List (List ℕ × Value)
  named = row event_key (text_given event.name) ++ others

  abbrev pub told_fields : List (List ℕ × Value)
  told_fields = normal_attributes (attrs named)

  pub fields_back : attributes_of (log_of event).fields ≡ told_fields
  fields_back = attributes_back (attrs named) (attrs_rise named)

  module _ (up : Rise (keys event.attributes)) where
    absent : at event_key others ≡ None
    absent = at_reserved is_event_reserved events_apart event.attributes event_key refl

    at_fields : (k : List ℕ) → at k told_fields ≡ normal_column (option_or (at k others) (cond (bytes_eq k event_key) (text_given event.name) None))
    at_fields k = at_map normal_value k (attrs named)
        ∙ ap normal_column (at_attrs-append k (row event_key (text_given event.name)) others others_rise ∙ ap (option_or (at k others)) (last_at-row k event_key (text_given event.name)))

    pub name_at : at event_key told_fields ≡ text_given event.name
    name_at = at_fields event_key ∙ ap (λ o. normal_column (option_or o (text_given event.name))) absent ∙ text_leaf event.name

    others_by : (k : List ℕ) (b : Bool) → bytes_eq event_key k ≡ b → cond (not b) (at k told_fields) None ≡ at k (normal_attributes others)
    others_by k true e = sym (at_map normal_value k others ∙ ap normal_column (ap (λ q. at q others) (sym (same_key event_key k e)) ∙ absent))
    others_by k false e =
        at_fields k
        ∙ ap (λ b. normal_column (option_or (at k others) (cond b (text_given event.name) None))) (other_way event_key k e)
        ∙ ap normal_column (option_or-none (at k others))
        ∙ sym (at_map normal_value k others)

    others_back : without event_key told_fields ≡ normal_attributes others
    others_back = same_pairs (without event_key told_fields) (normal_attributes others)
        (filter_rise (λ k. not (bytes_eq event_key k)) told_fields (map_rise normal_value (attrs named) (attrs_rise named)))
        (map_rise normal_value others others_rise)
        (λ k. at_filter k (λ q. not (bytes_eq event_key q)) told_fields ∙ others_by k (bytes_eq event_key k) refl)

    attributes_again : unescaped is_event_reserved (without event_key told_fields) ≡ normal_attributes event.attributes
    attributes_again =
        ap (unescaped is_event_reserved) (others_back ∙ escaped_values is_event_reserved normal_value event.attributes)
        ∙ unescaped_escaped is_event_reserved events_apart (normal_attributes event.attributes) (map_rise normal_value event.attributes up)

    pub event_back : event_of (log_of event) ≡ normal_event event
    event_back =
        let name : unwrap_or (text_in (at event_key (attributes_of (log_of event).fields))) [] ≡ event.name =
        ap (λ l. unwrap_or (text_in (at event_key l)) []) fields_back ∙ ap (λ o. unwrap_or (text_in o) []) name_at ∙ text_back event.name in
        let attributes : unescaped is_event_reserved (without event_key (attributes_of (log_of event).fields)) ≡ normal_attributes event.attributes =
        ap (λ l. unescaped is_event_reserved (without event_key l)) fields_back ∙ attributes_again in
        λ i. record { time = (normal_event event).time; name = name i; attributes = attributes i; dropped = 0 }

    pub event_told : if_left event_key (is_idle (at event_key (attributes_of (log_of event).fields)) (text_in (at event_key (attributes_of (log_of event).fields)))) ≡ []
    event_told =
        ap (λ l. if_left event_key (is_idle (at event_key l) (text_in (at event_key l)))) fields_back
        ∙ ap (λ o. if_left event_key (is_idle o (text_in o))) name_at
        ∙ ap (if_left event_key) (text_told event.name)

-- ---- a link

module _ (span : Span) (link : Link) (never : IsOwnParent span link → ⊥) where
  abbrev marked : Bool
  marked = is_child_of (at reference_key link.attributes)

  root_by : (b c : Bool) → marked ≡ b → (link.trace == span.trace) ≡ c → span.parent ≡ None → (b && c) ≡ false
  root_by true true e f root = absurd (never (e, eqb-true link.trace span.trace f, inl root))
  root_by true false e f root = refl
  root_by false c e f root = refl

  -- in a root no reference is the parent
  pub root_link : span.parent ≡ None → (marked && (link.trace == span.trace)) ≡ false
  root_link = root_by marked (link.trace == span.trace) refl refl

  child_by : (b c d : Bool) (q : ℕ) → marked ≡ b → (link.trace == span.trace) ≡ c → span.parent ≡ Some q → (q == link.span) ≡ d → ((b && c) && d) ≡ false
  child_by true true true q e f parent g = absurd (never (e, eqb-true link.trace span.trace f, inr (parent ∙ ap Some (eqb-true q link.span g))))
  child_by true true false q e f parent g = refl
  child_by true false d q e f parent g = refl
  child_by false c d q e f parent g = refl

  never_by : (parent : Option ℕ) → span.parent ≡ parent → ((marked && (link.trace == span.trace)) && names parent link.span) ≡ false
  never_by None e = and_false (marked && (link.trace == span.trace))
    where
      and_false : (b : Bool) → (b && false) ≡ false
      and_false true = refl
      and_false false = refl
  never_by (Some q) e = child_by marked (link.trace == span.trace) (q == link.span) q refl refl e refl

  -- no reference names the parent
  pub kept_link : not ((marked && (link.trace == span.trace)) && names span.parent link.span) ≡ true
  kept_link = ap not (never_by span.parent refl)

pub link_back : (link : Link) → link_of_reference (reference_of link) ≡ normal_link link
link_back link = refl
