-- A span that was written is read as its normal form, and none of its tags is left out.
use Rattle.std.proofs.Common.{◌≡◌, ℕ, false, List, [], ◌∷◌, ◌++◌, map, get_or, All, None, is_some, unwrap_or, refl, ap, ◌∙◌, inr}
use Rattle.std.proofs.lemmas.List.Elements.{All-head, All-tail, All-map}
use Rattle.span_ids.specs.Times.{floor}
use Rattle.span_tags.proofs.ColumnLaws.{none_left}
use Rattle.span_tags.specs.Runs.{Scoped, scoped}
use Rattle.span_tags.specs.TagKeys.{service_key}
use Rattle.span_tags.specs.TagWords.{Pairs, text_in, code_in, name_in, text_given, code_given, text_or_none, is_idle, if_left}
use Rattle.trace_model.specs.Attributes.{Rise, keys, at}
use Rattle.trace_model.specs.declared.fault.Fault.TheVariants.{OwnKey, EventText, DoubleInText}
use Rattle.trace_model.specs.declared.span.Code.{Code}
use Rattle.trace_model.specs.declared.span.Code.TheVariants as statuses
use Rattle.trace_model.specs.declared.span.Kind.{Kind}
use Rattle.trace_model.specs.declared.span.Kind.TheVariants as kinds
use Rattle.trace_model.specs.declared.span.Span.{Span}
use Rattle.trace_model.specs.declared.group.Group.{Group}
use Rattle.map_zipkin.specs.Faults.{IsToldWrong, HasDoubleIn}
use Rattle.map_zipkin.specs.Keys.{resource_prefix, peer_key}
use Rattle.map_zipkin.specs.StatedLaws.{IsHeldByZipkin, SpansReadBack}
use Rattle.map_zipkin.specs.Normal.{zipkin_normal_kind, message_kept, zipkin_normal_event, normal_one, normal_spans}
use Rattle.map_zipkin.specs.Reading.{pairs_of, message_of, code_of_error, zipkin_event_of, zipkin_kind_read, span_read_by, run_by, run_span_of}
use Rattle.map_zipkin.specs.Remarks.{is_idle_peer, first_columns, left_out_by, zipkin_left_out}
use Rattle.map_zipkin.specs.OwnColumns.{all_own, own_row, own_form, own_in}
use Rattle.map_zipkin.specs.TagColumns.{error_message, is_idle_message, row_of, columns_in, zipkin_columns_of, is_idle_in}
use Rattle.map_zipkin.specs.Writing.{zipkin_kind, annotation_of, zipkin_span, spans_of_group}
use Rattle.map_zipkin.specs.declared.columns.Column.{Column}
use Rattle.map_zipkin.specs.declared.columns.Column.TheVariants as columns
use Rattle.map_zipkin.specs.declared.own.Own.{Own}
use Rattle.map_zipkin.proofs.ColumnLemmas.{own_apart, own_untold, own_there}
use Rattle.map_zipkin.proofs.EventsBack.{none_of, ReadsEvents, EventsReadBack, event_back}
use Rattle.map_zipkin.proofs.HeldSpans.{NoSpanFault, IsHeldSpan, held_spans}
use Rattle.map_zipkin.proofs.OwnForms.{count_back, count_told}
use Rattle.map_zipkin.proofs.TagsBack.{AreFormed, held, tags_back, columns_read, resource_back, service_none, placed_none, attributes_back}

-- ---- lists

pub back_each : {A B C : Type 0} → (f : B → C) (g : A → B) (h : A → C) (xs : List A) → All (λ x. f (g x) ≡ h x) xs → map f (map g xs) ≡ map h xs
back_each f g h [] all = refl
back_each f g h (x ∷ xs) all =
    let here : f (g x) ≡ h x = All-head (λ y. f (g y) ≡ h y) x xs all in
    let rest : map f (map g xs) ≡ map h xs = back_each f g h xs (All-tail (λ y. f (g y) ≡ h y) x xs all) in
    λ i. here i ∷ rest i

-- ---- columns: read back

kind_back : (kind : Kind) → zipkin_kind_read (zipkin_kind kind) ≡ zipkin_normal_kind kind
kind_back kinds.Unspecified = refl
kind_back kinds.Internal = refl
kind_back kinds.Server = refl
kind_back kinds.Client = refl
kind_back kinds.Producer = refl
kind_back kinds.Consumer = refl

-- the code that the columns of a code say
abbrev code_by : Code → List ℕ → Code
code_by code message = unwrap_or (code_in (code_given code)) (code_of_error (error_message code message))

code_back : (code : Code) (message : List ℕ) → code_by code message ≡ code
code_back statuses.Unset message = refl
code_back statuses.Okay message = refl
code_back statuses.Fail message = refl

message_back : (code : Code) (message : List ℕ) → message_of (code_by code message) (error_message code message) ≡ message_kept code message
message_back statuses.Unset message = refl
message_back statuses.Okay message = refl
message_back statuses.Fail message = refl

text_back : (text : List ℕ) → unwrap_or (text_in (text_given text)) [] ≡ text
text_back [] = refl
text_back (x ∷ more) = refl

name_back : (text : List ℕ) → name_in (text_given text) None ≡ text
name_back [] = refl
name_back (x ∷ more) = refl

-- ---- columns: none is idle

message_told : (code : Code) (message : List ℕ) → is_idle_message (error_message code message) (code_in (code_given code)) ≡ false
message_told statuses.Unset message = refl
message_told statuses.Okay message = refl
message_told statuses.Fail message = refl

code_told : (code : Code) → is_idle (code_given code) (code_in (code_given code)) ≡ false
code_told statuses.Unset = refl
code_told statuses.Okay = refl
code_told statuses.Fail = refl

-- ---- what no fault says

pub all_formed : (span : Span) → NoSpanFault span → AreFormed span.attributes
all_formed span none own bad =
    let there = own_there own in
    none (OwnKey (own_row own).key) (there.0, ((own_row own).key, own_form own), there.1, there.2, (refl, bad))

events_right : (span : Span) → NoSpanFault span → All (λ event. IsToldWrong event → ⊥) span.events
events_right span none = none_of IsToldWrong span.events (λ any. none EventText any)

events_plain : (span : Span) → NoSpanFault span → All (λ event. HasDoubleIn event.attributes → ⊥) span.events
events_plain span none = none_of (λ event. HasDoubleIn event.attributes) span.events (λ any. none DoubleInText (inr any))

module _ (resource : Pairs) (up : Rise (keys resource)) (one : Scoped Span) (known : IsHeldSpan one) where
  abbrev its_tags : Pairs
  its_tags = held resource one up known.sound.attributes.rising

  read_tags : pairs_of (zipkin_span resource one) ≡ its_tags
  read_tags = tags_back resource one up known.sound.attributes.rising

  read_columns : columns_in its_tags ≡ zipkin_columns_of one
  read_columns = columns_read resource one up known.sound.attributes.rising

  -- ---- no tag is left out

  own_none : (own : Own) → is_some (own_in its_tags own) ≡ false
  own_none own = ap is_some (placed_none resource one up known.sound.attributes.rising (own_row own).key (own_apart own) (own_untold own))

  told_in : (column : Column) → is_idle_in (zipkin_columns_of one) column ≡ false
  told_in columns.Error = message_told one.span.status.code one.span.status.message
  told_in columns.DroppedAttributes = count_told one.span.dropped_attributes known.proper.dropped_attributes
  told_in columns.DroppedEvents = count_told one.span.dropped_events known.proper.dropped_events
  told_in columns.DroppedLinks = count_told one.span.dropped_links known.proper.dropped_links
  told_in columns.Code = code_told one.span.status.code
  told_in other = refl

  none_left_out : left_out_by (zipkin_span resource one).remote.service (zipkin_columns_of one) its_tags ≡ []
  none_left_out = λ i. (none_left row_of first_columns (zipkin_columns_of one) told_in i
      ++ (if_left (resource_prefix ++ service_key) (is_some (service_none resource one up known.sound.attributes.rising i))
      ++ if_left (row_of columns.Code).key (told_in columns.Code i)))
      ++ (if_left peer_key (is_idle_peer (text_or_none (at peer_key one.span.attributes)) (text_in (placed_none resource one up known.sound.attributes.rising peer_key refl refl i)))
      ++ none_left own_row all_own (own_in its_tags) own_none i)

  pub span_plainly : zipkin_left_out (zipkin_span resource one) ≡ []
  span_plainly =
      ap (λ l. left_out_by (zipkin_span resource one).remote.service (columns_in l) l) read_tags
      ∙ ap (λ c. left_out_by (zipkin_span resource one).remote.service c its_tags) read_columns
      ∙ none_left_out

  -- ---- the span

  module _ (reads : ReadsEvents) (written : EventsReadBack) where
    events_back : map zipkin_event_of (map annotation_of one.span.events) ≡ map zipkin_normal_event one.span.events
    events_back = back_each zipkin_event_of annotation_of zipkin_normal_event one.span.events
        (λ k d lt. event_back reads written (get_or one.span.events k d) (known.sound.events k d lt) (known.proper.events k d lt)
        (events_right one.span known.no_fault k d lt) (events_plain one.span known.no_fault k d lt))

    by_columns : (run_by (zipkin_span resource one) (zipkin_columns_of one) its_tags, span_read_by (zipkin_span resource one) (zipkin_columns_of one) its_tags) ≡ normal_one resource one
    by_columns = λ i. (
      record {
        resource = resource_back resource one up known.sound.attributes.rising i;
        name = name_back one.name i;
        version = name_back one.version i;
      },
      record {
        trace = one.span.trace;
        id = one.span.id;
        state = text_back one.span.state i;
        parent = one.span.parent;
        name = one.span.name;
        kind = kind_back one.span.kind i;
        start = floor one.span.start;
        end = floor one.span.end;
        attributes = attributes_back resource one up known.sound.attributes.rising (all_formed one.span known.no_fault) i;
        dropped_attributes = count_back one.span.dropped_attributes known.proper.dropped_attributes i;
        events = events_back i;
        dropped_events = count_back one.span.dropped_events known.proper.dropped_events i;
        links = [];
        dropped_links = count_back one.span.dropped_links known.proper.dropped_links i;
        status = record { code = code_back one.span.status.code one.span.status.message i; message = message_back one.span.status.code one.span.status.message i };
        flags = 0;
      },
    )

    pub span_back : run_span_of (zipkin_span resource one) ≡ normal_one resource one
    span_back =
        ap (λ l. (run_by (zipkin_span resource one) (columns_in l) l, span_read_by (zipkin_span resource one) (columns_in l) l)) read_tags
        ∙ ap (λ c. (run_by (zipkin_span resource one) c its_tags, span_read_by (zipkin_span resource one) c its_tags)) read_columns
        ∙ by_columns

-- ---- the group

module _ (reads : ReadsEvents) (written : EventsReadBack) where
  group_means : (group : Group) → IsHeldByZipkin group → map run_span_of (spans_of_group group) ≡ normal_spans group
  group_means group is =
      back_each run_span_of (zipkin_span group.resource) (normal_one group.resource) (scoped group.scopes)
      (λ k d lt. span_back group.resource is.sound.resource.rising (get_or (scoped group.scopes) k d) (held_spans group is k d lt) reads written)

  group_plainly : (group : Group) → IsHeldByZipkin group → All (λ span. zipkin_left_out span ≡ []) (spans_of_group group)
  group_plainly group is = All-map (λ span. zipkin_left_out span ≡ []) (zipkin_span group.resource) (scoped group.scopes)
      (λ k d lt. span_plainly group.resource is.sound.resource.rising (get_or (scoped group.scopes) k d) (held_spans group is k d lt))

  pub spans_read_back : SpansReadBack
  spans_read_back = record { means = group_means; plainly = group_plainly }
