-- What is read of Zipkin is its own normal form.
use Rattle.std.proofs.Common.{◌≡◌, ℕ, Bool, true, false, List, [], ◌∷◌, ◌++◌, map, get_or, All, Option, Some, None, refl, sym, ap, ◌∙◌, subst, true≢false}
use Rattle.std.specs.Prelude.{not}
use Rattle.std.specs.List.{flat_map}
use Rattle.std.specs.Str.{bytes_eq}
use Rattle.std.proofs.lemmas.List.Elements.{All-head, All-tail}
use Rattle.span_ids.specs.Times.{floor}
use Rattle.span_tags.proofs.AttributeLaws.{key_itself}
use Rattle.span_tags.specs.Runs.{scoped}
use Rattle.span_tags.specs.TagKeys.{service_key}
use Rattle.span_tags.specs.TagWords.{Pairs, text_given, text_or_none}
use Rattle.trace_model.specs.Attributes.{at}
use Rattle.trace_model.specs.EventReading.{event_text_read}
use Rattle.trace_model.specs.declared.span.Code.{Code}
use Rattle.trace_model.specs.declared.span.Code.TheVariants as statuses
use Rattle.trace_model.specs.declared.group.Group.{Group}
use Rattle.trace_model.specs.declared.value.Value.{Value, Text}
use Rattle.zipkin_json.specs.Proper.{IsTimelyZSpan}
use Rattle.zipkin_json.specs.declared.span.ZKind.{ZKind}
use Rattle.zipkin_json.specs.declared.span.ZKind.TheVariants as zkinds
use Rattle.zipkin_json.specs.declared.span.ZSpan.{ZSpan}
use Rattle.map_zipkin.specs.Keys.{peer_key}
use Rattle.map_zipkin.specs.OwnColumns.{own_row}
use Rattle.map_zipkin.specs.StatedLaws.{ReadIsZipkinNormal}
use Rattle.map_zipkin.specs.Normal.{zipkin_normal_kind, message_kept, zipkin_normal_event, zipkin_normal_span, normal_pairs, normal_spans, zipkin_normal}
use Rattle.map_zipkin.specs.Reading.{pairs_of, resource_tags, resource_by, attributes_by, event_by, zipkin_event_of, zipkin_kind_read, message_of, run_span_of, groups_of}
use Rattle.map_zipkin.specs.TagColumns.{columns_in}
use Rattle.map_zipkin.specs.declared.columns.Column.TheVariants as columns
use Rattle.map_zipkin.specs.Regrouped.{RunSpan, run_of, runs_of, regrouped}
use Rattle.map_zipkin.proofs.ColumnLemmas.{own_no_peer}
use Rattle.map_zipkin.proofs.EscapedKeys.{attribute_key, free_peer}
use Rattle.map_zipkin.proofs.EventFacts.{EventsRead}
use Rattle.map_zipkin.proofs.GroupsHeld.{read_without_fault}
use Rattle.map_zipkin.proofs.NormalPairs.{normal_itself}
use Rattle.map_zipkin.proofs.ReadFaults.{found_has}
use Rattle.map_zipkin.proofs.ReadTexts.{kept, free_all, IsTextPair, attributes_all, attributes_texts, attributes_rise, resource_all, resource_texts, resource_rise}
use Rattle.map_zipkin.proofs.Regrouping.{regrouped_spans}

-- ---- normal forms of spans of runs

abbrev pub normal_run : RunSpan → RunSpan
normal_run one = (record { resource = normal_pairs service_key one.0.resource; name = one.0.name; version = one.0.version }, zipkin_normal_span one.1)

pub map_map : {A B C : Type 0} → (f : B → C) (g : A → B) (xs : List A) → map f (map g xs) ≡ map (λ x. f (g x)) xs
map_map f g [] = refl
map_map f g (x ∷ xs) = ap (λ l. f (g x) ∷ l) (map_map f g xs)

pub map_append : {A B : Type 0} → (f : A → B) (xs ys : List A) → map f (xs ++ ys) ≡ map f xs ++ map f ys
map_append f [] ys = refl
map_append f (x ∷ xs) ys = ap (λ l. f x ∷ l) (map_append f xs ys)

pub map_flat : {A B C : Type 0} → (f : B → C) (g : A → List B) (xs : List A) → map f (flat_map g xs) ≡ flat_map (λ x. map f (g x)) xs
map_flat f g [] = refl
map_flat f g (x ∷ xs) = map_append f (g x) (flat_map g xs) ∙ ap (λ l. map f (g x) ++ l) (map_flat f g xs)

group_runs : (group : Group) → map normal_run (runs_of group) ≡ normal_spans group
group_runs group = map_map normal_run (run_of group.resource) (scoped group.scopes)

pub flat_each : {A B : Type 0} → (f g : A → List B) → ((x : A) → f x ≡ g x) → (xs : List A) → flat_map f xs ≡ flat_map g xs
flat_each f g same [] = refl
flat_each f g same (x ∷ xs) = ap (λ l. l ++ flat_map f xs) (same x) ∙ ap (λ l. g x ++ l) (flat_each f g same xs)

-- the spans of the normal form, by those of the groups
pub normal_flat : (groups : List Group) → flat_map normal_spans groups ≡ map normal_run (flat_map runs_of groups)
normal_flat groups = sym (map_flat normal_run runs_of groups ∙ flat_each (λ group. map normal_run (runs_of group)) normal_spans group_runs groups)

pub normal_regrouped : (l : List RunSpan) → zipkin_normal (regrouped l) ≡ regrouped (map normal_run l)
normal_regrouped l = ap regrouped (normal_flat (regrouped l) ∙ ap (map normal_run) (regrouped_spans l))

pub map_itself : {A B : Type 0} → (f : B → B) (g : A → B) (xs : List A) → All (λ x. f (g x) ≡ g x) xs → map f (map g xs) ≡ map g xs
map_itself f g [] all = refl
map_itself f g (x ∷ xs) all =
    let here : f (g x) ≡ g x = All-head (λ y. f (g y) ≡ g y) x xs all in
    let rest : map f (map g xs) ≡ map g xs = map_itself f g xs (All-tail (λ y. f (g y) ≡ g y) x xs all) in
    λ i. here i ∷ rest i

-- ---- the one text isn't empty

-- under the key stands no empty text
abbrev IsSaid : List ℕ → List ℕ × Value → Type 0
IsSaid key pair = bytes_eq key pair.0 ≡ true → pair.1 ≡ Text [] → ⊥

off : (b : Bool) → b ≡ false → b ≡ true → ⊥
off b e f = true≢false (sym f ∙ e)

some_text : (x : ℕ) (more : List ℕ) → Text (x ∷ more) ≡ Text [] → ⊥
some_text x more e = cc

text_stays : (key text : List ℕ) → IsSaid key (key, Text text) → text_given text ≡ Some (Text text)
text_stays key [] said = absurd (said (key_itself key) refl)
text_stays key (x ∷ more) said = refl

stays : (key : List ℕ) (l : Pairs) → All (IsSaid key) l → All IsTextPair l → (o : Option Value) → at key l ≡ o → text_given (text_or_none o) ≡ o
stays key l said texts None e = refl
stays key l said texts (Some value) e =
    let is : IsTextPair (key, value) = found_has IsTextPair key l value texts e in
    let some : IsSaid key (key, Text is.text) = subst (λ (v : Value). IsSaid key (key, v)) is.is (found_has (IsSaid key) key l value said e) in
    ap (λ (v : Value). text_given (text_or_none (Some v))) is.is ∙ text_stays key is.text some ∙ ap Some (sym is.is)

anything : (l : Pairs) → All (λ pair. Unit {0}) l
anything l k d lt = tt

not_true : (b : Bool) → not b ≡ true → b ≡ false
not_true true e = absurd (true≢false (sym e))
not_true false e = refl

peer_said : (span : ZSpan) (tags : Pairs) → All (IsSaid peer_key) (attributes_by span tags)
peer_said span tags = attributes_all (IsSaid peer_key) span tags (record {
  service = λ x more e same empty. some_text x more empty;
  tag = λ x more e same empty. some_text x more empty;
  own = λ own value e same empty. off (bytes_eq peer_key (own_row own).key) (own_no_peer own) same;
  others = free_all (λ pair. Unit {0}) (IsSaid peer_key)
      (λ pair held e same empty. off (bytes_eq peer_key (attribute_key pair.0)) (free_peer pair.0 e) same) tags (anything tags);
})

service_said : (service : List ℕ) (tags : Pairs) → All (IsSaid service_key) (resource_by service tags)
service_said service tags = resource_all (IsSaid service_key) service tags (λ x more e same empty. some_text x more empty)
    (kept (λ pair. Unit {0}) (IsSaid service_key) (λ pair. not (bytes_eq service_key pair.0))
    (λ pair held e same empty. off (bytes_eq service_key pair.0) (not_true (bytes_eq service_key pair.0) e) same) (resource_tags tags) (anything (resource_tags tags)))

-- ---- the parts

module _ (span : ZSpan) where
  attributes_normal : normal_pairs peer_key (attributes_by span (pairs_of span)) ≡ attributes_by span (pairs_of span)
  attributes_normal =
      let l = attributes_by span (pairs_of span) in
      normal_itself peer_key l (attributes_rise span (pairs_of span)) (attributes_texts span)
      (stays peer_key l (peer_said span (pairs_of span)) (attributes_texts span) (at peer_key l) refl)

  resource_normal : normal_pairs service_key (resource_by span.local.service (pairs_of span)) ≡ resource_by span.local.service (pairs_of span)
  resource_normal =
      let l = resource_by span.local.service (pairs_of span) in
      normal_itself service_key l (resource_rise span.local.service (pairs_of span)) (resource_texts span.local.service span)
      (stays service_key l (service_said span.local.service (pairs_of span)) (resource_texts span.local.service span) (at service_key l) refl)

kind_normal : (kind : ZKind) → zipkin_normal_kind (zipkin_kind_read kind) ≡ zipkin_kind_read kind
kind_normal zkinds.Absent = refl
kind_normal zkinds.Client = refl
kind_normal zkinds.Server = refl
kind_normal zkinds.Producer = refl
kind_normal zkinds.Consumer = refl

message_normal : (code : Code) (error : Option Value) → message_kept code (message_of code error) ≡ message_of code error
message_normal statuses.Unset error = refl
message_normal statuses.Okay error = refl
message_normal statuses.Fail error = refl

module _ (facts : EventsRead) where
  event_normal : (time : ℕ) (text : List ℕ) (read : Option (List ℕ × Pairs)) → event_text_read text ≡ read → floor time ≡ time
      → zipkin_normal_event (event_by time text read) ≡ event_by time text read
  event_normal time text None e whole = λ i. record { time = whole i; name = text; attributes = []; dropped = 0 }
  event_normal time text (Some found) e whole =
      let attributes = facts.no_bytes text found.0 found.1 ((facts.reads text found.0 found.1).0 e) in
      λ i. record { time = whole i; name = found.0; attributes = attributes i; dropped = 0 }

  pub read_normal : (span : ZSpan) → IsTimelyZSpan span → normal_run (run_span_of span) ≡ run_span_of span
  read_normal span timely =
      let s = (run_span_of span).1 in
      let events : map zipkin_normal_event (map zipkin_event_of span.annotations) ≡ map zipkin_event_of span.annotations =
      map_itself zipkin_normal_event zipkin_event_of span.annotations
      (λ k d lt. let one = get_or span.annotations k d in event_normal one.0 one.1 (event_text_read one.1) refl (timely.annotations k d lt)) in
      λ i. (
        record { resource = resource_normal span i; name = (run_span_of span).0.name; version = (run_span_of span).0.version },
        record s {
          kind = kind_normal span.kind i;
          start = timely.start i;
          end = timely.end i;
          attributes = attributes_normal span i;
          events = events i;
          status = record { code = s.status.code; message = message_normal s.status.code (columns_in (pairs_of span) columns.Error) i };
        },
      )

  pub read_itself : (spans : List ZSpan) → All IsTimelyZSpan spans → zipkin_normal (groups_of spans) ≡ groups_of spans
  read_itself spans timely = normal_regrouped (map run_span_of spans)
      ∙ ap regrouped (map_itself normal_run run_span_of spans (λ k d lt. read_normal (get_or spans k d) (timely k d lt)))

  pub read_is_normal : ReadIsZipkinNormal
  read_is_normal = record {
    no_fault = read_without_fault facts;
    itself = λ spans timely proper. read_itself spans timely;
  }
