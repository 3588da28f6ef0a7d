-- The texts of a Zipkin file, and what is read of them.
use Rattle.std.proofs.Common.{◌≡◌, ℕ, ◌+◌, ◌++◌, ◌∷◌, List, [], length, map, All, refl, ap, sym, ◌∙◌, subst}
use Rattle.std.proofs.lemmas.Grind.{flat_map-append}
use Rattle.std.proofs.lemmas.List.{length-append, length-map, map-append}
use Rattle.std.proofs.lemmas.List.Elements.{All-nil, All-cons, All-head, All-tail, All-append, All-weaker}
use Rattle.std.specs.List.{flat_map}
use Rattle.span_io.specs.Outside.{IsFront}
use Rattle.span_io.specs.declared.form.Form.TheVariants as forms
use Rattle.span_tags.specs.Runs.{Scoped, spans_of, scoped}
use Rattle.trace_model.specs.Flat.{flat}
use Rattle.trace_model.specs.Proper.{IsProperGroup}
use Rattle.trace_model.specs.Soundness.{IsSoundGroup, IsSoundTrace}
use Rattle.trace_model.specs.declared.span.Span.{Span}
use Rattle.trace_model.specs.OtlpParts.{NotedGroup}
use Rattle.trace_model.specs.declared.group.Group.{Group}
use Rattle.trace_model.specs.declared.group.Scope.{Scope}
use Rattle.zipkin_json.specs.Canonical.{zspan_text, spans_text}
use Rattle.zipkin_json.specs.Proper.{IsProperZSpan, IsTimelyZSpan, IsWritableZSpan}
use Rattle.zipkin_json.specs.Texts.{AreSpansText}
use Rattle.zipkin_json.specs.declared.span.ZSpan.{ZSpan}
use Rattle.map_zipkin.specs.Faults.{HasNoZipkinFault}
use Rattle.map_zipkin.specs.StatedLaws.{IsHeldByZipkin, ZipkinNormalForms}
use Rattle.map_zipkin.specs.Normal.{normal_one, normal_spans, zipkin_normal}
use Rattle.map_zipkin.specs.NotedGroups.{plain_noted}
use Rattle.map_zipkin.specs.Regrouped.{RunSpan, run_of}
use Rattle.map_zipkin.specs.Writing.{spans_of_group}
use Rattle.span_convert.specs.Canonical.{IsHeldBy}
use Rattle.span_convert.specs.Documents.{partial_document, closing_document}
use Rattle.span_convert.specs.private.InputLaws.{SpanFileLaws}
use Rattle.span_convert.specs.SpanFiles.{ReadsSpans, spans_of_groups, span_file, span_file_text}
use Rattle.span_convert.specs.Units.{groups_in, IsSizedGroup, normal_form, canonical_text, span_count}
use Rattle.span_convert.specs.Verdicts.{CanHoldTrace, IsFaultless, IsProperTrace}
use Rattle.span_convert.proofs.DocumentInputs.{all_first}
use Rattle.span_convert.proofs.DocumentTexts.{document_front, document_closed}
use Rattle.span_convert.proofs.SpanFileInputs.{groups_read, proper_read, timely_read}

-- ---- what groups add

pub held_groups : (groups : List Group) → CanHoldTrace forms.ZipkinJson groups → All IsHeldByZipkin groups
held_groups groups held = of groups held.sound held.proper held.no_fault
  where
    of : (groups : List Group) → IsSoundTrace groups → IsProperTrace groups → All HasNoZipkinFault groups → All IsHeldByZipkin groups
    of [] sound proper fine = All-nil IsHeldByZipkin
    of (g ∷ groups) sound proper fine = All-cons IsHeldByZipkin g groups
        (record { sound = All-head IsSoundGroup g groups sound; proper = All-head IsProperGroup g groups proper; no_fault = All-head HasNoZipkinFault g groups fine })
        (of groups (All-tail IsSoundGroup g groups sound) (All-tail IsProperGroup g groups proper) (All-tail HasNoZipkinFault g groups fine))

-- the texts of the spans of groups
abbrev pub span_texts : List Group → List (List ℕ)
span_texts groups = map zspan_text (spans_of_groups groups)

-- the pieces of a trace that Zipkin can hold are those of the trace's own spans
pub own_pieces : (Z : ZipkinNormalForms) (groups : List Group) → CanHoldTrace forms.ZipkinJson groups → span_file.pieces groups ≡ span_texts groups
own_pieces Z groups held = ap (λ (l : List ZSpan). map zspan_text l) (Z.same_spans groups (held_groups groups held))

front_held : (a b : List Group) → CanHoldTrace forms.ZipkinJson (a ++ b) → CanHoldTrace forms.ZipkinJson a
front_held a b held = record {
  sound = all_first IsSoundGroup a b held.sound;
  proper = all_first IsProperGroup a b held.proper;
  no_fault = all_first HasNoZipkinFault a b held.no_fault;
}

pub more_spans : (Z : ZipkinNormalForms) (a b : List Group) → CanHoldTrace forms.ZipkinJson (a ++ b) → span_file.pieces (a ++ b) ≡ span_file.pieces a ++ span_texts b
more_spans Z a b held =
    own_pieces Z (a ++ b) held
    ∙ ap (λ (l : List ZSpan). map zspan_text l) (flat_map-append spans_of_group a b)
    ∙ map-append zspan_text (spans_of_groups a) (spans_of_groups b)
    ∙ ap (λ (l : List (List ℕ)). l ++ span_texts b) (sym (own_pieces Z a (front_held a b held)))

pub span_file_front : (Z : ZipkinNormalForms) (a b : List Group) → CanHoldTrace forms.ZipkinJson (a ++ b) → IsFront (partial_document span_file a) (partial_document span_file (a ++ b))
span_file_front Z a b held = document_front span_file a b (span_texts b) (more_spans Z a b held)

pub span_file_closed : (groups : List Group) → span_file_text (zipkin_normal groups) ≡ partial_document span_file groups ++ closing_document span_file groups
unfolding spans_text
span_file_closed groups = document_closed span_file refl groups

-- ---- how many spans there are

abbrev spans_in : List Scope → List Span
spans_in scopes = flat_map (λ scope. scope.spans) scopes

scopes_count : (scopes : List Scope) → length (scoped scopes) ≡ length (spans_in scopes)
scopes_count [] = refl
scopes_count (scope ∷ scopes) =
    length-append (spans_of scope) (scoped scopes)
    ∙ ap (λ n. n + length (scoped scopes)) (length-map scope.spans (λ (span : Span). record { name = scope.name; version = scope.version; span = span }))
    ∙ ap (λ n. length scope.spans + n) (scopes_count scopes)
    ∙ sym (length-append scope.spans (spans_in scopes))

-- the spans of groups, told in one way or another
module _ {A : Type 0} (told : Group → Scoped Span → A) where
  pub spans_counted : (groups : List Group) → length (flat_map (λ group. map (told group) (scoped group.scopes)) groups) ≡ span_count groups
  spans_counted [] = refl
  spans_counted (group ∷ groups) =
      length-append (map (told group) (scoped group.scopes)) (flat_map (λ group. map (told group) (scoped group.scopes)) groups)
      ∙ ap (λ n. n + length (flat_map (λ group. map (told group) (scoped group.scopes)) groups)) (length-map (scoped group.scopes) (told group) ∙ scopes_count group.scopes)
      ∙ ap (λ n. length (spans_in group.scopes) + n) (spans_counted groups)
      ∙ sym (length-append (spans_in group.scopes) (flat groups))
      ∙ sym (ap (λ (l : List Span). length l) (flat_map-append (λ (scope : Scope). scope.spans) group.scopes (flat_map (λ group. group.scopes) groups)))

-- ---- lists

all_flat : {A B : Type 0} (P : B → Type 0) (f : A → List B) (xs : List A) → All (λ x. All P (f x)) xs → All P (flat_map f xs)
all_flat P f [] all = All-nil P
all_flat P f (x ∷ xs) all = All-append P (f x) (flat_map f xs) (All-head (λ x. All P (f x)) x xs all) (all_flat P f xs (All-tail (λ x. All P (f x)) x xs all))

all_both : (spans : List ZSpan) → All IsProperZSpan spans → All IsTimelyZSpan spans → All IsWritableZSpan spans
all_both [] proper timely = All-nil IsWritableZSpan
all_both (span ∷ spans) proper timely = All-cons IsWritableZSpan span spans
    (record { proper = All-head IsProperZSpan span spans proper; timely = All-head IsTimelyZSpan span spans timely })
    (all_both spans (All-tail IsProperZSpan span spans proper) (All-tail IsTimelyZSpan span spans timely))

-- ---- what is read of a text

module _ (L : SpanFileLaws) where
  pub span_file_spans : (groups : List Group) → span_count (zipkin_normal groups) ≡ span_count groups
  span_file_spans groups =
      sym (spans_counted (λ group. run_of group.resource) (zipkin_normal groups))
      ∙ ap (λ (l : List RunSpan). length l) (L.regrouped.spans (flat_map normal_spans groups))
      ∙ spans_counted (λ group. normal_one group.resource) groups

  -- it has no fault, and is its own normal form
  pub span_file_faultless : (bytes : List ℕ) (noted : List NotedGroup) → ReadsSpans bytes noted → IsFaultless forms.ZipkinJson (groups_in noted)
  span_file_faultless bytes noted h =
      subst (All HasNoZipkinFault) (groups_read L bytes noted h) (L.itself.no_fault h.spans (timely_read L.writable bytes h.spans h.text) (proper_read L.writable bytes h.spans h.text))

  pub span_file_normal_read : (bytes : List ℕ) (noted : List NotedGroup) → ReadsSpans bytes noted → zipkin_normal (groups_in noted) ≡ groups_in noted
  span_file_normal_read bytes noted h =
      subst (λ (l : List Group). zipkin_normal l ≡ l) (groups_read L bytes noted h) (L.itself.itself h.spans (timely_read L.writable bytes h.spans h.text) (proper_read L.writable bytes h.spans h.text))

  -- ---- the normal form of a trace that Zipkin can hold

  module _ (groups : List Group) (held : IsHeldBy forms.ZipkinJson groups) where
    all_held : All IsHeldByZipkin groups
    all_held = held_groups groups held.can_hold

    normal_held : All IsHeldByZipkin (zipkin_normal groups)
    normal_held = L.normal.held groups all_held

    pub span_file_normal_held : IsHeldBy forms.ZipkinJson (zipkin_normal groups)
    span_file_normal_held = record {
      can_hold = record {
        sound = All-weaker IsHeldByZipkin IsSoundGroup (λ g h. h.sound) (zipkin_normal groups) normal_held;
        proper = All-weaker IsHeldByZipkin IsProperGroup (λ g h. h.proper) (zipkin_normal groups) normal_held;
        no_fault = All-weaker IsHeldByZipkin HasNoZipkinFault (λ g h. h.no_fault) (zipkin_normal groups) normal_held;
      };
      sized = All-weaker IsHeldByZipkin (IsSizedGroup forms.ZipkinJson) (λ g h. tt) (zipkin_normal groups) normal_held;
    }

    pub span_file_normal_again : zipkin_normal (zipkin_normal groups) ≡ zipkin_normal groups
    span_file_normal_again = L.normal.itself groups all_held

    -- ---- its text is read back

    own_text : AreSpansText (spans_of_groups (zipkin_normal groups)) (canonical_text forms.ZipkinJson groups)
    own_text = L.again.text (spans_of_groups (zipkin_normal groups)) (all_both (spans_of_groups (zipkin_normal groups))
        (all_flat IsProperZSpan spans_of_group (zipkin_normal groups) (All-weaker IsHeldByZipkin (λ g. All IsProperZSpan (spans_of_group g)) L.written.proper (zipkin_normal groups) normal_held))
        (all_flat IsTimelyZSpan spans_of_group (zipkin_normal groups) (All-weaker IsHeldByZipkin (λ g. All IsTimelyZSpan (spans_of_group g)) L.written.timely (zipkin_normal groups) normal_held)))

    pub span_file_back : ReadsSpans (canonical_text forms.ZipkinJson groups) (map plain_noted (normal_form forms.ZipkinJson groups))
    span_file_back = record {
      spans = spans_of_groups (zipkin_normal groups);
      text = own_text;
      means = sym (L.normal.read_back (zipkin_normal groups) normal_held ∙ ap (map plain_noted) span_file_normal_again);
    }
