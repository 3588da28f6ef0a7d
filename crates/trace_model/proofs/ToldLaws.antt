-- What OTLP's readers keep of the members of a list, with one member more.
use Rattle.std.proofs.Common.{◌≡◌, ℕ, ◌+◌, Bool, true, List, [], ◌∷◌, ◌++◌, length, map, Option, Some, None, refl, sym, ap, ◌∙◌, arith, append-nil}
use Rattle.std.specs.Prelude.{is_none}
use Rattle.std.specs.List.{list_any, sum_by}
use Rattle.std.proofs.lemmas.List.{map-append, length-map}
use Rattle.std.proofs.lemmas.List.Sums.{sum_by_push}
use Rattle.span_io.proofs.TableLaws.{flat_more}
use Rattle.trace_model.specs.GroupRemarks.{link_remarks, span_remarks, scope_remarks, scopes_remarks}
use Rattle.trace_model.specs.declared.noted.Noted.{Noted}
use Rattle.trace_model.specs.Notes.{SpanNotes, ScopeNotes}
use Rattle.trace_model.specs.declared.noted.KeyValue.{KeyValue}
use Rattle.trace_model.specs.declared.noted.InstrumentationScope.{InstrumentationScope}
use Rattle.trace_model.specs.OtlpParts.{NotedValue, entry, kept_link, kept_links, IsScopeOfParts}
use Rattle.trace_model.specs.private.OtlpTold.{AreToldValues, AreToldPairs, AreToldEvents, AreToldLinks, AreToldSpans, AreToldScopes}
use Rattle.trace_model.proofs.RemarkLaws.{numbered_push, spans_noted, scopes_push}
use Rattle.trace_model.specs.Remarks.{Keys, equal_keys, numbered}
use Rattle.trace_model.specs.declared.place.Place.TheVariants as places
use Rattle.trace_model.specs.declared.remark.Remark.{Remark}
use Rattle.trace_model.specs.declared.span.Event.{Event}
use Rattle.trace_model.specs.declared.span.Link.{Link}
use Rattle.trace_model.specs.declared.span.Span.{Span}
use Rattle.trace_model.specs.declared.group.Scope.{Scope}
use Rattle.trace_model.specs.declared.value.Value.{Value}

-- ---- values and pairs

pub value_added : (found : List NotedValue) (old new : List Value) (noted more : Keys) (v : NotedValue) → new ≡ old ++ v.means ∷ [] → more ≡ noted ++ v.notes → AreToldValues found old noted → AreToldValues (found ++ v ∷ []) new more
value_added found old new noted more v means notes h = record {
  values = means ∙ ap (λ l. l ++ v.means ∷ []) h.values ∙ sym (map-append (λ (m : NotedValue). m.means) found (v ∷ []));
  noted = notes ∙ ap (λ l. l ++ v.notes) h.noted ∙ sym (flat_more (λ (m : NotedValue). m.notes) found v);
}

pub pair_added : (found : List KeyValue) (old new : List (List ℕ × Value)) (noted more : Keys) (p : KeyValue) → new ≡ old ++ entry p ∷ [] → more ≡ noted ++ p.value.notes → AreToldPairs found old noted → AreToldPairs (found ++ p ∷ []) new more
pair_added found old new noted more p means notes h = record {
  entries = means ∙ ap (λ l. l ++ entry p ∷ []) h.entries ∙ sym (map-append entry found (p ∷ []));
  noted = notes ∙ ap (λ l. l ++ p.value.notes) h.noted ∙ sym (flat_more (λ (m : KeyValue). m.value.notes) found p);
}

-- ---- events and links

-- the member that comes next has that number
numbered_next : {A : Type 0} (remarks : ℕ → Keys → List Remark) (members : List (Noted A Keys)) (list : List A) (x : Noted A Keys) (number : ℕ) (old new : List Remark)
    → list ≡ map (λ m. m.means) members → number ≡ 1 + length list → old ≡ numbered remarks 1 (map (λ m. m.notes) members) → new ≡ old ++ remarks number x.notes
    → new ≡ numbered remarks 1 (map (λ m. m.notes) (members ++ x ∷ []))
numbered_next {A} remarks members list x number old new is next so_far adds =
    let place : number ≡ 1 + length (map (λ (m : Noted A Keys). m.notes) members) =
    omega (arith, next, ap length is, length-map members (λ (m : Noted A Keys). m.means), length-map members (λ (m : Noted A Keys). m.notes)) in
    adds ∙ ap (λ l. l ++ remarks number x.notes) so_far ∙ ap (λ k. numbered remarks 1 (map (λ m. m.notes) members) ++ remarks k x.notes) place
    ∙ sym (numbered_push remarks 1 (map (λ m. m.notes) members) x.notes) ∙ ap (λ l. numbered remarks 1 l) (sym (map-append (λ (m : Noted A Keys). m.notes) members (x ∷ [])))

module _ (span : ℕ) where
  pub event_added : (found : List (Noted Event Keys)) (old new : List Event) (remarks more : List Remark) (e : Noted Event Keys) (number : ℕ) → number ≡ 1 + length old → new ≡ old ++ e.means ∷ []
      → more ≡ remarks ++ equal_keys (places.Event span number) e.notes → AreToldEvents span found old remarks → AreToldEvents span (found ++ e ∷ []) new more
  event_added found old new remarks more e number next means adds h = record {
    events = means ∙ ap (λ l. l ++ e.means ∷ []) h.events ∙ sym (map-append (λ (m : Noted Event Keys). m.means) found (e ∷ []));
    remarked = numbered_next (λ n keys. equal_keys (places.Event span n) keys) found old e number remarks more h.events next h.remarked adds;
  }

  -- one more link is dropped
  pub link_left_out : (found : List (Option (Noted Link Keys))) (old new : List Link) (before dropped : Bool) (remarks more : List Remark) → new ≡ old → dropped ≡ true → more ≡ remarks
      → AreToldLinks span found old before remarks → AreToldLinks span (found ++ None ∷ []) new dropped more
  link_left_out found old new before dropped remarks more same_links is_dropped same_remarks h =
      let same : kept_links (found ++ None ∷ []) ≡ kept_links found = flat_more kept_link found None ∙ append-nil (kept_links found) in
      record {
        links = same_links ∙ h.links ∙ ap (λ l. map (λ m. m.means) l) (sym same);
        any_dropped = is_dropped ∙ sym (dropped_last found);
        remarked = same_remarks ∙ h.remarked ∙ ap (λ l. link_remarks span (map (λ m. m.notes) l)) (sym same);
      }
    where
      dropped_last : (members : List (Option (Noted Link Keys))) → list_any (λ l. is_none l) (members ++ None ∷ []) ≡ true
      dropped_last [] = refl
      dropped_last (None ∷ others) = refl
      dropped_last (Some link ∷ others) = dropped_last others

  -- one more link is kept
  pub link_added : (found : List (Option (Noted Link Keys))) (old new : List Link) (before dropped : Bool) (remarks more : List Remark) (link : Noted Link Keys) (number : ℕ) → number ≡ 1 + length old → new ≡ old ++ link.means ∷ []
      → dropped ≡ before → more ≡ remarks ++ equal_keys (places.Link span number) link.notes → AreToldLinks span found old before remarks → AreToldLinks span (found ++ Some link ∷ []) new dropped more
  link_added found old new before dropped remarks more link number next means same_dropped adds h =
      let kept : kept_links (found ++ Some link ∷ []) ≡ kept_links found ++ link ∷ [] = flat_more kept_link found (Some link) in
      record {
        links = means ∙ ap (λ l. l ++ link.means ∷ []) h.links ∙ sym (map-append (λ (m : Noted Link Keys). m.means) (kept_links found) (link ∷ [])) ∙ ap (λ l. map (λ m. m.means) l) (sym kept);
        any_dropped = same_dropped ∙ h.any_dropped ∙ sym (dropped_same found);
        remarked = numbered_next (λ n keys. equal_keys (places.Link span n) keys) (kept_links found) old link number remarks more h.links next h.remarked adds
            ∙ ap (λ l. link_remarks span (map (λ m. m.notes) l)) (sym kept);
      }
    where
      dropped_same : (members : List (Option (Noted Link Keys))) → list_any (λ l. is_none l) (members ++ Some link ∷ []) ≡ list_any (λ l. is_none l) members
      dropped_same [] = refl
      dropped_same (None ∷ others) = refl
      dropped_same (Some other ∷ others) = dropped_same others

-- ---- spans and scopes

-- one more span, which has the number that comes next
pub span_added : (first : ℕ) (found : List (Noted Span SpanNotes)) (old new : List Span) (remarks more own : List Remark) (s : Noted Span SpanNotes) (number : ℕ) → number ≡ first + length old → new ≡ old ++ s.means ∷ []
    → more ≡ remarks ++ own → own ≡ span_remarks number s.notes → AreToldSpans first found old remarks → AreToldSpans first (found ++ s ∷ []) new more
span_added first found old new remarks more own s number next means adds its_remarks h = record {
  spans = means ∙ ap (λ l. l ++ s.means ∷ []) h.spans ∙ sym (map-append (λ (x : Noted Span SpanNotes). x.means) found (s ∷ []));
  remarked = adds ∙ ap (λ l. l ++ own) h.remarked ∙ ap (λ l. numbered span_remarks first notes ++ l) (its_remarks ∙ ap (λ (k : ℕ). span_remarks k s.notes) number_of)
      ∙ sym (numbered_push span_remarks first notes s.notes) ∙ ap (λ l. numbered span_remarks first l) (sym (map-append (λ (x : Noted Span SpanNotes). x.notes) found (s ∷ [])));
}
  where
    notes : List SpanNotes
    notes = map (λ x. x.notes) found

    number_of : number ≡ first + length notes
    number_of =
        let count : length old ≡ length found = ap length h.spans ∙ length-map found (λ (x : Noted Span SpanNotes). x.means) in
        let same : length notes ≡ length found = length-map found (λ (x : Noted Span SpanNotes). x.notes) in
        omega (arith, next, count, same)

-- something is noted of each span
pub spans_all_noted : (instrumentation : Noted InstrumentationScope Keys) (spans : List (Noted Span SpanNotes)) (url : List ℕ) (s : Noted Scope ScopeNotes) → IsScopeOfParts instrumentation spans url s
    → length s.means.spans ≡ length s.notes.spans
spans_all_noted instrumentation spans url s is =
    ap (λ (m : Scope). length m.spans) is.scope ∙ length-map spans (λ (x : Noted Span SpanNotes). x.means)
    ∙ sym (ap (λ (n : ScopeNotes). length n.spans) is.noted ∙ length-map spans (λ (x : Noted Span SpanNotes). x.notes))

-- one more scope, which has the number that comes next
pub scope_added : (found : List (Noted Scope ScopeNotes)) (old new : List Scope) (remarks more own : List Remark) (next after : ℕ) (s : Noted Scope ScopeNotes) (number : ℕ) → number ≡ 1 + length old → new ≡ old ++ s.means ∷ []
    → more ≡ remarks ++ own → own ≡ scope_remarks number next s.notes → after ≡ next + length s.means.spans → length s.means.spans ≡ length s.notes.spans
    → AreToldScopes found old remarks next → AreToldScopes (found ++ s ∷ []) new more after
scope_added found old new remarks more own next after s number its_number means adds its_remarks goes_on each_noted h = record {
  scopes = means ∙ ap (λ l. l ++ s.means ∷ []) h.scopes ∙ sym (map-append (λ (x : Noted Scope ScopeNotes). x.means) found (s ∷ []));
  remarked = adds ∙ ap (λ l. l ++ own) h.remarked
      ∙ ap (λ l. scopes_remarks 1 1 notes ++ l) (its_remarks ∙ ap (λ (k : ℕ). scope_remarks k next s.notes) number_of ∙ ap (λ (k : ℕ). scope_remarks (1 + length notes) k s.notes) h.next_span)
      ∙ sym (scopes_push 1 1 notes s.notes) ∙ ap (λ l. scopes_remarks 1 1 l) (sym all_notes);
  next_span =
      let counted : sum_by spans_noted (map (λ x. x.notes) (found ++ s ∷ [])) ≡ sum_by spans_noted notes + length s.notes.spans = ap (λ l. sum_by spans_noted l) all_notes ∙ sum_by_push spans_noted notes s.notes in
      omega (arith, goes_on, h.next_span, each_noted, counted);
}
  where
    notes : List ScopeNotes
    notes = map (λ x. x.notes) found

    all_notes : map (λ x. x.notes) (found ++ s ∷ []) ≡ notes ++ s.notes ∷ []
    all_notes = map-append (λ (x : Noted Scope ScopeNotes). x.notes) found (s ∷ [])

    number_of : number ≡ 1 + length notes
    number_of =
        let count : length old ≡ length found = ap length h.scopes ∙ length-map found (λ (x : Noted Scope ScopeNotes). x.means) in
        let same : length notes ≡ length found = length-map found (λ (x : Noted Scope ScopeNotes). x.notes) in
        omega (arith, its_number, count, same)
