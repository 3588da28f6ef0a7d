-- Laws of the tables by which faults are found, and of groups without a fault.
use Rattle.std.proofs.Common.{◌≡◌, ◌↔◌, ℕ, zero, suc, ◌+◌, Bool, false, List, [], ◌∷◌, map, get_or, All, Option, Some, None, refl, sym, ap, ◌∙◌, subst, true≢false}
use Rattle.std.specs.Prelude.{◌⊎◌, ◌||◌, Any}
use Rattle.std.specs.Bool.{Decides}
use Rattle.std.specs.List.{list_any}
use Rattle.std.proofs.lemmas.Bool.Decides.{Decides-or}
use Rattle.std.proofs.lemmas.List.{get_or_default}
use Rattle.std.proofs.lemmas.List.Elements.{All-nil, All-head, All-tail, All-map, All-weaker}
use Rattle.std.proofs.lemmas.List.Folds.{list_any-append, list_any_none}
use Rattle.trace_model.specs.LeastOf.{IsLeastOf}
use Rattle.trace_model.specs.Soundness.{IsSoundEvent, IsSoundLink, IsSoundSpan, IsSoundScope, IsSoundGroup}
use Rattle.trace_model.specs.Values.{IsSound}
use Rattle.trace_model.specs.declared.fault.Fault.{Fault}
use Rattle.trace_model.specs.declared.fault.Fault.TheVariants.{EndBeforeStart, OwnKey, EventText, ChildOfLink, DoubleInText}
use Rattle.trace_model.specs.declared.span.Event.{Event}
use Rattle.trace_model.specs.declared.span.Span.{Span}
use Rattle.trace_model.specs.declared.group.Group.{Group}
use Rattle.trace_model.specs.declared.group.Scope.{Scope}
use Rattle.trace_model.specs.declared.value.Value.{Value}
use Rattle.span_tags.specs.FaultTables.{FaultTable, doubles_in, doubles_in_span}
use Rattle.span_tags.specs.FoundFaults.{FindsFaults, FindsRows, plain_span}
use Rattle.span_tags.specs.PlacedFaults.{KeyAtMost, CountsBy, in_resource, in_span}
use Rattle.span_tags.specs.Runs.{Scoped, under, spans_of, scoped}
use Rattle.span_tags.specs.TagWords.{Pairs}
use Rattle.span_tags.proofs.AttributeLaws.{attrs_rise}
use Rattle.span_tags.proofs.LeastRows.{any_decides}
use Rattle.span_tags.proofs.RunLaws.{scoped_all}

-- ---- doubles

module _ (table : FaultTable) (IsDouble : Value → Type 0) (each : (value : Value) → Decides (table.has_double value) (IsDouble value)) where
  pub doubles_decide : (attributes : Pairs) → Decides (doubles_in table attributes) (Any (λ attribute. IsDouble attribute.1) attributes)
  doubles_decide = any_decides (λ pair. table.has_double pair.1) (λ attribute. IsDouble attribute.1) (λ pair. each pair.1)

  pub span_doubles : (span : Span) → Decides (doubles_in_span table span)
      (Any (λ attribute. IsDouble attribute.1) span.attributes ⊎ Any (λ event. Any (λ attribute. IsDouble attribute.1) event.attributes) span.events)
  span_doubles span = Decides-or (doubles_in table span.attributes) (list_any (λ event. doubles_in table event.attributes) span.events)
      (doubles_decide span.attributes)
      (any_decides (λ (event : Event). doubles_in table event.attributes) (λ event. Any (λ attribute. IsDouble attribute.1) event.attributes)
      (λ event. doubles_decide event.attributes) span.events)

-- ---- a plain span

module _ (table : FaultTable) (IsResourceFault : Pairs → Fault → Type 0) (IsSpanFault : Span → Fault → Type 0)
    (lawful : FindsFaults table IsResourceFault IsSpanFault) where
  plain : FindsRows table plain_span (IsSpanFault plain_span)
  plain = lawful.span plain_span (record {
    attributes = record { rising = attrs_rise {V = Value} []; values = All-nil (λ pair. IsSound pair.1) };
    events = All-nil IsSoundEvent;
    links = All-nil IsSoundLink;
  })

  pub none_plain : (fault : Fault) → IsSpanFault plain_span fault → ⊥
  none_plain EndBeforeStart h = true≢false (sym (plain.end.1 h))
  none_plain (OwnKey key) h = subst (IsLeastOf KeyAtMost (λ k. IsSpanFault plain_span (OwnKey k))) lawful.no_own plain.own key h
  none_plain EventText h = true≢false (sym (plain.event.1 h) ∙ lawful.no_event)
  none_plain ChildOfLink h = true≢false (sym (plain.link.1 h) ∙ lawful.no_link)
  none_plain DoubleInText h = true≢false (sym (plain.double.1 h))

-- ---- the spans of a sound group

sound_in_scope : (scope : Scope) → IsSoundScope scope → All (λ one. IsSoundSpan one.span) (spans_of scope)
sound_in_scope scope sound = All-map (λ one. IsSoundSpan one.span) (under scope.name scope.version) scope.spans sound.spans

pub sound_spans : (group : Group) → IsSoundGroup group → All (λ one. IsSoundSpan one.span) (scoped group.scopes)
sound_spans group sound = scoped_all (λ one. IsSoundSpan one.span) group.scopes
    (All-weaker IsSoundScope (λ scope. All (λ one. IsSoundSpan one.span) (spans_of scope)) sound_in_scope group.scopes sound.scopes)

-- ---- a group without a fault, by its resource and spans

all_or : {X : Type 0} (P : X → Type 0) (xs : List X) (n : ℕ) (d : X) → All P xs → P d → P (get_or xs n d)
all_or P [] n d all here = here
all_or P (x ∷ xs) zero d all here = All-head P x xs all
all_or P (x ∷ xs) (suc n) d all here = all_or P xs n d (All-tail P x xs all) here

module _ (IsResourceFault : Pairs → Fault → Type 0) (IsSpanFault : Span → Fault → Type 0) where
  abbrev PlainSpan : Scoped Span → Type 0
  PlainSpan one = (fault : Fault) → IsSpanFault one.span fault → ⊥

  pub plain_resource : (group : Group) → CountsBy IsResourceFault IsSpanFault group None → (fault : Fault) → IsResourceFault group.resource fault → ⊥
  plain_resource group none fault is = none (record { place = 0; fault = fault }) (in_resource refl is)

  pub plain_spans : (group : Group) → CountsBy IsResourceFault IsSpanFault group None → All PlainSpan (scoped group.scopes)
  plain_spans group none k d lt fault is = none (record { place = k + 1; fault = fault })
      (in_span k refl (λ e. subst (λ (one : Scoped Span). IsSpanFault one.span fault) (get_or_default (scoped group.scopes) k d e lt) is))

  -- and the other way
  pub none_counts : ((fault : Fault) → IsSpanFault plain_span fault → ⊥) → (group : Group)
      → ((fault : Fault) → IsResourceFault group.resource fault → ⊥) → All PlainSpan (scoped group.scopes) → CountsBy IsResourceFault IsSpanFault group None
  none_counts nothing group resource spans found (in_resource first is) = resource found.fault is
  none_counts nothing group resource spans found (in_span n place holds) =
      let blank = under [] [] plain_span in all_or PlainSpan (scoped group.scopes) n blank spans nothing found.fault (holds blank)

  -- none is found exactly where none counts
  pub none_exactly : (group : Group) (found : Option Fault) → CountsBy IsResourceFault IsSpanFault group found
      → (found ≡ None) ↔ CountsBy IsResourceFault IsSpanFault group None
  none_exactly group None is = (λ e. is, λ none. refl)
  none_exactly group (Some fault) is = (λ e. absurd (cc), λ none. absurd (none _ is.1.0))

-- ---- where none of all spans passes a test, none of those of each scope does

module _ (test : Span → Bool) where
  any_under : (name version : List ℕ) (spans : List Span) → list_any test spans ≡ list_any (λ one. test one.span) (map (under name version) spans)
  any_under name version [] = refl
  any_under name version (span ∷ spans) = ap (λ b. test span || b) (any_under name version spans)

  any_scoped : (scopes : List Scope) → list_any (λ scope. list_any test scope.spans) scopes ≡ list_any (λ one. test one.span) (scoped scopes)
  any_scoped [] = refl
  any_scoped (scope ∷ scopes) = (λ i. any_under scope.name scope.version scope.spans i || any_scoped scopes i)
      ∙ sym (list_any-append (λ one. test one.span) (spans_of scope) (scoped scopes))

  pub none_scoped : (scopes : List Scope) → All (λ one. test one.span ≡ false) (scoped scopes) → list_any (λ scope. list_any test scope.spans) scopes ≡ false
  none_scoped scopes all = any_scoped scopes ∙ list_any_none (λ one. test one.span) (scoped scopes) all
