-- What is found first in a group is the fault that counts, where the target's table finds the rows of each span.
use Rattle.std.proofs.Common.{◌≡◌, ℕ, ◌<◌, ◌≤◌, ◌+◌, Bool, List, [], ◌∷◌, ◌++◌, map, Option, Some, None, All, option_map, refl, sym, ap, ◌∙◌, subst, ⊎_elim, inl, inr, zero, suc, arith}
use Rattle.std.specs.Prelude.{◌⊎◌, HoldsAt}
use Rattle.std.specs.Bool.{Decides}
use Rattle.std.specs.Option.{option_or}
use Rattle.std.proofs.lemmas.List.Elements.{All-head, All-tail}
use Rattle.trace_model.specs.Faults.{fault_number}
use Rattle.trace_model.specs.LeastOf.{IsLeastOf}
use Rattle.trace_model.specs.Soundness.{IsSoundSpan, IsSoundScope, IsSoundGroup}
use Rattle.trace_model.specs.declared.fault.Fault.{Fault}
use Rattle.trace_model.specs.declared.fault.Fault.TheVariants.{EndBeforeStart, OwnKey, EventText, ChildOfLink, DoubleInText}
use Rattle.trace_model.specs.declared.span.Span.{Span}
use Rattle.trace_model.specs.declared.group.Group.{Group}
use Rattle.trace_model.specs.declared.group.Scope.{Scope}
use Rattle.span_tags.specs.FaultTables.{FaultTable, if_so, doubles_in_span, doubles_in_resource, fault_of_span, fault_of_spans, fault_of_scopes, found_fault}
use Rattle.span_tags.specs.PlacedFaults.{Placed, key_in, KeyAtMost, FaultAtMost, Counts, IsFaultBy, in_resource, CountsBy}
use Rattle.span_tags.specs.PlacedFaults as faults
use Rattle.span_tags.specs.TagWords.{Pairs}
use Rattle.span_tags.proofs.AttributeLaws.{option_or-assoc}
use Rattle.span_tags.specs.FoundFaults.{FindsRows, plain_span, FindsFaults}
use Rattle.span_tags.proofs.FaultLaws.{none_plain}
use Rattle.span_tags.proofs.LeastRows.{least_same, least_if, not_above_itself}
use Rattle.span_tags.specs.Runs.{Scoped, under, scoped}

-- ---- the least of two kinds

module _ {X : Type 0} (AtMost : X → X → Type 0) (First Second : X → Type 0) where
  least_or : (one other : Option X) → IsLeastOf AtMost First one → IsLeastOf AtMost Second other → ((x y : X) → First x → Second y → AtMost x y)
      → IsLeastOf AtMost (λ x. First x ⊎ Second x) (option_or one other)
  least_or None None one other before = λ x h. ⊎_elim (one x) (other x) h
  least_or None (Some y) one other before = (inr other.0, λ x h. ⊎_elim (λ (f : First x). absurd (one x f)) (other.1 x) h)
  least_or (Some x) other one rest before = (inl one.0, λ y h. ⊎_elim (one.1 y) (λ (s : Second y). before x y one.0 s) h)

fault_itself : (f : Fault) → FaultAtMost f f
fault_itself f = inr (refl, not_above_itself (key_in f))

-- faults of one number, by the least of their keys
least_named : (named : List ℕ → Fault) (n : ℕ) → ((k : List ℕ) → fault_number (named k) ≡ n) → ((k : List ℕ) → key_in (named k) ≡ k)
    → (P : List ℕ → Type 0) (found : Option (List ℕ)) → IsLeastOf KeyAtMost P found
    → IsLeastOf FaultAtMost (λ f. (k : List ℕ) × (f ≡ named k) × P k) (option_map named found)
least_named named n numbered keyed P None none = λ f h. none h.0 h.2
least_named named n numbered keyed P (Some k) least = (
  (k, refl, least.0),
  λ f h. inr (
    numbered k ∙ sym (numbered h.0) ∙ ap fault_number (sym h.1),
    subst (λ (z : List ℕ). KeyAtMost z (key_in f)) (sym (keyed k))
        (subst (λ (z : List ℕ). KeyAtMost k z) (sym (keyed h.0) ∙ ap key_in (sym h.1)) (least.1 h.0 h.2)),
  ),
)

-- ---- the rows of a span

if_told : (fault : Fault) (P : Type 0) (so : Bool) → Decides so P → IsLeastOf FaultAtMost (λ f. (f ≡ fault) × P) (if_so so fault)
if_told = least_if FaultAtMost fault_itself

-- the least of what is told, of which the numbers begin with this one
record Leads (n : ℕ) (Told : Fault → Type 0) (found : Option Fault) : Type 0 where
  least : IsLeastOf FaultAtMost Told found
  begins : (f : Fault) → Told f → n ≤ fault_number f

-- one more row in front
in_front : (n m : ℕ) → n < m → (Row Rest : Fault → Type 0) (one found : Option Fault) → IsLeastOf FaultAtMost Row one
    → ((f : Fault) → Row f → fault_number f ≡ n) → Leads m Rest found → Leads n (λ f. Row f ⊎ Rest f) (option_or one found)
in_front n m before Row Rest one found least number rest = record {
  least = least_or FaultAtMost Row Rest one found least rest.least
      (λ x y row other. let here = number x row in let behind = rest.begins y other in inl (omega (arith, before, here, behind)));
  begins = λ f h. ⊎_elim (λ (row : Row f). let here = number f row in omega (arith, here))
      (λ (other : Rest f). let behind = rest.begins f other in omega (arith, before, behind)) h;
}

module _ (table : FaultTable) (span : Span) (P : Fault → Type 0) (rows : FindsRows table span P) where
  abbrev Is : Fault → Fault → Type 0
  Is fault f = (f ≡ fault) × P fault

  abbrev IsNamed : (List ℕ → Fault) → Fault → Type 0
  IsNamed named f = (key : List ℕ) × (f ≡ named key) × P (named key)

  double : Leads 25 (Is DoubleInText) (if_so (doubles_in_span table span) DoubleInText)
  double = record {
    least = if_told DoubleInText (P DoubleInText) _ rows.double;
    begins = λ f h. let number = ap fault_number h.0 in omega (arith, number);
  }

  abbrev FromLink : Fault → Type 0
  FromLink f = Is ChildOfLink f ⊎ Is DoubleInText f

  abbrev FromEvent : Fault → Type 0
  FromEvent f = Is EventText f ⊎ FromLink f

  abbrev FromOwn : Fault → Type 0
  FromOwn f = IsNamed OwnKey f ⊎ FromEvent f

  abbrev Rows : Fault → Type 0
  Rows f = Is EndBeforeStart f ⊎ FromOwn f

  all_rows : Leads 20 Rows (fault_of_span table span)
  all_rows =
      in_front 20 22 (omega arith) (Is EndBeforeStart) FromOwn _ _ (if_told EndBeforeStart (P EndBeforeStart) _ rows.end) (λ f h. ap fault_number h.0)
      (in_front 22 23 (omega arith) (IsNamed OwnKey) FromEvent _ _ (least_named OwnKey 22 (λ k. refl) (λ k. refl) (λ k. P (OwnKey k)) _ rows.own) (λ f h. ap fault_number h.1)
      (in_front 23 24 (omega arith) (Is EventText) FromLink _ _ (if_told EventText (P EventText) _ rows.event) (λ f h. ap fault_number h.0)
      (in_front 24 25 (omega arith) (Is ChildOfLink) (Is DoubleInText) _ _ (if_told ChildOfLink (P ChildOfLink) _ rows.link) (λ f h. ap fault_number h.0) double)))

  to_fault : (f : Fault) → Rows f → P f
  to_fault f (inl h) = subst P (sym h.0) h.1
  to_fault f (inr (inl h)) = subst P (sym h.1) h.2
  to_fault f (inr (inr (inl h))) = subst P (sym h.0) h.1
  to_fault f (inr (inr (inr (inl h)))) = subst P (sym h.0) h.1
  to_fault f (inr (inr (inr (inr h)))) = subst P (sym h.0) h.1

  from_fault : (f : Fault) → P f → Rows f
  from_fault EndBeforeStart h = inl (refl, h)
  from_fault (OwnKey key) h = inr (inl (key, refl, h))
  from_fault EventText h = inr (inr (inl (refl, h)))
  from_fault ChildOfLink h = inr (inr (inr (inl (refl, h))))
  from_fault DoubleInText h = inr (inr (inr (inr (refl, h))))

  span_least : IsLeastOf FaultAtMost P (fault_of_span table span)
  span_least = least_same FaultAtMost Rows P to_fault from_fault (fault_of_span table span) all_rows.least

-- ---- faults at a place

abbrev At : ℕ → (Fault → Type 0) → Placed → Type 0
At place P found = (found.place ≡ place) × P found.fault

counts_at : (place : ℕ) (P : Fault → Type 0) (found : Option Fault) → IsLeastOf FaultAtMost P found → Counts (At place P) found
counts_at place P None none = λ x h. none x.fault h.1
counts_at place P (Some f) least = (place, ((refl, least.0), λ x h. inr (sym h.0, least.1 x.fault h.1)))

module _ (First Second : Placed → Type 0) where
  counts_or : (one other : Option Fault) → Counts First one → Counts Second other → ((x y : Placed) → First x → Second y → x.place < y.place)
      → Counts (λ x. First x ⊎ Second x) (option_or one other)
  counts_or None None one other before = λ x h. ⊎_elim (one x) (other x) h
  counts_or None (Some f) one other before = (other.0, (inr other.1.0, λ x h. ⊎_elim (λ (a : First x). absurd (one x a)) (other.1.1 x) h))
  counts_or (Some f) other one rest before =
      (one.0, (inl one.1.0, λ x h. ⊎_elim (one.1.1 x) (λ (b : Second x). inl (before (record { place = one.0; fault = f }) x one.1.0 b)) h))

  counts_same : ((x : Placed) → First x → Second x) → ((x : Placed) → Second x → First x) → (found : Option Fault) → Counts First found → Counts Second found
  counts_same to from None none = λ x h. none x (from x h)
  counts_same to from (Some f) is = (is.0, (to (record { place = is.0; fault = f }) is.1.0, λ x h. is.1.1 x (from x h)))

module _ (table : FaultTable) (IsResourceFault : Pairs → Fault → Type 0) (IsSpanFault : Span → Fault → Type 0)
    (lawful : FindsFaults table IsResourceFault IsSpanFault) where
  -- ---- the spans behind a place

  abbrev Behind : ℕ → List (Scoped Span) → Placed → Type 0
  Behind place spans found = (n : ℕ) × (found.place ≡ n + place) × HoldsAt (λ one. IsSpanFault one.span found.fault) spans n

  abbrev Here : ℕ → Scoped Span → List (Scoped Span) → Placed → Type 0
  Here place one spans x = At place (IsSpanFault one.span) x ⊎ Behind (place + 1) spans x

  to_behind : (place : ℕ) (one : Scoped Span) (spans : List (Scoped Span)) (x : Placed) → Here place one spans x → Behind place (one ∷ spans) x
  to_behind place one spans x (inl a) = (0, omega (arith, a.0), λ d. a.1)
  to_behind place one spans x (inr b) = (suc b.0, omega (arith, b.1), b.2)

  from_behind : (place : ℕ) (one : Scoped Span) (spans : List (Scoped Span)) (x : Placed) → Behind place (one ∷ spans) x → Here place one spans x
  from_behind place one spans x (zero, e, h) = inl (omega (arith, e), h one)
  from_behind place one spans x (suc n, e, h) = inr (n, omega (arith, e), h)

  one_more : (place : ℕ) (one : Scoped Span) (spans : List (Scoped Span)) (found : Option Fault) → IsSoundSpan one.span
      → Counts (Behind (place + 1) spans) found → Counts (Behind place (one ∷ spans)) (option_or (fault_of_span table one.span) found)
  one_more place one spans found sound rest = counts_same (Here place one spans) (Behind place (one ∷ spans))
      (to_behind place one spans) (from_behind place one spans) _
      (counts_or (At place (IsSpanFault one.span)) (Behind (place + 1) spans) _ _
      (counts_at place (IsSpanFault one.span) _ (span_least table one.span (IsSpanFault one.span) (lawful.span one.span sound)))
      rest
      (λ x y a b. omega (arith, a.0, b.1)))

  in_scope : (name version : List ℕ) (spans : List Span) (rest : List (Scoped Span)) (found : Option Fault) → All IsSoundSpan spans
      → ((n : ℕ) → Counts (Behind n rest) found)
      → (place : ℕ) → Counts (Behind place (map (under name version) spans ++ rest)) (option_or (fault_of_spans table spans) found)
  in_scope name version [] rest found sound is place = is place
  in_scope name version (span ∷ spans) rest found sound is place =
      subst (Counts (Behind place (under name version span ∷ map (under name version) spans ++ rest)))
      (sym (option_or-assoc (fault_of_span table span) (fault_of_spans table spans) found))
      (one_more place (under name version span) (map (under name version) spans ++ rest) _ (All-head IsSoundSpan span spans sound)
      (in_scope name version spans rest found (All-tail IsSoundSpan span spans sound) is (place + 1)))

  in_scopes : (scopes : List Scope) → All IsSoundScope scopes → (place : ℕ) → Counts (Behind place (scoped scopes)) (fault_of_scopes table scopes)
  in_scopes [] sound place = λ x h. none_plain table IsResourceFault IsSpanFault lawful x.fault (h.2 (under [] [] plain_span))
  in_scopes (scope ∷ scopes) sound place = in_scope scope.name scope.version scope.spans (scoped scopes) (fault_of_scopes table scopes)
      (All-head IsSoundScope scope scopes sound).spans
      (in_scopes scopes (All-tail IsSoundScope scope scopes sound)) place

  -- ---- the group

  abbrev Told : Group → Placed → Type 0
  Told group x = At 0 (IsResourceFault group.resource) x ⊎ Behind 1 (scoped group.scopes) x

  to_group : (group : Group) (x : Placed) → Told group x → IsFaultBy IsResourceFault IsSpanFault group x
  to_group group x (inl a) = in_resource a.0 a.1
  to_group group x (inr b) = faults.in_span b.0 b.1 b.2

  from_group : (group : Group) (x : Placed) → IsFaultBy IsResourceFault IsSpanFault group x → Told group x
  from_group group x (in_resource e h) = inl (e, h)
  from_group group x (faults.in_span n e h) = inr (n, e, h)

  resource_least : (resource : Pairs) → IsLeastOf FaultAtMost (IsResourceFault resource) (if_so (doubles_in_resource table resource) DoubleInText)
  resource_least resource = least_same FaultAtMost (λ f. (f ≡ DoubleInText) × IsResourceFault resource DoubleInText) (IsResourceFault resource)
      (λ f h. subst (IsResourceFault resource) (sym h.0) h.1)
      (λ f h. let is = lawful.only_doubles resource f h in (is, subst (IsResourceFault resource) is h)) _
      (if_told DoubleInText (IsResourceFault resource DoubleInText) (doubles_in_resource table resource) (lawful.resource resource))

  pub found_counts : (group : Group) → IsSoundGroup group → CountsBy IsResourceFault IsSpanFault group (found_fault table group)
  found_counts group sound = counts_same (Told group) (IsFaultBy IsResourceFault IsSpanFault group) (to_group group) (from_group group) _
      (counts_or (At 0 (IsResourceFault group.resource)) (Behind 1 (scoped group.scopes)) _ _
      (counts_at 0 (IsResourceFault group.resource) _ (resource_least group.resource))
      (in_scopes group.scopes sound.scopes 1)
      (λ x y a b. omega (arith, a.0, b.1)))
