-- What is read of a value with fewer than 4,294,967,296 values has numbers of 32 bits.
use Rattle.std.proofs.Common.{◌≡◌, ℕ, ◌+◌, ◌<◌, ◌≤◌, ◌^◌, List, [], ◌∷◌, ◌++◌, length, codes, ap, arith}
use Rattle.std.proofs.lemmas.List.{length-map}
use Rattle.serde_json.specs.Data.{Data, array}
use Rattle.serde_json.specs.View.{items_of}
use Rattle.trace_model.specs.declared.noted.Noted.{Noted}
use Rattle.trace_model.specs.Notes.{SpanNotes, ScopeNotes}
use Rattle.trace_model.proofs.ToldLaws.{spans_all_noted}
use Rattle.trace_model.specs.declared.remark.Remark.{Remark}
use Rattle.trace_model.specs.declared.span.Span.{Span}
use Rattle.trace_model.specs.declared.group.Scope.{Scope}
use Rattle.json_members.specs.Counted.{values_in, values_in_items, IsCountedValue}
use Rattle.json_members.proofs.CountedLaws.{one_value, given_within, in_both, next_within}
use Rattle.otlp_json.specs.private.Found.{IsScopeFound}
use Rattle.otlp_json.specs.Group.{IsJsonScope}
use Rattle.otlp_json.specs.Span.{IsJsonSpan}

-- ---- elements, as a loop goes through them

elements_fewer : (ds : List Data) → length ds ≤ values_in_items (items_of ds)
elements_fewer [] = omega arith
elements_fewer (d ∷ ds) = omega (arith, one_value d, elements_fewer ds)

module _ (all seen rest : List Data) (d : Data) (split : all ≡ seen ++ d ∷ rest) where
  pub unit_within : (unit : ℕ) → unit ≡ length seen → IsCountedValue (array (items_of all)) → unit < 2 ^ 32
  unit_within unit is counted = omega (arith, is, counted, next_within all seen rest d split, elements_fewer seen)

  -- the number that comes next
  module _ (first next : ℕ) (so_far : next ≤ first + values_in_items (items_of seen)) where
    pub number_fits : first + values_in_items (items_of all) < 2 ^ 32 → next + values_in d < 2 ^ 32
    number_fits counted = omega (arith, counted, next_within all seen rest d split)

    pub number_on : (later : ℕ) → later ≤ next + values_in d → later ≤ first + values_in_items (items_of (seen ++ d ∷ []))
    number_on later more = let sums = in_both seen (d ∷ []) in omega (arith, more, sums)

-- ---- the spans of scopes

fewer_spans : (s : Noted Scope ScopeNotes) (d : Data) → IsJsonScope s d → length s.notes.spans < values_in d
fewer_spans s d is =
    let listed = given_within IsJsonSpan is.spans (codes "spans") d is.each_span in
    let notes = ap (λ (n : ScopeNotes). length n.spans) is.scope.noted in
    let each = length-map is.spans (λ (x : Noted Span SpanNotes). x.notes) in
    omega (arith, listed, notes, each)

pub fewer_read : (number first : ℕ) (r : Noted Scope (List Remark)) (d : Data) → IsScopeFound number first r d → length r.means.spans < values_in d
fewer_read number first r d h =
    let is = h.is_scope in
    let this : Noted Scope ScopeNotes = record { means = r.means; notes = h.notes } in
    let same = spans_all_noted is.instrumentation is.spans is.url this is.scope in
    let fewer = fewer_spans this d is in
    omega (arith, same, fewer)
