-- The spans of a group, one after the other, and the groups of a gauge.
use Rattle.std.proofs.Common.{◌≡◌, ℕ, ◌+◌, ◌<◌, ◌≤◌, [], ◌∷◌, ◌++◌, All, refl, sym, subst, arith}
use Rattle.std.proofs.lemmas.List.FromFn.{map-range_with_len_more, get_or-map-range_with_len, length-map-range_with_len}
use Rattle.trace_model.specs.declared.span.Span.{Span}
use Rattle.trace_model.specs.declared.group.Group.{Group}
use Rattle.span_vectors.specs.Gauge.{gauge_span, gauge_spans, gauge_group, first_groups, gauge, first_span, group_size, group_count, HasGroup}

pub spans_none : (first : ℕ) → gauge_spans first 0 ≡ []
unfolding gauge_spans
spans_none first = refl

pub spans_more : (first n j : ℕ) → first + n ≡ j → gauge_spans first (n + 1) ≡ gauge_spans first n ++ gauge_span j ∷ []
unfolding gauge_spans
spans_more first n j e = map-range_with_len_more gauge_span first n j e

-- what holds of each span by its number holds of all
pub all_spans : (P : Span → Type 0) (first count : ℕ) → ((i : ℕ) → first ≤ i → i < first + count → P (gauge_span i)) → All P (gauge_spans first count)
unfolding gauge_spans
all_spans P first count each = λ k d lt.
    let low : k < count = omega (arith, lt, length-map-range_with_len gauge_span first count) in
    subst P (sym (get_or-map-range_with_len gauge_span first count k (first + k) d low refl)) (each (first + k) (omega arith) (omega arith))

-- what holds of each group by its number holds of the first ones
pub all_numbered : (P : Group → Type 0) (spans count : ℕ) → ((group : ℕ) → 1 ≤ group → group ≤ count → P (gauge_group spans group)) → All P (first_groups spans count)
unfolding first_groups
all_numbered P spans count each = λ k d lt.
    let low : k < count = omega (arith, lt, length-map-range_with_len (gauge_group spans) 1 count) in
    subst P (sym (get_or-map-range_with_len (gauge_group spans) 1 count k (1 + k) d low refl)) (each (1 + k) (omega arith) (omega arith))

pub all_first_groups : (P : Group → Type 0) (spans count : ℕ) → ((group : ℕ) → P (gauge_group spans group)) → All P (first_groups spans count)
all_first_groups P spans count each = all_numbered P spans count (λ group from to. each group)

-- the same of all groups that there are
pub all_groups : (P : Group → Type 0) (spans : ℕ) → ((group : ℕ) → HasGroup spans group → P (gauge_group spans group)) → All P (gauge spans)
all_groups P spans each = all_numbered P spans (group_count spans) (λ group from to. each group (record { from_one = from; to_last = to }))

-- the numbers of the spans of a group
pub number_within : (spans group i : ℕ) → HasGroup spans group → first_span group ≤ i → i < first_span group + group_size spans group → (0 < i) × (i ≤ spans)
number_within spans group i has low high = (omega arith, omega arith)
