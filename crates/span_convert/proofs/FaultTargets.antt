-- Of the faults of a group one counts at most, whatever the target's table tells.
use Rattle.std.proofs.Common.{◌≡◌, ◌≢◌, ◌<◌, ◌⊎◌, inl, inr, ℕ, List, Option, Some, None, refl, ap, ◌∙◌, arith}
use Rattle.std.specs.Cmp.Lexicographic.{slice_cmp}
use Rattle.std.specs.FinMap.{nat_cmp-IsAntisymmetric, slice_cmp-IsAntisymmetric}
use Rattle.std.specs.Ordering.{nat_cmp, ordering_reverse}
use Rattle.std.specs.declared.cmp.Ordering.{Ordering}
use Rattle.std.specs.declared.cmp.Ordering.TheVariants.{Less, Equal, Greater}
use Rattle.std.proofs.lemmas.Cmp.{nat_list_cmp_total}
use Rattle.trace_model.specs.Faults.{fault_number}
use Rattle.trace_model.specs.declared.fault.Fault.{Fault}
use Rattle.trace_model.specs.declared.fault.Fault.TheVariants.{EndBeforeStart, OwnKey, EventText, ChildOfLink, DoubleInText}
use Rattle.trace_model.specs.declared.span.Span.{Span}
use Rattle.trace_model.specs.declared.group.Group.{Group}
use Rattle.trace_model.specs.declared.value.Value.{Value}
use Rattle.span_tags.specs.PlacedFaults.{FaultAtMost, key_in, CountsBy}

-- ---- one fault of each number and key

same_fault : (a b : Fault) → fault_number a ≡ fault_number b → key_in a ≡ key_in b → a ≡ b
same_fault EndBeforeStart EndBeforeStart number key = refl
same_fault (OwnKey one) (OwnKey other) number key = ap OwnKey key
same_fault EventText EventText number key = refl
same_fault ChildOfLink ChildOfLink number key = refl
same_fault DoubleInText DoubleInText number key = refl
same_fault a b number key = absurd (omega (arith, number))

same_key : (a b : List ℕ) → slice_cmp nat_cmp a b ≢ Greater → slice_cmp nat_cmp b a ≢ Greater → a ≡ b
same_key a b one other = by (slice_cmp nat_cmp a b) refl
  where
    by : (o : Ordering) → slice_cmp nat_cmp a b ≡ o → a ≡ b
    by Less e = absurd (other (nat_list_cmp_total.antisymm b a ∙ ap ordering_reverse e))
    by Equal e = slice_cmp-IsAntisymmetric nat_cmp-IsAntisymmetric a b e
    by Greater e = absurd (one e)

at_most_both : (a b : Fault) → FaultAtMost a b → FaultAtMost b a → a ≡ b
at_most_both a b (inl less) (inl more) = absurd (omega (arith, less, more))
at_most_both a b (inl less) (inr (same, key)) = absurd (omega (arith, less, same))
at_most_both a b (inr (same, key)) (inl less) = absurd (omega (arith, less, same))
at_most_both a b (inr (same, key)) (inr (again, other)) = same_fault a b same (same_key (key_in a) (key_in b) key other)

-- each at its place
one_least : (place other : ℕ) (a b : Fault) → (place < other) ⊎ ((place ≡ other) × FaultAtMost a b) → (other < place) ⊎ ((other ≡ place) × FaultAtMost b a) → a ≡ b
one_least place other a b (inl less) (inl more) = absurd (omega (arith, less, more))
one_least place other a b (inl less) (inr (same, rest)) = absurd (omega (arith, less, same))
one_least place other a b (inr (same, rest)) (inl less) = absurd (omega (arith, less, same))
one_least place other a b (inr (same, rest)) (inr (again, more)) = at_most_both a b rest more

-- ---- the fault of a group

module _ (IsResourceFault : List (List ℕ × Value) → Fault → Type 0) (IsSpanFault : Span → Fault → Type 0) (group : Group) where
  abbrev Counts : Option Fault → Type 0
  Counts = CountsBy IsResourceFault IsSpanFault group

  pub counts_once : (a b : Fault) → Counts (Some a) → Counts (Some b) → a ≡ b
  counts_once a b h k =
      one_least h.0 k.0 a b (h.1.1 (record { place = k.0; fault = b }) k.1.0) (k.1.1 (record { place = h.0; fault = a }) h.1.0)

  pub counts_or_none : (fault : Fault) → Counts (Some fault) → Counts None → ⊥
  counts_or_none fault h none = none (record { place = h.0; fault = fault }) h.1.0

  pub counted_or_none : (found : Option Fault) → Counts found → Counts None ⊎ ((fault : Fault) × Counts (Some fault))
  counted_or_none None is = inl is
  counted_or_none (Some fault) is = inr (fault, is)
