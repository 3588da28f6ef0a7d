use Rattle.std.proofs.Common.{◌≡◌, ℕ, List, ◌++◌, vec_len}
use Rattle.trace_model.specs.declared.value.Value.{Value}
use Rattle.trace_model.proofs.Gathered.{kept_of, repeated_of}
use Rattle.trace_model.proofs.attributes.gathered.Given as goal

-- the pairs behind are gathered
pub record SoFar (sorted front kept : List (List ℕ × Value)) (repeated : List (List ℕ)) : Type 0 where
  pub behind : List (List ℕ × Value)
  pub whole : sorted ≡ front ++ behind
  pub pairs : kept ≡ kept_of behind
  pub twice : repeated ≡ repeated_of behind

abbrev pub invariant-pairs : goal.invariant-pairs
invariant-pairs l = SoFar l.initial.pairs.items l.pairs.items l.kept l.repeated

abbrev pub decreases-pairs : goal.decreases-pairs
decreases-pairs l = vec_len l.pairs
