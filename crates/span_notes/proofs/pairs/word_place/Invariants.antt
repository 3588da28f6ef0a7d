use Rattle.std.proofs.Common.{◌≡◌, ℕ, ◌+◌, ◌-◌, ◌≤◌, length}
use Rattle.span_notes.specs.Pairs.{texts}
use Rattle.span_notes.proofs.PairLemmas.{FoundSo}
use Rattle.span_notes.proofs.pairs.word_place.Given as goal

abbrev pub invariant-pairs : goal.invariant-pairs
invariant-pairs l = record {
  even : (before : ℕ) × (l.at ≡ l.first + before + before);
  inside : l.at ≤ length l.words;
  found : FoundSo (texts l.words) l.first l.option l.at l.found;
}

abbrev pub decreases-pairs : goal.decreases-pairs
decreases-pairs l = length l.words - l.at
