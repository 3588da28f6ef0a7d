use Rattle.std.proofs.Common.{◌≡◌, ◌<◌, ◌≤◌, ◌-◌, ℕ, length, get_or, false}
use Rattle.row_tables.specs.Words.{is_space}
use Rattle.row_tables.proofs.spelled.word_size.Given as goal

abbrev pub invariant-bytes : goal.invariant-bytes
invariant-bytes l = record {
  none : (k : ℕ) → k < l.size → is_space (get_or l.text k 0) ≡ false;
  inside : l.size ≤ length l.text;
}

abbrev pub decreases-bytes : goal.decreases-bytes
decreases-bytes l = length l.text - l.size
