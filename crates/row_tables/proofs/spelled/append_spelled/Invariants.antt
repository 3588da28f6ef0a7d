use Rattle.std.proofs.Common.{◌≡◌, length}
use Rattle.row_tables.specs.Parts.{parts_of}
use Rattle.row_tables.specs.Words.{is_space, with_words}
use Rattle.row_tables.proofs.spelled.append_spelled.Given as goal

abbrev pub invariant-words : goal.invariant-words
invariant-words l = with_words l.fn.bytes.items (parts_of is_space l.text) ≡ with_words l.bytes.items (parts_of is_space l.rest)

abbrev pub decreases-words : goal.decreases-words
decreases-words l = length l.rest
