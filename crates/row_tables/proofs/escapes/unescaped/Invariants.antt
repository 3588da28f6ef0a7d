use Rattle.std.proofs.Common.{◌≡◌, length}
use Rattle.row_tables.specs.Escapes.{meant, with_meant}
use Rattle.row_tables.proofs.escapes.unescaped.Given as goal

abbrev pub invariant-bytes : goal.invariant-bytes
invariant-bytes l = meant l.text ≡ with_meant l.bytes.items 0 l.rest

abbrev pub decreases-bytes : goal.decreases-bytes
decreases-bytes l = length l.rest
