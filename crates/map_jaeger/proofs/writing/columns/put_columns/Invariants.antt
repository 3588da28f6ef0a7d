use Rattle.std.proofs.Common.{length}
use Rattle.span_tags.specs.Runs.{under}
use Rattle.map_jaeger.specs.Columns.{columns_of}
use Rattle.map_jaeger.proofs.PlacedRows.{SoFar}
use Rattle.map_jaeger.proofs.writing.columns.put_columns.Given as goal

abbrev pub invariant-columns : goal.invariant-columns
invariant-columns l = SoFar l.columns l.left (columns_of (under l.name l.version l.span)) l.initial.pairs.items l.pairs.items

abbrev pub decreases-columns : goal.decreases-columns
decreases-columns l = length l.left
