-- The names of the rows of losses, as reports print them.
use Rattle.std.specs.Prelude.{ℕ, List, codes}
use Rattle.trace_model.specs.declared.loss.LossRow.{LossRow}
use Rattle.trace_model.specs.declared.loss.LossRow.TheVariants as rows

-- the word by which a report names a row of losses, which says what a move to another form takes from a trace
abbrev pub row_name : LossRow → List ℕ
row_name rows.Value = codes "value"
row_name rows.DroppedCount = codes "dropped-count"
row_name rows.SchemaUrl = codes "schema-url"
row_name rows.Empty = codes "empty"
row_name rows.Attributes = codes "attributes"
row_name rows.Start = codes "start"
row_name rows.End = codes "end"
row_name rows.Time = codes "time"
row_name rows.Kind = codes "kind"
row_name rows.Message = codes "message"
row_name rows.Flags = codes "flags"
row_name rows.State = codes "state"
row_name rows.Link = codes "link"
row_name rows.ScopeEmpty = codes "scope-empty"
row_name rows.ScopeJoined = codes "scope-joined"
row_name rows.UnitEmpty = codes "unit-empty"
row_name rows.UnitJoined = codes "unit-joined"
