-- What the readers of a `Resource` and of a `ResourceSpans` have gathered.
use Rattle.std.specs.Prelude.{ℕ, List}
use Rattle.std.specs.List.{AllZip}
use Rattle.span_io.specs.Tables.{Givens, givens, MeansText}
use Rattle.proto_wire.specs.Records.{Record}
use Rattle.trace_model.specs.declared.remark.Remark.{Remark}
use Rattle.trace_model.specs.declared.group.Group.{Group}
use Rattle.trace_model.specs.declared.group.Scope.{Scope}
use Rattle.otlp_proto.specs.declared.reading.group.GroupRows.{GroupRows}
use Rattle.otlp_proto.specs.declared.reading.group.ScopeList.{ScopeList}
use Rattle.otlp_proto.specs.declared.reading.resource.ResourceRows.{ResourceRows}
use Rattle.otlp_proto.specs.private.AttributesSoFar.{GatheredAttributes}
use Rattle.otlp_proto.specs.Group.{IsResource, resource_table, IsGroup, group_table}
use Rattle.trace_model.specs.declared.noted.Resource.{Resource}
use Rattle.trace_model.specs.Remarks.{Keys}
use Rattle.trace_model.specs.declared.noted.Noted.{Noted}
use Rattle.trace_model.specs.Notes.{ScopeNotes}
use Rattle.trace_model.specs.private.OtlpTold.{AreToldScopes}
use Rattle.otlp_proto.specs.Rows.{MeansCount, MeansMessage}
use Rattle.span_io.specs.RowsSoFar.{Gave}
use Rattle.otlp_proto.specs.Scope.{IsScope}

-- each row of a `Resource` holds what the records given to it so far mean
pub record GatheredResource (rows : ResourceRows) (given : Givens resource_table) : Type 0 where
  pub attributes : GatheredAttributes given.0 rows.attributes
  pub dropped : Gave MeansCount given.1.0 rows.dropped

-- the rows make it: whatever records gave them mean it
abbrev pub MakesResource : ResourceRows → Noted Resource Keys → Type 0
MakesResource rows read =
    (records : List Record) → GatheredResource rows (givens resource_table records) → IsResource read records

-- the scopes of a group, the remarks on them, and the number of the span that comes next
pub record GatheredScopes (texts : List (List ℕ)) (list : ScopeList) : Type 0 where
  pub read : List (Noted Scope ScopeNotes)
  pub each : AllZip (MeansMessage IsScope) texts read
  pub told : AreToldScopes read list.scopes list.remarks list.next_span

-- each row of a `ResourceSpans` holds what the records given to it so far mean
pub record GatheredGroup (rows : GroupRows) (given : Givens group_table) : Type 0 where
  pub resource : Gave (MeansMessage IsResource) given.0 rows.resource
  pub scopes : GatheredScopes given.1.0 rows.scopes
  pub schema_url : Gave MeansText given.1.1.0 rows.schema_url

-- the rows make this group, with these remarks on it
abbrev pub MakesGroup : GroupRows → Group → List Remark → Type 0
MakesGroup rows group remarks =
    (records : List Record) → GatheredGroup rows (givens group_table records)
    → IsGroup (record { means = group; notes = remarks }) records
