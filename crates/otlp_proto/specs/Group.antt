-- `Resource` (OTLP resource.proto): `attributes` 1 and `dropped_attributes_count` 2; and `ResourceSpans` (trace.proto): `resource` 1,
-- `scope_spans` 2 and `schema_url` 3, a text.
use Rattle.std.specs.Prelude.{◌≡◌, ℕ, List, [], ◌∷◌}
use Rattle.std.specs.List.{AllZip}
use Rattle.span_io.specs.FreeItems.{Paddings, Same, TextPadded}
use Rattle.span_io.specs.Offences.{Rules, Offence}
use Rattle.span_io.specs.Tables.{Row, Singular, rules_by, no_ends, MeansText}
use Rattle.proto_wire.specs.Messages.{messages}
use Rattle.proto_wire.specs.Records.{Record}
use Rattle.trace_model.specs.declared.remark.Remark.{Remark}
use Rattle.trace_model.specs.declared.group.Group.{Group}
use Rattle.trace_model.specs.declared.group.Scope.{Scope}
use Rattle.otlp_proto.specs.Attributes.{AttributesOf, attributes}
use Rattle.trace_model.specs.Remarks.{Keys}
use Rattle.trace_model.specs.declared.noted.Noted.{Noted}
use Rattle.trace_model.specs.Notes.{ScopeNotes}
use Rattle.otlp_proto.specs.PaddedValues.{AttributePadded}
use Rattle.otlp_proto.specs.Rows.{bytes_of, varints_of, MeansCount, text, count, message, messages_of, MeansMessage}
use Rattle.otlp_proto.specs.Scope.{IsScope, scope_rules, ScopePadded}
use Rattle.trace_model.specs.declared.noted.Resource.{Resource}
use Rattle.trace_model.specs.OtlpParts.{no_resource, NotedGroup, IsGroupOfParts}

-- ---- `Resource`

-- the records, in any order, are those of this `Resource`
pub record IsResource (r : Noted Resource Keys) (records : List Record) : Type 0 where
  pub attributes : AttributesOf (bytes_of 1 records) r.means.attributes r.notes
  pub dropped : Singular MeansCount (λ n. n ≡ 0) (varints_of 2 records) r.means.dropped

-- the fields of `Resource`, a row each: `attributes` 1 and `dropped_attributes_count` 2
abbrev pub resource_table : List (Row Record)
resource_table = attributes 1 ∷ count 2 ∷ []

-- how a `Resource` offends: in its rows, and never by what it lacks at its end
abbrev pub resource_rules : Rules Record
resource_rules = rules_by resource_table no_ends

-- free records added in it, and in what its rows hold
abbrev pub resource_padded : Paddings resource_table
resource_padded = (AttributePadded, (Same, tt))

-- the bytes of a resource, and the same with free records added at any depth
abbrev pub ResourcePadded : List ℕ → List ℕ → Type 0
ResourcePadded held other = TextPadded messages resource_table resource_padded held other

-- ---- `ResourceSpans`

-- the records, in any order, are those of this group
pub record IsGroup (g : NotedGroup) (records : List Record) : Type 0 where
  pub resource : Noted Resource Keys
  pub its_resource : Singular (λ held r. MeansMessage IsResource held r) (λ r. r ≡ no_resource) (bytes_of 1 records) resource
  pub scopes : List (Noted Scope ScopeNotes)
  pub each_scope : AllZip (MeansMessage IsScope) (bytes_of 2 records) scopes
  pub url : List ℕ
  pub its_url : Singular MeansText (λ text. text ≡ []) (bytes_of 3 records) url
  pub group : IsGroupOfParts resource scopes url g

-- the bytes are a text of this group, and these are the remarks on it
abbrev pub IsGroupText : Group → List Remark → List ℕ → Type 0
IsGroupText group remarks text = MeansMessage IsGroup text (record { means = group; notes = remarks })

-- the fields of `ResourceSpans`, a row each: `resource` 1, at most once, `scope_spans` 2, repeated, and `schema_url` 3
abbrev pub group_table : List (Row Record)
group_table =
    message 1 (Noted Resource Keys) (MeansMessage IsResource) no_resource (λ held p n. Offence messages resource_rules held p n)
    ∷ messages_of 2 (Noted Scope ScopeNotes) (MeansMessage IsScope) (λ held p n. Offence messages scope_rules held p n) ∷ text 3
    ∷ []

-- how a `ResourceSpans` offends: in its rows, and never by what it lacks at its end
abbrev pub group_rules : Rules Record
group_rules = rules_by group_table no_ends

-- free records added in it, and in what its rows hold
abbrev pub group_padded : Paddings group_table
group_padded = (ResourcePadded, (ScopePadded, (Same, tt)))

-- the bytes of a group, and the same with free records added at any depth
abbrev pub GroupPadded : List ℕ → List ℕ → Type 0
GroupPadded text other = TextPadded messages group_table group_padded text other

-- ---- what a reader answers
