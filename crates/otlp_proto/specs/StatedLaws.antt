-- What is known of what bytes mean as messages of OTLP.
use Rattle.std.specs.Prelude.{◌≡◌, ◌↔◌, ◌⊎◌, ℕ, List, ◌∷◌, ◌++◌}
use Rattle.span_io.specs.Causes.{cause_number}
use Rattle.span_io.specs.declared.cause.Cause.{Cause}
use Rattle.span_io.specs.Offences.{Offence, Least}
use Rattle.span_io.specs.Offences.{FormatLaws, RulesLaws}
use Rattle.span_io.specs.Tables.{Next}
use Rattle.span_io.specs.Tables.{Row, IsFree}
use Rattle.span_ids.specs.StatedLaws.{IdentifiersReadBack}
use Rattle.proto_wire.specs.Messages.{messages}
use Rattle.proto_wire.specs.Records.{Record}
use Rattle.proto_wire.specs.Wire.{Wire}
use Rattle.trace_model.specs.StatedLaws.{AttributesOnce, AttributesExist}
use Rattle.trace_model.specs.Soundness.{IsSoundGroup}
use Rattle.trace_model.specs.declared.remark.Remark.{Remark}
use Rattle.trace_model.specs.declared.group.Group.{Group}
use Rattle.otlp_proto.specs.Event.{IsEvent, event_table, event_rules}
use Rattle.otlp_proto.specs.Group.{IsResource, resource_table, resource_rules, IsGroup, IsGroupText, group_table, group_rules, GroupPadded}
use Rattle.otlp_proto.specs.Link.{IsLink, link_table, link_rules}
use Rattle.otlp_proto.specs.Scope.{IsInstrumentationScope, instrumentation_scope_table, instrumentation_scope_rules, IsScope, scope_table, scope_rules}
use Rattle.otlp_proto.specs.Span.{IsSpan, span_table, span_rules}
use Rattle.otlp_proto.specs.Status.{IsStatus, status_table, status_rules}
use Rattle.otlp_proto.specs.Values.{IsListText, IsMapText, value_in, key_value_in, value_at, key_value_at, value_offends, key_value_offends, many_table, table_of_value, table_of_key_value}
use Rattle.trace_model.specs.declared.noted.KeyValue.{KeyValue}
use Rattle.trace_model.specs.OtlpParts.{NotedValue}

-- Bytes are a text of one group at most, with one list of remarks; nothing offends in such a text, and the group is sound.
pub record OneGroup : Type 0 where
  pub once : (text : List ℕ) (g h : Group) (r s : List Remark) → IsGroupText g r text → IsGroupText h s text → (g ≡ h) × (r ≡ s)
  pub fine : (text : List ℕ) (g : Group) (r : List Remark) → IsGroupText g r text → (place n : ℕ)
      → ¬ Offence messages group_rules text place n
  pub sound : (text : List ℕ) (g : Group) (r : List Remark) → IsGroupText g r text → IsSoundGroup g

-- any bytes are a text of a group, or an offence in them counts, and it has a cause
abbrev pub SomeGroup : Type 0
SomeGroup =
    (text : List ℕ) → ((g : Group) × (r : List Remark) × IsGroupText g r text)
    ⊎ ((cause : Cause) × Least (Offence messages group_rules text) (cause_number cause))

-- What is known of records, attributes and identifiers, and what stands at the front of what is left of a message. The other laws rest on it.
pub record WireFacts : Type 0 where
  pub format : FormatLaws messages
  pub one_reading : (text : List ℕ) (first second : List Record) → Wire first text → Wire second text → first ≡ second

-- What the laws of reading rest on: the facts of records, attributes that exist and are the only ones, identifiers that are read
-- back, and that any bytes are at their end, begin with a record, or have a cause why none is read.
pub record ReadingLaws : Type 0 where
  pub facts : WireFacts
  pub once : AttributesOnce
  pub exist : AttributesExist
  pub ids : IdentifiersReadBack
  pub next : (rest : List ℕ) → Next messages rest

-- What the search for the offence that counts asks of each message.
pub record MessageRules : Type 0 where
  pub status : RulesLaws messages status_rules
  pub event : RulesLaws messages event_rules
  pub link : RulesLaws messages link_rules
  pub span : RulesLaws messages span_rules
  pub instrumentation_scope : RulesLaws messages instrumentation_scope_rules
  pub scope : RulesLaws messages scope_rules
  pub resource : RulesLaws messages resource_rules
  pub group : RulesLaws messages group_rules

-- ---- free records

-- a record of no row changes no reading of a message with this table
abbrev pub PassesFree : {X : Type 0} → List (Row Record) → (X → List Record → Type 0) → Type 0
PassesFree {X} table Is =
    (x : X) (before behind : List Record) (free : Record) → IsFree table free
    → Is x (before ++ free ∷ behind) ↔ Is x (before ++ behind)

-- the same of the message's bytes
abbrev pub PassesFreeIn : {X : Type 0} → List (Row Record) → (List ℕ → X → Type 0) → Type 0
PassesFreeIn {X} table Is =
    (x : X) (before behind : List Record) (free : Record) (text other : List ℕ) → IsFree table free
    → Wire (before ++ free ∷ behind) text → Wire (before ++ behind) other → Is text x ↔ Is other x

-- A record of no row changes no reading of any message. Of values, lists, maps and `KeyValue`s it is said of their bytes, at any
-- level, and of the other messages of their records.
pub record FreeRecords : Type 0 where
  pub value : (left : ℕ) → PassesFreeIn (table_of_value left) (value_at left)
  pub list : (left : ℕ)
      → PassesFreeIn (many_table left NotedValue (value_in left) (value_offends left)) (λ text r. IsListText (value_in left) text r)
  pub map : (left : ℕ)
      → PassesFreeIn (many_table left KeyValue (key_value_in left) (key_value_offends left)) (λ text r. IsMapText (key_value_in left) text r)
  pub key_value : (left : ℕ) → PassesFreeIn (table_of_key_value left) (key_value_at left)
  pub status : PassesFree status_table IsStatus
  pub event : PassesFree event_table IsEvent
  pub link : PassesFree link_table IsLink
  pub span : PassesFree span_table IsSpan
  pub instrumentation_scope : PassesFree instrumentation_scope_table IsInstrumentationScope
  pub scope : PassesFree scope_table IsScope
  pub resource : PassesFree resource_table IsResource
  pub group : PassesFree group_table IsGroup

-- A text, and the same text with free records added anywhere, at any depth: they mean the same group with the same remarks, or the
-- offences that count in them have the same number.
pub record FreeAnywhere : Type 0 where
  -- nothing need be added
  pub none : (text : List ℕ) → GroupPadded text text
  pub means : (text other : List ℕ) → GroupPadded text other → (g : Group) (r : List Remark)
      → IsGroupText g r text ↔ IsGroupText g r other
  pub offends : (text other : List ℕ) → GroupPadded text other → (number : ℕ)
      → Least (Offence messages group_rules text) number ↔ Least (Offence messages group_rules other) number
