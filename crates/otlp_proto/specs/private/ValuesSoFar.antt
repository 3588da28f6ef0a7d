-- What the readers of the messages of values have gathered, and what they answer of one record more.
use Rattle.std.specs.Prelude.{◌≡◌, ℕ, ◌⊎◌, List, Option, Result}
use Rattle.std.specs.List.{AllZip}
use Rattle.span_io.specs.declared.cause.Cause.{Cause}
use Rattle.span_io.specs.declared.halt.Halt.{Halt}
use Rattle.span_io.specs.Offences.{Offence, HereOrInside, Judges}
use Rattle.span_io.specs.Tables.{Singular, Twice, MeansText}
use Rattle.proto_wire.specs.Messages.{messages}
use Rattle.proto_wire.specs.Records.{Record}
use Rattle.proto_wire.specs.Wire.{Wire}
use Rattle.trace_model.specs.declared.value.Value.{Value}
use Rattle.trace_model.specs.declared.value.Value.TheVariants as values
use Rattle.otlp_proto.specs.declared.reading.value_rows.ListRows.{ListRows}
use Rattle.otlp_proto.specs.declared.reading.value_rows.MapRows.{MapRows}
use Rattle.otlp_proto.specs.declared.reading.value_rows.KeyValueRows.{KeyValueRows}
use Rattle.otlp_proto.specs.Rows.{bytes_of}
use Rattle.span_io.specs.RowsSoFar.{Gave}
use Rattle.span_io.specs.private.RowSteps.{Adds}
use Rattle.otlp_proto.specs.Values.{Member, members_of, MeansMember, BadMember, InMember, value_in, key_value_in, value_at, list_rules, map_rules}
use Rattle.trace_model.specs.declared.noted.KeyValue.{KeyValue}
use Rattle.trace_model.specs.OtlpParts.{NotedValue, leaf}
use Rattle.trace_model.specs.private.OtlpTold.{AreToldValues, AreToldPairs}

-- ---- of these records

-- what the `values` 1 of these records mean, in their order, and the keys that are noted inside them
pub record GatheredList (left : ℕ) (records : List Record) (rows : ListRows) : Type 0 where
  pub members : List NotedValue
  pub each : AllZip (value_in left) (bytes_of 1 records) members
  pub told : AreToldValues members rows.values rows.noted

-- the pairs that the `values` 1 of these records mean, in their order, and the keys that are noted inside their values
pub record GatheredMap (left : ℕ) (records : List Record) (rows : MapRows) : Type 0 where
  pub members : List KeyValue
  pub each : AllZip (key_value_in left) (bytes_of 1 records) members
  pub told : AreToldPairs members rows.pairs rows.noted

-- of these members
abbrev pub GatheredMembers : ℕ → List Member → Option NotedValue → Type 0
GatheredMembers left members row = Gave (λ member read. MeansMember (value_in left) (key_value_in left) member read) members row

-- of these records: none of them is a member, or one is, and means the value of the row
abbrev pub GatheredValue : ℕ → List Record → Option NotedValue → Type 0
GatheredValue left records row = GatheredMembers left (members_of records) row

-- of a row of bytes that hold a value
abbrev pub GatheredField : ℕ → List (List ℕ) → Option NotedValue → Type 0
GatheredField left texts row = Gave (λ held read. value_at left held read) texts row

-- each row of a `KeyValue`, `key` 1 and `value` 2, holds what these records mean for it
pub record GatheredKeyValue (left : ℕ) (records : List Record) (rows : KeyValueRows) : Type 0 where
  pub key : Gave MeansText (bytes_of 1 records) rows.key
  pub value : GatheredField left (bytes_of 2 records) rows.value

-- ---- what is answered of one more

-- how a member offends behind earlier ones
abbrev pub MemberOffends : ℕ → List Member → Member → ℕ → ℕ → Type 0
MemberOffends left earlier member place number = HereOrInside (λ n. Twice earlier n ⊎ BadMember member n)
    (λ p n. InMember (λ held q m. Offence messages (list_rules left) held q m) (λ held q m. Offence messages (map_rules left) held q m) member p n) place number

-- of one member more
abbrev pub JudgesMember : ℕ → Option NotedValue → Member → Result Unit (Halt Cause) → Type 0
JudgesMember left row member answer =
    (earlier : List Member) → GatheredMembers left earlier row → Judges answer (MemberOffends left earlier member)

-- a row is set by a member that means this value
abbrev pub SetsLeaf : Value → Option NotedValue → Option NotedValue → Type 0
SetsLeaf value old new =
    (left : ℕ) (member : Member) → MeansMember (value_in left) (key_value_in left) member (leaf value)
    → Adds (GatheredMembers left) member old new

-- ---- what the rows give

-- where all records of a text were gathered, at any level
abbrev pub GivesRead : {B C : Type 0} → (ℕ → List Record → B → Type 0) → (ℕ → List ℕ → C → Type 0) → B → C → Type 0
GivesRead Gathered Is rows read =
    (left : ℕ) (records : List Record) (text : List ℕ) → Wire records text → Gathered left records rows → Is left text read

-- the value of a row of bytes, which is empty if there are none
abbrev pub GivesField : Option NotedValue → NotedValue → Type 0
GivesField row read =
    (left : ℕ) (texts : List (List ℕ)) → GatheredField left texts row
    → Singular (λ held r. value_at left held r) (λ r. r ≡ leaf values.Nothing) texts read
