-- The arguments of a message: a struct behind its header (Thrift compact and binary protocol, "Message"). It counts as no level of
-- containers, so that a struct in it stands at the first of all levels.
use Rattle.std.specs.Prelude.{◌&&◌, if◌then◌else◌, ℕ, ℤ, pos, Bool, true, false, Option, Some, None, List, [], ◌∷◌, ◌++◌}
use Rattle.std.specs.List.{flat_map}
use Rattle.span_io.specs.declared.cause.Cause.{Cause}
use Rattle.span_io.specs.declared.cause.Cause.TheVariants as causes
use Rattle.span_io.specs.Frames.{Framing, IsOpen, IsRefusedAt}
use Rattle.thrift_core.specs.declared.type_code.TypeCode.{TypeCode}
use Rattle.thrift_core.specs.declared.type_code.TypeCode.TheVariants as kinds
use Rattle.thrift_core.specs.FieldValues.{has_id}
use Rattle.thrift_core.specs.Parts.{Part, header, Spelling, Begins}
use Rattle.thrift_core.specs.Trees.{all_levels}
use Rattle.thrift_core.specs.Values.{BeginsValue}
use Rattle.thrift_core.specs.Walks.{Open, in_struct, texts_from, RefusedFrom}

-- a field: its id, its type, and the bytes of its value
pub record Argument : Type 0 where
  pub id : ℤ
  pub kind : TypeCode
  pub text : List ℕ

-- the fields behind one of id `last`, the stop byte, and then rest
unfoldable pub ArgumentsThen : Spelling → ℤ → List Argument → List ℕ → List ℕ → Type 0
ArgumentsThen Spells last [] whole rest = Begins Spells (header all_levels last) None whole rest
ArgumentsThen Spells last (this ∷ more) whole rest =
    (held : Option Bool) × (behind : List ℕ)
    × Begins Spells (header all_levels last) (Some (record { id = this.id; kind = this.kind; held = held })) whole (this.text ++ behind)
    × BeginsValue Spells all_levels this.kind held this.text []
    × ArgumentsThen Spells this.id more behind rest

-- ---- why they can't be read

-- what is open where they begin
abbrev pub arguments_open : Open
arguments_open = in_struct all_levels (pos 0)

-- the arguments as one item: the fields of their struct, up to the stop byte that ends it
abbrev pub argument_texts : Spelling → (Part → List ℕ → Type 0) → Framing
argument_texts Spells ThenVarint = texts_from Spells ThenVarint arguments_open

-- what refuses such an item, by the cause that this names
abbrev pub RefusedArguments : Spelling → (Part → Cause → List ℕ → Type 0) → Cause → List ℕ → Type 0
RefusedArguments Spells Refuses = RefusedFrom Spells Refuses arguments_open

-- why no item stands at the front of all bytes that there are: it ends too early where it may yet come, and else the shortest front
-- that is refused has this cause
abbrev pub WhyNone : Framing → (Cause → List ℕ → Type 0) → Cause → List ℕ → Type 0
WhyNone F EndsIn causes.Truncated bytes = IsOpen F bytes
WhyNone F EndsIn other bytes = IsRefusedAt F (EndsIn other) bytes

-- ---- the batch among them (agent.thrift: `oneway void emitBatch(1: Batch batch)`)

-- whether a value of this type is a struct
abbrev pub is_struct : TypeCode → Bool
is_struct kinds.Struct = true
is_struct other = false

-- field 1 of type struct is a batch
abbrev pub batch_of : Argument → List (List ℕ)
batch_of this = if is_struct this.kind && has_id 1 this.id then this.text ∷ [] else []

-- the batches among the arguments, in order, each by the bytes of its struct
abbrev pub batches_of : List Argument → List (List ℕ)
batches_of arguments = flat_map batch_of arguments
