-- The message in a datagram, or the first of the causes that hold: no header, another name, arguments that can't be read, two batches,
-- bytes behind the arguments, no batch.
use Rattle.std.specs.Prelude.{◌≡◌, ◌≢◌, ◌⊎◌, ℕ, pos, Bool, true, false, List, [], ◌∷◌, Result, Ok, Err, IsOkAnd}
use Rattle.span_io.specs.declared.cause.Cause.{Cause}
use Rattle.span_io.specs.declared.cause.Cause.TheVariants as reasons
use Rattle.thrift_core.specs.Parts.{Part, Spelling}
use Rattle.thrift_spellings.specs.BinarySpelling.{binary_spells, binary_then_varint, binary_refuses}
use Rattle.thrift_spellings.specs.CompactSpelling.{compact_spells, compact_then_varint, compact_refuses}
use Rattle.span_agent.specs.Arguments.{Argument, ArgumentsThen, argument_texts, RefusedArguments, WhyNone, batches_of}
use Rattle.span_agent.specs.Headers.{HeaderThen, emit_batch}
use Rattle.span_agent.specs.declared.message.AgentCause.{AgentCause}
use Rattle.span_agent.specs.declared.message.AgentCause.TheVariants as causes
use Rattle.span_agent.specs.declared.message.Message.{Message}

-- what the batches among the arguments and the bytes behind them say
abbrev pub told_by : List (List ℕ) → List ℕ → Result (List ℕ) AgentCause
told_by (one ∷ other ∷ more) behind = Err (causes.Reading reasons.FieldTwice)
told_by batches (byte ∷ behind) = Err causes.Tail
told_by [] [] = Err causes.NoBatch
told_by (batch ∷ []) [] = Ok batch

-- arguments stand at the front of the bytes
pub record HasArguments (Spells : Spelling) (bytes : List ℕ) (told : Result (List ℕ) AgentCause) : Type 0 where
  pub arguments : List Argument
  pub behind : List ℕ
  pub stand : ArgumentsThen Spells (pos 0) arguments bytes behind
  pub told_is : told ≡ told_by (batches_of arguments) behind

-- none do, for this cause
pub record HasNoArguments (Spells : Spelling) (ThenVarint : Part → List ℕ → Type 0) (Refuses : Part → Cause → List ℕ → Type 0)
    (bytes : List ℕ) (told : Result (List ℕ) AgentCause) : Type 0 where
  pub cause : Cause
  pub why : WhyNone (argument_texts Spells ThenVarint) (RefusedArguments Spells Refuses) cause bytes
  pub told_is : told ≡ Err (causes.Reading cause)

-- what the bytes behind a header tell, in this spelling: the batch among the arguments, or a cause
abbrev pub TellsBatch : Spelling → (Part → List ℕ → Type 0) → (Part → Cause → List ℕ → Type 0) → List ℕ
    → Result (List ℕ) AgentCause → Type 0
TellsBatch Spells ThenVarint Refuses bytes told =
    HasArguments Spells bytes told ⊎ HasNoArguments Spells ThenVarint Refuses bytes told

-- the same by the protocol of the header: the compact one or the binary one
abbrev pub TellsBatchIn : Bool → List ℕ → Result (List ℕ) AgentCause → Type 0
TellsBatchIn true bytes told = TellsBatch compact_spells compact_then_varint compact_refuses bytes told
TellsBatchIn false bytes told = TellsBatch binary_spells binary_then_varint binary_refuses bytes told

-- behind a header of this protocol with this name
abbrev pub TellsBehind : Bool → List ℕ → List ℕ → Result (List ℕ) AgentCause → Type 0
TellsBehind compact name bytes told =
    ((name ≡ emit_batch) × TellsBatchIn compact bytes told) ⊎ ((name ≢ emit_batch) × (told ≡ Err causes.BadName))

-- a header in this protocol begins the datagram, and this is told of it
pub record HasHeader (datagram : List ℕ) (compact : Bool) (told : Result (List ℕ) AgentCause) : Type 0 where
  pub name : List ℕ
  pub bytes : List ℕ
  pub header : HeaderThen compact name datagram bytes
  pub tells : TellsBehind compact name bytes told

-- no header begins it
pub record HasNoHeader (datagram : List ℕ) (told : Result (List ℕ) AgentCause) : Type 0 where
  pub none : (compact : Bool) (name bytes : List ℕ) → ¬ HeaderThen compact name datagram bytes
  pub told_is : told ≡ Err causes.BadMessage

-- what the datagram tells where no cause holds: the bytes of its batch, in this protocol
abbrev pub IsMessage : List ℕ → Bool → List ℕ → Type 0
IsMessage datagram compact batch = HasHeader datagram compact (Ok batch)

-- the first of the causes that hold of the datagram: one behind its header, or that no header begins it
abbrev pub HasCause : List ℕ → AgentCause → Type 0
HasCause datagram cause = ((compact : Bool) × HasHeader datagram compact (Err cause)) ⊎ HasNoHeader datagram (Err cause)

-- the message that was found is in this protocol, and this is its batch
abbrev pub Finds : Result Message AgentCause → Bool → List ℕ → Type 0
Finds result compact batch = IsOkAnd result (λ message. (message.compact ≡ compact) × (message.batch.now ≡ batch))
