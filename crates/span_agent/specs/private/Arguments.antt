-- What the walk over the arguments knows so far.
use Rattle.std.specs.Prelude.{◌≡◌, ℕ, ℤ, pos, List, [], ◌∷◌, ◌++◌, Result, Ok, Err}
use Rattle.std.specs.Borrow.{Bor}
use Rattle.span_io.specs.declared.cause.Cause.{Cause}
use Rattle.thrift_core.specs.declared.field.Field.{Field}
use Rattle.thrift_core.specs.Parts.{Part, Spelling}
use Rattle.thrift_core.specs.Trees.{all_levels}
use Rattle.thrift_core.specs.Values.{AnswersRefusals, BeginsValue}
use Rattle.thrift_core.specs.Walks.{in_struct, Passes}
use Rattle.span_agent.specs.Arguments.{Argument, ArgumentsThen, RefusedArguments, argument_texts, arguments_open, batch_of, batches_of}
use Rattle.span_agent.specs.declared.message.AgentCause.{AgentCause}
use Rattle.span_agent.specs.declared.arguments.Batches.{Batches}
use Rattle.span_agent.specs.declared.arguments.Batches.TheVariants as kept

-- so many batches are there, and this is the only one
abbrev pub Held : Batches → List (List ℕ) → Type 0
Held kept.Absent held = held ≡ []
Held (kept.One batch) held = held ≡ batch.now ∷ []
Held kept.More held = (first : List ℕ) × (second : List ℕ) × (others : List (List ℕ)) × (held ≡ first ∷ second ∷ others)

-- what a field adds to them
abbrev pub Adds : Batches → Batches → Field → List ℕ → Type 0
Adds old new found value = (held : List (List ℕ)) → Held old held
    → Held new (held ++ batch_of (record { id = found.id; kind = found.kind; text = value }))

-- the value of a field was passed over, and added if it is a batch
pub record Gathers (Spells : Spelling) (old new : Batches) (found : Field) (whole rest : List ℕ) : Type 0 where
  pub text : List ℕ
  pub value : BeginsValue Spells all_levels found.kind found.held text []
  pub parts : whole ≡ text ++ rest
  pub adds : Adds old new found text

-- arguments were passed over, and these are the batches among them
pub record GivesBatches (Spells : Spelling) (batches : Batches) (whole rest : List ℕ) : Type 0 where
  pub arguments : List Argument
  pub stand : ArgumentsThen Spells (pos 0) arguments whole rest
  pub held : Held batches (batches_of arguments)

-- they can't be read, for the cause that is answered
abbrev pub AnswersArguments : Spelling → (Part → List ℕ → Type 0) → (Part → Cause → List ℕ → Type 0) → Result Batches Cause
    → List ℕ → Type 0
AnswersArguments Spells ThenVarint Refuses result bytes =
    AnswersRefusals (argument_texts Spells ThenVarint) (RefusedArguments Spells Refuses) result bytes

-- behind the fields that were passed over, of which the last has this id
pub record SoFar (Spells : Spelling) (batches : Batches) (last : ℤ) (whole rest : List ℕ) : Type 0 where
  pub seen : List Argument
  pub goes_on : (more : List Argument) (behind : List ℕ) → ArgumentsThen Spells last more rest behind
      → ArgumentsThen Spells (pos 0) (seen ++ more) whole behind
  pub passes : Passes Spells (arguments_open ∷ []) whole (in_struct all_levels last ∷ []) rest
  pub held : Held batches (batches_of seen)

-- the answer that lends the batch is this one
abbrev pub SaysBatch : Result (Bor (List ℕ)) AgentCause → Result (List ℕ) AgentCause → Type 0
SaysBatch (Ok lent) told = told ≡ Ok lent.now
SaysBatch (Err cause) told = told ≡ Err cause
