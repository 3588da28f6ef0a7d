-- Where a walk over a text goes no further, and why.
use Rattle.std.specs.Prelude.{◌≡◌, ◌≤◌, ℕ, ◌+◌, List, [], ◌∷◌, length, Err}
use Rattle.span_io.specs.declared.cause.Cause.{Cause}
use Rattle.span_io.specs.declared.cause.Cause.TheVariants as causes
use Rattle.thrift_core.specs.Parts.{Spelling}
use Rattle.thrift_core.specs.Reading.{ReadingOf}
use Rattle.thrift_core.specs.Walks.{Open, in_bytes, First, a_part, some_bytes, made_of, no_level, first_of, Passes}

-- What comes first can't be passed in front of these bytes, for this cause: its part isn't read there, or it is a container for
-- which no level is left.
abbrev pub StopsBy : ReadingOf → First → List ℕ → Cause → Type 0
StopsBy reads (a_part part opens) rest cause = reads part rest ≡ Err cause
StopsBy reads (some_bytes many) rest cause = ⊥
StopsBy reads (made_of opens) rest cause = ⊥
StopsBy reads no_level rest cause = cause ≡ causes.TooDeep

-- in front of what has no reading, by this cause
pub record StopsFor (Spells : Spelling) (reads : ReadingOf) (start : Open) (text : List ℕ) (cause : Cause) : Type 0 where
  pub top : Open
  pub below : List Open
  pub rest : List ℕ
  pub passes : Passes Spells (start ∷ []) text (top ∷ below) rest
  pub stops : StopsBy reads (first_of top) rest cause

-- in a binary that lacks so many of its bytes
pub record Lacks (Spells : Spelling) (start : Open) (text : List ℕ) (many : ℕ) : Type 0 where
  pub held : ℕ
  pub below : List Open
  pub rest : List ℕ
  pub passes : Passes Spells (start ∷ []) text (in_bytes held ∷ below) rest
  pub missing : held ≡ length rest + many
  pub some : 1 ≤ many
