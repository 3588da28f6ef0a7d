-- Where a scan over a text stands whose bytes come in pieces: in front of a part or inside one, of which it keeps the bytes, or in a
-- binary, of which it knows how many bytes are to come. What is open there follows from what is to come of each container.
use Rattle.std.specs.Prelude.{◌≡◌, ◌≤◌, ◌+◌, ◌-◌, ℕ, None, List, [], ◌∷◌, ◌++◌, length}
use Rattle.thrift_core.specs.declared.stack.Level.{Level}
use Rattle.thrift_core.specs.declared.stack.Level.TheVariants as levels
use Rattle.thrift_core.specs.Parts.{Spelling}
use Rattle.thrift_core.specs.Protocols.{most_unfinished}
use Rattle.thrift_core.specs.Trees.{outer_levels}
use Rattle.thrift_core.specs.Walks.{Open, in_struct, in_value, in_elements, in_pairs, in_bytes, Passes}

-- what is open in a container in which so many levels are left
abbrev pub open_level : ℕ → Level → List Open
open_level left (levels.Fields last) = in_struct left last ∷ []
open_level left (levels.Field id kind held) = in_value left kind held ∷ in_struct left id ∷ []
open_level left (levels.Elements kind many) = in_elements left kind many ∷ []
open_level left (levels.Pairs key value many) = in_pairs left key value many ∷ []
open_level left (levels.PairValue key value many) = in_value left value None ∷ in_pairs left key value many ∷ []

-- containers, the outermost first, upon what is open already
unfoldable pub levels_on : ℕ → List Level → List Open → List Open
levels_on left [] under = under
levels_on left (level ∷ more) under = levels_on (left - 1) more (open_level left level ++ under)

-- at most so many containers stand around another
abbrev pub most_below : ℕ
most_below = 31

-- what is open in these containers
abbrev pub around : List Level → List Open
around below = levels_on outer_levels below []

-- what is open in the innermost container and in those around it
abbrev pub stack_of : Level → List Level → List Open
stack_of top below = open_level (outer_levels - length below) top ++ around below

-- The text ends in a binary that lacks so many of its bytes, behind which this is open.
pub record StackLacks (Spells : Spelling) (before : List Open) (text : List ℕ) (many : ℕ) (after : List Open) : Type 0 where
  pub held : ℕ
  pub rest : List ℕ
  pub passes : Passes Spells before text (in_bytes held ∷ after) rest
  pub missing : held ≡ length rest + many
  pub some : 1 ≤ many

-- A scan that began in front of `start` stands behind the bytes `whole`, in the container `top` with those of `below` around it.
-- Of the bytes it keeps `carry`, and it knows that `missing` bytes of a binary are to come.
pub data Place (Spells : Spelling) (start : Open) (whole : List ℕ) (top : Level) (below : List Level) (carry : List ℕ)
    (missing : ℕ) : Type 0 where
  -- in front of a part, or in it: the carry has what came of it
  at_part : missing ≡ 0 → Passes Spells (start ∷ []) whole (stack_of top below) carry → length carry ≤ most_unfinished
      → Place Spells start whole top below carry missing
  -- so many bytes of a binary are to come
  in_binary : carry ≡ [] → StackLacks Spells (start ∷ []) whole missing (stack_of top below)
      → Place Spells start whole top below carry missing
