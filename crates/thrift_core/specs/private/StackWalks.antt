-- A walk over a struct that stops where its bytes end and goes on from there: what each of its steps comes to.
use Rattle.std.specs.Prelude.{◌≡◌, ◌<◌, ◌⊎◌, ◌+◌, ◌*◌, ◌-◌, ℕ, zero, suc, Bool, true, false, Option, Some, None, List, [], ◌∷◌, length, Result, Ok, Err}
use Rattle.span_io.specs.declared.cause.Cause.{Cause}
use Rattle.thrift_core.specs.declared.passing.Halted.{Halted}
use Rattle.thrift_core.specs.declared.passing.Halted.TheVariants as halts
use Rattle.thrift_core.specs.declared.stack.Level.{Level}
use Rattle.thrift_core.specs.declared.stack.Level.TheVariants as levels
use Rattle.thrift_core.specs.declared.stack.Stack.{Stack}
use Rattle.thrift_core.specs.declared.stepping.Coming.{Coming}
use Rattle.thrift_core.specs.declared.stepping.Coming.TheVariants as comings
use Rattle.thrift_core.specs.declared.type_code.TypeCode.{TypeCode}
use Rattle.thrift_core.specs.declared.type_code.TypeCode.TheVariants as kinds
use Rattle.thrift_core.specs.Parts.{Spelling}
use Rattle.thrift_core.specs.Places.{open_level, stack_of, StackLacks}
use Rattle.thrift_core.specs.Reading.{ReadingOf}
use Rattle.thrift_core.specs.Stops.{StopsBy}
use Rattle.thrift_core.specs.Trees.{outer_levels}
use Rattle.thrift_core.specs.Walks.{Open, in_value, First, made_of, no_level, first_of, first_of_list, first_of_map, Passes}

-- ---- what is open

-- what is open where a walk stands: in the innermost container, and then in those around it
abbrev pub open_of : Stack → List Open
open_of s = stack_of s.top s.below.items

-- the same, where anything is
abbrev pub still_open : Bool → Stack → List Open
still_open true s = open_of s
still_open false s = []

-- what is open in a container, if there is one
abbrev pub open_of_level : ℕ → Option Level → List Open
open_of_level left None = []
open_of_level left (Some level) = open_level left level

-- how many levels of containers are left in the innermost one
abbrev pub levels_in : Stack → ℕ
levels_in s = outer_levels - length s.below.items

-- ---- what comes first

-- of a list or set, and of a map, for which so many levels are left
abbrev pub list_first : ℕ → First
list_first zero = no_level
list_first (suc left) = first_of_list left

-- the same of a map
abbrev pub map_first : ℕ → First
map_first zero = no_level
map_first (suc left) = first_of_map left

-- this holds of whatever begins so
abbrev pub AsFirst : First → (Open → Type 0) → Type 0
AsFirst first Holds = (start : Open) → first_of start ≡ first → Holds start

-- a value of this type is one part
abbrev pub IsLeaf : TypeCode → Type 0
IsLeaf kinds.Binary = ⊥
IsLeaf kinds.Struct = ⊥
IsLeaf kinds.Map = ⊥
IsLeaf kinds.Set = ⊥
IsLeaf kinds.List = ⊥
IsLeaf other = Unit {0}

-- what is open is made of these
abbrev pub IsMadeOf : List Open → List Open → Type 0
IsMadeOf before opened = (top : Open) × (before ≡ top ∷ []) × (first_of top ≡ made_of opened)

-- steps that pass no bytes lessen this
abbrev pub weight : Level → ℕ
weight (levels.Fields last) = 0
weight other = 2

-- this comes first of the container: the head of a field or the stop byte, a value with what is to come behind it, or nothing,
-- where the container is over
abbrev pub ComesFirst : Level → Coming → Type 0
ComesFirst level (comings.Header last) = level ≡ levels.Fields last
ComesFirst level (comings.Value kind held behind) =
    (weight level ≡ 2) × ((left : ℕ) → let opened = in_value left kind held ∷ open_level left behind in (open_level left level ≡ opened) ⊎ IsMadeOf (open_level left level) opened)
ComesFirst level comings.End = (weight level ≡ 2) × ((left : ℕ) → IsMadeOf (open_level left level) [])

-- a value that has no bytes stands in a field
abbrev pub IsHeldBefore : Coming → Type 0
IsHeldBefore (comings.Value kind held behind) = (held ≡ None) ⊎ (weight behind ≡ 0)
IsHeldBefore other = Unit {0}

-- ---- steps

-- what is left of a walk
abbrev pub steps_left : Stack → List ℕ → ℕ
steps_left s rest = 4 * length rest + weight s.top + length s.below.items

-- a value was passed, or entered
abbrev pub IsNearer : Stack → List ℕ → Stack → List ℕ → Type 0
IsNearer old text new rest = steps_left new rest < 4 * length text + 2 + length old.below.items

-- no word stands in front of the rest, by this cause
pub record StackStops (reads : ReadingOf) (Spells : Spelling) (before : List Open) (text : List ℕ) (cause : Cause) : Type 0 where
  pub top : Open
  pub below : List Open
  pub passes : Passes Spells before text (top ∷ below) text
  pub stops : StopsBy reads (first_of top) text cause

-- The step over a value, behind which this is to come of its container.
abbrev pub ValueStepped : Spelling → ReadingOf → Level → Stack → List ℕ → Result Unit Halted → Stack → List ℕ → Open → Type 0
ValueStepped Spells reads behind old text (Ok _) new rest value =
    Passes Spells (value ∷ stack_of behind old.below.items) text (open_of new) rest
ValueStepped Spells reads behind old text (Err (halts.For cause)) new rest value =
    StopsBy reads (first_of value) text cause × (new ≡ old) × (rest ≡ text)
ValueStepped Spells reads behind old text (Err (halts.Lacking many)) new rest value =
    StackLacks Spells (value ∷ stack_of behind old.below.items) text many (open_of new)

-- where a walk halts, it stands in front of what stops it, or in the binary that lacks bytes
abbrev pub HaltsThere : Spelling → ReadingOf → List Open → List ℕ → Halted → Stack → List ℕ → Type 0
HaltsThere Spells reads before text (halts.For cause) new rest =
    Passes Spells before text (open_of new) rest × StackStops reads Spells (open_of new) rest cause
HaltsThere Spells reads before text (halts.Lacking many) new rest = StackLacks Spells before text many (open_of new)

-- The step over what comes first.
abbrev pub Stepped : Spelling → ReadingOf → Stack → List ℕ → Result Bool Halted → Stack → List ℕ → Type 0
Stepped Spells reads old text (Ok true) new rest =
    Passes Spells (open_of old) text (open_of new) rest × (steps_left new rest < steps_left old text)
Stepped Spells reads old text (Ok false) new rest = Passes Spells (open_of old) text [] rest
Stepped Spells reads old text (Err halted) new rest = HaltsThere Spells reads (open_of old) text halted new rest

-- All steps.
abbrev pub Walked : Spelling → ReadingOf → Stack → List ℕ → Result Unit Halted → Stack → List ℕ → Type 0
Walked Spells reads old text (Ok _) new rest = Passes Spells (open_of old) text [] rest
Walked Spells reads old text (Err halted) new rest = HaltsThere Spells reads (open_of old) text halted new rest
