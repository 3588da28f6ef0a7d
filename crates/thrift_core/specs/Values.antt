-- One value at the front of some bytes, and the struct of a stream: what callers are told of them.
use Rattle.std.specs.Prelude.{◌≡◌, ◌≢◌, ◌↔◌, ℕ, Bool, Option, List, Result, Err}
use Rattle.span_io.specs.declared.cause.Cause.{Cause}
use Rattle.span_io.specs.declared.cause.Cause.TheVariants as causes
use Rattle.span_io.specs.Frames.{Framing, BeginsFrame, IsOpen, IsRefusedAt}
use Rattle.span_io.specs.declared.step.Step.{Step}
use Rattle.span_io.specs.Steps.{StepIs}
use Rattle.thrift_core.specs.declared.type_code.TypeCode.{TypeCode}
use Rattle.thrift_core.specs.Parts.{Part, Spelling}
use Rattle.thrift_core.specs.Trees.{Tree, kind_of, ValueThen}
use Rattle.thrift_core.specs.Walks.{in_value, texts_from, RefusedFrom, outer_struct}

-- a value of this type, for which so many levels are left, and then rest
abbrev pub BeginsValue : Spelling → ℕ → TypeCode → Option Bool → List ℕ → List ℕ → Type 0
BeginsValue Spells left kind held whole rest = (tree : Tree) × (kind_of tree ≡ kind) × ValueThen Spells tree left held whole rest

-- the texts of such values
abbrev pub values : Spelling → (Part → List ℕ → Type 0) → ℕ → TypeCode → Option Bool → Framing
values Spells ThenVarint left kind held = texts_from Spells ThenVarint (in_value left kind held)

-- The answer is Truncated exactly where the bytes are open as such an item, and another cause exactly where it refuses them.
pub record AnswersRefusals {A : Type 0} (F : Framing) (EndsIn : Cause → List ℕ → Type 0) (result : Result A Cause)
    (bytes : List ℕ) : Type 0 where
  pub short : (result ≡ Err causes.Truncated) ↔ IsOpen F bytes
  pub bad : (cause : Cause) → cause ≢ causes.Truncated → (result ≡ Err cause) ↔ IsRefusedAt F (EndsIn cause) bytes
  -- no value is refused for the length of its unit
  pub within : result ≢ Err causes.UnitTooLong

-- the same of a value
abbrev pub RefusesValue : {A : Type 0} → Spelling → (Part → List ℕ → Type 0) → (Part → Cause → List ℕ → Type 0) → ℕ → TypeCode
    → Option Bool → Result A Cause → List ℕ → Type 0
RefusesValue Spells ThenVarint Refuses left kind held result bytes =
    AnswersRefusals (values Spells ThenVarint left kind held) (RefusedFrom Spells Refuses (in_value left kind held)) result bytes

-- ---- structs

-- the texts of a struct that no other container holds
abbrev pub struct_frames : Spelling → (Part → List ℕ → Type 0) → Framing
struct_frames Spells ThenVarint = texts_from Spells ThenVarint outer_struct

-- what refuses such a text, by the cause that this names
abbrev pub RefusedStruct : Spelling → (Part → Cause → List ℕ → Type 0) → Cause → List ℕ → Type 0
RefusedStruct Spells Refuses = RefusedFrom Spells Refuses outer_struct

-- what the answer says of the struct at the front of the bytes
abbrev pub FirstStructIs : Spelling → (Part → List ℕ → Type 0) → (Part → Cause → List ℕ → Type 0) → ℕ → List ℕ → Step → Type 0
FirstStructIs Spells ThenVarint Refuses limit bytes step =
    StepIs (struct_frames Spells ThenVarint) (RefusedStruct Spells Refuses) limit bytes step

-- The steps of a scanner are those over structs, and its frames are structs.
pub record FindsStructs (F : Framing) (EndsIn : Cause → List ℕ → Type 0) (Spells : Spelling) (ThenVarint : Part → List ℕ → Type 0)
    (Refuses : Part → Cause → List ℕ → Type 0) : Type 0 where
  pub steps : (limit : ℕ) (bytes : List ℕ) (step : Step)
      → StepIs F EndsIn limit bytes step ↔ FirstStructIs Spells ThenVarint Refuses limit bytes step
  pub frames : (limit n : ℕ) (bytes : List ℕ)
      → BeginsFrame F limit n bytes ↔ BeginsFrame (struct_frames Spells ThenVarint) limit n bytes

-- So it is where its framing and its refusals are those of structs.
pub finds_own : {Spells : Spelling} {ThenVarint : Part → List ℕ → Type 0} {Refuses : Part → Cause → List ℕ → Type 0}
    → FindsStructs (struct_frames Spells ThenVarint) (RefusedStruct Spells Refuses) Spells ThenVarint Refuses
finds_own = record { steps = λ limit bytes step. (λ h. h, λ h. h); frames = λ limit n bytes. (λ h. h, λ h. h) }
