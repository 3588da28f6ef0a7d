-- What the laws of verdicts rest on, over what a form of frames says of an input.
use Rattle.std.proofs.Common.{◌≡◌, ◌<◌, ◌-◌, ◌++◌, ◌∷◌, ◌⊎◌, ℕ, List, [], length, take, All}
use Rattle.std.specs.List.{AllByRecursion}
use Rattle.span_io.specs.Causes.{cause_number}
use Rattle.span_io.specs.Frames.{BeginsFrame}
use Rattle.span_io.specs.Framings.{OneStep, RestIs}
use Rattle.span_io.specs.Offences.{Least}
use Rattle.span_io.specs.Pieces.{PieceLaws}
use Rattle.span_io.specs.declared.cause.Cause.{Cause}
use Rattle.span_io.specs.declared.limits.Limits.{Limits}
use Rattle.trace_model.specs.Proper.{IsProperGroup}
use Rattle.trace_model.specs.Soundness.{IsSoundGroup}
use Rattle.trace_model.specs.OtlpParts.{NotedGroup}
use Rattle.span_convert.specs.FramedForms.{FramedForm}

abbrev pub AreBytes : List ℕ → Type 0
AreBytes text = All (λ b. b < 256) text

abbrev pub AllBytes : List (List ℕ) → Type 0
AllBytes texts = AllByRecursion AreBytes texts

module _ (from : FramedForm) (limits : Limits) where
  -- nothing of the input's form begins at the rest
  abbrev pub Ends : List ℕ → Type 0
  Ends rest = (n : ℕ) → BeginsFrame from.frames limits.unit n rest → ⊥

  -- the units are held before some rest
  pub record HeldBy (text : List ℕ) (units : List (List ℕ)) : Type 0 where
    pub rest : List ℕ
    pub held : from.HoldsUnits limits text units rest

  -- behind the units and their rest others go on; none do where nothing begins there
  pub record GoOn (units others : List (List ℕ)) (rest other : List ℕ) : Type 0 where
    pub behind : List (List ℕ)
    pub parts : others ≡ units ++ behind
    pub ended : Ends rest → (others ≡ units) × (rest ≡ other)

  -- the units of an input, and what comes of the rest behind them all
  pub record AllUnits (text : List ℕ) : Type 0 where
    pub units : List (List ℕ)
    pub rest : List ℕ
    pub held : from.HoldsUnits limits text units rest
    pub framed : AllByRecursion from.Tells units
    pub rest_is : RestIs from.frames from.Refused limits.unit rest

-- what a unit is, two walks over one input, and one that goes on
pub record SourceLaws (from : FramedForm) : Type 0 where
  pub one_group : (unit : List ℕ) (g h : NotedGroup) → from.IsUnit unit g → from.IsUnit unit h → g ≡ h
  pub fine : (unit : List ℕ) (g : NotedGroup) → from.IsUnit unit g → (place n : ℕ) → from.Offends unit place n → ⊥
  pub walks : (limits : Limits) (text : List ℕ) (units others : List (List ℕ)) (rest other : List ℕ) → from.HoldsUnits limits text units rest → from.HoldsUnits limits text others other
      → GoOn from limits units others rest other ⊎ GoOn from limits others units other rest
  pub before : (limits : Limits) (text : List ℕ) (before : List (List ℕ)) (unit rest : List ℕ) → from.HoldsUnits limits text (before ++ unit ∷ []) rest → HeldBy from limits text before
  -- no bytes hold no unit
  pub nothing : (limits : Limits) → from.HoldsUnits limits [] [] []
  -- units of some bytes are units of more of them, with more at their rest as far as the limit goes
  pub longer : (limits : Limits) (text more : List ℕ) (units : List (List ℕ)) (rest : List ℕ) → from.HoldsUnits limits text units rest
      → from.HoldsUnits limits (text ++ more) units (rest ++ take (limits.binary - length text) more)
  pub step : OneStep from.frames from.Refused
  pub pieces : PieceLaws from.frames from.Refused

-- ---- what is known of units

-- the unit is a text of a group, or an offence counts in it
abbrev pub IsDecidedUnit : FramedForm → List ℕ → Type 0
IsDecidedUnit from unit = ((group : NotedGroup) × from.IsUnit unit group) ⊎ ((cause : Cause) × Least (from.Offends unit) (cause_number cause))

abbrev pub Decides : FramedForm → Type 0
Decides from = (unit : List ℕ) → AreBytes unit → from.Tells unit → IsDecidedUnit from unit

-- An input has units of bytes, each of which is decided. What a unit is a text of is sound and proper.
pub record UnitLaws (from : FramedForm) : Type 0 where
  pub all_units : (limits : Limits) (text : List ℕ) → AllUnits from limits text
  pub are_bytes : (limits : Limits) (text : List ℕ) (units : List (List ℕ)) (rest : List ℕ) → AreBytes text → from.HoldsUnits limits text units rest → AllBytes units
  pub decides : Decides from
  pub sound : (unit : List ℕ) (group : NotedGroup) → from.IsUnit unit group → IsSoundGroup group.means
  pub proper : (unit : List ℕ) (group : NotedGroup) → AreBytes unit → from.IsUnit unit group → IsProperGroup group.means
