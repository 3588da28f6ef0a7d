-- What is wrong with a value made of members and elements, and which of it counts. An offence stands at a path: the number of a member
-- in its table or of an element in its list, counted from 0, then the path inside that one. The empty path is the value itself. These
-- words know nothing of any text; they serve each format whose values are objects and arrays.
use Rattle.std.specs.Prelude.{◌≡◌, ℕ, zero, suc, ◌<◌, ◌≤◌, ◌⊎◌, List, [], ◌∷◌, Option, Some, None, Result, Ok, Err}
use Rattle.span_io.specs.Causes.{cause_number}
use Rattle.span_io.specs.declared.cause.Cause.{Cause}
use Rattle.span_io.specs.declared.halt.Halt.{Halt}
use Rattle.span_io.specs.declared.halt.Halt.TheVariants as halts
use Rattle.span_io.specs.declared.refusal.Refusal.{Refusal}

-- what offends in a value: at this path, with this number
abbrev pub Offences : Type 1
Offences = List ℕ → ℕ → Type 0

-- nothing offends, at any path
abbrev pub nothing : Offences
nothing path number = ⊥

-- the value itself offends with these numbers
abbrev pub here : (ℕ → Type 0) → Offences
here Numbers [] number = Numbers number
here Numbers (i ∷ path) number = ⊥

-- a member or element, and then the others; what offends in the whole stands with the others
infixr 5 ◌▹◌
-- a path that begins with 0 goes on inside the first; one that begins with i + 1 is, among the others, one that begins with i
unfoldable pub ◌▹◌ : Offences → Offences → Offences
◌▹◌ First Others [] number = Others [] number
◌▹◌ First Others (zero ∷ path) number = First path number
◌▹◌ First Others (suc i ∷ path) number = Others (i ∷ path) number

module _ {A : Type 0} where
  -- Missing: a member that must be there
  abbrev pub required : (A → Offences) → Option A → Offences
  required Offends None = here (λ number. number ≡ 8)
  required Offends (Some x) = Offends x

  -- a member that may be absent
  abbrev pub optional : (A → Offences) → Option A → Offences
  optional Offends None = nothing
  optional Offends (Some x) = Offends x

  -- the elements of a list
  abbrev pub each : (A → Offences) → List A → Offences
  each Offends [] = nothing
  each Offends (x ∷ more) = Offends x ▹ each Offends more

  -- BadShape: a value that must be of a kind
  abbrev pub valued : (A → Offences) → Option A → Offences
  valued Offends None = here (λ number. number ≡ 11)
  valued Offends (Some x) = Offends x

-- what a member means, or what its absence does
abbrev pub Given : {A D : Type 0} → (A → D → Type 0) → (A → Type 0) → A → Option D → Type 0
Given Means IsDefault x None = IsDefault x
Given Means IsDefault x (Some d) = Means x d

-- a required member is never absent
abbrev pub Never : {A : Type 0} → A → Type 0
Never x = ⊥

-- a value that must be of a kind, and means this by what it holds
pub record OfKind {A K : Type 0} (M : A → K → Type 0) (x : A) (o : Option K) : Type 0 where
  pub held : K
  pub shape : o ≡ Some held
  pub means : M x held

-- ---- the order of paths, and the offence that counts

-- number by number, a path before its extensions
abbrev pub ComesBefore : List ℕ → List ℕ → Type 0
ComesBefore [] [] = ⊥
ComesBefore [] (j ∷ q) = Unit {0}
ComesBefore (i ∷ p) [] = ⊥
ComesBefore (i ∷ p) (j ∷ q) = (i < j) ⊎ ((i ≡ j) × ComesBefore p q)

-- of all offences the first by path, and at one path the least number
pub record IsLeast (Offends : Offences) (path : List ℕ) (number : ℕ) : Type 0 where
  pub offence : Offends path number
  pub least : (p : List ℕ) (n : ℕ) → Offends p n → ComesBefore path p ⊎ ((path ≡ p) × (number ≤ n))

-- nothing offends
pub record NothingOffends (Offends : Offences) : Type 0 where
  pub none : (path : List ℕ) (number : ℕ) → ¬ Offends path number

-- the value itself doesn't offend
pub record Quiet (Offends : Offences) : Type 0 where
  pub none : (number : ℕ) → ¬ Offends [] number

-- ---- what a reader answers

-- this is the number of the offence that counts
pub record Counts (Offends : Offences) (number : ℕ) : Type 0 where
  pub path : List ℕ
  pub is_least : IsLeast Offends path number

-- A reader that halts for a cause tells the offence that counts. One that halts for want of memory says nothing of offences.
abbrev pub Halts : Halt Cause → Offences → Type 0
Halts (halts.Why cause) Offends = Counts Offends (cause_number cause)
Halts halts.OutOfMemory Offends = Unit {0}

-- Nothing offends where there is a value, and a cause is that of the offence that counts.
abbrev pub JudgesValue : {T : Type 0} → Result T (Halt Cause) → Offences → Type 0
JudgesValue (Ok x) Offends = NothingOffends Offends
JudgesValue (Err halt) Offends = Halts halt Offends

-- The same of a call that wants no memory, so a cause is all that it gives in place of a value.
abbrev pub JudgesByCause : {T : Type 0} → Result T Cause → Offences → Type 0
JudgesByCause (Ok x) Offends = NothingOffends Offends
JudgesByCause (Err cause) Offends = Counts Offends (cause_number cause)

-- the number of the element that a path leads into, from 1, and 0 for the whole
abbrev pub unit_of : List ℕ → ℕ
unit_of [] = 0
unit_of (i ∷ path) = suc i

-- a refusal has the number of the offence that counts, and of the element that it stands in
pub record RefusesInput (Offends : Offences) (refusal : Refusal) : Type 0 where
  pub path : List ℕ
  pub is_least : IsLeast Offends path (cause_number refusal.cause)
  pub unit : refusal.unit ≡ unit_of path

-- A refusal tells the offence that counts and the unit that it stands in. Want of memory says nothing of offences.
abbrev pub HaltsInput : Halt Refusal → Offences → Type 0
HaltsInput (halts.Why refusal) Offends = RefusesInput Offends refusal
HaltsInput halts.OutOfMemory Offends = Unit {0}

-- The same of an input, which is a list of units.
abbrev pub JudgesInput : {T : Type 0} → Result T (Halt Refusal) → Offences → Type 0
JudgesInput (Ok x) Offends = NothingOffends Offends
JudgesInput (Err halt) Offends = HaltsInput halt Offends

-- a halt in the unit of this number
abbrev pub in_unit : ℕ → Halt Cause → Halt Refusal
in_unit unit (halts.Why cause) = halts.Why (record { unit = unit; cause = cause })
in_unit unit halts.OutOfMemory = halts.OutOfMemory
