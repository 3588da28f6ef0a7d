-- What a reader judges, row by row.
use Rattle.std.specs.Prelude.{ℕ, ◌≤◌, ◌⊎◌, List, [], ◌∷◌, ◌++◌, Option, Result, Ok, Err}
use Rattle.span_io.specs.Causes.{cause_number}
use Rattle.span_io.specs.declared.cause.Cause.{Cause}
use Rattle.span_io.specs.declared.halt.Halt.{Halt}
use Rattle.span_io.specs.Offences.{Format, Rules, Offence, HereOrInside, Judges}
use Rattle.span_io.specs.Tables.{Twice, Above}
use Rattle.span_io.specs.RowsSoFar.{Gave}

-- one more item of a repeated row, which holds this, by what its reader gathers
abbrev pub Adds : {A B : Type 0} → (List A → B → Type 0) → A → B → B → Type 0
Adds {A} Gathered held old new = (earlier : List A) → Gathered earlier old → Gathered (earlier ++ held ∷ []) new

-- Of the numbers that offend the least is answered, if there is any.
abbrev pub JudgesCause : {T : Type 0} → Result T Cause → (ℕ → Type 0) → Type 0
JudgesCause (Ok x) Offends = (n : ℕ) → ¬ Offends n
JudgesCause (Err cause) Offends = Offends (cause_number cause) × ((n : ℕ) → Offends n → cause_number cause ≤ n)

-- what is answered of an item of a singular row that offends so by itself, whatever items of the row came before
abbrev pub JudgesSingular : {A B T : Type 0} → (A → B → Type 0) → (ℕ → Type 0) → Option B → Result T Cause → Type 0
JudgesSingular {A} Means Wrong row result =
    (earlier : List A) → Gave Means earlier row → JudgesCause result (λ n. Twice earlier n ⊎ Wrong n)

-- the same of an enum up to its last number
abbrev pub JudgesEnum : {B T : Type 0} → (ℕ → B → Type 0) → ℕ → Option B → ℕ → Result T Cause → Type 0
JudgesEnum Means last row n result = JudgesSingular Means (λ number. Above last n number) row result

-- how a message of these rules offends in a singular row, of which earlier ones were seen
abbrev pub OffendsAlone : (F : Format) → Rules F.Item → List F.Rest → F.Rest → ℕ → ℕ → Type 0
OffendsAlone F rules earlier held place number = HereOrInside (Twice earlier) (Offence F rules held) place number

-- what is answered of a singular message, whatever items of its row came before
abbrev pub JudgesMessage : (F : Format) → {B T : Type 0} → (F.Rest → B → Type 0) → Rules F.Item → Option B → F.Rest
    → Result T (Halt Cause) → Type 0
JudgesMessage F Means rules row held result =
    (earlier : List F.Rest) → Gave Means earlier row → Judges result (OffendsAlone F rules earlier held)
