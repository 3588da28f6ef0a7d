-- What the calls of a keeper answer, and what they make of its spool. Each is told by its result.
use Rattle.std.specs.Prelude.{◌≡◌, ◌≢◌, ◌⊎◌, ℕ, ◌+◌, ◌-◌, ◌<◌, Bool, true, false, List, [], ◌∷◌, ◌++◌, drop, Option, Some, None, IfSome, option_map, Result, Ok, Err}
use Rattle.span_io.specs.Outside.{Rose}
use Rattle.span_io.specs.declared.form.Form.{Form}
use Rattle.span_spool.specs.Spools.{Spool, last_number}
use Rattle.span_spool.specs.declared.keeper.KeepFault.{KeepFault}
use Rattle.span_spool.specs.declared.keeper.KeepFault.TheVariants as faults
use Rattle.span_spool.specs.declared.kept.Kept.{Kept}

-- as it was, with so many faults
abbrev pub stays : Spool → ℕ → Spool
stays s count = record { rows = s.rows; room = s.room; held = s.held; next = s.next; faults = count }

-- with a row more at the end
abbrev pub grown : Spool → Kept → ℕ → Spool
grown s row count = record {
  rows = option_map (λ rows. rows ++ row ∷ []) s.rows;
  room = s.room;
  held = s.held + 1;
  next = s.next + 1;
  faults = count;
}

-- without its first row
abbrev pub shrunk : Spool → ℕ → Spool
shrunk s count = record { rows = option_map (drop 1) s.rows; room = s.room; held = s.held - 1; next = s.next; faults = count }

-- the body became the last row, and got the next number
pub record KeepsRow (form : Form) (body : List ℕ) (before now : Spool) (n : ℕ) : Type 0 where
  pub room : before.held ≢ before.room
  pub numbers : before.next ≢ last_number
  pub number : n ≡ before.next
  pub grows : now ≡ grown before (record { number = n; form = form; body = body }) now.faults

-- what a call to keep a body answers: the number that it got, or a fault, and then no row was added: the outside refused the
-- call (Failed), there is no room (Full), or there is room but no number left (Spent), or memory is wanted (OutOfMemory)
abbrev pub Keeps : Form → List ℕ → Spool → Spool → Result ℕ KeepFault → Type 0
Keeps form body before now (Ok n) = KeepsRow form body before now n
Keeps form body before now (Err faults.Failed) = Rose before.faults now.faults × (now ≡ stays before now.faults)
Keeps form body before now (Err faults.Full) = (before.held ≡ before.room) × (now ≡ stays before now.faults)
Keeps form body before now (Err faults.Spent) =
    (before.held ≢ before.room) × (before.next ≡ last_number) × (now ≡ stays before now.faults)
Keeps form body before now (Err faults.OutOfMemory) = now ≡ before

-- a fault that has nothing to do with what is kept
abbrev pub Halts : Spool → Spool → KeepFault → Type 0
Halts before now faults.Failed = Rose before.faults now.faults × (now ≡ stays before now.faults)
Halts before now faults.Full = ⊥
Halts before now faults.Spent = ⊥
Halts before now faults.OutOfMemory = now ≡ before

-- these rows begin with this one
abbrev pub BeginWith : List Kept → Kept → Type 0
BeginWith rows row = (others : List Kept) × (rows ≡ row ∷ others)

-- the row is a copy of the first
pub record IsFirst (s : Spool) (row : Kept) : Type 0 where
  pub some : 0 < s.held
  pub number : row.number ≡ s.next - s.held
  pub first : IfSome s.rows (λ rows. BeginWith rows row)

-- what a call for the first row answers: a copy of it, or none where no row is held; the rows stay as they were
abbrev pub GivesFirst : Spool → Spool → Result (Option Kept) KeepFault → Type 0
GivesFirst before now (Ok None) = (before.held ≡ 0) × (now ≡ stays before now.faults)
GivesFirst before now (Ok (Some row)) = IsFirst before row × (now ≡ stays before now.faults)
GivesFirst before now (Err fault) = Halts before now fault

-- the first row, which has this number, went
pub record DropsRow (number : ℕ) (before now : Spool) : Type 0 where
  pub some : 0 < before.held
  pub is_first : number ≡ before.next - before.held
  pub shrinks : now ≡ shrunk before now.faults

-- what a call to drop the row of this number answers: true where it was the first and went, false where no row is held or the
-- first has another number, and then the rows stay as they were
abbrev pub DropsFirst : ℕ → Spool → Spool → Result Bool KeepFault → Type 0
DropsFirst number before now (Ok true) = DropsRow number before now
DropsFirst number before now (Ok false) =
    ((before.held ≡ 0) ⊎ (number ≢ before.next - before.held)) × (now ≡ stays before now.faults)
DropsFirst number before now (Err fault) = Halts before now fault
