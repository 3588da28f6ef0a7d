-- What was noted. Notes that fail change nothing of what a program does.
use Rattle.std.specs.Prelude.{ℕ, ◌⊎◌, Bool, true, false, List, ◌++◌}
use Rattle.span_io.specs.Outside.{Outlet, Gains, OutputHolds, FailsAt}

-- the notes gained the line without a fault, or failed at a byte of it
abbrev pub Notes : Outlet → Outlet → List ℕ → Type 0
Notes before now line = Gains before now line × OutputHolds before now ⊎ FailsAt before now line

-- the text was noted so far, and no note has failed, or one has failed within it
abbrev pub NotesSo : Bool → Outlet → Outlet → List ℕ → Type 0
NotesSo true before now text = Gains before now text × OutputHolds before now
NotesSo false before now text = FailsAt before now text

-- this text was noted behind the others, where no note had failed
abbrev pub NotesMore : Bool → Bool → Outlet → Outlet → List ℕ → Type 0
NotesMore held holds before now more =
    (start : Outlet) (text : List ℕ) → NotesSo held start before text → NotesSo holds start now (text ++ more)
