-- Notes, one behind the other.
use Rattle.std.proofs.Common.{◌≡◌, ℕ, Bool, true, false, List, [], ◌++◌, sym, subst, ◌∙◌, inl, inr, append_assoc, append-nil}
use Rattle.span_io.specs.Outside.{Outlet, GainLaws}
use Rattle.span_notes.specs.Notes.{Notes, NotesSo, NotesMore}

-- nothing more was noted
pub notes_nothing : (held : Bool) (now : Outlet) → NotesMore held held now now []
notes_nothing held now = λ start text so. subst (λ (l : List ℕ). NotesSo held start now l) (sym (append-nil text)) so

-- the one, and then the other
pub notes_both : (a b c : Bool) (x y z : Outlet) (first second : List ℕ) → NotesMore a b x y first → NotesMore b c y z second
    → NotesMore a c x z (first ++ second)
notes_both a b c x y z first second more then = λ start text so.
    subst (λ (l : List ℕ). NotesSo c start z l) (append_assoc text first second) (then start (text ++ first) (more start text so))

-- all that was noted, where no note had failed before
pub notes_all : GainLaws → (holds : Bool) (x y : Outlet) (text : List ℕ) → NotesMore true holds x y text → Notes x y text
notes_all laws holds x y text more = by holds (more x [] (laws.none x, laws.still x))
  where
    by : (holds : Bool) → NotesSo holds x y text → Notes x y text
    by true so = inl so
    by false at = inr at

-- the same text, told otherwise
pub notes_as : (held holds : Bool) (x y : Outlet) (line more : List ℕ) → line ≡ more → NotesMore held holds x y line → NotesMore held holds x y more
notes_as held holds x y line more e noted = subst (λ (l : List ℕ). NotesMore held holds x y l) e noted

-- a line in one piece
pub notes_line : (held holds : Bool) (x y : Outlet) (line text : List ℕ) → line ≡ text → NotesMore held holds x y (line ++ []) → NotesMore held holds x y text
notes_line held holds x y line text e noted = notes_as held holds x y (line ++ []) text (append-nil line ∙ e) noted
