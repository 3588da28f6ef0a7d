-- Remarks on the members of a list, by what is noted of each.
--     AreNumbered    the remarks on all members, of which the first has the number n
--     AddsNoted      the remarks on one member of a number are added
--     IsNumberedBy   whatever remarks the members that are left get, behind these they make the remarks on the whole list
use Rattle.std.specs.Prelude.{◌≡◌, ℕ, suc, List, ◌++◌}
use Rattle.std.specs.List.{AllZip, zip}
use Rattle.trace_model.specs.Remarks.{numbered}
use Rattle.trace_model.specs.declared.remark.Remark.{Remark}

module _ {A K : Type 0} where
  -- these are the remarks on the members, of which the first has the number n, by a note that is right of each
  pub record AreNumbered (Noted : A → K → Type 0) (remarks : ℕ → A × K → List Remark) (n : ℕ) (xs : List A) (found : List Remark)
      : Type 0 where
    pub notes : List K
    pub theirs : AllZip Noted xs notes
    pub all : found ≡ numbered remarks n (zip xs notes)

  -- the remarks on this member, of the number n, come behind the old ones, by a note that is right of it
  pub record AddsNoted (Noted : A → K → Type 0) (remarks : ℕ → A × K → List Remark) (n : ℕ) (x : A) (old new : List Remark)
      : Type 0 where
    pub note : K
    pub its : Noted x note
    pub all : new ≡ old ++ remarks n (x, note)

  -- n is the number of the last member that was gone through: what was found, and behind it the remarks on the rest, counted
  -- from the next number on, are the remarks on the whole list, counted from 1
  abbrev pub IsNumberedBy : (A → K → Type 0) → (ℕ → A × K → List Remark) → ℕ → List A → List A → List Remark → Type 0
  IsNumberedBy Noted remarks n rest xs found =
      (more : List Remark) → AreNumbered Noted remarks (suc n) rest more → AreNumbered Noted remarks 1 xs (found ++ more)
