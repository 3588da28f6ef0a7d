-- What the parts of sending a request over a connection do to it.
use Rattle.std.specs.Prelude.{◌≡◌, ◌≤◌, ℕ, ◌+◌, List, [], ◌++◌, length, take, IsTrue, Option, Some, None, Result, Ok, Err}
use Rattle.std.specs.Io.KnownBytes.{Consumes, IsAtEnd}
use Rattle.span_io.specs.Links.{Link, mark_of_reads}
use Rattle.span_io.specs.Outside.{Gains, InputFails, OutputHolds}
use Rattle.span_io.specs.declared.course.ReadCourse.TheVariants as reads
use Rattle.span_io.specs.declared.source.Failed.{Failed}
use Rattle.http_conn.specs.Sendings.{FailsToRead, FailsToWrite, IsAnswered, IsNotAnswered}

-- ---- writing

-- this text was written, and nothing was read
pub record WritesAll (before now : Link) (text : List ℕ) : Type 0 where
  pub gains : Gains before.outlet now.outlet text
  pub holds : OutputHolds before.outlet now.outlet
  pub inlet : now.inlet ≡ before.inlet
  pub mark : now.mark ≡ before.mark

-- this text was written, or a write failed within it; nothing was read
abbrev pub Writes : {T : Type 0} → Link → Link → List ℕ → Result T Failed → Type 0
Writes before now text (Ok x) = WritesAll before now text
Writes before now text (Err e) = FailsToWrite before now text

-- ---- reading

-- a read gave so many bytes behind those that were there
pub record ReadsMore (before now : Link) (old new : List ℕ) (given : ℕ) : Type 0 where
  pub piece : List ℕ
  pub number : length piece ≡ given
  pub appends : new ≡ old ++ piece
  pub gave : Consumes before.inlet.left now.inlet.left piece
  pub ends : given ≡ 0 → IsAtEnd now.inlet.left
  pub quiet : now.inlet.faults ≡ before.inlet.faults
  pub steady : now.inlet.steady ≡ before.inlet.steady
  pub outlet : now.outlet ≡ before.outlet
  pub mark : now.mark ≡ mark_of_reads {E = Unit} before (Ok given)
  pub goes : 1 ≤ given → before.inlet.course ≡ Some reads.Going → now.inlet.course ≡ Some reads.Going
  pub in_vain : before.inlet.course ≡ Some reads.Going → now.inlet.course ≡ Some reads.InVain → ⊥

-- a read failed, of a source that isn't steady: it took no bytes, and neither what was written nor the mark changed
pub record ReadFails (before now : Link) : Type 0 where
  pub gave : Consumes before.inlet.left now.inlet.left []
  pub failed : InputFails before.inlet now.inlet
  pub unsteady : IsTrue before.inlet.steady → ⊥
  pub outlet : now.outlet ≡ before.outlet
  pub mark : now.mark ≡ before.mark
  pub in_vain : before.inlet.course ≡ Some reads.Going → now.inlet.course ≡ Some reads.InVain → ⊥

-- the bytes stand in a buffer, behind its first ones
pub record ReadsBehind (before now : Link) (old new : List ℕ) (count given : ℕ) : Type 0 where
  pub reads : ReadsMore before now (take count old) (take (count + given) new) given
  pub fits : count + given ≤ length new

-- a read gave bytes behind the first ones of a buffer, or it failed
abbrev pub Reads : Link → Link → List ℕ → List ℕ → ℕ → Result ℕ Failed → Type 0
Reads before now old new count (Ok given) = ReadsBehind before now old new count given
Reads before now old new count (Err e) = ReadFails before now

-- the answer to nothing was read: its status, or none where it has none
abbrev pub ReadsAnswer : ℕ → Link → Link → Result (Option ℕ) Failed → Type 0
ReadsAnswer most before now (Ok (Some status)) = IsAnswered most before now [] status
ReadsAnswer most before now (Ok None) = IsNotAnswered most before now []
ReadsAnswer most before now (Err e) = FailsToRead most before now []
