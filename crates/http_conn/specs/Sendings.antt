-- What sending a request over a connection does to it: what was written, what was read of the answer, and how far both were as
-- bytes last came.
use Rattle.std.specs.Prelude.{◌≡◌, ◌≢◌, ◌⊎◌, ◌≤◌, ℕ, List, ◌++◌, length, Option, Some, None, Result, Ok, Err, IfSome, IsTrue, ⊤}
use Rattle.std.specs.Io.KnownBytes.{Consumes, IsAtEnd}
use Rattle.span_io.specs.Links.{Link, lengths}
use Rattle.span_io.specs.Outside.{FailsWithin, Gains, InputFails, NoReadInVain, OutputFails, OutputHolds}
use Rattle.span_io.specs.declared.course.ReadCourse.TheVariants as reads
use Rattle.http_conn.specs.AnswerHeads.{TellsNoStatus, TellsStatus}
use Rattle.http_conn.specs.Heads.{EndsNowhere}
use Rattle.http_conn.specs.declared.send.SendFault.{SendFault}
use Rattle.http_conn.specs.declared.send.SendFault.TheVariants as faults

-- As the last read that gave bytes began, the whole request had been written, and no head had ended in the bytes before.
pub record AskedAtMark (now : Link) (left held request : List ℕ) : Type 0 where
  pub taken : List ℕ
  pub later : List ℕ
  pub given : left ≡ taken ++ later
  pub open_yet : EndsNowhere taken
  pub marked : now.mark ≡ lengths (Some later) (Some (held ++ request))

-- the same where the connection tells its bytes, and gave some
abbrev pub MarksRequest : Link → List ℕ → Option (List ℕ) → Option (List ℕ) → Type 0
MarksRequest now request None held = ⊤
MarksRequest now request (Some left) None = ⊤
MarksRequest now request (Some left) (Some held) = now.inlet.left ≢ Some left → AskedAtMark now left held request

-- the same, with what the connection told before the request was sent
abbrev pub KeepsMark : Link → Link → List ℕ → Type 0
KeepsMark before now request = MarksRequest now request before.inlet.left before.outlet.held

-- The whole request was written, and then these bytes were read, at most so many.
pub record Asks (most : ℕ) (before now : Link) (request given : List ℕ) : Type 0 where
  pub gains : Gains before.outlet now.outlet request
  pub holds : OutputHolds before.outlet now.outlet
  pub gave : Consumes before.inlet.left now.inlet.left given
  pub within : length given ≤ most
  pub in_vain : NoReadInVain before.inlet now.inlet

-- A head of this status ended in what was read. No read failed or gave nothing.
pub record IsAnswered (most : ℕ) (before now : Link) (request : List ℕ) (status : ℕ) : Type 0 where
  pub given : List ℕ
  pub asks : Asks most before now request given
  pub tells : TellsStatus most given status
  pub stream : IfSome before.inlet.left (λ left. TellsStatus most left status)
  pub quiet : now.inlet.faults ≡ before.inlet.faults
  pub goes : before.inlet.course ≡ Some reads.Going → now.inlet.course ≡ Some reads.Going

-- The stream ended, or the limit was reached, before a head ended; or what ended is no head of an answer.
pub record IsNotAnswered (most : ℕ) (before now : Link) (request : List ℕ) : Type 0 where
  pub given : List ℕ
  pub asks : Asks most before now request given
  pub tells : TellsNoStatus most given
  pub stream : IfSome before.inlet.left (λ left. TellsNoStatus most left)
  pub ends : EndsNowhere given → (length given ≡ most) ⊎ IsAtEnd now.inlet.left
  pub quiet : now.inlet.faults ≡ before.inlet.faults

-- A read failed before a head ended.
pub record FailsToRead (most : ℕ) (before now : Link) (request : List ℕ) : Type 0 where
  pub given : List ℕ
  pub asks : Asks most before now request given
  pub open_yet : EndsNowhere given
  pub failed : InputFails before.inlet now.inlet
  pub unsteady : IsTrue before.inlet.steady → ⊥

-- A write failed within the request, and nothing was read.
pub record FailsToWrite (before now : Link) (request : List ℕ) : Type 0 where
  pub fails : FailsWithin before.outlet now.outlet request
  pub failed : OutputFails before.outlet now.outlet
  pub inlet : now.inlet ≡ before.inlet
  pub mark : now.mark ≡ before.mark

-- Memory is wanted before anything is written.
abbrev pub SendsOver : ℕ → Link → Link → List ℕ → Result ℕ SendFault → Type 0
SendsOver most before now request (Ok status) = IsAnswered most before now request status
SendsOver most before now request (Err faults.Read) = FailsToRead most before now request
SendsOver most before now request (Err faults.Write) = FailsToWrite before now request
SendsOver most before now request (Err faults.BadAnswer) = IsNotAnswered most before now request
SendsOver most before now request (Err faults.OutOfMemory) = now ≡ before
