-- How connections are served: one after the other, with a line on the notes for each that had a fault.
use Rattle.std.specs.Prelude.{◌≡◌, ℕ, ◌+◌, ◌<◌, ◌≤◌, Bool, true, false, List, [], ◌∷◌, ◌++◌, map, length, Result, Ok, Err, codes, decimal}
use Rattle.span_io.specs.Doors.{Doorway}
use Rattle.span_io.specs.Limits.{shipped_limits}
use Rattle.span_io.specs.Links.{Link}
use Rattle.span_io.specs.Outside.{Outlet}
use Rattle.span_io.specs.declared.form.Form.{Form}
use Rattle.span_gateway.specs.Serving.{KeepsMark, Serves}
use Rattle.conn_service.specs.declared.ended.Ended.{Ended}
use Rattle.conn_service.specs.declared.ended.ServeFault.{ServeFault}
use Rattle.conn_service.specs.declared.ended.ServeFault.TheVariants as faults
use Rattle.conn_service.specs.DoorRuns.{LeavesDoor}
use Rattle.span_notes.specs.Notes.{Notes}
use Rattle.span_cli.specs.declared.serve.ServeEnd.{ServeEnd}
use Rattle.span_cli.specs.declared.serve.ServeEnd.TheVariants.{AllServed, DoorFailed, NoMemory}

-- ---- one connection

-- a connection as it was accepted and as it was given back, and how serving it ended
pub record Visit : Type 0 where
  pub before : Link
  pub now : Link
  pub ended : Result Ended ServeFault

-- It was served as span_gateway says, by the shipped limits, and none of its calls had been refused before.
pub record IsVisit (to : Form) (visit : Visit) : Type 0 where
  pub serves : Serves to shipped_limits visit.before visit.now visit.ended
  pub mark : KeepsMark to shipped_limits visit.before visit.now
  pub no_read_fault : visit.before.inlet.faults ≡ 0
  pub no_write_fault : visit.before.outlet.faults ≡ 0

-- want of memory ended it
abbrev pub WantsMemory : Visit → Type 0
WantsMemory visit = visit.ended ≡ Err faults.OutOfMemory

-- its line, where a call of it was refused
abbrev pub visit_line : ℕ → Result Ended ServeFault → List ℕ
visit_line number (Ok ended) = []
visit_line number (Err faults.Read) = codes "connection " ++ decimal number ++ codes ": read failed\n"
visit_line number (Err faults.Write) = codes "connection " ++ decimal number ++ codes ": write failed\n"
visit_line number (Err faults.OutOfMemory) = []

-- ---- one after the other

-- each of these is a connection that was served so
abbrev pub AreVisits : Form → List Visit → Type 0
AreVisits to [] = Unit {0}
AreVisits to (visit ∷ visits) = IsVisit to visit × AreVisits to visits

-- for none of them memory was wanted
abbrev pub NoneWants : List Visit → Type 0
NoneWants [] = Unit {0}
NoneWants (visit ∷ visits) = (WantsMemory visit → ⊥) × NoneWants visits

-- memory was wanted for the last one, and for no other
pub record LastWants (visits : List Visit) : Type 0 where
  pub firsts : List Visit
  pub last : Visit
  pub are : visits ≡ firsts ++ last ∷ []
  pub none : NoneWants firsts
  pub wants : WantsMemory last

-- their lines, numbered from here
abbrev pub visit_lines : ℕ → List Visit → List ℕ
visit_lines number [] = []
visit_lines number (visit ∷ visits) = visit_line number visit.ended ++ visit_lines (number + 1) visits

-- the connections as they were accepted and as they were given back
abbrev pub links_of : List Visit → List Link
links_of visits = map (λ (visit : Visit). visit.before) visits

-- the connections as they were given back
abbrev pub backs_of : List Visit → List Link
backs_of visits = map (λ (visit : Visit). visit.now) visits

-- ---- the end

-- the status and the last line
abbrev pub end_status : ServeEnd → ℕ
end_status AllServed = 0
end_status DoorFailed = 5
end_status NoMemory = 7

-- the last line: that the door failed or memory was wanted, and none where all connections were served
abbrev pub end_line : ServeEnd → List ℕ
end_line AllServed = []
end_line DoorFailed = codes "door failed\n"
end_line NoMemory = codes "out of memory\n"

-- how many connections were accepted of so many
abbrev pub Reaches : ServeEnd → ℕ → List Visit → Type 0
Reaches AllServed count visits = (length visits ≡ count) × NoneWants visits
Reaches DoorFailed count visits = (length visits < count) × NoneWants visits
Reaches NoMemory count visits = (length visits ≤ count) × LastWants visits

-- the door failed where it gave fewer
abbrev pub door_failed : ServeEnd → Bool
door_failed AllServed = false
door_failed DoorFailed = true
door_failed NoMemory = false

-- Connections that wait at the door were served one after the other, each was given back before the next one, and the notes
-- gained their lines and then that of the end.
pub record ServesConnections (address : List ℕ) (to : Form) (count status : ℕ) (door_before door_now : Doorway)
    (notes_before notes_now : Outlet) : Type 0 where
  pub end : ServeEnd
  pub visits : List Visit
  pub is_status : status ≡ end_status end
  pub served : AreVisits to visits
  pub reaches : Reaches end count visits
  pub door : LeavesDoor (door_failed end) address door_before door_now (links_of visits) (backs_of visits)
  pub notes : Notes notes_before notes_now (visit_lines 1 visits ++ end_line end)
