-- What the parts of serving connections do to the door and to the notes.
use Rattle.std.specs.Prelude.{◌≡◌, ℕ, Bool, List, length, Result}
use Rattle.span_io.specs.Doors.{Doorway}
use Rattle.span_io.specs.Outside.{Outlet}
use Rattle.span_io.specs.declared.form.Form.{Form}
use Rattle.conn_service.specs.declared.ended.Ended.{Ended}
use Rattle.conn_service.specs.declared.ended.ServeFault.{ServeFault}
use Rattle.conn_service.specs.private.DoorSteps.{GivesEach, GivesOne, GivesUntil, KeepsListening}
use Rattle.conn_service.specs.DoorRuns.{LeavesDoor}
use Rattle.span_notes.specs.Notes.{NotesMore}
use Rattle.span_cli.specs.Servings.{Visit, IsVisit, AreVisits, NoneWants, Reaches, backs_of, door_failed, links_of, visit_lines}
use Rattle.span_cli.specs.declared.serve.ServeEnd.{ServeEnd}

-- the next connection was served, and this is how that ended
pub record ServesNext (to : Form) (ended : Result Ended ServeFault) (before now : Doorway) : Type 0 where
  pub visit : Visit
  pub is_end : visit.ended ≡ ended
  pub served : IsVisit to visit
  pub gives : GivesOne before now visit.before visit.now

-- these were served
pub record HasServed (to : Form) (visits : List Visit) (before now : Doorway) : Type 0 where
  pub served : AreVisits to visits
  pub gives : GivesEach before now (links_of visits) (backs_of visits)

-- the first so many, for none of which memory was wanted
pub record VisitsSoFar (to : Form) (done : ℕ) (held holds : Bool) (door_before door_now : Doorway)
    (notes_before notes_now : Outlet) : Type 0 where
  pub visits : List Visit
  pub has_served : HasServed to visits door_before door_now
  pub number : length visits ≡ done
  pub none : NoneWants visits
  pub faults : door_now.faults ≡ door_before.faults
  pub goes : KeepsListening door_before door_now
  pub notes : NotesMore held holds notes_before notes_now (visit_lines 1 visits)

-- at a door that listens
pub record ServesEach (to : Form) (count : ℕ) (end : ServeEnd) (held holds : Bool) (door_before door_now : Doorway)
    (notes_before notes_now : Outlet) : Type 0 where
  pub visits : List Visit
  pub served : AreVisits to visits
  pub reaches : Reaches end count visits
  pub gives : GivesUntil (door_failed end) door_before door_now (links_of visits) (backs_of visits)
  pub notes : NotesMore held holds notes_before notes_now (visit_lines 1 visits)

-- at a door that is asked to listen
pub record ServesAt (address : List ℕ) (to : Form) (count : ℕ) (end : ServeEnd) (held holds : Bool) (door_before door_now : Doorway)
    (notes_before notes_now : Outlet) : Type 0 where
  pub visits : List Visit
  pub served : AreVisits to visits
  pub reaches : Reaches end count visits
  pub door : LeavesDoor (door_failed end) address door_before door_now (links_of visits) (backs_of visits)
  pub notes : NotesMore held holds notes_before notes_now (visit_lines 1 visits)
