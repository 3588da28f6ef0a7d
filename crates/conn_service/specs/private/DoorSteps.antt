-- What a loop over a door keeps.
use Rattle.std.specs.Prelude.{◌≡◌, Bool, List, [], ◌∷◌, ◌++◌, Some, option_map}
use Rattle.span_io.specs.Doors.{Doorway, LosesFirst}
use Rattle.span_io.specs.Links.{Link}
use Rattle.span_io.specs.declared.course.DoorCourse.TheVariants as courses
use Rattle.conn_service.specs.DoorRuns.{DoorFaults, LosesFirsts, last_course}

-- nothing else changed of the door
pub record SameDoor (before now : Doorway) : Type 0 where
  pub out : now.out ≡ before.out
  pub address : now.address ≡ before.address
  pub listening : now.listening ≡ before.listening
  pub astray : now.astray ≡ before.astray

-- where it listened and no connection was out, so it is now
abbrev pub KeepsListening : Doorway → Doorway → Type 0
KeepsListening before now = before.course ≡ Some courses.Listening → now.course ≡ Some courses.Listening

-- it gave this connection, and took it back as that one
pub record GivesOne (before now : Doorway) (link back : Link) : Type 0 where
  pub waiting : LosesFirst before.waiting now.waiting link
  pub closed : now.closed ≡ option_map (λ links. links ++ back ∷ []) before.closed
  pub faults : now.faults ≡ before.faults
  pub same : SameDoor before now
  pub goes : KeepsListening before now

-- it gave these, and took each back before the next
pub record GivesEach (before now : Doorway) (links backs : List Link) : Type 0 where
  pub waiting : LosesFirsts before.waiting now.waiting links
  pub closed : now.closed ≡ option_map (λ closed. closed ++ backs) before.closed
  pub same : SameDoor before now

-- a door that listens gave these, and then it failed, or it didn't
pub record GivesUntil (failed : Bool) (before now : Doorway) (links backs : List Link) : Type 0 where
  pub gives : GivesEach before now links backs
  pub faults : DoorFaults failed before.faults now.faults
  pub course : before.course ≡ Some courses.Listening → now.course ≡ Some (last_course failed)
