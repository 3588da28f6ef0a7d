-- Connections that a door gives one after the other, each of which it takes back before the next.
use Rattle.std.specs.Prelude.{◌≡◌, ◌⊎◌, ℕ, ◌≤◌, Bool, true, false, List, ◌++◌, length, Option, Some, None, option_map}
use Rattle.span_io.specs.Doors.{Doorway, IsAt, astray_at}
use Rattle.span_io.specs.Links.{Link}
use Rattle.span_io.specs.Outside.{Rose}
use Rattle.span_io.specs.declared.course.DoorCourse.{DoorCourse}
use Rattle.span_io.specs.declared.course.DoorCourse.TheVariants as courses

-- the first that waited were these, where they are told
abbrev pub LosesFirsts : Option (List Link) → Option (List Link) → List Link → Type 0
LosesFirsts None now links = now ≡ None
LosesFirsts (Some before) now links = (others : List Link) × (before ≡ links ++ others) × (now ≡ Some others)

-- at last the door failed, or it didn't
abbrev pub DoorFaults : Bool → ℕ → ℕ → Type 0
DoorFaults true before now = Rose before now
DoorFaults false before now = now ≡ before

-- how its calls went
abbrev pub last_course : Bool → DoorCourse
last_course true = courses.Stopped
last_course false = courses.Listening

-- it listens at its own address, which is this one, each where it is told
pub record Listens (asked : List ℕ) (before now : Doorway) : Type 0 where
  pub right : IsAt before asked
  pub listening : now.listening ≡ option_map (λ _. true) before.listening

-- The door was asked to listen at this address. It gave these connections, and took each of them back before it was asked for the
-- next.
pub record LeavesDoor (failed : Bool) (asked : List ℕ) (before now : Doorway) (links backs : List Link) : Type 0 where
  pub waiting : LosesFirsts before.waiting now.waiting links
  pub closed : now.closed ≡ option_map (λ closed. closed ++ backs) before.closed
  pub faults : DoorFaults failed before.faults now.faults
  pub out : now.out ≡ before.out
  pub address : now.address ≡ before.address
  pub astray : now.astray ≡ astray_at before.address asked before.astray
  pub listening : (now.listening ≡ before.listening) ⊎ Listens asked before now
  pub listens : 1 ≤ length links → Listens asked before now
  pub course : before.course ≡ Some courses.Fresh → now.course ≡ Some (last_course failed)
