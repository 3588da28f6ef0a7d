-- What contracts see of a door: how often it was refused, how many connections are out, and, each where it is told, where it is,
-- whether it listens, whether it was asked to listen elsewhere, the connections that wait and those that were given back, and how
-- its calls went.
use Rattle.std.specs.Prelude.{◌≡◌, ◌≢◌, ℕ, ◌+◌, ◌-◌, ◌<◌, Bool, true, false, cond, IsTrue, List, [], ◌∷◌, ◌++◌, Option, Some, None, IfSome, IsSome, bytes_eq, option_map}
use Rattle.span_io.specs.Courses.{accept_next, close_next, listen_next}
use Rattle.span_io.specs.Links.{Link}
use Rattle.span_io.specs.Outside.{last_count}
use Rattle.span_io.specs.declared.course.DoorCourse.{DoorCourse}
use Rattle.span_io.specs.declared.course.DoorCourse.TheVariants as doors

-- a door as contracts see it: its count of faults and how many connections are out are told by every door, the rest by some
pub record Doorway : Type 0 where
  pub faults : ℕ
  pub out : ℕ
  pub address : Option (List ℕ)
  pub listening : Option Bool
  pub astray : Option Bool
  pub waiting : Option (List Link)
  pub closed : Option (List Link)
  pub course : Option DoorCourse

-- it listens, where that is told
abbrev pub IsListening : Doorway → Type 0
IsListening door = IfSome door.listening (λ listens. IsTrue listens)

-- it is at this address, where that is told
abbrev pub IsAt : Doorway → List ℕ → Type 0
IsAt door address = IfSome door.address (λ own. address ≡ own)

-- where it tells its address, it tells whether it was led astray
abbrev pub TellsAstray : Doorway → Type 0
TellsAstray door = IfSome door.address (λ _. IsSome door.astray)

-- another address than its own leads astray
abbrev pub astray_at : Option (List ℕ) → List ℕ → Option Bool → Option Bool
astray_at None address astray = astray
astray_at (Some own) address astray = cond (bytes_eq address own) astray (Some true)

-- asked to listen at an address, it listens
abbrev pub listened : Doorway → List ℕ → Doorway
listened door address = record {
  faults = door.faults;
  out = door.out;
  address = door.address;
  listening = option_map (λ _. true) door.listening;
  astray = astray_at door.address address door.astray;
  waiting = door.waiting;
  closed = door.closed;
  course = option_map (listen_next true) door.course;
}

-- asked to listen at an address, it refused, and has so many faults
abbrev pub not_listened : Doorway → List ℕ → ℕ → Doorway
not_listened door address faults = record {
  faults = faults;
  out = door.out;
  address = door.address;
  listening = door.listening;
  astray = astray_at door.address address door.astray;
  waiting = door.waiting;
  closed = door.closed;
  course = option_map (listen_next false) door.course;
}

-- asked for a connection, it gave none, and has so many faults
abbrev pub refused : Doorway → ℕ → Doorway
refused door faults = record {
  faults = faults;
  out = door.out;
  address = door.address;
  listening = door.listening;
  astray = door.astray;
  waiting = door.waiting;
  closed = door.closed;
  course = option_map (accept_next false) door.course;
}

-- the first that waits is this one, where they are told
abbrev pub LosesFirst : Option (List Link) → Option (List Link) → Link → Type 0
LosesFirst None now link = now ≡ None
LosesFirst (Some before) now link = (others : List Link) × (before ≡ link ∷ others) × (now ≡ Some others)

-- One more connection is out, the first of those that wait, and none of its calls was refused. The count of those that are out
-- has room for it.
pub record Accepts (before now : Doorway) (link : Link) : Type 0 where
  pub room : before.out < last_count
  pub out : now.out ≡ before.out + 1
  pub waiting : LosesFirst before.waiting now.waiting link
  pub faults : now.faults ≡ before.faults
  pub address : now.address ≡ before.address
  pub listening : now.listening ≡ before.listening
  pub astray : now.astray ≡ before.astray
  pub closed : now.closed ≡ before.closed
  pub course : now.course ≡ option_map (accept_next true) before.course
  pub no_read_fault : link.inlet.faults ≡ 0
  pub no_write_fault : link.outlet.faults ≡ 0

-- one that was out is given back
abbrev pub given_back : Doorway → Link → Doorway
given_back door link = record {
  faults = door.faults;
  out = door.out - 1;
  address = door.address;
  listening = door.listening;
  astray = door.astray;
  waiting = door.waiting;
  closed = option_map (λ links. links ++ link ∷ []) door.closed;
  course = option_map close_next door.course;
}

-- Where no call had come, none came behind a failed one: it was asked to listen once, and each connection that it gave was given
-- back before it was asked for the next.
abbrev pub NoCallInVain : Doorway → Doorway → Type 0
NoCallInVain before now = before.course ≡ Some doors.Fresh → now.course ≢ Some doors.InVain
