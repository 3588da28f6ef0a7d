-- What contracts see of a post: how often it was refused, and, each where it is told, where it is, whether it listens, whether it was
-- asked to listen elsewhere, the datagrams still to come, and how its calls went.
use Rattle.std.specs.Prelude.{◌≡◌, ◌≢◌, ℕ, Bool, true, false, List, ◌∷◌, Option, Some, None, option_map}
use Rattle.span_io.specs.Doors.{Doorway, IsAt, IsListening, listened, not_listened, refused}
use Rattle.span_agent.specs.PostCourses.{listen_next, receive_next}
use Rattle.span_agent.specs.declared.course.PostCourse.{PostCourse}
use Rattle.span_agent.specs.declared.course.PostCourse.TheVariants as courses

-- How often its calls failed; and, each where it is told, its address, whether it listens, whether it was asked to listen
-- elsewhere, the datagrams still to come, and how its calls went.
pub record Mailbox : Type 0 where
  pub faults : ℕ
  pub address : Option (List ℕ)
  pub listening : Option Bool
  pub astray : Option Bool
  pub left : Option (List (List ℕ))
  pub course : Option PostCourse

-- one that tells nothing but its count
abbrev pub untold : ℕ → Mailbox
untold faults = record { faults = faults; address = None; listening = None; astray = None; left = None; course = None }

-- The most bytes that a datagram has: its size is told by 16 bits (UDP, RFC 768).
abbrev pub most_bytes : ℕ
most_bytes = 65535

-- What a post shares with a door, of which the same words are said: a door that tells no connections and no course.
abbrev pub as_door : Mailbox → Doorway
as_door post = record {
  faults = post.faults;
  out = 0;
  address = post.address;
  listening = post.listening;
  astray = post.astray;
  waiting = None;
  closed = None;
  course = None;
}

-- it listens, and it is at this address, each where that is told
abbrev pub PostListens : Mailbox → Type 0
PostListens post = IsListening (as_door post)

-- it is at this address, where that is told
abbrev pub IsPostAt : Mailbox → List ℕ → Type 0
IsPostAt post address = IsAt (as_door post) address

-- asked to listen at an address, it listens, as a door does
pub record ListensNow (before now : Mailbox) (address : List ℕ) : Type 0 where
  pub door : as_door now ≡ listened (as_door before) address
  pub left : now.left ≡ before.left
  pub course : now.course ≡ option_map (listen_next true) before.course

-- or it refused, as a door does
pub record RefusesToListen (before now : Mailbox) (address : List ℕ) : Type 0 where
  pub door : as_door now ≡ not_listened (as_door before) address now.faults
  pub left : now.left ≡ before.left
  pub course : now.course ≡ option_map (listen_next false) before.course

-- the first that is still to come is this one, where they are told
abbrev pub LosesDatagram : Option (List (List ℕ)) → Option (List (List ℕ)) → List ℕ → Type 0
LosesDatagram None now datagram = now ≡ None
LosesDatagram (Some before) now datagram = (others : List (List ℕ)) × (before ≡ datagram ∷ others) × (now ≡ Some others)

-- the next datagram was this one, and nothing else changed
pub record Receives (before now : Mailbox) (datagram : List ℕ) : Type 0 where
  pub left : LosesDatagram before.left now.left datagram
  pub door : as_door now ≡ as_door before
  pub course : now.course ≡ option_map (receive_next true) before.course

-- asked for a datagram, it gave none, as a door does
pub record RefusesToReceive (before now : Mailbox) : Type 0 where
  pub left : now.left ≡ before.left
  pub door : as_door now ≡ refused (as_door before) now.faults
  pub course : now.course ≡ option_map (receive_next false) before.course

-- Where no call had come, none came behind a failed one, and it was asked to listen once.
abbrev pub NoPostCallInVain : Mailbox → Mailbox → Type 0
NoPostCallInVain before now = before.course ≡ Some courses.Fresh → now.course ≢ Some courses.InVain

-- ---- posts in memory

-- the address, the datagrams still to come, the calls that fail, two counts, whether it listens and was led astray, and its course
pub record PostState : Type 0 where
  pub address : List ℕ
  pub left : List (List ℕ)
  pub fail : List ℕ
  pub calls : ℕ
  pub faults : ℕ
  pub listening : Bool
  pub astray : Bool
  pub course : PostCourse

-- what contracts see of it: a post in memory tells all
abbrev pub mailbox_of : PostState → Mailbox
mailbox_of state = record {
  faults = state.faults;
  address = Some state.address;
  listening = Some state.listening;
  astray = Some state.astray;
  left = Some state.left;
  course = Some state.course;
}
