-- What contracts see of connections and doors in memory.
use Rattle.std.specs.Prelude.{◌≡◌, ℕ, Bool, List, [], ◌∷◌, map, Some, ⊤}
use Rattle.span_io.specs.Doors.{Doorway}
use Rattle.span_io.specs.Links.{Link}
use Rattle.span_io.specs.Memory.{SourceState, SinkState, inlet_of, outlet_of}
use Rattle.span_io.specs.declared.course.DoorCourse.{DoorCourse}
use Rattle.span_io.specs.declared.duplex.Mark.{Mark}

-- a connection in memory: the source that gives bytes, the sink that takes bytes, and the mark: how many were still to come and
-- how many were taken as the last read that gave any began, or, before any such read, as it was made
pub record DuplexState : Type 0 where
  pub source : SourceState
  pub sink : SinkState
  pub mark : Mark

-- a connection in memory as contracts see any connection: the bytes of both ends and the mark are told
abbrev pub link_of : DuplexState → Link
link_of state = record { inlet = inlet_of state.source; outlet = outlet_of state.sink; mark = Some state.mark }

-- none of its calls was refused
pub record HasNoFault (state : DuplexState) : Type 0 where
  pub read : state.source.faults ≡ 0
  pub write : state.sink.faults ≡ 0

-- none of the calls on each of them was refused
abbrev pub HaveNoFault : List DuplexState → Type 0
HaveNoFault [] = ⊤
HaveNoFault (state ∷ states) = HasNoFault state × HaveNoFault states

-- its address, the connections still to come, the calls that fail, two counts, whether it listens and was led astray, how many
-- connections are out, those that were given back, and how its calls went
pub record DoorState : Type 0 where
  pub address : List ℕ
  pub waiting : List DuplexState
  pub fail : List ℕ
  pub calls : ℕ
  pub faults : ℕ
  pub listening : Bool
  pub astray : Bool
  pub out : ℕ
  pub closed : List DuplexState
  pub course : DoorCourse

-- a door in memory as contracts see any door: all that a door may leave untold is told
abbrev pub doorway_of : DoorState → Doorway
doorway_of state = record {
  faults = state.faults;
  out = state.out;
  address = Some state.address;
  listening = Some state.listening;
  astray = Some state.astray;
  waiting = Some (map link_of state.waiting);
  closed = Some (map link_of state.closed);
  course = Some state.course;
}
