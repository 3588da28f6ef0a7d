-- What contracts see of sources and sinks in memory.
use Rattle.std.specs.Prelude.{◌≡◌, ℕ, ◌+◌, ◌-◌, ◌<◌, ◌⊎◌, min, max, List, [], ◌∷◌, length, drop, Contains, Some, Result, Ok, Err, ◌==◌}
use Rattle.span_io.specs.Outside.{Inlet, Outlet, Sure, so_many, counted}
use Rattle.span_io.specs.declared.course.ReadCourse.{ReadCourse}
use Rattle.span_io.specs.declared.course.WriteCourse.{WriteCourse}
use Rattle.span_io.specs.declared.course.WriteCourse.TheVariants as writes

-- the bytes still to come, how many a call gives at the most, the calls that fail, two counts, and how the reads went
pub record SourceState : Type 0 where
  pub left : List ℕ
  pub cut : ℕ
  pub fail : List ℕ
  pub calls : ℕ
  pub faults : ℕ
  pub course : ReadCourse

-- of bytes, of which those from this place are still to come; a call gives at least one
abbrev pub source_state : List ℕ → ℕ → ℕ → List ℕ → ℕ → ℕ → ReadCourse → SourceState
source_state bytes place cut fail calls faults course =
    record { left = drop place bytes; cut = max cut 1; fail = fail; calls = calls; faults = faults; course = course }

-- a source with no call that fails is steady
abbrev pub inlet_of : SourceState → Inlet
inlet_of s = record { left = Some s.left; faults = s.faults; steady = length s.fail == 0; course = Some s.course }

-- the bytes taken, the room for all of them, how many a call takes at the most, the calls that fail, two counts, and how the writes went
pub record SinkState : Type 0 where
  pub held : List ℕ
  pub room : ℕ
  pub cut : ℕ
  pub fail : List ℕ
  pub calls : ℕ
  pub faults : ℕ
  pub course : WriteCourse

-- before any call; a call takes at least one byte
abbrev pub fresh_sink : ℕ → ℕ → List ℕ → SinkState
fresh_sink room cut fail =
    record { held = []; room = room; cut = max cut 1; fail = fail; calls = 0; faults = 0; course = writes.Going }

-- with no call that fails the room left is surely taken
abbrev pub sure_of : List ℕ → ℕ → Sure
sure_of [] left = so_many left
sure_of (call ∷ calls) left = so_many 0

-- a sink in memory as contracts see any sink: its bytes, their number and how its writes went are told
abbrev pub outlet_of : SinkState → Outlet
outlet_of s = record {
  held = Some s.held;
  taken = Some (length s.held);
  faults = s.faults;
  sure = sure_of s.fail (s.room - length s.held);
  course = Some s.course;
}

-- the next call is listed, or what it would take of the piece is beyond the room left
abbrev pub Refuses : SinkState → List ℕ → Type 0
Refuses s piece = Contains s.fail (counted s.calls) ⊎ (s.room < length s.held + min s.cut (length piece))

-- a failure was counted once, and nothing else was
abbrev pub CountsFault : {T E : Type 0} → Result T E → ℕ → ℕ → Type 0
CountsFault (Ok x) before now = now ≡ before
CountsFault (Err e) before now = now ≡ counted before
