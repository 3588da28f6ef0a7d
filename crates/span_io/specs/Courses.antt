-- How the calls on a source, a sink or a door went, with another one.
use Rattle.std.specs.Prelude.{ℕ, ◌==◌, Bool, true, false, List, [], ◌∷◌, Option, Some, None, Result, Ok, Err}
use Rattle.span_io.specs.declared.course.DoorCourse.{DoorCourse}
use Rattle.span_io.specs.declared.course.DoorCourse.TheVariants as doors
use Rattle.span_io.specs.declared.course.ReadCourse.{ReadCourse}
use Rattle.span_io.specs.declared.course.ReadCourse.TheVariants as reads
use Rattle.span_io.specs.declared.course.WriteCourse.{WriteCourse}
use Rattle.span_io.specs.declared.course.WriteCourse.TheVariants as writes

-- A read behind the last one is in vain.
abbrev pub read_next : ReadCourse → Bool → ReadCourse
read_next reads.Going true = reads.Stopped
read_next reads.Going false = reads.Going
read_next reads.Stopped last = reads.InVain
read_next reads.InVain last = reads.InVain

-- A read that fails or gives nothing is the last one.
abbrev pub is_last : {E : Type 0} → Result ℕ E → Bool
is_last (Ok n) = n == 0
is_last (Err e) = true

-- the same of a source that may not tell it
abbrev pub course_of_reads : {E : Type 0} → Option ReadCourse → Result ℕ E → Option ReadCourse
course_of_reads None result = None
course_of_reads (Some course) result = Some (read_next course (is_last result))

-- A write that fails stops at the first byte of its piece. One behind it is in vain, and so is one of nothing.
abbrev pub write_next : {E : Type 0} → WriteCourse → List ℕ → Result ℕ E → WriteCourse
write_next writes.Going [] result = writes.InVain
write_next writes.Going (byte ∷ more) (Ok n) = writes.Going
write_next writes.Going (byte ∷ more) (Err e) = writes.Stopped byte
write_next (writes.Stopped byte) piece result = writes.InVain
write_next writes.InVain piece result = writes.InVain

-- how the writes on a sink went, with one more of this piece that ended so; a sink that doesn't tell it stays untold
abbrev pub course_of_writes : {E : Type 0} → Option WriteCourse → List ℕ → Result ℕ E → Option WriteCourse
course_of_writes None piece result = None
course_of_writes (Some course) piece result = Some (write_next course piece result)

-- A door is asked to listen at first, and never again. Whether the call went well is told by a truth value.
abbrev pub listen_next : Bool → DoorCourse → DoorCourse
listen_next true doors.Fresh = doors.Listening
listen_next false doors.Fresh = doors.Stopped
listen_next well other = doors.InVain

-- It accepts where it listens and no connection is out.
abbrev pub accept_next : Bool → DoorCourse → DoorCourse
accept_next true doors.Listening = doors.OneOut
accept_next false doors.Listening = doors.Stopped
accept_next well other = doors.InVain

-- It takes the one back that is out.
abbrev pub close_next : DoorCourse → DoorCourse
close_next doors.OneOut = doors.Listening
close_next other = doors.InVain
