-- What the parts of receiving datagrams do to the post, the output and the notes.
use Rattle.std.specs.Prelude.{◌≡◌, ℕ, Bool, List, [], map, length, Some, Result, Ok, Err}
use Rattle.span_io.specs.Limits.{shipped_limits}
use Rattle.span_io.specs.Outside.{Outlet, Gains, OutputHolds, FailsAt, FailsWithin}
use Rattle.span_io.specs.declared.form.Form.{Form}
use Rattle.span_io.specs.declared.halt.Halt.{Halt}
use Rattle.span_io.specs.declared.halt.Halt.TheVariants as halts
use Rattle.span_io.specs.declared.source.Failed.{Failed}
use Rattle.span_notes.specs.Notes.{NotesMore}
use Rattle.span_agent.specs.AgentRuns.{Parcel, AreParcels, AreLines, LosesDatagrams, PostFaults, Reaches, WritesInTurn, WritesPieces, parcel_line, parcel_lines, pieces, written}
use Rattle.span_agent.specs.Pieces.{IsPiece}
use Rattle.span_agent.specs.Posts.{Mailbox}
use Rattle.span_agent.specs.declared.course.PostCourse.{PostCourse}
use Rattle.span_agent.specs.declared.course.PostCourse.TheVariants as courses
use Rattle.span_agent.specs.declared.piece.AgentBad.{AgentBad}
use Rattle.span_agent.specs.declared.run.AgentEnd.{AgentEnd}
use Rattle.span_agent.specs.declared.run.AgentEnd.TheVariants as ends

-- ---- one datagram

-- what the output gained of a datagram, by how its piece was handed on
abbrev pub WritesOne : Result Unit (Halt Failed) → List ℕ → Outlet → Outlet → Type 0
WritesOne (Ok done) text before now = Gains before now text × OutputHolds before now
WritesOne (Err (halts.Why failed)) text before now = FailsWithin before now text × FailsAt before now text
WritesOne (Err halts.OutOfMemory) text before now = Gains before now [] × OutputHolds before now

-- and the notes; where memory was wanted nothing
abbrev pub line_noted : Result Unit (Halt Failed) → List ℕ → List ℕ
line_noted (Ok done) line = line
line_noted (Err (halts.Why failed)) line = line
line_noted (Err halts.OutOfMemory) line = []

-- A datagram of this number was handed on: the output gained its piece, or the notes its line, as far as the result says.
pub record HandsOn (to : Form) (number : ℕ) (datagram : List ℕ) (result : Result Unit (Halt Failed)) (held holds : Bool)
    (output_before output_now notes_before notes_now : Outlet) : Type 0 where
  pub told : Result (List ℕ) AgentBad
  pub is_piece : IsPiece to shipped_limits datagram told
  pub output : WritesOne result (written told) output_before output_now
  pub notes : NotesMore held holds notes_before notes_now (line_noted result (parcel_line number told))

-- ---- one after the other

-- these were received, and nothing else changed of the post but its count
pub record HasReceived (to : Form) (parcels : List Parcel) (before now : Mailbox) : Type 0 where
  pub are_parcels : AreParcels to parcels
  pub left : LosesDatagrams before.left now.left (map (λ (parcel : Parcel). parcel.datagram) parcels)
  pub address : now.address ≡ before.address
  pub listening : now.listening ≡ before.listening
  pub astray : now.astray ≡ before.astray

-- where it listened and none of its calls had failed, so it is now
abbrev pub KeepsListening : Mailbox → Mailbox → Type 0
KeepsListening before now = before.course ≡ Some courses.Listening → now.course ≡ Some courses.Listening

-- how its calls went
abbrev pub end_course : AgentEnd → PostCourse
end_course ends.PostFailed = courses.Stopped
end_course other = courses.Listening

-- the first so many, each of which was handed on
pub record ReceivedSoFar (to : Form) (done : ℕ) (held holds : Bool) (post_before post_now : Mailbox)
    (output_before output_now notes_before notes_now : Outlet) : Type 0 where
  pub parcels : List Parcel
  pub has_received : HasReceived to parcels post_before post_now
  pub number : length parcels ≡ done
  pub faults : post_now.faults ≡ post_before.faults
  pub goes : KeepsListening post_before post_now
  pub output : Gains output_before output_now (pieces parcels) × OutputHolds output_before output_now
  pub notes : NotesMore held holds notes_before notes_now (parcel_lines 1 parcels)

-- from a post that listens
pub record ReceivesEach (to : Form) (count : ℕ) (end : AgentEnd) (held holds : Bool) (post_before post_now : Mailbox)
    (output_before output_now notes_before notes_now : Outlet) : Type 0 where
  pub parcels : List Parcel
  pub lines : List ℕ
  pub has_received : HasReceived to parcels post_before post_now
  pub reaches : Reaches end count (length parcels)
  pub faults : PostFaults end post_before.faults post_now.faults
  pub course : post_before.course ≡ Some courses.Listening → post_now.course ≡ Some (end_course end)
  pub output : WritesPieces end (pieces parcels) output_before output_now
  pub in_turn : WritesInTurn end parcels output_before output_now
  pub are_lines : AreLines end parcels lines
  pub notes : NotesMore held holds notes_before notes_now lines
