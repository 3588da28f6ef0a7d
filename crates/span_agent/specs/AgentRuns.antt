-- How datagrams are received: one after the other, each good one with its piece on the output, and each bad one with a line on the notes.
use Rattle.std.specs.Prelude.{◌≡◌, ◌⊎◌, ℕ, ◌+◌, ◌<◌, ◌≤◌, true, List, [], ◌∷◌, ◌++◌, map, length, Option, Some, None, option_map, Result, Ok, Err, codes, decimal}
use Rattle.std.specs.List.{flat_map}
use Rattle.span_io.specs.Doors.{astray_at}
use Rattle.span_io.specs.Limits.{shipped_limits}
use Rattle.span_io.specs.Outside.{Outlet, Rose, Gains, GainsFront, OutputHolds, FailsAt, FailsWithin}
use Rattle.span_io.specs.declared.form.Form.{Form}
use Rattle.trace_model.specs.Faults.{fault_number, fault_name}
use Rattle.span_answers.specs.NoteLines.{key_part}
use Rattle.span_notes.specs.Notes.{Notes}
use Rattle.span_agent.specs.AgentCauses.{agent_cause_number, agent_cause_name}
use Rattle.span_agent.specs.Pieces.{IsPiece}
use Rattle.span_agent.specs.Posts.{IsPostAt, Mailbox}
use Rattle.span_agent.specs.declared.course.PostCourse.{PostCourse}
use Rattle.span_agent.specs.declared.course.PostCourse.TheVariants as courses
use Rattle.span_agent.specs.declared.piece.AgentBad.{AgentBad}
use Rattle.span_agent.specs.declared.piece.AgentBad.TheVariants as bads
use Rattle.span_agent.specs.declared.run.AgentEnd.{AgentEnd}
use Rattle.span_agent.specs.declared.run.AgentEnd.TheVariants as ends

-- ---- one datagram

-- a datagram, and what is told of it
pub record Parcel : Type 0 where
  pub datagram : List ℕ
  pub told : Result (List ℕ) AgentBad

-- what is told of the datagram is its piece in this form, or why it has none, by the limits shipped
abbrev pub IsParcel : Form → Parcel → Type 0
IsParcel to parcel = IsPiece to shipped_limits parcel.datagram parcel.told

-- what is written of it
abbrev pub written : Result (List ℕ) AgentBad → List ℕ
written (Ok piece) = piece
written (Err bad) = []

-- what is noted of it
abbrev pub bad_text : AgentBad → List ℕ
bad_text (bads.Message cause) = codes ": cause " ++ decimal (agent_cause_number cause) ++ codes " " ++ agent_cause_name cause ++ codes "\n"
bad_text (bads.Faulted fault) = codes ": fault " ++ decimal (fault_number fault) ++ codes " " ++ fault_name fault ++ key_part fault ++ codes "\n"

-- the line of the datagram of this number: why it is bad, and none where it has a piece
abbrev pub parcel_line : ℕ → Result (List ℕ) AgentBad → List ℕ
parcel_line number (Ok piece) = []
parcel_line number (Err bad) = codes "datagram " ++ decimal number ++ bad_text bad

-- ---- one after the other

-- each of these is a datagram with what is to be told of it in this form
abbrev pub AreParcels : Form → List Parcel → Type 0
AreParcels to [] = Unit {0}
AreParcels to (parcel ∷ parcels) = IsParcel to parcel × AreParcels to parcels

-- the pieces of the good ones, one behind the other
abbrev pub pieces : List Parcel → List ℕ
pieces parcels = flat_map (λ (parcel : Parcel). written parcel.told) parcels

-- their lines, numbered from here
abbrev pub parcel_lines : ℕ → List Parcel → List ℕ
parcel_lines number [] = []
parcel_lines number (parcel ∷ parcels) = parcel_line number parcel.told ++ parcel_lines (number + 1) parcels

-- the first that were still to come were these, where they are told
abbrev pub LosesDatagrams : Option (List (List ℕ)) → Option (List (List ℕ)) → List (List ℕ) → Type 0
LosesDatagrams None now datagrams = now ≡ None
LosesDatagrams (Some before) now datagrams = (others : List (List ℕ)) × (before ≡ datagrams ++ others) × (now ≡ Some others)

-- ---- the end

-- the status and the last line
abbrev pub end_status : AgentEnd → ℕ
end_status ends.AllReceived = 0
end_status ends.PostFailed = 5
end_status ends.OutputFailed = 6
end_status ends.NoMemory = 7

-- the last line: that the post or the output failed, or that memory was wanted, and none where all datagrams were received
abbrev pub end_line : AgentEnd → List ℕ
end_line ends.AllReceived = []
end_line ends.PostFailed = codes "post failed\n"
end_line ends.OutputFailed = codes "output failed\n"
end_line ends.NoMemory = codes "out of memory\n"

-- how many datagrams were received of so many
abbrev pub Reaches : AgentEnd → ℕ → ℕ → Type 0
Reaches ends.AllReceived count received = received ≡ count
Reaches ends.PostFailed count received = received < count
Reaches ends.OutputFailed count received = received ≤ count
Reaches ends.NoMemory count received = received ≤ count

-- the post failed, or it didn't
abbrev pub PostFaults : AgentEnd → ℕ → ℕ → Type 0
PostFaults ends.PostFailed before now = Rose before now
PostFaults other before now = now ≡ before

-- The output gained the pieces, or a front of them: where it failed within them, and where memory was wanted.
abbrev pub WritesPieces : AgentEnd → List ℕ → Outlet → Outlet → Type 0
WritesPieces ends.OutputFailed text before now = FailsWithin before now text
WritesPieces ends.NoMemory text before now = GainsFront before now text × OutputHolds before now
WritesPieces other text before now = Gains before now text × OutputHolds before now

-- it gained the pieces of the first of these, and failed at a byte of the piece of the last one
pub record FailsInLast (parcels : List Parcel) (before now : Outlet) : Type 0 where
  pub firsts : List Parcel
  pub last : Parcel
  pub are : parcels ≡ firsts ++ last ∷ []
  pub between : Outlet
  pub gains : Gains before between (pieces firsts)
  pub holds : OutputHolds before between
  pub fails : FailsAt between now (written last.told)

-- it gained the pieces of the first of these, and nothing of the last one
pub record LacksLast (parcels : List Parcel) (before now : Outlet) : Type 0 where
  pub firsts : List Parcel
  pub last : Parcel
  pub are : parcels ≡ firsts ++ last ∷ []
  pub gains : Gains before now (pieces firsts)

-- Only of the last datagram that was received the piece may lack: no other one was received behind a piece that wasn't written.
abbrev pub WritesInTurn : AgentEnd → List Parcel → Outlet → Outlet → Type 0
WritesInTurn ends.OutputFailed parcels before now = FailsInLast parcels before now
WritesInTurn ends.NoMemory parcels before now = Gains before now (pieces parcels) ⊎ LacksLast parcels before now
WritesInTurn other parcels before now = Gains before now (pieces parcels)

-- the lines of all but the last, as where memory was wanted for the last
pub record WithoutLast (parcels : List Parcel) (text : List ℕ) : Type 0 where
  pub firsts : List Parcel
  pub last : Parcel
  pub are : parcels ≡ firsts ++ last ∷ []
  pub is_text : text ≡ parcel_lines 1 firsts

-- the text is the lines of all, numbered from 1, or where memory was wanted it may be that of all but the last
abbrev pub AreLines : AgentEnd → List Parcel → List ℕ → Type 0
AreLines ends.NoMemory parcels text = (text ≡ parcel_lines 1 parcels) ⊎ WithoutLast parcels text
AreLines other parcels text = text ≡ parcel_lines 1 parcels

-- it listens at its own address, which is this one, each where it is told
pub record ListensAt (asked : List ℕ) (before now : Mailbox) : Type 0 where
  pub right : IsPostAt before asked
  pub listening : now.listening ≡ option_map (λ _. true) before.listening

-- how the post's calls went; where memory was wanted before, none came
abbrev pub EndsCourse : AgentEnd → Option PostCourse → Type 0
EndsCourse ends.PostFailed now = now ≡ Some courses.Stopped
EndsCourse ends.NoMemory now = (now ≡ Some courses.Fresh) ⊎ (now ≡ Some courses.Listening)
EndsCourse other now = now ≡ Some courses.Listening

-- The post was asked to listen at this address, or memory was wanted before, and gave these datagrams.
pub record LeavesPost (end : AgentEnd) (asked : List ℕ) (datagrams : List (List ℕ)) (before now : Mailbox) : Type 0 where
  pub left : LosesDatagrams before.left now.left datagrams
  pub faults : PostFaults end before.faults now.faults
  pub address : now.address ≡ before.address
  pub astray : (now.astray ≡ before.astray) ⊎ (now.astray ≡ astray_at before.address asked before.astray)
  pub listening : (now.listening ≡ before.listening) ⊎ ListensAt asked before now
  pub listens : 1 ≤ length datagrams → ListensAt asked before now
  pub course : before.course ≡ Some courses.Fresh → EndsCourse end now.course

-- The datagrams were received one after the other until this end, the output gained the pieces of the good ones, and these are
-- the lines of the bad ones.
pub record ReceivesAt (address : List ℕ) (to : Form) (count : ℕ) (end : AgentEnd) (post_before post_now : Mailbox)
    (output_before output_now : Outlet) (lines : List ℕ) : Type 0 where
  pub parcels : List Parcel
  pub are_parcels : AreParcels to parcels
  pub reaches : Reaches end count (length parcels)
  pub post : LeavesPost end address (map (λ (parcel : Parcel). parcel.datagram) parcels) post_before post_now
  pub output : WritesPieces end (pieces parcels) output_before output_now
  pub in_turn : WritesInTurn end parcels output_before output_now
  pub are_lines : AreLines end parcels lines

-- The datagrams of the post were received one after the other, the output gained the pieces of the good ones, each before the next
-- datagram was received, and the notes gained the lines of the bad ones and then that of the end.
pub record ReceivesDatagrams (address : List ℕ) (to : Form) (count status : ℕ) (post_before post_now : Mailbox)
    (output_before output_now notes_before notes_now : Outlet) : Type 0 where
  pub end : AgentEnd
  pub lines : List ℕ
  pub is_status : status ≡ end_status end
  pub received : ReceivesAt address to count end post_before post_now output_before output_now lines
  pub notes : Notes notes_before notes_now (lines ++ end_line end)

-- what is noted of other words
abbrev pub usage_line : List ℕ
usage_line = codes "usage: spanx_agent OPTIONS\n"
