-- How connections are relayed: one after the other, and after each the bodies that are kept are sent on.
use Rattle.std.specs.Prelude.{◌≡◌, ◌⊎◌, ℕ, ◌+◌, ◌<◌, ◌≤◌, min, Bool, true, false, List, [], ◌∷◌, ◌++◌, drop, map, length, Option, Some, None, option_map, option_to_list, Result, Ok, Err, codes, decimal}
use Rattle.span_io.specs.Doors.{Doorway}
use Rattle.span_io.specs.Limits.{shipped_limits}
use Rattle.span_io.specs.Links.{Link}
use Rattle.span_io.specs.Outside.{Outlet, last_count}
use Rattle.span_io.specs.declared.form.Form.{Form}
use Rattle.span_io.specs.declared.limits.Limits.{Limits}
use Rattle.conn_service.specs.declared.ended.ServeFault.{ServeFault}
use Rattle.conn_service.specs.declared.ended.ServeFault.TheVariants as whys
use Rattle.span_notes.specs.Notes.{Notes}
use Rattle.span_spool.specs.Spools.{Spool}
use Rattle.span_spool.specs.declared.kept.Kept.{Kept}
use Rattle.conn_service.specs.DoorRuns.{LeavesDoor}
use Rattle.span_relay.specs.Forwards.{Delivery, SendsOn, sent_to}
use Rattle.span_relay.specs.Peers.{SendsMore, Wire}
use Rattle.span_relay.specs.RelayConnections.{AddsRows, AnswersOutcomes, CountsRefused, FalseWhereFull, HasCause, IfMemoryWanted, IfReadFailed, IfServed, IfWriteFailed, IsRelayed, KeepsRelayMark, RelaysToRead, RelaysToWant, RelaysToWrite, TellsEach, kept_rows, outcomes_in, refused_from}
use Rattle.span_relay.specs.declared.connection.RelayFault.{RelayFault}
use Rattle.span_relay.specs.declared.connection.Served.{Served}
use Rattle.span_relay.specs.declared.forwarding.Flow.{Flow}
use Rattle.span_relay.specs.declared.forwarding.Flow.TheVariants as flows
use Rattle.span_relay.specs.declared.forwarding.FlowFault.{FlowFault}
use Rattle.span_relay.specs.declared.forwarding.FlowFault.TheVariants as faults
use Rattle.span_relay.specs.declared.peer.Sent.{Sent}
use Rattle.span_relay.specs.declared.round.Round.{Round}
use Rattle.span_relay.specs.declared.run.RunEnd.{RunEnd}
use Rattle.span_relay.specs.declared.run.RunEnd.TheVariants as ends

-- ---- one round

-- how many bodies are sent on after one connection
abbrev pub most_sent : ℕ
most_sent = 1000

-- A connection as it was accepted and as it was given back, with how serving it ended; then how sending on ended, where it was
-- begun, the bodies that left, and the one more that was sent, if there is one. The spool is told before, between and after, the
-- wire before and after.
pub record Turn : Type 0 where
  pub link : Link
  pub back : Link
  pub ended : Result Served RelayFault
  pub flow : Option (Result Flow FlowFault)
  pub kept : List Kept
  pub gone : List Delivery
  pub more : Option Delivery
  pub first : Spool
  pub between : Spool
  pub last : Spool
  pub wire_first : Wire
  pub wire_last : Wire

-- The connection was served as `relay_connection` says, and none of its calls had been refused before. These are
-- the rows that it added.
pub record ServesLink (to : Form) (limits : Limits) (link back : Link) (ended : Result Served RelayFault) (kept : List Kept)
    (first between : Spool) : Type 0 where
  pub adds : AddsRows to limits (outcomes_in ended) link back first between
  pub is_kept : kept ≡ kept_rows to first.next adds.offers
  pub full : FalseWhereFull first (outcomes_in ended)
  pub refused : CountsRefused first between (outcomes_in ended)
  pub each : TellsEach first between (outcomes_in ended)
  pub served : IfServed ended (IsRelayed to limits link back (outcomes_in ended))
  pub read : IfReadFailed ended (RelaysToRead to limits link back (outcomes_in ended))
  pub write : IfWriteFailed ended (RelaysToWrite to limits link back (outcomes_in ended))
  pub memory : IfMemoryWanted ended (RelaysToWant to limits link back (outcomes_in ended))
  pub answers : AnswersOutcomes to limits link back (outcomes_in ended)
  pub causes : HasCause link back ended
  pub mark : KeepsRelayMark to limits (outcomes_in ended) link back
  pub no_read_fault : link.inlet.faults ≡ 0
  pub no_write_fault : link.outlet.faults ≡ 0

-- why it wasn't served to its end, if it wasn't
abbrev pub why_in : Result Served RelayFault → Option ServeFault
why_in (Ok served) = None
why_in (Err fault) = Some fault.why

-- want of memory ended the connection
abbrev pub WantsMemory : Result Served RelayFault → Type 0
WantsMemory ended = why_in ended ≡ Some whys.OutOfMemory

-- memory was wanted for the connection: nothing was sent on
pub record SendsNothing (ended : Result Served RelayFault) (gone : List Delivery) (more : Option Delivery)
    (between last : Spool) (wire_first wire_last : Wire) : Type 0 where
  pub wants : WantsMemory ended
  pub none : gone ≡ []
  pub no_more : more ≡ None
  pub spool : last ≡ between
  pub wire : wire_last ≡ wire_first

-- else bodies were sent on, as `forward` says
pub record SendsSome (peer : List ℕ) (ended : Result Served RelayFault) (answer : Result Flow FlowFault) (gone : List Delivery)
    (more : Option Delivery) (between last : Spool) (wire_first wire_last : Wire) : Type 0 where
  pub enough : WantsMemory ended → ⊥
  pub sends : SendsOn peer most_sent answer gone more between last wire_first wire_last

-- what was sent on behind the connection: nothing where no answer is told, and else bodies with this answer
abbrev pub SendsAfter : List ℕ → Result Served RelayFault → Option (Result Flow FlowFault) → List Delivery → Option Delivery
    → Spool → Spool → Wire → Wire → Type 0
SendsAfter peer ended None gone more between last wire_first wire_last =
    SendsNothing ended gone more between last wire_first wire_last
SendsAfter peer ended (Some answer) gone more between last wire_first wire_last =
    SendsSome peer ended answer gone more between last wire_first wire_last

-- memory was wanted in the round, which ends the run
abbrev pub Halts : Option (Result Flow FlowFault) → Type 0
Halts flow = (flow ≡ None) ⊎ (flow ≡ Some (Err faults.OutOfMemory))

-- how often the keeper and the peer failed as bodies were sent on
abbrev pub keeper_failures : Option (Result Flow FlowFault) → ℕ
keeper_failures (Some (Err faults.Keeper)) = 1
keeper_failures other = 0

-- how often the peer failed as bodies were sent on: once where that ended it, and else never
abbrev pub peer_failures : Option (Result Flow FlowFault) → ℕ
peer_failures (Some (Err faults.Peer)) = 1
peer_failures other = 0

-- a count rose by so many at the least, or stands where it stands still
abbrev pub RoseBy : ℕ → ℕ → ℕ → Type 0
RoseBy before now n = min (before + n) last_count ≤ now

-- Why rows are left: the peer answered the one more, which is the first, with what isn't 200 to 299; as many left as may in a
-- round; the keeper or the peer failed; or memory was wanted.
pub data LeavesFor (flow : Option (Result Flow FlowFault)) (gone : List Delivery) (more : Option Delivery) : Type 0 where
  answered : (delivery : Delivery) → more ≡ Some delivery → flow ≡ Some (Ok (flows.Held delivery.status))
      → LeavesFor flow gone more
  many : length gone ≡ most_sent → LeavesFor flow gone more
  keeper_failed : keeper_failures flow ≡ 1 → LeavesFor flow gone more
  peer_failed : peer_failures flow ≡ 1 → LeavesFor flow gone more
  halted : Halts flow → LeavesFor flow gone more

-- The connection was served, and bodies were sent on to the peer at this address. Where some are left there is a reason, and the
-- counts rose where the keeper or the peer failed.
pub record IsTurn (to : Form) (peer : List ℕ) (turn : Turn) : Type 0 where
  pub serves : ServesLink to shipped_limits turn.link turn.back turn.ended turn.kept turn.first turn.between
  pub sends : SendsAfter peer turn.ended turn.flow turn.gone turn.more turn.between turn.last turn.wire_first turn.wire_last
  pub leaves : 0 < turn.last.held → LeavesFor turn.flow turn.gone turn.more
  pub keeper_counts : RoseBy turn.between.faults turn.last.faults (keeper_failures turn.flow)
  pub peer_counts : RoseBy turn.wire_first.faults turn.wire_last.faults (peer_failures turn.flow)

-- what is told of it
abbrev pub round_of : Turn → Round
round_of turn = record { outcomes = outcomes_in turn.ended; gone = length turn.gone }

-- ---- its lines

-- a line on the connection of this number: its number, and then what is said
abbrev pub line_of : ℕ → List ℕ → List ℕ
line_of number said = codes "connection " ++ decimal number ++ said

-- the line of a read or a write of the connection that failed, and else none
abbrev pub link_line : ℕ → Option ServeFault → List ℕ
link_line number None = []
link_line number (Some whys.Read) = line_of number (codes ": read failed\n")
link_line number (Some whys.Write) = line_of number (codes ": write failed\n")
link_line number (Some whys.OutOfMemory) = []

-- the line of how sending on ended: the status of a body that wasn't taken, or that the keeper or the peer failed, and else none
abbrev pub flow_line : ℕ → Result Flow FlowFault → List ℕ
flow_line number (Ok flows.Empty) = []
flow_line number (Ok (flows.Held status)) = line_of number (codes ": peer answered " ++ decimal status ++ codes "\n")
flow_line number (Ok flows.Spent) = []
flow_line number (Err faults.Keeper) = line_of number (codes ": keeper failed\n")
flow_line number (Err faults.Peer) = line_of number (codes ": peer failed\n")
flow_line number (Err faults.OutOfMemory) = []

-- the same, and none where nothing was sent on
abbrev pub sent_line : ℕ → Option (Result Flow FlowFault) → List ℕ
sent_line number None = []
sent_line number (Some answer) = flow_line number answer

-- the lines of a turn: first that of its connection, then that of what was sent on, each if there is one
abbrev pub turn_line : ℕ → Turn → List ℕ
turn_line number turn = link_line number (why_in turn.ended) ++ sent_line number turn.flow

-- ---- one after the other

-- each begins with the spool and the wire that the one before left
abbrev pub AreTurns : Form → List ℕ → List Turn → Spool → Spool → Wire → Wire → Type 0
AreTurns to peer [] first now wire_first wire_now = (now ≡ first) × (wire_now ≡ wire_first)
AreTurns to peer (turn ∷ turns) first now wire_first wire_now =
    IsTurn to peer turn × (turn.first ≡ first) × (turn.wire_first ≡ wire_first)
    × AreTurns to peer turns turn.last now turn.wire_last wire_now

-- in none of them memory was wanted
abbrev pub NoneHalts : List Turn → Type 0
NoneHalts [] = Unit {0}
NoneHalts (turn ∷ turns) = (Halts turn.flow → ⊥) × NoneHalts turns

-- memory was wanted in the last one, and in no other
pub record LastHalts (turns : List Turn) : Type 0 where
  pub firsts : List Turn
  pub last : Turn
  pub are : turns ≡ firsts ++ last ∷ []
  pub none : NoneHalts firsts
  pub halts : Halts last.flow

-- their lines, numbered from here
abbrev pub turn_lines : ℕ → List Turn → List ℕ
turn_lines number [] = []
turn_lines number (turn ∷ turns) = turn_line number turn ++ turn_lines (number + 1) turns

-- the rows that they added, how many left, and what was sent
abbrev pub kept_in : List Turn → List Kept
kept_in [] = []
kept_in (turn ∷ turns) = turn.kept ++ kept_in turns

-- how many bodies left the spool in these turns
abbrev pub gone_in : List Turn → ℕ
gone_in [] = 0
gone_in (turn ∷ turns) = length turn.gone + gone_in turns

-- what a peer at this address saw in these turns, in order: in each the bodies that left, and then the one more, if there is one
abbrev pub sent_in : List ℕ → List Turn → List Sent
sent_in peer [] = []
sent_in peer (turn ∷ turns) = sent_to peer (turn.gone ++ option_to_list turn.more) ++ sent_in peer turns

-- The outcomes that are false for another cause than room and numbers, and the rounds in which the keeper failed; and those in
-- which the peer failed.
abbrev pub keeper_causes : List Turn → ℕ
keeper_causes [] = 0
keeper_causes (turn ∷ turns) =
    refused_from turn.first 0 (outcomes_in turn.ended) + keeper_failures turn.flow + keeper_causes turns

-- in how many of these turns the peer failed
abbrev pub peer_causes : List Turn → ℕ
peer_causes [] = 0
peer_causes (turn ∷ turns) = peer_failures turn.flow + peer_causes turns

-- ---- the end

-- the status and the last line
abbrev pub end_status : RunEnd → ℕ
end_status ends.AllSent = 0
end_status (ends.Left left) = 8
end_status ends.DoorFailed = 5
end_status ends.NoMemory = 7

-- the last line: how many bodies are left, or that the door failed or memory was wanted, and none where all were sent
abbrev pub end_line : RunEnd → List ℕ
end_line ends.AllSent = []
end_line (ends.Left left) = codes "left " ++ decimal left ++ codes "\n"
end_line ends.DoorFailed = codes "door failed\n"
end_line ends.NoMemory = codes "out of memory\n"

-- the door failed alone where no connection was given
abbrev pub door_failed : RunEnd → Bool
door_failed ends.DoorFailed = true
door_failed other = false

-- How many connections were accepted of so many, and what is held. Memory may be wanted before the next one is accepted, too.
abbrev pub Reaches : RunEnd → ℕ → List Turn → Spool → Type 0
Reaches ends.AllSent count turns now = (length turns ≡ count) × NoneHalts turns × (now.held ≡ 0)
Reaches (ends.Left left) count turns now = (length turns ≡ count) × NoneHalts turns × (now.held ≡ left) × (0 < left)
Reaches ends.DoorFailed count turns now = (length turns < count) × NoneHalts turns
Reaches ends.NoMemory count turns now = (length turns ≤ count) × (NoneHalts turns ⊎ LastHalts turns)

-- the connections of these turns as they were accepted
abbrev pub links_of : List Turn → List Link
links_of turns = map (λ (turn : Turn). turn.link) turns

-- the same as they were given back
abbrev pub backs_of : List Turn → List Link
backs_of turns = map (λ (turn : Turn). turn.back) turns

-- what the turns make of the spool and of the wire, together
pub record TurnsMake (peer : List ℕ) (turns : List Turn) (first now : Spool) (wire_first wire_now : Wire) : Type 0 where
  -- the rows are those before, followed by the texts that were kept, without as many as left
  pub rows : now.rows ≡ option_map (λ rows. drop (gone_in turns) (rows ++ kept_in turns)) first.rows
  -- in each round the bodies that left were sent, and then at most one more, each to this address
  pub sent : SendsMore (sent_in peer turns) wire_first wire_now
  -- other causes are at most as many as the counts rose by
  pub keeper_counts : RoseBy first.faults now.faults (keeper_causes turns)
  pub peer_counts : RoseBy wire_first.faults wire_now.faults (peer_causes turns)

-- Connections that wait at the door were relayed one after the other, each was given back before the next one, and the notes
-- gained their lines and then that of the end.
pub record RelaysConnections (address peer : List ℕ) (to : Form) (count status : ℕ)
    (first now : Spool) (wire_first wire_now : Wire) (door_before door_now : Doorway)
    (notes_before notes_now : Outlet) (rounds_before rounds_now : List Round) : Type 0 where
  pub end : RunEnd
  pub turns : List Turn
  pub is_status : status ≡ end_status end
  pub are : AreTurns to peer turns first now wire_first wire_now
  pub make : TurnsMake peer turns first now wire_first wire_now
  pub reaches : Reaches end count turns now
  pub door : LeavesDoor (door_failed end) address door_before door_now (links_of turns) (backs_of turns)
  pub rounds : rounds_now ≡ rounds_before ++ map round_of turns
  pub notes : Notes notes_before notes_now (turn_lines 1 turns ++ end_line end)

-- what is noted of other words
abbrev pub usage_line : List ℕ
usage_line = codes "usage: spanx_relay OPTIONS\n"
