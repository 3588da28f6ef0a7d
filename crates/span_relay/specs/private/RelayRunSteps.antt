-- What the parts of relaying connections do to the spool, the wire, the door and the notes.
use Rattle.std.specs.Prelude.{◌≡◌, ◌↔◌, ℕ, ◌<◌, Bool, List, ◌++◌, map, length, Option, IsTrue, Result}
use Rattle.span_io.specs.Doors.{Doorway}
use Rattle.span_io.specs.Limits.{shipped_limits}
use Rattle.span_io.specs.Links.{Link}
use Rattle.span_io.specs.Outside.{Outlet}
use Rattle.span_io.specs.declared.form.Form.{Form}
use Rattle.span_notes.specs.Notes.{NotesMore}
use Rattle.span_spool.specs.Spools.{Spool}
use Rattle.span_spool.specs.declared.kept.Kept.{Kept}
use Rattle.conn_service.specs.private.DoorSteps.{GivesEach, GivesOne, GivesUntil, KeepsListening}
use Rattle.conn_service.specs.DoorRuns.{LeavesDoor}
use Rattle.span_relay.specs.Forwards.{Delivery}
use Rattle.span_relay.specs.Peers.{Wire}
use Rattle.span_relay.specs.RelayConnections.{outcomes_in}
use Rattle.span_relay.specs.RelayRuns.{AreTurns, Halts, LeavesFor, NoneHalts, Reaches, RoseBy, SendsAfter, ServesLink, Turn, backs_of, door_failed, keeper_failures, link_line, links_of, peer_failures, round_of, sent_line, turn_lines, why_in}
use Rattle.span_relay.specs.declared.connection.RelayFault.{RelayFault}
use Rattle.span_relay.specs.declared.connection.Served.{Served}
use Rattle.span_relay.specs.declared.forwarding.Flow.{Flow}
use Rattle.span_relay.specs.declared.forwarding.FlowFault.{FlowFault}
use Rattle.span_relay.specs.declared.round.Round.{Round}
use Rattle.span_relay.specs.declared.run.RunEnd.{RunEnd}
use Rattle.span_relay.specs.declared.run.Turned.{Turned}

-- the next connection was accepted, served and given back
pub record RelaysNext (to : Form) (ended : Result Served RelayFault) (first between : Spool) (door_before door_now : Doorway)
    : Type 0 where
  pub link : Link
  pub back : Link
  pub kept : List Kept
  pub serves : ServesLink to shipped_limits link back ended kept first between
  pub gives : GivesOne door_before door_now link back

-- and then bodies were sent on, and its lines were noted
pub record SendsRound (peer : List ℕ) (number : ℕ) (ended : Result Served RelayFault) (turned : Turned) (held holds : Bool)
    (between last : Spool) (wire_first wire_last : Wire) (notes_before notes_now : Outlet) : Type 0 where
  pub flow : Option (Result Flow FlowFault)
  pub gone : List Delivery
  pub more : Option Delivery
  pub sends : SendsAfter peer ended flow gone more between last wire_first wire_last
  pub leaves : 0 < last.held → LeavesFor flow gone more
  pub keeper_counts : RoseBy between.faults last.faults (keeper_failures flow)
  pub peer_counts : RoseBy wire_first.faults wire_last.faults (peer_failures flow)
  pub is_round : turned.round ≡ record { outcomes = outcomes_in ended; gone = length gone }
  pub halts : IsTrue turned.halted ↔ Halts flow
  pub notes : NotesMore held holds notes_before notes_now (link_line number (why_in ended) ++ sent_line number flow)

-- these were relayed
pub record HasRelayed (to : Form) (peer : List ℕ) (turns : List Turn) (held holds : Bool) (first now : Spool)
    (wire_first wire_now : Wire) (notes_before notes_now : Outlet) (rounds_before rounds_now : List Round) : Type 0 where
  pub are : AreTurns to peer turns first now wire_first wire_now
  pub rounds : rounds_now ≡ rounds_before ++ map round_of turns
  pub notes : NotesMore held holds notes_before notes_now (turn_lines 1 turns)

-- the first so many, in none of which memory was wanted
pub record TurnsSoFar (to : Form) (peer : List ℕ) (done : ℕ) (held holds : Bool) (first now : Spool) (wire_first wire_now : Wire)
    (door_before door_now : Doorway)
    (notes_before notes_now : Outlet) (rounds_before rounds_now : List Round) : Type 0 where
  pub turns : List Turn
  pub relayed : HasRelayed to peer turns held holds first now wire_first wire_now notes_before notes_now rounds_before rounds_now
  pub number : length turns ≡ done
  pub none : NoneHalts turns
  pub gives : GivesEach door_before door_now (links_of turns) (backs_of turns)
  pub faults : door_now.faults ≡ door_before.faults
  pub goes : KeepsListening door_before door_now

-- at a door that listens
pub record RelaysEach (to : Form) (peer : List ℕ) (count : ℕ) (end : RunEnd) (held holds : Bool) (first now : Spool)
    (wire_first wire_now : Wire) (door_before door_now : Doorway)
    (notes_before notes_now : Outlet) (rounds_before rounds_now : List Round) : Type 0 where
  pub turns : List Turn
  pub relayed : HasRelayed to peer turns held holds first now wire_first wire_now notes_before notes_now rounds_before rounds_now
  pub reaches : Reaches end count turns now
  pub gives : GivesUntil (door_failed end) door_before door_now (links_of turns) (backs_of turns)

-- at a door that is asked to listen
pub record RelaysAt (address peer : List ℕ) (to : Form) (count : ℕ) (end : RunEnd) (held holds : Bool) (first now : Spool)
    (wire_first wire_now : Wire) (door_before door_now : Doorway)
    (notes_before notes_now : Outlet) (rounds_before rounds_now : List Round) : Type 0 where
  pub turns : List Turn
  pub relayed : HasRelayed to peer turns held holds first now wire_first wire_now notes_before notes_now rounds_before rounds_now
  pub reaches : Reaches end count turns now
  pub door : LeavesDoor (door_failed end) address door_before door_now (links_of turns) (backs_of turns)
