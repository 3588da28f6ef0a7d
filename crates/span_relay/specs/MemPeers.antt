-- What contracts see of a peer in memory.
use Rattle.std.specs.Prelude.{◌≡◌, ℕ, List, [], Some, Result, Err}
use Rattle.span_io.specs.Outside.{counted}
use Rattle.span_relay.specs.Peers.{Wire}
use Rattle.span_relay.specs.declared.peer.PeerFault.{PeerFault}
use Rattle.span_relay.specs.declared.peer.PeerFault.TheVariants as faults
use Rattle.span_relay.specs.declared.peer.Sent.{Sent}

-- the statuses still to come, the calls that fail, two counts, and what was sent
pub record PeerState : Type 0 where
  pub statuses : List ℕ
  pub fail : List ℕ
  pub calls : ℕ
  pub faults : ℕ
  pub sent : List Sent

-- before any call
abbrev pub fresh_peer : List ℕ → List ℕ → PeerState
fresh_peer statuses fail = record { statuses = statuses; fail = fail; calls = 0; faults = 0; sent = [] }

-- what contracts see of it: all that was sent, and its count of failures
abbrev pub wire_of : PeerState → Wire
wire_of s = record { sent = Some s.sent; faults = s.faults }

-- a failure was counted once, and nothing else was
abbrev pub CountsRefusal : {T : Type 0} → Result T PeerFault → ℕ → ℕ → Type 0
CountsRefusal (Err faults.Failed) before now = now ≡ counted before
CountsRefusal answer before now = now ≡ before
