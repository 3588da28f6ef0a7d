-- What contracts see of a peer: what was sent to it with the status of each answer, where that is told, and how often it was
-- refused.
use Rattle.std.specs.Prelude.{◌≡◌, ℕ, List, [], ◌∷◌, ◌++◌, Option, option_map, Result, Ok, Err, IsTrue}
use Rattle.http_conn.specs.Posts.{is_address}
use Rattle.span_io.specs.Outside.{Rose}
use Rattle.span_io.specs.declared.form.Form.{Form}
use Rattle.span_relay.specs.declared.peer.PeerFault.{PeerFault}
use Rattle.span_relay.specs.declared.peer.PeerFault.TheVariants as faults
use Rattle.span_relay.specs.declared.peer.Sent.{Sent}

-- what was sent, in order, where that is told, and a count of failures, which stands still at the end of 64 bits
pub record Wire : Type 0 where
  pub sent : Option (List Sent)
  pub faults : ℕ

-- the address of a host, as a request tells it
abbrev pub IsPeerAddress : List ℕ → Type 0
IsPeerAddress address = IsTrue (is_address address)

-- where it is told, this was sent behind the rest
abbrev pub SendsMore : List Sent → Wire → Wire → Type 0
SendsMore more before now = now.sent ≡ option_map (λ sent. sent ++ more) before.sent

-- What a call answers, and what it makes of the wire: a body was sent and answered with a status, the peer failed, or memory was
-- wanted.
abbrev pub Sends : List ℕ → Form → List ℕ → Wire → Wire → Result ℕ PeerFault → Type 0
Sends address form body before now (Ok status) =
    SendsMore (record { address = address; form = form; body = body; status = status } ∷ []) before now
Sends address form body before now (Err faults.Failed) = Rose before.faults now.faults × (now.sent ≡ before.sent)
Sends address form body before now (Err faults.OutOfMemory) = now ≡ before
