-- How kept bodies are sent on: in order, each to the same address, until one isn't taken, and those that were taken leave.
use Rattle.std.specs.Prelude.{◌≡◌, ℕ, ◌+◌, ◌<◌, ◌≤◌, List, [], ◌∷◌, ◌++◌, map, length, Option, Some, None, option_to_list, Result, Ok, Err, ⊤}
use Rattle.span_io.specs.Outside.{Rose}
use Rattle.span_spool.specs.Calls.{IsFirst}
use Rattle.span_spool.specs.Spools.{Spool}
use Rattle.span_spool.specs.declared.kept.Kept.{Kept}
use Rattle.span_relay.specs.Peers.{Wire, SendsMore}
use Rattle.span_relay.specs.declared.forwarding.Flow.TheVariants as flows
use Rattle.span_relay.specs.declared.forwarding.Flow.{Flow}
use Rattle.span_relay.specs.declared.forwarding.FlowFault.TheVariants as faults
use Rattle.span_relay.specs.declared.forwarding.FlowFault.{FlowFault}
use Rattle.span_relay.specs.declared.peer.Sent.{Sent}

-- a kept body that was sent, and the status of its answer
pub record Delivery : Type 0 where
  pub row : Kept
  pub status : ℕ

-- the peer took the body (RFC 9110, section 15.3)
abbrev pub IsTaken : ℕ → Type 0
IsTaken status = (200 ≤ status) × (status ≤ 299)

-- the peer took all of these bodies (statuses 200 to 299)
abbrev pub AreTaken : List Delivery → Type 0
AreTaken [] = Unit {0}
AreTaken (delivery ∷ deliveries) = IsTaken delivery.status × AreTaken deliveries

-- the kept bodies of these deliveries, without the statuses
abbrev pub rows_of : List Delivery → List Kept
rows_of = map (λ (delivery : Delivery). delivery.row)

-- what a peer at this address sees of them
abbrev pub sent_to : List ℕ → List Delivery → List Sent
sent_to address = map (λ (delivery : Delivery). record {
  address = address;
  form = delivery.row.form;
  body = delivery.row.body;
  status = delivery.status;
})

-- the first rows were these, and are gone, where they are told
abbrev pub LosesRows : Option (List Kept) → Option (List Kept) → List Kept → Type 0
LosesRows None now gone = now ≡ None
LosesRows (Some before) now gone = (others : List Kept) × (before ≡ gone ++ others) × (now ≡ Some others)

-- these rows left, in order, and no other one
pub record Leave (gone : List Kept) (before now : Spool) : Type 0 where
  pub rows : LosesRows before.rows now.rows gone
  pub held : before.held ≡ length gone + now.held
  pub room : now.room ≡ before.room
  pub next : now.next ≡ before.next

-- the last body that was sent is still the first, though its peer took it
abbrev pub MayStay : Spool → Option Delivery → Type 0
MayStay now None = ⊤
MayStay now (Some delivery) = IsTaken delivery.status × IsFirst now delivery.row

-- the peer didn't take the first body, and answered this
pub record Refuses (now : Spool) (last : Option Delivery) (status : ℕ) : Type 0 where
  pub delivery : Delivery
  pub is_last : last ≡ Some delivery
  pub is_status : delivery.status ≡ status
  pub not_taken : IsTaken status → ⊥
  pub still : IsFirst now delivery.row

-- What stands at the end, by the answer: what was sent behind the bodies that left, and what is held.
abbrev pub EndsFlow : Spool → Option Delivery → Result Flow FlowFault → Type 0
EndsFlow now last (Ok flows.Empty) = (last ≡ None) × (now.held ≡ 0)
EndsFlow now last (Ok (flows.Held status)) = Refuses now last status
EndsFlow now last (Ok flows.Spent) = (last ≡ None) × (0 < now.held)
EndsFlow now last (Err faults.Keeper) = MayStay now last
EndsFlow now last (Err faults.Peer) = last ≡ None
EndsFlow now last (Err faults.OutOfMemory) = MayStay now last

-- The first bodies were sent in order, each to this address. Those that the peer took are gone, and no other one; behind them at
-- most one more was sent, which is still the first.
pub record SendsOn (address : List ℕ) (budget : ℕ) (result : Result Flow FlowFault)
    (gone : List Delivery) (last : Option Delivery) (before now : Spool) (wire_before wire_now : Wire) : Type 0 where
  pub taken : AreTaken gone
  pub leave : Leave (rows_of gone) before now
  pub sent : SendsMore (sent_to address (gone ++ option_to_list last)) wire_before wire_now
  pub within : length gone ≤ budget
  pub spent : result ≡ Ok flows.Spent → length gone ≡ budget
  pub ends : EndsFlow now last result

-- with these that are gone, and the one more, if there is one
abbrev pub Forwards : List ℕ → ℕ → Result Flow FlowFault → Spool → Spool → Wire → Wire → Type 0
Forwards address budget result before now wire_before wire_now =
    (gone : List Delivery) × (last : Option Delivery) × SendsOn address budget result gone last before now wire_before wire_now

-- the keeper's count rose where the answer says that it failed, and the peer's likewise
abbrev pub CountsFlow : Result Flow FlowFault → Spool → Spool → Wire → Wire → Type 0
CountsFlow (Err faults.Keeper) before now wire_before wire_now = Rose before.faults now.faults
CountsFlow (Err faults.Peer) before now wire_before wire_now = Rose wire_before.faults wire_now.faults
CountsFlow other before now wire_before wire_now = ⊤
