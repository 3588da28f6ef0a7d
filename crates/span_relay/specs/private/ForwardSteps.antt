-- What sending the first body makes of the spool and of the wire.
use Rattle.std.specs.Prelude.{◌≡◌, ℕ, ◌≤◌, List, [], ◌∷◌, length, Option, Some, None, option_to_list, Result, Ok, Err}
use Rattle.span_spool.specs.Calls.{IsFirst, shrunk, stays}
use Rattle.span_spool.specs.Spools.{Spool}
use Rattle.span_relay.specs.Forwards.{AreTaken, CountsFlow, Delivery, EndsFlow, IsTaken, Leave, rows_of, sent_to}
use Rattle.span_relay.specs.Peers.{SendsMore, Wire}
use Rattle.span_relay.specs.declared.forwarding.Flow.{Flow}
use Rattle.span_relay.specs.declared.forwarding.Flow.TheVariants as flows
use Rattle.span_relay.specs.declared.forwarding.FlowFault.{FlowFault}

-- the first so many left
pub record GoneSoFar (address : List ℕ) (done : ℕ) (before now : Spool) (wire_before wire_now : Wire) : Type 0 where
  pub gone : List Delivery
  pub number : length gone ≡ done
  pub taken : AreTaken gone
  pub leave : Leave (rows_of gone) before now
  pub sent : SendsMore (sent_to address gone) wire_before wire_now
  pub counted : before.faults ≤ now.faults
  pub wire_counted : wire_before.faults ≤ wire_now.faults

-- the first was sent, taken and dropped
pub record OneGoes (address : List ℕ) (before now : Spool) (wire_before wire_now : Wire) : Type 0 where
  pub delivery : Delivery
  pub is_first : IsFirst before delivery.row
  pub taken : IsTaken delivery.status
  pub drops : now ≡ shrunk before now.faults
  pub sent : SendsMore (sent_to address (delivery ∷ [])) wire_before wire_now

-- none left, and that ends the flow
pub record NoneGoes (address : List ℕ) (answer : Result Flow FlowFault) (before now : Spool) (wire_before wire_now : Wire)
    : Type 0 where
  pub last : Option Delivery
  pub keeps : now ≡ stays before now.faults
  pub sent : SendsMore (sent_to address (option_to_list last)) wire_before wire_now
  pub unspent : answer ≡ Ok flows.Spent → ⊥
  pub ends : EndsFlow now last answer
  pub counts : CountsFlow answer before now wire_before wire_now

-- by the answer, which is none where one left
abbrev pub SendsFirst : List ℕ → Result (Option Flow) FlowFault → Spool → Spool → Wire → Wire → Type 0
SendsFirst address (Ok None) before now wire_before wire_now = OneGoes address before now wire_before wire_now
SendsFirst address (Ok (Some flow)) before now wire_before wire_now = NoneGoes address (Ok flow) before now wire_before wire_now
SendsFirst address (Err fault) before now wire_before wire_now = NoneGoes address (Err fault) before now wire_before wire_now
