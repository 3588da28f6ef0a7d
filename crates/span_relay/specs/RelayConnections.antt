-- What a relay does on one connection: to the spool, to what the connection gave and took, and how far both were as bytes last came.
use Rattle.std.specs.Prelude.{◌≡◌, ◌≢◌, ℕ, ◌+◌, ◌≤◌, ◌==◌, ◌||◌, min, Bool, true, false, cond, List, [], ◌∷◌, ◌++◌, Option, Some, None, option_map, IfSome, IsTrue, Result, Ok, Err, ⊤}
use Rattle.std.specs.List.{count_by}
use Rattle.std.specs.Io.KnownBytes.{Consumes}
use Rattle.span_io.specs.Links.{Link, lengths}
use Rattle.span_io.specs.Outside.{FailsWithin, Gains, GainsFront, InputFails, IsFront, OutputFails, OutputHolds, Rose, last_count}
use Rattle.span_io.specs.declared.form.Form.{Form}
use Rattle.span_io.specs.declared.limits.Limits.{Limits}
use Rattle.conn_service.specs.Serving.{Takes, stream_of}
use Rattle.conn_service.specs.declared.ended.Ended.{Ended}
use Rattle.conn_service.specs.declared.ended.ServeFault.TheVariants as faults
use Rattle.span_spool.specs.Spools.{Spool, last_number}
use Rattle.span_spool.specs.declared.kept.Kept.{Kept}
use Rattle.span_relay.specs.RelayReplies.{FirstOffers, FirstRelayReplies, IsFrontOf, Offer, RelayAnswered, RelayReplies, outcomes_of}
use Rattle.span_relay.specs.declared.connection.RelayFault.{RelayFault}
use Rattle.span_relay.specs.declared.connection.Served.{Served}

-- what became of the good requests, one outcome each
abbrev pub outcomes_in : Result Served RelayFault → List Bool
outcomes_in (Ok served) = served.outcomes
outcomes_in (Err fault) = fault.outcomes

-- ---- what was kept

-- the rows that offers add, numbered from here
abbrev pub kept_rows : Form → ℕ → List Offer → List Kept
kept_rows to number [] = []
kept_rows to number (offer ∷ offers) =
    cond offer.kept (record { number = number; form = to; body = offer.text } ∷ kept_rows to (number + 1) offers)
    (kept_rows to number offers)

-- The rows are those before, and then the texts of the good requests whose outcome is true, in order. These are the first good
-- requests of the bytes that were read.
pub record AddsRows (to : Form) (limits : Limits) (outcomes : List Bool) (from now : Link) (before after : Spool) : Type 0 where
  pub given : List ℕ
  pub gave : Consumes from.inlet.left now.inlet.left given
  pub offers : List Offer
  pub first : FirstOffers to limits given offers
  pub told : outcomes ≡ outcomes_of offers
  pub rows : after.rows ≡ option_map (λ rows. rows ++ kept_rows to before.next offers) before.rows

-- how many are true
abbrev pub kept_of : List Bool → ℕ
kept_of outcomes = count_by (λ kept. kept) outcomes

-- whether there is no room for a body, or no number, once so many were kept
abbrev pub is_full : Spool → ℕ → Bool
is_full before kept = before.held + kept == before.room || before.next + kept == last_number

-- an outcome is false where the true ones before it leave no room, or no number
abbrev pub FalseWhereFull : Spool → List Bool → Type 0
FalseWhereFull before outcomes =
    (front : List Bool) (outcome : Bool) (others : List Bool) → outcomes ≡ front ++ outcome ∷ others
    → IsTrue (is_full before (kept_of front)) → outcome ≡ false

-- how many are false for another cause, behind so many that were kept
abbrev pub refused_from : Spool → ℕ → List Bool → ℕ
refused_from before kept [] = 0
refused_from before kept (true ∷ outcomes) = refused_from before (kept + 1) outcomes
refused_from before kept (false ∷ outcomes) = cond (is_full before kept) 0 1 + refused_from before kept outcomes

-- they are at most as many as the keeper's count rose by, or that stands where it stands still
abbrev pub CountsRefused : Spool → Spool → List Bool → Type 0
CountsRefused before after outcomes = min (before.faults + refused_from before 0 outcomes) last_count ≤ after.faults

-- Each body that was kept has its outcome, and each took one place and one number.
pub record TellsEach (before after : Spool) (outcomes : List Bool) : Type 0 where
  pub held : after.held ≡ before.held + kept_of outcomes
  pub next : after.next ≡ before.next + kept_of outcomes
  pub room : after.room ≡ before.room

-- ---- what was answered

-- the connection was served to its end: it took the replies to the bytes that were read, which are those to its stream
pub record IsRelayed (to : Form) (limits : Limits) (before now : Link) (outcomes : List Bool) (ended : Ended) : Type 0 where
  pub given : List ℕ
  pub takes : Takes limits before now given
  pub text : List ℕ
  pub replies : RelayReplies to limits given outcomes text ended
  pub stream : IfSome before.inlet.left (λ left. RelayReplies to limits (stream_of limits left) outcomes text ended)
  pub gains : Gains before.outlet now.outlet text
  pub quiet : now.inlet.faults ≡ before.inlet.faults
  pub holds : OutputHolds before.outlet now.outlet

-- A read failed: all whole requests in the bytes before it have their answers.
pub record RelaysToRead (to : Form) (limits : Limits) (before now : Link) (outcomes : List Bool) : Type 0 where
  pub given : List ℕ
  pub takes : Takes limits before now given
  pub text : List ℕ
  pub answered : RelayAnswered to limits given outcomes text
  pub gains : Gains before.outlet now.outlet text
  pub failed : InputFails before.inlet now.inlet
  pub unsteady : IsTrue before.inlet.steady → ⊥
  pub holds : OutputHolds before.outlet now.outlet

-- A write failed within the replies to the requests up to the last outcome, or up to the next good one.
pub record RelaysToWrite (to : Form) (limits : Limits) (before now : Link) (outcomes : List Bool) : Type 0 where
  pub given : List ℕ
  pub takes : Takes limits before now given
  pub text : List ℕ
  pub replies : FirstRelayReplies to limits given outcomes text
  pub fails : FailsWithin before.outlet now.outlet text
  pub failed : OutputFails before.outlet now.outlet
  pub quiet : now.inlet.faults ≡ before.inlet.faults

-- Memory was wanted: a front of those replies was written.
pub record RelaysToWant (to : Form) (limits : Limits) (before now : Link) (outcomes : List Bool) : Type 0 where
  pub given : List ℕ
  pub takes : Takes limits before now given
  pub text : List ℕ
  pub replies : FirstRelayReplies to limits given outcomes text
  pub gains : GainsFront before.outlet now.outlet text
  pub quiet : now.inlet.faults ≡ before.inlet.faults
  pub holds : OutputHolds before.outlet now.outlet

-- the fact holds of how the connection ended, where it was served to its end
abbrev pub IfServed : Result Served RelayFault → (Ended → Type 0) → Type 0
IfServed (Ok served) P = P served.end
IfServed (Err fault) P = ⊤

-- the fact holds, where a failed read ended it
abbrev pub IfReadFailed : Result Served RelayFault → Type 0 → Type 0
IfReadFailed (Ok served) P = ⊤
IfReadFailed (Err fault) P = fault.why ≡ faults.Read → P

-- the fact holds, where a failed write ended it
abbrev pub IfWriteFailed : Result Served RelayFault → Type 0 → Type 0
IfWriteFailed (Ok served) P = ⊤
IfWriteFailed (Err fault) P = fault.why ≡ faults.Write → P

-- the fact holds, where want of memory ended it
abbrev pub IfMemoryWanted : Result Served RelayFault → Type 0 → Type 0
IfMemoryWanted (Ok served) P = ⊤
IfMemoryWanted (Err fault) P = fault.why ≡ faults.OutOfMemory → P

-- At each exit what was written is a front of the replies to the first requests, of which the good ones have these outcomes.
pub record AnswersOutcomes (to : Form) (limits : Limits) (before now : Link) (outcomes : List Bool) : Type 0 where
  pub given : List ℕ
  pub gave : Consumes before.inlet.left now.inlet.left given
  pub text : List ℕ
  pub replies : FirstRelayReplies to limits given outcomes text
  pub gains : GainsFront before.outlet now.outlet text

-- A call that ends by a failed read or write ends so only where that count rose.
abbrev pub CauseRose : Link → Link → RelayFault → Type 0
CauseRose before now fault =
    (fault.why ≡ faults.Read → Rose before.inlet.faults now.inlet.faults)
    × (fault.why ≡ faults.Write → Rose before.outlet.faults now.outlet.faults)

-- the same by what a call answered: of one that served the connection to its end nothing is asked
abbrev pub HasCause : Link → Link → Result Served RelayFault → Type 0
HasCause before now (Ok served) = ⊤
HasCause before now (Err fault) = CauseRose before now fault

-- ---- how far it was as bytes last came

-- As the last read that gave bytes began, all whole requests in the bytes that were taken had their answers. Their outcomes are the
-- first ones.
pub record RelayedAtMark (to : Form) (limits : Limits) (outcomes : List Bool) (now : Link) (left held : List ℕ) : Type 0 where
  pub taken : List ℕ
  pub later : List ℕ
  pub written : List ℕ
  pub firsts : List Bool
  pub given : left ≡ taken ++ later
  pub answered : RelayAnswered to limits taken firsts written
  pub told : IsFrontOf firsts outcomes
  pub marked : now.mark ≡ lengths (Some later) (Some (held ++ written))
  pub front : IfSome now.outlet.held (λ all. IsFront (held ++ written) all)

-- the same where the connection tells its bytes, and gave some
abbrev pub MarksRelayed : Form → Limits → List Bool → Link → Option (List ℕ) → Option (List ℕ) → Type 0
MarksRelayed to limits outcomes now None held = ⊤
MarksRelayed to limits outcomes now (Some left) None = ⊤
MarksRelayed to limits outcomes now (Some left) (Some held) =
    now.inlet.left ≢ Some left → RelayedAtMark to limits outcomes now left held

-- the same from the connection before the call: the bytes that were to come, and those that were written to it
abbrev pub KeepsRelayMark : Form → Limits → List Bool → Link → Link → Type 0
KeepsRelayMark to limits outcomes before now = MarksRelayed to limits outcomes now before.inlet.left before.outlet.held
