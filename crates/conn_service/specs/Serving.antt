-- What serving a connection does to it and to the service: the bytes that it gave, the answers that it took, the state that
-- they left, and how far all were as bytes last came.
use Rattle.std.specs.Prelude.{◌≡◌, ◌≢◌, ◌⊎◌, ◌≤◌, ℕ, List, ◌++◌, length, take, Option, Some, None, Result, Ok, Err, IfSome, IsTrue, ⊤}
use Rattle.std.specs.Io.KnownBytes.{Consumes}
use Rattle.span_io.specs.Links.{Link, lengths}
use Rattle.span_io.specs.Outside.{Gains, FailsWithin, InputFails, NoReadInVain, OutputFails, OutputHolds, IsFront}
use Rattle.span_io.specs.declared.limits.Limits.{Limits}
use Rattle.http_conn.specs.NextRequests.{IsNext}
use Rattle.http_conn.specs.declared.next.Next.TheVariants.{Whole}
use Rattle.http_conn.specs.declared.next.Request.{Request}
use Rattle.conn_service.specs.Streams.{AllAnswered, FirstReplies, IsReplies, Reply, Served, texts}
use Rattle.conn_service.specs.declared.ended.Ended.{Ended}
use Rattle.conn_service.specs.declared.ended.ServeFault.{ServeFault}
use Rattle.conn_service.specs.declared.ended.ServeFault.TheVariants as faults

-- the stream of a connection: the bytes that it gives, at most so many
abbrev pub stream_of : Limits → List ℕ → List ℕ
stream_of limits left = take limits.binary left

-- These bytes were read, no more than the limit, and each read but the last gave some.
pub record Takes (limits : Limits) (before now : Link) (given : List ℕ) : Type 0 where
  pub gave : Consumes before.inlet.left now.inlet.left given
  pub within : length given ≤ limits.binary
  pub in_vain : NoReadInVain before.inlet now.inlet

module _ {S : Type 0} (answers : S → Request → List ℕ → List ℕ → S → Type 0) (leads : S → S → Type 0) (limits : Limits) where
  -- As the last read that gave bytes began, all whole requests in the bytes that were taken had their answers, and the state that
  -- they left leads to the last one.
  pub record AnsweredAtMark (first last : S) (now : Link) (left held : List ℕ) : Type 0 where
    pub taken : List ℕ
    pub later : List ℕ
    pub written : List ℕ
    pub state : S
    pub given : left ≡ taken ++ later
    pub answered : AllAnswered answers limits first taken written state
    pub led : leads state last
    pub marked : now.mark ≡ lengths (Some later) (Some (held ++ written))
    pub front : IfSome now.outlet.held (λ all. IsFront (held ++ written) all)

  -- the same where the connection tells its bytes, and gave some
  abbrev pub MarksAnswers : S → S → Link → Link → Option (List ℕ) → Option (List ℕ) → Type 0
  MarksAnswers first last before now None held = ⊤
  MarksAnswers first last before now (Some left) None = ⊤
  MarksAnswers first last before now (Some left) (Some held) =
      now.inlet.left ≢ Some left → AnsweredAtMark first last now left held

  -- the same, with what the connection told before it was served
  abbrev pub KeepsMark : S → S → Link → Link → Type 0
  KeepsMark first last before now = MarksAnswers first last before now before.inlet.left before.outlet.held

-- memory was wanted for the answer to the whole request that begins the bytes
pub record HaltsAt {S : Type 0} (halts : S → Request → List ℕ → S → Type 0) (limits : Limits) (first : S) (rest : List ℕ)
    (last : S) : Type 0 where
  pub request : Request
  pub whole : IsNext limits rest (Whole request)
  pub halted : halts first request (take request.length rest) last

module _ {S : Type 0} (answers : S → Request → List ℕ → List ℕ → S → Type 0) (halts : S → Request → List ℕ → S → Type 0)
    (limits : Limits) where
  -- the connection was served to its end, without a fault: the replies to the bytes that were read, which are those to its stream
  pub record IsServed (first last : S) (before now : Link) (ended : Ended) : Type 0 where
    pub given : List ℕ
    pub takes : Takes limits before now given
    pub text : List ℕ
    pub replies : IsReplies answers limits first given text ended last
    pub stream : IfSome before.inlet.left (λ left. IsReplies answers limits first (stream_of limits left) text ended last)
    pub gains : Gains before.outlet now.outlet text
    pub quiet : now.inlet.faults ≡ before.inlet.faults
    pub holds : OutputHolds before.outlet now.outlet

  -- A read failed: all whole requests in the bytes before it have their answers.
  pub record FailsToRead (first last : S) (before now : Link) : Type 0 where
    pub given : List ℕ
    pub takes : Takes limits before now given
    pub text : List ℕ
    pub answered : AllAnswered answers limits first given text last
    pub gains : Gains before.outlet now.outlet text
    pub failed : InputFails before.inlet now.inlet
    pub unsteady : IsTrue before.inlet.steady → ⊥
    pub holds : OutputHolds before.outlet now.outlet

  -- A write failed within the replies to the bytes that were read.
  pub record FailsToWrite (first last : S) (before now : Link) : Type 0 where
    pub given : List ℕ
    pub takes : Takes limits before now given
    pub text : List ℕ
    pub replies : FirstReplies answers limits first given text last
    pub fails : FailsWithin before.outlet now.outlet text
    pub failed : OutputFails before.outlet now.outlet
    pub quiet : now.inlet.faults ≡ before.inlet.faults

  -- Memory was wanted: the first replies to the bytes that were read were written, and what they left stands, or what want of
  -- memory leaves at the next request.
  pub record WantsMemory (first last : S) (before now : Link) : Type 0 where
    pub given : List ℕ
    pub takes : Takes limits before now given
    pub replies : List Reply
    pub rest : List ℕ
    pub between : S
    pub served : Served answers limits first replies given rest between
    pub stands : (last ≡ between) ⊎ HaltsAt halts limits between rest last
    pub gains : Gains before.outlet now.outlet (texts replies)
    pub quiet : now.inlet.faults ≡ before.inlet.faults
    pub holds : OutputHolds before.outlet now.outlet

  -- how serving a connection came out: it was served to its end, a read or a write failed, or memory was wanted
  abbrev pub Serves : S → S → Link → Link → Result Ended ServeFault → Type 0
  Serves first last before now (Ok ended) = IsServed first last before now ended
  Serves first last before now (Err faults.Read) = FailsToRead first last before now
  Serves first last before now (Err faults.Write) = FailsToWrite first last before now
  Serves first last before now (Err faults.OutOfMemory) = WantsMemory first last before now
