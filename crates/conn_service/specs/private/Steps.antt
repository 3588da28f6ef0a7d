-- What the parts of serving a connection do to it.
use Rattle.std.specs.Prelude.{◌≡◌, ◌≢◌, ◌⊎◌, ℕ, ◌≤◌, List, [], ◌++◌, length, IsTrue, Option, Some, None, Result, Ok, Err}
use Rattle.std.specs.Io.KnownBytes.{Consumes, IsAtEnd}
use Rattle.span_io.specs.Links.{Link, mark_of_reads}
use Rattle.span_io.specs.Outside.{Gains, FailsWithin, InputFails, OutputFails, OutputHolds}
use Rattle.span_io.specs.declared.course.ReadCourse.TheVariants as reads
use Rattle.span_io.specs.declared.limits.Limits.{Limits}
use Rattle.http_conn.specs.NextRequests.{IsNext}
use Rattle.http_conn.specs.declared.next.Next.TheVariants.{Need, Refuse}
use Rattle.http_conn.specs.declared.next.Request.{Request}
use Rattle.conn_service.specs.Serving.{HaltsAt}
use Rattle.conn_service.specs.Streams.{EndsByRequest, FirstReplies, Reply, Served, refusal_text, texts}
use Rattle.conn_service.specs.declared.ended.Ended.{Ended}
use Rattle.conn_service.specs.declared.ended.Ended.TheVariants.{Closed, Cut, Refused}
use Rattle.conn_service.specs.declared.ended.ServeFault.{ServeFault}
use Rattle.conn_service.specs.declared.ended.ServeFault.TheVariants as faults

-- ---- writing

-- no read took place
pub record SameInlet (before now : Link) : Type 0 where
  pub inlet : now.inlet ≡ before.inlet
  pub mark : now.mark ≡ before.mark

-- this text was written
pub record Writes (before now : Link) (text : List ℕ) : Type 0 where
  pub gains : Gains before.outlet now.outlet text
  pub holds : OutputHolds before.outlet now.outlet
  pub same : SameInlet before now

-- a write failed within it
pub record WritesFront (before now : Link) (text : List ℕ) : Type 0 where
  pub fails : FailsWithin before.outlet now.outlet text
  pub failed : OutputFails before.outlet now.outlet
  pub same : SameInlet before now

-- A text was sent, or a write failed within it.
abbrev pub Sends : Link → Link → List ℕ → Result Unit ServeFault → Type 0
Sends before now text (Ok x) = Writes before now text
Sends before now text (Err faults.Read) = ⊥
Sends before now text (Err faults.Write) = WritesFront before now text
Sends before now text (Err faults.OutOfMemory) = ⊥

-- The answer to what is refused was sent, or a write failed within it, or memory was wanted before.
abbrev pub Refuses : ℕ → Link → Link → Result Unit ServeFault → Type 0
Refuses status before now (Ok x) = Writes before now (refusal_text status)
Refuses status before now (Err faults.Read) = ⊥
Refuses status before now (Err faults.Write) = WritesFront before now (refusal_text status)
Refuses status before now (Err faults.OutOfMemory) = now ≡ before

module _ {S : Type 0} (answers : S → Request → List ℕ → List ℕ → S → Type 0) (limits : Limits) where
  -- what ends a stream whatever comes behind it: a request, or what is refused
  abbrev pub EndsEarly : S → List ℕ → List ℕ → Ended → S → Type 0
  EndsEarly first rest text Closed last = EndsByRequest answers limits first rest text last
  EndsEarly first rest text Cut last = ⊥
  EndsEarly first rest text (Refused status) last =
      IsNext limits rest (Refuse status) × (text ≡ refusal_text status) × (last ≡ first)

  -- all whole requests were answered, of which none ends the connection
  pub record AnswersAll (first last : S) (before now : Link) (old new : List ℕ) : Type 0 where
    pub replies : List Reply
    pub served : Served answers limits first replies old new last
    pub waits : IsNext limits new Need
    pub writes : Writes before now (texts replies)

  -- requests were answered up to one that ends the connection, or to what was refused
  pub record AnswersLast (first last : S) (before now : Link) (old : List ℕ) (ended : Ended) : Type 0 where
    pub replies : List Reply
    pub rest : List ℕ
    pub between : S
    pub text : List ℕ
    pub served : Served answers limits first replies old rest between
    pub ends : EndsEarly between rest text ended last
    pub writes : Writes before now (texts replies ++ text)

  -- a write failed within the first replies
  pub record AnswersFront (first last : S) (before now : Link) (old : List ℕ) : Type 0 where
    pub text : List ℕ
    pub replies : FirstReplies answers limits first old text last
    pub writes : WritesFront before now text

module _ {S : Type 0} (answers : S → Request → List ℕ → List ℕ → S → Type 0) (halts : S → Request → List ℕ → S → Type 0)
    (limits : Limits) where
  -- memory was wanted behind the first replies
  pub record AnswersSome (first last : S) (before now : Link) (old : List ℕ) : Type 0 where
    pub replies : List Reply
    pub rest : List ℕ
    pub between : S
    pub served : Served answers limits first replies old rest between
    pub stands : (last ≡ between) ⊎ HaltsAt halts limits between rest last
    pub writes : Writes before now (texts replies)

  -- The whole requests among the bytes were answered, and the connection goes on or ends; or a write failed, or memory was
  -- wanted. No read takes place.
  abbrev pub AnswersWhole : S → S → Link → Link → List ℕ → List ℕ → Result (Option Ended) ServeFault → Type 0
  AnswersWhole first last before now old new (Ok None) = AnswersAll answers limits first last before now old new
  AnswersWhole first last before now old new (Ok (Some ended)) = AnswersLast answers limits first last before now old ended
  AnswersWhole first last before now old new (Err faults.Write) = AnswersFront answers limits first last before now old
  AnswersWhole first last before now old new (Err faults.OutOfMemory) = AnswersSome first last before now old
  AnswersWhole first last before now old new (Err faults.Read) = ⊥

  -- A request's answer was sent, or a write failed within it, or memory was wanted before.
  abbrev pub Replies : S → S → Link → Link → Request → List ℕ → Result Unit ServeFault → Type 0
  Replies first last before now request bytes (Ok x) =
      (text : List ℕ) × answers first request bytes text last × Writes before now text
  Replies first last before now request bytes (Err faults.Write) =
      (text : List ℕ) × answers first request bytes text last × WritesFront before now text
  Replies first last before now request bytes (Err faults.OutOfMemory) =
      (now ≡ before) × ((last ≡ first) ⊎ halts first request bytes last)
  Replies first last before now request bytes (Err faults.Read) = ⊥

-- ---- reading

-- A read gave a piece, which marks how far the connection was before; or no more may be read.
pub record ReadsPiece (before now : Link) (most : ℕ) (piece : List ℕ) : Type 0 where
  pub gave : Consumes before.inlet.left now.inlet.left piece
  pub within : length piece ≤ most
  pub quiet : now.inlet.faults ≡ before.inlet.faults
  pub steady : now.inlet.steady ≡ before.inlet.steady
  pub outlet : now.outlet ≡ before.outlet
  pub mark : now.mark ≡ mark_of_reads {E = Unit} before (Ok (length piece))
  pub goes : 1 ≤ length piece → before.inlet.course ≡ Some reads.Going → now.inlet.course ≡ Some reads.Going
  pub in_vain : before.inlet.course ≡ Some reads.Going → now.inlet.course ≡ Some reads.InVain → ⊥

-- behind the bytes that waited
pub record ReadsMore (before now : Link) (old new : List ℕ) (most given : ℕ) : Type 0 where
  pub piece : List ℕ
  pub reads : ReadsPiece before now most piece
  pub number : given ≡ length piece
  pub appends : new ≡ old ++ piece
  pub ends : given ≡ 0 → (most ≡ 0) ⊎ IsAtEnd now.inlet.left

-- a read failed, of a source that isn't steady: it took no bytes, and neither what was written nor the mark changed
pub record ReadFails (before now : Link) : Type 0 where
  pub gave : Consumes before.inlet.left now.inlet.left []
  pub failed : InputFails before.inlet now.inlet
  pub unsteady : IsTrue before.inlet.steady → ⊥
  pub outlet : now.outlet ≡ before.outlet
  pub mark : now.mark ≡ before.mark
  pub in_vain : before.inlet.course ≡ Some reads.Going → now.inlet.course ≡ Some reads.InVain → ⊥

-- A read gave a piece behind the bytes that waited, or failed; or memory was wanted, and a piece was read all the same, which
-- may be empty. Nothing is written.
abbrev pub Reads : Link → Link → List ℕ → List ℕ → ℕ → Result ℕ ServeFault → Type 0
Reads before now old new most (Ok given) = ReadsMore before now old new most given
Reads before now old new most (Err faults.Read) = ReadFails before now
Reads before now old new most (Err faults.OutOfMemory) = (piece : List ℕ) × ReadsPiece before now most piece
Reads before now old new most (Err faults.Write) = ⊥

-- how a stream ends with these bytes, in which no request is whole
abbrev pub EndsHere : List ℕ → Ended → Type 0
EndsHere rest Closed = rest ≡ []
EndsHere rest Cut = rest ≢ []
EndsHere rest (Refused status) = ⊥
