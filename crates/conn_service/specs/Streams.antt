-- The bytes of a connection as its requests in their order, each with its answer, and what stands behind them (RFC 9112,
-- section 9.3).
-- A service answers them: from its state, a request that these bytes are is answered with a text, which leaves another state.
use Rattle.std.specs.Prelude.{◌≡◌, ◌≢◌, ◌⊎◌, ℕ, true, false, List, [], ◌∷◌, ◌++◌, take, drop}
use Rattle.std.specs.List.{flat_map}
use Rattle.span_io.specs.declared.limits.Limits.{Limits}
use Rattle.http_conn.specs.NextRequests.{IsNext}
use Rattle.http_conn.specs.Replies.{answer_text}
use Rattle.http_conn.specs.declared.next.Next.TheVariants.{Need, Whole, Refuse}
use Rattle.http_conn.specs.declared.next.Request.{Request}
use Rattle.conn_service.specs.declared.ended.Ended.{Ended}
use Rattle.conn_service.specs.declared.ended.Ended.TheVariants.{Closed, Cut, Refused}

-- a request and its answer
pub record Reply : Type 0 where
  pub request : Request
  pub text : List ℕ

-- the answers, one behind the other
abbrev pub texts : List Reply → List ℕ
texts replies = flat_map (λ (reply : Reply). reply.text) replies

-- the answer to what is no request that is read, whatever the service
abbrev pub refusal_text : ℕ → List ℕ
refusal_text status = answer_text status [] [] true

module _ {S : Type 0} (answers : S → Request → List ℕ → List ℕ → S → Type 0) (limits : Limits) where
  -- The bytes are these requests, each whole and with its answer, and then the rest. None of them ends the connection.
  -- The answers lead from the first state to the last.
  abbrev pub Served : S → List Reply → List ℕ → List ℕ → S → Type 0
  Served first [] bytes rest last = (bytes ≡ rest) × (last ≡ first)
  Served first (reply ∷ replies) bytes rest last =
      IsNext limits bytes (Whole reply.request)
      × (reply.request.close ≡ false)
      × (next : S)
      × answers first reply.request (take reply.request.length bytes) reply.text next
      × Served next replies (drop reply.request.length bytes) rest last

  -- the text is the answers to all whole requests of the bytes
  pub record AllAnswered (first : S) (bytes text : List ℕ) (last : S) : Type 0 where
    pub replies : List Reply
    pub rest : List ℕ
    pub served : Served first replies bytes rest last
    pub waits : IsNext limits rest Need
    pub is_text : text ≡ texts replies

  -- a request that ends the connection begins the bytes, and this is its answer
  pub record EndsByRequest (first : S) (rest text : List ℕ) (last : S) : Type 0 where
    pub request : Request
    pub whole : IsNext limits rest (Whole request)
    pub closes : request.close ≡ true
    pub answered : answers first request (take request.length rest) text last

  -- the bytes end within a request, which has no answer
  pub record EndsWithin (rest text : List ℕ) : Type 0 where
    pub waits : IsNext limits rest Need
    pub some : rest ≢ []
    pub no_answer : text ≡ []

  -- what stands behind the requests before, and the last answer: nothing, a request that ends the connection, one that
  -- isn't whole, or what is refused
  abbrev pub EndsAs : S → List ℕ → List ℕ → Ended → S → Type 0
  EndsAs first rest text Closed last = ((rest ≡ []) × (text ≡ []) × (last ≡ first)) ⊎ EndsByRequest first rest text last
  EndsAs first rest text Cut last = EndsWithin rest text × (last ≡ first)
  EndsAs first rest text (Refused status) last =
      IsNext limits rest (Refuse status) × (text ≡ refusal_text status) × (last ≡ first)

  -- the text is the replies to a whole stream, which ends so
  pub record IsReplies (first : S) (stream text : List ℕ) (ended : Ended) (last : S) : Type 0 where
    pub replies : List Reply
    pub rest : List ℕ
    pub between : S
    pub last_text : List ℕ
    pub served : Served first replies stream rest between
    pub ends : EndsAs between rest last_text ended last
    pub is_text : text ≡ texts replies ++ last_text

  -- the text is the replies to the first requests of a stream, up to its end or not
  pub data FirstReplies (first : S) (bytes text : List ℕ) (last : S) : Type 0 where
    some : (replies : List Reply) → (rest : List ℕ) → Served first replies bytes rest last → text ≡ texts replies
        → FirstReplies first bytes text last
    all : (ended : Ended) → IsReplies first bytes text ended last → FirstReplies first bytes text last
