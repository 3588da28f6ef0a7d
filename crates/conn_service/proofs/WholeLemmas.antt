-- Requests that are answered one after the other.
use Rattle.std.proofs.Common.{◌≡◌, ◌⊎◌, ℕ, Bool, true, false, List, [], ◌∷◌, ◌++◌, take, drop, Result, Ok, Err, refl, sym, ap, subst, ◌∙◌, inl, inr}
use Rattle.span_io.specs.Links.{Link}
use Rattle.span_io.specs.Outside.{GainLaws}
use Rattle.span_io.specs.declared.limits.Limits.{Limits}
use Rattle.http_conn.specs.NextRequests.{IsNext}
use Rattle.http_conn.specs.declared.next.Next.TheVariants.{Whole, Refuse}
use Rattle.http_conn.specs.declared.next.Request.{Request}
use Rattle.conn_service.specs.Services.{Appends}
use Rattle.conn_service.specs.Serving.{HaltsAt}
use Rattle.conn_service.specs.private.Steps.{AnswersFront, AnswersLast, AnswersSome, AnswersWhole, EndsEarly, Refuses, Replies, SameInlet, Sends, Writes, WritesFront}
use Rattle.conn_service.specs.Streams.{EndsByRequest, FirstReplies, Reply, Served, all, refusal_text, some, texts}
use Rattle.conn_service.specs.declared.ended.Ended.{Ended}
use Rattle.conn_service.specs.declared.ended.Ended.TheVariants.{Closed, Refused}
use Rattle.conn_service.specs.declared.ended.ServeFault.{ServeFault}
use Rattle.conn_service.specs.declared.ended.ServeFault.TheVariants as faults
use Rattle.conn_service.proofs.StreamLemmas.{first_then, served_then, texts_both, texts_one}

-- ---- writes, one after the other

same_then : (a b c : Link) → SameInlet a b → SameInlet b c → SameInlet a c
same_then a b c p q = record { inlet = q.inlet ∙ p.inlet; mark = q.mark ∙ p.mark }

module _ (laws : GainLaws) where
  writes_then : (a b c : Link) (first second : List ℕ) → Writes a b first → Writes b c second → Writes a c (first ++ second)
  writes_then a b c first second p q = record {
    gains = laws.both a.outlet b.outlet c.outlet first second p.gains q.gains;
    holds = laws.holding a.outlet b.outlet c.outlet p.holds q.holds;
    same = same_then a b c p.same q.same;
  }

  front_then : (a b c : Link) (first second : List ℕ) → Writes a b first → WritesFront b c second → WritesFront a c (first ++ second)
  front_then a b c first second p q = record {
    fails = laws.fails a.outlet b.outlet c.outlet first second p.gains q.fails;
    failed = laws.failing a.outlet b.outlet c.outlet p.holds q.failed;
    same = same_then a b c p.same q.same;
  }

-- the answer to what is refused was sent
pub sent_refusal : (status : ℕ) (text : List ℕ) (before now : Link) (result : Result Unit ServeFault) → text ≡ refusal_text status → Sends before now text result
    → Refuses status before now result
sent_refusal status text before now (Ok x) e s = subst (λ t. Writes before now t) e s
sent_refusal status text before now (Err faults.Read) e s = absurd s
sent_refusal status text before now (Err faults.Write) e s = subst (λ t. WritesFront before now t) e s
sent_refusal status text before now (Err faults.OutOfMemory) e s = absurd s

module _ {S : Type 0} (answers : S → Request → List ℕ → List ℕ → S → Type 0) (halts : S → Request → List ℕ → S → Type 0)
    (limits : Limits) where
  -- requests that were answered so far
  pub record SoFar (first now_state : S) (before now : Link) (old pending : List ℕ) : Type 0 where
    pub replies : List Reply
    pub served : Served answers limits first replies old pending now_state
    pub writes : Writes before now (texts replies)

  -- an answer was sent
  pub sent_reply : (first last : S) (request : Request) (bytes text : List ℕ) (before now : Link) (result : Result Unit ServeFault)
      → Appends answers first last request bytes [] text → Sends before now text result → Replies answers halts limits first last before now request bytes result
  sent_reply first last request bytes text before now (Ok x) a s =
      (text, subst (λ t. answers first request bytes t last) (sym a.grows) a.answered, s)
  sent_reply first last request bytes text before now (Err faults.Read) a s = absurd s
  sent_reply first last request bytes text before now (Err faults.Write) a s =
      (text, subst (λ t. answers first request bytes t last) (sym a.grows) a.answered, s)
  sent_reply first last request bytes text before now (Err faults.OutOfMemory) a s = absurd s

  module _ (laws : GainLaws) (first : S) (before : Link) (old : List ℕ) where
    -- what ends the connection early was answered
    ends_last : (state last : S) (now after : Link) (pending text : List ℕ) (ended : Ended) → SoFar first state before now old pending
        → EndsEarly answers limits state pending text ended last → Writes now after text → AnswersLast answers limits first last before after old ended
    ends_last state last now after pending text ended so_far ends writes = record {
      replies = so_far.replies;
      rest = pending;
      between = state;
      text = text;
      served = so_far.served;
      ends = ends;
      writes = writes_then laws before now after (texts so_far.replies) text so_far.writes writes;
    }

    -- memory was wanted, and nothing more written
    wants_some : (state last : S) (now after : Link) (pending : List ℕ) → SoFar first state before now old pending → after ≡ now
        → (last ≡ state) ⊎ HaltsAt halts limits state pending last → AnswersSome answers halts limits first last before after old
    wants_some state last now after pending so_far same stands = record {
      replies = so_far.replies;
      rest = pending;
      between = state;
      served = so_far.served;
      stands = stands;
      writes = subst (λ l. Writes before l (texts so_far.replies)) (sym same) so_far.writes;
    }

    -- a write failed within what comes first of the bytes that wait
    fails_front : (state last : S) (now after : Link) (pending text : List ℕ) → SoFar first state before now old pending
        → FirstReplies answers limits state pending text last → WritesFront now after text → AnswersFront answers limits first last before after old
    fails_front state last now after pending text so_far firsts front = record {
      text = texts so_far.replies ++ text;
      replies = first_then answers limits so_far.replies first state last old pending text so_far.served firsts;
      writes = front_then laws before now after (texts so_far.replies) text so_far.writes front;
    }

    module _ (state last : S) (request : Request) (pending text : List ℕ) (whole : IsNext limits pending (Whole request))
        (answered : answers state request (take request.length pending) text last) where
      served_one : request.close ≡ false → Served answers limits state (record { request = request; text = text } ∷ []) pending (drop request.length pending) last
      served_one open_ = (whole, open_, last, answered, (refl, refl))

      ends_by : request.close ≡ true → EndsByRequest answers limits state pending text last
      ends_by closes = record { request = request; whole = whole; closes = closes; answered = answered }

      first_one : (close : Bool) → close ≡ request.close → FirstReplies answers limits state pending text last
      first_one true e = all Closed (record {
        replies = [];
        rest = pending;
        between = state;
        last_text = text;
        served = (refl, refl);
        ends = inr (ends_by (sym e));
        is_text = refl;
      })
      first_one false e = some (record { request = request; text = text } ∷ []) (drop request.length pending) (served_one (sym e))
          (sym (texts_one (record { request = request; text = text })))

      -- its answer was sent, and the connection stays open
      pub replied : (now after : Link) (left : List ℕ) → SoFar first state before now old pending → request.close ≡ false → Writes now after text
          → left ≡ drop request.length pending → SoFar first last before after old left
      replied now after left so_far open_ writes e =
          let reply : Reply = record { request = request; text = text } in
          record {
            replies = so_far.replies ++ reply ∷ [];
            served = subst (λ l. Served answers limits first (so_far.replies ++ reply ∷ []) old l last) (sym e)
                (served_then answers limits so_far.replies (reply ∷ []) first state last old pending (drop request.length pending) so_far.served (served_one open_));
            writes = subst (λ l. Writes before after l)
                (ap (λ l. texts so_far.replies ++ l) (sym (texts_one reply)) ∙ sym (texts_both so_far.replies (reply ∷ [])))
                (writes_then laws before now after (texts so_far.replies) text so_far.writes writes);
          }

      -- or it ends
      pub closed : (now after : Link) → SoFar first state before now old pending → request.close ≡ true → Writes now after text
          → AnswersLast answers limits first last before after old Closed
      closed now after so_far closes writes = ends_last state last now after pending text Closed so_far (ends_by closes) writes

      -- a write of its answer failed
      reply_fails : (now after : Link) → SoFar first state before now old pending → WritesFront now after text
          → AnswersFront answers limits first last before after old
      reply_fails now after so_far front = fails_front state last now after pending text so_far (first_one request.close refl) front

    -- what is no request was refused
    pub refused_last : (state : S) (now after : Link) (pending : List ℕ) (status : ℕ) → SoFar first state before now old pending
        → IsNext limits pending (Refuse status) → Writes now after (refusal_text status)
        → AnswersLast answers limits first state before after old (Refused status)
    refused_last state now after pending status so_far refuses writes =
        ends_last state state now after pending (refusal_text status) (Refused status) so_far (refuses, refl, refl) writes

    refusal_fails : (state : S) (now after : Link) (pending : List ℕ) (status : ℕ) → SoFar first state before now old pending
        → IsNext limits pending (Refuse status) → WritesFront now after (refusal_text status) → AnswersFront answers limits first state before after old
    refusal_fails state now after pending status so_far refuses front =
        fails_front state state now after pending (refusal_text status) so_far (all (Refused status) (record {
          replies = [];
          rest = pending;
          between = state;
          last_text = refusal_text status;
          served = (refl, refl);
          ends = (refuses, refl, refl);
          is_text = refl;
        })) front

    -- ---- whatever the fault

    halts_at : (state last : S) (request : Request) (pending : List ℕ) → IsNext limits pending (Whole request)
        → (last ≡ state) ⊎ halts state request (take request.length pending) last → (last ≡ state) ⊎ HaltsAt halts limits state pending last
    halts_at state last request pending whole (inl e) = inl e
    halts_at state last request pending whole (inr h) = inr (record { request = request; whole = whole; halted = h })

    pub reply_fault : (state last : S) (request : Request) (now after : Link) (pending : List ℕ) (fault : ServeFault) → IsNext limits pending (Whole request)
        → SoFar first state before now old pending → Replies answers halts limits state last now after request (take request.length pending) (Err fault)
        → (new : List ℕ) → AnswersWhole answers halts limits first last before after old new (Err fault)
    reply_fault state last request now after pending faults.Read whole so_far sends new = absurd sends
    reply_fault state last request now after pending faults.Write whole so_far sends new =
        reply_fails state last request pending sends.0 whole sends.1 now after so_far sends.2
    reply_fault state last request now after pending faults.OutOfMemory whole so_far sends new =
        wants_some state last now after pending so_far sends.0 (halts_at state last request pending whole sends.1)

    pub refusal_fault : (state : S) (status : ℕ) (now after : Link) (pending : List ℕ) (fault : ServeFault) → IsNext limits pending (Refuse status)
        → SoFar first state before now old pending → Refuses status now after (Err fault)
        → (new : List ℕ) → AnswersWhole answers halts limits first state before after old new (Err fault)
    refusal_fault state status now after pending faults.Read refuses so_far sends new = absurd sends
    refusal_fault state status now after pending faults.Write refuses so_far sends new =
        refusal_fails state now after pending status so_far refuses sends
    refusal_fault state status now after pending faults.OutOfMemory refuses so_far sends new = wants_some state state now after pending so_far sends (inl refl)
