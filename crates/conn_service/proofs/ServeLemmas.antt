-- A connection that is served: all that was read, all that was written, what waits, and the state of the service.
use Rattle.std.proofs.Common.{◌≡◌, ◌⊎◌, ℕ, ◌+◌, ◌-◌, ◌≤◌, Bool, cond, List, [], ◌∷◌, ◌++◌, length, take, Option, Some, None, Result, Ok, Err, refl, sym, ap, subst, ◌∙◌, inl, inr, append_assoc, arith, length-append}
use Rattle.std.specs.Prelude.{IfSome}
use Rattle.std.specs.Io.KnownBytes.{Consumes, IsAtEnd}
use Rattle.std.proofs.Math.Seq.{take-append-add, take-nil}
use Rattle.std.proofs.lemmas.Bool.{ne_eqb}
use Rattle.std.proofs.lemmas.List.{append-nil}
use Rattle.span_io.specs.Links.{Link, lengths}
use Rattle.span_io.specs.Outside.{GainLaws, Gains, Inlet, NoReadInVain, OutputHolds, Outlet, Rose}
use Rattle.span_io.specs.declared.course.ReadCourse.{ReadCourse}
use Rattle.span_io.specs.declared.course.ReadCourse.TheVariants as reads
use Rattle.span_io.specs.declared.limits.Limits.{Limits}
use Rattle.http_conn.specs.StatedLaws.{OneNextRequest, WholeRequests}
use Rattle.http_conn.specs.NextRequests.{IsNext}
use Rattle.http_conn.specs.declared.next.Next.TheVariants.{Need}
use Rattle.http_conn.specs.declared.next.Request.{Request}
use Rattle.conn_service.specs.Serving.{KeepsMark, Serves, Takes, WantsMemory, stream_of}
use Rattle.conn_service.specs.private.Steps.{AnswersAll, AnswersFront, AnswersLast, AnswersSome, AnswersWhole, EndsHere, ReadFails, Reads, ReadsMore, ReadsPiece, SameInlet}
use Rattle.conn_service.specs.Streams.{AllAnswered, EndsAs, IsReplies, Reply, Served, texts}
use Rattle.conn_service.specs.declared.ended.Ended.{Ended}
use Rattle.conn_service.specs.declared.ended.Ended.TheVariants.{Closed, Cut, Refused}
use Rattle.conn_service.specs.declared.ended.ServeFault.{ServeFault}
use Rattle.conn_service.specs.declared.ended.ServeFault.TheVariants as faults
use Rattle.conn_service.proofs.MarkLemmas.{SoMarked, keeps_mark, marked_read, marked_start, marked_still, marked_write}
use Rattle.conn_service.proofs.StreamLemmas.{early_replies, first_then, replies_more, served_more, served_then, texts_both}

-- ---- bytes, one piece behind the other

consumes_none : (left : Option (List ℕ)) → Consumes left left []
consumes_none None = tt
consumes_none (Some xs) = refl

consumes_then : (a b c : Option (List ℕ)) (x y : List ℕ) → Consumes a b x → Consumes b c y → Consumes a c (x ++ y)
consumes_then None b c x y p q = tt
consumes_then (Some xs) None c x y p q = absurd p
consumes_then (Some xs) (Some ys) None x y p q = absurd q
consumes_then (Some xs) (Some ys) (Some zs) x y p q = p ∙ ap (λ (l : List ℕ). x ++ l) q ∙ sym (append_assoc x y zs)

consumes_same : (a : Option (List ℕ)) (b c : Inlet) (x : List ℕ) → c ≡ b → Consumes a b.left x → Consumes a c.left x
consumes_same a b c x e p = subst (λ (i : Inlet). Consumes a i.left x) (sym e) p

empty_piece : (piece : List ℕ) → length piece ≡ 0 → piece ≡ []
empty_piece [] e = refl
empty_piece (x ∷ piece) e = absurd (omega (arith, e))

not_going : ◌≡◌ {A = Option ReadCourse} (Some reads.Going) (Some reads.InVain) → ⊥
not_going e = cc

-- a count that rose has risen since it was the same
rose_since : (a b c : ℕ) → b ≡ a → Rose b c → Rose a c
rose_since a b c e rose = subst (λ n. Rose n c) e rose

-- each read gave bytes
pub record Goes (before now : Link) : Type 0 where
  pub goes : before.inlet.course ≡ Some reads.Going → now.inlet.course ≡ Some reads.Going

pub goes_none : (now : Link) → Goes now now
goes_none now = record { goes = λ going. going }

goes_same : (before now after : Link) → Goes before now → SameInlet now after → Goes before after
goes_same before now after h same = record { goes = λ going. ap (λ (i : Inlet). i.course) same.inlet ∙ h.goes going }

goes_in_vain : (before now : Link) → Goes before now → NoReadInVain before.inlet now.inlet
goes_in_vain before now h = λ going vain. not_going (sym (h.goes going) ∙ vain)

pub goes_piece : (before now after : Link) (most : ℕ) (piece : List ℕ) → Goes before now → ReadsPiece now after most piece → 1 ≤ length piece → Goes before after
goes_piece before now after most piece h reads gives = record { goes = λ going. reads.goes gives (h.goes going) }

piece_in_vain : (before now after : Link) (most : ℕ) (piece : List ℕ) → Goes before now → ReadsPiece now after most piece → NoReadInVain before.inlet after.inlet
piece_in_vain before now after most piece h reads = λ going vain. reads.in_vain (h.goes going) vain

fails_in_vain : (before now after : Link) → Goes before now → ReadFails now after → NoReadInVain before.inlet after.inlet
fails_in_vain before now after h fails = λ going vain. fails.in_vain (h.goes going) vain

take_nothing : (most : ℕ) (later : List ℕ) → (most ≡ 0) ⊎ (later ≡ []) → take most later ≡ []
take_nothing most later (inl e) = ap (λ n. take n later) e
take_nothing most later (inr e) = ap (take most) e ∙ take-nil most

module _ {S : Type 0} (answers : S → Request → List ℕ → List ℕ → S → Type 0) (halts : S → Request → List ℕ → S → Type 0) (leads : S → S → Type 0) (limits : Limits) where
  -- these bytes were read and these requests answered, and the others wait
  pub record Progress (first state : S) (before now : Link) (pending : List ℕ) (most : ℕ) : Type 0 where
    pub given : List ℕ
    pub replies : List Reply
    pub gave : Consumes before.inlet.left now.inlet.left given
    pub count : length given + most ≡ limits.binary
    pub served : Served answers limits first replies given pending state
    pub gains : Gains before.outlet now.outlet (texts replies)
    pub holds : OutputHolds before.outlet now.outlet
    pub quiet : now.inlet.faults ≡ before.inlet.faults
    pub steady : now.inlet.steady ≡ before.inlet.steady
    pub marked : SoMarked answers leads limits first state now before.inlet.left before.outlet.held (texts replies)

  -- what a call does, and what its contract says
  pub record Exit (first last : S) (before now : Link) (result : Result Ended ServeFault) : Type 0 where
    pub serves : Serves answers halts limits first last before now result
    pub mark : KeepsMark answers leads limits first last before now

  -- and those that wait are no whole request
  pub record Waits (first state : S) (before now : Link) (pending : List ℕ) (most : ℕ) : Type 0 where
    pub progress : Progress first state before now pending most
    pub goes : Goes before now
    pub waits : IsNext limits pending Need

  -- memory was wanted at once
  pub wants_at_once : (laws : GainLaws) (first : S) (now : Link) → WantsMemory answers halts limits first first now now
  wants_at_once laws first now = record {
    given = [];
    takes = record { gave = consumes_none now.inlet.left; within = omega arith; in_vain = goes_in_vain now now (goes_none now) };
    replies = [];
    rest = [];
    between = first;
    served = (refl, refl);
    stands = inl refl;
    gains = laws.none now.outlet;
    quiet = refl;
    holds = laws.still now.outlet;
  }

  pub progress_start : (laws : GainLaws) (first : S) (now : Link) → Progress first first now now [] limits.binary
  progress_start laws first now = record {
    given = [];
    replies = [];
    gave = consumes_none now.inlet.left;
    count = omega arith;
    served = (refl, refl);
    gains = laws.none now.outlet;
    holds = laws.still now.outlet;
    quiet = refl;
    steady = refl;
    marked = marked_start answers leads limits first now now.inlet.left now.outlet.held refl;
  }

  module _ (led_none : (s : S) → leads s s) (led_then : (a b c : S) → leads a b → leads b c → leads a c)
      (laws : GainLaws) (one : OneNextRequest) (whole : WholeRequests) (first : S) (before : Link) where
    -- all whole requests were answered
    progress_answers : (state last : S) (now after : Link) (pending rest : List ℕ) (most : ℕ) → leads state last → Progress first state before now pending most
        → AnswersAll answers limits state last now after pending rest → Progress first last before after rest most
    progress_answers state last now after pending rest most led p a =
        let both : texts p.replies ++ texts a.replies ≡ texts (p.replies ++ a.replies) = sym (texts_both p.replies a.replies) in
        record {
          given = p.given;
          replies = p.replies ++ a.replies;
          gave = consumes_same before.inlet.left now.inlet after.inlet p.given a.writes.same.inlet p.gave;
          count = p.count;
          served = served_then answers limits p.replies a.replies first state last p.given pending rest p.served a.served;
          gains = subst (λ (l : List ℕ). Gains before.outlet after.outlet l) both
              (laws.both before.outlet now.outlet after.outlet (texts p.replies) (texts a.replies) p.gains a.writes.gains);
          holds = laws.holding before.outlet now.outlet after.outlet p.holds a.writes.holds;
          quiet = ap (λ (i : Inlet). i.faults) a.writes.same.inlet ∙ p.quiet;
          steady = ap (λ (i : Inlet). i.steady) a.writes.same.inlet ∙ p.steady;
          marked = subst (λ (l : List ℕ). SoMarked answers leads limits first last after before.inlet.left before.outlet.held l) both
              (marked_write answers leads limits led_then first state last now after before.inlet.left before.outlet.held (texts p.replies) (texts a.replies) p.marked led
              a.writes.same.inlet a.writes.same.mark);
        }

    pub waits_answers : (state last : S) (now after : Link) (pending rest : List ℕ) (most : ℕ) → leads state last → Progress first state before now pending most → Goes before now
        → AnswersAll answers limits state last now after pending rest → Waits first last before after rest most
    waits_answers state last now after pending rest most led p goes a = record {
      progress = progress_answers state last now after pending rest most led p a;
      goes = goes_same before now after goes a.writes.same;
      waits = a.waits;
    }

    answered : (state : S) (now : Link) (pending : List ℕ) (most : ℕ) (p : Progress first state before now pending most) → IsNext limits pending Need
        → AllAnswered answers limits first p.given (texts p.replies) state
    answered state now pending most p waits = record { replies = p.replies; rest = pending; served = p.served; waits = waits; is_text = refl }

    -- the mark behind a read of a piece, by its length
    read_mark : (state : S) (now after : Link) (pending : List ℕ) (most : ℕ) (piece : List ℕ) (p : Progress first state before now pending most) → IsNext limits pending Need → ReadsPiece now after most piece
        → SoMarked answers leads limits first state after before.inlet.left before.outlet.held (texts p.replies)
    read_mark state now after pending most [] p waits reads =
        marked_still answers leads limits first state now after before.inlet.left before.outlet.held (texts p.replies) p.marked reads.gave reads.mark
    read_mark state now after pending most (x ∷ piece) p waits reads =
        marked_read answers leads limits led_none first state after before.inlet.left before.outlet.held now.inlet.left now.outlet.held p.given (texts p.replies) p.gave p.gains.held
        (answered state now pending most p waits)
        (reads.mark ∙ ap (λ (b : Bool). cond b now.mark (lengths now.inlet.left now.outlet.held)) (ne_eqb (length (x ∷ piece)) 0 (λ e. absurd (omega (arith, e)))))

    -- a piece was read
    progress_reads : (state : S) (now after : Link) (pending : List ℕ) (most : ℕ) (piece : List ℕ) → Progress first state before now pending most → IsNext limits pending Need
        → ReadsPiece now after most piece → Progress first state before after (pending ++ piece) (most - length piece)
    progress_reads state now after pending most piece p waits reads = record {
      given = p.given ++ piece;
      replies = p.replies;
      gave = consumes_then before.inlet.left now.inlet.left after.inlet.left p.given piece p.gave reads.gave;
      count = omega (arith, p.count, reads.within, length-append p.given piece);
      served = served_more answers limits one whole p.replies first state p.given pending piece p.served;
      gains = subst (λ (o : Outlet). Gains before.outlet o (texts p.replies)) (sym reads.outlet) p.gains;
      holds = subst (λ (o : Outlet). OutputHolds before.outlet o) (sym reads.outlet) p.holds;
      quiet = reads.quiet ∙ p.quiet;
      steady = reads.steady ∙ p.steady;
      marked = read_mark state now after pending most piece p waits reads;
    }

    -- more was read behind what waits
    pub progress_more : (state : S) (now after : Link) (pending new : List ℕ) (most given : ℕ) → Progress first state before now pending most → IsNext limits pending Need
        → ReadsMore now after pending new most given → Progress first state before after new (most - given)
    progress_more state now after pending new most given p waits r =
        let e : most - length r.piece ≡ most - given = ap (λ n. most - n) (sym r.number) in
        subst (λ (l : List ℕ). Progress first state before after l (most - given)) (sym r.appends)
        (subst (λ n. Progress first state before after (pending ++ r.piece) n) e (progress_reads state now after pending most r.piece p waits r.reads))

    -- ---- the ends

    takes_progress : (state : S) (now : Link) (pending : List ℕ) (most : ℕ) (p : Progress first state before now pending most) → NoReadInVain before.inlet now.inlet → Takes limits before now p.given
    takes_progress state now pending most p in_vain = record { gave = p.gave; within = omega (arith, p.count); in_vain = in_vain }

    -- behind answers, which read nothing
    takes_answers : (state : S) (now after : Link) (pending : List ℕ) (most : ℕ) (p : Progress first state before now pending most) → Goes before now → SameInlet now after → Takes limits before after p.given
    takes_answers state now after pending most p goes same = record {
      gave = consumes_same before.inlet.left now.inlet after.inlet p.given same.inlet p.gave;
      within = omega (arith, p.count);
      in_vain = goes_in_vain before after (goes_same before now after goes same);
    }

    -- replies to what was read are those to the stream, where they are whatever comes behind
    stream_early : (last : S) (left now : Option (List ℕ)) (given text : List ℕ) (most : ℕ) (ended : Ended) → Consumes left now given → length given + most ≡ limits.binary
        → ((more : List ℕ) → IsReplies answers limits first (given ++ more) text ended last) → IfSome left (λ all. IsReplies answers limits first (stream_of limits all) text ended last)
    stream_early last None now given text most ended gave count replies = tt
    stream_early last (Some all) None given text most ended gave count replies = absurd gave
    stream_early last (Some all) (Some later) given text most ended gave count replies =
        let e : take limits.binary all ≡ given ++ take most later = ap (take limits.binary) gave ∙ ap (λ n. take n (given ++ later)) (sym count) ∙ take-append-add given later most in
        subst (λ (l : List ℕ). IsReplies answers limits first l text ended last) (sym e) (replies (take most later))

    -- or where nothing comes behind
    stream_end : (last : S) (left now : Option (List ℕ)) (given text : List ℕ) (most : ℕ) (ended : Ended) → Consumes left now given → length given + most ≡ limits.binary
        → (most ≡ 0) ⊎ IsAtEnd now → IsReplies answers limits first given text ended last → IfSome left (λ all. IsReplies answers limits first (stream_of limits all) text ended last)
    stream_end last None now given text most ended gave count nothing replies = tt
    stream_end last (Some all) None given text most ended gave count nothing replies = absurd gave
    stream_end last (Some all) (Some later) given text most ended gave count nothing replies =
        let e : take limits.binary all ≡ given = ap (take limits.binary) gave ∙ ap (λ n. take n (given ++ later)) (sym count) ∙ take-append-add given later most
        ∙ ap (λ l. given ++ l) (take_nothing most later nothing) ∙ append-nil given in
        subst (λ (l : List ℕ). IsReplies answers limits first l text ended last) (sym e) replies

    -- the mark behind answers of which so much was written
    mark_answers : (state last : S) (now after : Link) (pending : List ℕ) (most : ℕ) (written : List ℕ) → leads state last → (p : Progress first state before now pending most) → SameInlet now after
        → Gains before.outlet after.outlet (texts p.replies ++ written) → KeepsMark answers leads limits first last before after
    mark_answers state last now after pending most written led p same gains =
        keeps_mark answers leads limits first last before after before.inlet.left before.outlet.held (texts p.replies ++ written)
        (marked_write answers leads limits led_then first state last now after before.inlet.left before.outlet.held (texts p.replies) written p.marked led same.inlet same.mark) gains.held

    -- a request ended the connection, or what came was refused
    pub exit_last : (state last : S) (now after : Link) (pending : List ℕ) (most : ℕ) (ended : Ended) → leads state last → Progress first state before now pending most → Goes before now
        → AnswersLast answers limits state last now after pending ended → Exit first last before after (Ok ended)
    exit_last state last now after pending most ended led p goes a =
        let last_text = texts a.replies ++ a.text in
        let text = texts p.replies ++ last_text in
        let takes = takes_answers state now after pending most p goes a.writes.same in
        let replies : (more : List ℕ) → IsReplies answers limits first (p.given ++ more) text ended last = λ more.
        replies_more answers limits p.replies first state last (p.given ++ more) (pending ++ more) last_text ended
        (served_more answers limits one whole p.replies first state p.given pending more p.served)
        (early_replies answers limits one whole a.replies state a.between last pending a.rest a.text more ended a.served a.ends) in
        let gains = laws.both before.outlet now.outlet after.outlet (texts p.replies) last_text p.gains a.writes.gains in
        record {
          serves = record {
            given = p.given;
            takes = takes;
            text = text;
            replies = subst (λ (l : List ℕ). IsReplies answers limits first l text ended last) (append-nil p.given) (replies []);
            stream = stream_early last before.inlet.left after.inlet.left p.given text most ended takes.gave p.count replies;
            gains = gains;
            quiet = ap (λ (i : Inlet). i.faults) a.writes.same.inlet ∙ p.quiet;
            holds = laws.holding before.outlet now.outlet after.outlet p.holds a.writes.holds;
          };
          mark = mark_answers state last now after pending most last_text led p a.writes.same gains;
        }

    ends_here : (state : S) (rest : List ℕ) (ended : Ended) → IsNext limits rest Need → EndsHere rest ended → EndsAs answers limits state rest [] ended state
    ends_here state rest Closed waits e = inl (e, refl, refl)
    ends_here state rest Cut waits e = (record { waits = waits; some = e; no_answer = refl }, refl)
    ends_here state rest (Refused status) waits e = absurd e

    -- the stream ended
    exit_end : (state : S) (now : Link) (pending : List ℕ) (most : ℕ) (ended : Ended) → Progress first state before now pending most → IsNext limits pending Need → NoReadInVain before.inlet now.inlet
        → (most ≡ 0) ⊎ IsAtEnd now.inlet.left → EndsHere pending ended → Exit first state before now (Ok ended)
    exit_end state now pending most ended p waits in_vain nothing here =
        let replies : IsReplies answers limits first p.given (texts p.replies) ended state = record {
          replies = p.replies;
          rest = pending;
          between = state;
          last_text = [];
          served = p.served;
          ends = ends_here state pending ended waits here;
          is_text = sym (append-nil (texts p.replies));
        } in
        record {
          serves = record {
            given = p.given;
            takes = takes_progress state now pending most p in_vain;
            text = texts p.replies;
            replies = replies;
            stream = stream_end state before.inlet.left now.inlet.left p.given (texts p.replies) most ended p.gave p.count nothing replies;
            gains = p.gains;
            quiet = p.quiet;
            holds = p.holds;
          };
          mark = keeps_mark answers leads limits first state before now before.inlet.left before.outlet.held (texts p.replies) p.marked p.gains.held;
        }

    -- a read failed
    exit_read : (state : S) (now after : Link) (pending : List ℕ) (most : ℕ) → Progress first state before now pending most → IsNext limits pending Need → Goes before now → ReadFails now after
        → Exit first state before after (Err faults.Read)
    exit_read state now after pending most p waits goes f =
        let gains = subst (λ (o : Outlet). Gains before.outlet o (texts p.replies)) (sym f.outlet) p.gains in
        record {
          serves = record {
            given = p.given;
            takes = record {
              gave = subst (λ (l : List ℕ). Consumes before.inlet.left after.inlet.left l) (append-nil p.given)
                  (consumes_then before.inlet.left now.inlet.left after.inlet.left p.given [] p.gave f.gave);
              within = omega (arith, p.count);
              in_vain = fails_in_vain before now after goes f;
            };
            text = texts p.replies;
            answered = answered state now pending most p waits;
            gains = gains;
            failed = rose_since before.inlet.faults now.inlet.faults after.inlet.faults p.quiet f.failed;
            unsteady = λ steady. f.unsteady (p.steady ∙ steady);
            holds = subst (λ (o : Outlet). OutputHolds before.outlet o) (sym f.outlet) p.holds;
          };
          mark = keeps_mark answers leads limits first state before after before.inlet.left before.outlet.held (texts p.replies)
              (marked_still answers leads limits first state now after before.inlet.left before.outlet.held (texts p.replies) p.marked f.gave f.mark) gains.held;
        }

    -- memory was wanted for a piece
    exit_piece : (state : S) (now after : Link) (pending piece : List ℕ) (most : ℕ) → Progress first state before now pending most → Goes before now → IsNext limits pending Need
        → ReadsPiece now after most piece → Exit first state before after (Err faults.OutOfMemory)
    exit_piece state now after pending piece most before_piece goes waits reads =
        let p = progress_reads state now after pending most piece before_piece waits reads in
        record {
          serves = record {
            given = p.given;
            takes = takes_progress state after (pending ++ piece) (most - length piece) p (piece_in_vain before now after most piece goes reads);
            replies = p.replies;
            rest = pending ++ piece;
            between = state;
            served = p.served;
            stands = inl refl;
            gains = p.gains;
            quiet = p.quiet;
            holds = p.holds;
          };
          mark = keeps_mark answers leads limits first state before after before.inlet.left before.outlet.held (texts p.replies) p.marked p.gains.held;
        }

    -- or for an answer
    exit_some : (state last : S) (now after : Link) (pending : List ℕ) (most : ℕ) → leads state last → Progress first state before now pending most → Goes before now
        → AnswersSome answers halts limits state last now after pending → Exit first last before after (Err faults.OutOfMemory)
    exit_some state last now after pending most led p goes a =
        let both : texts p.replies ++ texts a.replies ≡ texts (p.replies ++ a.replies) = sym (texts_both p.replies a.replies) in
        let gains = laws.both before.outlet now.outlet after.outlet (texts p.replies) (texts a.replies) p.gains a.writes.gains in
        record {
          serves = record {
            given = p.given;
            takes = takes_answers state now after pending most p goes a.writes.same;
            replies = p.replies ++ a.replies;
            rest = a.rest;
            between = a.between;
            served = served_then answers limits p.replies a.replies first state a.between p.given pending a.rest p.served a.served;
            stands = a.stands;
            gains = subst (λ (l : List ℕ). Gains before.outlet after.outlet l) both gains;
            quiet = ap (λ (i : Inlet). i.faults) a.writes.same.inlet ∙ p.quiet;
            holds = laws.holding before.outlet now.outlet after.outlet p.holds a.writes.holds;
          };
          mark = mark_answers state last now after pending most (texts a.replies) led p a.writes.same gains;
        }

    -- a write failed
    exit_write : (state last : S) (now after : Link) (pending : List ℕ) (most : ℕ) → leads state last → Progress first state before now pending most → Goes before now
        → AnswersFront answers limits state last now after pending → Exit first last before after (Err faults.Write)
    exit_write state last now after pending most led p goes a =
        let written = a.writes.fails.front in
        record {
          serves = record {
            given = p.given;
            takes = takes_answers state now after pending most p goes a.writes.same;
            text = texts p.replies ++ a.text;
            replies = first_then answers limits p.replies first state last p.given pending a.text p.served a.replies;
            fails = laws.fails before.outlet now.outlet after.outlet (texts p.replies) a.text p.gains a.writes.fails;
            failed = laws.failing before.outlet now.outlet after.outlet p.holds a.writes.failed;
            quiet = ap (λ (i : Inlet). i.faults) a.writes.same.inlet ∙ p.quiet;
          };
          mark = mark_answers state last now after pending most written.front led p a.writes.same
              (laws.both before.outlet now.outlet after.outlet (texts p.replies) written.front p.gains written.gains);
        }

    at_end : (most given : ℕ) (left : Option (List ℕ)) → given ≡ 0 → (most ≡ 0) ⊎ IsAtEnd left → (most - given ≡ 0) ⊎ IsAtEnd left
    at_end most given left none (inl e) = inl (omega (arith, e))
    at_end most given left none (inr e) = inr e

    -- nothing was read, as the stream ended
    pub exit_nothing : (state : S) (now after : Link) (pending new : List ℕ) (most given : ℕ) (ended : Ended) → Progress first state before now pending most → Goes before now → IsNext limits pending Need
        → ReadsMore now after pending new most given → given ≡ 0 → EndsHere new ended → Exit first state before after (Ok ended)
    exit_nothing state now after pending new most given ended p goes waits r none here =
        let nothing : r.piece ≡ [] = empty_piece r.piece (sym r.number ∙ none) in
        let same : new ≡ pending = r.appends ∙ ap (λ l. pending ++ l) nothing ∙ append-nil pending in
        exit_end state after new (most - given) ended (progress_more state now after pending new most given p waits r)
        (subst (λ (l : List ℕ). IsNext limits l Need) (sym same) waits)
        (piece_in_vain before now after most r.piece goes r.reads)
        (at_end most given after.inlet.left none (r.ends none)) here

    -- ---- whatever the fault

    pub exit_answers : (state last : S) (now after : Link) (pending new : List ℕ) (most : ℕ) (fault : ServeFault) → leads state last → Progress first state before now pending most → Goes before now
        → AnswersWhole answers halts limits state last now after pending new (Err fault) → Exit first last before after (Err fault)
    exit_answers state last now after pending new most faults.Read led p goes a = absurd a
    exit_answers state last now after pending new most faults.Write led p goes a = exit_write state last now after pending most led p goes a
    exit_answers state last now after pending new most faults.OutOfMemory led p goes a = exit_some state last now after pending most led p goes a

    pub exit_reads : (state : S) (now after : Link) (pending new : List ℕ) (most : ℕ) (fault : ServeFault) → Progress first state before now pending most → Goes before now → IsNext limits pending Need
        → Reads now after pending new most (Err fault) → Exit first state before after (Err fault)
    exit_reads state now after pending new most faults.Read p goes waits r = exit_read state now after pending most p waits goes r
    exit_reads state now after pending new most faults.Write p goes waits r = absurd r
    exit_reads state now after pending new most faults.OutOfMemory p goes waits r = exit_piece state now after pending r.0 most p goes waits r.1
