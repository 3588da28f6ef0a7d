-- A connection that is served over a keeper: what each way to end says of the outcomes.
use Rattle.std.proofs.Common.{◌≡◌, ◌⊎◌, ℕ, Bool, List, [], ◌++◌, take, Option, Some, None, Result, Ok, Err, refl, sym, ap, subst, inl, inr, arith}
use Rattle.std.specs.Prelude.{IfSome}
use Rattle.std.specs.Io.KnownBytes.{Consumes}
use Rattle.std.proofs.lemmas.List.{append-nil}
use Rattle.span_io.specs.Links.{Link}
use Rattle.span_io.specs.Outside.{Gains, GainsFront}
use Rattle.span_io.specs.declared.form.Form.{Form}
use Rattle.span_io.specs.declared.limits.Limits.{Limits}
use Rattle.http_conn.specs.declared.next.Request.{Request}
use Rattle.conn_service.specs.Serving.{HaltsAt, KeepsMark, MarksAnswers, Serves, WantsMemory, stream_of}
use Rattle.conn_service.specs.Streams.{AllAnswered, FirstReplies, IsReplies, Served, all, some, texts}
use Rattle.conn_service.specs.declared.ended.Ended.{Ended}
use Rattle.conn_service.specs.declared.ended.ServeFault.{ServeFault}
use Rattle.conn_service.specs.declared.ended.ServeFault.TheVariants as faults
use Rattle.span_spool.specs.Spools.{Spool}
use Rattle.span_relay.specs.RelayConnections.{CountsRefused, FalseWhereFull, KeepsRelayMark, MarksRelayed, TellsEach}
use Rattle.span_relay.specs.RelayReplies.{ByOffers, IsFrontOf, Offer, RelayReplies, outcomes_of}
use Rattle.span_relay.specs.private.RelayPoints.{Ends, Points}
use Rattle.span_relay.specs.private.RelaySteps.{RelayHalts, RelayState, Relays, state_of}
use Rattle.span_relay.proofs.OfferLemmas.{took_counted, took_each, took_full, took_outcomes, took_refused, took_rows, took_short, took_sound}
use Rattle.span_relay.proofs.StreamLemmas.{FirstBehind, Offered, Took, offered_halts, offered_still, seen_all, seen_first, seen_replies, seen_served}

-- ---- what is kept, whatever the end

-- these offers took an empty list of outcomes to these, and are the first good requests of what was read
record Taken (to : Form) (limits : Limits) (before now : Link) (old new : Spool) (outcomes : List Bool) : Type 0 where
  given : List ℕ
  gave : Consumes before.inlet.left now.inlet.left given
  offers : List Offer
  took : Took to offers (state_of old []) (state_of new outcomes)
  text : List ℕ
  replies : FirstReplies (ByOffers to limits) limits offers given text []
  gains : GainsFront before.outlet now.outlet text

module _ (to : Form) (limits : Limits) (before now : Link) (old new : Spool) (outcomes : List Bool) where
  told : (offers : List Offer) → Took to offers (state_of old []) (state_of new outcomes) → outcomes ≡ outcomes_of offers
  told offers took = took_outcomes to offers (state_of old []) (state_of new outcomes) took

  points : (result : Result Ended ServeFault) → Taken to limits before now old new outcomes → Ends to limits before now outcomes result → KeepsRelayMark to limits outcomes before now
      → Points to limits before now old new outcomes result
  points result t ends mark =
      let e : outcomes ≡ outcomes_of t.offers = told t.offers t.took in
      let a = state_of old [] in
      let b = state_of new outcomes in
      record {
        rows = record { given = t.given; gave = t.gave; offers = t.offers; first = (t.text, t.replies); told = e; rows = took_rows to t.offers a b t.took };
        full = subst (λ (l : List Bool). FalseWhereFull old l) (sym e) (took_full to t.offers a b t.took);
        refused = subst (λ (l : List Bool). CountsRefused old new l) (sym e) (took_refused to t.offers a b t.took);
        each = subst (λ (l : List Bool). TellsEach old new l) (sym e) (took_each to t.offers a b t.took);
        ends = ends;
        answers = record { given = t.given; gave = t.gave; text = t.text; replies = record { offers = t.offers; told = e; replies = t.replies }; gains = t.gains };
        mark = mark;
        counted = took_counted to t.offers a b t.took;
        sound = took_sound to t.offers a b t.took;
        short = took_short to t.offers a b t.took (omega arith);
      }

-- a text is a front of itself
whole_front : (before now : Link) (text : List ℕ) → Gains before.outlet now.outlet text → GainsFront before.outlet now.outlet text
whole_front before now text gains = record { front = text; is_front = ([], sym (append-nil text)); gains = gains }

-- all offers, and no other comes
all_offers : (P : List Offer → List Offer → Type 0) (offers : List Offer) → P (offers ++ []) [] → P offers []
all_offers P offers h = subst (λ (l : List Offer). P l []) (append-nil offers) h

-- ---- each end

module _ {S : Type 0} (answers : S → Request → List ℕ → List ℕ → S → Type 0) (halts : S → Request → List ℕ → S → Type 0) (leads : S → S → Type 0) (limits : Limits)
    (view : S → RelayState) (to_of : S → Form)
    (steps : (a b : S) (request : Request) (bytes answer : List ℕ) → answers a request bytes answer b → (to_of b ≡ to_of a) × Relays (to_of a) limits (view a) request bytes answer (view b))
    (stops : (a b : S) (request : Request) (bytes : List ℕ) → halts a request bytes b → RelayHalts (to_of a) limits (view a) request bytes (view b))
    (grows : (a b : S) → leads a b → IsFrontOf (view a).outcomes (view b).outcomes)
    (to : Form) (first last : S) (form : to_of first ≡ to) (old new : Spool) (outcomes : List Bool) (begins : view first ≡ state_of old []) (ended_as : view last ≡ state_of new outcomes)
    (before now : Link) where
  -- of a state that the first one leads to
  from_none : (s : RelayState) (P : List Offer → List Offer → Type 0) → Offered to (view first) s P → (offers : List Offer) × Took to offers (state_of old []) s × P offers []
  from_none s P x = (x.offers, subst (λ (a : RelayState). Took to x.offers a s) begins x.took, all_offers P x.offers (x.holds []))

  at_last : (P : List Offer → List Offer → Type 0) → Offered to (view first) (view last) P → (offers : List Offer) × Took to offers (state_of old []) (state_of new outcomes) × P offers []
  at_last P x = let y = from_none (view last) P x in (y.0, subst (λ (b : RelayState). Took to y.0 (state_of old []) b) ended_as y.1, y.2)

  -- ---- the mark

  marked : (left held : Option (List ℕ)) → MarksAnswers answers leads limits first last before now left held → MarksRelayed to limits outcomes now left held
  marked None held h = tt
  marked (Some left) None h = tt
  marked (Some left) (Some held) h = λ differs.
      let m = h differs in
      let x = seen_all answers limits view to_of steps to first m.state m.taken m.written form m.answered in
      let y = from_none (view m.state) (λ f l. AllAnswered (ByOffers to limits) limits f m.taken m.written l) x.offered in
      record {
        taken = m.taken;
        later = m.later;
        written = m.written;
        firsts = (view m.state).outcomes;
        given = m.given;
        answered = record { offers = y.0; told = took_outcomes to y.0 (state_of old []) (view m.state) y.1; answered = y.2 };
        told = subst (λ (s : RelayState). IsFrontOf (view m.state).outcomes s.outcomes) ended_as (grows m.state last m.led);
        marked = m.marked;
        front = m.front;
      }

  -- ---- what the call says

  relayed_replies : (stream text : List ℕ) (ended : Ended) → IsReplies answers limits first stream text ended last → RelayReplies to limits stream outcomes text ended
  relayed_replies stream text ended r =
      let x = seen_replies answers limits view to_of steps to first last stream text ended form r in
      let y = at_last (λ f l. IsReplies (ByOffers to limits) limits f stream text ended l) x.offered in
      record { offers = y.0; told = took_outcomes to y.0 (state_of old []) (state_of new outcomes) y.1; replies = y.2 }

  relayed_stream : (left : Option (List ℕ)) (text : List ℕ) (ended : Ended) → IfSome left (λ l. IsReplies answers limits first (stream_of limits l) text ended last)
      → IfSome left (λ l. RelayReplies to limits (stream_of limits l) outcomes text ended)
  relayed_stream None text ended h = tt
  relayed_stream (Some left) text ended h = relayed_replies (stream_of limits left) text ended h

  wanted : (s : WantsMemory answers halts limits first last before now) → to_of s.between ≡ to
      → Offered to (view first) (view s.between) (λ f l. Served (ByOffers to limits) limits f s.replies s.given s.rest l) → (last ≡ s.between) ⊎ HaltsAt halts limits s.between s.rest last
      → Offered to (view first) (view last) (FirstBehind to limits s.given (texts s.replies))
  wanted s same x (inl e) = offered_still to limits s.replies s.given s.rest (view first) (view s.between) (view last) x (ap view e)
  wanted s same x (inr h) =
      offered_halts to limits s.replies s.given s.rest h.request (view first) (view s.between) (view last) x h.whole
      (subst (λ (t : Form). RelayHalts t limits (view s.between) h.request (take h.request.length s.rest) (view last)) same (stops s.between last h.request (take h.request.length s.rest) h.halted))

  record Told (result : Result Ended ServeFault) : Type 0 where
    taken : Taken to limits before now old new outcomes
    ends : Ends to limits before now outcomes result

  told_of : (result : Result Ended ServeFault) → Serves answers halts limits first last before now result → Told result
  told_of (Ok ended) s =
      let x = seen_replies answers limits view to_of steps to first last s.given s.text ended form s.replies in
      let y = at_last (λ f l. IsReplies (ByOffers to limits) limits f s.given s.text ended l) x.offered in
      record {
        taken = record { given = s.given; gave = s.takes.gave; offers = y.0; took = y.1; text = s.text; replies = all ended y.2; gains = whole_front before now s.text s.gains };
        ends = record {
          given = s.given;
          takes = s.takes;
          text = s.text;
          replies = relayed_replies s.given s.text ended s.replies;
          stream = relayed_stream before.inlet.left s.text ended s.stream;
          gains = s.gains;
          quiet = s.quiet;
          holds = s.holds;
        };
      }
  told_of (Err faults.Read) s =
      let x = seen_all answers limits view to_of steps to first last s.given s.text form s.answered in
      let y = at_last (λ f l. AllAnswered (ByOffers to limits) limits f s.given s.text l) x.offered in
      let e = took_outcomes to y.0 (state_of old []) (state_of new outcomes) y.1 in
      record {
        taken = record {
          given = s.given;
          gave = s.takes.gave;
          offers = y.0;
          took = y.1;
          text = s.text;
          replies = some (y.2).replies (y.2).rest (y.2).served (y.2).is_text;
          gains = whole_front before now s.text s.gains;
        };
        ends = record {
          given = s.given;
          takes = s.takes;
          text = s.text;
          answered = record { offers = y.0; told = e; answered = y.2 };
          gains = s.gains;
          failed = s.failed;
          unsteady = s.unsteady;
          holds = s.holds;
        };
      }
  told_of (Err faults.Write) s =
      let x = seen_first answers limits view to_of steps to first last s.given s.text form s.replies in
      let y = at_last (λ f l. FirstReplies (ByOffers to limits) limits f s.given s.text l) x.offered in
      let e = took_outcomes to y.0 (state_of old []) (state_of new outcomes) y.1 in
      record {
        taken = record { given = s.given; gave = s.takes.gave; offers = y.0; took = y.1; text = s.text; replies = y.2; gains = s.fails.front };
        ends = record {
          given = s.given;
          takes = s.takes;
          text = s.text;
          replies = record { offers = y.0; told = e; replies = y.2 };
          fails = s.fails;
          failed = s.failed;
          quiet = s.quiet;
        };
      }
  told_of (Err faults.OutOfMemory) s =
      let x = seen_served answers limits view to_of steps to first s.between s.replies s.given s.rest form s.served in
      let y = at_last (FirstBehind to limits s.given (texts s.replies)) (wanted s x.same x.offered s.stands) in
      let e = took_outcomes to y.0 (state_of old []) (state_of new outcomes) y.1 in
      let text = (y.2).0 in
      let gains : GainsFront before.outlet now.outlet text = record { front = texts s.replies; is_front = (y.2).1; gains = s.gains } in
      record {
        taken = record { given = s.given; gave = s.takes.gave; offers = y.0; took = y.1; text = text; replies = (y.2).2; gains = gains };
        ends = record {
          given = s.given;
          takes = s.takes;
          text = text;
          replies = record { offers = y.0; told = e; replies = (y.2).2 };
          gains = gains;
          quiet = s.quiet;
          holds = s.holds;
        };
      }

  pub relayed : (result : Result Ended ServeFault) → Serves answers halts limits first last before now result → KeepsMark answers leads limits first last before now
      → Points to limits before now old new outcomes result
  relayed result s mark =
      let t = told_of result s in
      points to limits before now old new outcomes result t.taken t.ends (marked before.inlet.left before.outlet.held mark)

-- the same of a service that keeps two other things of its states as they are
module _ {S : Type 0} (Same Also : S → S → Type 0) (view : S → RelayState) (to_of : S → Form) (limits : Limits) where
  abbrev pub AnswersAs : S → Request → List ℕ → List ℕ → S → Type 0
  AnswersAs a request bytes answer b = Same a b × Also a b × (to_of b ≡ to_of a) × Relays (to_of a) limits (view a) request bytes answer (view b)

  abbrev pub HaltsAs : S → Request → List ℕ → S → Type 0
  HaltsAs a request bytes b = Same a b × Also a b × (to_of b ≡ to_of a) × RelayHalts (to_of a) limits (view a) request bytes (view b)

  abbrev pub LeadsAs : S → S → Type 0
  LeadsAs a b = Same a b × Also a b × (to_of b ≡ to_of a) × IsFrontOf (view a).outcomes (view b).outcomes

  pub relayed_by : (first last : S) (before now : Link) (result : Result Ended ServeFault) → (view first).outcomes ≡ [] → Serves AnswersAs HaltsAs limits first last before now result
      → KeepsMark AnswersAs LeadsAs limits first last before now → Points (to_of first) limits before now (view first).spool (view last).spool (view last).outcomes result
  relayed_by first last before now result none serves mark =
      relayed AnswersAs HaltsAs LeadsAs limits view to_of (λ a b request bytes answer h. (h.2, h.3)) (λ a b request bytes h. h.3) (λ a b h. h.3)
      (to_of first) first last refl (view first).spool (view last).spool (view last).outcomes (ap (λ (l : List Bool). state_of (view first).spool l) none) refl before now result serves mark
