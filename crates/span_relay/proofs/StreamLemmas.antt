-- The replies of a relay as those to a stream whose good requests have outcomes.
use Rattle.std.proofs.Common.{◌≡◌, ℕ, Bool, true, false, List, [], ◌∷◌, ◌++◌, take, drop, Option, Some, None, refl, sym, ap, subst, ◌∙◌, inl, inr, append_assoc}
use Rattle.std.specs.Bool.{MatchBool}
use Rattle.std.proofs.lemmas.Grind.{flat_map-append}
use Rattle.std.proofs.lemmas.List.{append-nil}
use Rattle.span_io.specs.Outside.{IsFront}
use Rattle.span_io.specs.declared.form.Form.{Form}
use Rattle.span_io.specs.declared.limits.Limits.{Limits}
use Rattle.span_convert.specs.Verdicts.{Verdict, good, refused, faulted}
use Rattle.http_conn.specs.NextRequests.{IsNext}
use Rattle.http_conn.specs.declared.next.Next.TheVariants.{Whole}
use Rattle.http_conn.specs.declared.next.Request.{Request}
use Rattle.conn_service.specs.Streams.{AllAnswered, EndsAs, FirstReplies, IsReplies, Reply, Served, all, some, texts}
use Rattle.conn_service.specs.declared.ended.Ended.{Ended}
use Rattle.conn_service.specs.declared.ended.Ended.TheVariants.{Closed, Cut, Refused}
use Rattle.span_relay.specs.RelayReplies.{AnswersForm, AnswersOffer, AnswersSo, AnswersVerdict, ByOffers, Offer, TakesNext}
use Rattle.span_relay.specs.private.RelaySteps.{RelayHalts, RelayState, Relays, TakesOffer}

-- ---- offers, one after the other

abbrev pub Took : Form → List Offer → RelayState → RelayState → Type 0
Took to [] first last = last ≡ first
Took to (offer ∷ offers) first last = (next : RelayState) × TakesOffer to first offer next × Took to offers next last

took_then : (to : Form) (offers others : List Offer) (a b c : RelayState) → Took to offers a b → Took to others b c → Took to (offers ++ others) a c
took_then to [] others a b c e t = subst (λ (s : RelayState). Took to others s c) e t
took_then to (offer ∷ offers) others a b c s t = (s.0, s.1, took_then to offers others s.0 b c s.2 t)

-- a state took these offers to another, and with them, whatever others come, P holds
pub record Offered (to : Form) (first last : RelayState) (P : List Offer → List Offer → Type 0) : Type 0 where
  pub offers : List Offer
  pub took : Took to offers first last
  pub holds : (others : List Offer) → P (offers ++ others) others

module _ (to : Form) (limits : Limits) (first last : RelayState) where
  offered_so : (told answer : List ℕ) → AnswersSo first told answer last → Offered to first last (λ f l. AnswersSo f told answer l)
  offered_so told answer x = record { offers = []; took = x.1; holds = λ others. (x.0, refl) }

  offered_one : (from : Form) (close : Bool) (text answer : List ℕ) → AnswersOffer (TakesOffer to) from close first text answer last
      → Offered to first last (λ f l. AnswersOffer TakesNext from close f text answer l)
  offered_one from close text answer x = record {
    offers = record { text = text; kept = x.kept } ∷ [];
    took = (last, x.taken, refl);
    holds = λ others. record { kept = x.kept; taken = refl; answered = x.answered };
  }

  offered_by : (b : Bool) (from : Form) (close : Bool) (told text answer : List ℕ) → MatchBool b (AnswersSo first told answer last) (AnswersOffer (TakesOffer to) from close first text answer last)
      → Offered to first last (λ f l. MatchBool b (AnswersSo f told answer l) (AnswersOffer TakesNext from close f text answer l))
  offered_by true from close told text answer x = offered_so told answer x
  offered_by false from close told text answer x = offered_one from close text answer x

  offered_verdict : (from : Form) (close : Bool) (verdict : Verdict) (answer : List ℕ) → AnswersVerdict (TakesOffer to) to limits from close verdict first answer last
      → Offered to first last (λ f l. AnswersVerdict TakesNext to limits from close verdict f answer l)
  offered_verdict from close (good text tally) answer x = offered_by _ from close _ text answer x
  offered_verdict from close (refused refusal text) answer x = offered_so _ answer x
  offered_verdict from close (faulted found text) answer x = offered_so _ answer x

  offered_form : (form : Option Form) (request : Request) (bytes answer : List ℕ) → AnswersForm (TakesOffer to) to limits form first request bytes answer last
      → Offered to first last (λ f l. AnswersForm TakesNext to limits form f request bytes answer l)
  offered_form None request bytes answer x = offered_so _ answer x
  offered_form (Some from) request bytes answer x =
      let o = offered_verdict from request.close x.0 answer x.2 in
      record { offers = o.offers; took = o.took; holds = λ others. (x.0, x.1, o.holds others) }

  pub offered_answer : (request : Request) (bytes answer : List ℕ) → Relays to limits first request bytes answer last
      → Offered to first last (λ f l. ByOffers to limits f request bytes answer l)
  offered_answer request bytes answer x = offered_form request.form request bytes answer x

-- ---- one behind the other

module _ (to : Form) (a b c : RelayState) (P Q R : List Offer → List Offer → Type 0)
    (both : (f m l : List Offer) → P f m → Q m l → R f l) where
  pub offered_then : Offered to a b P → Offered to b c Q → Offered to a c R
  offered_then x y = record {
    offers = x.offers ++ y.offers;
    took = took_then to x.offers y.offers a b c x.took y.took;
    holds = λ others. subst (λ (l : List Offer). R l others) (sym (append_assoc x.offers y.offers others))
        (both (x.offers ++ (y.offers ++ others)) (y.offers ++ others) others (x.holds (y.offers ++ others)) (y.holds others));
  }

pub offered_none : (to : Form) (a b : RelayState) (P : List Offer → List Offer → Type 0) → b ≡ a → ((others : List Offer) → P others others) → Offered to a b P
offered_none to a b P e holds = record { offers = []; took = e; holds = holds }

pub offered_map : (to : Form) (a b : RelayState) (P Q : List Offer → List Offer → Type 0) → ((f l : List Offer) → P f l → Q f l) → Offered to a b P → Offered to a b Q
offered_map to a b P Q f x = record { offers = x.offers; took = x.took; holds = λ others. f (x.offers ++ others) others (x.holds others) }

texts_both : (replies others : List Reply) → texts (replies ++ others) ≡ texts replies ++ texts others
texts_both replies others = flat_map-append (λ (reply : Reply). reply.text) replies others

served_then : {S : Type 0} (answers : S → Request → List ℕ → List ℕ → S → Type 0) (limits : Limits) (f m l : S) (replies others : List Reply) (x y z : List ℕ) → Served answers limits f replies x y m → Served answers limits m others y z l
    → Served answers limits f (replies ++ others) x z l
served_then answers limits f m l [] others x y z (e, same) t = subst (λ (bytes : List ℕ). Served answers limits f others bytes z l) (sym e) (subst (λ s. Served answers limits s others y z l) same t)
served_then answers limits f m l (reply ∷ replies) others x y z (whole, open_, next, answered, s) t =
    (whole, open_, next, answered, served_then answers limits next m l replies others (drop reply.request.length x) y z s t)

-- ---- a service whose states are seen as those of a relay

module _ {S : Type 0} (answers : S → Request → List ℕ → List ℕ → S → Type 0) (limits : Limits) (view : S → RelayState) (to_of : S → Form)
    (steps : (a b : S) (request : Request) (bytes answer : List ℕ) → answers a request bytes answer b → (to_of b ≡ to_of a) × Relays (to_of a) limits (view a) request bytes answer (view b))
    (to : Form) where
  -- they still offer texts of that form
  pub record Seen (first last : S) (P : List Offer → List Offer → Type 0) : Type 0 where
    pub same : to_of last ≡ to
    pub offered : Offered to (view first) (view last) P

  pub seen_answer : (a b : S) (request : Request) (bytes answer : List ℕ) → to_of a ≡ to → answers a request bytes answer b → Seen a b (λ f l. ByOffers to limits f request bytes answer l)
  seen_answer a b request bytes answer e x =
      let s = steps a b request bytes answer x in
      record {
        same = s.0 ∙ e;
        offered = offered_answer to limits (view a) (view b) request bytes answer (subst (λ (t : Form). Relays t limits (view a) request bytes answer (view b)) e s.1);
      }

  pub seen_served : (a b : S) (replies : List Reply) (bytes rest : List ℕ) → to_of a ≡ to → Served answers limits a replies bytes rest b
      → Seen a b (λ f l. Served (ByOffers to limits) limits f replies bytes rest l)
  seen_served a b [] bytes rest e (is, same) = record { same = ap to_of same ∙ e; offered = offered_none to (view a) (view b) _ (ap view same) (λ others. (is, refl)) }
  seen_served a b (reply ∷ replies) bytes rest e (whole, open_, next, answered, served) =
      let x = seen_answer a next reply.request (take reply.request.length bytes) reply.text e answered in
      let y = seen_served next b replies (drop reply.request.length bytes) rest x.same served in
      record {
        same = y.same;
        offered = offered_then to (view a) (view next) (view b) (λ f l. ByOffers to limits f reply.request (take reply.request.length bytes) reply.text l)
            (λ f l. Served (ByOffers to limits) limits f replies (drop reply.request.length bytes) rest l)
            (λ f l. Served (ByOffers to limits) limits f (reply ∷ replies) bytes rest l) (λ f m l p q. (whole, open_, m, p, q)) x.offered y.offered;
      }

  seen_ends : (a b : S) (rest text : List ℕ) (ended : Ended) → to_of a ≡ to → EndsAs answers limits a rest text ended b → Seen a b (λ f l. EndsAs (ByOffers to limits) limits f rest text ended l)
  seen_ends a b rest text Closed e (inl (none, no_text, same)) = record { same = ap to_of same ∙ e; offered = offered_none to (view a) (view b) _ (ap view same) (λ others. inl (none, no_text, refl)) }
  seen_ends a b rest text Closed e (inr x) =
      let y = seen_answer a b x.request (take x.request.length rest) text e x.answered in
      record {
        same = y.same;
        offered = offered_map to (view a) (view b) (λ f l. ByOffers to limits f x.request (take x.request.length rest) text l) (λ f l. EndsAs (ByOffers to limits) limits f rest text Closed l)
            (λ f l p. inr (record { request = x.request; whole = x.whole; closes = x.closes; answered = p })) y.offered;
      }
  seen_ends a b rest text Cut e (within, same) = record { same = ap to_of same ∙ e; offered = offered_none to (view a) (view b) _ (ap view same) (λ others. (record { waits = within.waits; some = within.some; no_answer = within.no_answer }, refl)) }
  seen_ends a b rest text (Refused status) e (refuses, is, same) = record { same = ap to_of same ∙ e; offered = offered_none to (view a) (view b) _ (ap view same) (λ others. (refuses, is, refl)) }

  pub seen_replies : (a b : S) (stream text : List ℕ) (ended : Ended) → to_of a ≡ to → IsReplies answers limits a stream text ended b
      → Seen a b (λ f l. IsReplies (ByOffers to limits) limits f stream text ended l)
  seen_replies a b stream text ended e r =
      let x = seen_served a r.between r.replies stream r.rest e r.served in
      let y = seen_ends r.between b r.rest r.last_text ended x.same r.ends in
      record {
        same = y.same;
        offered = offered_then to (view a) (view r.between) (view b) (λ f l. Served (ByOffers to limits) limits f r.replies stream r.rest l) (λ f l. EndsAs (ByOffers to limits) limits f r.rest r.last_text ended l)
            (λ f l. IsReplies (ByOffers to limits) limits f stream text ended l)
            (λ f m l p q. record { replies = r.replies; rest = r.rest; between = m; last_text = r.last_text; served = p; ends = q; is_text = r.is_text }) x.offered y.offered;
      }

  pub seen_all : (a b : S) (bytes text : List ℕ) → to_of a ≡ to → AllAnswered answers limits a bytes text b → Seen a b (λ f l. AllAnswered (ByOffers to limits) limits f bytes text l)
  seen_all a b bytes text e r =
      let x = seen_served a b r.replies bytes r.rest e r.served in
      record {
        same = x.same;
        offered = offered_map to (view a) (view b) (λ f l. Served (ByOffers to limits) limits f r.replies bytes r.rest l) (λ f l. AllAnswered (ByOffers to limits) limits f bytes text l)
            (λ f l p. record { replies = r.replies; rest = r.rest; served = p; waits = r.waits; is_text = r.is_text }) x.offered;
      }

  pub seen_first : (a b : S) (bytes text : List ℕ) → to_of a ≡ to → FirstReplies answers limits a bytes text b → Seen a b (λ f l. FirstReplies (ByOffers to limits) limits f bytes text l)
  seen_first a b bytes text e (some replies rest served is) =
      let x = seen_served a b replies bytes rest e served in
      record {
        same = x.same;
        offered = offered_map to (view a) (view b) (λ f l. Served (ByOffers to limits) limits f replies bytes rest l) (λ f l. FirstReplies (ByOffers to limits) limits f bytes text l)
            (λ f l p. some replies rest p is) x.offered;
      }
  seen_first a b bytes text e (all ended r) =
      let x = seen_replies a b bytes text ended e r in
      record {
        same = x.same;
        offered = offered_map to (view a) (view b) (λ f l. IsReplies (ByOffers to limits) limits f bytes text ended l) (λ f l. FirstReplies (ByOffers to limits) limits f bytes text l) (λ f l p. all ended p) x.offered;
      }

-- ---- one reply more

-- the first replies, of which these are a front
abbrev pub FirstBehind : Form → Limits → List ℕ → List ℕ → List Offer → List Offer → Type 0
FirstBehind to limits bytes front f l = (text : List ℕ) × IsFront front text × FirstReplies (ByOffers to limits) limits f bytes text l

module _ (to : Form) (limits : Limits) (request : Request) (replies : List Reply) (bytes rest answer : List ℕ) (f m l : List Offer)
    (served : Served (ByOffers to limits) limits f replies bytes rest m) (whole : IsNext limits rest (Whole request))
    (answered : ByOffers to limits m request (take request.length rest) answer l) where
  one_more : (close : Bool) → close ≡ request.close → FirstBehind to limits bytes (texts replies) f l
  one_more true e = (
    texts replies ++ answer,
    (answer, refl),
    all Closed (record {
      replies = replies;
      rest = rest;
      between = m;
      last_text = answer;
      served = served;
      ends = inr (record { request = request; whole = whole; closes = sym e; answered = answered });
      is_text = refl;
    }),
  )
  one_more false e =
      let reply : Reply = record { request = request; text = answer } in (
        texts (replies ++ reply ∷ []),
        (texts (reply ∷ []), texts_both replies (reply ∷ [])),
        some (replies ++ reply ∷ []) (drop request.length rest)
            (served_then (ByOffers to limits) limits f m l replies (reply ∷ []) bytes rest (drop request.length rest) served (whole, sym e, l, answered, (refl, refl))) refl,
      )

  pub first_more : FirstBehind to limits bytes (texts replies) f l
  first_more = one_more request.close refl

module _ (to : Form) (limits : Limits) (replies : List Reply) (bytes rest : List ℕ) where
  no_more : (f l : List Offer) → Served (ByOffers to limits) limits f replies bytes rest l → FirstBehind to limits bytes (texts replies) f l
  no_more f l served = (texts replies, ([], sym (append-nil (texts replies))), some replies rest served refl)

  -- what want of memory leaves behind replies
  pub offered_halts : (request : Request) (a b c : RelayState) → Offered to a b (λ f l. Served (ByOffers to limits) limits f replies bytes rest l) → IsNext limits rest (Whole request)
      → RelayHalts to limits b request (take request.length rest) c → Offered to a c (FirstBehind to limits bytes (texts replies))
  offered_halts request a b c x whole (inl e) =
      offered_map to a c (λ f l. Served (ByOffers to limits) limits f replies bytes rest l) (FirstBehind to limits bytes (texts replies)) no_more
      (subst (λ (s : RelayState). Offered to a s (λ f l. Served (ByOffers to limits) limits f replies bytes rest l)) (sym e) x)
  offered_halts request a b c x whole (inr (answer, answered)) =
      offered_then to a b c (λ f l. Served (ByOffers to limits) limits f replies bytes rest l) (λ f l. ByOffers to limits f request (take request.length rest) answer l) (FirstBehind to limits bytes (texts replies))
      (λ f m l p q. first_more to limits request replies bytes rest answer f m l p whole q) x (offered_answer to limits b c request (take request.length rest) answer answered)

  pub offered_still : (a b c : RelayState) → Offered to a b (λ f l. Served (ByOffers to limits) limits f replies bytes rest l) → c ≡ b → Offered to a c (FirstBehind to limits bytes (texts replies))
  offered_still a b c x e =
      offered_map to a c (λ f l. Served (ByOffers to limits) limits f replies bytes rest l) (FirstBehind to limits bytes (texts replies)) no_more
      (subst (λ (s : RelayState). Offered to a s (λ f l. Served (ByOffers to limits) limits f replies bytes rest l)) (sym e) x)
