-- A stream has by its outcomes one text of replies, and its good requests have one list of texts.
use Rattle.std.proofs.Common.{◌≡◌, ℕ, Bool, true, false, List, [], ◌∷◌, ◌++◌, take, drop, length, Option, Some, None, refl, sym, ap, subst, ◌∙◌, inl, inr}
use Rattle.std.specs.Prelude.{nat_lt}
use Rattle.std.specs.Bool.{MatchBool}
use Rattle.std.proofs.lemmas.Bool.{false≢true}
use Rattle.span_io.specs.Limits.{AreLimits}
use Rattle.span_io.specs.declared.form.Form.{Form}
use Rattle.span_io.specs.declared.limits.Limits.{Limits}
use Rattle.span_convert.specs.Verdicts.{IsVerdict, Verdict, good, refused, faulted}
use Rattle.http_conn.specs.StatedLaws.{OneNextRequest, WholeRequests}
use Rattle.http_conn.specs.NextRequests.{IsNext}
use Rattle.http_conn.specs.declared.next.Next.{Next}
use Rattle.http_conn.specs.declared.next.Next.TheVariants.{Need, Whole, Refuse}
use Rattle.http_conn.specs.declared.next.Request.{Request}
use Rattle.conn_service.specs.Streams.{EndsAs, FirstReplies, Reply, Served, all, refusal_text, some, texts}
use Rattle.conn_service.specs.declared.ended.Ended.{Ended}
use Rattle.conn_service.specs.declared.ended.Ended.TheVariants.{Closed, Cut, Refused}
use Rattle.span_relay.specs.RelayReplies.{AnswersForm, AnswersOffer, AnswersSo, AnswersVerdict, ByOffers, FirstOffers, Offer, RelayReplies, TakesNext, outcome_answer, outcomes_of}
use Rattle.span_relay.proofs.OfferLemmas.{same_head, same_tail}

no_offers : (f : List Offer) → outcomes_of f ≡ [] → f ≡ []
no_offers [] e = refl
no_offers (x ∷ f) e = absurd (let k : ◌≡◌ {A = List Bool} (x.kept ∷ outcomes_of f) [] = e in cc)

whole_once : (p q : Request) → Whole p ≡ Whole q → p ≡ q
whole_once p q e = cc

need_whole : (request : Request) → Need ≡ Whole request → ⊥
need_whole request e = cc

need_refuse : (status : ℕ) → Need ≡ Refuse status → ⊥
need_refuse status e = cc

whole_refuse : (request : Request) (status : ℕ) → Whole request ≡ Refuse status → ⊥
whole_refuse request status e = cc

refused_once : (m n : ℕ) → Refuse m ≡ Refuse n → m ≡ n
refused_once m n e = cc

-- two answers to one request, from offers of the same outcomes
record Step (f g l m : List Offer) (a b : List ℕ) : Type 0 where
  text : a ≡ b
  outcomes : outcomes_of l ≡ outcomes_of m
  back : l ≡ m → f ≡ g

module _ (f g l m : List Offer) (same : outcomes_of f ≡ outcomes_of g) (a b : List ℕ) where
  so_step : (told : List ℕ) → AnswersSo f told a l → AnswersSo g told b m → Step f g l m a b
  so_step told x y = record {
    text = x.0 ∙ sym y.0;
    outcomes = ap outcomes_of x.1 ∙ same ∙ sym (ap outcomes_of y.1);
    back = λ e. sym x.1 ∙ e ∙ y.1;
  }

  offer_step : (from : Form) (close : Bool) (text : List ℕ) → AnswersOffer TakesNext from close f text a l → AnswersOffer TakesNext from close g text b m → Step f g l m a b
  offer_step from close text x y =
      let both : x.kept ∷ outcomes_of l ≡ y.kept ∷ outcomes_of m = sym (ap outcomes_of x.taken) ∙ same ∙ ap outcomes_of y.taken in
      let kept : x.kept ≡ y.kept = same_head x.kept y.kept (outcomes_of l) (outcomes_of m) both in
      record {
        text = x.answered ∙ ap (outcome_answer from close) kept ∙ sym y.answered;
        outcomes = same_tail x.kept y.kept (outcomes_of l) (outcomes_of m) both;
        back = λ e. x.taken ∙ ap (λ (k : Bool). record { text = text; kept = k } ∷ l) kept ∙ ap (λ (others : List Offer). record { text = text; kept = y.kept } ∷ others) e ∙ sym y.taken;
      }

  step_by : (long : Bool) (from : Form) (close : Bool) (told text : List ℕ) → MatchBool long (AnswersSo f told a l) (AnswersOffer TakesNext from close f text a l)
      → MatchBool long (AnswersSo g told b m) (AnswersOffer TakesNext from close g text b m) → Step f g l m a b
  step_by true from close told text x y = so_step told x y
  step_by false from close told text x y = offer_step from close text x y

  verdict_step : (to : Form) (limits : Limits) (from : Form) (close : Bool) (v : Verdict) → AnswersVerdict TakesNext to limits from close v f a l → AnswersVerdict TakesNext to limits from close v g b m
      → Step f g l m a b
  verdict_step to limits from close (good text tally) x y = step_by (nat_lt limits.reply (length text)) from close _ text x y
  verdict_step to limits from close (refused refusal text) x y = so_step _ x y
  verdict_step to limits from close (faulted found text) x y = so_step _ x y

module _ (to : Form) (limits : Limits) (are : AreLimits limits) (one : OneNextRequest) (whole : WholeRequests)
    (once : (from : Form) (bytes : List ℕ) (v w : Verdict) → IsVerdict from to limits bytes v → IsVerdict from to limits bytes w → v ≡ w) where
  -- ---- one answer

  form_step : (form : Option Form) (request : Request) (bytes a b : List ℕ) (f g l m : List Offer) → outcomes_of f ≡ outcomes_of g → AnswersForm TakesNext to limits form f request bytes a l
      → AnswersForm TakesNext to limits form g request bytes b m → Step f g l m a b
  form_step None request bytes a b f g l m same x y = so_step f g l m same a b _ x y
  form_step (Some from) request bytes a b f g l m same x y =
      verdict_step f g l m same a b to limits from request.close y.0
      (subst (λ (v : Verdict). AnswersVerdict TakesNext to limits from request.close v f a l) (once from (drop request.body_at bytes) x.0 y.0 x.1 y.1) x.2) y.2

  request_step : (bytes a b : List ℕ) (p q : Request) (f g l m : List Offer) → Whole p ≡ Whole q → outcomes_of f ≡ outcomes_of g → ByOffers to limits f p (take p.length bytes) a l
      → ByOffers to limits g q (take q.length bytes) b m → Step f g l m a b
  request_step bytes a b p q f g l m e same x y =
      form_step q.form q (take q.length bytes) a b f g l m same (subst (λ (r : Request). ByOffers to limits f r (take r.length bytes) a l) (whole_once p q e) x) y

  next_once : (bytes : List ℕ) (a b : Next) → IsNext limits bytes a → IsNext limits bytes b → a ≡ b
  next_once bytes a b x y = one.one limits bytes a b x y

  nothing_needs : (rest : List ℕ) → rest ≡ [] → IsNext limits rest Need
  nothing_needs rest e = subst (λ l. IsNext limits l Need) (sym e) (whole.none limits are)

  -- ---- what stands at the end

  record Same (a b : List ℕ) (x y : Ended) : Type 0 where
    text : a ≡ b
    ended : x ≡ y

  abbrev Ends : List Offer → List ℕ → List ℕ → Ended → List Offer → Type 0
  Ends f rest text ended l = EndsAs (ByOffers to limits) limits f rest text ended l

  ends_once : (rest a b : List ℕ) (x y : Ended) (f g l m : List Offer) → outcomes_of f ≡ outcomes_of g → Ends f rest a x l → Ends g rest b y m → Same a b x y
  ends_once rest a b Closed Closed f g l m same (inl p) (inl q) = record { text = p.1 ∙ sym q.1; ended = refl }
  ends_once rest a b Closed Closed f g l m same (inl p) (inr q) = absurd (need_whole q.request (next_once rest Need (Whole q.request) (nothing_needs rest p.0) q.whole))
  ends_once rest a b Closed Closed f g l m same (inr p) (inl q) = absurd (need_whole p.request (next_once rest Need (Whole p.request) (nothing_needs rest q.0) p.whole))
  ends_once rest a b Closed Closed f g l m same (inr p) (inr q) =
      let e = next_once rest (Whole p.request) (Whole q.request) p.whole q.whole in
      let s = request_step rest a b p.request q.request f g l m e same p.answered q.answered in
      record { text = s.text; ended = refl }
  ends_once rest a b Closed Cut f g l m same (inl p) q = absurd (q.0.some p.0)
  ends_once rest a b Closed Cut f g l m same (inr p) q = absurd (need_whole p.request (next_once rest Need (Whole p.request) q.0.waits p.whole))
  ends_once rest a b Closed (Refused n) f g l m same (inl p) q = absurd (need_refuse n (next_once rest Need (Refuse n) (nothing_needs rest p.0) q.0))
  ends_once rest a b Closed (Refused n) f g l m same (inr p) q = absurd (whole_refuse p.request n (next_once rest (Whole p.request) (Refuse n) p.whole q.0))
  ends_once rest a b Cut Closed f g l m same p (inl q) = absurd (p.0.some q.0)
  ends_once rest a b Cut Closed f g l m same p (inr q) = absurd (need_whole q.request (next_once rest Need (Whole q.request) p.0.waits q.whole))
  ends_once rest a b Cut Cut f g l m same p q = record { text = p.0.no_answer ∙ sym q.0.no_answer; ended = refl }
  ends_once rest a b Cut (Refused n) f g l m same p q = absurd (need_refuse n (next_once rest Need (Refuse n) p.0.waits q.0))
  ends_once rest a b (Refused n) Closed f g l m same p (inl q) = absurd (need_refuse n (next_once rest Need (Refuse n) (nothing_needs rest q.0) p.0))
  ends_once rest a b (Refused n) Closed f g l m same p (inr q) = absurd (whole_refuse q.request n (next_once rest (Whole q.request) (Refuse n) q.whole p.0))
  ends_once rest a b (Refused n) Cut f g l m same p q = absurd (need_refuse n (next_once rest Need (Refuse n) q.0.waits p.0))
  ends_once rest a b (Refused n) (Refused k) f g l m same p q =
      let e = refused_once n k (next_once rest (Refuse n) (Refuse k) p.0 q.0) in
      record { text = p.1 ∙ ap refusal_text e ∙ sym q.1; ended = ap Refused e }

  -- no request that leaves the connection open stands at the end
  ends_whole : (rest text : List ℕ) (x : Ended) (f l : List Offer) (request : Request) → Ends f rest text x l → IsNext limits rest (Whole request) → request.close ≡ false → ⊥
  ends_whole rest text Closed f l request (inl p) w open_ = need_whole request (next_once rest Need (Whole request) (nothing_needs rest p.0) w)
  ends_whole rest text Closed f l request (inr p) w open_ =
      let same = whole_once p.request request (next_once rest (Whole p.request) (Whole request) p.whole w) in
      false≢true (sym open_ ∙ ap (λ (r : Request). r.close) (sym same) ∙ p.closes)
  ends_whole rest text Cut f l request p w open_ = need_whole request (next_once rest Need (Whole request) p.0.waits w)
  ends_whole rest text (Refused n) f l request p w open_ = whole_refuse request n (next_once rest (Whole request) (Refuse n) w p.0)

  -- ---- all requests

  abbrev Front : List Reply → List ℕ → List ℕ → List Offer → List Offer → Type 0
  Front replies bytes rest f l = Served (ByOffers to limits) limits f replies bytes rest l

  -- two ways to serve the same bytes that come to one end
  record SameEnd (xs ys : List Reply) (r s : List ℕ) (l m : List Offer) : Type 0 where
    text : texts xs ≡ texts ys
    rest : r ≡ s
    outcomes : outcomes_of l ≡ outcomes_of m

  one_front : (xs ys : List Reply) (bytes r s : List ℕ) (f g l m : List Offer) → outcomes_of f ≡ outcomes_of g → Front xs bytes r f l → Front ys bytes s g m
      → ((request : Request) → IsNext limits r (Whole request) → request.close ≡ false → ⊥)
      → ((request : Request) → IsNext limits s (Whole request) → request.close ≡ false → ⊥) → SameEnd xs ys r s l m
  one_front [] [] bytes r s f g l m same a b p q = record { text = refl; rest = sym a.0 ∙ b.0; outcomes = ap outcomes_of a.1 ∙ same ∙ sym (ap outcomes_of b.1) }
  one_front [] (y ∷ ys) bytes r s f g l m same a b p q = absurd (p y.request (subst (λ l. IsNext limits l (Whole y.request)) a.0 b.0) b.1)
  one_front (x ∷ xs) [] bytes r s f g l m same a b p q = absurd (q x.request (subst (λ l. IsNext limits l (Whole x.request)) b.0 a.0) a.1)
  one_front (x ∷ xs) (y ∷ ys) bytes r s f g l m same a b p q =
      let e = next_once bytes (Whole x.request) (Whole y.request) a.0 b.0 in
      let step = request_step bytes x.text y.text x.request y.request f g a.2 b.2 e same a.3 b.3 in
      let moved : Front xs (drop y.request.length bytes) r a.2 l = subst (λ (q : Request). Front xs (drop q.length bytes) r a.2 l) (whole_once x.request y.request e) a.4 in
      let others = one_front xs ys (drop y.request.length bytes) r s a.2 b.2 l m step.outcomes moved b.4 p q in
      record { text = ap (λ l. l ++ texts xs) step.text ∙ ap (λ l. y.text ++ l) others.text; rest = others.rest; outcomes = others.outcomes }

  pub replies_once : (stream : List ℕ) (outcomes : List Bool) (a b : List ℕ) (x y : Ended) → RelayReplies to limits stream outcomes a x → RelayReplies to limits stream outcomes b y
      → (a ≡ b) × (x ≡ y)
  replies_once stream outcomes a b x y first second =
      let p = first.replies in
      let q = second.replies in
      let fronts = one_front p.replies q.replies stream p.rest q.rest first.offers second.offers p.between q.between (sym first.told ∙ second.told) p.served q.served
      (λ request w open_. ends_whole p.rest p.last_text x p.between [] request p.ends w open_) (λ request w open_. ends_whole q.rest q.last_text y q.between [] request q.ends w open_) in
      let moved : Ends p.between q.rest p.last_text x [] = subst (λ l. Ends p.between l p.last_text x []) fronts.rest p.ends in
      let ends = ends_once q.rest p.last_text q.last_text x y p.between q.between [] [] fronts.outcomes moved q.ends in (
        p.is_text ∙ ap (λ l. l ++ p.last_text) fronts.text ∙ ap (λ l. texts q.replies ++ l) ends.text ∙ sym q.is_text,
        ends.ended,
      )

  -- ---- the good requests

  -- no offer, or one more request
  data Tail (f : List Offer) (bytes : List ℕ) : Type 0 where
    none : f ≡ [] → Tail f bytes
    last : (request : Request) (text : List ℕ) → IsNext limits bytes (Whole request) → ByOffers to limits f request (take request.length bytes) text [] → Tail f bytes

  tail_of : (f : List Offer) (rest text : List ℕ) (x : Ended) → Ends f rest text x [] → Tail f rest
  tail_of f rest text Closed (inl p) = none (sym p.2)
  tail_of f rest text Closed (inr p) = last p.request text p.whole p.answered
  tail_of f rest text Cut p = none (sym p.1)
  tail_of f rest text (Refused n) p = none (sym p.2)

  tails_once : (bytes : List ℕ) (f g : List Offer) → outcomes_of f ≡ outcomes_of g → Tail f bytes → Tail g bytes → f ≡ g
  tails_once bytes f g same (none p) t = p ∙ sym (no_offers g (sym same ∙ ap outcomes_of p))
  tails_once bytes f g same (last p a w x) (none q) = no_offers f (same ∙ ap outcomes_of q) ∙ sym q
  tails_once bytes f g same (last p a w x) (last q b v y) =
      let s = request_step bytes a b p q f g [] [] (next_once bytes (Whole p) (Whole q) w v) same x y in s.back refl

  -- offers that a request takes down to others, and a tail
  tail_front : (bytes : List ℕ) (f g m : List Offer) (y : Reply) → outcomes_of f ≡ outcomes_of g → Tail f bytes → IsNext limits bytes (Whole y.request)
      → ByOffers to limits g y.request (take y.request.length bytes) y.text m → f ≡ g
  tail_front bytes f g m y same (none p) w x = p ∙ sym (no_offers g (sym same ∙ ap outcomes_of p))
  tail_front bytes f g m y same (last p a v t) w x =
      let s = request_step bytes a y.text p y.request f g [] m (next_once bytes (Whole p) (Whole y.request) v w) same t x in
      s.back (sym (no_offers m (sym s.outcomes)))

  offers_front : (xs ys : List Reply) (bytes r s : List ℕ) (f g l m : List Offer) → outcomes_of f ≡ outcomes_of g → Front xs bytes r f l → Tail l r → Front ys bytes s g m → Tail m s → f ≡ g
  offers_front [] [] bytes r s f g l m same a t b u =
      let here : Tail f bytes = subst (λ (o : List Offer). Tail o bytes) a.1 (subst (λ (rest : List ℕ). Tail l rest) (sym a.0) t) in
      let there : Tail g bytes = subst (λ (o : List Offer). Tail o bytes) b.1 (subst (λ (rest : List ℕ). Tail m rest) (sym b.0) u) in
      tails_once bytes f g same here there
  offers_front [] (y ∷ ys) bytes r s f g l m same a t b u =
      let here : Tail f bytes = subst (λ (o : List Offer). Tail o bytes) a.1 (subst (λ (rest : List ℕ). Tail l rest) (sym a.0) t) in
      tail_front bytes f g b.2 y same here b.0 b.3
  offers_front (x ∷ xs) [] bytes r s f g l m same a t b u =
      let there : Tail g bytes = subst (λ (o : List Offer). Tail o bytes) b.1 (subst (λ (rest : List ℕ). Tail m rest) (sym b.0) u) in
      sym (tail_front bytes g f a.2 x (sym same) there a.0 a.3)
  offers_front (x ∷ xs) (y ∷ ys) bytes r s f g l m same a t b u =
      let e = next_once bytes (Whole x.request) (Whole y.request) a.0 b.0 in
      let step = request_step bytes x.text y.text x.request y.request f g a.2 b.2 e same a.3 b.3 in
      let moved : Front xs (drop y.request.length bytes) r a.2 l = subst (λ (q : Request). Front xs (drop q.length bytes) r a.2 l) (whole_once x.request y.request e) a.4 in
      step.back (offers_front xs ys (drop y.request.length bytes) r s a.2 b.2 l m step.outcomes moved t b.4 u)

  -- the first replies, as a front and a tail
  record Fronted (f : List Offer) (bytes : List ℕ) : Type 0 where
    replies : List Reply
    rest : List ℕ
    between : List Offer
    served : Front replies bytes rest f between
    tail : Tail between rest

  fronted : (f : List Offer) (bytes text : List ℕ) → FirstReplies (ByOffers to limits) limits f bytes text [] → Fronted f bytes
  fronted f bytes text (some replies rest served is) = record { replies = replies; rest = rest; between = []; served = served; tail = none refl }
  fronted f bytes text (all ended r) = record {
    replies = r.replies;
    rest = r.rest;
    between = r.between;
    served = r.served;
    tail = tail_of r.between r.rest r.last_text ended r.ends;
  }

  pub offers_once : (bytes : List ℕ) (f g : List Offer) → FirstOffers to limits bytes f → FirstOffers to limits bytes g → outcomes_of f ≡ outcomes_of g → f ≡ g
  offers_once bytes f g x y same =
      let a = fronted f bytes x.0 x.1 in
      let b = fronted g bytes y.0 y.1 in
      offers_front a.replies b.replies bytes a.rest b.rest f g a.between b.between same a.served a.tail b.served b.tail
