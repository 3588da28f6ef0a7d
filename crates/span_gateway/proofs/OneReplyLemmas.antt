-- A stream has one text of replies, and ends in one way.
use Rattle.std.proofs.Common.{◌≡◌, ℕ, false, List, [], ◌∷◌, ◌++◌, take, drop, Option, Some, None, refl, sym, ap, subst, ◌∙◌, inl, inr}
use Rattle.std.proofs.lemmas.Bool.{false≢true}
use Rattle.span_io.specs.Limits.{AreLimits}
use Rattle.span_io.specs.declared.form.Form.{Form}
use Rattle.span_io.specs.declared.limits.Limits.{Limits}
use Rattle.span_convert.specs.Verdicts.{Verdict, IsVerdict}
use Rattle.http_conn.specs.StatedLaws.{OneNextRequest, WholeRequests}
use Rattle.http_conn.specs.NextRequests.{IsNext}
use Rattle.http_conn.specs.declared.next.Next.{Next}
use Rattle.http_conn.specs.declared.next.Next.TheVariants.{Need, Whole, Refuse}
use Rattle.http_conn.specs.declared.next.Request.{Request}
use Rattle.conn_service.specs.Streams.{EndsAs, Reply, Served, refusal_text, texts}
use Rattle.conn_service.specs.declared.ended.Ended.{Ended}
use Rattle.conn_service.specs.declared.ended.Ended.TheVariants.{Closed, Cut, Refused}
use Rattle.span_gateway.specs.Answers.{AnswersForm, Converts, IsAnswer, verdict_answer}
use Rattle.span_gateway.specs.Streams.{AllAnswered, IsReplies}

module _ (to : Form) (limits : Limits) (are : AreLimits limits) (one : OneNextRequest) (whole : WholeRequests)
    (once : (from : Form) (bytes : List ℕ) (v w : Verdict) → IsVerdict from to limits bytes v → IsVerdict from to limits bytes w → v ≡ w) where
  -- ---- one answer

  form_once : (request : Request) (bytes : List ℕ) (form : Option Form) (a b : List ℕ) → AnswersForm to limits request bytes form a → AnswersForm to limits request bytes form b → a ≡ b
  form_once request bytes None a b x y = x ∙ sym y
  form_once request bytes (Some from) a b x y =
      x.2 ∙ ap (verdict_answer to limits request.close) (once from (drop request.body_at bytes) x.0 y.0 x.1 y.1) ∙ sym y.2

  answer_once : (request : Request) (bytes a b : List ℕ) → IsAnswer to limits request bytes a → IsAnswer to limits request bytes b → a ≡ b
  answer_once request bytes a b x y = form_once request bytes request.form a b x y

  next_once : (bytes : List ℕ) (a b : Next) → IsNext limits bytes a → IsNext limits bytes b → a ≡ b
  next_once bytes a b x y = one.one limits bytes a b x y

  -- the same request with the same bytes has the same answer
  request_once : (bytes a b : List ℕ) (p q : Request) → Whole p ≡ Whole q → IsAnswer to limits p (take p.length bytes) a → IsAnswer to limits q (take q.length bytes) b → a ≡ b
  request_once bytes a b p q e x y =
      let same : p ≡ q = cc in
      answer_once q (take q.length bytes) a b (subst (λ r. IsAnswer to limits r (take r.length bytes) a) same x) y

  whole_once : (p q : Request) → Whole p ≡ Whole q → p ≡ q
  whole_once p q e = cc

  -- ---- what stands at the end

  need_whole : (request : Request) → Need ≡ Whole request → ⊥
  need_whole request e = cc

  need_refuse : (status : ℕ) → Need ≡ Refuse status → ⊥
  need_refuse status e = cc

  whole_refuse : (request : Request) (status : ℕ) → Whole request ≡ Refuse status → ⊥
  whole_refuse request status e = cc

  nothing_needs : (rest : List ℕ) → rest ≡ [] → IsNext limits rest Need
  nothing_needs rest e = subst (λ l. IsNext limits l Need) (sym e) (whole.none limits are)

  refused_once : (m n : ℕ) → Refuse m ≡ Refuse n → m ≡ n
  refused_once m n e = cc

  record Same (a b : List ℕ) (x y : Ended) : Type 0 where
    text : a ≡ b
    ended : x ≡ y

  -- what stands at the end, from the form to any
  abbrev Ends : List ℕ → List ℕ → Ended → Form → Type 0
  Ends rest text ended last = EndsAs (Converts limits) limits to rest text ended last

  ends_once : (rest a b : List ℕ) (x y : Ended) (f g : Form) → Ends rest a x f → Ends rest b y g → Same a b x y
  ends_once rest a b Closed Closed f g (inl p) (inl q) = record { text = p.1 ∙ sym q.1; ended = refl }
  ends_once rest a b Closed Closed f g (inl p) (inr q) = absurd (need_whole q.request (next_once rest Need (Whole q.request) (nothing_needs rest p.0) q.whole))
  ends_once rest a b Closed Closed f g (inr p) (inl q) = absurd (need_whole p.request (next_once rest Need (Whole p.request) (nothing_needs rest q.0) p.whole))
  ends_once rest a b Closed Closed f g (inr p) (inr q) =
      let same = next_once rest (Whole p.request) (Whole q.request) p.whole q.whole in
      record { text = request_once rest a b p.request q.request same p.answered.0 q.answered.0; ended = refl }
  ends_once rest a b Closed Cut f g (inl p) q = absurd (q.0.some p.0)
  ends_once rest a b Closed Cut f g (inr p) q = absurd (need_whole p.request (next_once rest Need (Whole p.request) q.0.waits p.whole))
  ends_once rest a b Closed (Refused n) f g (inl p) q = absurd (need_refuse n (next_once rest Need (Refuse n) (nothing_needs rest p.0) q.0))
  ends_once rest a b Closed (Refused n) f g (inr p) q = absurd (whole_refuse p.request n (next_once rest (Whole p.request) (Refuse n) p.whole q.0))
  ends_once rest a b Cut Closed f g p (inl q) = absurd (p.0.some q.0)
  ends_once rest a b Cut Closed f g p (inr q) = absurd (need_whole q.request (next_once rest Need (Whole q.request) p.0.waits q.whole))
  ends_once rest a b Cut Cut f g p q = record { text = p.0.no_answer ∙ sym q.0.no_answer; ended = refl }
  ends_once rest a b Cut (Refused n) f g p q = absurd (need_refuse n (next_once rest Need (Refuse n) p.0.waits q.0))
  ends_once rest a b (Refused m) Closed f g p (inl q) = absurd (need_refuse m (next_once rest Need (Refuse m) (nothing_needs rest q.0) p.0))
  ends_once rest a b (Refused m) Closed f g p (inr q) = absurd (whole_refuse q.request m (next_once rest (Whole q.request) (Refuse m) q.whole p.0))
  ends_once rest a b (Refused m) Cut f g p q = absurd (need_refuse m (next_once rest Need (Refuse m) q.0.waits p.0))
  ends_once rest a b (Refused m) (Refused n) f g p q =
      let same = refused_once m n (next_once rest (Refuse m) (Refuse n) p.0 q.0) in
      record { text = p.1 ∙ ap refusal_text same ∙ sym q.1; ended = ap Refused same }

  -- no request that leaves the connection open stands at the end
  ends_whole : (rest text : List ℕ) (x : Ended) (f : Form) (request : Request) → Ends rest text x f → IsNext limits rest (Whole request) → request.close ≡ false → ⊥
  ends_whole rest text Closed f request (inl p) w open_ = need_whole request (next_once rest Need (Whole request) (nothing_needs rest p.0) w)
  ends_whole rest text Closed f request (inr p) w open_ =
      let same = whole_once p.request request (next_once rest (Whole p.request) (Whole request) p.whole w) in
      false≢true (sym open_ ∙ ap (λ (r : Request). r.close) (sym same) ∙ p.closes)
  ends_whole rest text Cut f request p w open_ = need_whole request (next_once rest Need (Whole request) p.0.waits w)
  ends_whole rest text (Refused n) f request p w open_ = whole_refuse request n (next_once rest (Whole request) (Refuse n) w p.0)

  -- ---- all requests

  abbrev Front : List Reply → List ℕ → List ℕ → Form → Type 0
  Front replies bytes rest last = Served (Converts limits) limits to replies bytes rest last

  -- the form stays
  same_form : (xs : List Reply) (bytes r : List ℕ) (f : Form) → Front xs bytes r f → f ≡ to
  same_form [] bytes r f e = e.1
  same_form (x ∷ xs) bytes r f e =
      same_form xs (drop x.request.length bytes) r f (subst (λ t. Served (Converts limits) limits t xs (drop x.request.length bytes) r f) e.3.1 e.4)

  -- two ways to serve the same bytes that come to one end
  record SameEnd (xs ys : List Reply) (r s : List ℕ) : Type 0 where
    text : texts xs ≡ texts ys
    rest : r ≡ s

  one_front : (xs ys : List Reply) (bytes r s : List ℕ) (f g : Form) → Front xs bytes r f → Front ys bytes s g
      → ((request : Request) → IsNext limits r (Whole request) → request.close ≡ false → ⊥)
      → ((request : Request) → IsNext limits s (Whole request) → request.close ≡ false → ⊥) → SameEnd xs ys r s
  one_front [] [] bytes r s f g a b p q = record { text = refl; rest = sym a.0 ∙ b.0 }
  one_front [] (y ∷ ys) bytes r s f g a b p q = absurd (p y.request (subst (λ l. IsNext limits l (Whole y.request)) a.0 b.0) b.1)
  one_front (x ∷ xs) [] bytes r s f g a b p q = absurd (q x.request (subst (λ l. IsNext limits l (Whole x.request)) b.0 a.0) a.1)
  one_front (x ∷ xs) (y ∷ ys) bytes r s f g a b p q =
      let same = next_once bytes (Whole x.request) (Whole y.request) a.0 b.0 in
      let requests = whole_once x.request y.request same in
      let first : x.text ≡ y.text = request_once bytes x.text y.text x.request y.request same a.3.0 b.3.0 in
      let here : Front xs (drop x.request.length bytes) r f = subst (λ t. Served (Converts limits) limits t xs (drop x.request.length bytes) r f) a.3.1 a.4 in
      let there : Front ys (drop y.request.length bytes) s g = subst (λ t. Served (Converts limits) limits t ys (drop y.request.length bytes) s g) b.3.1 b.4 in
      let moved : Front xs (drop y.request.length bytes) r f = subst (λ (q : Request). Front xs (drop q.length bytes) r f) requests here in
      let others = one_front xs ys (drop y.request.length bytes) r s f g moved there p q in
      record { text = ap (λ l. l ++ texts xs) first ∙ ap (λ l. y.text ++ l) others.text; rest = others.rest }

  pub replies_once : (stream a b : List ℕ) (x y : Ended) → IsReplies to limits stream a x → IsReplies to limits stream b y → (a ≡ b) × (x ≡ y)
  replies_once stream a b x y p q =
      let p_ends : Ends p.rest p.last_text x to =
      subst (λ t. EndsAs (Converts limits) limits t p.rest p.last_text x to) (same_form p.replies stream p.rest p.between p.served) p.ends in
      let q_ends : Ends q.rest q.last_text y to =
      subst (λ t. EndsAs (Converts limits) limits t q.rest q.last_text y to) (same_form q.replies stream q.rest q.between q.served) q.ends in
      let fronts = one_front p.replies q.replies stream p.rest q.rest p.between q.between p.served q.served
      (λ request w open_. ends_whole p.rest p.last_text x to request p_ends w open_) (λ request w open_. ends_whole q.rest q.last_text y to request q_ends w open_) in
      let moved : Ends q.rest p.last_text x to = subst (λ l. Ends l p.last_text x to) fronts.rest p_ends in
      let ends = ends_once q.rest p.last_text q.last_text x y to to moved q_ends in (
        p.is_text ∙ ap (λ l. l ++ p.last_text) fronts.text ∙ ap (λ l. texts q.replies ++ l) ends.text ∙ sym q.is_text,
        ends.ended,
      )

  waits_whole : (rest : List ℕ) → IsNext limits rest Need → (request : Request) → IsNext limits rest (Whole request) → request.close ≡ false → ⊥
  waits_whole rest waits = λ request w open_. need_whole request (next_once rest Need (Whole request) waits w)

  pub answers_once : (bytes a b : List ℕ) → AllAnswered to limits bytes a → AllAnswered to limits bytes b → a ≡ b
  answers_once bytes a b p q =
      let fronts = one_front p.replies q.replies bytes p.rest q.rest to to p.served q.served (waits_whole p.rest p.waits) (waits_whole q.rest q.waits) in
      p.is_text ∙ fronts.text ∙ sym q.is_text
