-- Requests of a stream one behind the other, and bytes that come behind them.
use Rattle.std.proofs.Common.{◌≡◌, ◌≢◌, ℕ, ◌≤◌, List, [], ◌∷◌, ◌++◌, length, take, drop, refl, sym, ap, subst, ◌∙◌, inr, append_assoc}
use Rattle.std.proofs.lemmas.Grind.{flat_map-append}
use Rattle.std.proofs.lemmas.List.{append-nil, take-append-le, drop-append-le}
use Rattle.span_io.specs.declared.limits.Limits.{Limits}
use Rattle.http_conn.specs.StatedLaws.{OneNextRequest, WholeRequests}
use Rattle.http_conn.specs.NextRequests.{IsNext}
use Rattle.http_conn.specs.declared.next.Next.TheVariants.{Need, Whole, Refuse}
use Rattle.http_conn.specs.declared.next.Request.{Request}
use Rattle.conn_service.specs.private.Steps.{EndsEarly}
use Rattle.conn_service.specs.Streams.{EndsAs, FirstReplies, IsReplies, Reply, Served, all, some, texts}
use Rattle.conn_service.specs.declared.ended.Ended.{Ended}
use Rattle.conn_service.specs.declared.ended.Ended.TheVariants.{Closed, Cut, Refused}

pub texts_both : (replies others : List Reply) → texts (replies ++ others) ≡ texts replies ++ texts others
texts_both replies others = flat_map-append (λ (reply : Reply). reply.text) replies others

pub texts_one : (reply : Reply) → texts (reply ∷ []) ≡ reply.text
texts_one reply = append-nil reply.text

whole_waits : (request : Request) → Whole request ≢ Need
whole_waits request = λ e. cc

refuse_waits : (status : ℕ) → Refuse status ≢ Need
refuse_waits status = λ e. cc

module _ {S : Type 0} (answers : S → Request → List ℕ → List ℕ → S → Type 0) (limits : Limits) where
  pub served_then : (replies others : List Reply) (first middle last : S) (a b c : List ℕ) → Served answers limits first replies a b middle
      → Served answers limits middle others b c last → Served answers limits first (replies ++ others) a c last
  served_then [] others first middle last a b c e s =
      subst (λ l. Served answers limits first others l c last) (sym e.0) (subst (λ m. Served answers limits m others b c last) e.1 s)
  served_then (reply ∷ replies) others first middle last a b c s t =
      (s.0, s.1, s.2, s.3, served_then replies others s.2 middle last (drop reply.request.length a) b c s.4 t)

  pub replies_more : (before : List Reply) (first middle last : S) (bytes rest text : List ℕ) (ended : Ended) → Served answers limits first before bytes rest middle
      → IsReplies answers limits middle rest text ended last → IsReplies answers limits first bytes (texts before ++ text) ended last
  replies_more before first middle last bytes rest text ended s x = record {
    replies = before ++ x.replies;
    rest = x.rest;
    between = x.between;
    last_text = x.last_text;
    served = served_then before x.replies first middle x.between bytes rest x.rest s x.served;
    ends = x.ends;
    is_text = ap (λ l. texts before ++ l) x.is_text ∙ sym (append_assoc (texts before) (texts x.replies) x.last_text)
        ∙ ap (λ l. l ++ x.last_text) (sym (texts_both before x.replies));
  }

  -- the first replies behind others
  pub first_then : (before : List Reply) (first middle last : S) (bytes rest text : List ℕ) → Served answers limits first before bytes rest middle
      → FirstReplies answers limits middle rest text last → FirstReplies answers limits first bytes (texts before ++ text) last
  first_then before first middle last bytes rest text s (some replies left t e) =
      some (before ++ replies) left (served_then before replies first middle last bytes rest left s t)
      (ap (λ l. texts before ++ l) e ∙ sym (texts_both before replies))
  first_then before first middle last bytes rest text s (all ended x) = all ended (replies_more before first middle last bytes rest text ended s x)

  module _ (one : OneNextRequest) (whole : WholeRequests) where
    request_fits : (request : Request) (bytes : List ℕ) → IsNext limits bytes (Whole request) → request.length ≤ length bytes
    request_fits request bytes x = (whole.within limits bytes (Whole request) x).fits

    -- the bytes of a whole request stay
    same_bytes : (request : Request) (bytes more : List ℕ) → IsNext limits bytes (Whole request) → take request.length (bytes ++ more) ≡ take request.length bytes
    same_bytes request bytes more x = take-append-le request.length bytes more (request_fits request bytes x)

    whole_more : (request : Request) (bytes more : List ℕ) → IsNext limits bytes (Whole request) → IsNext limits (bytes ++ more) (Whole request)
    whole_more request bytes more x = one.stays limits bytes more (Whole request) x (whole_waits request)

    pub served_more : (replies : List Reply) (first last : S) (bytes rest more : List ℕ) → Served answers limits first replies bytes rest last
        → Served answers limits first replies (bytes ++ more) (rest ++ more) last
    served_more [] first last bytes rest more e = (ap (λ l. l ++ more) e.0, e.1)
    served_more (reply ∷ replies) first last bytes rest more s =
        let n = reply.request.length in
        let fits : n ≤ length bytes = request_fits reply.request bytes s.0 in (
          whole_more reply.request bytes more s.0,
          s.1,
          s.2,
          subst (λ l. answers first reply.request l reply.text s.2) (sym (same_bytes reply.request bytes more s.0)) s.3,
          subst (λ l. Served answers limits s.2 replies l (rest ++ more) last) (sym (drop-append-le n bytes more fits))
              (served_more replies s.2 last (drop n bytes) rest more s.4),
        )

    -- what ends a stream early ends it, whatever comes behind it
    early_more : (first last : S) (rest text more : List ℕ) (ended : Ended) → EndsEarly answers limits first rest text ended last
        → EndsAs answers limits first (rest ++ more) text ended last
    early_more first last rest text more Closed x = inr (record {
      request = x.request;
      whole = whole_more x.request rest more x.whole;
      closes = x.closes;
      answered = subst (λ l. answers first x.request l text last) (sym (same_bytes x.request rest more x.whole)) x.answered;
    })
    early_more first last rest text more Cut x = absurd x
    early_more first last rest text more (Refused status) x = (one.stays limits rest more (Refuse status) x.0 (refuse_waits status), x.1, x.2)

    pub early_replies : (replies : List Reply) (first middle last : S) (bytes rest text more : List ℕ) (ended : Ended)
        → Served answers limits first replies bytes rest middle → EndsEarly answers limits middle rest text ended last
        → IsReplies answers limits first (bytes ++ more) (texts replies ++ text) ended last
    early_replies replies first middle last bytes rest text more ended s x = record {
      replies = replies;
      rest = rest ++ more;
      between = middle;
      last_text = text;
      served = served_more replies first middle bytes rest more s;
      ends = early_more middle last rest text more ended x;
      is_text = refl;
    }
