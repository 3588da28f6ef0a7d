-- What a relay answers: a good request by whether the text of its body was kept, any other as a gateway answers it.
use Rattle.std.specs.Prelude.{◌≡◌, ℕ, Bool, true, false, List, [], ◌∷◌, ◌++◌, map, drop, length, nat_lt, Option, Some, None, codes}
use Rattle.std.specs.Bool.{MatchBool}
use Rattle.span_io.specs.declared.form.Form.{Form}
use Rattle.span_io.specs.declared.form.Form.TheVariants.{OtlpProto, OtlpJson, JaegerBinary, JaegerCompact, ZipkinJson}
use Rattle.span_io.specs.declared.limits.Limits.{Limits}
use Rattle.span_convert.specs.Verdicts.{Verdict, IsVerdict, good, refused, faulted}
use Rattle.http_conn.specs.MediaTypes.{type_of}
use Rattle.http_conn.specs.Replies.{answer_text}
use Rattle.http_conn.specs.declared.next.Request.{Request}
use Rattle.conn_service.specs.Streams.{AllAnswered, FirstReplies, IsReplies}
use Rattle.conn_service.specs.declared.ended.Ended.{Ended}
use Rattle.span_answers.specs.Answers.{bare_answer, plain_text}
use Rattle.span_answers.specs.NoteLines.{fault_line, refusal_line}

-- ---- one request

-- The answer to a request in this form whose text was kept: OTLP/HTTP's is an empty message in the request's own form, and the
-- collectors of Jaeger and Zipkin say that they accepted it (RFC 9110, section 15.3.3).
abbrev pub standard : Form → Bool → List ℕ
standard OtlpProto close = answer_text 200 (type_of OtlpProto) [] close
standard OtlpJson close = answer_text 200 (type_of OtlpJson) (codes "{}") close
standard JaegerBinary close = bare_answer 202 close
standard JaegerCompact close = bare_answer 202 close
standard ZipkinJson close = bare_answer 202 close

-- by whether it was kept; else its client may post it again later (RFC 9110, section 15.6.4)
abbrev pub outcome_answer : Form → Bool → Bool → List ℕ
outcome_answer from close true = standard from close
outcome_answer from close false = bare_answer 503 close

-- A good request: the text of its body in the target form, and its outcome, whether that was kept.
pub record Offer : Type 0 where
  pub text : List ℕ
  pub kept : Bool

-- the outcomes of these good requests, in order
abbrev pub outcomes_of : List Offer → List Bool
outcomes_of offers = map (λ (offer : Offer). offer.kept) offers

-- the outcomes are these, and then others
abbrev pub IsFrontOf : List Bool → List Bool → Type 0
IsFrontOf firsts outcomes = (others : List Bool) × (outcomes ≡ firsts ++ others)

-- how a good request is answered with this text, which takes one state to another
pub record AnswersOffer {S : Type 0} (takes : S → Offer → S → Type 0) (from : Form) (close : Bool) (first : S) (text answer : List ℕ)
    (last : S) : Type 0 where
  pub kept : Bool
  pub taken : takes first (record { text = text; kept = kept }) last
  pub answered : answer ≡ outcome_answer from close kept

-- any other request leaves the state
abbrev pub AnswersSo : {S : Type 0} → S → List ℕ → List ℕ → S → Type 0
AnswersSo first told answer last = (answer ≡ told) × (last ≡ first)

module _ {S : Type 0} (takes : S → Offer → S → Type 0) (to : Form) (limits : Limits) where
  -- by the verdict on the body: it is good where it has a text that isn't longer than an answer may be
  abbrev pub AnswersVerdict : Form → Bool → Verdict → S → List ℕ → S → Type 0
  AnswersVerdict from close (good text tally) first answer last =
      MatchBool (nat_lt limits.reply (length text)) (AnswersSo first (bare_answer 413 close) answer last)
      (AnswersOffer takes from close first text answer last)
  AnswersVerdict from close (refused refusal text) first answer last =
      AnswersSo first (answer_text 400 plain_text (refusal_line refusal) close) answer last
  AnswersVerdict from close (faulted found text) first answer last =
      AnswersSo first (answer_text 422 plain_text (fault_line found) close) answer last

  -- by the form of the body
  abbrev pub AnswersForm : Option Form → S → Request → List ℕ → List ℕ → S → Type 0
  AnswersForm None first request bytes answer last = AnswersSo first (bare_answer request.verdict request.close) answer last
  AnswersForm (Some from) first request bytes answer last =
      (verdict : Verdict) × IsVerdict from to limits (drop request.body_at bytes) verdict
      × AnswersVerdict from request.close verdict first answer last

  -- the request that these bytes are is answered so
  abbrev pub RelayAnswers : S → Request → List ℕ → List ℕ → S → Type 0
  RelayAnswers first request bytes answer last = AnswersForm request.form first request bytes answer last

-- ---- a stream

-- each good request takes the next one of those offers that are still to come
abbrev pub TakesNext : List Offer → Offer → List Offer → Type 0
TakesNext first offer last = first ≡ offer ∷ last

-- a request is answered so, where the outcome of a good one is that of the next offer
abbrev pub ByOffers : Form → Limits → List Offer → Request → List ℕ → List ℕ → List Offer → Type 0
ByOffers to limits = RelayAnswers TakesNext to limits

-- the text is the replies to a stream whose good requests have these outcomes, one each
pub record RelayReplies (to : Form) (limits : Limits) (stream : List ℕ) (outcomes : List Bool) (text : List ℕ) (ended : Ended)
    : Type 0 where
  pub offers : List Offer
  pub told : outcomes ≡ outcomes_of offers
  pub replies : IsReplies (ByOffers to limits) limits offers stream text ended []

-- the text is the answers to all whole requests of the bytes, whose good ones have these outcomes, one each
pub record RelayAnswered (to : Form) (limits : Limits) (bytes : List ℕ) (outcomes : List Bool) (text : List ℕ) : Type 0 where
  pub offers : List Offer
  pub told : outcomes ≡ outcomes_of offers
  pub answered : AllAnswered (ByOffers to limits) limits offers bytes text []

-- the text is the replies to the first requests, of which the good ones have these outcomes, one each
pub record FirstRelayReplies (to : Form) (limits : Limits) (bytes : List ℕ) (outcomes : List Bool) (text : List ℕ) : Type 0 where
  pub offers : List Offer
  pub told : outcomes ≡ outcomes_of offers
  pub replies : FirstReplies (ByOffers to limits) limits offers bytes text []

-- these are the first good requests of the bytes
abbrev pub FirstOffers : Form → Limits → List ℕ → List Offer → Type 0
FirstOffers to limits bytes offers = (text : List ℕ) × FirstReplies (ByOffers to limits) limits offers bytes text []
