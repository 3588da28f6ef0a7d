use Rattle.span_convert.specs.declared.written.Written.TheVariants as written
use Rattle.span_gateway.proofs.OneReplyLemmas.{answers_once, replies_once}
use Rattle.span_gateway.proofs.laws.one_reply.Goals as goal

pub returns : goal.returns
returns c = record {
  text = λ to limits stream a b x y are p q.
      replies_once to limits are c.one_next_request.ensures c.whole_requests.ensures
      (λ from bytes v w. c.one_verdict.ensures.once from (written.Form to) limits bytes v w are) stream a b x y p q;
  answers = λ to limits bytes a b are p q.
      answers_once to limits are c.one_next_request.ensures c.whole_requests.ensures
      (λ from bytes v w. c.one_verdict.ensures.once from (written.Form to) limits bytes v w are) bytes a b p q;
}
