use Rattle.span_convert.specs.declared.written.Written.TheVariants as written
use Rattle.span_relay.proofs.OneRelayLemmas.{offers_once, replies_once}
use Rattle.span_relay.proofs.laws.one_relay_reply.Goals as goal

pub returns : goal.returns
returns c = record {
  text = λ to limits stream outcomes a b x y are p q.
      replies_once to limits are c.one_next_request.ensures c.whole_requests.ensures
      (λ from bytes v w. c.one_verdict.ensures.once from (written.Form to) limits bytes v w are) stream outcomes a b x y p q;
  offers = λ to limits bytes f g are p q same.
      offers_once to limits are c.one_next_request.ensures c.whole_requests.ensures
      (λ from bytes v w. c.one_verdict.ensures.once from (written.Form to) limits bytes v w are) bytes f g p q same;
}
