use Rattle.std.proofs.Common.{sym, ◌∙◌}
use Rattle.std.proofs.lemmas.Bool.{false≢true}
use Rattle.span_relay.proofs.RunLemmas.{round_some}
use Rattle.span_relay.proofs.run.send_after.Goals as goal

pub returns : goal.returns
returns g c =
    let f = c.forward-flow.ensures in
    round_some c.args.target.now c.args.number c.args.ended c.args.holds.now c.note_link.result _ _ _ _ c.why_of-why.result c.why_of-why.ensures
    c.outcomes_of-outcomes.result c.outcomes_of-outcomes.ensures c.note_link.ensures c.forward-flow.result
    (λ wants. false≢true (sym c.if-wants_link_memory.false ∙ c.wants_link_memory.ensures.1 wants)) _ _ f.forwards f.counts f.counted f.wire_counted
    c.size-before.result c.size.result c.wants_memory.result c.note_flow.result _ c.size-before.ensures.held c.size.ensures.held c.wants_memory.ensures c.note_flow.ensures
