use Rattle.std.proofs.Common.{subst}
use Rattle.thrift_core.specs.Trees.{Fields}
use Rattle.jaeger_model.specs.Tag.{IsTag}
use Rattle.jaeger_model.proofs.reading.tag.read_tag.Goals as goal

pub returns-clause-value : goal.returns-clause-value
returns-clause-value g c = λ text tail fields e h.
    let all = c.in_ok-rows.ensures.all text tail fields e h in
    (all.0, subst (λ (f : Fields). IsTag c.in_ok-tag_of.field-0 f) all.1.are.same (c.in_ok-tag_of.ensures.value all.1.items all.1.gathered))

pub returns-clause-judged : goal.returns-clause-judged
returns-clause-judged g c = λ text tail fields e h.
    let all = c.in_ok-rows.ensures.all text tail fields e h in
    all.1.fine (c.in_ok-tag_of.ensures.ended all.1.items all.1.gathered)
