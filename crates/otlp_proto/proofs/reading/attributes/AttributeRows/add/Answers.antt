use Rattle.std.proofs.Common.{refl}
use Rattle.trace_model.specs.OtlpParts.{levels_below}
use Rattle.otlp_proto.proofs.AttributeLemmas.{attribute_push, plain_push}
use Rattle.otlp_proto.proofs.PlainLemmas.{pair_fine}
use Rattle.otlp_proto.proofs.reading.attributes.AttributeRows.add.Goals as goal

pub returns-clause-ok : goal.returns-clause-ok
returns-clause-ok c = λ earlier gathered.
    attribute_push earlier c.args.held.now c.args.self.now (record { pairs = c.push_key_value.new.pairs; noted = c.push_key_value.new.noted }) c.in_ok-pair.pair
    c.in_ok-pair.ensures.value c.in_ok-push_key_value.ensures.pairs c.in_ok-push_key_value.ensures.noted gathered

pub returns-in-Some-clause-ok : goal.returns-in-Some-clause-ok
returns-in-Some-clause-ok c = λ earlier gathered.
    plain_push earlier c.args.held.now c.args.self.now (record { pairs = c.push.new.self; noted = c.args.self.now.noted }) c.in-Some.plain c.in_ok-owned.field-0
    c.in-Some.ensures c.in_ok-owned.ensures.key c.in_ok-owned.ensures.value c.in_ok-push.ensures.ok refl gathered

pub returns-in-Some-clause-judged : goal.returns-in-Some-clause-judged
returns-in-Some-clause-judged c = pair_fine c.reading_laws.ensures levels_below c.in-Some.plain c.args.held.now c.in-Some.ensures
