use Rattle.std.proofs.Common.{sym, ap, ◌∙◌}
use Rattle.map_zipkin.specs.OwnColumns.{is_own}
use Rattle.map_zipkin.proofs.OwnParts.{part_step}
use Rattle.map_zipkin.proofs.own.own_part.Goals as goal

pub pairs-preserved : goal.pairs-preserved
pairs-preserved c = part_step c.in-Some.pair.now c.in-Some.behind.now c.pairs.part.now c.args.attributes.now c.in-Some.ensures.cases.0
    (sym (ap is_own c.as_str.ensures.value) ∙ c.may_be_own.ensures c.if-may_be_own.false) c.pairs.invariant
