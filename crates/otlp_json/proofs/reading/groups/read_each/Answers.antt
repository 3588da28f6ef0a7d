use Rattle.std.proofs.Common.{◌++◌, ap, ◌∙◌, arith}
use Rattle.json_members.proofs.CountedLaws.{fewer_left}
use Rattle.json_members.proofs.ElementLaws.{elements_begin, elements_more, elements_refuse, elements_read, elements_clean}
use Rattle.otlp_json.specs.Group.{IsRemarkedGroup, group_offends}
use Rattle.otlp_json.proofs.CountedLists.{unit_within}
use Rattle.otlp_json.proofs.reading.groups.read_each.Goals as goal

pub elements-init : goal.elements-init
elements-init c = elements_begin IsRemarkedGroup group_offends _ _ c.in_ok-groups.ensures

pub returns-in-Err-clause-judged : goal.returns-in-Err-clause-judged
returns-in-Err-clause-judged c =
    rw c.in_unit.ensures (elements_refuse IsRemarkedGroup group_offends _ _ _ _ _ _ c.in-Some.ensures c.elements.invariant
    c.in-Err.halt c.in-Err.ensures.judged)

pub elements-preserved : goal.elements-preserved
elements-preserved c =
    rw c.in_ok-push-in-Ok.ensures.ok (elements_more IsRemarkedGroup group_offends _ _ _ _ _ _ c.in-Some.ensures c.elements.invariant
    c.in-Ok.group c.in-Ok.ensures.value c.in-Ok.ensures.judged)

pub returns-clause-value : goal.returns-clause-value
returns-clause-value c = elements_read IsRemarkedGroup group_offends _ _ _ _ c.in_default.ensures c.elements.invariant

pub returns-clause-judged : goal.returns-clause-judged
returns-clause-judged c = elements_clean IsRemarkedGroup group_offends _ _ _ _ c.in_default.ensures c.elements.invariant

pub read_group-requires : goal.read_group-requires
read_group-requires c =
    let seen = c.elements.invariant.seen in
    record { counted = fewer_left _ seen _ _ (c.elements.invariant.split ∙ ap (λ l. seen ++ l) c.in-Some.ensures) c.requires.counted }

pub overflow_add-unit : goal.overflow_add-unit
overflow_add-unit c =
    let seen = c.elements.invariant.seen in
    let fits =
    unit_within _ seen _ _ (c.elements.invariant.split ∙ ap (λ l. seen ++ l) c.in-Some.ensures) c.elements.unit c.elements.invariant.counted c.requires.counted in
    record { fits = omega (arith, fits) }
