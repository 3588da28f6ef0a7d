use Rattle.std.proofs.Common.{◌≡◌, [], ap, sym, ◌∙◌}
use Rattle.span_tags.proofs.Moved.{none_left}
use Rattle.map_zipkin.specs.OwnColumns.{all_own, own_in}
use Rattle.map_zipkin.proofs.OwnParts.{same_fault}
use Rattle.map_zipkin.proofs.faults.ZipkinFaults.own_key.Goals as goal

pub returns-then-part-eq0 : goal.returns-then-part-eq0
returns-then-part-eq0 c =
    let none : c.own_part-part.result.now ≡ [] = none_left c.own_part-part.result.now c.if-part-eq0.true in
    same_fault [] c.args.attributes.now (ap own_in (sym none) ∙ c.own_part-part.ensures) all_own

pub returns : goal.returns
returns c = c.out_of_form.ensures ∙ same_fault c.own_part-part.result.now c.args.attributes.now c.own_part-part.ensures all_own
