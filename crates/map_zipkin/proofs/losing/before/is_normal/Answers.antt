use Rattle.std.proofs.Common.{◌≡◌, ◌<◌, ◌≤◌, length, ap, sym, subst, ◌∙◌}
use Rattle.span_tags.specs.TagKeys.{service_key}
use Rattle.map_zipkin.specs.private.LossWalks.{still_same, Advances, IsWithin}
use Rattle.map_zipkin.specs.Normal.{normal_pairs}
use Rattle.map_zipkin.specs.Regrouped.{same_resource}
use Rattle.map_zipkin.proofs.KeptTexts.{normal_kept}
use Rattle.map_zipkin.proofs.LossLoops.{same_step, same_apart, same_end}
use Rattle.map_zipkin.proofs.losing.before.is_normal.Goals as goal

pub pairs-preserved : goal.pairs-preserved
pairs-preserved c =
    let normal = c.args.normal.now in
    let resource = c.args.resource.now in
    let within : c.pairs.pair-index < length resource = rw c.as_slice-pair-items.ensures at c.pairs-test.true in
    let here = rw c.as_slice-pair-items.ensures at c.pair-item.is in record {
      within = subst (IsWithin normal) c.in-Some.is c.in_ok-next.ensures.within;
      same = same_step c.pairs.pair-index c.pairs.place c.in-Some.next c.pair-item.result normal resource within here
          (λ left. subst (Advances normal c.pairs.place c.pair-item.result left) c.in-Some.is (c.in_ok-next.ensures.next left)) c.pairs.invariant.same;
    }

pub returns-in_default : goal.returns-in_default
returns-in_default c =
    let normal = c.args.normal.now in
    let resource = c.args.resource.now in
    let within : c.pairs.pair-index < length resource = rw c.as_slice-pair-items.ensures at c.pairs-test.true in
    let here = rw c.as_slice-pair-items.ensures at c.pair-item.is in
    same_apart c.pairs.pair-index c.pairs.place c.pair-item.result normal resource within here
    (λ left. subst (Advances normal c.pairs.place c.pair-item.result left) c.in_default.is (c.in_ok-next.ensures.next left)) c.pairs.invariant.same
    ∙ ap (same_resource normal) (sym (normal_kept service_key resource c.requires.rising))

pub returns : goal.returns
returns c =
    let normal = c.args.normal.now in
    let resource = c.args.resource.now in
    let ended : length resource ≤ c.pairs.pair-index = rw c.as_slice-pair-items.ensures at c.pairs-test.false in
    let whole : still_same normal 0 resource ≡ same_resource normal (normal_pairs service_key resource) =
    ap (same_resource normal) (sym (normal_kept service_key resource c.requires.rising)) in
    rw c.len.ensures.count (same_end c.pairs.pair-index c.pairs.place normal resource ended c.pairs.invariant.within c.pairs.invariant.same ∙ whole)
