use Rattle.std.proofs.Common.{◌≡◌, ◌<◌, ◌≤◌, List, length, get_or, subst}
use Rattle.jaeger_model.specs.Proper.{IsProperTag}
use Rattle.jaeger_model.specs.declared.tag.Tag.{Tag}
use Rattle.jaeger_model.proofs.AllLemmas.{all_start, all_more, all_end}
use Rattle.jaeger_model.proofs.proper.proper_tags.Goals as goal

pub tags-init : goal.tags-init
tags-init c = all_start IsProperTag c.args.tags.now

pub tags-preserved : goal.tags-preserved
tags-preserved c = all_more IsProperTag c.args.tags.now c.tags.tag-index c.tag-item.result
    (subst (λ (l : List Tag). c.tags.tag-index < length l) c.as_slice-tag-items.ensures c.tags-test.true)
    (subst (λ (l : List Tag). c.tag-item.result ≡ get_or l c.tags.tag-index c.tag-item.result) c.as_slice-tag-items.ensures c.tag-item.is)
    c.tags.invariant
    c.proper_tag.ensures

pub returns : goal.returns
returns c = all_end IsProperTag c.args.tags.now c.tags.tag-index
    (subst (λ (l : List Tag). length l ≤ c.tags.tag-index) c.as_slice-tag-items.ensures c.tags-test.false) c.tags.invariant
