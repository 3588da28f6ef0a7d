use Rattle.std.proofs.Common.{◌≡◌, ◌<◌, ◌≤◌, ℕ, List, length, get_or, subst}
use Rattle.zipkin_json.specs.Proper.{IsProperZTag}
use Rattle.zipkin_json.proofs.AllLemmas.{all_start, all_more, all_end}
use Rattle.zipkin_json.proofs.proper.proper_tags.Goals as goal

pub tags-init : goal.tags-init
tags-init c = all_start IsProperZTag c.args.tags.now

pub tags-preserved : goal.tags-preserved
tags-preserved c = all_more IsProperZTag c.args.tags.now c.tags.tag-index c.tag-item.result
    (subst (λ (l : List (List ℕ × List ℕ)). c.tags.tag-index < length l) c.as_slice-tag-items.ensures c.tags-test.true)
    (subst (λ (l : List (List ℕ × List ℕ)). c.tag-item.result ≡ get_or l c.tags.tag-index c.tag-item.result) c.as_slice-tag-items.ensures c.tag-item.is)
    c.tags.invariant
    (c.as_str.ensures.utf8, c.as_str-in-tags.ensures.utf8)

pub returns : goal.returns
returns c = all_end IsProperZTag c.args.tags.now c.tags.tag-index
    (subst (λ (l : List (List ℕ × List ℕ)). length l ≤ c.tags.tag-index) c.as_slice-tag-items.ensures c.tags-test.false) c.tags.invariant
