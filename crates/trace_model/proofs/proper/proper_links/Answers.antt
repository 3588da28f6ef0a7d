use Rattle.std.proofs.Common.{◌≡◌, ◌<◌, ◌≤◌, List, length, get_or, subst}
use Rattle.trace_model.specs.Proper.{IsProperLink}
use Rattle.trace_model.specs.declared.span.Link.{Link}
use Rattle.trace_model.proofs.AllLemmas.{all_start, all_more, all_end}
use Rattle.trace_model.proofs.proper.proper_links.Goals as goal

pub links-init : goal.links-init
links-init c = all_start IsProperLink c.args.links.now

pub links-preserved : goal.links-preserved
links-preserved c = all_more IsProperLink c.args.links.now c.links.link-index c.link-item.result
    (subst (λ (l : List Link). c.links.link-index < length l) c.as_slice-link-items.ensures c.links-test.true)
    (subst (λ (l : List Link). c.link-item.result ≡ get_or l c.links.link-index c.link-item.result) c.as_slice-link-items.ensures c.link-item.is)
    c.links.invariant
    c.proper_link.ensures

pub returns : goal.returns
returns c = all_end IsProperLink c.args.links.now c.links.link-index
    (subst (λ (l : List Link). length l ≤ c.links.link-index) c.as_slice-link-items.ensures c.links-test.false) c.links.invariant
