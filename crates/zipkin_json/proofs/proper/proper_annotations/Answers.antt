use Rattle.std.proofs.Common.{◌≡◌, ◌<◌, ◌≤◌, ℕ, List, length, get_or, subst}
use Rattle.zipkin_json.specs.Proper.{IsProperAnnotation}
use Rattle.zipkin_json.proofs.AllLemmas.{all_start, all_more, all_end}
use Rattle.zipkin_json.proofs.proper.proper_annotations.Goals as goal

pub annotations-init : goal.annotations-init
annotations-init c = all_start IsProperAnnotation c.args.annotations.now

pub annotations-preserved : goal.annotations-preserved
annotations-preserved c = all_more IsProperAnnotation c.args.annotations.now c.annotations.annotation-index c.annotation-item.result
    (subst (λ (l : List (ℕ × List ℕ)). c.annotations.annotation-index < length l) c.as_slice-annotation-items.ensures c.annotations-test.true)
    (subst (λ (l : List (ℕ × List ℕ)). c.annotation-item.result ≡ get_or l c.annotations.annotation-index c.annotation-item.result) c.as_slice-annotation-items.ensures c.annotation-item.is)
    c.annotations.invariant
    (c.proper_time.ensures, c.as_str.ensures.utf8)

pub returns : goal.returns
returns c = all_end IsProperAnnotation c.args.annotations.now c.annotations.annotation-index
    (subst (λ (l : List (ℕ × List ℕ)). length l ≤ c.annotations.annotation-index) c.as_slice-annotation-items.ensures c.annotations-test.false) c.annotations.invariant
