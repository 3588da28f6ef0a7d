use Rattle.std.proofs.Common.{◌≡◌, ◌∙◌, ap, rules}
use Rattle.span_io.proofs.PathLaws.{exits}
use Rattle.json_nodes.specs.Lents.{lent_view}
use Rattle.zipkin_json.proofs.TagLemmas.{tags_begin, tags_more, tags_halt, tags_read, tags_clean, tags_rise, named_rise}
use Rattle.zipkin_json.specs.private.Tags.{pairs_in}
use Rattle.zipkin_json.proofs.reading.tags.tags_by_name.Goals as goal

pub tags-init : goal.tags-init
tags-init c =
    let whole : c.into_iter-key-iterator.result ≡ c.args.named.now.entries = c.into_iter-key-iterator.ensures.into_iter_gives ∙ c.iter-key-items.ensures.rest in
    rw whole (tags_begin (pairs_in c.args.named.now.entries) _ c.new-tags.ensures)

pub returns-in_err-add_tag-clause-judged : goal.returns-in_err-add_tag-clause-judged
returns-in_err-add_tag-clause-judged c =
    exits c.in_err-add_tag.field-0.0 _ _ (search rules)
    (tags_halt (pairs_in c.args.named.now.entries) _ _ c.in-Some.key.now.now (lent_view c.in-Some.value.now) c.tags.tags (ap pairs_in c.in-Some.ensures.steps) c.tags.invariant
    c.in_err-add_tag.field-0.0 c.in_err-add_tag.ensures.judged)

pub tags-preserved : goal.tags-preserved
tags-preserved c =
    tags_more (pairs_in c.args.named.now.entries) _ _ c.in-Some.key.now.now (lent_view c.in-Some.value.now) c.tags.tags (ap pairs_in c.in-Some.ensures.steps) c.tags.invariant
    c.add_tag.new.tags c.in_ok-add_tag.ensures.adds c.in_ok-add_tag.ensures.judged

pub returns-clause-value : goal.returns-clause-value
returns-clause-value c = tags_read (pairs_in c.args.named.now.entries) (pairs_in c.tags.key-iterator) c.tags.tags (ap pairs_in c.in-None.ensures.steps.0) c.tags.invariant

pub returns-clause-rising : goal.returns-clause-rising
returns-clause-rising c =
    tags_rise (pairs_in c.args.named.now.entries) c.tags.tags (named_rise c.args.named.now.entries c.iter-key-items.ensures.ordered)
    (tags_read (pairs_in c.args.named.now.entries) (pairs_in c.tags.key-iterator) c.tags.tags (ap pairs_in c.in-None.ensures.steps.0) c.tags.invariant)

pub returns-clause-judged : goal.returns-clause-judged
returns-clause-judged c = tags_clean (pairs_in c.args.named.now.entries) (pairs_in c.tags.key-iterator) c.tags.tags (ap pairs_in c.in-None.ensures.steps.0) c.tags.invariant
