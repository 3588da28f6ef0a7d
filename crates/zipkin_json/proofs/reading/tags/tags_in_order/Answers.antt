use Rattle.std.proofs.Common.{rules}
use Rattle.span_io.proofs.PathLaws.{exits}
use Rattle.json_nodes.specs.Lents.{lent_view, members_left}
use Rattle.zipkin_json.proofs.TagLemmas.{tags_begin, tags_more, tags_halt, tags_read, tags_clean, tags_rise}
use Rattle.zipkin_json.proofs.reading.tags.tags_in_order.Goals as goal

pub tags-init : goal.tags-init
tags-init c = tags_begin (members_left c.args.members) _ c.new-tags.ensures

pub returns-in_err-add_tag-clause-judged : goal.returns-in_err-add_tag-clause-judged
returns-in_err-add_tag-clause-judged c =
    exits c.in_err-add_tag.field-0.0 _ _ (search rules)
    (tags_halt (members_left c.args.members) _ _ c.in-Some.key.now (lent_view c.in-Some.value) c.tags.tags c.in-Some.ensures c.tags.invariant
    c.in_err-add_tag.field-0.0 c.in_err-add_tag.ensures.judged)

pub tags-preserved : goal.tags-preserved
tags-preserved c =
    tags_more (members_left c.args.members) _ _ c.in-Some.key.now (lent_view c.in-Some.value) c.tags.tags c.in-Some.ensures c.tags.invariant
    c.add_tag.new.tags c.in_ok-add_tag.ensures.adds c.in_ok-add_tag.ensures.judged

pub returns-clause-value : goal.returns-clause-value
returns-clause-value c = tags_read (members_left c.args.members) _ c.tags.tags c.in_default.ensures c.tags.invariant

pub returns-clause-rising : goal.returns-clause-rising
returns-clause-rising c =
    tags_rise (members_left c.args.members) c.tags.tags c.requires.rise (tags_read (members_left c.args.members) _ c.tags.tags c.in_default.ensures c.tags.invariant)

pub returns-clause-judged : goal.returns-clause-judged
returns-clause-judged c = tags_clean (members_left c.args.members) _ c.tags.tags c.in_default.ensures c.tags.invariant
