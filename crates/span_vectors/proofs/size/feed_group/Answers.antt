use Rattle.std.proofs.Common.{◌≡◌, ◌+◌, ◌++◌, List, Ok, Err, sym, ap, subst, ◌∙◌, arith}
use Rattle.otlp_proto.specs.Canonical.{group_record}
use Rattle.span_io.specs.Counting.{counting_outlet}
use Rattle.span_io.specs.Limits.{shipped_limits}
use Rattle.span_io.specs.declared.form.Form.TheVariants.{OtlpProto}
use Rattle.span_convert.specs.Converters.{Feeds, stop_in}
use Rattle.span_convert.specs.declared.written.Written.TheVariants as written
use Rattle.span_vectors.specs.private.Feeds.{groups_text, to_form}
use Rattle.span_vectors.specs.Gauge.{gauge_group}
use Rattle.span_vectors.proofs.Feeding.{feed_wants, feeds_more}
use Rattle.span_vectors.proofs.Frames.{groups_more}
use Rattle.span_vectors.proofs.size.feed_group.Goals as goal

pub only_memory-requires : goal.only_memory-requires
only_memory-requires c =
    let spans = c.args.spans in
    let n = c.args.before in
    let feeds = c.requires.feeds in
    let piece = c.as_slice.result.now in
    let what = written.Form feeds.to in
    let is = c.as_slice.ensures ∙ c.in_ok-write_gauge_group.ensures.ok ∙ ap (λ (l : List _). l ++ group_record (gauge_group spans (n + 1))) c.new-text.ensures in
    let all : groups_text spans n ++ piece ≡ groups_text spans (n + 1) = ap (λ (l : List _). groups_text spans n ++ l) is ∙ sym (groups_more spans n) in
    let feed = c.in-Err.ensures in
    feed_wants feeds.to spans (c.one_verdict.ensures.once OtlpProto what shipped_limits) (c.outlook_lasts.ensures.comes_true OtlpProto what shipped_limits)
    (c.gauge_is_converted.ensures.converted feeds.to spans c.requires.most) (n + 1) (omega (arith, c.requires.group))
    c.feed.new.self feeds.said c.in-Err.stop c.args.sink.now c.feed.new.out
    (subst (λ (l : List _). Feeds (to_form feeds.to) c.feed.new.self feeds.said l (Err c.in-Err.stop) (counting_outlet c.args.sink.now) (counting_outlet c.feed.new.out)) all (feed.feeds _ _ _ feeds.fed))
    (λ e. feed.sink.fails (ap stop_in feeds.fed.going, ap Err e))

pub returns-in-Ok-clause-feeds : goal.returns-in-Ok-clause-feeds
returns-in-Ok-clause-feeds c =
    let spans = c.args.spans in
    let n = c.args.before in
    let feeds = c.requires.feeds in
    let piece = c.as_slice.result.now in
    let is = c.as_slice.ensures ∙ c.in_ok-write_gauge_group.ensures.ok ∙ ap (λ (l : List _). l ++ group_record (gauge_group spans (n + 1))) c.new-text.ensures in
    let all : groups_text spans n ++ piece ≡ groups_text spans (n + 1) = ap (λ (l : List _). groups_text spans n ++ l) is ∙ sym (groups_more spans n) in
    feeds_more c.gains_then.ensures c.args.walker.now c.feed.new.self spans n c.args.sink.now c.feed.new.out feeds
    (subst (λ (l : List _). Feeds (to_form feeds.to) c.feed.new.self feeds.said l (Ok tt) (counting_outlet c.args.sink.now) (counting_outlet c.feed.new.out)) all (c.in-Ok.ensures.feeds _ _ _ feeds.fed))
