use Rattle.std.proofs.Common.{◌<◌, ℕ, length, Err, sym, ap, subst, ◌∙◌}
use Rattle.std.proofs.lemmas.Result.{IfOk-weaker}
use Rattle.span_io.specs.Outside.{last_count}
use Rattle.span_io.specs.declared.form.Form.{Form}
use Rattle.span_convert.specs.Converters.{Work, stop_in}
use Rattle.span_convert.specs.Units.{canonical_text}
use Rattle.span_convert.specs.Verdicts.{tally_of}
use Rattle.span_convert.specs.declared.stop.Stop.{Stop}
use Rattle.span_vectors.specs.private.Feeds.{groups_text}
use Rattle.span_vectors.specs.Gauge.{gauge, group_count}
use Rattle.span_vectors.specs.StatedLaws.{GaugeIsConverted}
use Rattle.span_vectors.proofs.Feeding.{counts_all, only_memory, same_to, verdict}
use Rattle.span_vectors.proofs.size.gauge_size.Goals as goal

pub returns-in-Ok : goal.returns-in-Ok
returns-in-Ok c =
    let spans = c.args.spans in
    let walker = c.in_ok-walker.walker in
    let feeds = c.in_ok-walker.ensures.feeds in
    let to = same_to walker feeds.to c.args.to (ap (λ (w : Work). w.what) feeds.fed.works) c.in_ok-walker.ensures.what in
    let converted = subst (λ (f : Form). GaugeIsConverted f spans) to (c.gauge_is_converted.ensures.converted c.args.to spans c.requires.most) in
    let ends = ((c.in-Ok.ensures.finishes _ (groups_text spans (group_count spans)) feeds.said feeds.fed).verdict (verdict feeds.to spans) converted).0 in
    IfOk-weaker c.count_of.result _ _
    (λ n h. h.0 ∙ counts_all c.gains_then.ensures feeds.said c.feed_groups.new.sink c.finish.new.out feeds.gains (canonical_text feeds.to (gauge spans)) (tally_of (group_count spans) spans) _ ends (subst (λ (m : ℕ). m < last_count) h.0 h.1)
    ∙ ap (λ (f : Form). length (canonical_text f (gauge spans))) (sym to))
    c.count_of.ensures

pub only_memory-requires : goal.only_memory-requires
only_memory-requires c =
    let spans = c.args.spans in
    let walker = c.in_ok-walker.walker in
    let feeds = c.in_ok-walker.ensures.feeds in
    let converted = c.gauge_is_converted.ensures.converted feeds.to spans c.requires.most in
    let ends = ((c.in-Err.ensures.finishes _ (groups_text spans (group_count spans)) feeds.said feeds.fed).verdict (verdict feeds.to spans) converted).0 in
    only_memory feeds.said c.in-Err.stop (canonical_text feeds.to (gauge spans)) (tally_of (group_count spans) spans) c.feed_groups.new.sink c.finish.new.out ends
    (λ e. c.in-Err.ensures.sink.fails (ap stop_in feeds.fed.going, ap (λ (s : Stop). Err s) e))
