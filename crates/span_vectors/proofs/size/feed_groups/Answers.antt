use Rattle.std.proofs.Common.{List, [], sym, ap, subst, ◌∙◌}
use Rattle.span_io.specs.Counting.{counting_outlet}
use Rattle.span_io.specs.Outside.{Gains}
use Rattle.span_io.specs.declared.form.Form.TheVariants.{OtlpProto}
use Rattle.span_io.specs.declared.limits.Limits.{Limits}
use Rattle.span_convert.specs.Converters.{Fed, Work}
use Rattle.span_convert.specs.declared.written.Written.TheVariants as written
use Rattle.span_vectors.specs.private.Feeds.{to_form}
use Rattle.span_vectors.proofs.Frames.{no_groups}
use Rattle.span_vectors.proofs.size.feed_groups.Goals as goal

pub groups-init : goal.groups-init
groups-init c =
    let walker = c.new-walker.result in
    let limits = ap (λ (l : Limits). record { from = OtlpProto; what = written.Form c.args.to; limits = l }) c.shipped.ensures.values in
    record {
      feeds = record {
        to = c.args.to;
        said = [];
        fed = subst (λ (l : List _). Fed walker (to_form c.args.to) l []) (sym (no_groups c.args.spans)) (subst (λ (w : Work). Fed walker w [] []) limits c.new-walker.ensures);
        gains = subst (λ n. Gains (counting_outlet 0) (counting_outlet n) []) (sym c.requires.fresh) (c.gains_then.ensures.none (counting_outlet 0));
      };
      what = ap (λ (w : Work). w.what) c.new-walker.ensures.works;
    }

pub groups-preserved : goal.groups-preserved
groups-preserved c = record {
  feeds = c.in_ok-feed_group.ensures.feeds;
  what = ap (λ (w : Work). w.what) c.feed_group.ensures.same ∙ c.groups.invariant.what;
}
