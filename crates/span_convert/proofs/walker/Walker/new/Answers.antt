use Rattle.std.proofs.Common.{◌≡◌, List, [], refl, sym, subst, arith}
use Rattle.span_convert.specs.Intakes.{Taken}
use Rattle.span_convert.specs.Reports.{written_target}
use Rattle.span_convert.specs.declared.written.Written.{Written}
use Rattle.span_convert.proofs.FeedLemmas.{outlook_then, same_work}
use Rattle.span_convert.proofs.walker.Walker.new.Goals as goal

pub returns : goal.returns
returns c =
    let done = c.new-progress.ensures.fresh c.args.what c.pen.ensures in
    let none = subst (λ (w : Written). (written_target w).partial_text [] ≡ []) done.0.pen c.target_laws.ensures.none in
    -- nothing was taken, and nothing was written
    let taken : Taken c.new-2.result c.args.what c.args.limits.now [] [] c.new.result c.new-progress.result =
    subst (λ (l : List _). Taken c.new-2.result c.args.what c.args.limits.now [] [] l c.new-progress.result) (sym c.new.ensures)
    (c.new-2.ensures.taken c.args.what [] c.new-progress.result done.0 done.1 (sym none) refl) in
    record {
      going = refl;
      works = same_work _ (record { from = c.args.from; what = c.args.what; limits = c.args.limits.now }) c.new-2.ensures.form done.0.pen refl;
      limits = c.requires.limits;
      size = refl;
      within = omega arith;
      taken = taken;
      tally = c.new-progress.result.tally;
      outlook = outlook_then (record { from = c.args.from; what = c.args.what; limits = c.args.limits.now }) c.new-2.result c.new-progress.result [] [] c.new.result c.new-2.ensures.form taken;
    }
