use Rattle.std.proofs.Common.{◌≡◌, ◌≤◌, ◌<◌, ℕ, [], ◌++◌, length, take, Ok, Err, refl, ap, subst, ◌∙◌, arith}
use Rattle.std.specs.Io.KnownBytes.{Consumes}
use Rattle.std.proofs.lemmas.Bool.{false≢true}
use Rattle.std.proofs.lemmas.List.{length-take}
use Rattle.std.proofs.lemmas.List.Elements.{All-append}
use Rattle.span_io.specs.Limits.{shipped_limits}
use Rattle.span_convert.specs.Converters.{Work, stop_in, work_of}
use Rattle.span_convert.specs.Outlooks.{IfDocument}
use Rattle.span_cli.specs.Inputs.{piece}
use Rattle.span_cli.specs.private.ReadBlocks.{shipped}
use Rattle.span_cli.proofs.ConversionEndings.{ends_at_feed, ends_unread}
use Rattle.span_cli.proofs.InputLemmas.{Consumes-then, Feeding-end, Feeding-reads, Feeding-smaller, Feeding-start, Feeding-step, goes_on, not_in_vain}
use Rattle.span_cli.proofs.WrittenSoFar.{of_documents, of_documents_then}
use Rattle.span_cli.proofs.input.feed_pieces.Goals as goal

pub pieces-init : goal.pieces-init
pieces-init g c =
    let work = work_of c.args.walker.now in
    record {
      room = c.requires.room;
      feeding = Feeding-start work.from work.what c.gains_then.ensures (g.S.Source.inlet c.args.input.now) (g.K.Sink.outlet c.args.output.now) c.args.walker.now c.requires.fresh
          (c.nothing_written.ensures work.from work.what shipped_limits [] (g.K.Sink.outlet c.args.output.now));
      unwritten = of_documents work.from _ refl;
    }

pub pieces-preserved : goal.pieces-preserved
pieces-preserved g c =
    let from = (work_of c.args.walker.now).from in
    let what = (work_of c.args.walker.now).what in
    let here = g.K.Sink.outlet c.pieces.output in
    let now = g.K.Sink.outlet c.feed.new.out in
    let feeding = c.pieces.invariant.feeding in
    let more = take c.in-Ok.given c.read.new.buf in
    let feed = c.in_default-feed.ensures in
    record {
      room = c.read.auto.buf ∙ c.pieces.invariant.room;
      feeding = Feeding-step from what c.gains_then.ensures (g.S.Source.inlet c.args.input.now) (g.S.Source.inlet c.pieces.input) (g.S.Source.inlet c.read.new.self)
          (g.K.Sink.outlet c.args.output.now) here now c.pieces.walker c.feed.new.self more feeding
          (All-append (λ (b : ℕ). b < 256) feeding.given more feeding.are_bytes c.proper_bytes.ensures)
          c.in-Ok.ensures.bytes.0 c.in-Ok.ensures.quiet c.read.ensures.steady
          (goes_on _ _ _ c.in-Ok.given (λ zero. absurd (omega (arith, zero))) c.in-Ok.ensures.course)
          (feed.feeds (shipped from what) feeding.given feeding.said feeding.fed)
          (feed.sink.holds (λ (going, e). absurd (cc)));
      unwritten = of_documents_then from _ _ _ (λ same first. same ∙ first) (subst (λ (w : Work). IfDocument w.from (c.feed.new.out ≡ c.pieces.output)) feeding.fed.works feed.unwritten) c.pieces.invariant.unwritten;
    }

pub returns-in-Err-clause-ended : goal.returns-in-Err-clause-ended
returns-in-Err-clause-ended g c =
    let from = (work_of c.args.walker.now).from in
    let what = (work_of c.args.walker.now).what in
    let before = g.S.Source.inlet c.args.input.now in
    let here = g.S.Source.inlet c.pieces.input in
    let now = g.S.Source.inlet c.read.new.self in
    let feeding = c.pieces.invariant.feeding in
    let more = take c.in-Ok.given c.read.new.buf in
    let bytes = feeding.given ++ more in
    let feed = c.in-Err.ensures in
    let given = c.in-Ok.ensures.bytes.0 in
    let small : length more ≤ piece = omega (arith, length-take c.in-Ok.given c.read.new.buf, c.read.auto.buf, c.pieces.invariant.room) in
    ends_at_feed g.K.Sink.outlet from what before now c.args.output.now c.pieces.output c.feed.new.out c.gains_then.ensures
    feeding.said feeding.gains feeding.holds c.outlook_begins.ensures.at_end c.outlook_lasts.ensures.comes_true c.one_verdict.ensures.once c.some_outlook.ensures
    bytes (All-append (λ (b : ℕ). b < 256) feeding.given more feeding.are_bytes c.proper_bytes.ensures) c.at_stop.result c.in-Err.stop c.feed.new.self
    (Consumes-then before.left here.left now.left feeding.given more feeding.reading.gave given)
    c.at_stop.ensures
    (Feeding-reads from what before here now (g.K.Sink.outlet c.args.output.now) (g.K.Sink.outlet c.pieces.output) c.pieces.walker more feeding given small)
    (not_in_vain _ before.course here.course now.course (Ok c.in-Ok.given) feeding.reading.goes c.in-Ok.ensures.course)
    (c.in-Ok.ensures.quiet ∙ feeding.reading.quiet)
    (feed.feeds (shipped from what) feeding.given feeding.said feeding.fed)
    (record { fails = λ e. feed.sink.fails (ap stop_in feeding.fed.going, ap Err e); holds = λ other. feed.sink.holds (λ (going, e). other (cc)) })

pub returns-in_default-clause-ended : goal.returns-in_default-clause-ended
returns-in_default-clause-ended g c =
    let from = (work_of c.args.walker.now).from in
    let what = (work_of c.args.walker.now).what in
    let before = g.S.Source.inlet c.args.input.now in
    let here = g.S.Source.inlet c.pieces.input in
    let now = g.S.Source.inlet c.read.new.self in
    let feeding = c.pieces.invariant.feeding in
    let read = c.in_default.ensures in
    ends_unread g.K.Sink.outlet from what before now c.args.output.now c.pieces.output c.outlook_begins.ensures.at_end here c.pieces.walker feeding c.pieces.invariant.unwritten
    read.bytes read.failed (λ steady. absurd (false≢true (read.answers steady)))
    (not_in_vain _ before.course here.course now.course c.read.result feeding.reading.goes c.read.ensures.course)

pub returns-then-given-eq0-clause-fed : goal.returns-then-given-eq0-clause-fed
returns-then-given-eq0-clause-fed g c =
    let from = (work_of c.args.walker.now).from in
    let what = (work_of c.args.walker.now).what in
    let before = g.S.Source.inlet c.args.input.now in
    let here = g.S.Source.inlet c.pieces.input in
    let now = g.S.Source.inlet c.read.new.self in
    let feeding = c.pieces.invariant.feeding in
    let zero : c.in-Ok.given ≡ 0 = omega (arith, c.if-given-eq0.true) in
    Feeding-end from what before here now (g.K.Sink.outlet c.args.output.now) (g.K.Sink.outlet c.pieces.output) c.pieces.walker feeding
    (subst (λ (n : ℕ). Consumes here.left now.left (take n c.read.new.buf)) zero c.in-Ok.ensures.bytes.0) c.in-Ok.ensures.quiet
    (not_in_vain _ before.course here.course now.course (Ok c.in-Ok.given) feeding.reading.goes c.in-Ok.ensures.course)
    (c.in-Ok.ensures.bytes.1 zero (omega (arith, c.read.auto.buf, c.pieces.invariant.room)))

pub pieces-smaller : goal.pieces-smaller
pieces-smaller g c =
    let feeding = c.pieces.invariant.feeding in
    let more = take c.in-Ok.given c.read.new.buf in
    let some : 0 < length more = omega (arith, length-take c.in-Ok.given c.read.new.buf, c.in-Ok.ensures.bound, c.if-given-eq0.false, c.read.auto.buf, c.pieces.invariant.room) in
    let feeds = c.in_default-feed.ensures.feeds _ feeding.given feeding.said feeding.fed in
    Feeding-smaller (work_of c.args.walker.now).from (work_of c.args.walker.now).what (g.S.Source.inlet c.args.input.now) (g.S.Source.inlet c.pieces.input)
    (g.K.Sink.outlet c.args.output.now) (g.K.Sink.outlet c.pieces.output) c.pieces.walker c.feed.new.self more feeds.fed.text feeding some feeds.fed.is
