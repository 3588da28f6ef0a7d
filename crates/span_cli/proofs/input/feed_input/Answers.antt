use Rattle.std.proofs.Common.{refl}
use Rattle.span_io.specs.Limits.{shipped_limits}
use Rattle.span_convert.specs.Converters.{work_of}
use Rattle.span_cli.specs.Jobs.{Spans}
use Rattle.span_cli.proofs.EndingLaws.{ends_no_memory, untouched_in_vain}
use Rattle.span_cli.proofs.InputLemmas.{reads_nothing}
use Rattle.span_cli.proofs.input.feed_input.Goals as goal

pub returns-in_default-clause-ended : goal.returns-in_default-clause-ended
returns-in_default-clause-ended g c =
    let now = g.S.Source.inlet c.args.input.now in
    let from = (work_of c.args.walker.now).from in
    let what = (work_of c.args.walker.now).what in
    let none = reads_nothing (Spans from what) now in
    ends_no_memory g.K.Sink.outlet (Spans from what) now now c.args.output.now c.args.output.now (record {
      reads = none;
      in_vain = untouched_in_vain now;
      front = record { given = none.given; gave = none.gave; front = c.nothing_written.ensures from what shipped_limits none.given (g.K.Sink.outlet c.args.output.now) };
    }) refl refl
