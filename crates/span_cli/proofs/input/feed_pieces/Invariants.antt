use Rattle.std.proofs.Common.{◌≡◌, ◌-◌, suc, length}
use Rattle.span_io.specs.Limits.{shipped_limits}
use Rattle.span_convert.specs.Converters.{work_of}
use Rattle.span_convert.specs.Outlooks.{IfDocument}
use Rattle.span_convert.specs.Units.{input_limit}
use Rattle.span_cli.specs.Inputs.{piece}
use Rattle.span_cli.proofs.InputLemmas.{Feeding}
use Rattle.span_cli.proofs.input.feed_pieces.Given as goal

abbrev pub invariant-pieces : goal.invariant-pieces
invariant-pieces g l = record {
  room : length l.buffer ≡ piece;
  feeding : Feeding (work_of l.initial.walker).from (work_of l.initial.walker).what (g.S.Source.inlet l.initial.input) (g.S.Source.inlet l.input)
      (g.K.Sink.outlet l.initial.output) (g.K.Sink.outlet l.output) l.walker;
  unwritten : IfDocument (work_of l.initial.walker).from (l.output ≡ l.initial.output);
}

abbrev pub decreases-pieces : goal.decreases-pieces
decreases-pieces g l = suc (input_limit (work_of l.initial.walker).from shipped_limits) - l.walker.fed
