use Rattle.std.proofs.Common.{◌≡◌, ◌+◌, ◌≤◌, ℕ, List, length}
use Rattle.span_io.specs.Outside.{Outlet, OutputHolds}
use Rattle.span_io.specs.declared.limits.Limits.{Limits}
use Rattle.span_convert.specs.Pens.{written_by}
use Rattle.span_convert.specs.private.WalkSteps.{WalksOn}
use Rattle.span_convert.specs.declared.written.Written.{Written}
use Rattle.span_convert.proofs.walk.take_units.Given as goal

abbrev pub invariant-frames : goal.invariant-frames
invariant-frames g l = record {
  walks : (what : Written) (limits : Limits) (whole said : List ℕ) (before : Outlet)
      → WalksOn g.R.UnitReader.form what limits whole said before (g.K.Sink.outlet l.initial.out) (g.R.Scanner.Scan.scanning l.initial.scanner) l.initial.held l.piece l.initial.progress
      → WalksOn g.R.UnitReader.form what limits whole said before (g.K.Sink.outlet l.out) (g.R.Scanner.Scan.scanning l.scanner) l.held l.rest l.progress;
  seen : ∥ (g.R.Scanner.Scan.scanning l.scanner).seen l.held ∥₁;
  limit : (g.R.Scanner.Scan.scanning l.scanner).limit ≡ (g.R.Scanner.Scan.scanning l.initial.scanner).limit;
  same : written_by l.progress.pen ≡ written_by l.initial.progress.pen;
  room : l.progress.tally.units + length l.rest ≤ l.initial.progress.tally.units + length l.piece;
  short : length l.held + length l.rest ≤ length l.initial.held + length l.piece;
  holds : OutputHolds (g.K.Sink.outlet l.initial.out) (g.K.Sink.outlet l.out);
}

abbrev pub decreases-frames : goal.decreases-frames
decreases-frames g l = length l.rest
