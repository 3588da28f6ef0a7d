use Rattle.std.proofs.Common.{◌≡◌, ◌++◌, take}
use Rattle.span_convert.specs.Reports.{unit_lost}
use Rattle.span_convert.proofs.loss_writer.write_losses.Given as goal

abbrev pub invariant-losses : goal.invariant-losses
invariant-losses l = l.out ≡ l.initial.out ++ unit_lost l.number (take l.loss-index l.losses)
