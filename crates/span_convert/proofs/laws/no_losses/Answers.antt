use Rattle.span_convert.proofs.NoLosses.{no_losses}
use Rattle.span_convert.proofs.laws.no_losses.Goals as goal

pub returns : goal.returns
returns c = λ from to limits bytes text tally h. no_losses c.none_lost.ensures c.nothing_lost.ensures to h.noted text h.held.sound h.is_text
