use Rattle.std.proofs.Common.{take, All}
use Rattle.jaeger_model.proofs.writing.sizes.proper_each.Given as goal

abbrev pub invariant-items : goal.invariant-items
invariant-items g l = All g.M.Measured.sizes (take l.item-index l.items)
