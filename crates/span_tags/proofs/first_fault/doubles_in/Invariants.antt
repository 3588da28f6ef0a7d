use Rattle.std.proofs.Common.{◌≡◌, false, take}
use Rattle.span_tags.specs.FaultTables.{doubles_in}
use Rattle.span_tags.proofs.first_fault.doubles_in.Given as goal

abbrev pub invariant-attributes : goal.invariant-attributes
invariant-attributes g l = doubles_in g.F.Faults.table (take l.pair-index l.attributes) ≡ false
