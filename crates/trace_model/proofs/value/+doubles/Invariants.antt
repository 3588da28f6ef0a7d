use Rattle.std.proofs.Common.{◌≡◌, false, take}
use Rattle.std.specs.List.{list_any}
use Rattle.trace_model.specs.ValueTexts.{has_double}
use Rattle.trace_model.proofs.DoubleRows.{pair_has_double}
use Rattle.trace_model.proofs.value.+doubles.Given as goal

abbrev pub invariant-holds_double_in-members : goal.invariant-holds_double_in-members
invariant-holds_double_in-members l = list_any has_double (take l.member-index l.members) ≡ false

abbrev pub invariant-holds_double_under-pairs : goal.invariant-holds_double_under-pairs
invariant-holds_double_under-pairs l = list_any pair_has_double (take l.pair-index l.pairs) ≡ false
