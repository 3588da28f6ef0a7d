use Rattle.std.proofs.Common.{◌≡◌, false, take}
use Rattle.std.specs.List.{list_any}
use Rattle.trace_model.specs.EventTexts.{has_bytes}
use Rattle.trace_model.proofs.ByteRows.{pair_has_bytes}
use Rattle.trace_model.proofs.value.+bytes.Given as goal

abbrev pub invariant-holds_bytes_in-members : goal.invariant-holds_bytes_in-members
invariant-holds_bytes_in-members l = list_any has_bytes (take l.member-index l.members) ≡ false

abbrev pub invariant-holds_bytes_under-pairs : goal.invariant-holds_bytes_under-pairs
invariant-holds_bytes_under-pairs l = list_any pair_has_bytes (take l.pair-index l.pairs) ≡ false
