use Rattle.std.proofs.Common.{◌≡◌, ◌++◌}
use Rattle.trace_model.specs.Remarks.{equal_keys}
use Rattle.trace_model.proofs.remarks.remark_keys.Given as goal

abbrev pub invariant-keys : goal.invariant-keys
invariant-keys l = l.remarks ++ equal_keys l.place l.key-iterator.rest.items ≡ l.initial.remarks ++ equal_keys l.place l.fn.keys
