use Rattle.std.proofs.Common.{◌≡◌, ◌++◌}
use Rattle.trace_model.proofs.remarks.remark_all.Given as goal

abbrev pub invariant-remarks : goal.invariant-remarks
invariant-remarks l = l.remarks ++ l.remark-iterator.rest.items ≡ l.initial.remarks ++ l.fn.more
