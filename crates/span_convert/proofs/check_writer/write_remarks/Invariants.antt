use Rattle.std.proofs.Common.{◌≡◌, ◌++◌, take}
use Rattle.span_convert.specs.Reports.{unit_checked}
use Rattle.span_convert.proofs.check_writer.write_remarks.Given as goal

abbrev pub invariant-remarks : goal.invariant-remarks
invariant-remarks l = l.out ≡ l.initial.out ++ unit_checked l.number (take l.remark-index l.remarks)
