use Rattle.std.proofs.Common.{All, take}
use Rattle.jaeger_model.specs.Proper.{IsProperLog}
use Rattle.jaeger_model.proofs.proper.proper_logs.Given as goal

abbrev pub invariant-logs : goal.invariant-logs
invariant-logs l = All IsProperLog (take l.log-index l.logs)
