use Rattle.std.proofs.Common.{sym, drop}
use Rattle.std.proofs.lemmas.List.{take-append-drop}
use Rattle.propagation.proofs.members.without_end.Goals as goal

pub returns-then-not-is_blank-clause-after : goal.returns-then-not-is_blank-clause-after
returns-then-not-is_blank-clause-after c = (drop c.blanks.end c.args.text.now, c.blanks.invariant.1, sym (take-append-drop c.blanks.end c.args.text.now))
