use Rattle.std.proofs.Common.{refl}
use Rattle.span_convert.proofs.WalkLemmas.{stands_none}
use Rattle.span_convert.proofs.progress.Progress.new.Goals as goal

pub returns-clause-fresh : goal.returns-clause-fresh
returns-clause-fresh c = λ what starts. (stands_none what _ starts refl, c.some_room.ensures)
