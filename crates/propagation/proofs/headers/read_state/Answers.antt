use Rattle.std.proofs.Common.{sym, ◌∙◌}
use Rattle.propagation.proofs.headers.read_state.Goals as goal

pub returns-in-None : goal.returns-in-None
returns-in-None c = (λ other h. (let k = sym c.in-None.is ∙ c.in_ok-state.ensures.only other h in let bad : ⊥ = cc in bad), c.new.ensures)
