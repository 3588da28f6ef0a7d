use Rattle.std.proofs.Common.{◌≡◌, true}
use Rattle.trace_model.proofs.LeastOf.{least_or}
use Rattle.trace_model.proofs.laws.least_of_either.Goals as goal

pub returns : goal.returns
returns g c = λ at_most first second one other. least_or (λ x y. at_most x y ≡ true) (λ x. first x ≡ true) (λ x. second x ≡ true) one other
