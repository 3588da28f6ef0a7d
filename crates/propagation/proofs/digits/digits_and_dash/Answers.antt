use Rattle.std.proofs.Common.{◌∷◌}
use Rattle.propagation.proofs.FrontLemmas.{leads_to}
use Rattle.propagation.proofs.ReadLemmas.{dash_ends}
use Rattle.propagation.proofs.digits.digits_and_dash.Goals as goal

pub returns-in_err-rest-clause-only : goal.returns-in_err-rest-clause-only
returns-in_err-rest-clause-only c = λ front rest h e.
    let same = leads_to front (45 ∷ rest) c.digits.ensures h dash_ends e in
    absurd (c.in_err-rest.ensures.only rest same.1)

pub returns-clause-only : goal.returns-clause-only
returns-clause-only c = λ front rest h e.
    let same = leads_to front (45 ∷ rest) c.digits.ensures h dash_ends e in
    (same.0, c.in_ok-rest.ensures.only rest same.1)
