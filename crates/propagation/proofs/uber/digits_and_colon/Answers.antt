use Rattle.std.proofs.Common.{◌++◌}
use Rattle.propagation.proofs.FrontLemmas.{leads_to}
use Rattle.propagation.proofs.ReadLemmas.{colon_ends}
use Rattle.propagation.proofs.uber.digits_and_colon.Goals as goal

pub returns-in_err-rest-clause-only : goal.returns-in_err-rest-clause-only
returns-in_err-rest-clause-only c = λ front colon rest h is e.
    let same = leads_to front (colon ++ rest) c.digits.ensures h (colon_ends colon rest is) e in
    absurd (c.in_err-rest.ensures.only colon rest is same.1)

pub returns-clause-only : goal.returns-clause-only
returns-clause-only c = λ front colon rest h is e.
    let same = leads_to front (colon ++ rest) c.digits.ensures h (colon_ends colon rest is) e in
    (same.0, c.in_ok-rest.ensures.only colon rest is same.1)
