use Rattle.std.proofs.Common.{◌++◌}
use Rattle.propagation.proofs.FrontLemmas.{leads_to}
use Rattle.propagation.proofs.ReadLemmas.{empty_false}
use Rattle.propagation.proofs.B3Lemmas.{state_then, state_digits, state_same, behind_ends}
use Rattle.propagation.proofs.b3.read_end.Goals as goal

pub returns-in_err-sampling-clause-only : goal.returns-in_err-sampling-clause-only
returns-in_err-sampling-clause-only c = λ sampling parent h.
    let view = state_then c.args.end.now sampling parent h (empty_false c.args.end.now c.is_empty.result c.is_empty.ensures c.if-is_empty.false) in
    let one = c.in_ok-rest.ensures.only (view.state ++ view.rest) view.whole in
    let same = leads_to view.state view.rest c.digits.ensures (state_digits view.state sampling view.told) (behind_ends view.rest parent view.behind) one in
    let bad = c.in_err-sampling.ensures.only sampling (state_same c.digits.result.0.now view.state sampling same.0 view.told) in
    cc
