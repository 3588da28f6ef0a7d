use Rattle.std.proofs.Common.{refl, inl, inr}
use Rattle.std.specs.Prelude.{codes}
use Rattle.propagation.proofs.ReadLemmas.{escaped_value}
use Rattle.propagation.proofs.uber.behind_colon.Goals as goal

pub returns-in-Some-clause-value : goal.returns-in-Some-clause-value
returns-in-Some-clause-value c = (codes ":", inl refl, c.in-Some.ensures.value)

pub returns-in-Some-behind-clause-value : goal.returns-in-Some-behind-clause-value
returns-in-Some-behind-clause-value c = (codes "%3A", inr (inl refl), c.in-Some-behind.ensures.value)

pub returns-clause-value : goal.returns-clause-value
returns-clause-value c = escaped_value c.args.text.now c.behind-3.result c.behind-3.ensures.value
