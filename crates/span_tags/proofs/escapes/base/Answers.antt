use Rattle.std.proofs.Common.{rules, sym, ◌∙◌, arith}
use Rattle.span_tags.proofs.KeysBehind.{base_of_rest, base_itself, rest_shorter}
use Rattle.span_tags.proofs.escapes.base.Goals as goal

pub copies-preserved : goal.copies-preserved
copies-preserved c = (base_of_rest c.copies.rest.now c.in-Some.behind.now c.in-Some.ensures ∙ c.copies.invariant.0, search rules)

pub copies-smaller : goal.copies-smaller
copies-smaller c = let less = rest_shorter c.copies.rest.now c.in-Some.behind.now c.in-Some.ensures in omega (arith, less)

pub returns : goal.returns
returns c = sym (base_itself c.copies.rest.now c.in_default.ensures) ∙ c.copies.invariant.0
