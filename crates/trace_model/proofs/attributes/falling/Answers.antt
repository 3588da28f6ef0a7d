use Rattle.std.proofs.Common.{rules, length, ap, arith}
use Rattle.std.proofs.lemmas.List.Sorted.{answers_always, length_permutation}
use Rattle.trace_model.specs.private.Gathering.{key_above}
use Rattle.trace_model.proofs.Gathered.{falling_order}
use Rattle.trace_model.proofs.attributes.falling.Goals as goal

pub returns-clause-short : goal.returns-clause-short
returns-clause-short c = omega (arith, length_permutation _ _ c.in_ok-sort_by.ensures.permutation, ap length c.into_vec-pairs.ensures.items, c.into_vec-pairs.ensures.short)

pub returns-clause-sorted : goal.returns-clause-sorted
returns-clause-sorted c = c.in_ok-sort_by.ensures.sorted key_above falling_order (answers_always _ _ _ (λ f a r g called. search rules))

pub returns-clause-stable : goal.returns-clause-stable
returns-clause-stable c = rw c.into_vec-pairs.ensures.items at c.in_ok-sort_by.ensures.stable key_above falling_order (answers_always _ _ _ (λ f a r g called. search rules))
