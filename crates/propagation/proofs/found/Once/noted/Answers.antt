use Rattle.std.proofs.Common.{sym, subst, ◌∙◌}
use Rattle.propagation.specs.private.FoundHeaders.{HoldsOnce}
use Rattle.propagation.specs.Heads.{header_values}
use Rattle.propagation.proofs.FoundLemmas.{named_more, other_more}
use Rattle.propagation.proofs.found.Once.noted.Goals as goal

pub returns-then-is_name : goal.returns-then-is_name
returns-then-is_name c = λ headers held.
    subst (λ s. HoldsOnce c.and.result s) (sym (named_more c.args.wanted.now c.args.name.now c.args.value.now headers (sym c.if-is_name.true ∙ c.is_name.ensures c.args.value.now)))
    (c.and.ensures (header_values c.args.wanted.now headers) held)

pub returns-else-is_name : goal.returns-else-is_name
returns-else-is_name c = λ headers held.
    subst (λ s. HoldsOnce c.args.self s) (sym (other_more c.args.wanted.now c.args.name.now c.args.value.now headers (sym c.if-is_name.false ∙ c.is_name.ensures c.args.value.now))) held
