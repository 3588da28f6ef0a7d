use Rattle.std.proofs.Common.{◌≡◌, [], ◌++◌, sym, ap, ◌∙◌, subst, arith}
use Rattle.std.specs.Prelude.{reverse}
use Rattle.std.proofs.lemmas.Grind.{common_steps}
use Rattle.std.proofs.lemmas.List.{reverse-reverse}
use Rattle.trace_model.specs.Attributes.{Rise, AreAttributes, AreRepeated, keys}
use Rattle.trace_model.proofs.Gathered.{kept_of, repeated_of, attributes_from, repeated_from}
use Rattle.trace_model.proofs.RisingGathered.{all_kept}
use Rattle.trace_model.proofs.attributes.gathered.Goals as goal

-- no key stands twice
pub returns-then-keys_rise-clause-attributes : goal.returns-then-keys_rise-clause-attributes
returns-then-keys_rise-clause-attributes c =
    let falling = c.in_ok-pairs.pairs.items in
    let up : Rise (keys (reverse falling)) = subst (λ l. Rise (keys l)) (c.as_slice.ensures.value ∙ c.reverse.ensures.items) (c.keys_rise.ensures c.if-keys_rise.true) in
    subst (λ kept. AreAttributes kept c.args.list) ((all_kept falling up).0 ∙ sym (c.from_vec.ensures ∙ c.reverse.ensures.items))
    (attributes_from c.args.list falling c.in_ok-pairs.ensures.sorted c.in_ok-pairs.ensures.stable)

pub returns-then-keys_rise-clause-repeated : goal.returns-then-keys_rise-clause-repeated
returns-then-keys_rise-clause-repeated c =
    let falling = c.in_ok-pairs.pairs.items in
    let up : Rise (keys (reverse falling)) = subst (λ l. Rise (keys l)) (c.as_slice.ensures.value ∙ c.reverse.ensures.items) (c.keys_rise.ensures c.if-keys_rise.true) in
    subst (λ repeated. AreRepeated repeated c.args.list) ((all_kept falling up).1 ∙ sym c.new.ensures)
    (repeated_from c.args.list falling c.in_ok-pairs.ensures.sorted c.in_ok-pairs.ensures.stable)

-- some key does
pub returns-clause-attributes : goal.returns-clause-attributes
returns-clause-attributes c =
    let none : c.pairs.pairs.items ≡ [] = grind (arith, common_steps, c.in_default.ensures) in
    let turned : c.reverse-2.new.self.items ≡ c.in_ok-pairs.pairs.items =
    c.reverse-2.ensures.items ∙ ap reverse c.reverse.ensures.items ∙ reverse-reverse c.in_ok-pairs.pairs.items in
    let all : c.in_ok-pairs.pairs.items ≡ c.pairs.invariant.behind = sym turned ∙ c.pairs.invariant.whole ∙ ap (λ l. l ++ c.pairs.invariant.behind) none in
    subst (λ kept. AreAttributes kept c.args.list) (ap kept_of all ∙ sym c.pairs.invariant.pairs)
    (attributes_from c.args.list c.in_ok-pairs.pairs.items c.in_ok-pairs.ensures.sorted c.in_ok-pairs.ensures.stable)

pub returns-clause-repeated : goal.returns-clause-repeated
returns-clause-repeated c =
    let none : c.pairs.pairs.items ≡ [] = grind (arith, common_steps, c.in_default.ensures) in
    let turned : c.reverse-2.new.self.items ≡ c.in_ok-pairs.pairs.items =
    c.reverse-2.ensures.items ∙ ap reverse c.reverse.ensures.items ∙ reverse-reverse c.in_ok-pairs.pairs.items in
    let all : c.in_ok-pairs.pairs.items ≡ c.pairs.invariant.behind = sym turned ∙ c.pairs.invariant.whole ∙ ap (λ l. l ++ c.pairs.invariant.behind) none in
    subst (λ repeated. AreRepeated repeated c.args.list) (ap repeated_of all ∙ sym c.pairs.invariant.twice)
    (repeated_from c.args.list c.in_ok-pairs.pairs.items c.in_ok-pairs.ensures.sorted c.in_ok-pairs.ensures.stable)
