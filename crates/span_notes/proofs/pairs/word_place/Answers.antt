use Rattle.std.proofs.Common.{◌≡◌, ℕ, ◌+◌, Bool, true, false, Option, sym, subst, ◌∙◌, arith}
use Rattle.span_notes.specs.Pairs.{texts}
use Rattle.span_notes.proofs.WordLaws.{same_number, word_there}
use Rattle.span_notes.proofs.PairLemmas.{FoundSo, found_all, found_first, found_none, found_twice, passed}
use Rattle.span_notes.proofs.pairs.word_place.Goals as goal
use Rattle.span_notes.proofs.pairs.word_place.Goals.{then-is_at+else-is_some, else-is_at}

never : ◌≡◌ {A = Bool} true false → ⊥
never e = cc

pub pairs-init : goal.pairs-init
pairs-init c = record { even = (0, omega arith); inside = omega (arith, c.requires); found = found_none (texts c.args.words.now) c.args.first c.args.option.now }

pub pairs-preserved : goal.pairs-preserved
pairs-preserved c =
    let t = texts c.args.words.now in
    let k = c.pairs.invariant.even.0 in
    let even = c.pairs.invariant.even.1 in
    let behind = word_there t (c.pairs.at + 1) (omega (arith, same_number c.args.words.now, c.pairs-test.true)) in
    record {
      even = (k + 1, omega (arith, even));
      inside = omega (arith, c.pairs-test.true);
      found = elim c.if-is_at.branch as (λ w. FoundSo t c.args.first c.args.option.now (c.pairs.at + 2) c.if-is_at.found) [
        | then-is_at+else-is_some w ↦
            subst (λ (f : Option ℕ). FoundSo t c.args.first c.args.option.now (c.pairs.at + 2) f) (sym w.found-is)
            (found_first t c.args.first c.args.option.now c.pairs.at k even c.pairs.found (sym w.is_some.ensures ∙ w.if-is_some.false) behind.0 ((c.is_at.ensures).0 w.if-is_at.true) behind.1 c.pairs.invariant.found)
        | else-is_at w ↦
            subst (λ (f : Option ℕ). FoundSo t c.args.first c.args.option.now (c.pairs.at + 2) f) (sym w.found-is)
            (passed t c.args.first c.args.option.now c.pairs.at k even c.pairs.found (λ is. never (sym ((c.is_at.ensures).1 is) ∙ w.if-is_at.false)) c.pairs.invariant.found)
      ];
    }

pub returns-then-is_some : goal.returns-then-is_some
returns-then-is_some c =
    let t = texts c.args.words.now in
    let behind = word_there t (c.pairs.at + 1) (omega (arith, same_number c.args.words.now, c.pairs-test.true)) in
    found_twice t c.args.first c.args.option.now c.pairs.at c.pairs.invariant.even.0 c.pairs.invariant.even.1 c.pairs.found (sym c.is_some.ensures ∙ c.if-is_some.true) behind.0
    c.pairs.invariant.found ((c.is_at.ensures).0 c.if-is_at.true) behind.1

pub returns : goal.returns
returns c =
    let t = texts c.args.words.now in
    found_all t c.args.first c.args.option.now c.pairs.at c.pairs.invariant.even.0 c.pairs.invariant.even.1
    (omega (arith, same_number c.args.words.now, c.pairs.invariant.inside, c.pairs-test.false)) c.pairs.found c.pairs.invariant.found
