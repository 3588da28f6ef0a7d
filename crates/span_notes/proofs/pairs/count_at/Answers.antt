use Rattle.std.proofs.Common.{◌≡◌, ℕ, List, Option, Some, None, refl, sym, ap, ◌∙◌, arith}
use Rattle.span_notes.specs.Pairs.{texts}
use Rattle.span_notes.proofs.WordLaws.{place_within, word_at}
use Rattle.span_notes.proofs.PairLemmas.{no_count, tells_count, tells_none}
use Rattle.span_notes.proofs.pairs.count_at.Goals as goal

never : (count : ℕ) → ◌≡◌ {A = Option ℕ} None (Some count) → ⊥
never count e = cc

pub returns-in_err-place : goal.returns-in_err-place
returns-in_err-place c = λ count.
    no_count (texts c.args.words.now) c.args.first c.args.option.now None c.in_err-place.ensures count c.from_residual.result refl c.from_residual.ensures

pub offset_bounds-words-place : goal.offset_bounds-words-place
offset_bounds-words-place c =
    let stands = (c.in_ok-place.ensures c.in_ok-place.place).0 refl in
    let within = place_within c.args.words.now c.args.first c.args.option.now c.in_ok-place.place stands.0 stands.1 in
    omega (arith, within)

pub bounds-words-place : goal.bounds-words-place
bounds-words-place c =
    let stands = (c.in_ok-place.ensures c.in_ok-place.place).0 refl in
    place_within c.args.words.now c.args.first c.args.option.now c.in_ok-place.place stands.0 stands.1

pub returns-in_err-count : goal.returns-in_err-count
returns-in_err-count c = λ count.
    let stands = (c.in_ok-place.ensures c.in_ok-place.place).0 refl in
    let within = place_within c.args.words.now c.args.first c.args.option.now c.in_ok-place.place stands.0 stands.1 in
    let here = word_at c.args.words.now c.in_ok-place.place c.index-words-place.result within c.index-words-place.is in
    tells_none (texts c.args.words.now) c.args.first c.args.option.now (Some c.in_ok-place.place) c.in_ok-place.ensures c.in_ok-place.place c.as_str.result.now refl
    (here ∙ ap (λ (w : List ℕ). Some w) (sym c.as_str.ensures.value)) count c.from_residual-in_err-count.result c.from_residual-in_err-count.ensures
    (λ told some. never count ((c.in_err-count.ensures count).1 told))

pub returns-then-count-eq0 : goal.returns-then-count-eq0
returns-then-count-eq0 c = λ count.
    let stands = (c.in_ok-place.ensures c.in_ok-place.place).0 refl in
    let within = place_within c.args.words.now c.args.first c.args.option.now c.in_ok-place.place stands.0 stands.1 in
    let here = word_at c.args.words.now c.in_ok-place.place c.index-words-place.result within c.index-words-place.is in
    tells_none (texts c.args.words.now) c.args.first c.args.option.now (Some c.in_ok-place.place) c.in_ok-place.ensures c.in_ok-place.place c.as_str.result.now refl
    (here ∙ ap (λ (w : List ℕ). Some w) (sym c.as_str.ensures.value)) count None refl
    (λ told some. let e : ◌≡◌ {A = Option ℕ} (Some c.in_ok-count.count) (Some count) = (c.in_ok-count.ensures count).1 told in
    let same : c.in_ok-count.count ≡ count = cc in absurd (omega (arith, same, some, c.if-count-eq0.true)))

pub returns : goal.returns
returns c = λ count.
    let stands = (c.in_ok-place.ensures c.in_ok-place.place).0 refl in
    let within = place_within c.args.words.now c.args.first c.args.option.now c.in_ok-place.place stands.0 stands.1 in
    let here = word_at c.args.words.now c.in_ok-place.place c.index-words-place.result within c.index-words-place.is in
    tells_count (texts c.args.words.now) c.args.first c.args.option.now (Some c.in_ok-place.place) c.in_ok-place.ensures c.in_ok-place.place c.as_str.result.now refl
    (here ∙ ap (λ (w : List ℕ). Some w) (sym c.as_str.ensures.value)) c.in_ok-count.count count ((c.in_ok-count.ensures c.in_ok-count.count).0 refl) (omega (arith, c.if-count-eq0.false))
