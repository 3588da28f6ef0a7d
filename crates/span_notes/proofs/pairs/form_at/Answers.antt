use Rattle.std.proofs.Common.{ℕ, List, Some, None, refl, sym, ap, ◌∙◌, arith}
use Rattle.span_notes.specs.Pairs.{texts}
use Rattle.span_notes.proofs.WordLaws.{place_within, word_at}
use Rattle.span_notes.proofs.PairLemmas.{form_stands, no_form}
use Rattle.span_notes.proofs.pairs.form_at.Goals as goal

pub returns-in_err-place : goal.returns-in_err-place
returns-in_err-place c = λ form.
    no_form (texts c.args.words.now) c.args.first c.args.option.now None c.in_err-place.ensures form c.from_residual.result refl c.from_residual.ensures

pub offset_bounds-words-place : goal.offset_bounds-words-place
offset_bounds-words-place c =
    let stands = (c.in_ok-place.ensures c.in_ok-place.place).0 refl in
    let within = place_within c.args.words.now c.args.first c.args.option.now c.in_ok-place.place stands.0 stands.1 in
    omega (arith, within)

pub bounds-words-place : goal.bounds-words-place
bounds-words-place c =
    let stands = (c.in_ok-place.ensures c.in_ok-place.place).0 refl in
    place_within c.args.words.now c.args.first c.args.option.now c.in_ok-place.place stands.0 stands.1

pub returns : goal.returns
returns c = λ form.
    let stands = (c.in_ok-place.ensures c.in_ok-place.place).0 refl in
    let within = place_within c.args.words.now c.args.first c.args.option.now c.in_ok-place.place stands.0 stands.1 in
    let here = word_at c.args.words.now c.in_ok-place.place c.index-words-place.result within c.index-words-place.is in
    form_stands (texts c.args.words.now) c.args.first c.args.option.now (Some c.in_ok-place.place) c.in_ok-place.ensures c.in_ok-place.place c.as_bytes.result.now refl
    (here ∙ ap (λ (w : List ℕ). Some w) (sym c.as_bytes.ensures.value)) form c.of_word.result (c.of_word.ensures form)
