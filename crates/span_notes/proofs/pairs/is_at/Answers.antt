use Rattle.std.proofs.Common.{ℕ, List, Some, sym, ap, ◌∙◌}
use Rattle.std.proofs.lemmas.Slice.Eq.{bytes_eq-Decides}
use Rattle.span_notes.proofs.WordLaws.{one_word, word_at}
use Rattle.span_notes.proofs.pairs.is_at.Goals as goal

pub returns : goal.returns
returns c =
    let here = word_at c.args.words.now c.args.place c.index-words-place.result c.requires c.index-words-place.is in
    let same = bytes_eq-Decides c.as_bytes.result.now c.args.word.now in
    let value = c.as_bytes.ensures.value in (
      λ is. here ∙ ap (λ (w : List ℕ). Some w) (sym value ∙ same.0 (sym c.eq.ensures ∙ is)),
      λ is. c.eq.ensures ∙ same.1 (value ∙ one_word _ _ (sym here ∙ is)),
    )
