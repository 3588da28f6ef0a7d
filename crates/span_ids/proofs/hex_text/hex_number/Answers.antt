use Rattle.span_ids.proofs.HexLemmas.{cut_in_halves, halves_make, number_below}
use Rattle.span_ids.proofs.hex_text.hex_number.Goals as goal

pub returns-clause-value : goal.returns-clause-value
returns-clause-value c =
    let cut = cut_in_halves c.split_at.result.0.now c.split_at.result.1.now _ _ c.split_at.ensures.front_len c.split_at.ensures.back_len c.saturating_sub.ensures in
    rw (c.from.ensures, c.half_number.ensures.value, c.from-2.ensures, c.half_number-2.ensures.value)
    (halves_make c.args.text.now c.split_at.result.0.now c.split_at.result.1.now c.split_at.ensures.by_index.0 cut)

pub returns-clause-half : goal.returns-clause-half
returns-clause-half c = λ short. rw (returns-clause-value c) (number_below c.args.text.now 16 c.requires.digits short)
