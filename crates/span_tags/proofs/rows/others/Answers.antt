use Rattle.std.proofs.Common.{rules, ap, ◌∙◌}
use Rattle.std.proofs.lemmas.Fn.{filter_same}
use Rattle.span_tags.specs.TagWords.{without}
use Rattle.span_tags.proofs.rows.others.Goals as goal

pub returns : goal.returns
returns c = c.from_vec.ensures ∙ (filter_same _ _ _ (λ x b f' k. search rules) _ _ c.retain.ensures.filtered ∙ ap (without c.args.key.now) c.into_vec-pairs.ensures.items)
