use Rattle.std.proofs.Common.{◌≡◌, ◌↔◌, ◌∷◌, [], Some, List, ℕ, sym, ap, ◌∙◌, subst}
use Rattle.span_cli.specs.Commands.{texts, Spells}
use Rattle.span_cli.proofs.CommandLemmas.{five}
use Rattle.span_cli.proofs.command.read_words.Goals as goal

pub returns-in-len5 : goal.returns-in-len5
returns-in-len5 c =
    let words = five c.args.words.now c.mode-item-then-words-lt6.result c.first-item.result c.first_word-item.result c.second-item.result c.second_word-item.result
    c.in-len5.len_at_least c.in-len5.len_below c.mode-item-then-words-lt6.is c.first-item.is c.first_word-item.is c.second-item.is c.second_word-item.is in
    let same : texts c.args.words.now ≡ c.as_bytes-in-len5.result.now ∷ c.as_bytes-in-len5-2.result.now ∷ c.as_bytes-in-len5-3.result.now ∷ c.as_bytes-in-len5-4.result.now ∷ c.as_bytes-in-len5-5.result.now ∷ [] =
    ap texts words ∙ (λ i. sym c.as_bytes-in-len5.ensures.value i ∷ sym c.as_bytes-in-len5-2.ensures.value i ∷ sym c.as_bytes-in-len5-3.ensures.value i ∷ sym c.as_bytes-in-len5-4.ensures.value i ∷ sym c.as_bytes-in-len5-5.ensures.value i ∷ []) in
    λ command. subst (λ (l : List (List ℕ)). (c.command_of.result ≡ Some command) ↔ Spells command l) (sym same) (c.command_of.ensures command)
