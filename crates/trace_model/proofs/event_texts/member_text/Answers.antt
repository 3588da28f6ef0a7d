use Rattle.std.proofs.Common.{◌≡◌, ℕ, List, [], ◌∷◌, ◌++◌, sym, ap, ◌∙◌}
use Rattle.std.proofs.lemmas.Result.{MatchResult-weaker}
use Rattle.json.specs.Print.{print, quoted}
use Rattle.json.specs.Token.{Token, key}
use Rattle.trace_model.specs.private.WrittenTokens.{tokens_of, map_tokens}
use Rattle.trace_model.proofs.EventLemmas.{member_print}
use Rattle.trace_model.proofs.TokenRows.{map_of_pairs}
use Rattle.trace_model.proofs.event_texts.member_text.Goals as goal

pub returns : goal.returns
unfolding tokens_of
returns c =
    let name = c.args.name.now in
    let attributes = c.args.attributes.now in
    let before : c.write_map.new.out.before ≡ [] = c.in_ok-write_map.ensures.before ∙ c.key.ensures.room.0 ∙ c.new-out.ensures.before ∙ c.in_ok-with_capacity.ensures.items in
    let front : c.key.new.self.tokens ≡ key name ∷ [] =
    c.in_ok-key.ensures.ok ∙ ap (λ (l : List Token). l ++ key c.as_str.result.now ∷ []) c.new-out.ensures.tokens ∙ ap (λ n. key n ∷ []) c.as_str.ensures.value in
    let tokens : c.write_map.new.out.tokens ≡ key name ∷ map_tokens attributes =
    c.in_ok-write_map.ensures.tokens ∙ ap (λ (l : List Token). l ++ map_tokens c.as_slice.result.now) front ∙ ap (λ l. key name ∷ map_tokens l) c.as_slice.ensures in
    MatchResult-weaker c.from_string.result c.from_string.ensures (λ text held. held ∙ ap (λ v. v.items) c.in-Ok.ensures.ok ∙ c.into_inner.ensures.items
    ∙ ap (λ (l : List ℕ). l ++ print c.write_map.new.out.tokens) before ∙ ap print tokens ∙ member_print name (map_tokens attributes)
    ∙ ap (λ ts. quoted name ++ 58 ∷ print ts) (sym (map_of_pairs attributes))) (λ wanted long. tt)
