use Rattle.std.proofs.Common.{◌≡◌, ℕ, List, [], ◌++◌, ap, ◌∙◌}
use Rattle.std.proofs.lemmas.Result.{MatchResult-weaker}
use Rattle.json.specs.Print.{print}
use Rattle.json.specs.Token.{Token}
use Rattle.trace_model.specs.private.WrittenTokens.{tokens_of}
use Rattle.trace_model.proofs.tokens.json_of_value.Goals as goal

pub returns : goal.returns
unfolding tokens_of
returns c =
    let before : c.write_value.new.out.before ≡ [] = c.in_ok-write_value.ensures.before ∙ c.new-out.ensures.before ∙ c.new.ensures.items in
    let tokens : c.write_value.new.out.tokens ≡ tokens_of c.args.value.now =
    c.in_ok-write_value.ensures.tokens ∙ ap (λ (l : List Token). l ++ tokens_of c.args.value.now) c.new-out.ensures.tokens in
    MatchResult-weaker c.from_string.result c.from_string.ensures (λ text held. held ∙ ap (λ v. v.items) c.in-Ok.ensures.ok ∙ c.into_inner.ensures.items
    ∙ ap (λ (l : List ℕ). l ++ print c.write_value.new.out.tokens) before ∙ ap print tokens) (λ wanted long. tt)
