use Rattle.std.proofs.Common.{sym, subst, ◌∙◌}
use Rattle.http_conn.specs.Fields.{values}
use Rattle.http_conn.specs.private.FoundFields.{HoldsOnce}
use Rattle.http_conn.proofs.FieldLemmas.{named_more, other_more}
use Rattle.http_conn.proofs.fields.Once.noted.Goals as goal

pub returns-then-same_word : goal.returns-then-same_word
returns-then-same_word c = λ lines held.
    subst (λ s. HoldsOnce c.and.result s) (sym (named_more c.args.wanted.now c.args.name.now c.args.value.now lines (sym c.if-same_word.true ∙ c.same_word.ensures)))
    (c.and.ensures (values c.args.wanted.now lines) held)

pub returns-else-same_word : goal.returns-else-same_word
returns-else-same_word c = λ lines held.
    subst (λ s. HoldsOnce c.args.self s) (sym (other_more c.args.wanted.now c.args.name.now c.args.value.now lines (sym c.if-same_word.false ∙ c.same_word.ensures))) held
