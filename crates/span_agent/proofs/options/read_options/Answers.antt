use Rattle.std.proofs.Common.{refl, sym, ◌∙◌}
use Rattle.span_notes.specs.Pairs.{texts}
use Rattle.span_notes.proofs.WordLaws.{same_number}
use Rattle.span_agent.proofs.WordLemmas.{all_spelled, never_form, never_place, none_spelled}
use Rattle.span_agent.proofs.options.read_options.Goals as goal

pub returns-then-words-ne6 : goal.returns-then-words-ne6
returns-then-words-ne6 c = λ options.
    none_spelled _ options (texts c.args.words.now) refl (λ s. c.if-words-ne6.true (sym (same_number c.args.words.now) ∙ s.number))

pub returns-in_err-address : goal.returns-in_err-address
returns-in_err-address c = λ options.
    none_spelled c.from_residual.result options (texts c.args.words.now) c.from_residual.ensures (λ s. never_place options.address ((c.in_err-address.ensures options.address).1 s.listen))

pub returns-in_err-to : goal.returns-in_err-to
returns-in_err-to c = λ options.
    none_spelled c.from_residual-in_err-to.result options (texts c.args.words.now) c.from_residual-in_err-to.ensures (λ s. never_form options.to ((c.in_err-to.ensures options.to).1 s.form))

pub returns-in_err-count : goal.returns-in_err-count
returns-in_err-count c = λ options.
    none_spelled c.from_residual-in_err-count.result options (texts c.args.words.now) c.from_residual-in_err-count.ensures
    (λ s. never_place options.count ((c.in_err-count.ensures options.count).1 s.datagrams))

pub returns : goal.returns
returns c =
    all_spelled (texts c.args.words.now) (same_number c.args.words.now ∙ c.if-words-ne6.false) c.in_ok-address.address c.in_ok-to.to c.in_ok-count.count
    c.in_ok-address.ensures c.in_ok-to.ensures c.in_ok-count.ensures
