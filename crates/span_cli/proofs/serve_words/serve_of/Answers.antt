use Rattle.std.proofs.Common.{◌≡◌, Bool, true, false, refl, sym, ◌∙◌}
use Rattle.span_notes.proofs.WordLaws.{same_number}
use Rattle.span_cli.specs.Commands.{texts}
use Rattle.span_cli.proofs.ServeWords.{no_count, no_form, no_mode, no_place, serve_spelled}
use Rattle.span_cli.proofs.serve_words.serve_of.Goals as goal

never : ◌≡◌ {A = Bool} true false → ⊥
never e = cc

pub returns-then-not-is_at : goal.returns-then-not-is_at
returns-then-not-is_at c = λ command.
    no_mode (texts c.args.words.now) (same_number c.args.words.now ∙ c.requires) _ refl command (λ is. never (sym ((c.is_at.ensures).1 is) ∙ c.if-not-is_at.true))

pub returns-in_err-address : goal.returns-in_err-address
returns-in_err-address c = λ command.
    no_place (texts c.args.words.now) (same_number c.args.words.now ∙ c.requires) c.from_residual.result c.from_residual.ensures command c.in_err-address.ensures

pub returns-in_err-to : goal.returns-in_err-to
returns-in_err-to c = λ command.
    no_form (texts c.args.words.now) (same_number c.args.words.now ∙ c.requires) c.from_residual-in_err-to.result c.from_residual-in_err-to.ensures command c.in_err-to.ensures

pub returns-in_err-count : goal.returns-in_err-count
returns-in_err-count c = λ command.
    no_count (texts c.args.words.now) (same_number c.args.words.now ∙ c.requires) c.from_residual-in_err-count.result c.from_residual-in_err-count.ensures command
    c.in_err-count.ensures

pub returns : goal.returns
returns c =
    serve_spelled (texts c.args.words.now) (same_number c.args.words.now ∙ c.requires) ((c.is_at.ensures).0 c.if-not-is_at.false) c.in_ok-address.address c.in_ok-to.to
    c.in_ok-count.count c.in_ok-address.ensures c.in_ok-to.ensures c.in_ok-count.ensures
