use Rattle.std.proofs.Common.{rules, ◌≡◌, ℕ, List, Err, sym, subst}
use Rattle.span_convert.specs.Reports.{written_target}
use Rattle.span_convert.specs.Units.{document_input}
use Rattle.span_convert.specs.private.WalkSteps.{EndsWalk}
use Rattle.span_convert.proofs.DocumentWalks.{taken_itself}
use Rattle.span_convert.proofs.document.walk_document.Goals as goal

pub returns-in_err-units-clause-walk : goal.returns-in_err-units-clause-walk
returns-in_err-units-clause-walk g c = λ what limits bytes said taken.
    let stopped : c.from_residual.result ≡ Err c.in_err-units.field-0.0 = search rules in
    subst (λ (l : List ℕ). EndsWalk (document_input g.R.DocumentReader.form) (written_target what) limits l c.from_residual.result said (g.K.Sink.outlet c.args.out.now) (g.K.Sink.outlet c.args.out.now)) taken.held_is
    (subst (λ r. EndsWalk (document_input g.R.DocumentReader.form) (written_target what) limits c.args.held.now r said (g.K.Sink.outlet c.args.out.now) (g.K.Sink.outlet c.args.out.now)) (sym stopped)
    (c.in_err-units.ensures.stop what limits said c.args.progress.now (g.K.Sink.outlet c.args.out.now) (taken_itself what limits bytes said _ c.args.progress.now taken)))

pub returns-clause-walk : goal.returns-clause-walk
returns-clause-walk g c = λ what limits bytes said taken.
    let itself = taken_itself what limits bytes said _ c.args.progress.now taken in
    subst (λ (l : List ℕ). EndsWalk (document_input g.R.DocumentReader.form) (written_target what) limits l c.write_groups.result said (g.K.Sink.outlet c.args.out.now) (g.K.Sink.outlet c.write_groups.new.out)) taken.held_is
    (c.write_groups.ensures.walk what limits c.args.held.now said itself (record { within = itself.within; text = c.in_ok-units.ensures.whole }))
