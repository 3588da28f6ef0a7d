use Rattle.std.specs.Prelude.{◌++◌, codes}
use Rattle.std.proofs.Common.{ap, ◌∙◌, append_assoc}
use Rattle.loss_report.specs.Lines.{lost_text, place_text}
use Rattle.loss_report.proofs.Growth.{grows_first, grows_second, on_err_from}
use Rattle.loss_report.proofs.losses.loss_line.Goals as goal

pub returns-in_err-append_place-clause-err : goal.returns-in_err-append_place-clause-err
returns-in_err-append_place-clause-err c =
    let old = c.args.out.now in
    let new = c.append_place.new.out in
    let place = place_text c.args.unit c.args.loss.now.place in
    let lost = lost_text c.args.loss.now.row c.args.loss.now.key in
    on_err_from c.from_residual.result (grows_first old new ((place ++ codes ": ") ++ lost) (codes "\n")
    (grows_first old new (place ++ codes ": ") lost (grows_first old new place (codes ": ") c.in_err-append_place.ensures.err)))

pub returns-in_err-append_lost-clause-err : goal.returns-in_err-append_lost-clause-err
returns-in_err-append_lost-clause-err c =
    let old = c.args.out.now in
    let new = c.append_lost.new.out in
    let place = place_text c.args.unit c.args.loss.now.place in
    let lost = lost_text c.args.loss.now.row c.args.loss.now.key in
    on_err_from c.from_residual-in_err-append_lost.result (grows_first old new ((place ++ codes ": ") ++ lost) (codes "\n")
    (grows_second old c.append.new.self new (place ++ codes ": ") lost
    (c.in_ok-append.ensures.ok ∙ ap (λ l. l ++ codes ": ") c.in_ok-append_place.ensures.ok ∙ append_assoc old place (codes ": ")) c.in_err-append_lost.ensures.err))
