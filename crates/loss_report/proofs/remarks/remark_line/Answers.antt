use Rattle.std.specs.Prelude.{◌++◌, codes}
use Rattle.loss_report.specs.Lines.{place_text, remarked}
use Rattle.loss_report.proofs.Growth.{grows_first, on_err_from}
use Rattle.loss_report.proofs.remarks.remark_line.Goals as goal

pub returns-in_err-append_place-clause-err : goal.returns-in_err-append_place-clause-err
returns-in_err-append_place-clause-err c =
    let old = c.args.out.now in
    let new = c.append_place.new.out in
    let place = place_text c.args.unit c.args.remark.now.place in
    let told = remarked c.args.remark.now.kind c.args.remark.now.key in
    on_err_from c.from_residual.result (grows_first old new ((place ++ codes ": ") ++ told) (codes "\n")
    (grows_first old new (place ++ codes ": ") told (grows_first old new place (codes ": ") c.in_err-append_place.ensures.err)))
