use Rattle.std.proofs.Common.{◌≡◌, ◌++◌, ap, ◌∙◌, arith}
use Rattle.std.proofs.lemmas.Result.{on_ok_weaker}
use Rattle.otlp_proto.proofs.Growth.{closes_filled}
use Rattle.otlp_proto.proofs.writing.enclosed.close_filled.Goals as goal

pub returns-in-Ok-clause-ok : goal.returns-in-Ok-clause-ok
returns-in-Ok-clause-ok c before begun held begins opening written =
    let whole : c.args.out.now ≡ begun ++ held = rw c.in-Ok.is at written in
    on_ok_weaker c.close_record.result (closes_filled c.args.number c.args.begins c.args.out.now c.close_record.new.out before begun held begins opening whole (omega arith))
    (c.close_record.ensures.ok before held begins (whole ∙ ap (λ l. l ++ held) opening))
