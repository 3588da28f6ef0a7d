use Rattle.std.proofs.Common.{◌++◌, ap, sym, ◌∙◌}
use Rattle.std.proofs.lemmas.List.{append-nil}
use Rattle.trace_model.specs.Remarks.{tags_dropped}
use Rattle.span_tags.specs.TagKeys.{service_key}
use Rattle.span_tags.specs.TagWords.{if_left}
use Rattle.map_zipkin.specs.Keys.{resource_prefix}
use Rattle.map_zipkin.proofs.LeftOut.{joined}
use Rattle.map_zipkin.proofs.NoReserved.{nothing_left}
use Rattle.map_zipkin.proofs.reading.remarks.remark_reserved.Goals as goal

pub returns : goal.returns
returns c =
    let place = c.args.place in
    let new = c.remark_column.new.remarks in
    joined place _ _ c.args.remarks.now c.remark_columns.new.remarks new c.in_ok-remark_columns.ensures
    (joined place _ _ c.remark_columns.new.remarks c.remark_if.new.remarks new
    (c.in_ok-remark_if.ensures ∙ ap (λ b. c.remark_columns.new.remarks ++ tags_dropped place (if_left (resource_prefix ++ service_key) b)) c.is_there.ensures)
    c.in_ok-remark_column.ensures)

pub returns-then-not-may_hold_reserved : goal.returns-then-not-may_hold_reserved
returns-then-not-may_hold_reserved c =
    let remarks = c.args.remarks.now in
    let none = c.may_hold_reserved.ensures c.if-not-may_hold_reserved.true in
    sym (ap (λ l. remarks ++ tags_dropped c.args.place l) (nothing_left c.args.tags.now none) ∙ append-nil remarks)
