use Rattle.std.proofs.Common.{pos, rules}
use Rattle.jaeger_model.specs.Canonical.{filled_list, tag_rows, log_rows}
use Rattle.jaeger_model.proofs.Growth.{exits}
use Rattle.jaeger_model.proofs.WrittenLists.{skip_then, list_then, list_cut}
use Rattle.jaeger_model.proofs.writing.spans.write_tags_and_logs.Goals as goal

pub returns-then-len-eq0 : goal.returns-then-len-eq0
returns-then-len-eq0 g c = λ left.
    skip_then g.P.Parts.keeps g.P.Parts.writes (pos 10) tag_rows left (pos 9) c.write_filled_list.result c.args.span.now.tags (filled_list (pos 11) log_rows c.args.span.now.logs) (search rules) _ _ (c.write_filled_list.ensures left)

pub returns-in_err-write_list : goal.returns-in_err-write_list
returns-in_err-write_list g c = λ left.
    exits c.from_residual.result c.in_err-write_list.field-0.0 _ _ _ (search rules)
    (list_cut g.P.Parts.keeps g.P.Parts.writes (pos 10) tag_rows left (pos 9) c.args.span.now.tags (filled_list (pos 11) log_rows c.args.span.now.logs) (search rules) _ _ (c.in_err-write_list.ensures left))

pub returns : goal.returns
returns g c = λ left.
    list_then g.P.Parts.keeps g.P.Parts.writes (pos 10) tag_rows left (pos 9) c.write_filled_list-2.result c.args.span.now.tags (filled_list (pos 11) log_rows c.args.span.now.logs) (search rules) _ _ _
    (c.in_ok-write_list.ensures left) (c.write_filled_list-2.ensures left)
