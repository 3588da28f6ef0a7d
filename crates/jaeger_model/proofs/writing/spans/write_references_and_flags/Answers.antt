use Rattle.std.proofs.Common.{[], ◌∷◌, pos, rules}
use Rattle.thrift_core.specs.Trees.{i32, leaf}
use Rattle.thrift_core.specs.private.WrittenParts.{rows_written}
use Rattle.jaeger_model.specs.Canonical.{reference_rows}
use Rattle.jaeger_model.proofs.Growth.{exits, ended}
use Rattle.jaeger_model.proofs.WrittenLists.{skip_then, list_then, list_cut, all_any}
use Rattle.jaeger_model.proofs.writing.spans.write_references_and_flags.Goals as goal

pub returns-then-len-eq0 : goal.returns-then-len-eq0
unfolding rows_written
returns-then-len-eq0 g c = λ left.
    skip_then g.P.Parts.keeps g.P.Parts.writes (pos 6) reference_rows left (pos 5) c.write_flags.result c.args.span.now.references ((pos 7, leaf (i32 c.args.span.now.flags)) ∷ []) (search rules) _ _
    (ended c.write_flags.result _ _ _ (c.write_flags.ensures left))

pub write_list-requires-clause-writable : goal.write_list-requires-clause-writable
write_list-requires-clause-writable g c = record { sized = c.requires.references; each = all_any c.args.span.now.references }

pub returns-in_err-write_list : goal.returns-in_err-write_list
returns-in_err-write_list g c = λ left.
    exits c.from_residual.result c.in_err-write_list.field-0.0 _ _ _ (search rules)
    (list_cut g.P.Parts.keeps g.P.Parts.writes (pos 6) reference_rows left (pos 5) c.args.span.now.references ((pos 7, leaf (i32 c.args.span.now.flags)) ∷ []) (search rules) _ _ (c.in_err-write_list.ensures left))

pub returns : goal.returns
unfolding rows_written
returns g c = λ left.
    list_then g.P.Parts.keeps g.P.Parts.writes (pos 6) reference_rows left (pos 5) c.write_flags-2.result c.args.span.now.references ((pos 7, leaf (i32 c.args.span.now.flags)) ∷ []) (search rules) _ _ _
    (c.in_ok-write_list.ensures left) (ended c.write_flags-2.result _ _ _ (c.write_flags-2.ensures left))
