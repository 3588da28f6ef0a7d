use Rattle.std.proofs.Common.{rules}
use Rattle.span_io.proofs.PathLaws.{exits}
use Rattle.otlp_json.proofs.ListLemmas.{rows_begin, row_fits, row_halts, row_added, rows_end}
use Rattle.otlp_json.proofs.reading.lists.read_rows.Goals as goal

pub elements-init : goal.elements-init
elements-init g c =
    rows_begin g.R.Rows.means (g.R.Rows.told c.args.number) g.R.Rows.offends (g.R.Rows.first c.args.number) _ _ _
    (c.in_ok-rows.ensures.none c.args.number) (c.in_ok-rows.ensures.begins c.args.number)

pub returns-in_err-add-clause-judged : goal.returns-in_err-add-clause-judged
returns-in_err-add-clause-judged g c =
    exits c.in_err-add.field-0.0 _ _ (search rules)
    (row_halts g.R.Rows.means (g.R.Rows.told c.args.number) g.R.Rows.offends (g.R.Rows.first c.args.number) _ _ _ _ _ _
    c.in-Some.ensures c.elements.invariant c.in_err-add.field-0.0 c.in_err-add.ensures.judged)

pub elements-preserved : goal.elements-preserved
elements-preserved g c =
    row_added g.R.Rows.means (g.R.Rows.told c.args.number) g.R.Rows.offends (g.R.Rows.first c.args.number) _ _ _ _ _ _
    c.in-Some.ensures c.elements.invariant _ _ c.in_ok-add.ensures.ok c.in_ok-add.ensures.grown c.in_ok-add.ensures.judged

pub add-requires : goal.add-requires
add-requires g c = record {
  counted = row_fits g.R.Rows.means (g.R.Rows.told c.args.number) g.R.Rows.offends (g.R.Rows.first c.args.number) _ _ _ _ _ _
      c.in-Some.ensures c.elements.invariant c.requires.counted;
}

pub returns-clause-value : goal.returns-clause-value
returns-clause-value g c =
    (rows_end g.R.Rows.means (g.R.Rows.told c.args.number) g.R.Rows.offends (g.R.Rows.first c.args.number) _ _ _ _
    c.in_default.ensures c.elements.invariant).read

pub returns-clause-judged : goal.returns-clause-judged
returns-clause-judged g c =
    (rows_end g.R.Rows.means (g.R.Rows.told c.args.number) g.R.Rows.offends (g.R.Rows.first c.args.number) _ _ _ _
    c.in_default.ensures c.elements.invariant).clean
