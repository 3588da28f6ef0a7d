use Rattle.std.proofs.Common.{refl, arith}
use Rattle.propagation.proofs.ReadLemmas.{empty_true, empty_false}
use Rattle.propagation.proofs.LineLemmas.{passed, first_told, refused, all_passed}
use Rattle.propagation.proofs.OneBlock.{line_shorter}
use Rattle.propagation.proofs.lines.first_header.Goals as goal

pub lines-preserved : goal.lines-preserved
lines-preserved c = record {
  empty_so_far = passed c.args.text.now c.lines.rest.now c.cut_line.result.0.now c.cut_line.result.1.now c.lines.invariant.empty_so_far c.cut_line.ensures
      (empty_true c.cut_line.result.0.now c.is_empty-in-lines.result c.is_empty-in-lines.ensures c.if-is_empty.true);
  nearer =
      let k = line_shorter c.lines.rest.now c.cut_line.result.0.now c.cut_line.result.1.now c.cut_line.ensures (empty_false c.lines.rest.now c.is_empty.result c.is_empty.ensures c.lines-test.true) in
      omega arith;
}

pub returns-in_default-clause-line : goal.returns-in_default-clause-line
returns-in_default-clause-line c = (
  refl,
  refused c.args.text.now c.lines.rest.now c.cut_line.result.0.now c.cut_line.result.1.now c.lines.invariant.empty_so_far c.cut_line.ensures
      (empty_false c.cut_line.result.0.now c.is_empty-in-lines.result c.is_empty-in-lines.ensures c.if-is_empty.false) c.in_default.ensures.only,
)

pub returns-in-lines-clause-value : goal.returns-in-lines-clause-value
returns-in-lines-clause-value c =
    let told = c.in-Some.ensures.value in
    first_told c.args.text.now c.lines.rest.now c.cut_line.result.0.now c.cut_line.result.1.now c.lines.invariant.empty_so_far c.cut_line.ensures
    (record { name = c.in-Some.name.now; value = c.in-Some.value.now }) told.0 told.1 told.2

pub returns-clause-value : goal.returns-clause-value
returns-clause-value c = all_passed c.args.text.now c.lines.rest.now c.lines.invariant.empty_so_far (empty_true c.lines.rest.now c.is_empty.result c.is_empty.ensures c.lines-test.false)
