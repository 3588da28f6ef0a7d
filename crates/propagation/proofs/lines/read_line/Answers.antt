use Rattle.std.proofs.Common.{◌++◌, sym, subst, ◌∙◌}
use Rattle.std.specs.Prelude.{All}
use Rattle.propagation.specs.Blocks.{IsValueByte}
use Rattle.propagation.proofs.MemberLemmas.{true_and_false}
use Rattle.propagation.proofs.ReadLemmas.{empty_true}
use Rattle.propagation.proofs.LineLemmas.{told_cut, told_value, named}
use Rattle.propagation.proofs.lines.read_line.Goals as goal
use Rattle.propagation.proofs.lines.read_line.Goals.{then-is_empty-via-then-is_empty, then-is_empty-via-else-is_empty+then-not-are_value_bytes}

pub returns-in_err-rest-clause-only : goal.returns-in_err-rest-clause-only
returns-in_err-rest-clause-only c = λ h before after is.
    let cut = told_cut h before after c.args.line.now is c.name_bytes.result.0.now c.name_bytes.result.1.now c.name_bytes.ensures in
    absurd (c.in_err-rest.ensures.only (before ++ (h.value ++ after)) cut.1)

pub returns-then-is_empty-clause-only : goal.returns-then-is_empty-clause-only
returns-then-is_empty-clause-only c = λ h before after is.
    let cut = told_cut h before after c.args.line.now is c.name_bytes.result.0.now c.name_bytes.result.1.now c.name_bytes.ensures in
    let value = told_value h before after c.args.line.now is c.in_ok-rest.rest.now c.trimmed-value.result.now (c.in_ok-rest.ensures.only (before ++ (h.value ++ after)) cut.1) c.trimmed-value.ensures in
    elim c.then-is_empty.branch [
      | then-is_empty-via-then-is_empty w ↦ named h before after c.args.line.now is (sym cut.0 ∙ empty_true c.name_bytes.result.0.now c.is_empty.result c.is_empty.ensures w.if-is_empty.true)
      | then-is_empty-via-else-is_empty+then-not-are_value_bytes w ↦ true_and_false (w.are_value_bytes.ensures.1 (subst (λ x. All IsValueByte x) (sym value) is.0.0.value)) w.if-not-are_value_bytes.true
    ]

pub returns-clause-only : goal.returns-clause-only
returns-clause-only c = λ h before after is.
    let cut = told_cut h before after c.args.line.now is c.name_bytes.result.0.now c.name_bytes.result.1.now c.name_bytes.ensures in
    (cut.0, told_value h before after c.args.line.now is c.in_ok-rest.rest.now c.trimmed-value.result.now (c.in_ok-rest.ensures.only (before ++ (h.value ++ after)) cut.1) c.trimmed-value.ensures)
