use Rattle.std.proofs.Common.{subst, List, Option}
use Rattle.span_io.proofs.GatheringLaws.{judged_end, refused_end}
use Rattle.span_io.specs.Tables.{givens}
use Rattle.thrift_core.specs.Messages.{FieldItem, structs, whole_struct}
use Rattle.thrift_core.specs.private.StandingFields.{AreFields}
use Rattle.jaeger_model.specs.declared.span.SpanRef.{SpanRef}
use Rattle.jaeger_model.specs.private.ReferenceSoFar.{GatheredReference}
use Rattle.thrift_core.specs.Trees.{Fields}
use Rattle.jaeger_model.specs.Reference.{IsSpanRef, reference_table, reference_ends, reference_rules}
use Rattle.jaeger_model.proofs.reading.reference.read_reference.Goals as goal

pub returns-clause-value : goal.returns-clause-value
returns-clause-value g c = λ text tail fields e h.
    let all = c.in_ok-rows.ensures.all text tail fields e h in
    (all.0, subst (λ (f : Fields). IsSpanRef c.in_ok-reference_of.field-0 f) all.1.are.same (c.in_ok-reference_of.ensures.value all.1.items all.1.gathered))

pub returns-clause-judged : goal.returns-clause-judged
returns-clause-judged g c = λ text tail fields e h.
    let all = c.in_ok-rows.ensures.all text tail fields e h in
    all.1.fine (c.in_ok-reference_of.ensures.ended all.1.items all.1.gathered)

pub returns-in_err-reference_of-clause-judged : goal.returns-in_err-reference_of-clause-judged
returns-in_err-reference_of-clause-judged g c = λ text tail fields e h.
    let all = c.in_ok-rows.ensures.all text tail fields e h in
    let answer = c.from_residual-in_err-reference_of.result in
    judged_end (structs g.P.Parts.spells c.args.left) reference_rules (AreFields g.P.Parts.spells c.args.left fields) (λ (l : List FieldItem). GatheredReference c.in_ok-rows.rows (givens reference_table l))
    (whole_struct text) all.1 (Option SpanRef) answer
    (refused_end (Option SpanRef) (λ n. reference_ends all.1.items n) c.in_err-reference_of.field-0.0 (c.in_err-reference_of.ensures.ended all.1.items all.1.gathered) answer c.from_residual-in_err-reference_of.ensures.1)
