use Rattle.std.proofs.Common.{subst, ℕ, List}
use Rattle.span_io.proofs.GatheringLaws.{judged_end, refused_end}
use Rattle.span_io.specs.Tables.{givens}
use Rattle.thrift_core.specs.Messages.{FieldItem, structs, whole_struct}
use Rattle.thrift_core.specs.private.StandingFields.{AreFields}
use Rattle.thrift_core.proofs.StructLaws.{struct_laws}
use Rattle.thrift_core.specs.Trees.{Fields}
use Rattle.jaeger_model.specs.declared.span.JSpan.{JSpan}
use Rattle.jaeger_model.specs.Span.{jspan_table, jspan_ends, jspan_rules}
use Rattle.jaeger_model.specs.private.SpanSoFar.{GatheredJSpan, IsReadJSpan}
use Rattle.jaeger_model.proofs.SpanTable.{span_laws}
use Rattle.jaeger_model.proofs.reading.span.read_span.Goals as goal

pub read_rows-requires-clause-none : goal.read_rows-requires-clause-none
read_rows-requires-clause-none g c = c.none.ensures c.args.left

pub read_rows-requires-clause-lawful : goal.read_rows-requires-clause-lawful
read_rows-requires-clause-lawful g c = span_laws g.P.Parts.spells (λ (m : ℕ). struct_laws g.P.Parts.spells _ _ _ g.met.P.Parts.reads_exactly g.met.P.Parts.part_laws m) c.args.left

pub returns-clause-value : goal.returns-clause-value
returns-clause-value g c = λ text tail fields e h.
    let all = c.in_ok-rows.ensures.all text tail fields e h in
    (all.0, subst (λ (f : Fields). IsReadJSpan c.in_ok-span_of_rows.field-0 f) all.1.are.same (c.in_ok-span_of_rows.ensures.value c.args.left all.1.items all.1.gathered))

pub returns-clause-judged : goal.returns-clause-judged
returns-clause-judged g c = λ text tail fields e h.
    let all = c.in_ok-rows.ensures.all text tail fields e h in
    all.1.fine (c.in_ok-span_of_rows.ensures.ended c.args.left all.1.items all.1.gathered)

pub returns-in_err-span_of_rows-clause-judged : goal.returns-in_err-span_of_rows-clause-judged
returns-in_err-span_of_rows-clause-judged g c = λ text tail fields e h.
    let all = c.in_ok-rows.ensures.all text tail fields e h in
    let answer = c.from_residual-in_err-span_of_rows.result in
    judged_end (structs g.P.Parts.spells c.args.left) (jspan_rules g.P.Parts.spells c.args.left) (AreFields g.P.Parts.spells c.args.left fields) (λ (l : List FieldItem). GatheredJSpan g.P.Parts.spells c.args.left c.in_ok-rows.rows (givens (jspan_table g.P.Parts.spells c.args.left) l))
    (whole_struct text) all.1 JSpan answer
    (refused_end JSpan (λ n. jspan_ends all.1.items n) c.in_err-span_of_rows.field-0.0 (c.in_err-span_of_rows.ensures.ended c.args.left all.1.items all.1.gathered) answer c.from_residual-in_err-span_of_rows.ensures.1)
