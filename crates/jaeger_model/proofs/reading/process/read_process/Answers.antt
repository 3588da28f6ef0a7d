use Rattle.std.proofs.Common.{subst, ℕ, List}
use Rattle.span_io.proofs.GatheringLaws.{judged_end, refused_end}
use Rattle.span_io.specs.Tables.{givens}
use Rattle.thrift_core.specs.Messages.{FieldItem, structs, whole_struct}
use Rattle.thrift_core.specs.private.StandingFields.{AreFields}
use Rattle.thrift_core.proofs.StructLaws.{struct_laws}
use Rattle.thrift_core.specs.Trees.{Fields}
use Rattle.jaeger_model.specs.Process.{IsProcess, process_table, process_ends, process_rules}
use Rattle.jaeger_model.specs.declared.process.Process.{Process}
use Rattle.jaeger_model.specs.private.ProcessSoFar.{GatheredProcess}
use Rattle.jaeger_model.proofs.LogLemmas.{process_laws}
use Rattle.jaeger_model.proofs.reading.process.read_process.Goals as goal

pub returns-clause-value : goal.returns-clause-value
returns-clause-value g c = λ text tail fields e h.
    let all = c.in_ok-rows.ensures.all text tail fields e h in
    (all.0, subst (λ (f : Fields). IsProcess c.in_ok-process_of.field-0 f) all.1.are.same (c.in_ok-process_of.ensures.value c.args.left all.1.items all.1.gathered))

pub returns-clause-judged : goal.returns-clause-judged
returns-clause-judged g c = λ text tail fields e h.
    let all = c.in_ok-rows.ensures.all text tail fields e h in
    all.1.fine (c.in_ok-process_of.ensures.ended c.args.left all.1.items all.1.gathered)

pub read_rows-requires-clause-none : goal.read_rows-requires-clause-none
read_rows-requires-clause-none g c = c.none.ensures c.args.left

pub read_rows-requires-clause-lawful : goal.read_rows-requires-clause-lawful
read_rows-requires-clause-lawful g c = process_laws g.P.Parts.spells (λ (m : ℕ). struct_laws g.P.Parts.spells _ _ _ g.met.P.Parts.reads_exactly g.met.P.Parts.part_laws m) c.args.left

pub returns-in_err-process_of-clause-judged : goal.returns-in_err-process_of-clause-judged
returns-in_err-process_of-clause-judged g c = λ text tail fields e h.
    let all = c.in_ok-rows.ensures.all text tail fields e h in
    let answer = c.from_residual-in_err-process_of.result in
    judged_end (structs g.P.Parts.spells c.args.left) (process_rules g.P.Parts.spells c.args.left) (AreFields g.P.Parts.spells c.args.left fields) (λ (l : List FieldItem). GatheredProcess g.P.Parts.spells c.args.left c.in_ok-rows.rows (givens (process_table g.P.Parts.spells c.args.left) l))
    (whole_struct text) all.1 Process answer
    (refused_end Process (λ n. process_ends all.1.items n) c.in_err-process_of.field-0.0 (c.in_err-process_of.ensures.ended c.args.left all.1.items all.1.gathered) answer c.from_residual-in_err-process_of.ensures.1)
