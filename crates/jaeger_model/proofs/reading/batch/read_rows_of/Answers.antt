use Rattle.std.proofs.Common.{[], ℕ, List, sym, ap, subst, ◌∙◌}
use Rattle.std.proofs.lemmas.List.{append-nil}
use Rattle.std.proofs.lemmas.Result.{err_from_is_err_and}
use Rattle.span_io.specs.Offences.{Offence}
use Rattle.span_io.proofs.GatheringLaws.{judged_end, refused_end}
use Rattle.span_io.specs.Tables.{givens}
use Rattle.span_io.specs.Walks.{Walk}
use Rattle.thrift_core.specs.Messages.{FieldItem, structs, whole_struct}
use Rattle.thrift_core.specs.private.StandingFields.{AreFields}
use Rattle.thrift_core.proofs.StructLaws.{struct_laws}
use Rattle.thrift_core.specs.Trees.{Fields, outer_levels}
use Rattle.jaeger_model.specs.declared.batch.Batch.{Batch}
use Rattle.jaeger_model.specs.declared.reading.batch.BatchRows.{BatchRows}
use Rattle.jaeger_model.specs.Batch.{IsBatch, batch_table, batch_ends, batch_rules}
use Rattle.jaeger_model.specs.private.BatchSoFar.{GatheredBatch}
use Rattle.jaeger_model.proofs.BatchLemmas.{batch_laws, halt_judged}
use Rattle.jaeger_model.proofs.reading.batch.read_rows_of.Goals as goal

pub read_rows-requires-clause-none : goal.read_rows-requires-clause-none
read_rows-requires-clause-none g c = c.none.ensures outer_levels

pub read_rows-requires-clause-lawful : goal.read_rows-requires-clause-lawful
read_rows-requires-clause-lawful g c = batch_laws g.P.Parts.spells (λ (m : ℕ). struct_laws g.P.Parts.spells _ _ _ g.met.P.Parts.reads_exactly g.met.P.Parts.part_laws m) outer_levels

pub returns-clause-value : goal.returns-clause-value
returns-clause-value g c =
    let whole = ap (λ (w : Walk). w.rest) c.new-c.ensures ∙ sym (append-nil c.args.unit.now) in
    let all = c.in_ok-rows.ensures.all c.args.unit.now [] c.requires.stands.0 whole c.requires.stands.1 in
    record {
      fields = c.requires.stands.0;
      struct_text = c.requires.stands.1;
      means = subst (λ (f : Fields). IsBatch c.in_ok-batch_of.field-0 f) all.1.are.same (c.in_ok-batch_of.ensures.value outer_levels all.1.items all.1.gathered);
    }

pub returns-clause-counted : goal.returns-clause-counted
returns-clause-counted g c =
    let whole = ap (λ (w : Walk). w.rest) c.new-c.ensures ∙ sym (append-nil c.args.unit.now) in
    let all = c.in_ok-rows.ensures.all c.args.unit.now [] c.requires.stands.0 whole c.requires.stands.1 in
    c.in_ok-batch_of.ensures.counted outer_levels all.1.items all.1.gathered

pub returns-clause-judged : goal.returns-clause-judged
returns-clause-judged g c =
    let whole = ap (λ (w : Walk). w.rest) c.new-c.ensures ∙ sym (append-nil c.args.unit.now) in
    let all = c.in_ok-rows.ensures.all c.args.unit.now [] c.requires.stands.0 whole c.requires.stands.1 in
    all.1.fine (c.in_ok-batch_of.ensures.ended outer_levels all.1.items all.1.gathered)

pub returns-in_err-batch_of-clause-judged : goal.returns-in_err-batch_of-clause-judged
returns-in_err-batch_of-clause-judged g c =
    let whole = ap (λ (w : Walk). w.rest) c.new-c.ensures ∙ sym (append-nil c.args.unit.now) in
    let all = c.in_ok-rows.ensures.all c.args.unit.now [] c.requires.stands.0 whole c.requires.stands.1 in
    let answer = c.from_residual-in_err-batch_of.result in
    judged_end (structs g.P.Parts.spells outer_levels) (batch_rules g.P.Parts.spells outer_levels) (AreFields g.P.Parts.spells outer_levels c.requires.stands.0) (λ (l : List FieldItem). GatheredBatch g.P.Parts.spells outer_levels c.in_ok-rows.rows (givens (batch_table g.P.Parts.spells outer_levels) l))
    (whole_struct c.args.unit.now) all.1 Batch answer
    (refused_end Batch (λ n. batch_ends all.1.items n) c.in_err-batch_of.field-0.0 (c.in_err-batch_of.ensures.ended outer_levels all.1.items all.1.gathered) answer c.from_residual-in_err-batch_of.ensures.1)

pub returns-in_err-rows-clause-judged : goal.returns-in_err-rows-clause-judged
returns-in_err-rows-clause-judged g c =
    let whole = ap (λ (w : Walk). w.rest) c.new-c.ensures ∙ sym (append-nil c.args.unit.now) in
    let p = err_from_is_err_and c.from_residual.result c.from_residual.ensures.1 in
    rw (p.1, p.2) (halt_judged BatchRows Batch (Offence (structs g.P.Parts.spells outer_levels) (batch_rules g.P.Parts.spells outer_levels) (whole_struct c.args.unit.now)) c.in_err-rows.field-0.0 (c.in_err-rows.ensures.halted c.args.unit.now [] c.requires.stands.0 whole c.requires.stands.1))
