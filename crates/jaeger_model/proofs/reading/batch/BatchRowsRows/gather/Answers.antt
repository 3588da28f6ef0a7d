use Rattle.std.proofs.Common.{ℕ, pos, refl, sym, ap, subst, ◌∙◌, ◌-◌, to_z, of_z, w16, w64, rules, Ok, Err}
use Rattle.std.specs.Prelude.{◌⊎◌}
use Rattle.std.proofs.lemmas.Int.{to_z-of_z}
use Rattle.span_io.proofs.GatheringLaws.{judged_at, refused_at}
use Rattle.span_io.specs.Offences.{HereOrInside, Judges}
use Rattle.span_io.specs.RowsSoFar.{Sets}
use Rattle.span_io.specs.private.RowSteps.{JudgesCause}
use Rattle.span_io.specs.Tables.{Twice, givens, table_here, table_inside}
use Rattle.thrift_core.specs.declared.type_code.TypeCode.TheVariants as kinds
use Rattle.thrift_core.specs.Messages.{FieldItem, structs}
use Rattle.thrift_core.proofs.StructLaws.{struct_laws}
use Rattle.jaeger_model.specs.Batch.{batch_table}
use Rattle.jaeger_model.specs.private.BatchSoFar.{GatheredBatch}
use Rattle.jaeger_model.specs.Meanings.{Means}
use Rattle.jaeger_model.specs.Rows.{nothing_wrong}
use Rattle.jaeger_model.proofs.BatchLemmas.{batch_shape, batch_keys, batch_free, its_struct}
use Rattle.jaeger_model.proofs.FieldLemmas.{Unknown, field_of, holds, begins_value, long_there, gathered_more, gathered_free, free_fine, ok_then, unknown_type}
use Rattle.jaeger_model.proofs.LogLemmas.{its_list}
use Rattle.jaeger_model.proofs.SpanTable.{span_laws}
use Rattle.jaeger_model.proofs.reading.batch.BatchRowsRows.gather.Goals.{in_default-via-in-1+in-Truth-1, in_default-via-in-2+in-Truth-1, in_default-via-in-3+in-Truth-1, in_default-via-in-4+in-Truth-1, in_default-via-in_default}
use Rattle.jaeger_model.proofs.reading.batch.BatchRowsRows.gather.Goals as goal

pub returns-in-1-Struct-clause-ok : goal.returns-in-1-Struct-clause-ok
returns-in-1-Struct-clause-ok g c = λ item rest s.
    let id = sym (to_z-of_z w16 c.args.found.id (record { sfits = search rules })) ∙ ap (to_z w16) c.in-1-Struct.is-0 in
    let w = holds g.P.Parts.spells c.args.left c.args.found item c.args.c.now.rest rest s (pos 1) kinds.Struct id c.in-1-Struct.is-1 in
    let value = its_struct g.P.Parts.spells c.args.left c.args.found item c.args.c.now.rest rest s w.held (ap (λ (i : FieldItem). i.tree) w.is) in
    ok_then _ _ c.structure_row.result (λ both. (
      both.0,
      λ first seen gathered.
          gathered_more (structs g.P.Parts.spells c.args.left) 0 (batch_table g.P.Parts.spells c.args.left) (batch_shape g.P.Parts.spells (struct_laws g.P.Parts.spells _ _ _ g.met.P.Parts.reads_exactly g.met.P.Parts.part_laws) c.args.left) (λ given. GatheredBatch g.P.Parts.spells c.args.left (record { process = c.structure_row.new.row; spans = c.args.self.now.spans; sequence = c.args.self.now.sequence; stats = c.args.self.now.stats }) given) seen item (field_of (pos 1) kinds.Struct w.held item.text) w.is
          (record { process = both.1 _ gathered.process; spans = gathered.spans; sequence = gathered.sequence; stats = gathered.stats }),
    )) (c.structure_row.ensures.ok item.text rest w.held s.parts value)

pub returns-in-1-Struct-clause-judged : goal.returns-in-1-Struct-clause-judged
returns-in-1-Struct-clause-judged g c = λ item rest s first seen gathered.
    let id = sym (to_z-of_z w16 c.args.found.id (record { sfits = search rules })) ∙ ap (to_z w16) c.in-1-Struct.is-0 in
    let w = holds g.P.Parts.spells c.args.left c.args.found item c.args.c.now.rest rest s (pos 1) kinds.Struct id c.in-1-Struct.is-1 in
    let value = its_struct g.P.Parts.spells c.args.left c.args.found item c.args.c.now.rest rest s w.held (ap (λ (i : FieldItem). i.tree) w.is) in
    subst (λ (x : FieldItem). Judges c.structure_row.result (HereOrInside (table_here (batch_table g.P.Parts.spells c.args.left) seen x) (table_inside (batch_table g.P.Parts.spells c.args.left) x))) (sym w.is)
    (c.structure_row.ensures.judged item.text rest w.held s.parts value _ gathered.process)

pub returns-in-2-List-clause-ok : goal.returns-in-2-List-clause-ok
returns-in-2-List-clause-ok g c = λ item rest s.
    let id = sym (to_z-of_z w16 c.args.found.id (record { sfits = search rules })) ∙ ap (to_z w16) c.in-2-List.is-0 in
    let w = holds g.P.Parts.spells c.args.left c.args.found item c.args.c.now.rest rest s (pos 2) kinds.List id c.in-2-List.is-1 in
    let value = its_list g.P.Parts.spells c.args.left c.args.found item c.args.c.now.rest rest s w.held (ap (λ (i : FieldItem). i.tree) w.is) in
    ok_then _ _ c.structures_row.result (λ both. (
      both.0,
      λ first seen gathered.
          gathered_more (structs g.P.Parts.spells c.args.left) 0 (batch_table g.P.Parts.spells c.args.left) (batch_shape g.P.Parts.spells (struct_laws g.P.Parts.spells _ _ _ g.met.P.Parts.reads_exactly g.met.P.Parts.part_laws) c.args.left) (λ given. GatheredBatch g.P.Parts.spells c.args.left (record { process = c.args.self.now.process; spans = c.structures_row.new.row; sequence = c.args.self.now.sequence; stats = c.args.self.now.stats }) given) seen item (field_of (pos 2) kinds.List w.held item.text) w.is
          (record { process = gathered.process; spans = both.1 _ gathered.spans; sequence = gathered.sequence; stats = gathered.stats }),
    )) (c.structures_row.ensures.ok item.text rest w.held s.parts value)

pub returns-in-2-List-clause-judged : goal.returns-in-2-List-clause-judged
returns-in-2-List-clause-judged g c = λ item rest s first seen gathered.
    let id = sym (to_z-of_z w16 c.args.found.id (record { sfits = search rules })) ∙ ap (to_z w16) c.in-2-List.is-0 in
    let w = holds g.P.Parts.spells c.args.left c.args.found item c.args.c.now.rest rest s (pos 2) kinds.List id c.in-2-List.is-1 in
    let value = its_list g.P.Parts.spells c.args.left c.args.found item c.args.c.now.rest rest s w.held (ap (λ (i : FieldItem). i.tree) w.is) in
    subst (λ (x : FieldItem). Judges c.structures_row.result (HereOrInside (table_here (batch_table g.P.Parts.spells c.args.left) seen x) (table_inside (batch_table g.P.Parts.spells c.args.left) x))) (sym w.is)
    (c.structures_row.ensures.judged item.text rest w.held s.parts value _ gathered.spans)

pub returns-in_ok-number_row-in-3-I64-clause-ok : goal.returns-in_ok-number_row-in-3-I64-clause-ok
returns-in_ok-number_row-in-3-I64-clause-ok g c = λ item rest s.
    let id = sym (to_z-of_z w16 c.args.found.id (record { sfits = search rules })) ∙ ap (to_z w16) c.in-3-I64.is-0 in
    let w = holds g.P.Parts.spells c.args.left c.args.found item c.args.c.now.rest rest s (pos 3) kinds.I64 id c.in-3-I64.is-1 in
    let t = c.sure_long.ensures.stands w.held rest (long_there g.P.Parts.spells c.args.left c.args.found item c.args.c.now.rest rest w.held w.stands) in
    let sets = c.in_ok-number_row-in-3-I64.ensures.ok in (
      t.1,
      λ first seen gathered.
          gathered_more (structs g.P.Parts.spells c.args.left) 0 (batch_table g.P.Parts.spells c.args.left) (batch_shape g.P.Parts.spells (struct_laws g.P.Parts.spells _ _ _ g.met.P.Parts.reads_exactly g.met.P.Parts.part_laws) c.args.left) (λ given. GatheredBatch g.P.Parts.spells c.args.left (record { process = c.args.self.now.process; spans = c.args.self.now.spans; sequence = c.number_row.new.row; stats = c.args.self.now.stats }) given) seen item (field_of (pos 3) kinds.I64 w.held item.text) w.is
          (record { process = gathered.process; spans = gathered.spans; sequence = subst (λ x. Sets Means x c.args.self.now.sequence c.number_row.new.row) (to_z-of_z w64 c.sure_long.result (record { sfits = search rules }) ∙ t.0) sets _ gathered.sequence; stats = gathered.stats }),
    )

pub returns-in_ok-number_row-in-3-I64-clause-judged : goal.returns-in_ok-number_row-in-3-I64-clause-judged
returns-in_ok-number_row-in-3-I64-clause-judged g c = λ item rest s first seen gathered.
    let id = sym (to_z-of_z w16 c.args.found.id (record { sfits = search rules })) ∙ ap (to_z w16) c.in-3-I64.is-0 in
    let w = holds g.P.Parts.spells c.args.left c.args.found item c.args.c.now.rest rest s (pos 3) kinds.I64 id c.in-3-I64.is-1 in
    let t = c.sure_long.ensures.stands w.held rest (long_there g.P.Parts.spells c.args.left c.args.found item c.args.c.now.rest rest w.held w.stands) in
    judged_at (batch_table g.P.Parts.spells c.args.left) seen item (field_of (pos 3) kinds.I64 w.held item.text) w.is (λ p m h. h) (Ok tt)
    (subst (λ x. JudgesCause {T = Unit} (Ok tt) (λ n. Twice (givens (batch_table g.P.Parts.spells c.args.left) seen).1.1.0 n ⊎ nothing_wrong x n)) (to_z-of_z w64 c.sure_long.result (record { sfits = search rules }) ∙ t.0) (c.in_ok-number_row-in-3-I64.ensures.judged _ gathered.sequence))

pub returns-in_err-number_row-in-3-I64-clause-judged : goal.returns-in_err-number_row-in-3-I64-clause-judged
returns-in_err-number_row-in-3-I64-clause-judged g c = λ item rest s first seen gathered.
    let id = sym (to_z-of_z w16 c.args.found.id (record { sfits = search rules })) ∙ ap (to_z w16) c.in-3-I64.is-0 in
    let w = holds g.P.Parts.spells c.args.left c.args.found item c.args.c.now.rest rest s (pos 3) kinds.I64 id c.in-3-I64.is-1 in
    let t = c.sure_long.ensures.stands w.held rest (long_there g.P.Parts.spells c.args.left c.args.found item c.args.c.now.rest rest w.held w.stands) in
    refused_at (batch_table g.P.Parts.spells c.args.left) seen item (field_of (pos 3) kinds.I64 w.held item.text) w.is (λ p m h. h) c.in_err-number_row-in-3-I64.field-0.0
    (subst (λ x. JudgesCause {T = Unit} (Err c.in_err-number_row-in-3-I64.field-0.0) (λ n. Twice (givens (batch_table g.P.Parts.spells c.args.left) seen).1.1.0 n ⊎ nothing_wrong x n)) (to_z-of_z w64 c.sure_long.result (record { sfits = search rules }) ∙ t.0) (c.in_err-number_row-in-3-I64.ensures.judged _ gathered.sequence)) c.from_residual.result c.from_residual.ensures.1

pub returns-in_ok-passed_row-in-4-Struct-clause-ok : goal.returns-in_ok-passed_row-in-4-Struct-clause-ok
returns-in_ok-passed_row-in-4-Struct-clause-ok g c = λ item rest s.
    let id = sym (to_z-of_z w16 c.args.found.id (record { sfits = search rules })) ∙ ap (to_z w16) c.in-4-Struct.is-0 in
    let w = holds g.P.Parts.spells c.args.left c.args.found item c.args.c.now.rest rest s (pos 4) kinds.Struct id c.in-4-Struct.is-1 in
    let sets = c.in_ok-passed_row-in-4-Struct.ensures.ok w.held in (
      c.pass_over.ensures.stands rest (begins_value g.P.Parts.spells c.args.left c.args.found item c.args.c.now.rest rest s),
      λ first seen gathered.
          gathered_more (structs g.P.Parts.spells c.args.left) 0 (batch_table g.P.Parts.spells c.args.left) (batch_shape g.P.Parts.spells (struct_laws g.P.Parts.spells _ _ _ g.met.P.Parts.reads_exactly g.met.P.Parts.part_laws) c.args.left) (λ given. GatheredBatch g.P.Parts.spells c.args.left (record { process = c.args.self.now.process; spans = c.args.self.now.spans; sequence = c.args.self.now.sequence; stats = c.passed_row.new.row }) given) seen item (field_of (pos 4) kinds.Struct w.held item.text) w.is
          (record { process = gathered.process; spans = gathered.spans; sequence = gathered.sequence; stats = sets _ gathered.stats }),
    )

pub returns-in_ok-passed_row-in-4-Struct-clause-judged : goal.returns-in_ok-passed_row-in-4-Struct-clause-judged
returns-in_ok-passed_row-in-4-Struct-clause-judged g c = λ item rest s first seen gathered.
    let id = sym (to_z-of_z w16 c.args.found.id (record { sfits = search rules })) ∙ ap (to_z w16) c.in-4-Struct.is-0 in
    let w = holds g.P.Parts.spells c.args.left c.args.found item c.args.c.now.rest rest s (pos 4) kinds.Struct id c.in-4-Struct.is-1 in
    judged_at (batch_table g.P.Parts.spells c.args.left) seen item (field_of (pos 4) kinds.Struct w.held item.text) w.is (λ p m h. h) (Ok tt) (c.in_ok-passed_row-in-4-Struct.ensures.judged w.held _ gathered.stats)

pub returns-in_err-passed_row-in-4-Struct-clause-judged : goal.returns-in_err-passed_row-in-4-Struct-clause-judged
returns-in_err-passed_row-in-4-Struct-clause-judged g c = λ item rest s first seen gathered.
    let id = sym (to_z-of_z w16 c.args.found.id (record { sfits = search rules })) ∙ ap (to_z w16) c.in-4-Struct.is-0 in
    let w = holds g.P.Parts.spells c.args.left c.args.found item c.args.c.now.rest rest s (pos 4) kinds.Struct id c.in-4-Struct.is-1 in
    refused_at (batch_table g.P.Parts.spells c.args.left) seen item (field_of (pos 4) kinds.Struct w.held item.text) w.is (λ p m h. h) c.in_err-passed_row-in-4-Struct.field-0.0 (c.in_err-passed_row-in-4-Struct.ensures.judged w.held _ gathered.stats) c.from_residual-in_err-passed_row-in-4-Struct.result c.from_residual-in_err-passed_row-in-4-Struct.ensures.1

pub returns-in_default-clause-ok : goal.returns-in_default-clause-ok
returns-in_default-clause-ok g c = λ item rest s.
    let unknown : Unknown batch_keys (of_z w16 c.args.found.id) c.args.found.kind = elim c.in_default.branch [
      | in_default-via-in-1+in-Truth-1 w ↦ unknown_type batch_keys _ _ 1 kinds.Struct w.in_default.is-0 w.in_default.not-Struct-1 (refl, (tt, (tt, (tt, tt))))
      | in_default-via-in-2+in-Truth-1 w ↦ unknown_type batch_keys _ _ 2 kinds.List w.in_default.is-0 w.in_default.not-List-1 (tt, (refl, (tt, (tt, tt))))
      | in_default-via-in-3+in-Truth-1 w ↦ unknown_type batch_keys _ _ 3 kinds.I64 w.in_default.is-0 w.in_default.not-I64-1 (tt, (tt, (refl, (tt, tt))))
      | in_default-via-in-4+in-Truth-1 w ↦ unknown_type batch_keys _ _ 4 kinds.Struct w.in_default.is-0 w.in_default.not-Struct-1 (tt, (tt, (tt, (refl, tt))))
      | in_default-via-in_default w ↦ (λ at of. w.in_default.is-0.0.0.0.1 at, (λ at of. w.in_default.is-0.0.0.1 at, (λ at of. w.in_default.is-0.0.1 at, (λ at of. w.in_default.is-0.1 at, tt))))
    ] in
    let free = batch_free g.P.Parts.spells c.args.left item c.args.found s.id s.kind unknown in (
      c.pass_over-in_default.ensures.stands rest (begins_value g.P.Parts.spells c.args.left c.args.found item c.args.c.now.rest rest s),
      λ first seen gathered.
          gathered_free (structs g.P.Parts.spells c.args.left) 0 (batch_table g.P.Parts.spells c.args.left) (batch_shape g.P.Parts.spells (struct_laws g.P.Parts.spells _ _ _ g.met.P.Parts.reads_exactly g.met.P.Parts.part_laws) c.args.left) (λ given. GatheredBatch g.P.Parts.spells c.args.left c.args.self.now given) seen item free gathered,
    )

pub returns-in_default-clause-judged : goal.returns-in_default-clause-judged
returns-in_default-clause-judged g c = λ item rest s first seen gathered.
    let unknown : Unknown batch_keys (of_z w16 c.args.found.id) c.args.found.kind = elim c.in_default.branch [
      | in_default-via-in-1+in-Truth-1 w ↦ unknown_type batch_keys _ _ 1 kinds.Struct w.in_default.is-0 w.in_default.not-Struct-1 (refl, (tt, (tt, (tt, tt))))
      | in_default-via-in-2+in-Truth-1 w ↦ unknown_type batch_keys _ _ 2 kinds.List w.in_default.is-0 w.in_default.not-List-1 (tt, (refl, (tt, (tt, tt))))
      | in_default-via-in-3+in-Truth-1 w ↦ unknown_type batch_keys _ _ 3 kinds.I64 w.in_default.is-0 w.in_default.not-I64-1 (tt, (tt, (refl, (tt, tt))))
      | in_default-via-in-4+in-Truth-1 w ↦ unknown_type batch_keys _ _ 4 kinds.Struct w.in_default.is-0 w.in_default.not-Struct-1 (tt, (tt, (tt, (refl, tt))))
      | in_default-via-in_default w ↦ (λ at of. w.in_default.is-0.0.0.0.1 at, (λ at of. w.in_default.is-0.0.0.1 at, (λ at of. w.in_default.is-0.0.1 at, (λ at of. w.in_default.is-0.1 at, tt))))
    ] in
    let free = batch_free g.P.Parts.spells c.args.left item c.args.found s.id s.kind unknown in
    free_fine (batch_table g.P.Parts.spells c.args.left) seen item free

pub structures_row-requires : goal.structures_row-requires
structures_row-requires g c = record { levels = c.requires.levels; lawful = span_laws g.P.Parts.spells (λ (m : ℕ). struct_laws g.P.Parts.spells _ _ _ g.met.P.Parts.reads_exactly g.met.P.Parts.part_laws m) (c.args.left - 2) }
