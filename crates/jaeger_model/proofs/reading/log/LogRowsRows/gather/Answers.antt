use Rattle.std.proofs.Common.{pos, refl, sym, ap, subst, ◌∙◌, to_z, of_z, w16, w64, rules, Ok, Err}
use Rattle.std.specs.Prelude.{◌⊎◌}
use Rattle.std.proofs.lemmas.Int.{to_z-of_z}
use Rattle.span_io.proofs.GatheringLaws.{judged_at, refused_at}
use Rattle.span_io.specs.Offences.{Judges, HereOrInside}
use Rattle.span_io.specs.RowsSoFar.{Sets}
use Rattle.span_io.specs.private.RowSteps.{JudgesCause}
use Rattle.span_io.specs.Tables.{Twice, givens, table_here, table_inside}
use Rattle.thrift_core.specs.declared.type_code.TypeCode.TheVariants as kinds
use Rattle.thrift_core.specs.Messages.{FieldItem, structs}
use Rattle.thrift_core.proofs.StructLaws.{struct_laws}
use Rattle.jaeger_model.specs.Log.{log_table}
use Rattle.jaeger_model.specs.private.LogSoFar.{GatheredLog}
use Rattle.jaeger_model.specs.Meanings.{MeansTime}
use Rattle.jaeger_model.specs.Rows.{BadTime}
use Rattle.jaeger_model.proofs.FieldLemmas.{Unknown, field_of, holds, begins_value, long_there, gathered_more, gathered_free, free_fine, ok_then, unknown_type}
use Rattle.jaeger_model.proofs.LogLemmas.{log_shape, log_keys, log_free, its_list}
use Rattle.jaeger_model.proofs.reading.log.LogRowsRows.gather.Goals.{in_default-via-in-1+in-Truth-1, in_default-via-in-2+in-Truth-1, in_default-via-in_default}
use Rattle.jaeger_model.proofs.reading.log.LogRowsRows.gather.Goals as goal

pub returns-in_ok-time_row-in-1-I64-clause-ok : goal.returns-in_ok-time_row-in-1-I64-clause-ok
returns-in_ok-time_row-in-1-I64-clause-ok g c = λ item rest s.
    let id = sym (to_z-of_z w16 c.args.found.id (record { sfits = search rules })) ∙ ap (to_z w16) c.in-1-I64.is-0 in
    let w = holds g.P.Parts.spells c.args.left c.args.found item c.args.c.now.rest rest s (pos 1) kinds.I64 id c.in-1-I64.is-1 in
    let t = c.sure_long.ensures.stands w.held rest (long_there g.P.Parts.spells c.args.left c.args.found item c.args.c.now.rest rest w.held w.stands) in
    let sets = c.in_ok-time_row-in-1-I64.ensures.ok in (
      t.1,
      λ first seen gathered.
          gathered_more (structs g.P.Parts.spells c.args.left) 0 (log_table g.P.Parts.spells c.args.left) (log_shape g.P.Parts.spells (struct_laws g.P.Parts.spells _ _ _ g.met.P.Parts.reads_exactly g.met.P.Parts.part_laws) c.args.left) (λ given. GatheredLog g.P.Parts.spells c.args.left (record { time = c.time_row.new.row; fields = c.args.self.now.fields }) given) seen item (field_of (pos 1) kinds.I64 w.held item.text) w.is
          (record { time = subst (λ x. Sets MeansTime x c.args.self.now.time c.time_row.new.row) (to_z-of_z w64 c.sure_long.result (record { sfits = search rules }) ∙ t.0) sets _ gathered.time; fields = gathered.fields }),
    )

pub returns-in_ok-time_row-in-1-I64-clause-judged : goal.returns-in_ok-time_row-in-1-I64-clause-judged
returns-in_ok-time_row-in-1-I64-clause-judged g c = λ item rest s first seen gathered.
    let id = sym (to_z-of_z w16 c.args.found.id (record { sfits = search rules })) ∙ ap (to_z w16) c.in-1-I64.is-0 in
    let w = holds g.P.Parts.spells c.args.left c.args.found item c.args.c.now.rest rest s (pos 1) kinds.I64 id c.in-1-I64.is-1 in
    let t = c.sure_long.ensures.stands w.held rest (long_there g.P.Parts.spells c.args.left c.args.found item c.args.c.now.rest rest w.held w.stands) in
    judged_at (log_table g.P.Parts.spells c.args.left) seen item (field_of (pos 1) kinds.I64 w.held item.text) w.is (λ p m h. h) (Ok tt)
    (subst (λ x. JudgesCause {T = Unit} (Ok tt) (λ n. Twice (givens (log_table g.P.Parts.spells c.args.left) seen).0 n ⊎ BadTime x n)) (to_z-of_z w64 c.sure_long.result (record { sfits = search rules }) ∙ t.0) (c.in_ok-time_row-in-1-I64.ensures.judged _ gathered.time))

pub returns-in_err-time_row-in-1-I64-clause-judged : goal.returns-in_err-time_row-in-1-I64-clause-judged
returns-in_err-time_row-in-1-I64-clause-judged g c = λ item rest s first seen gathered.
    let id = sym (to_z-of_z w16 c.args.found.id (record { sfits = search rules })) ∙ ap (to_z w16) c.in-1-I64.is-0 in
    let w = holds g.P.Parts.spells c.args.left c.args.found item c.args.c.now.rest rest s (pos 1) kinds.I64 id c.in-1-I64.is-1 in
    let t = c.sure_long.ensures.stands w.held rest (long_there g.P.Parts.spells c.args.left c.args.found item c.args.c.now.rest rest w.held w.stands) in
    refused_at (log_table g.P.Parts.spells c.args.left) seen item (field_of (pos 1) kinds.I64 w.held item.text) w.is (λ p m h. h) c.in_err-time_row-in-1-I64.field-0.0
    (subst (λ x. JudgesCause {T = Unit} (Err c.in_err-time_row-in-1-I64.field-0.0) (λ n. Twice (givens (log_table g.P.Parts.spells c.args.left) seen).0 n ⊎ BadTime x n)) (to_z-of_z w64 c.sure_long.result (record { sfits = search rules }) ∙ t.0) (c.in_err-time_row-in-1-I64.ensures.judged _ gathered.time)) c.from_residual.result c.from_residual.ensures.1

pub returns-in-2-List-clause-ok : goal.returns-in-2-List-clause-ok
returns-in-2-List-clause-ok g c = λ item rest s.
    let id = sym (to_z-of_z w16 c.args.found.id (record { sfits = search rules })) ∙ ap (to_z w16) c.in-2-List.is-0 in
    let w = holds g.P.Parts.spells c.args.left c.args.found item c.args.c.now.rest rest s (pos 2) kinds.List id c.in-2-List.is-1 in
    let value = its_list g.P.Parts.spells c.args.left c.args.found item c.args.c.now.rest rest s w.held (ap (λ (i : FieldItem). i.tree) w.is) in
    ok_then _ _ c.structures_row.result (λ both. (
      both.0,
      λ first seen gathered.
          gathered_more (structs g.P.Parts.spells c.args.left) 0 (log_table g.P.Parts.spells c.args.left) (log_shape g.P.Parts.spells (struct_laws g.P.Parts.spells _ _ _ g.met.P.Parts.reads_exactly g.met.P.Parts.part_laws) c.args.left) (λ given. GatheredLog g.P.Parts.spells c.args.left (record { time = c.args.self.now.time; fields = c.structures_row.new.row }) given) seen item (field_of (pos 2) kinds.List w.held item.text) w.is
          (record { time = gathered.time; fields = both.1 _ gathered.fields }),
    )) (c.structures_row.ensures.ok item.text rest w.held s.parts value)

pub returns-in-2-List-clause-judged : goal.returns-in-2-List-clause-judged
returns-in-2-List-clause-judged g c = λ item rest s first seen gathered.
    let id = sym (to_z-of_z w16 c.args.found.id (record { sfits = search rules })) ∙ ap (to_z w16) c.in-2-List.is-0 in
    let w = holds g.P.Parts.spells c.args.left c.args.found item c.args.c.now.rest rest s (pos 2) kinds.List id c.in-2-List.is-1 in
    let value = its_list g.P.Parts.spells c.args.left c.args.found item c.args.c.now.rest rest s w.held (ap (λ (i : FieldItem). i.tree) w.is) in
    subst (λ (x : FieldItem). Judges c.structures_row.result (HereOrInside (table_here (log_table g.P.Parts.spells c.args.left) seen x) (table_inside (log_table g.P.Parts.spells c.args.left) x))) (sym w.is)
    (c.structures_row.ensures.judged item.text rest w.held s.parts value (givens (log_table g.P.Parts.spells c.args.left) seen).1.0 gathered.fields)

pub returns-in_default-clause-ok : goal.returns-in_default-clause-ok
returns-in_default-clause-ok g c = λ item rest s.
    let unknown : Unknown log_keys (of_z w16 c.args.found.id) c.args.found.kind = elim c.in_default.branch [
      | in_default-via-in-1+in-Truth-1 w ↦ unknown_type log_keys _ _ 1 kinds.I64 w.in_default.is-0 w.in_default.not-I64-1 (refl, (tt, tt))
      | in_default-via-in-2+in-Truth-1 w ↦ unknown_type log_keys _ _ 2 kinds.List w.in_default.is-0 w.in_default.not-List-1 (tt, (refl, tt))
      | in_default-via-in_default w ↦ (λ at of. w.in_default.is-0.0.1 at, (λ at of. w.in_default.is-0.1 at, tt))
    ] in
    let free = log_free g.P.Parts.spells c.args.left item c.args.found s.id s.kind unknown in (
      c.pass_over.ensures.stands rest (begins_value g.P.Parts.spells c.args.left c.args.found item c.args.c.now.rest rest s),
      λ first seen gathered. gathered_free (structs g.P.Parts.spells c.args.left) 0 (log_table g.P.Parts.spells c.args.left) (log_shape g.P.Parts.spells (struct_laws g.P.Parts.spells _ _ _ g.met.P.Parts.reads_exactly g.met.P.Parts.part_laws) c.args.left) (λ given. GatheredLog g.P.Parts.spells c.args.left c.args.self.now given) seen item free gathered,
    )

pub returns-in_default-clause-judged : goal.returns-in_default-clause-judged
returns-in_default-clause-judged g c = λ item rest s first seen gathered.
    let unknown : Unknown log_keys (of_z w16 c.args.found.id) c.args.found.kind = elim c.in_default.branch [
      | in_default-via-in-1+in-Truth-1 w ↦ unknown_type log_keys _ _ 1 kinds.I64 w.in_default.is-0 w.in_default.not-I64-1 (refl, (tt, tt))
      | in_default-via-in-2+in-Truth-1 w ↦ unknown_type log_keys _ _ 2 kinds.List w.in_default.is-0 w.in_default.not-List-1 (tt, (refl, tt))
      | in_default-via-in_default w ↦ (λ at of. w.in_default.is-0.0.1 at, (λ at of. w.in_default.is-0.1 at, tt))
    ] in
    let free = log_free g.P.Parts.spells c.args.left item c.args.found s.id s.kind unknown in
    free_fine (log_table g.P.Parts.spells c.args.left) seen item free
