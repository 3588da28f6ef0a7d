use Rattle.std.proofs.Common.{pos, refl, sym, ap, subst, ◌∙◌, to_z, of_z, w16, w32, w64, rules, Ok, Err}
use Rattle.std.specs.Prelude.{◌⊎◌}
use Rattle.std.proofs.lemmas.Int.{to_z-of_z}
use Rattle.span_io.proofs.GatheringLaws.{judged_at, refused_at}
use Rattle.span_io.specs.RowsSoFar.{Sets}
use Rattle.span_io.specs.private.RowSteps.{JudgesCause}
use Rattle.span_io.specs.Tables.{Twice, givens}
use Rattle.thrift_core.specs.declared.type_code.TypeCode.TheVariants as kinds
use Rattle.thrift_core.specs.Messages.{structs}
use Rattle.jaeger_model.specs.Meanings.{Means, MeansEnum}
use Rattle.jaeger_model.specs.Rows.{BadEnum}
use Rattle.jaeger_model.specs.Reference.{reference_table, reference_number}
use Rattle.jaeger_model.specs.private.ReferenceSoFar.{GatheredReference}
use Rattle.jaeger_model.proofs.FieldLemmas.{Unknown, field_of, holds, begins_value, int_there, long_there, gathered_more, gathered_free, free_fine, unknown_type}
use Rattle.jaeger_model.proofs.ReferenceLemmas.{reference_shape, reference_keys, reference_free}
use Rattle.jaeger_model.proofs.reading.reference.ReferenceRowsRows.gather.Goals.{in_default-via-in-1+in-Truth-1, in_default-via-in-2+in-Truth-1, in_default-via-in-3+in-Truth-1, in_default-via-in-4+in-Truth-1, in_default-via-in_default}
use Rattle.jaeger_model.proofs.reading.reference.ReferenceRowsRows.gather.Goals as goal

pub returns-in_ok-reference_type_row-in-1-I32-clause-ok : goal.returns-in_ok-reference_type_row-in-1-I32-clause-ok
returns-in_ok-reference_type_row-in-1-I32-clause-ok g c = λ item rest s.
    let id = sym (to_z-of_z w16 c.args.found.id (record { sfits = search rules })) ∙ ap (to_z w16) c.in-1-I32.is-0 in
    let w = holds g.P.Parts.spells c.args.left c.args.found item c.args.c.now.rest rest s (pos 1) kinds.I32 id c.in-1-I32.is-1 in
    let t = c.sure_int.ensures.stands w.held rest (int_there g.P.Parts.spells c.args.left c.args.found item c.args.c.now.rest rest w.held w.stands) in
    let sets = c.in_ok-reference_type_row-in-1-I32.ensures.ok in (
      t.1,
      λ first seen gathered.
          gathered_more (structs g.P.Parts.spells c.args.left) 0 reference_table (reference_shape g.P.Parts.spells c.args.left) (λ given. GatheredReference (record { child_of = c.reference_type_row.new.row; low = c.args.self.now.low; high = c.args.self.now.high; span = c.args.self.now.span }) given) seen item (field_of (pos 1) kinds.I32 w.held item.text) w.is
          (record { child_of = subst (λ x. Sets (MeansEnum reference_number) x c.args.self.now.child_of c.reference_type_row.new.row) (to_z-of_z w32 c.sure_int.result (record { sfits = search rules }) ∙ t.0) sets _ gathered.child_of; low = gathered.low; high = gathered.high; span = gathered.span }),
    )

pub returns-in_ok-reference_type_row-in-1-I32-clause-judged : goal.returns-in_ok-reference_type_row-in-1-I32-clause-judged
returns-in_ok-reference_type_row-in-1-I32-clause-judged g c = λ item rest s first seen gathered.
    let id = sym (to_z-of_z w16 c.args.found.id (record { sfits = search rules })) ∙ ap (to_z w16) c.in-1-I32.is-0 in
    let w = holds g.P.Parts.spells c.args.left c.args.found item c.args.c.now.rest rest s (pos 1) kinds.I32 id c.in-1-I32.is-1 in
    let t = c.sure_int.ensures.stands w.held rest (int_there g.P.Parts.spells c.args.left c.args.found item c.args.c.now.rest rest w.held w.stands) in
    judged_at reference_table seen item (field_of (pos 1) kinds.I32 w.held item.text) w.is (λ p m h. h) (Ok tt)
    (subst (λ x. JudgesCause {T = Unit} (Ok tt) (λ n. Twice (givens reference_table seen).0 n ⊎ BadEnum 1 x n)) (to_z-of_z w32 c.sure_int.result (record { sfits = search rules }) ∙ t.0) (c.in_ok-reference_type_row-in-1-I32.ensures.judged _ gathered.child_of))

pub returns-in_err-reference_type_row-in-1-I32-clause-judged : goal.returns-in_err-reference_type_row-in-1-I32-clause-judged
returns-in_err-reference_type_row-in-1-I32-clause-judged g c = λ item rest s first seen gathered.
    let id = sym (to_z-of_z w16 c.args.found.id (record { sfits = search rules })) ∙ ap (to_z w16) c.in-1-I32.is-0 in
    let w = holds g.P.Parts.spells c.args.left c.args.found item c.args.c.now.rest rest s (pos 1) kinds.I32 id c.in-1-I32.is-1 in
    let t = c.sure_int.ensures.stands w.held rest (int_there g.P.Parts.spells c.args.left c.args.found item c.args.c.now.rest rest w.held w.stands) in
    refused_at reference_table seen item (field_of (pos 1) kinds.I32 w.held item.text) w.is (λ p m h. h) c.in_err-reference_type_row-in-1-I32.field-0.0
    (subst (λ x. JudgesCause {T = Unit} (Err c.in_err-reference_type_row-in-1-I32.field-0.0) (λ n. Twice (givens reference_table seen).0 n ⊎ BadEnum 1 x n)) (to_z-of_z w32 c.sure_int.result (record { sfits = search rules }) ∙ t.0) (c.in_err-reference_type_row-in-1-I32.ensures.judged _ gathered.child_of)) c.from_residual.result c.from_residual.ensures.1

pub returns-in_ok-number_row-in-2-I64-clause-ok : goal.returns-in_ok-number_row-in-2-I64-clause-ok
returns-in_ok-number_row-in-2-I64-clause-ok g c = λ item rest s.
    let id = sym (to_z-of_z w16 c.args.found.id (record { sfits = search rules })) ∙ ap (to_z w16) c.in-2-I64.is-0 in
    let w = holds g.P.Parts.spells c.args.left c.args.found item c.args.c.now.rest rest s (pos 2) kinds.I64 id c.in-2-I64.is-1 in
    let t = c.sure_long.ensures.stands w.held rest (long_there g.P.Parts.spells c.args.left c.args.found item c.args.c.now.rest rest w.held w.stands) in
    let sets = c.in_ok-number_row-in-2-I64.ensures.ok in (
      t.1,
      λ first seen gathered.
          gathered_more (structs g.P.Parts.spells c.args.left) 0 reference_table (reference_shape g.P.Parts.spells c.args.left) (λ given. GatheredReference (record { child_of = c.args.self.now.child_of; low = c.number_row.new.row; high = c.args.self.now.high; span = c.args.self.now.span }) given) seen item (field_of (pos 2) kinds.I64 w.held item.text) w.is
          (record { child_of = gathered.child_of; low = subst (λ x. Sets Means x c.args.self.now.low c.number_row.new.row) (to_z-of_z w64 c.sure_long.result (record { sfits = search rules }) ∙ t.0) sets _ gathered.low; high = gathered.high; span = gathered.span }),
    )

pub returns-in_ok-number_row-in-3-I64-clause-ok : goal.returns-in_ok-number_row-in-3-I64-clause-ok
returns-in_ok-number_row-in-3-I64-clause-ok g c = λ item rest s.
    let id = sym (to_z-of_z w16 c.args.found.id (record { sfits = search rules })) ∙ ap (to_z w16) c.in-3-I64.is-0 in
    let w = holds g.P.Parts.spells c.args.left c.args.found item c.args.c.now.rest rest s (pos 3) kinds.I64 id c.in-3-I64.is-1 in
    let t = c.sure_long-in-3-I64.ensures.stands w.held rest (long_there g.P.Parts.spells c.args.left c.args.found item c.args.c.now.rest rest w.held w.stands) in
    let sets = c.in_ok-number_row-in-3-I64.ensures.ok in (
      t.1,
      λ first seen gathered.
          gathered_more (structs g.P.Parts.spells c.args.left) 0 reference_table (reference_shape g.P.Parts.spells c.args.left) (λ given. GatheredReference (record { child_of = c.args.self.now.child_of; low = c.args.self.now.low; high = c.number_row-in-3-I64.new.row; span = c.args.self.now.span }) given) seen item (field_of (pos 3) kinds.I64 w.held item.text) w.is
          (record { child_of = gathered.child_of; low = gathered.low; high = subst (λ x. Sets Means x c.args.self.now.high c.number_row-in-3-I64.new.row) (to_z-of_z w64 c.sure_long-in-3-I64.result (record { sfits = search rules }) ∙ t.0) sets _ gathered.high; span = gathered.span }),
    )

pub returns-in_ok-number_row-in-4-I64-clause-ok : goal.returns-in_ok-number_row-in-4-I64-clause-ok
returns-in_ok-number_row-in-4-I64-clause-ok g c = λ item rest s.
    let id = sym (to_z-of_z w16 c.args.found.id (record { sfits = search rules })) ∙ ap (to_z w16) c.in-4-I64.is-0 in
    let w = holds g.P.Parts.spells c.args.left c.args.found item c.args.c.now.rest rest s (pos 4) kinds.I64 id c.in-4-I64.is-1 in
    let t = c.sure_long-in-4-I64.ensures.stands w.held rest (long_there g.P.Parts.spells c.args.left c.args.found item c.args.c.now.rest rest w.held w.stands) in
    let sets = c.in_ok-number_row-in-4-I64.ensures.ok in (
      t.1,
      λ first seen gathered.
          gathered_more (structs g.P.Parts.spells c.args.left) 0 reference_table (reference_shape g.P.Parts.spells c.args.left) (λ given. GatheredReference (record { child_of = c.args.self.now.child_of; low = c.args.self.now.low; high = c.args.self.now.high; span = c.number_row-in-4-I64.new.row }) given) seen item (field_of (pos 4) kinds.I64 w.held item.text) w.is
          (record { child_of = gathered.child_of; low = gathered.low; high = gathered.high; span = subst (λ x. Sets Means x c.args.self.now.span c.number_row-in-4-I64.new.row) (to_z-of_z w64 c.sure_long-in-4-I64.result (record { sfits = search rules }) ∙ t.0) sets _ gathered.span }),
    )

pub returns-in_default-clause-ok : goal.returns-in_default-clause-ok
returns-in_default-clause-ok g c = λ item rest s.
    let unknown : Unknown reference_keys (of_z w16 c.args.found.id) c.args.found.kind = elim c.in_default.branch [
      | in_default-via-in-1+in-Truth-1 w ↦ unknown_type reference_keys _ _ 1 kinds.I32 w.in_default.is-0 w.in_default.not-I32-1 (refl, (tt, (tt, (tt, tt))))
      | in_default-via-in-2+in-Truth-1 w ↦ unknown_type reference_keys _ _ 2 kinds.I64 w.in_default.is-0 w.in_default.not-I64-1 (tt, (refl, (tt, (tt, tt))))
      | in_default-via-in-3+in-Truth-1 w ↦ unknown_type reference_keys _ _ 3 kinds.I64 w.in_default.is-0 w.in_default.not-I64-1 (tt, (tt, (refl, (tt, tt))))
      | in_default-via-in-4+in-Truth-1 w ↦ unknown_type reference_keys _ _ 4 kinds.I64 w.in_default.is-0 w.in_default.not-I64-1 (tt, (tt, (tt, (refl, tt))))
      | in_default-via-in_default w ↦ (λ at of. w.in_default.is-0.0.0.0.1 at, (λ at of. w.in_default.is-0.0.0.1 at, (λ at of. w.in_default.is-0.0.1 at, (λ at of. w.in_default.is-0.1 at, tt))))
    ] in
    let free = reference_free item c.args.found s.id s.kind unknown in (
      c.pass_over.ensures.stands rest (begins_value g.P.Parts.spells c.args.left c.args.found item c.args.c.now.rest rest s),
      λ first seen gathered.
          gathered_free (structs g.P.Parts.spells c.args.left) 0 reference_table (reference_shape g.P.Parts.spells c.args.left) (λ given. GatheredReference c.args.self.now given) seen item free gathered,
    )

pub returns-in_default-clause-judged : goal.returns-in_default-clause-judged
returns-in_default-clause-judged g c = λ item rest s first seen gathered.
    let unknown : Unknown reference_keys (of_z w16 c.args.found.id) c.args.found.kind = elim c.in_default.branch [
      | in_default-via-in-1+in-Truth-1 w ↦ unknown_type reference_keys _ _ 1 kinds.I32 w.in_default.is-0 w.in_default.not-I32-1 (refl, (tt, (tt, (tt, tt))))
      | in_default-via-in-2+in-Truth-1 w ↦ unknown_type reference_keys _ _ 2 kinds.I64 w.in_default.is-0 w.in_default.not-I64-1 (tt, (refl, (tt, (tt, tt))))
      | in_default-via-in-3+in-Truth-1 w ↦ unknown_type reference_keys _ _ 3 kinds.I64 w.in_default.is-0 w.in_default.not-I64-1 (tt, (tt, (refl, (tt, tt))))
      | in_default-via-in-4+in-Truth-1 w ↦ unknown_type reference_keys _ _ 4 kinds.I64 w.in_default.is-0 w.in_default.not-I64-1 (tt, (tt, (tt, (refl, tt))))
      | in_default-via-in_default w ↦ (λ at of. w.in_default.is-0.0.0.0.1 at, (λ at of. w.in_default.is-0.0.0.1 at, (λ at of. w.in_default.is-0.0.1 at, (λ at of. w.in_default.is-0.1 at, tt))))
    ] in
    let free = reference_free item c.args.found s.id s.kind unknown in
    free_fine reference_table seen item free
