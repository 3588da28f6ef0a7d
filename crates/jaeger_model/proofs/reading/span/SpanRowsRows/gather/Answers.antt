use Rattle.std.proofs.Common.{pos, refl, sym, ap, subst, ◌∙◌, ◌-◌, to_z, of_z, w16, w32, w64, rules, ℕ, Ok, Err}
use Rattle.std.specs.Prelude.{◌⊎◌}
use Rattle.std.proofs.lemmas.Int.{to_z-of_z}
use Rattle.span_io.proofs.GatheringLaws.{judged_at, refused_at}
use Rattle.span_io.specs.Offences.{HereOrInside, Judges, JudgesHere}
use Rattle.span_io.specs.RowsSoFar.{Sets}
use Rattle.span_io.specs.private.RowSteps.{JudgesCause}
use Rattle.span_io.specs.Tables.{Twice, MeansText, NotText, givens, table_here, table_inside}
use Rattle.thrift_core.specs.declared.type_code.TypeCode.TheVariants as kinds
use Rattle.thrift_core.specs.Messages.{FieldItem, structs}
use Rattle.thrift_core.proofs.StructLaws.{struct_laws}
use Rattle.jaeger_model.specs.Meanings.{Means, MeansTime}
use Rattle.jaeger_model.specs.Rows.{BadTime, nothing_wrong}
use Rattle.jaeger_model.specs.Span.{jspan_table}
use Rattle.jaeger_model.specs.private.SpanSoFar.{GatheredJSpan}
use Rattle.jaeger_model.proofs.FieldLemmas.{Unknown, field_of, holds, begins_value, binary_there, int_there, long_there, gathered_more, gathered_free, free_fine, ok_then, unknown_type}
use Rattle.jaeger_model.proofs.SpanTable.{span_shape, span_keys, span_free}
use Rattle.jaeger_model.proofs.LogLemmas.{its_list, log_laws}
use Rattle.jaeger_model.proofs.TagLemmas.{tag_laws}
use Rattle.jaeger_model.proofs.reading.span.SpanRowsRows.gather.Goals.{in_default-via-in-1+in-Truth-1, in_default-via-in-2+in-Truth-1, in_default-via-in-3+in-Truth-1, in_default-via-in-4+in-Truth-1, in_default-via-in-5+in-Truth-1, in_default-via-in-6+in-Truth-1, in_default-via-in-7+in-Truth-1, in_default-via-in-8+in-Truth-1, in_default-via-in-9+in-Truth-1, in_default-via-in-10+in-Truth-1, in_default-via-in-11+in-Truth-1, in_default-via-in_default}
use Rattle.jaeger_model.proofs.reading.span.SpanRowsRows.gather.Goals as goal

pub returns-in_ok-number_row-in-1-I64-clause-ok : goal.returns-in_ok-number_row-in-1-I64-clause-ok
returns-in_ok-number_row-in-1-I64-clause-ok g c = λ item rest s.
    let id = sym (to_z-of_z w16 c.args.found.id (record { sfits = search rules })) ∙ ap (to_z w16) c.in-1-I64.is-0 in
    let w = holds g.P.Parts.spells c.args.left c.args.found item c.args.c.now.rest rest s (pos 1) kinds.I64 id c.in-1-I64.is-1 in
    let t = c.sure_long.ensures.stands w.held rest (long_there g.P.Parts.spells c.args.left c.args.found item c.args.c.now.rest rest w.held w.stands) in
    let sets = c.in_ok-number_row-in-1-I64.ensures.ok in (
      t.1,
      λ first seen gathered.
          gathered_more (structs g.P.Parts.spells c.args.left) 0 (jspan_table g.P.Parts.spells c.args.left) (span_shape g.P.Parts.spells (λ m. struct_laws g.P.Parts.spells _ _ _ g.met.P.Parts.reads_exactly g.met.P.Parts.part_laws m) c.args.left) (λ given. GatheredJSpan g.P.Parts.spells c.args.left (record { low = c.number_row.new.row; high = c.args.self.now.high; id = c.args.self.now.id; parent = c.args.self.now.parent; name = c.args.self.now.name; references = c.args.self.now.references; flags = c.args.self.now.flags; start = c.args.self.now.start; duration = c.args.self.now.duration; tags = c.args.self.now.tags; logs = c.args.self.now.logs }) given) seen item (field_of (pos 1) kinds.I64 w.held item.text) w.is
          (record { low = subst (λ x. Sets Means x c.args.self.now.low c.number_row.new.row) (to_z-of_z w64 c.sure_long.result (record { sfits = search rules }) ∙ t.0) sets _ gathered.low; high = gathered.high; id = gathered.id; parent = gathered.parent; name = gathered.name; references = gathered.references; flags = gathered.flags; start = gathered.start; duration = gathered.duration; tags = gathered.tags; logs = gathered.logs }),
    )

pub returns-in_ok-number_row-in-1-I64-clause-judged : goal.returns-in_ok-number_row-in-1-I64-clause-judged
returns-in_ok-number_row-in-1-I64-clause-judged g c = λ item rest s first seen gathered.
    let id = sym (to_z-of_z w16 c.args.found.id (record { sfits = search rules })) ∙ ap (to_z w16) c.in-1-I64.is-0 in
    let w = holds g.P.Parts.spells c.args.left c.args.found item c.args.c.now.rest rest s (pos 1) kinds.I64 id c.in-1-I64.is-1 in
    let t = c.sure_long.ensures.stands w.held rest (long_there g.P.Parts.spells c.args.left c.args.found item c.args.c.now.rest rest w.held w.stands) in
    judged_at (jspan_table g.P.Parts.spells c.args.left) seen item (field_of (pos 1) kinds.I64 w.held item.text) w.is (λ p m h. h) (Ok tt)
    (subst (λ x. JudgesCause {T = Unit} (Ok tt) (λ n. Twice (givens (jspan_table g.P.Parts.spells c.args.left) seen).0 n ⊎ nothing_wrong x n)) (to_z-of_z w64 c.sure_long.result (record { sfits = search rules }) ∙ t.0) (c.in_ok-number_row-in-1-I64.ensures.judged _ gathered.low))

pub returns-in_err-number_row-in-1-I64-clause-judged : goal.returns-in_err-number_row-in-1-I64-clause-judged
returns-in_err-number_row-in-1-I64-clause-judged g c = λ item rest s first seen gathered.
    let id = sym (to_z-of_z w16 c.args.found.id (record { sfits = search rules })) ∙ ap (to_z w16) c.in-1-I64.is-0 in
    let w = holds g.P.Parts.spells c.args.left c.args.found item c.args.c.now.rest rest s (pos 1) kinds.I64 id c.in-1-I64.is-1 in
    let t = c.sure_long.ensures.stands w.held rest (long_there g.P.Parts.spells c.args.left c.args.found item c.args.c.now.rest rest w.held w.stands) in
    refused_at (jspan_table g.P.Parts.spells c.args.left) seen item (field_of (pos 1) kinds.I64 w.held item.text) w.is (λ p m h. h) c.in_err-number_row-in-1-I64.field-0.0
    (subst (λ x. JudgesCause {T = Unit} (Err c.in_err-number_row-in-1-I64.field-0.0) (λ n. Twice (givens (jspan_table g.P.Parts.spells c.args.left) seen).0 n ⊎ nothing_wrong x n)) (to_z-of_z w64 c.sure_long.result (record { sfits = search rules }) ∙ t.0) (c.in_err-number_row-in-1-I64.ensures.judged _ gathered.low)) c.from_residual.result c.from_residual.ensures.1

pub returns-in_ok-number_row-in-2-I64-clause-ok : goal.returns-in_ok-number_row-in-2-I64-clause-ok
returns-in_ok-number_row-in-2-I64-clause-ok g c = λ item rest s.
    let id = sym (to_z-of_z w16 c.args.found.id (record { sfits = search rules })) ∙ ap (to_z w16) c.in-2-I64.is-0 in
    let w = holds g.P.Parts.spells c.args.left c.args.found item c.args.c.now.rest rest s (pos 2) kinds.I64 id c.in-2-I64.is-1 in
    let t = c.sure_long-in-2-I64.ensures.stands w.held rest (long_there g.P.Parts.spells c.args.left c.args.found item c.args.c.now.rest rest w.held w.stands) in
    let sets = c.in_ok-number_row-in-2-I64.ensures.ok in (
      t.1,
      λ first seen gathered.
          gathered_more (structs g.P.Parts.spells c.args.left) 0 (jspan_table g.P.Parts.spells c.args.left) (span_shape g.P.Parts.spells (λ m. struct_laws g.P.Parts.spells _ _ _ g.met.P.Parts.reads_exactly g.met.P.Parts.part_laws m) c.args.left) (λ given. GatheredJSpan g.P.Parts.spells c.args.left (record { low = c.args.self.now.low; high = c.number_row-in-2-I64.new.row; id = c.args.self.now.id; parent = c.args.self.now.parent; name = c.args.self.now.name; references = c.args.self.now.references; flags = c.args.self.now.flags; start = c.args.self.now.start; duration = c.args.self.now.duration; tags = c.args.self.now.tags; logs = c.args.self.now.logs }) given) seen item (field_of (pos 2) kinds.I64 w.held item.text) w.is
          (record { low = gathered.low; high = subst (λ x. Sets Means x c.args.self.now.high c.number_row-in-2-I64.new.row) (to_z-of_z w64 c.sure_long-in-2-I64.result (record { sfits = search rules }) ∙ t.0) sets _ gathered.high; id = gathered.id; parent = gathered.parent; name = gathered.name; references = gathered.references; flags = gathered.flags; start = gathered.start; duration = gathered.duration; tags = gathered.tags; logs = gathered.logs }),
    )

pub returns-in_ok-number_row-in-2-I64-clause-judged : goal.returns-in_ok-number_row-in-2-I64-clause-judged
returns-in_ok-number_row-in-2-I64-clause-judged g c = λ item rest s first seen gathered.
    let id = sym (to_z-of_z w16 c.args.found.id (record { sfits = search rules })) ∙ ap (to_z w16) c.in-2-I64.is-0 in
    let w = holds g.P.Parts.spells c.args.left c.args.found item c.args.c.now.rest rest s (pos 2) kinds.I64 id c.in-2-I64.is-1 in
    let t = c.sure_long-in-2-I64.ensures.stands w.held rest (long_there g.P.Parts.spells c.args.left c.args.found item c.args.c.now.rest rest w.held w.stands) in
    judged_at (jspan_table g.P.Parts.spells c.args.left) seen item (field_of (pos 2) kinds.I64 w.held item.text) w.is (λ p m h. h) (Ok tt)
    (subst (λ x. JudgesCause {T = Unit} (Ok tt) (λ n. Twice (givens (jspan_table g.P.Parts.spells c.args.left) seen).1.0 n ⊎ nothing_wrong x n)) (to_z-of_z w64 c.sure_long-in-2-I64.result (record { sfits = search rules }) ∙ t.0) (c.in_ok-number_row-in-2-I64.ensures.judged _ gathered.high))

pub returns-in_err-number_row-in-2-I64-clause-judged : goal.returns-in_err-number_row-in-2-I64-clause-judged
returns-in_err-number_row-in-2-I64-clause-judged g c = λ item rest s first seen gathered.
    let id = sym (to_z-of_z w16 c.args.found.id (record { sfits = search rules })) ∙ ap (to_z w16) c.in-2-I64.is-0 in
    let w = holds g.P.Parts.spells c.args.left c.args.found item c.args.c.now.rest rest s (pos 2) kinds.I64 id c.in-2-I64.is-1 in
    let t = c.sure_long-in-2-I64.ensures.stands w.held rest (long_there g.P.Parts.spells c.args.left c.args.found item c.args.c.now.rest rest w.held w.stands) in
    refused_at (jspan_table g.P.Parts.spells c.args.left) seen item (field_of (pos 2) kinds.I64 w.held item.text) w.is (λ p m h. h) c.in_err-number_row-in-2-I64.field-0.0
    (subst (λ x. JudgesCause {T = Unit} (Err c.in_err-number_row-in-2-I64.field-0.0) (λ n. Twice (givens (jspan_table g.P.Parts.spells c.args.left) seen).1.0 n ⊎ nothing_wrong x n)) (to_z-of_z w64 c.sure_long-in-2-I64.result (record { sfits = search rules }) ∙ t.0) (c.in_err-number_row-in-2-I64.ensures.judged _ gathered.high)) c.from_residual-in_err-number_row-in-2-I64.result c.from_residual-in_err-number_row-in-2-I64.ensures.1

pub returns-in_ok-number_row-in-3-I64-clause-ok : goal.returns-in_ok-number_row-in-3-I64-clause-ok
returns-in_ok-number_row-in-3-I64-clause-ok g c = λ item rest s.
    let id = sym (to_z-of_z w16 c.args.found.id (record { sfits = search rules })) ∙ ap (to_z w16) c.in-3-I64.is-0 in
    let w = holds g.P.Parts.spells c.args.left c.args.found item c.args.c.now.rest rest s (pos 3) kinds.I64 id c.in-3-I64.is-1 in
    let t = c.sure_long-in-3-I64.ensures.stands w.held rest (long_there g.P.Parts.spells c.args.left c.args.found item c.args.c.now.rest rest w.held w.stands) in
    let sets = c.in_ok-number_row-in-3-I64.ensures.ok in (
      t.1,
      λ first seen gathered.
          gathered_more (structs g.P.Parts.spells c.args.left) 0 (jspan_table g.P.Parts.spells c.args.left) (span_shape g.P.Parts.spells (λ m. struct_laws g.P.Parts.spells _ _ _ g.met.P.Parts.reads_exactly g.met.P.Parts.part_laws m) c.args.left) (λ given. GatheredJSpan g.P.Parts.spells c.args.left (record { low = c.args.self.now.low; high = c.args.self.now.high; id = c.number_row-in-3-I64.new.row; parent = c.args.self.now.parent; name = c.args.self.now.name; references = c.args.self.now.references; flags = c.args.self.now.flags; start = c.args.self.now.start; duration = c.args.self.now.duration; tags = c.args.self.now.tags; logs = c.args.self.now.logs }) given) seen item (field_of (pos 3) kinds.I64 w.held item.text) w.is
          (record { low = gathered.low; high = gathered.high; id = subst (λ x. Sets Means x c.args.self.now.id c.number_row-in-3-I64.new.row) (to_z-of_z w64 c.sure_long-in-3-I64.result (record { sfits = search rules }) ∙ t.0) sets _ gathered.id; parent = gathered.parent; name = gathered.name; references = gathered.references; flags = gathered.flags; start = gathered.start; duration = gathered.duration; tags = gathered.tags; logs = gathered.logs }),
    )

pub returns-in_ok-number_row-in-3-I64-clause-judged : goal.returns-in_ok-number_row-in-3-I64-clause-judged
returns-in_ok-number_row-in-3-I64-clause-judged g c = λ item rest s first seen gathered.
    let id = sym (to_z-of_z w16 c.args.found.id (record { sfits = search rules })) ∙ ap (to_z w16) c.in-3-I64.is-0 in
    let w = holds g.P.Parts.spells c.args.left c.args.found item c.args.c.now.rest rest s (pos 3) kinds.I64 id c.in-3-I64.is-1 in
    let t = c.sure_long-in-3-I64.ensures.stands w.held rest (long_there g.P.Parts.spells c.args.left c.args.found item c.args.c.now.rest rest w.held w.stands) in
    judged_at (jspan_table g.P.Parts.spells c.args.left) seen item (field_of (pos 3) kinds.I64 w.held item.text) w.is (λ p m h. h) (Ok tt)
    (subst (λ x. JudgesCause {T = Unit} (Ok tt) (λ n. Twice (givens (jspan_table g.P.Parts.spells c.args.left) seen).1.1.0 n ⊎ nothing_wrong x n)) (to_z-of_z w64 c.sure_long-in-3-I64.result (record { sfits = search rules }) ∙ t.0) (c.in_ok-number_row-in-3-I64.ensures.judged _ gathered.id))

pub returns-in_err-number_row-in-3-I64-clause-judged : goal.returns-in_err-number_row-in-3-I64-clause-judged
returns-in_err-number_row-in-3-I64-clause-judged g c = λ item rest s first seen gathered.
    let id = sym (to_z-of_z w16 c.args.found.id (record { sfits = search rules })) ∙ ap (to_z w16) c.in-3-I64.is-0 in
    let w = holds g.P.Parts.spells c.args.left c.args.found item c.args.c.now.rest rest s (pos 3) kinds.I64 id c.in-3-I64.is-1 in
    let t = c.sure_long-in-3-I64.ensures.stands w.held rest (long_there g.P.Parts.spells c.args.left c.args.found item c.args.c.now.rest rest w.held w.stands) in
    refused_at (jspan_table g.P.Parts.spells c.args.left) seen item (field_of (pos 3) kinds.I64 w.held item.text) w.is (λ p m h. h) c.in_err-number_row-in-3-I64.field-0.0
    (subst (λ x. JudgesCause {T = Unit} (Err c.in_err-number_row-in-3-I64.field-0.0) (λ n. Twice (givens (jspan_table g.P.Parts.spells c.args.left) seen).1.1.0 n ⊎ nothing_wrong x n)) (to_z-of_z w64 c.sure_long-in-3-I64.result (record { sfits = search rules }) ∙ t.0) (c.in_err-number_row-in-3-I64.ensures.judged _ gathered.id)) c.from_residual-in_err-number_row-in-3-I64.result c.from_residual-in_err-number_row-in-3-I64.ensures.1

pub returns-in_ok-number_row-in-4-I64-clause-ok : goal.returns-in_ok-number_row-in-4-I64-clause-ok
returns-in_ok-number_row-in-4-I64-clause-ok g c = λ item rest s.
    let id = sym (to_z-of_z w16 c.args.found.id (record { sfits = search rules })) ∙ ap (to_z w16) c.in-4-I64.is-0 in
    let w = holds g.P.Parts.spells c.args.left c.args.found item c.args.c.now.rest rest s (pos 4) kinds.I64 id c.in-4-I64.is-1 in
    let t = c.sure_long-in-4-I64.ensures.stands w.held rest (long_there g.P.Parts.spells c.args.left c.args.found item c.args.c.now.rest rest w.held w.stands) in
    let sets = c.in_ok-number_row-in-4-I64.ensures.ok in (
      t.1,
      λ first seen gathered.
          gathered_more (structs g.P.Parts.spells c.args.left) 0 (jspan_table g.P.Parts.spells c.args.left) (span_shape g.P.Parts.spells (λ m. struct_laws g.P.Parts.spells _ _ _ g.met.P.Parts.reads_exactly g.met.P.Parts.part_laws m) c.args.left) (λ given. GatheredJSpan g.P.Parts.spells c.args.left (record { low = c.args.self.now.low; high = c.args.self.now.high; id = c.args.self.now.id; parent = c.number_row-in-4-I64.new.row; name = c.args.self.now.name; references = c.args.self.now.references; flags = c.args.self.now.flags; start = c.args.self.now.start; duration = c.args.self.now.duration; tags = c.args.self.now.tags; logs = c.args.self.now.logs }) given) seen item (field_of (pos 4) kinds.I64 w.held item.text) w.is
          (record { low = gathered.low; high = gathered.high; id = gathered.id; parent = subst (λ x. Sets Means x c.args.self.now.parent c.number_row-in-4-I64.new.row) (to_z-of_z w64 c.sure_long-in-4-I64.result (record { sfits = search rules }) ∙ t.0) sets _ gathered.parent; name = gathered.name; references = gathered.references; flags = gathered.flags; start = gathered.start; duration = gathered.duration; tags = gathered.tags; logs = gathered.logs }),
    )

pub returns-in_ok-number_row-in-4-I64-clause-judged : goal.returns-in_ok-number_row-in-4-I64-clause-judged
returns-in_ok-number_row-in-4-I64-clause-judged g c = λ item rest s first seen gathered.
    let id = sym (to_z-of_z w16 c.args.found.id (record { sfits = search rules })) ∙ ap (to_z w16) c.in-4-I64.is-0 in
    let w = holds g.P.Parts.spells c.args.left c.args.found item c.args.c.now.rest rest s (pos 4) kinds.I64 id c.in-4-I64.is-1 in
    let t = c.sure_long-in-4-I64.ensures.stands w.held rest (long_there g.P.Parts.spells c.args.left c.args.found item c.args.c.now.rest rest w.held w.stands) in
    judged_at (jspan_table g.P.Parts.spells c.args.left) seen item (field_of (pos 4) kinds.I64 w.held item.text) w.is (λ p m h. h) (Ok tt)
    (subst (λ x. JudgesCause {T = Unit} (Ok tt) (λ n. Twice (givens (jspan_table g.P.Parts.spells c.args.left) seen).1.1.1.0 n ⊎ nothing_wrong x n)) (to_z-of_z w64 c.sure_long-in-4-I64.result (record { sfits = search rules }) ∙ t.0) (c.in_ok-number_row-in-4-I64.ensures.judged _ gathered.parent))

pub returns-in_err-number_row-in-4-I64-clause-judged : goal.returns-in_err-number_row-in-4-I64-clause-judged
returns-in_err-number_row-in-4-I64-clause-judged g c = λ item rest s first seen gathered.
    let id = sym (to_z-of_z w16 c.args.found.id (record { sfits = search rules })) ∙ ap (to_z w16) c.in-4-I64.is-0 in
    let w = holds g.P.Parts.spells c.args.left c.args.found item c.args.c.now.rest rest s (pos 4) kinds.I64 id c.in-4-I64.is-1 in
    let t = c.sure_long-in-4-I64.ensures.stands w.held rest (long_there g.P.Parts.spells c.args.left c.args.found item c.args.c.now.rest rest w.held w.stands) in
    refused_at (jspan_table g.P.Parts.spells c.args.left) seen item (field_of (pos 4) kinds.I64 w.held item.text) w.is (λ p m h. h) c.in_err-number_row-in-4-I64.field-0.0
    (subst (λ x. JudgesCause {T = Unit} (Err c.in_err-number_row-in-4-I64.field-0.0) (λ n. Twice (givens (jspan_table g.P.Parts.spells c.args.left) seen).1.1.1.0 n ⊎ nothing_wrong x n)) (to_z-of_z w64 c.sure_long-in-4-I64.result (record { sfits = search rules }) ∙ t.0) (c.in_err-number_row-in-4-I64.ensures.judged _ gathered.parent)) c.from_residual-in_err-number_row-in-4-I64.result c.from_residual-in_err-number_row-in-4-I64.ensures.1

pub returns-in-5-Binary-clause-ok : goal.returns-in-5-Binary-clause-ok
returns-in-5-Binary-clause-ok g c = λ item rest s.
    let id = sym (to_z-of_z w16 c.args.found.id (record { sfits = search rules })) ∙ ap (to_z w16) c.in-5-Binary.is-0 in
    let w = holds g.P.Parts.spells c.args.left c.args.found item c.args.c.now.rest rest s (pos 5) kinds.Binary id c.in-5-Binary.is-1 in
    let t = c.sure_bytes.ensures.stands w.held rest (binary_there g.P.Parts.spells c.args.left c.args.found item c.args.c.now.rest rest w.held w.stands) in
    ok_then _ _ c.text_row.result (λ sets. (
      t.1,
      λ first seen gathered.
          gathered_more (structs g.P.Parts.spells c.args.left) 0 (jspan_table g.P.Parts.spells c.args.left) (span_shape g.P.Parts.spells (λ m. struct_laws g.P.Parts.spells _ _ _ g.met.P.Parts.reads_exactly g.met.P.Parts.part_laws m) c.args.left) (λ given. GatheredJSpan g.P.Parts.spells c.args.left (record { low = c.args.self.now.low; high = c.args.self.now.high; id = c.args.self.now.id; parent = c.args.self.now.parent; name = c.text_row.new.row; references = c.args.self.now.references; flags = c.args.self.now.flags; start = c.args.self.now.start; duration = c.args.self.now.duration; tags = c.args.self.now.tags; logs = c.args.self.now.logs }) given) seen item (field_of (pos 5) kinds.Binary w.held item.text) w.is
          (record { low = gathered.low; high = gathered.high; id = gathered.id; parent = gathered.parent; name = subst (λ x. Sets MeansText x c.args.self.now.name c.text_row.new.row) t.0 sets _ gathered.name; references = gathered.references; flags = gathered.flags; start = gathered.start; duration = gathered.duration; tags = gathered.tags; logs = gathered.logs }),
    )) c.text_row.ensures.ok

pub returns-in-5-Binary-clause-judged : goal.returns-in-5-Binary-clause-judged
returns-in-5-Binary-clause-judged g c = λ item rest s first seen gathered.
    let id = sym (to_z-of_z w16 c.args.found.id (record { sfits = search rules })) ∙ ap (to_z w16) c.in-5-Binary.is-0 in
    let w = holds g.P.Parts.spells c.args.left c.args.found item c.args.c.now.rest rest s (pos 5) kinds.Binary id c.in-5-Binary.is-1 in
    let t = c.sure_bytes.ensures.stands w.held rest (binary_there g.P.Parts.spells c.args.left c.args.found item c.args.c.now.rest rest w.held w.stands) in
    judged_at (jspan_table g.P.Parts.spells c.args.left) seen item (field_of (pos 5) kinds.Binary w.held item.text) w.is (λ p m h. h) c.text_row.result
    (subst (λ x. JudgesHere c.text_row.result (λ n. Twice (givens (jspan_table g.P.Parts.spells c.args.left) seen).1.1.1.1.0 n ⊎ NotText x n)) t.0 (c.text_row.ensures.judged _ gathered.name))

pub returns-in-6-List-clause-ok : goal.returns-in-6-List-clause-ok
returns-in-6-List-clause-ok g c = λ item rest s.
    let id = sym (to_z-of_z w16 c.args.found.id (record { sfits = search rules })) ∙ ap (to_z w16) c.in-6-List.is-0 in
    let w = holds g.P.Parts.spells c.args.left c.args.found item c.args.c.now.rest rest s (pos 6) kinds.List id c.in-6-List.is-1 in
    let value = its_list g.P.Parts.spells c.args.left c.args.found item c.args.c.now.rest rest s w.held (ap (λ (i : FieldItem). i.tree) w.is) in
    ok_then _ _ c.references_row.result (λ both. (
      both.0,
      λ first seen gathered.
          gathered_more (structs g.P.Parts.spells c.args.left) 0 (jspan_table g.P.Parts.spells c.args.left) (span_shape g.P.Parts.spells (λ m. struct_laws g.P.Parts.spells _ _ _ g.met.P.Parts.reads_exactly g.met.P.Parts.part_laws m) c.args.left) (λ given. GatheredJSpan g.P.Parts.spells c.args.left (record { low = c.args.self.now.low; high = c.args.self.now.high; id = c.args.self.now.id; parent = c.args.self.now.parent; name = c.args.self.now.name; references = c.references_row.new.row; flags = c.args.self.now.flags; start = c.args.self.now.start; duration = c.args.self.now.duration; tags = c.args.self.now.tags; logs = c.args.self.now.logs }) given) seen item (field_of (pos 6) kinds.List w.held item.text) w.is
          (record { low = gathered.low; high = gathered.high; id = gathered.id; parent = gathered.parent; name = gathered.name; references = both.1 _ gathered.references; flags = gathered.flags; start = gathered.start; duration = gathered.duration; tags = gathered.tags; logs = gathered.logs }),
    )) (c.references_row.ensures.ok item.text rest w.held s.parts value)

pub returns-in-6-List-clause-judged : goal.returns-in-6-List-clause-judged
returns-in-6-List-clause-judged g c = λ item rest s first seen gathered.
    let id = sym (to_z-of_z w16 c.args.found.id (record { sfits = search rules })) ∙ ap (to_z w16) c.in-6-List.is-0 in
    let w = holds g.P.Parts.spells c.args.left c.args.found item c.args.c.now.rest rest s (pos 6) kinds.List id c.in-6-List.is-1 in
    let value = its_list g.P.Parts.spells c.args.left c.args.found item c.args.c.now.rest rest s w.held (ap (λ (i : FieldItem). i.tree) w.is) in
    subst (λ (x : FieldItem). Judges c.references_row.result (HereOrInside (table_here (jspan_table g.P.Parts.spells c.args.left) seen x) (table_inside (jspan_table g.P.Parts.spells c.args.left) x))) (sym w.is)
    (c.references_row.ensures.judged item.text rest w.held s.parts value _ gathered.references)

pub returns-in_ok-int_row-in-7-I32-clause-ok : goal.returns-in_ok-int_row-in-7-I32-clause-ok
returns-in_ok-int_row-in-7-I32-clause-ok g c = λ item rest s.
    let id = sym (to_z-of_z w16 c.args.found.id (record { sfits = search rules })) ∙ ap (to_z w16) c.in-7-I32.is-0 in
    let w = holds g.P.Parts.spells c.args.left c.args.found item c.args.c.now.rest rest s (pos 7) kinds.I32 id c.in-7-I32.is-1 in
    let t = c.sure_int.ensures.stands w.held rest (int_there g.P.Parts.spells c.args.left c.args.found item c.args.c.now.rest rest w.held w.stands) in
    let sets = c.in_ok-int_row-in-7-I32.ensures.ok in (
      t.1,
      λ first seen gathered.
          gathered_more (structs g.P.Parts.spells c.args.left) 0 (jspan_table g.P.Parts.spells c.args.left) (span_shape g.P.Parts.spells (λ m. struct_laws g.P.Parts.spells _ _ _ g.met.P.Parts.reads_exactly g.met.P.Parts.part_laws m) c.args.left) (λ given. GatheredJSpan g.P.Parts.spells c.args.left (record { low = c.args.self.now.low; high = c.args.self.now.high; id = c.args.self.now.id; parent = c.args.self.now.parent; name = c.args.self.now.name; references = c.args.self.now.references; flags = c.int_row.new.row; start = c.args.self.now.start; duration = c.args.self.now.duration; tags = c.args.self.now.tags; logs = c.args.self.now.logs }) given) seen item (field_of (pos 7) kinds.I32 w.held item.text) w.is
          (record { low = gathered.low; high = gathered.high; id = gathered.id; parent = gathered.parent; name = gathered.name; references = gathered.references; flags = subst (λ x. Sets Means x c.args.self.now.flags c.int_row.new.row) (to_z-of_z w32 c.sure_int.result (record { sfits = search rules }) ∙ t.0) sets _ gathered.flags; start = gathered.start; duration = gathered.duration; tags = gathered.tags; logs = gathered.logs }),
    )

pub returns-in_ok-int_row-in-7-I32-clause-judged : goal.returns-in_ok-int_row-in-7-I32-clause-judged
returns-in_ok-int_row-in-7-I32-clause-judged g c = λ item rest s first seen gathered.
    let id = sym (to_z-of_z w16 c.args.found.id (record { sfits = search rules })) ∙ ap (to_z w16) c.in-7-I32.is-0 in
    let w = holds g.P.Parts.spells c.args.left c.args.found item c.args.c.now.rest rest s (pos 7) kinds.I32 id c.in-7-I32.is-1 in
    let t = c.sure_int.ensures.stands w.held rest (int_there g.P.Parts.spells c.args.left c.args.found item c.args.c.now.rest rest w.held w.stands) in
    judged_at (jspan_table g.P.Parts.spells c.args.left) seen item (field_of (pos 7) kinds.I32 w.held item.text) w.is (λ p m h. h) (Ok tt)
    (subst (λ x. JudgesCause {T = Unit} (Ok tt) (λ n. Twice (givens (jspan_table g.P.Parts.spells c.args.left) seen).1.1.1.1.1.1.0 n ⊎ nothing_wrong x n)) (to_z-of_z w32 c.sure_int.result (record { sfits = search rules }) ∙ t.0) (c.in_ok-int_row-in-7-I32.ensures.judged _ gathered.flags))

pub returns-in_err-int_row-in-7-I32-clause-judged : goal.returns-in_err-int_row-in-7-I32-clause-judged
returns-in_err-int_row-in-7-I32-clause-judged g c = λ item rest s first seen gathered.
    let id = sym (to_z-of_z w16 c.args.found.id (record { sfits = search rules })) ∙ ap (to_z w16) c.in-7-I32.is-0 in
    let w = holds g.P.Parts.spells c.args.left c.args.found item c.args.c.now.rest rest s (pos 7) kinds.I32 id c.in-7-I32.is-1 in
    let t = c.sure_int.ensures.stands w.held rest (int_there g.P.Parts.spells c.args.left c.args.found item c.args.c.now.rest rest w.held w.stands) in
    refused_at (jspan_table g.P.Parts.spells c.args.left) seen item (field_of (pos 7) kinds.I32 w.held item.text) w.is (λ p m h. h) c.in_err-int_row-in-7-I32.field-0.0
    (subst (λ x. JudgesCause {T = Unit} (Err c.in_err-int_row-in-7-I32.field-0.0) (λ n. Twice (givens (jspan_table g.P.Parts.spells c.args.left) seen).1.1.1.1.1.1.0 n ⊎ nothing_wrong x n)) (to_z-of_z w32 c.sure_int.result (record { sfits = search rules }) ∙ t.0) (c.in_err-int_row-in-7-I32.ensures.judged _ gathered.flags)) c.from_residual-in_err-int_row-in-7-I32.result c.from_residual-in_err-int_row-in-7-I32.ensures.1

pub returns-in_ok-time_row-in-8-I64-clause-ok : goal.returns-in_ok-time_row-in-8-I64-clause-ok
returns-in_ok-time_row-in-8-I64-clause-ok g c = λ item rest s.
    let id = sym (to_z-of_z w16 c.args.found.id (record { sfits = search rules })) ∙ ap (to_z w16) c.in-8-I64.is-0 in
    let w = holds g.P.Parts.spells c.args.left c.args.found item c.args.c.now.rest rest s (pos 8) kinds.I64 id c.in-8-I64.is-1 in
    let t = c.sure_long-in-8-I64.ensures.stands w.held rest (long_there g.P.Parts.spells c.args.left c.args.found item c.args.c.now.rest rest w.held w.stands) in
    let sets = c.in_ok-time_row-in-8-I64.ensures.ok in (
      t.1,
      λ first seen gathered.
          gathered_more (structs g.P.Parts.spells c.args.left) 0 (jspan_table g.P.Parts.spells c.args.left) (span_shape g.P.Parts.spells (λ m. struct_laws g.P.Parts.spells _ _ _ g.met.P.Parts.reads_exactly g.met.P.Parts.part_laws m) c.args.left) (λ given. GatheredJSpan g.P.Parts.spells c.args.left (record { low = c.args.self.now.low; high = c.args.self.now.high; id = c.args.self.now.id; parent = c.args.self.now.parent; name = c.args.self.now.name; references = c.args.self.now.references; flags = c.args.self.now.flags; start = c.time_row.new.row; duration = c.args.self.now.duration; tags = c.args.self.now.tags; logs = c.args.self.now.logs }) given) seen item (field_of (pos 8) kinds.I64 w.held item.text) w.is
          (record { low = gathered.low; high = gathered.high; id = gathered.id; parent = gathered.parent; name = gathered.name; references = gathered.references; flags = gathered.flags; start = subst (λ x. Sets MeansTime x c.args.self.now.start c.time_row.new.row) (to_z-of_z w64 c.sure_long-in-8-I64.result (record { sfits = search rules }) ∙ t.0) sets _ gathered.start; duration = gathered.duration; tags = gathered.tags; logs = gathered.logs }),
    )

pub returns-in_ok-time_row-in-8-I64-clause-judged : goal.returns-in_ok-time_row-in-8-I64-clause-judged
returns-in_ok-time_row-in-8-I64-clause-judged g c = λ item rest s first seen gathered.
    let id = sym (to_z-of_z w16 c.args.found.id (record { sfits = search rules })) ∙ ap (to_z w16) c.in-8-I64.is-0 in
    let w = holds g.P.Parts.spells c.args.left c.args.found item c.args.c.now.rest rest s (pos 8) kinds.I64 id c.in-8-I64.is-1 in
    let t = c.sure_long-in-8-I64.ensures.stands w.held rest (long_there g.P.Parts.spells c.args.left c.args.found item c.args.c.now.rest rest w.held w.stands) in
    judged_at (jspan_table g.P.Parts.spells c.args.left) seen item (field_of (pos 8) kinds.I64 w.held item.text) w.is (λ p m h. h) (Ok tt)
    (subst (λ x. JudgesCause {T = Unit} (Ok tt) (λ n. Twice (givens (jspan_table g.P.Parts.spells c.args.left) seen).1.1.1.1.1.1.1.0 n ⊎ BadTime x n)) (to_z-of_z w64 c.sure_long-in-8-I64.result (record { sfits = search rules }) ∙ t.0) (c.in_ok-time_row-in-8-I64.ensures.judged _ gathered.start))

pub returns-in_err-time_row-in-8-I64-clause-judged : goal.returns-in_err-time_row-in-8-I64-clause-judged
returns-in_err-time_row-in-8-I64-clause-judged g c = λ item rest s first seen gathered.
    let id = sym (to_z-of_z w16 c.args.found.id (record { sfits = search rules })) ∙ ap (to_z w16) c.in-8-I64.is-0 in
    let w = holds g.P.Parts.spells c.args.left c.args.found item c.args.c.now.rest rest s (pos 8) kinds.I64 id c.in-8-I64.is-1 in
    let t = c.sure_long-in-8-I64.ensures.stands w.held rest (long_there g.P.Parts.spells c.args.left c.args.found item c.args.c.now.rest rest w.held w.stands) in
    refused_at (jspan_table g.P.Parts.spells c.args.left) seen item (field_of (pos 8) kinds.I64 w.held item.text) w.is (λ p m h. h) c.in_err-time_row-in-8-I64.field-0.0
    (subst (λ x. JudgesCause {T = Unit} (Err c.in_err-time_row-in-8-I64.field-0.0) (λ n. Twice (givens (jspan_table g.P.Parts.spells c.args.left) seen).1.1.1.1.1.1.1.0 n ⊎ BadTime x n)) (to_z-of_z w64 c.sure_long-in-8-I64.result (record { sfits = search rules }) ∙ t.0) (c.in_err-time_row-in-8-I64.ensures.judged _ gathered.start)) c.from_residual-in_err-time_row-in-8-I64.result c.from_residual-in_err-time_row-in-8-I64.ensures.1

pub returns-in_ok-time_row-in-9-I64-clause-ok : goal.returns-in_ok-time_row-in-9-I64-clause-ok
returns-in_ok-time_row-in-9-I64-clause-ok g c = λ item rest s.
    let id = sym (to_z-of_z w16 c.args.found.id (record { sfits = search rules })) ∙ ap (to_z w16) c.in-9-I64.is-0 in
    let w = holds g.P.Parts.spells c.args.left c.args.found item c.args.c.now.rest rest s (pos 9) kinds.I64 id c.in-9-I64.is-1 in
    let t = c.sure_long-in-9-I64.ensures.stands w.held rest (long_there g.P.Parts.spells c.args.left c.args.found item c.args.c.now.rest rest w.held w.stands) in
    let sets = c.in_ok-time_row-in-9-I64.ensures.ok in (
      t.1,
      λ first seen gathered.
          gathered_more (structs g.P.Parts.spells c.args.left) 0 (jspan_table g.P.Parts.spells c.args.left) (span_shape g.P.Parts.spells (λ m. struct_laws g.P.Parts.spells _ _ _ g.met.P.Parts.reads_exactly g.met.P.Parts.part_laws m) c.args.left) (λ given. GatheredJSpan g.P.Parts.spells c.args.left (record { low = c.args.self.now.low; high = c.args.self.now.high; id = c.args.self.now.id; parent = c.args.self.now.parent; name = c.args.self.now.name; references = c.args.self.now.references; flags = c.args.self.now.flags; start = c.args.self.now.start; duration = c.time_row-in-9-I64.new.row; tags = c.args.self.now.tags; logs = c.args.self.now.logs }) given) seen item (field_of (pos 9) kinds.I64 w.held item.text) w.is
          (record { low = gathered.low; high = gathered.high; id = gathered.id; parent = gathered.parent; name = gathered.name; references = gathered.references; flags = gathered.flags; start = gathered.start; duration = subst (λ x. Sets MeansTime x c.args.self.now.duration c.time_row-in-9-I64.new.row) (to_z-of_z w64 c.sure_long-in-9-I64.result (record { sfits = search rules }) ∙ t.0) sets _ gathered.duration; tags = gathered.tags; logs = gathered.logs }),
    )

pub returns-in_ok-time_row-in-9-I64-clause-judged : goal.returns-in_ok-time_row-in-9-I64-clause-judged
returns-in_ok-time_row-in-9-I64-clause-judged g c = λ item rest s first seen gathered.
    let id = sym (to_z-of_z w16 c.args.found.id (record { sfits = search rules })) ∙ ap (to_z w16) c.in-9-I64.is-0 in
    let w = holds g.P.Parts.spells c.args.left c.args.found item c.args.c.now.rest rest s (pos 9) kinds.I64 id c.in-9-I64.is-1 in
    let t = c.sure_long-in-9-I64.ensures.stands w.held rest (long_there g.P.Parts.spells c.args.left c.args.found item c.args.c.now.rest rest w.held w.stands) in
    judged_at (jspan_table g.P.Parts.spells c.args.left) seen item (field_of (pos 9) kinds.I64 w.held item.text) w.is (λ p m h. h) (Ok tt)
    (subst (λ x. JudgesCause {T = Unit} (Ok tt) (λ n. Twice (givens (jspan_table g.P.Parts.spells c.args.left) seen).1.1.1.1.1.1.1.1.0 n ⊎ BadTime x n)) (to_z-of_z w64 c.sure_long-in-9-I64.result (record { sfits = search rules }) ∙ t.0) (c.in_ok-time_row-in-9-I64.ensures.judged _ gathered.duration))

pub returns-in_err-time_row-in-9-I64-clause-judged : goal.returns-in_err-time_row-in-9-I64-clause-judged
returns-in_err-time_row-in-9-I64-clause-judged g c = λ item rest s first seen gathered.
    let id = sym (to_z-of_z w16 c.args.found.id (record { sfits = search rules })) ∙ ap (to_z w16) c.in-9-I64.is-0 in
    let w = holds g.P.Parts.spells c.args.left c.args.found item c.args.c.now.rest rest s (pos 9) kinds.I64 id c.in-9-I64.is-1 in
    let t = c.sure_long-in-9-I64.ensures.stands w.held rest (long_there g.P.Parts.spells c.args.left c.args.found item c.args.c.now.rest rest w.held w.stands) in
    refused_at (jspan_table g.P.Parts.spells c.args.left) seen item (field_of (pos 9) kinds.I64 w.held item.text) w.is (λ p m h. h) c.in_err-time_row-in-9-I64.field-0.0
    (subst (λ x. JudgesCause {T = Unit} (Err c.in_err-time_row-in-9-I64.field-0.0) (λ n. Twice (givens (jspan_table g.P.Parts.spells c.args.left) seen).1.1.1.1.1.1.1.1.0 n ⊎ BadTime x n)) (to_z-of_z w64 c.sure_long-in-9-I64.result (record { sfits = search rules }) ∙ t.0) (c.in_err-time_row-in-9-I64.ensures.judged _ gathered.duration)) c.from_residual-in_err-time_row-in-9-I64.result c.from_residual-in_err-time_row-in-9-I64.ensures.1

pub returns-in-10-List-clause-ok : goal.returns-in-10-List-clause-ok
returns-in-10-List-clause-ok g c = λ item rest s.
    let id = sym (to_z-of_z w16 c.args.found.id (record { sfits = search rules })) ∙ ap (to_z w16) c.in-10-List.is-0 in
    let w = holds g.P.Parts.spells c.args.left c.args.found item c.args.c.now.rest rest s (pos 10) kinds.List id c.in-10-List.is-1 in
    let value = its_list g.P.Parts.spells c.args.left c.args.found item c.args.c.now.rest rest s w.held (ap (λ (i : FieldItem). i.tree) w.is) in
    ok_then _ _ c.structures_row.result (λ both. (
      both.0,
      λ first seen gathered.
          gathered_more (structs g.P.Parts.spells c.args.left) 0 (jspan_table g.P.Parts.spells c.args.left) (span_shape g.P.Parts.spells (λ m. struct_laws g.P.Parts.spells _ _ _ g.met.P.Parts.reads_exactly g.met.P.Parts.part_laws m) c.args.left) (λ given. GatheredJSpan g.P.Parts.spells c.args.left (record { low = c.args.self.now.low; high = c.args.self.now.high; id = c.args.self.now.id; parent = c.args.self.now.parent; name = c.args.self.now.name; references = c.args.self.now.references; flags = c.args.self.now.flags; start = c.args.self.now.start; duration = c.args.self.now.duration; tags = c.structures_row.new.row; logs = c.args.self.now.logs }) given) seen item (field_of (pos 10) kinds.List w.held item.text) w.is
          (record { low = gathered.low; high = gathered.high; id = gathered.id; parent = gathered.parent; name = gathered.name; references = gathered.references; flags = gathered.flags; start = gathered.start; duration = gathered.duration; tags = both.1 _ gathered.tags; logs = gathered.logs }),
    )) (c.structures_row.ensures.ok item.text rest w.held s.parts value)

pub returns-in-10-List-clause-judged : goal.returns-in-10-List-clause-judged
returns-in-10-List-clause-judged g c = λ item rest s first seen gathered.
    let id = sym (to_z-of_z w16 c.args.found.id (record { sfits = search rules })) ∙ ap (to_z w16) c.in-10-List.is-0 in
    let w = holds g.P.Parts.spells c.args.left c.args.found item c.args.c.now.rest rest s (pos 10) kinds.List id c.in-10-List.is-1 in
    let value = its_list g.P.Parts.spells c.args.left c.args.found item c.args.c.now.rest rest s w.held (ap (λ (i : FieldItem). i.tree) w.is) in
    subst (λ (x : FieldItem). Judges c.structures_row.result (HereOrInside (table_here (jspan_table g.P.Parts.spells c.args.left) seen x) (table_inside (jspan_table g.P.Parts.spells c.args.left) x))) (sym w.is)
    (c.structures_row.ensures.judged item.text rest w.held s.parts value _ gathered.tags)

pub returns-in-11-List-clause-ok : goal.returns-in-11-List-clause-ok
returns-in-11-List-clause-ok g c = λ item rest s.
    let id = sym (to_z-of_z w16 c.args.found.id (record { sfits = search rules })) ∙ ap (to_z w16) c.in-11-List.is-0 in
    let w = holds g.P.Parts.spells c.args.left c.args.found item c.args.c.now.rest rest s (pos 11) kinds.List id c.in-11-List.is-1 in
    let value = its_list g.P.Parts.spells c.args.left c.args.found item c.args.c.now.rest rest s w.held (ap (λ (i : FieldItem). i.tree) w.is) in
    ok_then _ _ c.structures_row-in-11-List.result (λ both. (
      both.0,
      λ first seen gathered.
          gathered_more (structs g.P.Parts.spells c.args.left) 0 (jspan_table g.P.Parts.spells c.args.left) (span_shape g.P.Parts.spells (λ m. struct_laws g.P.Parts.spells _ _ _ g.met.P.Parts.reads_exactly g.met.P.Parts.part_laws m) c.args.left) (λ given. GatheredJSpan g.P.Parts.spells c.args.left (record { low = c.args.self.now.low; high = c.args.self.now.high; id = c.args.self.now.id; parent = c.args.self.now.parent; name = c.args.self.now.name; references = c.args.self.now.references; flags = c.args.self.now.flags; start = c.args.self.now.start; duration = c.args.self.now.duration; tags = c.args.self.now.tags; logs = c.structures_row-in-11-List.new.row }) given) seen item (field_of (pos 11) kinds.List w.held item.text) w.is
          (record { low = gathered.low; high = gathered.high; id = gathered.id; parent = gathered.parent; name = gathered.name; references = gathered.references; flags = gathered.flags; start = gathered.start; duration = gathered.duration; tags = gathered.tags; logs = both.1 _ gathered.logs }),
    )) (c.structures_row-in-11-List.ensures.ok item.text rest w.held s.parts value)

pub returns-in-11-List-clause-judged : goal.returns-in-11-List-clause-judged
returns-in-11-List-clause-judged g c = λ item rest s first seen gathered.
    let id = sym (to_z-of_z w16 c.args.found.id (record { sfits = search rules })) ∙ ap (to_z w16) c.in-11-List.is-0 in
    let w = holds g.P.Parts.spells c.args.left c.args.found item c.args.c.now.rest rest s (pos 11) kinds.List id c.in-11-List.is-1 in
    let value = its_list g.P.Parts.spells c.args.left c.args.found item c.args.c.now.rest rest s w.held (ap (λ (i : FieldItem). i.tree) w.is) in
    subst (λ (x : FieldItem). Judges c.structures_row-in-11-List.result (HereOrInside (table_here (jspan_table g.P.Parts.spells c.args.left) seen x) (table_inside (jspan_table g.P.Parts.spells c.args.left) x))) (sym w.is)
    (c.structures_row-in-11-List.ensures.judged item.text rest w.held s.parts value _ gathered.logs)

pub returns-in_default-clause-ok : goal.returns-in_default-clause-ok
returns-in_default-clause-ok g c = λ item rest s.
    let unknown : Unknown span_keys (of_z w16 c.args.found.id) c.args.found.kind = elim c.in_default.branch [
      | in_default-via-in-1+in-Truth-1 w ↦ unknown_type span_keys _ _ 1 kinds.I64 w.in_default.is-0 w.in_default.not-I64-1 (refl, (tt, (tt, (tt, (tt, (tt, (tt, (tt, (tt, (tt, (tt, tt)))))))))))
      | in_default-via-in-2+in-Truth-1 w ↦ unknown_type span_keys _ _ 2 kinds.I64 w.in_default.is-0 w.in_default.not-I64-1 (tt, (refl, (tt, (tt, (tt, (tt, (tt, (tt, (tt, (tt, (tt, tt)))))))))))
      | in_default-via-in-3+in-Truth-1 w ↦ unknown_type span_keys _ _ 3 kinds.I64 w.in_default.is-0 w.in_default.not-I64-1 (tt, (tt, (refl, (tt, (tt, (tt, (tt, (tt, (tt, (tt, (tt, tt)))))))))))
      | in_default-via-in-4+in-Truth-1 w ↦ unknown_type span_keys _ _ 4 kinds.I64 w.in_default.is-0 w.in_default.not-I64-1 (tt, (tt, (tt, (refl, (tt, (tt, (tt, (tt, (tt, (tt, (tt, tt)))))))))))
      | in_default-via-in-5+in-Truth-1 w ↦ unknown_type span_keys _ _ 5 kinds.Binary w.in_default.is-0 w.in_default.not-Binary-1 (tt, (tt, (tt, (tt, (refl, (tt, (tt, (tt, (tt, (tt, (tt, tt)))))))))))
      | in_default-via-in-6+in-Truth-1 w ↦ unknown_type span_keys _ _ 6 kinds.List w.in_default.is-0 w.in_default.not-List-1 (tt, (tt, (tt, (tt, (tt, (refl, (tt, (tt, (tt, (tt, (tt, tt)))))))))))
      | in_default-via-in-7+in-Truth-1 w ↦ unknown_type span_keys _ _ 7 kinds.I32 w.in_default.is-0 w.in_default.not-I32-1 (tt, (tt, (tt, (tt, (tt, (tt, (refl, (tt, (tt, (tt, (tt, tt)))))))))))
      | in_default-via-in-8+in-Truth-1 w ↦ unknown_type span_keys _ _ 8 kinds.I64 w.in_default.is-0 w.in_default.not-I64-1 (tt, (tt, (tt, (tt, (tt, (tt, (tt, (refl, (tt, (tt, (tt, tt)))))))))))
      | in_default-via-in-9+in-Truth-1 w ↦ unknown_type span_keys _ _ 9 kinds.I64 w.in_default.is-0 w.in_default.not-I64-1 (tt, (tt, (tt, (tt, (tt, (tt, (tt, (tt, (refl, (tt, (tt, tt)))))))))))
      | in_default-via-in-10+in-Truth-1 w ↦ unknown_type span_keys _ _ 10 kinds.List w.in_default.is-0 w.in_default.not-List-1 (tt, (tt, (tt, (tt, (tt, (tt, (tt, (tt, (tt, (refl, (tt, tt)))))))))))
      | in_default-via-in-11+in-Truth-1 w ↦ unknown_type span_keys _ _ 11 kinds.List w.in_default.is-0 w.in_default.not-List-1 (tt, (tt, (tt, (tt, (tt, (tt, (tt, (tt, (tt, (tt, (refl, tt)))))))))))
      | in_default-via-in_default w ↦ (λ at of. w.in_default.is-0.0.0.0.0.0.0.0.0.0.0.1 at, (λ at of. w.in_default.is-0.0.0.0.0.0.0.0.0.0.1 at, (λ at of. w.in_default.is-0.0.0.0.0.0.0.0.0.1 at, (λ at of. w.in_default.is-0.0.0.0.0.0.0.0.1 at, (λ at of. w.in_default.is-0.0.0.0.0.0.0.1 at, (λ at of. w.in_default.is-0.0.0.0.0.0.1 at, (λ at of. w.in_default.is-0.0.0.0.0.1 at, (λ at of. w.in_default.is-0.0.0.0.1 at, (λ at of. w.in_default.is-0.0.0.1 at, (λ at of. w.in_default.is-0.0.1 at, (λ at of. w.in_default.is-0.1 at, tt)))))))))))
    ] in
    let free = span_free g.P.Parts.spells c.args.left item c.args.found s.id s.kind unknown in (
      c.pass_over.ensures.stands rest (begins_value g.P.Parts.spells c.args.left c.args.found item c.args.c.now.rest rest s),
      λ first seen gathered.
          gathered_free (structs g.P.Parts.spells c.args.left) 0 (jspan_table g.P.Parts.spells c.args.left) (span_shape g.P.Parts.spells (λ m. struct_laws g.P.Parts.spells _ _ _ g.met.P.Parts.reads_exactly g.met.P.Parts.part_laws m) c.args.left) (λ given. GatheredJSpan g.P.Parts.spells c.args.left c.args.self.now given) seen item free gathered,
    )

pub returns-in_default-clause-judged : goal.returns-in_default-clause-judged
returns-in_default-clause-judged g c = λ item rest s first seen gathered.
    let unknown : Unknown span_keys (of_z w16 c.args.found.id) c.args.found.kind = elim c.in_default.branch [
      | in_default-via-in-1+in-Truth-1 w ↦ unknown_type span_keys _ _ 1 kinds.I64 w.in_default.is-0 w.in_default.not-I64-1 (refl, (tt, (tt, (tt, (tt, (tt, (tt, (tt, (tt, (tt, (tt, tt)))))))))))
      | in_default-via-in-2+in-Truth-1 w ↦ unknown_type span_keys _ _ 2 kinds.I64 w.in_default.is-0 w.in_default.not-I64-1 (tt, (refl, (tt, (tt, (tt, (tt, (tt, (tt, (tt, (tt, (tt, tt)))))))))))
      | in_default-via-in-3+in-Truth-1 w ↦ unknown_type span_keys _ _ 3 kinds.I64 w.in_default.is-0 w.in_default.not-I64-1 (tt, (tt, (refl, (tt, (tt, (tt, (tt, (tt, (tt, (tt, (tt, tt)))))))))))
      | in_default-via-in-4+in-Truth-1 w ↦ unknown_type span_keys _ _ 4 kinds.I64 w.in_default.is-0 w.in_default.not-I64-1 (tt, (tt, (tt, (refl, (tt, (tt, (tt, (tt, (tt, (tt, (tt, tt)))))))))))
      | in_default-via-in-5+in-Truth-1 w ↦ unknown_type span_keys _ _ 5 kinds.Binary w.in_default.is-0 w.in_default.not-Binary-1 (tt, (tt, (tt, (tt, (refl, (tt, (tt, (tt, (tt, (tt, (tt, tt)))))))))))
      | in_default-via-in-6+in-Truth-1 w ↦ unknown_type span_keys _ _ 6 kinds.List w.in_default.is-0 w.in_default.not-List-1 (tt, (tt, (tt, (tt, (tt, (refl, (tt, (tt, (tt, (tt, (tt, tt)))))))))))
      | in_default-via-in-7+in-Truth-1 w ↦ unknown_type span_keys _ _ 7 kinds.I32 w.in_default.is-0 w.in_default.not-I32-1 (tt, (tt, (tt, (tt, (tt, (tt, (refl, (tt, (tt, (tt, (tt, tt)))))))))))
      | in_default-via-in-8+in-Truth-1 w ↦ unknown_type span_keys _ _ 8 kinds.I64 w.in_default.is-0 w.in_default.not-I64-1 (tt, (tt, (tt, (tt, (tt, (tt, (tt, (refl, (tt, (tt, (tt, tt)))))))))))
      | in_default-via-in-9+in-Truth-1 w ↦ unknown_type span_keys _ _ 9 kinds.I64 w.in_default.is-0 w.in_default.not-I64-1 (tt, (tt, (tt, (tt, (tt, (tt, (tt, (tt, (refl, (tt, (tt, tt)))))))))))
      | in_default-via-in-10+in-Truth-1 w ↦ unknown_type span_keys _ _ 10 kinds.List w.in_default.is-0 w.in_default.not-List-1 (tt, (tt, (tt, (tt, (tt, (tt, (tt, (tt, (tt, (refl, (tt, tt)))))))))))
      | in_default-via-in-11+in-Truth-1 w ↦ unknown_type span_keys _ _ 11 kinds.List w.in_default.is-0 w.in_default.not-List-1 (tt, (tt, (tt, (tt, (tt, (tt, (tt, (tt, (tt, (tt, (refl, tt)))))))))))
      | in_default-via-in_default w ↦ (λ at of. w.in_default.is-0.0.0.0.0.0.0.0.0.0.0.1 at, (λ at of. w.in_default.is-0.0.0.0.0.0.0.0.0.0.1 at, (λ at of. w.in_default.is-0.0.0.0.0.0.0.0.0.1 at, (λ at of. w.in_default.is-0.0.0.0.0.0.0.0.1 at, (λ at of. w.in_default.is-0.0.0.0.0.0.0.1 at, (λ at of. w.in_default.is-0.0.0.0.0.0.1 at, (λ at of. w.in_default.is-0.0.0.0.0.1 at, (λ at of. w.in_default.is-0.0.0.0.1 at, (λ at of. w.in_default.is-0.0.0.1 at, (λ at of. w.in_default.is-0.0.1 at, (λ at of. w.in_default.is-0.1 at, tt)))))))))))
    ] in
    let free = span_free g.P.Parts.spells c.args.left item c.args.found s.id s.kind unknown in
    free_fine (jspan_table g.P.Parts.spells c.args.left) seen item free

pub structures_row-requires : goal.structures_row-requires
structures_row-requires g c = record { levels = c.requires.levels; lawful = tag_laws g.P.Parts.spells (c.args.left - 2) ((λ (m : ℕ). struct_laws g.P.Parts.spells _ _ _ g.met.P.Parts.reads_exactly g.met.P.Parts.part_laws m) (c.args.left - 2)) }

pub structures_row-requires-in-11-List : goal.structures_row-requires-in-11-List
structures_row-requires-in-11-List g c = record { levels = c.requires.levels; lawful = log_laws g.P.Parts.spells (λ (m : ℕ). struct_laws g.P.Parts.spells _ _ _ g.met.P.Parts.reads_exactly g.met.P.Parts.part_laws m) (c.args.left - 2) }
