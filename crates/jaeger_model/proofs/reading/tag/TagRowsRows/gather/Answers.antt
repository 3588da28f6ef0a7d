use Rattle.std.proofs.Common.{pos, refl, sym, ap, subst, ◌∙◌, to_z, of_z, w16, w32, w64, rules, Ok, Err}
use Rattle.std.specs.Prelude.{◌⊎◌}
use Rattle.std.proofs.lemmas.Int.{to_z-of_z}
use Rattle.span_io.proofs.GatheringLaws.{judged_at, refused_at}
use Rattle.span_io.specs.Offences.{JudgesHere}
use Rattle.span_io.specs.RowsSoFar.{Sets}
use Rattle.span_io.specs.private.RowSteps.{JudgesCause}
use Rattle.span_io.specs.Tables.{Twice, MeansText, NotText, givens}
use Rattle.thrift_core.specs.declared.type_code.TypeCode.TheVariants as kinds
use Rattle.thrift_core.specs.Messages.{structs}
use Rattle.jaeger_model.specs.Meanings.{Means, MeansEnum}
use Rattle.jaeger_model.specs.Rows.{BadEnum}
use Rattle.jaeger_model.specs.Tag.{tag_table, tag_type_number}
use Rattle.jaeger_model.specs.private.TagSoFar.{GatheredTag}
use Rattle.jaeger_model.proofs.FieldLemmas.{Unknown, field_of, holds, begins_value, binary_there, int_there, long_there, truth_there, eight_there, gathered_more, gathered_free, free_fine, ok_then, unknown_type}
use Rattle.jaeger_model.proofs.TagLemmas.{tag_shape, tag_keys, tag_free}
use Rattle.jaeger_model.proofs.reading.tag.TagRowsRows.gather.Goals.{in_default-via-in-1+in-Truth-1, in_default-via-in-2+in-Truth-1, in_default-via-in-3+in-Truth-1, in_default-via-in-4+in-Truth-1, in_default-via-in-5+in-I8-1, in_default-via-in-6+in-Truth-1, in_default-via-in-7+in-Truth-1, in_default-via-in_default}
use Rattle.jaeger_model.proofs.reading.tag.TagRowsRows.gather.Goals as goal

pub returns-in-1-Binary-clause-ok : goal.returns-in-1-Binary-clause-ok
returns-in-1-Binary-clause-ok g c = λ item rest s.
    let id = sym (to_z-of_z w16 c.args.found.id (record { sfits = search rules })) ∙ ap (to_z w16) c.in-1-Binary.is-0 in
    let w = holds g.P.Parts.spells c.args.left c.args.found item c.args.c.now.rest rest s (pos 1) kinds.Binary id c.in-1-Binary.is-1 in
    let t = c.sure_bytes.ensures.stands w.held rest (binary_there g.P.Parts.spells c.args.left c.args.found item c.args.c.now.rest rest w.held w.stands) in
    ok_then _ _ c.text_row.result (λ sets. (
      t.1,
      λ first seen gathered.
          gathered_more (structs g.P.Parts.spells c.args.left) 0 tag_table (tag_shape g.P.Parts.spells c.args.left) (λ given. GatheredTag (record { key = c.text_row.new.row; kind = c.args.self.now.kind; text = c.args.self.now.text; double = c.args.self.now.double; truth = c.args.self.now.truth; number = c.args.self.now.number; bytes = c.args.self.now.bytes }) given) seen item (field_of (pos 1) kinds.Binary w.held item.text) w.is
          (record { key = subst (λ x. Sets MeansText x c.args.self.now.key c.text_row.new.row) (t.0) sets _ gathered.key; kind = gathered.kind; text = gathered.text; double = gathered.double; truth = gathered.truth; number = gathered.number; bytes = gathered.bytes }),
    )) c.text_row.ensures.ok

pub returns-in-1-Binary-clause-judged : goal.returns-in-1-Binary-clause-judged
returns-in-1-Binary-clause-judged g c = λ item rest s first seen gathered.
    let id = sym (to_z-of_z w16 c.args.found.id (record { sfits = search rules })) ∙ ap (to_z w16) c.in-1-Binary.is-0 in
    let w = holds g.P.Parts.spells c.args.left c.args.found item c.args.c.now.rest rest s (pos 1) kinds.Binary id c.in-1-Binary.is-1 in
    let t = c.sure_bytes.ensures.stands w.held rest (binary_there g.P.Parts.spells c.args.left c.args.found item c.args.c.now.rest rest w.held w.stands) in
    judged_at tag_table seen item (field_of (pos 1) kinds.Binary w.held item.text) w.is (λ p m h. h) c.text_row.result
    (subst (λ x. JudgesHere c.text_row.result (λ n. Twice (givens tag_table seen).0 n ⊎ NotText x n)) (t.0) (c.text_row.ensures.judged _ gathered.key))

pub returns-in_ok-tag_type_row-in-2-I32-clause-ok : goal.returns-in_ok-tag_type_row-in-2-I32-clause-ok
returns-in_ok-tag_type_row-in-2-I32-clause-ok g c = λ item rest s.
    let id = sym (to_z-of_z w16 c.args.found.id (record { sfits = search rules })) ∙ ap (to_z w16) c.in-2-I32.is-0 in
    let w = holds g.P.Parts.spells c.args.left c.args.found item c.args.c.now.rest rest s (pos 2) kinds.I32 id c.in-2-I32.is-1 in
    let t = c.sure_int.ensures.stands w.held rest (int_there g.P.Parts.spells c.args.left c.args.found item c.args.c.now.rest rest w.held w.stands) in
    let sets = c.in_ok-tag_type_row-in-2-I32.ensures.ok in (
      t.1,
      λ first seen gathered.
          gathered_more (structs g.P.Parts.spells c.args.left) 0 tag_table (tag_shape g.P.Parts.spells c.args.left) (λ given. GatheredTag (record { key = c.args.self.now.key; kind = c.tag_type_row.new.row; text = c.args.self.now.text; double = c.args.self.now.double; truth = c.args.self.now.truth; number = c.args.self.now.number; bytes = c.args.self.now.bytes }) given) seen item (field_of (pos 2) kinds.I32 w.held item.text) w.is
          (record { key = gathered.key; kind = subst (λ x. Sets (MeansEnum tag_type_number) x c.args.self.now.kind c.tag_type_row.new.row) (to_z-of_z w32 c.sure_int.result (record { sfits = search rules }) ∙ t.0) sets _ gathered.kind; text = gathered.text; double = gathered.double; truth = gathered.truth; number = gathered.number; bytes = gathered.bytes }),
    )

pub returns-in_ok-tag_type_row-in-2-I32-clause-judged : goal.returns-in_ok-tag_type_row-in-2-I32-clause-judged
returns-in_ok-tag_type_row-in-2-I32-clause-judged g c = λ item rest s first seen gathered.
    let id = sym (to_z-of_z w16 c.args.found.id (record { sfits = search rules })) ∙ ap (to_z w16) c.in-2-I32.is-0 in
    let w = holds g.P.Parts.spells c.args.left c.args.found item c.args.c.now.rest rest s (pos 2) kinds.I32 id c.in-2-I32.is-1 in
    let t = c.sure_int.ensures.stands w.held rest (int_there g.P.Parts.spells c.args.left c.args.found item c.args.c.now.rest rest w.held w.stands) in
    judged_at tag_table seen item (field_of (pos 2) kinds.I32 w.held item.text) w.is (λ p m h. h) (Ok tt)
    (subst (λ x. JudgesCause {T = Unit} (Ok tt) (λ n. Twice (givens tag_table seen).1.0 n ⊎ BadEnum 4 x n)) (to_z-of_z w32 c.sure_int.result (record { sfits = search rules }) ∙ t.0) (c.in_ok-tag_type_row-in-2-I32.ensures.judged _ gathered.kind))

pub returns-in_err-tag_type_row-in-2-I32-clause-judged : goal.returns-in_err-tag_type_row-in-2-I32-clause-judged
returns-in_err-tag_type_row-in-2-I32-clause-judged g c = λ item rest s first seen gathered.
    let id = sym (to_z-of_z w16 c.args.found.id (record { sfits = search rules })) ∙ ap (to_z w16) c.in-2-I32.is-0 in
    let w = holds g.P.Parts.spells c.args.left c.args.found item c.args.c.now.rest rest s (pos 2) kinds.I32 id c.in-2-I32.is-1 in
    let t = c.sure_int.ensures.stands w.held rest (int_there g.P.Parts.spells c.args.left c.args.found item c.args.c.now.rest rest w.held w.stands) in
    refused_at tag_table seen item (field_of (pos 2) kinds.I32 w.held item.text) w.is (λ p m h. h) c.in_err-tag_type_row-in-2-I32.field-0.0
    (subst (λ x. JudgesCause {T = Unit} (Err c.in_err-tag_type_row-in-2-I32.field-0.0) (λ n. Twice (givens tag_table seen).1.0 n ⊎ BadEnum 4 x n)) (to_z-of_z w32 c.sure_int.result (record { sfits = search rules }) ∙ t.0) (c.in_err-tag_type_row-in-2-I32.ensures.judged _ gathered.kind)) c.from_residual.result c.from_residual.ensures.1

pub returns-in-3-Binary-clause-ok : goal.returns-in-3-Binary-clause-ok
returns-in-3-Binary-clause-ok g c = λ item rest s.
    let id = sym (to_z-of_z w16 c.args.found.id (record { sfits = search rules })) ∙ ap (to_z w16) c.in-3-Binary.is-0 in
    let w = holds g.P.Parts.spells c.args.left c.args.found item c.args.c.now.rest rest s (pos 3) kinds.Binary id c.in-3-Binary.is-1 in
    let t = c.sure_bytes-in-3-Binary.ensures.stands w.held rest (binary_there g.P.Parts.spells c.args.left c.args.found item c.args.c.now.rest rest w.held w.stands) in
    ok_then _ _ c.text_row-in-3-Binary.result (λ sets. (
      t.1,
      λ first seen gathered.
          gathered_more (structs g.P.Parts.spells c.args.left) 0 tag_table (tag_shape g.P.Parts.spells c.args.left) (λ given. GatheredTag (record { key = c.args.self.now.key; kind = c.args.self.now.kind; text = c.text_row-in-3-Binary.new.row; double = c.args.self.now.double; truth = c.args.self.now.truth; number = c.args.self.now.number; bytes = c.args.self.now.bytes }) given) seen item (field_of (pos 3) kinds.Binary w.held item.text) w.is
          (record { key = gathered.key; kind = gathered.kind; text = subst (λ x. Sets MeansText x c.args.self.now.text c.text_row-in-3-Binary.new.row) (t.0) sets _ gathered.text; double = gathered.double; truth = gathered.truth; number = gathered.number; bytes = gathered.bytes }),
    )) c.text_row-in-3-Binary.ensures.ok

pub returns-in-3-Binary-clause-judged : goal.returns-in-3-Binary-clause-judged
returns-in-3-Binary-clause-judged g c = λ item rest s first seen gathered.
    let id = sym (to_z-of_z w16 c.args.found.id (record { sfits = search rules })) ∙ ap (to_z w16) c.in-3-Binary.is-0 in
    let w = holds g.P.Parts.spells c.args.left c.args.found item c.args.c.now.rest rest s (pos 3) kinds.Binary id c.in-3-Binary.is-1 in
    let t = c.sure_bytes-in-3-Binary.ensures.stands w.held rest (binary_there g.P.Parts.spells c.args.left c.args.found item c.args.c.now.rest rest w.held w.stands) in
    judged_at tag_table seen item (field_of (pos 3) kinds.Binary w.held item.text) w.is (λ p m h. h) c.text_row-in-3-Binary.result
    (subst (λ x. JudgesHere c.text_row-in-3-Binary.result (λ n. Twice (givens tag_table seen).1.1.0 n ⊎ NotText x n)) (t.0) (c.text_row-in-3-Binary.ensures.judged _ gathered.text))

pub returns-in_ok-double_row-in-4-Eight-clause-ok : goal.returns-in_ok-double_row-in-4-Eight-clause-ok
returns-in_ok-double_row-in-4-Eight-clause-ok g c = λ item rest s.
    let id = sym (to_z-of_z w16 c.args.found.id (record { sfits = search rules })) ∙ ap (to_z w16) c.in-4-Eight.is-0 in
    let w = holds g.P.Parts.spells c.args.left c.args.found item c.args.c.now.rest rest s (pos 4) kinds.Eight id c.in-4-Eight.is-1 in
    let t = c.sure_eight.ensures.stands w.held rest (eight_there g.P.Parts.spells c.args.left c.args.found item c.args.c.now.rest rest w.held w.stands) in
    let sets = c.in_ok-double_row-in-4-Eight.ensures.ok in (
      t.1,
      λ first seen gathered.
          gathered_more (structs g.P.Parts.spells c.args.left) 0 tag_table (tag_shape g.P.Parts.spells c.args.left) (λ given. GatheredTag (record { key = c.args.self.now.key; kind = c.args.self.now.kind; text = c.args.self.now.text; double = c.double_row.new.row; truth = c.args.self.now.truth; number = c.args.self.now.number; bytes = c.args.self.now.bytes }) given) seen item (field_of (pos 4) kinds.Eight w.held item.text) w.is
          (record { key = gathered.key; kind = gathered.kind; text = gathered.text; double = subst (λ x. Sets Means x c.args.self.now.double c.double_row.new.row) (t.0) sets _ gathered.double; truth = gathered.truth; number = gathered.number; bytes = gathered.bytes }),
    )

pub returns-in_ok-truth_row-in-5-Truth-clause-ok : goal.returns-in_ok-truth_row-in-5-Truth-clause-ok
returns-in_ok-truth_row-in-5-Truth-clause-ok g c = λ item rest s.
    let id = sym (to_z-of_z w16 c.args.found.id (record { sfits = search rules })) ∙ ap (to_z w16) c.in-5-Truth.is-0 in
    let w = holds g.P.Parts.spells c.args.left c.args.found item c.args.c.now.rest rest s (pos 5) kinds.Truth id c.in-5-Truth.is-1 in
    let t = c.sure_truth.ensures.stands w.held rest (truth_there g.P.Parts.spells c.args.left c.args.found item c.args.c.now.rest rest w.held w.stands) in
    let sets = c.in_ok-truth_row-in-5-Truth.ensures.ok in (
      t.1,
      λ first seen gathered.
          gathered_more (structs g.P.Parts.spells c.args.left) 0 tag_table (tag_shape g.P.Parts.spells c.args.left) (λ given. GatheredTag (record { key = c.args.self.now.key; kind = c.args.self.now.kind; text = c.args.self.now.text; double = c.args.self.now.double; truth = c.truth_row.new.row; number = c.args.self.now.number; bytes = c.args.self.now.bytes }) given) seen item (field_of (pos 5) kinds.Truth w.held item.text) w.is
          (record { key = gathered.key; kind = gathered.kind; text = gathered.text; double = gathered.double; truth = subst (λ x. Sets Means x c.args.self.now.truth c.truth_row.new.row) (t.0) sets _ gathered.truth; number = gathered.number; bytes = gathered.bytes }),
    )

pub returns-in_ok-number_row-in-6-I64-clause-ok : goal.returns-in_ok-number_row-in-6-I64-clause-ok
returns-in_ok-number_row-in-6-I64-clause-ok g c = λ item rest s.
    let id = sym (to_z-of_z w16 c.args.found.id (record { sfits = search rules })) ∙ ap (to_z w16) c.in-6-I64.is-0 in
    let w = holds g.P.Parts.spells c.args.left c.args.found item c.args.c.now.rest rest s (pos 6) kinds.I64 id c.in-6-I64.is-1 in
    let t = c.sure_long.ensures.stands w.held rest (long_there g.P.Parts.spells c.args.left c.args.found item c.args.c.now.rest rest w.held w.stands) in
    let sets = c.in_ok-number_row-in-6-I64.ensures.ok in (
      t.1,
      λ first seen gathered.
          gathered_more (structs g.P.Parts.spells c.args.left) 0 tag_table (tag_shape g.P.Parts.spells c.args.left) (λ given. GatheredTag (record { key = c.args.self.now.key; kind = c.args.self.now.kind; text = c.args.self.now.text; double = c.args.self.now.double; truth = c.args.self.now.truth; number = c.number_row.new.row; bytes = c.args.self.now.bytes }) given) seen item (field_of (pos 6) kinds.I64 w.held item.text) w.is
          (record { key = gathered.key; kind = gathered.kind; text = gathered.text; double = gathered.double; truth = gathered.truth; number = subst (λ x. Sets Means x c.args.self.now.number c.number_row.new.row) (to_z-of_z w64 c.sure_long.result (record { sfits = search rules }) ∙ t.0) sets _ gathered.number; bytes = gathered.bytes }),
    )

pub returns-in-7-Binary-clause-ok : goal.returns-in-7-Binary-clause-ok
returns-in-7-Binary-clause-ok g c = λ item rest s.
    let id = sym (to_z-of_z w16 c.args.found.id (record { sfits = search rules })) ∙ ap (to_z w16) c.in-7-Binary.is-0 in
    let w = holds g.P.Parts.spells c.args.left c.args.found item c.args.c.now.rest rest s (pos 7) kinds.Binary id c.in-7-Binary.is-1 in
    let t = c.sure_bytes-in-7-Binary.ensures.stands w.held rest (binary_there g.P.Parts.spells c.args.left c.args.found item c.args.c.now.rest rest w.held w.stands) in
    ok_then _ _ c.bytes_row.result (λ sets. (
      t.1,
      λ first seen gathered.
          gathered_more (structs g.P.Parts.spells c.args.left) 0 tag_table (tag_shape g.P.Parts.spells c.args.left) (λ given. GatheredTag (record { key = c.args.self.now.key; kind = c.args.self.now.kind; text = c.args.self.now.text; double = c.args.self.now.double; truth = c.args.self.now.truth; number = c.args.self.now.number; bytes = c.bytes_row.new.row }) given) seen item (field_of (pos 7) kinds.Binary w.held item.text) w.is
          (record { key = gathered.key; kind = gathered.kind; text = gathered.text; double = gathered.double; truth = gathered.truth; number = gathered.number; bytes = subst (λ x. Sets Means x c.args.self.now.bytes c.bytes_row.new.row) (t.0) sets _ gathered.bytes }),
    )) c.bytes_row.ensures.ok

pub returns-in_default-clause-ok : goal.returns-in_default-clause-ok
returns-in_default-clause-ok g c = λ item rest s.
    let unknown : Unknown tag_keys (of_z w16 c.args.found.id) c.args.found.kind = elim c.in_default.branch [
      | in_default-via-in-1+in-Truth-1 w ↦ unknown_type tag_keys _ _ 1 kinds.Binary w.in_default.is-0 w.in_default.not-Binary-1 (refl, (tt, (tt, (tt, (tt, (tt, (tt, tt)))))))
      | in_default-via-in-2+in-Truth-1 w ↦ unknown_type tag_keys _ _ 2 kinds.I32 w.in_default.is-0 w.in_default.not-I32-1 (tt, (refl, (tt, (tt, (tt, (tt, (tt, tt)))))))
      | in_default-via-in-3+in-Truth-1 w ↦ unknown_type tag_keys _ _ 3 kinds.Binary w.in_default.is-0 w.in_default.not-Binary-1 (tt, (tt, (refl, (tt, (tt, (tt, (tt, tt)))))))
      | in_default-via-in-4+in-Truth-1 w ↦ unknown_type tag_keys _ _ 4 kinds.Eight w.in_default.is-0 w.in_default.not-Eight-1 (tt, (tt, (tt, (refl, (tt, (tt, (tt, tt)))))))
      | in_default-via-in-5+in-I8-1 w ↦ unknown_type tag_keys _ _ 5 kinds.Truth w.in_default.is-0 w.in_default.not-Truth-1 (tt, (tt, (tt, (tt, (refl, (tt, (tt, tt)))))))
      | in_default-via-in-6+in-Truth-1 w ↦ unknown_type tag_keys _ _ 6 kinds.I64 w.in_default.is-0 w.in_default.not-I64-1 (tt, (tt, (tt, (tt, (tt, (refl, (tt, tt)))))))
      | in_default-via-in-7+in-Truth-1 w ↦ unknown_type tag_keys _ _ 7 kinds.Binary w.in_default.is-0 w.in_default.not-Binary-1 (tt, (tt, (tt, (tt, (tt, (tt, (refl, tt)))))))
      | in_default-via-in_default w ↦ (λ at of. w.in_default.is-0.0.0.0.0.0.0.1 at, (λ at of. w.in_default.is-0.0.0.0.0.0.1 at, (λ at of. w.in_default.is-0.0.0.0.0.1 at, (λ at of. w.in_default.is-0.0.0.0.1 at, (λ at of. w.in_default.is-0.0.0.1 at, (λ at of. w.in_default.is-0.0.1 at, (λ at of. w.in_default.is-0.1 at, tt)))))))
    ] in
    let free = tag_free item c.args.found s.id s.kind unknown in (
      c.pass_over.ensures.stands rest (begins_value g.P.Parts.spells c.args.left c.args.found item c.args.c.now.rest rest s),
      λ first seen gathered.
          gathered_free (structs g.P.Parts.spells c.args.left) 0 tag_table (tag_shape g.P.Parts.spells c.args.left) (λ given. GatheredTag c.args.self.now given) seen item free gathered,
    )

pub returns-in_default-clause-judged : goal.returns-in_default-clause-judged
returns-in_default-clause-judged g c = λ item rest s first seen gathered.
    let unknown : Unknown tag_keys (of_z w16 c.args.found.id) c.args.found.kind = elim c.in_default.branch [
      | in_default-via-in-1+in-Truth-1 w ↦ unknown_type tag_keys _ _ 1 kinds.Binary w.in_default.is-0 w.in_default.not-Binary-1 (refl, (tt, (tt, (tt, (tt, (tt, (tt, tt)))))))
      | in_default-via-in-2+in-Truth-1 w ↦ unknown_type tag_keys _ _ 2 kinds.I32 w.in_default.is-0 w.in_default.not-I32-1 (tt, (refl, (tt, (tt, (tt, (tt, (tt, tt)))))))
      | in_default-via-in-3+in-Truth-1 w ↦ unknown_type tag_keys _ _ 3 kinds.Binary w.in_default.is-0 w.in_default.not-Binary-1 (tt, (tt, (refl, (tt, (tt, (tt, (tt, tt)))))))
      | in_default-via-in-4+in-Truth-1 w ↦ unknown_type tag_keys _ _ 4 kinds.Eight w.in_default.is-0 w.in_default.not-Eight-1 (tt, (tt, (tt, (refl, (tt, (tt, (tt, tt)))))))
      | in_default-via-in-5+in-I8-1 w ↦ unknown_type tag_keys _ _ 5 kinds.Truth w.in_default.is-0 w.in_default.not-Truth-1 (tt, (tt, (tt, (tt, (refl, (tt, (tt, tt)))))))
      | in_default-via-in-6+in-Truth-1 w ↦ unknown_type tag_keys _ _ 6 kinds.I64 w.in_default.is-0 w.in_default.not-I64-1 (tt, (tt, (tt, (tt, (tt, (refl, (tt, tt)))))))
      | in_default-via-in-7+in-Truth-1 w ↦ unknown_type tag_keys _ _ 7 kinds.Binary w.in_default.is-0 w.in_default.not-Binary-1 (tt, (tt, (tt, (tt, (tt, (tt, (refl, tt)))))))
      | in_default-via-in_default w ↦ (λ at of. w.in_default.is-0.0.0.0.0.0.0.1 at, (λ at of. w.in_default.is-0.0.0.0.0.0.1 at, (λ at of. w.in_default.is-0.0.0.0.0.1 at, (λ at of. w.in_default.is-0.0.0.0.1 at, (λ at of. w.in_default.is-0.0.0.1 at, (λ at of. w.in_default.is-0.0.1 at, (λ at of. w.in_default.is-0.1 at, tt)))))))
    ] in
    let free = tag_free item c.args.found s.id s.kind unknown in
    free_fine tag_table seen item free
