use Rattle.std.proofs.Common.{pos, refl, sym, ap, subst, ◌∙◌, to_z, of_z, w16, rules}
use Rattle.std.specs.Prelude.{◌⊎◌}
use Rattle.std.proofs.lemmas.Int.{to_z-of_z}
use Rattle.span_io.proofs.GatheringLaws.{judged_at}
use Rattle.span_io.specs.Offences.{JudgesHere, Judges, HereOrInside}
use Rattle.span_io.specs.RowsSoFar.{Sets}
use Rattle.span_io.specs.Tables.{Twice, MeansText, NotText, givens, table_here, table_inside}
use Rattle.thrift_core.specs.declared.type_code.TypeCode.TheVariants as kinds
use Rattle.thrift_core.specs.Messages.{FieldItem, structs}
use Rattle.thrift_core.proofs.StructLaws.{struct_laws}
use Rattle.jaeger_model.specs.Process.{process_table}
use Rattle.jaeger_model.specs.private.ProcessSoFar.{GatheredProcess}
use Rattle.jaeger_model.proofs.FieldLemmas.{Unknown, field_of, holds, begins_value, binary_there, gathered_more, gathered_free, free_fine, ok_then, unknown_type}
use Rattle.jaeger_model.proofs.LogLemmas.{process_shape, process_keys, process_free, its_list}
use Rattle.jaeger_model.proofs.reading.process.ProcessRowsRows.gather.Goals.{in_default-via-in-1+in-Truth-1, in_default-via-in-2+in-Truth-1, in_default-via-in_default}
use Rattle.jaeger_model.proofs.reading.process.ProcessRowsRows.gather.Goals as goal

pub returns-in-1-Binary-clause-ok : goal.returns-in-1-Binary-clause-ok
returns-in-1-Binary-clause-ok g c = λ item rest s.
    let id = sym (to_z-of_z w16 c.args.found.id (record { sfits = search rules })) ∙ ap (to_z w16) c.in-1-Binary.is-0 in
    let w = holds g.P.Parts.spells c.args.left c.args.found item c.args.c.now.rest rest s (pos 1) kinds.Binary id c.in-1-Binary.is-1 in
    let t = c.sure_bytes.ensures.stands w.held rest (binary_there g.P.Parts.spells c.args.left c.args.found item c.args.c.now.rest rest w.held w.stands) in
    ok_then _ _ c.text_row.result (λ sets. (
      t.1,
      λ first seen gathered.
          gathered_more (structs g.P.Parts.spells c.args.left) 0 (process_table g.P.Parts.spells c.args.left) (process_shape g.P.Parts.spells (struct_laws g.P.Parts.spells _ _ _ g.met.P.Parts.reads_exactly g.met.P.Parts.part_laws) c.args.left) (λ given. GatheredProcess g.P.Parts.spells c.args.left (record { service = c.text_row.new.row; tags = c.args.self.now.tags }) given) seen item (field_of (pos 1) kinds.Binary w.held item.text) w.is
          (record { service = subst (λ x. Sets MeansText x c.args.self.now.service c.text_row.new.row) (t.0) sets _ gathered.service; tags = gathered.tags }),
    )) c.text_row.ensures.ok

pub returns-in-1-Binary-clause-judged : goal.returns-in-1-Binary-clause-judged
returns-in-1-Binary-clause-judged g c = λ item rest s first seen gathered.
    let id = sym (to_z-of_z w16 c.args.found.id (record { sfits = search rules })) ∙ ap (to_z w16) c.in-1-Binary.is-0 in
    let w = holds g.P.Parts.spells c.args.left c.args.found item c.args.c.now.rest rest s (pos 1) kinds.Binary id c.in-1-Binary.is-1 in
    let t = c.sure_bytes.ensures.stands w.held rest (binary_there g.P.Parts.spells c.args.left c.args.found item c.args.c.now.rest rest w.held w.stands) in
    judged_at (process_table g.P.Parts.spells c.args.left) seen item (field_of (pos 1) kinds.Binary w.held item.text) w.is (λ p m h. h) c.text_row.result
    (subst (λ x. JudgesHere c.text_row.result (λ n. Twice (givens (process_table g.P.Parts.spells c.args.left) seen).0 n ⊎ NotText x n)) (t.0) (c.text_row.ensures.judged _ gathered.service))

pub returns-in-2-List-clause-ok : goal.returns-in-2-List-clause-ok
returns-in-2-List-clause-ok g c = λ item rest s.
    let id = sym (to_z-of_z w16 c.args.found.id (record { sfits = search rules })) ∙ ap (to_z w16) c.in-2-List.is-0 in
    let w = holds g.P.Parts.spells c.args.left c.args.found item c.args.c.now.rest rest s (pos 2) kinds.List id c.in-2-List.is-1 in
    let value = its_list g.P.Parts.spells c.args.left c.args.found item c.args.c.now.rest rest s w.held (ap (λ (i : FieldItem). i.tree) w.is) in
    ok_then _ _ c.structures_row.result (λ both. (
      both.0,
      λ first seen gathered.
          gathered_more (structs g.P.Parts.spells c.args.left) 0 (process_table g.P.Parts.spells c.args.left) (process_shape g.P.Parts.spells (struct_laws g.P.Parts.spells _ _ _ g.met.P.Parts.reads_exactly g.met.P.Parts.part_laws) c.args.left) (λ given. GatheredProcess g.P.Parts.spells c.args.left (record { service = c.args.self.now.service; tags = c.structures_row.new.row }) given) seen item (field_of (pos 2) kinds.List w.held item.text) w.is
          (record { service = gathered.service; tags = both.1 _ gathered.tags }),
    )) (c.structures_row.ensures.ok item.text rest w.held s.parts value)

pub returns-in-2-List-clause-judged : goal.returns-in-2-List-clause-judged
returns-in-2-List-clause-judged g c = λ item rest s first seen gathered.
    let id = sym (to_z-of_z w16 c.args.found.id (record { sfits = search rules })) ∙ ap (to_z w16) c.in-2-List.is-0 in
    let w = holds g.P.Parts.spells c.args.left c.args.found item c.args.c.now.rest rest s (pos 2) kinds.List id c.in-2-List.is-1 in
    let value = its_list g.P.Parts.spells c.args.left c.args.found item c.args.c.now.rest rest s w.held (ap (λ (i : FieldItem). i.tree) w.is) in
    subst (λ (x : FieldItem). Judges c.structures_row.result (HereOrInside (table_here (process_table g.P.Parts.spells c.args.left) seen x) (table_inside (process_table g.P.Parts.spells c.args.left) x))) (sym w.is)
    (c.structures_row.ensures.judged item.text rest w.held s.parts value (givens (process_table g.P.Parts.spells c.args.left) seen).1.0 gathered.tags)

pub returns-in_default-clause-ok : goal.returns-in_default-clause-ok
returns-in_default-clause-ok g c = λ item rest s.
    let unknown : Unknown process_keys (of_z w16 c.args.found.id) c.args.found.kind = elim c.in_default.branch [
      | in_default-via-in-1+in-Truth-1 w ↦ unknown_type process_keys _ _ 1 kinds.Binary w.in_default.is-0 w.in_default.not-Binary-1 (refl, (tt, tt))
      | in_default-via-in-2+in-Truth-1 w ↦ unknown_type process_keys _ _ 2 kinds.List w.in_default.is-0 w.in_default.not-List-1 (tt, (refl, tt))
      | in_default-via-in_default w ↦ (λ at of. w.in_default.is-0.0.1 at, (λ at of. w.in_default.is-0.1 at, tt))
    ] in
    let free = process_free g.P.Parts.spells c.args.left item c.args.found s.id s.kind unknown in (
      c.pass_over.ensures.stands rest (begins_value g.P.Parts.spells c.args.left c.args.found item c.args.c.now.rest rest s),
      λ first seen gathered. gathered_free (structs g.P.Parts.spells c.args.left) 0 (process_table g.P.Parts.spells c.args.left) (process_shape g.P.Parts.spells (struct_laws g.P.Parts.spells _ _ _ g.met.P.Parts.reads_exactly g.met.P.Parts.part_laws) c.args.left) (λ given. GatheredProcess g.P.Parts.spells c.args.left c.args.self.now given) seen item free gathered,
    )

pub returns-in_default-clause-judged : goal.returns-in_default-clause-judged
returns-in_default-clause-judged g c = λ item rest s first seen gathered.
    let unknown : Unknown process_keys (of_z w16 c.args.found.id) c.args.found.kind = elim c.in_default.branch [
      | in_default-via-in-1+in-Truth-1 w ↦ unknown_type process_keys _ _ 1 kinds.Binary w.in_default.is-0 w.in_default.not-Binary-1 (refl, (tt, tt))
      | in_default-via-in-2+in-Truth-1 w ↦ unknown_type process_keys _ _ 2 kinds.List w.in_default.is-0 w.in_default.not-List-1 (tt, (refl, tt))
      | in_default-via-in_default w ↦ (λ at of. w.in_default.is-0.0.1 at, (λ at of. w.in_default.is-0.1 at, tt))
    ] in
    let free = process_free g.P.Parts.spells c.args.left item c.args.found s.id s.kind unknown in
    free_fine (process_table g.P.Parts.spells c.args.left) seen item free
