use Rattle.std.proofs.Common.{◌++◌, List, length, Ok, Err, Some, None, refl, ap, w16, to_z, rules, arith}
use Rattle.std.proofs.lemmas.Result.{err_from_is_err_and}
use Rattle.std.proofs.lemmas.Int.{to_z-of_z}
use Rattle.span_io.specs.Tables.{rules_by}
use Rattle.thrift_core.specs.Messages.{FieldItem}
use Rattle.span_io.specs.Walks.{Walk}
use Rattle.thrift_core.specs.Parts.{header}
use Rattle.jaeger_model.proofs.PartLemmas.{begins_shorter}
use Rattle.jaeger_model.proofs.MessageReading.{standing_start, walking_head, head_smaller, standing_next, field_halts, all_gathered}
use Rattle.jaeger_model.proofs.reading.message.read_rows.Goals as goal

pub fields-init : goal.fields-init
fields-init g c = record {
  shorter = omega arith;
  standing = λ text tail fields e h.
      standing_start _ _ _ _ g.met.P.Parts.reads_exactly g.met.P.Parts.part_laws c.args.left (rules_by (g.R.Rows.table c.args.left) g.R.Rows.ends)
      (λ (l : List FieldItem). g.R.Rows.gathered c.args.left c.args.first c.args.first l) text tail fields c.args.c.now.rest c.requires.none e h;
}

pub returns-in_err-gather-in-Ok-Some-clause-halted : goal.returns-in_err-gather-in-Ok-Some-clause-halted
returns-in_err-gather-in-Ok-Some-clause-halted g c = λ text tail fields e h.
    let found = rw c.in-Ok-Some.field-0-is at c.in-Ok-Some.ensures in
    let next = walking_head _ _ _ _ g.met.P.Parts.reads_exactly g.met.P.Parts.part_laws c.args.left (rules_by (g.R.Rows.table c.args.left) g.R.Rows.ends)
    (λ (l : List FieldItem). g.R.Rows.gathered c.args.left c.args.first c.fields.rows l) c.args.c.now.rest c.fields.c.rest c.field.new.c.rest (to_z w16 c.fields.last-bits) (to_z w16 c.fields.last-bits) c.fields.invariant refl text tail fields e h (Ok (Some c.in-Ok-Some.found)) found.exact in
    let p = err_from_is_err_and c.from_residual.result c.from_residual.ensures.1 in
    rw (p.1, p.2) (field_halts _ _ _ _ g.met.P.Parts.reads_exactly g.met.P.Parts.part_laws c.args.left (rules_by (g.R.Rows.table c.args.left) g.R.Rows.ends)
    c.requires.lawful (λ (l : List FieldItem). g.R.Rows.gathered c.args.left c.args.first c.fields.rows l) text tail fields c.in-Ok-Some.found c.field.new.c.rest next Unit g.row.R.Denot c.in_err-gather-in-Ok-Some.field-0.0
    (c.in_err-gather-in-Ok-Some.ensures.judged next.item (next.after.bytes ++ tail) next.stands c.args.first))

pub returns-in_err-gather-in-Ok-Some-clause-shorter : goal.returns-in_err-gather-in-Ok-Some-clause-shorter
returns-in_err-gather-in-Ok-Some-clause-shorter g c =
    let found = rw c.in-Ok-Some.field-0-is at c.in-Ok-Some.ensures in
    omega (
      arith,
      c.gather.ensures.shorter,
      c.fields.invariant.shorter,
      head_smaller _ _ _ _ g.met.P.Parts.reads_exactly g.met.P.Parts.part_laws c.args.left (rules_by (g.R.Rows.table c.args.left) g.R.Rows.ends) _ c.in-Ok-Some.found c.fields.c.rest c.field.new.c.rest found.exact,
    )

pub fields-smaller : goal.fields-smaller
fields-smaller g c =
    let found = rw c.in-Ok-Some.field-0-is at c.in-Ok-Some.ensures in
    omega (
      arith,
      c.gather.ensures.shorter,
      head_smaller _ _ _ _ g.met.P.Parts.reads_exactly g.met.P.Parts.part_laws c.args.left (rules_by (g.R.Rows.table c.args.left) g.R.Rows.ends) _ c.in-Ok-Some.found c.fields.c.rest c.field.new.c.rest found.exact,
    )

pub fields-preserved : goal.fields-preserved
fields-preserved g c =
    let found = rw c.in-Ok-Some.field-0-is at c.in-Ok-Some.ensures in
    let smaller = head_smaller _ _ _ _ g.met.P.Parts.reads_exactly g.met.P.Parts.part_laws c.args.left (rules_by (g.R.Rows.table c.args.left) g.R.Rows.ends) _ c.in-Ok-Some.found c.fields.c.rest c.field.new.c.rest found.exact in
    record {
      shorter = omega (arith, c.gather.ensures.shorter, c.fields.invariant.shorter, smaller);
      standing = λ text tail fields e h.
          let next = walking_head _ _ _ _ g.met.P.Parts.reads_exactly g.met.P.Parts.part_laws c.args.left (rules_by (g.R.Rows.table c.args.left) g.R.Rows.ends)
          (λ (l : List FieldItem). g.R.Rows.gathered c.args.left c.args.first c.fields.rows l) c.args.c.now.rest c.fields.c.rest c.field.new.c.rest (to_z w16 c.fields.last-bits) (to_z w16 c.fields.last-bits) c.fields.invariant refl text tail fields e h (Ok (Some c.in-Ok-Some.found)) found.exact in
          let gathered = c.in_ok-gather-in-Ok-Some.ensures.ok next.item (next.after.bytes ++ tail) next.stands in
          standing_next _ _ _ _ g.met.P.Parts.reads_exactly g.met.P.Parts.part_laws c.args.left (rules_by (g.R.Rows.table c.args.left) g.R.Rows.ends)
          (λ (l : List FieldItem). g.R.Rows.gathered c.args.left c.args.first c.fields.rows l) (λ (l : List FieldItem). g.R.Rows.gathered c.args.left c.args.first c.gather.new.self l) text tail fields c.in-Ok-Some.found c.field.new.c.rest c.gather.new.c.rest _ next
          (to_z-of_z w16 c.in-Ok-Some.found.id (record { sfits = search rules })) gathered.0
          (c.in_ok-gather-in-Ok-Some.ensures.judged next.item (next.after.bytes ++ tail) next.stands c.args.first) (gathered.1 c.args.first);
    }

pub returns-in-Ok-None-clause-all : goal.returns-in-Ok-None-clause-all
returns-in-Ok-None-clause-all g c = λ text tail fields e h.
    let found = rw c.in-Ok-None.field-0-is at c.in-Ok-None.ensures in
    let ended = walking_head _ _ _ _ g.met.P.Parts.reads_exactly g.met.P.Parts.part_laws c.args.left (rules_by (g.R.Rows.table c.args.left) g.R.Rows.ends)
    (λ (l : List FieldItem). g.R.Rows.gathered c.args.left c.args.first c.fields.rows l) c.args.c.now.rest c.fields.c.rest c.field.new.c.rest (to_z w16 c.fields.last-bits) (to_z w16 c.fields.last-bits) c.fields.invariant refl text tail fields e h (Ok None) found.exact in
    all_gathered _ _ _ _ g.met.P.Parts.reads_exactly g.met.P.Parts.part_laws c.args.left (rules_by (g.R.Rows.table c.args.left) g.R.Rows.ends) (λ (l : List FieldItem). g.R.Rows.gathered c.args.left c.args.first c.fields.rows l) text tail fields c.field.new.c.rest ended

pub returns-in-Ok-None-clause-shorter : goal.returns-in-Ok-None-clause-shorter
returns-in-Ok-None-clause-shorter g c =
    let found = rw c.in-Ok-None.field-0-is at c.in-Ok-None.ensures in
    omega (
      arith,
      c.fields.invariant.shorter,
      begins_shorter _ (header c.args.left (to_z w16 c.fields.last-bits)) None c.fields.c.rest c.field.new.c.rest (g.met.P.Parts.reads_exactly.found (header c.args.left (to_z w16 c.fields.last-bits)) None c.fields.c.rest c.field.new.c.rest found.exact),
    )

pub returns-in-Err-clause-all : goal.returns-in-Err-clause-all
returns-in-Err-clause-all g c = λ text tail fields e h.
    absurd (walking_head _ _ _ _ g.met.P.Parts.reads_exactly g.met.P.Parts.part_laws c.args.left (rules_by (g.R.Rows.table c.args.left) g.R.Rows.ends)
    (λ (l : List FieldItem). g.R.Rows.gathered c.args.left c.args.first c.fields.rows l) c.args.c.now.rest c.fields.c.rest c.field.new.c.rest (to_z w16 c.fields.last-bits) (to_z w16 c.fields.last-bits) c.fields.invariant refl text tail fields e h (Err c.in-Err.field-0) c.in-Err.ensures.exact)

pub returns-in-Err-clause-shorter : goal.returns-in-Err-clause-shorter
returns-in-Err-clause-shorter g c = omega (arith, c.fields.invariant.shorter, ap (λ (w : Walk). length w.rest) c.in-Err.ensures.err)
