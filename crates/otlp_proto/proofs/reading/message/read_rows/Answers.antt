use Rattle.std.proofs.Common.{◌+◌, ◌≤◌, List, length, arith}
use Rattle.std.proofs.lemmas.Result.{err_from_is_err_and}
use Rattle.span_io.specs.Causes.{cause_number}
use Rattle.proto_wire.specs.Records.{Record, plain_record}
use Rattle.span_io.specs.Tables.{rules_by}
use Rattle.span_io.proofs.GatheringLaws.{seen_start, seen_step, seen_unread, seen_halt}
use Rattle.proto_wire.specs.Messages.{messages}
use Rattle.otlp_proto.specs.private.Numbering.{least_size}
use Rattle.otlp_proto.proofs.NumberingLemmas.{counts_start, counts_more, counts_room, counts_end}
use Rattle.otlp_proto.proofs.MessageReading.{seen_to_end}
use Rattle.otlp_proto.proofs.reading.message.read_rows.Goals as goal

pub records-init : goal.records-init
records-init g c =
    rw c.new-cursor.ensures (
      seen_start messages c.message_cuts.ensures.laws (rules_by g.R.Rows.table g.R.Rows.ends) (λ (l : List Record). g.R.Rows.gathered c.args.first c.args.first l) c.args.bytes.now c.requires.none,
      counts_start (length c.args.bytes.now) (g.R.Rows.counts c.args.first),
    )

pub returns-in-Ok-None-clause-all : goal.returns-in-Ok-None-clause-all
returns-in-Ok-None-clause-all g c =
    let next = rw c.in-Ok-None.field-0-is at c.in-Ok-None.ensures in
    seen_to_end c.message_cuts.ensures (rules_by g.R.Rows.table g.R.Rows.ends) (λ (l : List Record). g.R.Rows.gathered c.args.first c.records.rows l) c.args.bytes.now c.records.cursor.rest c.records.invariant.0 (next.end.0 tt)

pub returns-in-Ok-None-clause-grown : goal.returns-in-Ok-None-clause-grown
returns-in-Ok-None-clause-grown g c = counts_end (length c.args.bytes.now) (length c.records.cursor.rest) (g.R.Rows.counts c.args.first) (g.R.Rows.counts c.records.rows) c.records.invariant.1

pub gather-requires : goal.gather-requires
gather-requires g c =
    let next = rw c.in-Ok-Some.field-0-is at c.in-Ok-Some.ensures in
    let found : Record = plain_record c.in-Ok-Some.found in
    let room : length c.next_record.new.c.rest + least_size found ≤ length c.records.cursor.rest = omega (arith, c.message_cuts.ensures.laws.room found c.records.cursor.rest c.next_record.new.c.rest next.found) in
    record { counted = counts_room (length c.args.bytes.now) (length c.records.cursor.rest) (least_size found) (g.R.Rows.counts c.args.first) (g.R.Rows.counts c.records.rows) (omega (arith, room)) c.requires.counted c.records.invariant.1 }

pub records-preserved : goal.records-preserved
records-preserved g c =
    let next = rw c.in-Ok-Some.field-0-is at c.in-Ok-Some.ensures in
    let found : Record = plain_record c.in-Ok-Some.found in
    let room : length c.next_record.new.c.rest + least_size found ≤ length c.records.cursor.rest = omega (arith, c.message_cuts.ensures.laws.room found c.records.cursor.rest c.next_record.new.c.rest next.found) in (
      seen_step messages c.message_cuts.ensures.laws (rules_by g.R.Rows.table g.R.Rows.ends) (λ (l : List Record). g.R.Rows.gathered c.args.first c.records.rows l) (λ (l : List Record). g.R.Rows.gathered c.args.first c.gather.new.self l)
          c.args.bytes.now c.records.cursor.rest c.next_record.new.c.rest (plain_record c.in-Ok-Some.found) c.records.invariant.0 next.found (c.in_ok-gather-in-Ok-Some.ensures.judged c.args.first) (c.in_ok-gather-in-Ok-Some.ensures.ok c.args.first),
      counts_more (length c.args.bytes.now) (length c.records.cursor.rest) (least_size found) (length c.next_record.new.c.rest) (g.R.Rows.counts c.args.first) (g.R.Rows.counts c.records.rows) (g.R.Rows.counts c.gather.new.self)
          room c.in_ok-gather-in-Ok-Some.ensures.grown c.records.invariant.1,
    )

pub returns-in_err-gather-in-Ok-Some-clause-halted : goal.returns-in_err-gather-in-Ok-Some-clause-halted
returns-in_err-gather-in-Ok-Some-clause-halted g c =
    let next = rw c.in-Ok-Some.field-0-is at c.in-Ok-Some.ensures in
    let p = err_from_is_err_and c.from_residual.result c.from_residual.ensures.1 in
    rw (p.1, p.2) (seen_halt messages c.message_cuts.ensures.laws (rules_by g.R.Rows.table g.R.Rows.ends) c.requires.lawful (λ (l : List Record). g.R.Rows.gathered c.args.first c.records.rows l)
    c.args.bytes.now c.records.cursor.rest c.next_record.new.c.rest (plain_record c.in-Ok-Some.found) c.records.invariant.0 next.found Unit Unit c.in_err-gather-in-Ok-Some.field-0.0 (c.in_err-gather-in-Ok-Some.ensures.judged c.args.first))

pub returns-in-Err-clause-halted : goal.returns-in-Err-clause-halted
returns-in-Err-clause-halted g c =
    seen_unread messages c.message_cuts.ensures.laws (rules_by g.R.Rows.table g.R.Rows.ends) (λ (l : List Record). g.R.Rows.gathered c.args.first c.records.rows l) c.args.bytes.now c.records.cursor.rest
    (cause_number c.in-Err.cause) c.records.invariant.0 c.in-Err.ensures.unread
