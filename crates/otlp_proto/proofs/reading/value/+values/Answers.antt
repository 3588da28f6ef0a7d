use Rattle.std.proofs.Common.{◌≡◌, Ok, Err, ◌⊎◌, ap, ◌∙◌, rules, arith}
use Rattle.std.proofs.lemmas.Result.{err_from_is_err_and}
use Rattle.span_io.specs.Offences.{Offence}
use Rattle.span_io.proofs.OffenceLaws.{judged_inside, none_in_item}
use Rattle.span_io.specs.Tables.{Twice}
use Rattle.proto_wire.specs.Messages.{messages}
use Rattle.proto_wire.specs.Records.{bytes, plain_record}
use Rattle.otlp_proto.proofs.Shapes.{value_laws, list_laws, map_laws, key_value_laws}
use Rattle.otlp_proto.specs.Values.{value_in, key_value_in, value_offends, key_value_offends, many_table, table_of_key_value, list_rules, map_rules, value_rules}
use Rattle.trace_model.specs.declared.noted.KeyValue.{KeyValue}
use Rattle.trace_model.specs.OtlpParts.{NotedValue, leaf}
use Rattle.span_io.proofs.GatheringLaws.{seen_start, seen_step, seen_unread, seen_item, judged_at, judged_inside_at}
use Rattle.otlp_proto.proofs.MessageReading.{seen_to_end}
use Rattle.otlp_proto.proofs.PlainLemmas.{pair_reading, pair_fine}
use Rattle.otlp_proto.proofs.ValueLemmas.{no_member, no_field, judged_as, halted_inside_at, value_judged, key_value_judged, list_push, map_push}
use Rattle.otlp_proto.proofs.reading.value.+values.Goals as goal

-- ---- records

pub add_field-returns-in-1-clause-judged : goal.add_field-returns-in-1-clause-judged
add_field-returns-in-1-clause-judged t c = λ seen gathered.
    let e : plain_record c.args.found.now ≡ record { number = 1; held = bytes c.in-Bytes.held.now } = search rules in
    judged_at (table_of_key_value c.args.left) seen _ _ e (λ p m h. h) c.text_row.result (c.text_row.ensures.judged _ gathered.key)

pub add_field-returns-in_err-read_value-in-2-clause-judged : goal.add_field-returns-in_err-read_value-in-2-clause-judged
add_field-returns-in_err-read_value-in-2-clause-judged t c = λ seen gathered.
    let e : plain_record c.args.found.now ≡ record { number = 2; held = bytes c.in-Bytes.held.now } = search rules in
    halted_inside_at (table_of_key_value c.args.left) seen _ _ e (no_field c.args.left _ c.args.rows.now.value c.in_ok-once-in-2.ensures.ok gathered.value)
    NotedValue c.in_err-read_value-in-2.field-0.0 c.in_err-read_value-in-2.ensures.judged c.from_residual-in_err-read_value-in-2.result c.from_residual-in_err-read_value-in-2.ensures.1

pub add_field-returns-in_ok-read_value-in-2-clause-judged : goal.add_field-returns-in_ok-read_value-in-2-clause-judged
add_field-returns-in_ok-read_value-in-2-clause-judged t c = λ seen gathered.
    let e : plain_record c.args.found.now ≡ record { number = 2; held = bytes c.in-Bytes.held.now } = search rules in
    judged_inside_at (table_of_key_value c.args.left) seen _ _ e (no_field c.args.left _ c.args.rows.now.value c.in_ok-once-in-2.ensures.ok gathered.value) (Ok tt) c.in_ok-read_value-in-2.ensures.judged

pub add_value-returns-in_err-read-in-Bytes-clause-judged : goal.add_value-returns-in_err-read-in-Bytes-clause-judged
add_value-returns-in_err-read-in-Bytes-clause-judged t c = λ seen gathered.
    let e : plain_record c.args.found.now ≡ record { number = 1; held = bytes c.in-Bytes.held.now } = search rules in
    halted_inside_at (many_table c.args.left NotedValue (value_in c.args.left) (value_offends c.args.left)) seen _ _ e (λ m h. omega (arith, c.in_ok-below-in-Bytes.ensures.value, h.1))
    NotedValue c.in_err-read-in-Bytes.field-0.0 (value_judged c.in_ok-below-in-Bytes.below c.args.left (omega (arith, c.in_ok-below-in-Bytes.ensures.value)) c.in-Bytes.held.now NotedValue (Err c.in_err-read-in-Bytes.field-0.0) c.in_err-read-in-Bytes.ensures.judged)
    c.from_residual-in_err-read-in-Bytes.result c.from_residual-in_err-read-in-Bytes.ensures.1

pub add_value-returns-in_ok-push-in-Bytes-clause-judged : goal.add_value-returns-in_ok-push-in-Bytes-clause-judged
add_value-returns-in_ok-push-in-Bytes-clause-judged t c = λ seen gathered.
    let e : plain_record c.args.found.now ≡ record { number = 1; held = bytes c.in-Bytes.held.now } = search rules in
    judged_inside_at (many_table c.args.left NotedValue (value_in c.args.left) (value_offends c.args.left)) seen _ _ e (λ m h. omega (arith, c.in_ok-below-in-Bytes.ensures.value, h.1))
    (Ok tt) (value_judged c.in_ok-below-in-Bytes.below c.args.left (omega (arith, c.in_ok-below-in-Bytes.ensures.value)) c.in-Bytes.held.now Unit (Ok tt) c.in_ok-read-in-Bytes.ensures.judged)

pub add_value-returns-in_ok-push-in-Bytes-clause-ok : goal.add_value-returns-in_ok-push-in-Bytes-clause-ok
add_value-returns-in_ok-push-in-Bytes-clause-ok t c = λ seen gathered.
    let e : plain_record c.args.found.now ≡ record { number = 1; held = bytes c.in-Bytes.held.now } = search rules in
    list_push c.in_ok-below-in-Bytes.below c.args.left (omega (arith, c.in_ok-below-in-Bytes.ensures.value)) seen _ c.in-Bytes.held.now e c.args.rows.now c.push.new.self c.in_ok-read-in-Bytes.read
    c.in_ok-read-in-Bytes.ensures.value c.in_ok-push-in-Bytes.ensures.values c.in_ok-push-in-Bytes.ensures.noted gathered

pub add_key_value-returns-in_err-read-in-Bytes-clause-judged : goal.add_key_value-returns-in_err-read-in-Bytes-clause-judged
add_key_value-returns-in_err-read-in-Bytes-clause-judged t c = λ seen gathered.
    let e : plain_record c.args.found.now ≡ record { number = 1; held = bytes c.in-Bytes.held.now } = search rules in
    halted_inside_at (many_table c.args.left KeyValue (key_value_in c.args.left) (key_value_offends c.args.left)) seen _ _ e (λ m h. omega (arith, c.in_ok-below-in-Bytes.ensures.value, h.1))
    KeyValue c.in_err-read-in-Bytes.field-0.0 (key_value_judged c.in_ok-below-in-Bytes.below c.args.left (omega (arith, c.in_ok-below-in-Bytes.ensures.value)) c.in-Bytes.held.now KeyValue (Err c.in_err-read-in-Bytes.field-0.0) c.in_err-read-in-Bytes.ensures.judged)
    c.from_residual-in_err-read-in-Bytes.result c.from_residual-in_err-read-in-Bytes.ensures.1

pub add_key_value-returns-in_ok-push-in-Bytes-clause-judged : goal.add_key_value-returns-in_ok-push-in-Bytes-clause-judged
add_key_value-returns-in_ok-push-in-Bytes-clause-judged t c = λ seen gathered.
    let e : plain_record c.args.found.now ≡ record { number = 1; held = bytes c.in-Bytes.held.now } = search rules in
    judged_inside_at (many_table c.args.left KeyValue (key_value_in c.args.left) (key_value_offends c.args.left)) seen _ _ e (λ m h. omega (arith, c.in_ok-below-in-Bytes.ensures.value, h.1))
    (Ok tt) (key_value_judged c.in_ok-below-in-Bytes.below c.args.left (omega (arith, c.in_ok-below-in-Bytes.ensures.value)) c.in-Bytes.held.now Unit (Ok tt) c.in_ok-read-in-Bytes.ensures.judged)

pub add_key_value-returns-in_ok-push-in-Bytes-clause-ok : goal.add_key_value-returns-in_ok-push-in-Bytes-clause-ok
add_key_value-returns-in_ok-push-in-Bytes-clause-ok t c = λ seen gathered.
    let e : plain_record c.args.found.now ≡ record { number = 1; held = bytes c.in-Bytes.held.now } = search rules in
    map_push c.in_ok-below-in-Bytes.below c.args.left (omega (arith, c.in_ok-below-in-Bytes.ensures.value)) seen _ c.in-Bytes.held.now e c.args.rows.now c.push.new.self c.in_ok-read-in-Bytes.read
    c.in_ok-read-in-Bytes.ensures.value c.in_ok-push-in-Bytes.ensures.pairs c.in_ok-push-in-Bytes.ensures.noted gathered

pub add_member-returns-in-1-clause-judged : goal.add_member-returns-in-1-clause-judged
add_member-returns-in-1-clause-judged t c = λ seen gathered.
    let e : plain_record c.args.found.now ≡ record { number = 1; held = bytes c.in-Bytes.held.now } = search rules in
    judged_as (value_rules c.args.left) seen _ _ e c.text_member.result (c.text_member.ensures.judged c.args.left _ gathered)

pub add_member-returns-in-5-clause-judged : goal.add_member-returns-in-5-clause-judged
add_member-returns-in-5-clause-judged t c = λ seen gathered.
    let e : plain_record c.args.found.now ≡ record { number = 5; held = bytes c.in-Bytes.held.now } = search rules in
    judged_as (value_rules c.args.left) seen _ _ e c.list_member.result (c.list_member.ensures.judged _ gathered)

pub add_member-returns-in-6-clause-judged : goal.add_member-returns-in-6-clause-judged
add_member-returns-in-6-clause-judged t c = λ seen gathered.
    let e : plain_record c.args.found.now ≡ record { number = 6; held = bytes c.in-Bytes.held.now } = search rules in
    judged_as (value_rules c.args.left) seen _ _ e c.map_member.result (c.map_member.ensures.judged _ gathered)

pub add_member-returns-in-7-clause-judged : goal.add_member-returns-in-7-clause-judged
add_member-returns-in-7-clause-judged t c = λ seen gathered.
    let e : plain_record c.args.found.now ≡ record { number = 7; held = bytes c.in-Bytes.held.now } = search rules in
    judged_as (value_rules c.args.left) seen _ _ e c.bytes_member.result (c.bytes_member.ensures.judged c.args.left _ gathered)

pub list_member-returns-in_err-read_list-clause-judged : goal.list_member-returns-in_err-read_list-clause-judged
list_member-returns-in_err-read_list-clause-judged t c = λ earlier gathered.
    let p = err_from_is_err_and c.from_residual-in_err-read_list.result c.from_residual-in_err-read_list.ensures.1 in
    rw (p.1, p.2) (judged_inside (λ n. Twice earlier n ⊎ ⊥) (Offence messages (list_rules c.args.left) c.args.held.now) NotedValue Unit c.in_err-read_list.field-0.0
    (no_member c.args.left earlier c.args.row.now c.in_ok-once.ensures.ok gathered) c.in_err-read_list.ensures.judged)

pub list_member-returns-clause-judged : goal.list_member-returns-clause-judged
list_member-returns-clause-judged t c = λ earlier gathered. none_in_item (λ n. Twice earlier n ⊎ ⊥) (Offence messages (list_rules c.args.left) c.args.held.now)
    (no_member c.args.left earlier c.args.row.now c.in_ok-once.ensures.ok gathered) c.in_ok-read_list.ensures.judged

pub map_member-returns-in_err-read_map-clause-judged : goal.map_member-returns-in_err-read_map-clause-judged
map_member-returns-in_err-read_map-clause-judged t c = λ earlier gathered.
    let p = err_from_is_err_and c.from_residual-in_err-read_map.result c.from_residual-in_err-read_map.ensures.1 in
    rw (p.1, p.2) (judged_inside (λ n. Twice earlier n ⊎ ⊥) (Offence messages (map_rules c.args.left) c.args.held.now) NotedValue Unit c.in_err-read_map.field-0.0
    (no_member c.args.left earlier c.args.row.now c.in_ok-once.ensures.ok gathered) c.in_err-read_map.ensures.judged)

pub map_member-returns-clause-judged : goal.map_member-returns-clause-judged
map_member-returns-clause-judged t c = λ earlier gathered. none_in_item (λ n. Twice earlier n ⊎ ⊥) (Offence messages (map_rules c.args.left) c.args.held.now)
    (no_member c.args.left earlier c.args.row.now c.in_ok-once.ensures.ok gathered) c.in_ok-read_map.ensures.judged

-- ---- loops

pub read_value-members-init : goal.read_value-members-init
read_value-members-init t c = rw c.new-cursor.ensures (seen_start messages c.message_cuts.ensures.laws _ _ _ tt)

pub read_value-members-preserved : goal.read_value-members-preserved
read_value-members-preserved t c =
    let next = rw c.in-Ok-Some.field-0-is at c.in-Ok-Some.ensures in
    seen_step messages c.message_cuts.ensures.laws _ _ _ _ _ _ _ c.members.invariant next.found c.in_ok-add_member-in-Ok-Some.ensures.judged c.in_ok-add_member-in-Ok-Some.ensures.ok

pub read_value-returns-in_err-add_member-in-Ok-Some-clause-judged : goal.read_value-returns-in_err-add_member-in-Ok-Some-clause-judged
read_value-returns-in_err-add_member-in-Ok-Some-clause-judged t c =
    let next = rw c.in-Ok-Some.field-0-is at c.in-Ok-Some.ensures in
    let p = err_from_is_err_and c.from_residual.result c.from_residual.ensures.1 in
    rw (p.1, p.2) (seen_item messages c.message_cuts.ensures.laws _ (value_laws c.message_cuts.ensures.laws c.args.left) _ _ _ _ _ c.members.invariant next.found Unit NotedValue c.in_err-add_member-in-Ok-Some.field-0.0 c.in_err-add_member-in-Ok-Some.ensures.judged)

pub read_value-returns-in-Err-clause-judged : goal.read_value-returns-in-Err-clause-judged
read_value-returns-in-Err-clause-judged t c = seen_unread messages c.message_cuts.ensures.laws _ _ _ _ _ c.members.invariant c.in-Err.ensures.unread

pub read_value-returns-in-Ok-None-clause-judged : goal.read_value-returns-in-Ok-None-clause-judged
read_value-returns-in-Ok-None-clause-judged t c =
    let next = rw c.in-Ok-None.field-0-is at c.in-Ok-None.ensures in
    let all = seen_to_end c.message_cuts.ensures _ _ _ _ c.members.invariant (next.end.0 tt) in
    all.fine (λ n h. h)

pub read_list-values-init : goal.read_list-values-init
read_list-values-init t c = rw c.new-cursor.ensures (seen_start messages c.message_cuts.ensures.laws _ _ _ (c.none-rows.ensures c.args.left))

pub read_list-values-preserved : goal.read_list-values-preserved
read_list-values-preserved t c =
    let next = rw c.in-Ok-Some.field-0-is at c.in-Ok-Some.ensures in
    seen_step messages c.message_cuts.ensures.laws _ _ _ _ _ _ _ c.values.invariant next.found c.in_ok-add_value-in-Ok-Some.ensures.judged c.in_ok-add_value-in-Ok-Some.ensures.ok

pub read_list-returns-in_err-add_value-in-Ok-Some-clause-judged : goal.read_list-returns-in_err-add_value-in-Ok-Some-clause-judged
read_list-returns-in_err-add_value-in-Ok-Some-clause-judged t c =
    let next = rw c.in-Ok-Some.field-0-is at c.in-Ok-Some.ensures in
    let p = err_from_is_err_and c.from_residual.result c.from_residual.ensures.1 in
    rw (p.1, p.2) (seen_item messages c.message_cuts.ensures.laws _ (list_laws c.message_cuts.ensures.laws c.args.left) _ _ _ _ _ c.values.invariant next.found Unit NotedValue c.in_err-add_value-in-Ok-Some.field-0.0 c.in_err-add_value-in-Ok-Some.ensures.judged)

pub read_list-returns-in-Err-clause-judged : goal.read_list-returns-in-Err-clause-judged
read_list-returns-in-Err-clause-judged t c = seen_unread messages c.message_cuts.ensures.laws _ _ _ _ _ c.values.invariant c.in-Err.ensures.unread

pub read_list-returns-in-Ok-None-clause-judged : goal.read_list-returns-in-Ok-None-clause-judged
read_list-returns-in-Ok-None-clause-judged t c =
    let next = rw c.in-Ok-None.field-0-is at c.in-Ok-None.ensures in
    let all = seen_to_end c.message_cuts.ensures _ _ _ _ c.values.invariant (next.end.0 tt) in
    all.fine (λ n h. h)

pub read_map-pairs-init : goal.read_map-pairs-init
read_map-pairs-init t c = rw c.new-cursor.ensures (seen_start messages c.message_cuts.ensures.laws _ _ _ (c.none-rows.ensures c.args.left))

pub read_map-pairs-preserved : goal.read_map-pairs-preserved
read_map-pairs-preserved t c =
    let next = rw c.in-Ok-Some.field-0-is at c.in-Ok-Some.ensures in
    seen_step messages c.message_cuts.ensures.laws _ _ _ _ _ _ _ c.pairs.invariant next.found c.in_ok-add_key_value-in-Ok-Some.ensures.judged c.in_ok-add_key_value-in-Ok-Some.ensures.ok

pub read_map-returns-in_err-add_key_value-in-Ok-Some-clause-judged : goal.read_map-returns-in_err-add_key_value-in-Ok-Some-clause-judged
read_map-returns-in_err-add_key_value-in-Ok-Some-clause-judged t c =
    let next = rw c.in-Ok-Some.field-0-is at c.in-Ok-Some.ensures in
    let p = err_from_is_err_and c.from_residual-in_err-add_key_value-in-Ok-Some.result c.from_residual-in_err-add_key_value-in-Ok-Some.ensures.1 in
    rw (p.1, p.2) (seen_item messages c.message_cuts.ensures.laws _ (map_laws c.message_cuts.ensures.laws c.args.left) _ _ _ _ _ c.pairs.invariant next.found Unit NotedValue c.in_err-add_key_value-in-Ok-Some.field-0.0 c.in_err-add_key_value-in-Ok-Some.ensures.judged)

pub read_map-returns-in-Err-clause-judged : goal.read_map-returns-in-Err-clause-judged
read_map-returns-in-Err-clause-judged t c = seen_unread messages c.message_cuts.ensures.laws _ _ _ _ _ c.pairs.invariant c.in-Err.ensures.unread

pub read_map-returns-in-Ok-None-clause-judged : goal.read_map-returns-in-Ok-None-clause-judged
read_map-returns-in-Ok-None-clause-judged t c =
    let next = rw c.in-Ok-None.field-0-is at c.in-Ok-None.ensures in
    let all = seen_to_end c.message_cuts.ensures _ _ _ _ c.pairs.invariant (next.end.0 tt) in
    all.fine (λ n h. h)

pub read_map-returns-in-Ok-None-clause-value : goal.read_map-returns-in-Ok-None-clause-value
read_map-returns-in-Ok-None-clause-value t c =
    let next = rw c.in-Ok-None.field-0-is at c.in-Ok-None.ensures in
    let all = seen_to_end c.message_cuts.ensures _ _ _ _ c.pairs.invariant (next.end.0 tt) in
    c.in_ok-finish-in-Ok-None.ensures c.args.left all.items c.args.bytes.now all.are all.gathered

pub walk_key_value-fields-init : goal.walk_key_value-fields-init
walk_key_value-fields-init t c = rw c.new-cursor.ensures (seen_start messages c.message_cuts.ensures.laws _ _ _ (record { key = tt; value = tt }))

pub walk_key_value-fields-preserved : goal.walk_key_value-fields-preserved
walk_key_value-fields-preserved t c =
    let next = rw c.in-Ok-Some.field-0-is at c.in-Ok-Some.ensures in
    seen_step messages c.message_cuts.ensures.laws _ _ _ _ _ _ _ c.fields.invariant next.found c.in_ok-add_field-in-Ok-Some.ensures.judged c.in_ok-add_field-in-Ok-Some.ensures.ok

pub walk_key_value-returns-in_err-add_field-in-Ok-Some-clause-judged : goal.walk_key_value-returns-in_err-add_field-in-Ok-Some-clause-judged
walk_key_value-returns-in_err-add_field-in-Ok-Some-clause-judged t c =
    let next = rw c.in-Ok-Some.field-0-is at c.in-Ok-Some.ensures in
    let p = err_from_is_err_and c.from_residual.result c.from_residual.ensures.1 in
    rw (p.1, p.2) (seen_item messages c.message_cuts.ensures.laws _ (key_value_laws c.message_cuts.ensures.laws c.args.left) _ _ _ _ _ c.fields.invariant next.found Unit KeyValue c.in_err-add_field-in-Ok-Some.field-0.0 c.in_err-add_field-in-Ok-Some.ensures.judged)

pub walk_key_value-returns-in-Err-clause-judged : goal.walk_key_value-returns-in-Err-clause-judged
walk_key_value-returns-in-Err-clause-judged t c = seen_unread messages c.message_cuts.ensures.laws _ _ _ _ _ c.fields.invariant c.in-Err.ensures.unread

pub walk_key_value-returns-in-Ok-None-clause-judged : goal.walk_key_value-returns-in-Ok-None-clause-judged
walk_key_value-returns-in-Ok-None-clause-judged t c =
    let next = rw c.in-Ok-None.field-0-is at c.in-Ok-None.ensures in
    let all = seen_to_end c.message_cuts.ensures _ _ _ _ c.fields.invariant (next.end.0 tt) in
    all.fine (λ n h. h)

-- ---- plain pairs

pub read_key_value-returns-in-Some-clause-value : goal.read_key_value-returns-in-Some-clause-value
read_key_value-returns-in-Some-clause-value t c =
    pair_reading c.args.left c.in-Some.plain c.args.bytes.now c.in-Some.ensures _ c.in_ok-key.ensures.key (c.leaf_of-value.ensures ∙ ap leaf c.in_ok-key.ensures.value)

pub read_key_value-returns-in-Some-clause-judged : goal.read_key_value-returns-in-Some-clause-judged
read_key_value-returns-in-Some-clause-judged t c = pair_fine c.reading_laws.ensures c.args.left c.in-Some.plain c.args.bytes.now c.in-Some.ensures
