use Rattle.std.proofs.Common.{rules, sym}
use Rattle.json_members.proofs.WritingLaws.{seq, stop, exits_written, goes_on, stops}
use Rattle.otlp_json.specs.Canonical.{any_value_data, key_value_data}
use Rattle.otlp_json.specs.private.Writing.{value_tokens, key_value_tokens}
use Rattle.otlp_json.proofs.TokenLemmas.{list_tokens, map_tokens, pair_rows, value_there}
use Rattle.otlp_json.proofs.WritingLemmas.{list_written}
use Rattle.otlp_json.proofs.writing.values.+value_writers.Goals as goal

pub list_value-returns-in_err-open_value : goal.list_value-returns-in_err-open_value
list_value-returns-in_err-open_value t c = exits_written _ c.in_err-open_value.field-0.0 _ _ _ _ (search rules) (stop _ _ _ _ _ c.in_err-open_value.ensures)

pub list_value-returns-in_err-values_member : goal.list_value-returns-in_err-values_member
list_value-returns-in_err-values_member t c = exits_written _ c.in_err-values_member.field-0.0 _ _ _ _ (search rules) (seq _ _ _ _ _ _ c.in_ok-open_value.ensures (stop _ _ _ _ _ c.in_err-values_member.ensures))

pub list_value-returns : goal.list_value-returns
list_value-returns t c = seq _ _ _ _ _ _ c.in_ok-open_value.ensures (seq _ _ _ _ _ _ c.in_ok-values_member.ensures (c.close_value.ensures))

pub map_value-returns-in_err-open_value : goal.map_value-returns-in_err-open_value
map_value-returns-in_err-open_value t c = exits_written _ c.in_err-open_value.field-0.0 _ _ _ _ (search rules) (stop _ _ _ _ _ c.in_err-open_value.ensures)

pub map_value-returns-in_err-pairs_member : goal.map_value-returns-in_err-pairs_member
map_value-returns-in_err-pairs_member t c = exits_written _ c.in_err-pairs_member.field-0.0 _ _ _ _ (search rules) (seq _ _ _ _ _ _ c.in_ok-open_value.ensures (stop _ _ _ _ _ c.in_err-pairs_member.ensures))

pub map_value-returns : goal.map_value-returns
map_value-returns t c = seq _ _ _ _ _ _ c.in_ok-open_value.ensures (seq _ _ _ _ _ _ c.in_ok-pairs_member.ensures (c.close_value.ensures))

pub named_values-returns-in_err-open_list : goal.named_values-returns-in_err-open_list
named_values-returns-in_err-open_list t c = exits_written _ c.in_err-open_list.field-0.0 _ _ _ _ (search rules) (stop _ _ _ _ _ c.in_err-open_list.ensures)

pub named_values-returns-in_err-write_values : goal.named_values-returns-in_err-write_values
named_values-returns-in_err-write_values t c = exits_written _ c.in_err-write_values.field-0.0 _ _ _ _ (search rules) (seq _ _ _ _ _ _ c.in_ok-open_list.ensures (stop _ _ _ _ _ c.in_err-write_values.ensures))

pub named_values-returns : goal.named_values-returns
named_values-returns t c = seq _ _ _ _ _ _ c.in_ok-open_list.ensures (seq _ _ _ _ _ _ c.in_ok-write_values.ensures (c.close_array.ensures))

pub named_pairs-returns-in_err-open_list : goal.named_pairs-returns-in_err-open_list
named_pairs-returns-in_err-open_list t c = exits_written _ c.in_err-open_list.field-0.0 _ _ _ _ (search rules) (stop _ _ _ _ _ c.in_err-open_list.ensures)

pub named_pairs-returns-in_err-write_pairs : goal.named_pairs-returns-in_err-write_pairs
named_pairs-returns-in_err-write_pairs t c = exits_written _ c.in_err-write_pairs.field-0.0 _ _ _ _ (search rules) (seq _ _ _ _ _ _ c.in_ok-open_list.ensures (stop _ _ _ _ _ c.in_err-write_pairs.ensures))

pub named_pairs-returns : goal.named_pairs-returns
named_pairs-returns t c = seq _ _ _ _ _ _ c.in_ok-open_list.ensures (seq _ _ _ _ _ _ c.in_ok-write_pairs.ensures (c.close_array.ensures))

pub named_value-returns-in_err-name_of : goal.named_value-returns-in_err-name_of
named_value-returns-in_err-name_of t c = exits_written _ c.in_err-name_of.field-0.0 _ _ _ _ (search rules) (stop _ _ _ _ _ c.in_err-name_of.ensures)

pub named_value-returns : goal.named_value-returns
named_value-returns t c = seq _ _ _ _ _ _ c.in_ok-name_of.ensures (c.write_value.ensures)

pub write_pair-returns-in_err-open_object : goal.write_pair-returns-in_err-open_object
write_pair-returns-in_err-open_object t c = rw (pair_rows c.args.key.now c.args.value.now) (exits_written _ c.in_err-open_object.field-0.0 _ _ _ _ (search rules) (stop _ _ _ _ _ c.in_err-open_object.ensures))

pub write_pair-returns-in_err-given_text_member : goal.write_pair-returns-in_err-given_text_member
write_pair-returns-in_err-given_text_member t c = rw (pair_rows c.args.key.now c.args.value.now) (exits_written _ c.in_err-given_text_member.field-0.0 _ _ _ _ (search rules) (seq _ _ _ _ _ _ c.in_ok-open_object.ensures (stop _ _ _ _ _ c.in_err-given_text_member.ensures)))

pub write_pair-returns-in_err-held_member : goal.write_pair-returns-in_err-held_member
write_pair-returns-in_err-held_member t c = rw (pair_rows c.args.key.now c.args.value.now) (exits_written _ c.in_err-held_member.field-0.0 _ _ _ _ (search rules) (seq _ _ _ _ _ _ c.in_ok-open_object.ensures (seq _ _ _ _ _ _ c.in_ok-given_text_member.ensures (stop _ _ _ _ _ c.in_err-held_member.ensures))))

pub write_pair-returns : goal.write_pair-returns
write_pair-returns t c = rw (pair_rows c.args.key.now c.args.value.now) (seq _ _ _ _ _ _ c.in_ok-open_object.ensures (seq _ _ _ _ _ _ c.in_ok-given_text_member.ensures (seq _ _ _ _ _ _ c.in_ok-held_member.ensures (c.close_object.ensures))))

pub write_values-returns-in_err-write_value : goal.write_values-returns-in_err-write_value
write_values-returns-in_err-write_value t c =
    exits_written _ c.in_err-write_value.field-0.0 _ _ _ _ (search rules)
    (stops value_tokens c.args.members.now c.members.member-index c.member-item.result c.members-test.true c.member-item.is _ _ _ _ c.members.invariant c.in_err-write_value.ensures)

pub write_values-members-preserved : goal.write_values-members-preserved
write_values-members-preserved t c =
    goes_on value_tokens c.args.members.now c.members.member-index c.member-item.result c.members-test.true c.member-item.is _ _ _ c.members.invariant c.in_ok-write_value.ensures

pub write_pairs-returns-in_err-write_pair : goal.write_pairs-returns-in_err-write_pair
write_pairs-returns-in_err-write_pair t c =
    exits_written _ c.in_err-write_pair.field-0.0 _ _ _ _ (search rules)
    (stops key_value_tokens c.args.pairs.now c.pairs.pair-index c.pair-item.result c.pairs-test.true c.pair-item.is _ _ _ _ c.pairs.invariant c.in_err-write_pair.ensures)

pub write_pairs-pairs-preserved : goal.write_pairs-pairs-preserved
write_pairs-pairs-preserved t c =
    goes_on key_value_tokens c.args.pairs.now c.pairs.pair-index c.pair-item.result c.pairs-test.true c.pair-item.is _ _ _ c.pairs.invariant c.in_ok-write_pair.ensures

pub values_member-returns : goal.values_member-returns
unfolding value_tokens
values_member-returns t c = list_written _ _ _ _ any_value_data c.args.members.now (search rules) c.named_values.ensures

pub pairs_member-returns : goal.pairs_member-returns
unfolding key_value_tokens
pairs_member-returns t c = list_written _ _ _ _ (λ pair. key_value_data pair.0 (any_value_data pair.1)) c.args.pairs.now (search rules) c.named_pairs.ensures

pub held_member-returns-in_default : goal.held_member-returns-in_default
held_member-returns-in_default t c = rw (value_there c.args.value.now c.in_default.not-Nothing) c.named_value.ensures

pub write_value-returns-in-Text : goal.write_value-returns-in-Text
unfolding value_tokens
write_value-returns-in-Text t c = rw (c.in-Text.is, sym c.as_str.ensures.value) c.text_value.ensures

pub write_value-returns-in-Truth : goal.write_value-returns-in-Truth
unfolding value_tokens
write_value-returns-in-Truth t c = rw c.in-Truth.is c.truth_value.ensures

pub write_value-returns-in-Number : goal.write_value-returns-in-Number
unfolding value_tokens
write_value-returns-in-Number t c = rw c.in-Number.is c.number_value.ensures

pub write_value-returns-in-Eight : goal.write_value-returns-in-Eight
unfolding value_tokens
write_value-returns-in-Eight t c = rw c.in-Eight.is c.double_value.ensures

pub write_value-returns-in-Bytes : goal.write_value-returns-in-Bytes
unfolding value_tokens
write_value-returns-in-Bytes t c = rw (c.in-Bytes.is, sym c.as_slice-in-Bytes.ensures) c.bytes_value.ensures

pub write_value-returns-in-Nothing : goal.write_value-returns-in-Nothing
unfolding value_tokens
write_value-returns-in-Nothing t c = rw c.in-Nothing.is c.nothing_value.ensures

pub write_value-returns-in-List : goal.write_value-returns-in-List
write_value-returns-in-List t c = rw (c.in-List.is, list_tokens c.in-List.members, sym c.as_slice.ensures) c.list_value.ensures

pub write_value-returns-in-Map : goal.write_value-returns-in-Map
write_value-returns-in-Map t c = rw (c.in-Map.is, map_tokens c.in-Map.pairs, sym c.as_slice-in-Map.ensures) c.map_value.ensures
