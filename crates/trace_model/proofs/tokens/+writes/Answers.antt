use Rattle.std.proofs.Common.{[], ◌∷◌, rules, sym}
use Rattle.json.specs.Token.{string, begin_array, end_array, begin_object, end_object}
use Rattle.trace_model.specs.private.WrittenTokens.{tokens_of, pair_tokens, list_tokens, map_tokens}
use Rattle.trace_model.proofs.TokenRows.{wrote, closed, list_of_members, map_of_pairs}
use Rattle.trace_model.proofs.tokens.+writes.Goals as goal

pub write_value-returns-in_ok-string-in-Text : goal.write_value-returns-in_ok-string-in-Text
unfolding tokens_of
write_value-returns-in_ok-string-in-Text t c =
    rw (c.in-Text.is, sym c.as_str.ensures.value) (wrote c.args.out.now c.string.new.self (string c.as_str.result.now ∷ []) c.string.ensures.room.0 c.in_ok-string-in-Text.ensures.ok)

pub write_value-returns-in_ok-boolean-in-Truth : goal.write_value-returns-in_ok-boolean-in-Truth
unfolding tokens_of
write_value-returns-in_ok-boolean-in-Truth t c =
    rw c.in-Truth.is (wrote c.args.out.now c.boolean.new.self _ c.boolean.ensures.room.0 c.in_ok-boolean-in-Truth.ensures.ok)

pub write_value-returns-in-Number : goal.write_value-returns-in-Number
unfolding tokens_of
write_value-returns-in-Number t c = rw c.in-Number.is c.write_number.ensures

pub write_value-returns-in-Bytes : goal.write_value-returns-in-Bytes
unfolding tokens_of
write_value-returns-in-Bytes t c = rw (c.in-Bytes.is, sym c.as_slice.ensures) c.write_bytes.ensures

pub write_value-returns-in-List : goal.write_value-returns-in-List
write_value-returns-in-List t c =
    rw (c.in-List.is, list_of_members, sym c.as_slice-in-List.ensures) c.write_list.ensures

pub write_value-returns-in-Map : goal.write_value-returns-in-Map
write_value-returns-in-Map t c =
    rw (c.in-Map.is, map_of_pairs, sym c.as_slice-in-Map.ensures) c.write_map.ensures

pub write_value-returns-in_ok-null-in-Eight : goal.write_value-returns-in_ok-null-in-Eight
unfolding tokens_of
write_value-returns-in_ok-null-in-Eight t c =
    search (rules, wrote, c.null.ensures.room, c.in_ok-null-in-Eight.ensures.ok)

pub write_list-returns : goal.write_list-returns
unfolding list_tokens
write_list-returns t c =
    closed tokens_of begin_array c.args.members.now end_array c.args.out.now c.members.out c.end_array.new.self c.members.member-index c.members-test.false c.members.invariant
    (wrote c.members.out c.end_array.new.self (end_array ∷ []) c.end_array.ensures.room.0 c.in_ok-end_array.ensures.ok)

pub write_map-returns : goal.write_map-returns
unfolding map_tokens
write_map-returns t c =
    closed pair_tokens begin_object c.args.pairs.now end_object c.args.out.now c.pairs.out c.end_object.new.self c.pairs.pair-index c.pairs-test.false c.pairs.invariant
    (wrote c.pairs.out c.end_object.new.self (end_object ∷ []) c.end_object.ensures.room.0 c.in_ok-end_object.ensures.ok)
