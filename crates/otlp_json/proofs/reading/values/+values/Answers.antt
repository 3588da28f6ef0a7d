use Rattle.std.proofs.Common.{◌≡◌, suc, true, is_some, arith, rules}
use Rattle.serde_json.specs.Find.{as_object}
use Rattle.json_nodes.specs.Lents.{lent_view as view}
use Rattle.span_io.specs.declared.halt.Halt.TheVariants as halts
use Rattle.span_io.proofs.PathLaws.{clean_valued, clean_parts, clean_nothing, halts_valued, halts_first, halts_later, quiet_parts, quiet_nothing, exits}
use Rattle.trace_model.proofs.ToldLaws.{value_added, pair_added}
use Rattle.otlp_json.specs.private.Found.{ValuesTold, PairsTold}
use Rattle.otlp_json.specs.Values.{json_value_in, json_key_value_in, many_members, key_value_members, inner_value_offends, inner_pair_offends}
use Rattle.otlp_json.proofs.ListLemmas.{found_given}
use Rattle.otlp_json.proofs.ValueLemmas.{judged_behind, halts_behind, clean_held, halts_held, value_deeper, pair_deeper, value_clean_deeper, value_halts_deeper, pair_clean_deeper, pair_halts_deeper, held_begin, held_more, held_stops, too_deep}
use Rattle.otlp_json.proofs.Walks.{all_passed}
use Rattle.otlp_json.proofs.reading.values.+values.Goals as goal

-- ---- the parts of a value

pub read_part-returns-in-Text-clause-judged : goal.read_part-returns-in-Text-clause-judged
read_part-returns-in-Text-clause-judged t c = rw c.in-Text.is (judged_behind 0 _ _ c.text_value.ensures.judged)

pub read_part-returns-in-Truth-clause-judged : goal.read_part-returns-in-Truth-clause-judged
read_part-returns-in-Truth-clause-judged t c = rw c.in-Truth.is (judged_behind 1 _ _ c.truth_value.ensures.judged)

pub read_part-returns-in-Number-clause-judged : goal.read_part-returns-in-Number-clause-judged
read_part-returns-in-Number-clause-judged t c = rw c.in-Number.is (judged_behind 2 _ _ c.number_value.ensures.judged)

pub read_part-returns-in-Double-clause-judged : goal.read_part-returns-in-Double-clause-judged
read_part-returns-in-Double-clause-judged t c = rw c.in-Double.is (halts_behind 3 (halts.Why c.double_value.result) _ c.double_value.ensures)

pub read_part-returns-in-List-clause-judged : goal.read_part-returns-in-List-clause-judged
read_part-returns-in-List-clause-judged t c = rw c.in-List.is (judged_behind 4 _ _ c.read_list.ensures.judged)

pub read_part-returns-in-Map-clause-judged : goal.read_part-returns-in-Map-clause-judged
read_part-returns-in-Map-clause-judged t c = rw c.in-Map.is (judged_behind 5 _ _ c.read_map.ensures.judged)

pub read_part-returns-in-Bytes-clause-judged : goal.read_part-returns-in-Bytes-clause-judged
read_part-returns-in-Bytes-clause-judged t c = rw c.in-Bytes.is (judged_behind 6 _ _ c.bytes_value.ensures.judged)

-- ---- lists

pub read_list-returns-in_err-values-clause-judged : goal.read_list-returns-in_err-values-clause-judged
unfolding many_members
read_list-returns-in_err-values-clause-judged t c =
    let shape : is_some (as_object (view c.args.v.now)) ≡ true = cc in
    exits c.in_err-values.field-0.0 _ _ (search rules) (halts_valued _ _ (as_object (view c.args.v.now)) shape (halts_first _ _ _ quiet_nothing c.in_err-values.ensures.judged))

pub read_list-returns-clause-judged : goal.read_list-returns-clause-judged
unfolding many_members
read_list-returns-clause-judged t c =
    let shape : is_some (as_object (view c.args.v.now)) ≡ true = cc in
    clean_valued _ (as_object (view c.args.v.now)) shape (clean_parts _ _ c.in_ok-values.ensures.judged clean_nothing)

pub values_in-returns-in_err-read-clause-judged : goal.values_in-returns-in_err-read-clause-judged
values_in-returns-in_err-read-clause-judged t c =
    exits c.in_err-read.field-0.0 _ _ (search rules) (halts_held c.args.left (inner_value_offends c.args.left) _ _ c.in-Some.ensures _ c.in_err-read.ensures.judged)

pub values_in-returns-clause-value : goal.values_in-returns-clause-value
values_in-returns-clause-value t c = found_given (json_value_in c.args.left) ValuesTold _ _ _ c.in-Some.ensures c.in_ok-read.ensures.value

pub values_in-returns-clause-judged : goal.values_in-returns-clause-judged
values_in-returns-clause-judged t c = clean_held c.args.left (inner_value_offends c.args.left) _ _ c.in-Some.ensures c.in_ok-read.ensures.judged

pub read_elements-elements-init : goal.read_elements-elements-init
read_elements-elements-init t c = held_begin (json_value_in c.args.left) ValuesTold (inner_value_offends c.args.left) c.args.left _ _ (record { values = c.in_ok-means.ensures.empty; noted = c.new-notes.ensures })

pub read_elements-returns-in_err-read-clause-judged : goal.read_elements-returns-in_err-read-clause-judged
read_elements-returns-in_err-read-clause-judged t c =
    let some : c.args.left ≡ suc c.in-Some-checked_sub.below = omega (arith, c.in-Some-checked_sub.ensures) in
    exits c.in_err-read.field-0.0 _ _ (search rules)
    (held_stops (json_value_in c.args.left) ValuesTold (inner_value_offends c.args.left) c.args.left _ _ _ _ c.in-Some.ensures _ c.elements.invariant _ some _
    (value_halts_deeper c.args.left _ some _ _ c.in_err-read.ensures.judged))

pub read_elements-returns-in_default-checked_sub-clause-judged : goal.read_elements-returns-in_default-checked_sub-clause-judged
read_elements-returns-in_default-checked_sub-clause-judged t c =
    too_deep (json_value_in c.args.left) ValuesTold (inner_value_offends c.args.left) c.args.left _ _ _ _ c.in-Some.ensures _ c.elements.invariant (omega (arith, c.in_default-checked_sub.ensures))

pub read_elements-elements-preserved : goal.read_elements-elements-preserved
read_elements-elements-preserved t c =
    let some : c.args.left ≡ suc c.in-Some-checked_sub.below = omega (arith, c.in-Some-checked_sub.ensures) in
    held_more (json_value_in c.args.left) ValuesTold (inner_value_offends c.args.left) c.args.left _ _ _ _ c.in-Some.ensures _ c.elements.invariant _ some _ c.in_ok-read.read
    (λ found h. value_added found _ _ _ _ c.in_ok-read.read c.in_ok-push.ensures.ok c.in_ok-note_keys.ensures h)
    (value_deeper c.args.left _ some _ _ c.in_ok-read.ensures.value) (value_clean_deeper c.args.left _ some _ c.in_ok-read.ensures.judged)

pub read_elements-returns-clause-value : goal.read_elements-returns-clause-value
read_elements-returns-clause-value t c = (all_passed _ _ _ c.in_default.ensures c.elements.invariant).read

pub read_elements-returns-clause-judged : goal.read_elements-returns-clause-judged
read_elements-returns-clause-judged t c = (all_passed _ _ _ c.in_default.ensures c.elements.invariant).clean

-- ---- maps

pub read_map-returns-in_err-rows-clause-judged : goal.read_map-returns-in_err-rows-clause-judged
unfolding many_members
read_map-returns-in_err-rows-clause-judged t c =
    let shape : is_some (as_object (view c.args.v.now)) ≡ true = cc in
    exits c.in_err-rows.field-0.0 _ _ (search rules) (halts_valued _ _ (as_object (view c.args.v.now)) shape (halts_first _ _ _ quiet_nothing c.in_err-rows.ensures.judged))

pub read_map-returns-clause-judged : goal.read_map-returns-clause-judged
unfolding many_members
read_map-returns-clause-judged t c =
    let shape : is_some (as_object (view c.args.v.now)) ≡ true = cc in
    clean_valued _ (as_object (view c.args.v.now)) shape (clean_parts _ _ c.in_ok-rows.ensures.judged clean_nothing)

pub pairs_in-returns-in_err-read-clause-judged : goal.pairs_in-returns-in_err-read-clause-judged
pairs_in-returns-in_err-read-clause-judged t c =
    exits c.in_err-read.field-0.0 _ _ (search rules) (halts_held c.args.left (inner_pair_offends c.args.left) _ _ c.in-Some.ensures _ c.in_err-read.ensures.judged)

pub pairs_in-returns-clause-value : goal.pairs_in-returns-clause-value
pairs_in-returns-clause-value t c = found_given (json_key_value_in c.args.left) PairsTold _ _ _ c.in-Some.ensures c.in_ok-read.ensures.value

pub pairs_in-returns-clause-judged : goal.pairs_in-returns-clause-judged
pairs_in-returns-clause-judged t c = clean_held c.args.left (inner_pair_offends c.args.left) _ _ c.in-Some.ensures c.in_ok-read.ensures.judged

pub read_pairs-elements-init : goal.read_pairs-elements-init
read_pairs-elements-init t c = held_begin (json_key_value_in c.args.left) PairsTold (inner_pair_offends c.args.left) c.args.left _ _ (record { entries = c.in_ok-means.ensures.empty; noted = c.new-notes.ensures })

pub read_pairs-returns-in_err-read-clause-judged : goal.read_pairs-returns-in_err-read-clause-judged
read_pairs-returns-in_err-read-clause-judged t c =
    let some : c.args.left ≡ suc c.in-Some-checked_sub.below = omega (arith, c.in-Some-checked_sub.ensures) in
    exits c.in_err-read.field-0.0 _ _ (search rules)
    (held_stops (json_key_value_in c.args.left) PairsTold (inner_pair_offends c.args.left) c.args.left _ _ _ _ c.in-Some.ensures _ c.elements.invariant _ some _
    (pair_halts_deeper c.args.left _ some _ _ c.in_err-read.ensures.judged))

pub read_pairs-returns-in_default-checked_sub-clause-judged : goal.read_pairs-returns-in_default-checked_sub-clause-judged
read_pairs-returns-in_default-checked_sub-clause-judged t c =
    too_deep (json_key_value_in c.args.left) PairsTold (inner_pair_offends c.args.left) c.args.left _ _ _ _ c.in-Some.ensures _ c.elements.invariant (omega (arith, c.in_default-checked_sub.ensures))

pub read_pairs-elements-preserved : goal.read_pairs-elements-preserved
read_pairs-elements-preserved t c =
    let some : c.args.left ≡ suc c.in-Some-checked_sub.below = omega (arith, c.in-Some-checked_sub.ensures) in
    held_more (json_key_value_in c.args.left) PairsTold (inner_pair_offends c.args.left) c.args.left _ _ _ _ c.in-Some.ensures _ c.elements.invariant _ some _ c.in_ok-read.read
    (λ found h. pair_added found _ _ _ _ c.in_ok-read.read c.in_ok-push.ensures.ok c.in_ok-note_keys.ensures h)
    (pair_deeper c.args.left _ some _ _ c.in_ok-read.ensures.value) (pair_clean_deeper c.args.left _ some _ c.in_ok-read.ensures.judged)

pub read_pairs-returns-clause-value : goal.read_pairs-returns-clause-value
read_pairs-returns-clause-value t c = (all_passed _ _ _ c.in_default.ensures c.elements.invariant).read

pub read_pairs-returns-clause-judged : goal.read_pairs-returns-clause-judged
read_pairs-returns-clause-judged t c = (all_passed _ _ _ c.in_default.ensures c.elements.invariant).clean

-- ---- `KeyValue`

pub read_key_value-returns-in_err-key-clause-judged : goal.read_key_value-returns-in_err-key-clause-judged
unfolding key_value_members
read_key_value-returns-in_err-key-clause-judged t c =
    let shape : is_some (as_object (view c.args.v.now)) ≡ true = cc in
    exits c.in_err-key.field-0.0 _ _ (search rules) (halts_valued _ _ (as_object (view c.args.v.now)) shape
    (halts_first _ _ _ (search (quiet_parts, quiet_nothing) depth 24) c.in_err-key.ensures.judged))

pub read_key_value-returns-in_err-value-clause-judged : goal.read_key_value-returns-in_err-value-clause-judged
unfolding key_value_members
read_key_value-returns-in_err-value-clause-judged t c =
    let shape : is_some (as_object (view c.args.v.now)) ≡ true = cc in
    exits c.in_err-value.field-0.0 _ _ (search rules) (halts_valued _ _ (as_object (view c.args.v.now)) shape
    (halts_later _ _ _ c.in_ok-key.ensures.judged (halts_first _ _ _ quiet_nothing c.in_err-value.ensures.judged)))

pub read_key_value-returns-clause-judged : goal.read_key_value-returns-clause-judged
unfolding key_value_members
read_key_value-returns-clause-judged t c =
    let shape : is_some (as_object (view c.args.v.now)) ≡ true = cc in
    clean_valued _ (as_object (view c.args.v.now)) shape (clean_parts _ _ c.in_ok-key.ensures.judged (clean_parts _ _ c.in_ok-value.ensures.judged clean_nothing))
