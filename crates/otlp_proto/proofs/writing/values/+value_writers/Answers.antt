use Rattle.std.proofs.Common.{◌≡◌, List, ℕ, ap, sym, ◌∙◌}
use Rattle.trace_model.specs.declared.value.Value.{Value}
use Rattle.otlp_proto.specs.Canonical.{bytes_field, list_text, value_text, key_value_text, attributes_text}
use Rattle.otlp_proto.proofs.Growth.{on_err_from}
use Rattle.otlp_proto.proofs.ListTexts.{list_start, list_more, list_front}
use Rattle.otlp_proto.proofs.ValueTexts.{list_value, map_value}
use Rattle.otlp_proto.proofs.writing.values.+value_writers.Goals as goal

pub write_value-returns-in-List-clause-ok : goal.write_value-returns-in-List-clause-ok
write_value-returns-in-List-clause-ok t c =
    let text : value_text c.args.value.now ≡ bytes_field 5 (list_text 1 value_text c.as_slice.result.now) = ap value_text c.in-List.is ∙ list_value c.in-List.members ∙ ap (λ (l : List Value). bytes_field 5 (list_text 1 value_text l)) (sym c.as_slice.ensures) in
    rw text c.write_list.ensures.ok

pub write_value-returns-in-List-clause-err : goal.write_value-returns-in-List-clause-err
write_value-returns-in-List-clause-err t c =
    let text : value_text c.args.value.now ≡ bytes_field 5 (list_text 1 value_text c.as_slice.result.now) = ap value_text c.in-List.is ∙ list_value c.in-List.members ∙ ap (λ (l : List Value). bytes_field 5 (list_text 1 value_text l)) (sym c.as_slice.ensures) in
    rw text c.write_list.ensures.err

pub write_value-returns-in-Map-clause-ok : goal.write_value-returns-in-Map-clause-ok
write_value-returns-in-Map-clause-ok t c =
    let text : value_text c.args.value.now ≡ bytes_field 6 (attributes_text 1 c.as_slice-in-Map.result.now) = ap value_text c.in-Map.is ∙ map_value c.in-Map.pairs ∙ ap (λ (l : List (List ℕ × Value)). bytes_field 6 (attributes_text 1 l)) (sym c.as_slice-in-Map.ensures) in
    rw text c.write_map.ensures.ok

pub write_value-returns-in-Map-clause-err : goal.write_value-returns-in-Map-clause-err
write_value-returns-in-Map-clause-err t c =
    let text : value_text c.args.value.now ≡ bytes_field 6 (attributes_text 1 c.as_slice-in-Map.result.now) = ap value_text c.in-Map.is ∙ map_value c.in-Map.pairs ∙ ap (λ (l : List (List ℕ × Value)). bytes_field 6 (attributes_text 1 l)) (sym c.as_slice-in-Map.ensures) in
    rw text c.write_map.ensures.err

pub write_members-members-init : goal.write_members-members-init
write_members-members-init t c = list_start 1 value_text c.args.out.now c.args.members.now

pub write_members-returns-in_err-write_member-clause-err : goal.write_members-returns-in_err-write_member-clause-err
write_members-returns-in_err-write_member-clause-err t c =
    on_err_from c.from_residual.result
    (list_front 1 value_text c.args.out.now c.members.out c.write_member.new.out c.args.members.now c.members.member-index c.member-item.result c.members-test.true c.member-item.is c.members.invariant c.in_err-write_member.ensures.err)

pub write_members-members-preserved : goal.write_members-members-preserved
write_members-members-preserved t c =
    list_more 1 value_text c.args.out.now c.members.out c.write_member.new.out c.args.members.now c.members.member-index c.member-item.result c.members-test.true c.member-item.is c.members.invariant c.in_ok-write_member.ensures.ok

pub write_attributes-pairs-init : goal.write_attributes-pairs-init
write_attributes-pairs-init t c = list_start c.args.number key_value_text c.args.out.now c.args.pairs.now

pub write_attributes-returns-in_err-write_entry-clause-err : goal.write_attributes-returns-in_err-write_entry-clause-err
write_attributes-returns-in_err-write_entry-clause-err t c =
    on_err_from c.from_residual.result
    (list_front c.args.number key_value_text c.args.out.now c.pairs.out c.write_entry.new.out c.args.pairs.now c.pairs.pair-index c.pair-item.result c.pairs-test.true c.pair-item.is c.pairs.invariant c.in_err-write_entry.ensures.err)

pub write_attributes-pairs-preserved : goal.write_attributes-pairs-preserved
write_attributes-pairs-preserved t c =
    list_more c.args.number key_value_text c.args.out.now c.pairs.out c.write_entry.new.out c.args.pairs.now c.pairs.pair-index c.pair-item.result c.pairs-test.true c.pair-item.is c.pairs.invariant c.in_ok-write_entry.ensures.ok
