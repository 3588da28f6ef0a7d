use Rattle.std.specs.Prelude.{IfOk}
use Rattle.serde_json.specs.Read.{of_json}
use Rattle.trace_model.specs.ValueTexts.{json_of}
use Rattle.trace_model.specs.declared.value.Value.{Value as Val}
use Rattle.trace_model.specs.declared.value.Value.TheVariants as values
use Rattle.std.proofs.Common.{◌≡◌, Some, subst, sym, ap, ◌∙◌}
use Rattle.serde_json.specs.View.{view, items_view, members_view}
use Rattle.trace_model.proofs.JsonValues.{more_items, array_json, more_members, object_json}
use Rattle.trace_model.proofs.json_values.+makes.Goals as goal

pub json_value-returns-in-Text : goal.json_value-returns-in-Text
json_value-returns-in-Text t c = rw c.in-Text.is c.json_text.ensures

pub json_value-returns-in-Number : goal.json_value-returns-in-Number
json_value-returns-in-Number t c = rw c.in-Number.is c.json_number.ensures

pub json_value-returns-in-Bytes : goal.json_value-returns-in-Bytes
json_value-returns-in-Bytes t c = rw (c.in-Bytes.is, sym c.as_slice.ensures) c.json_bytes.ensures

pub json_value-returns-in-List : goal.json_value-returns-in-List
json_value-returns-in-List t c =
    subst (λ (v : Val). IfOk c.json_array.result (λ json. of_json (json_of v) ≡ Some (view json)))
    (ap values.List c.as_slice-in-List.ensures ∙ sym c.in-List.is) c.json_array.ensures

pub json_value-returns-in-Map : goal.json_value-returns-in-Map
json_value-returns-in-Map t c =
    subst (λ (v : Val). IfOk c.json_object.result (λ json. of_json (json_of v) ≡ Some (view json)))
    (ap values.Map c.as_slice-in-Map.ensures ∙ sym c.in-Map.is) c.json_object.ensures

pub json_array-members-preserved : goal.json_array-members-preserved
json_array-members-preserved t c =
    more_items c.args.members.now c.members.member-index c.member-item.result c.members-test.true c.member-item.is c.members.elements.items c.in_ok-json.json
    c.members.invariant c.in_ok-json.ensures
    ∙ ap (λ l. Some (items_view l)) (sym c.in_ok-push.ensures.items)

pub json_array-returns : goal.json_array-returns
json_array-returns t c = array_json c.args.members.now c.members.member-index c.members-test.false c.members.elements c.members.invariant

pub json_object-pairs-preserved : goal.json_object-pairs-preserved
json_object-pairs-preserved t c =
    more_members c.args.pairs.now c.pairs.pair-index c.pair-item.result c.pairs-test.true c.pair-item.is (members_view c.pairs.members.entries)
    (members_view c.put_member.new.members.entries) (view c.in_ok-json.json) c.pairs.invariant c.in_ok-json.ensures c.in_ok-put_member.ensures

pub json_object-returns : goal.json_object-returns
json_object-returns t c = object_json c.args.pairs.now c.pairs.pair-index c.pairs-test.false c.pairs.members c.pairs.invariant
