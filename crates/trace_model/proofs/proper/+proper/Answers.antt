use Rattle.std.proofs.Common.{◌≡◌, ◌<◌, ◌≤◌, ℕ, List, length, get_or, sym, subst}
use Rattle.trace_model.specs.Proper.{IsProperValue, IsProperPair}
use Rattle.trace_model.specs.declared.value.Value.{Value}
use Rattle.trace_model.proofs.AllLemmas.{all_start, all_more, all_end}
use Rattle.trace_model.proofs.ProperRows.{list_proper, map_proper}
use Rattle.trace_model.proofs.proper.+proper.Goals as goal

pub proper_attributes-pairs-init : goal.proper_attributes-pairs-init
proper_attributes-pairs-init t c = all_start IsProperPair c.args.attributes.now

pub proper_attributes-pairs-preserved : goal.proper_attributes-pairs-preserved
proper_attributes-pairs-preserved t c = all_more IsProperPair c.args.attributes.now c.pairs.pair-index c.pair-item.result
    (subst (λ (l : List (List ℕ × Value)). c.pairs.pair-index < length l) c.as_slice-pair-items.ensures c.pairs-test.true)
    (subst (λ (l : List (List ℕ × Value)). c.pair-item.result ≡ get_or l c.pairs.pair-index c.pair-item.result) c.as_slice-pair-items.ensures c.pair-item.is)
    c.pairs.invariant
    (record { key = c.as_str.ensures.utf8; value = c.proper_value.ensures })

pub proper_attributes-returns : goal.proper_attributes-returns
proper_attributes-returns t c = all_end IsProperPair c.args.attributes.now c.pairs.pair-index
    (subst (λ (l : List (List ℕ × Value)). length l ≤ c.pairs.pair-index) c.as_slice-pair-items.ensures c.pairs-test.false) c.pairs.invariant

pub proper_members-members-init : goal.proper_members-members-init
proper_members-members-init t c = all_start IsProperValue c.args.members.now

pub proper_members-members-preserved : goal.proper_members-members-preserved
proper_members-members-preserved t c = all_more IsProperValue c.args.members.now c.members.member-index c.member-item.result
    (subst (λ (l : List Value). c.members.member-index < length l) c.as_slice-member-items.ensures c.members-test.true)
    (subst (λ (l : List Value). c.member-item.result ≡ get_or l c.members.member-index c.member-item.result) c.as_slice-member-items.ensures c.member-item.is)
    c.members.invariant
    c.proper_value.ensures

pub proper_members-returns : goal.proper_members-returns
proper_members-returns t c = all_end IsProperValue c.args.members.now c.members.member-index
    (subst (λ (l : List Value). length l ≤ c.members.member-index) c.as_slice-member-items.ensures c.members-test.false) c.members.invariant

pub proper_value-returns-in-List : goal.proper_value-returns-in-List
proper_value-returns-in-List t c = subst IsProperValue (sym c.in-List.is) ((list_proper c.in-List.members).1 c.proper_members.ensures)

pub proper_value-returns-in-Map : goal.proper_value-returns-in-Map
proper_value-returns-in-Map t c = subst IsProperValue (sym c.in-Map.is) ((map_proper c.in-Map.pairs).1 c.proper_attributes.ensures)
