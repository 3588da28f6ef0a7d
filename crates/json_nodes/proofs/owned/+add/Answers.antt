use Rattle.std.proofs.Common.{◌≡◌, ◌++◌, [], ◌∷◌, take, map, string_bytes, refl, sym, ap, ◌∙◌, subst, arith, rules, append_assoc, append-nil}
use Rattle.std.proofs.lemmas.List.{take_more, take_all}
use Rattle.std.specs.List.Sorted.{IsStrictlySortedBy}
use Rattle.std.specs.Map.{keys_of}
use Rattle.std.specs.String.{string_cmp}
use Rattle.serde_json.specs.Data.{null, boolean, number, string, array, object, no_members, put}
use Rattle.serde_json.specs.View.{view, number_view, items_of, members_view}
use Rattle.serde_json.specs.declared.value.Value.{the_lemmas}
use Rattle.serde_json.proofs.Views.{Entry, view-Array, view-Object}
use Rattle.serde_json.proofs.Views as views
use Rattle.json_nodes.specs.private.Building.{Spells, Adds, member_entries}
use Rattle.json_nodes.specs.Nodes.{key, value as held, put_all}
use Rattle.json_nodes.specs.declared.node.Node.TheVariants as nodes
use Rattle.json_nodes.proofs.BuildingLemmas.{spells_null, spells_truth, spells_number, spells_text, spells_key, adds_none, adds_node, adds_then, place_within, array_closed, object_closed, members_told, one_more_member, put_last, held_values, held_more}
use Rattle.json_nodes.proofs.owned.+add.Goals as goal

pub add_value-returns-in_ok-push-in-Null : goal.add_value-returns-in_ok-push-in-Null
add_value-returns-in_ok-push-in-Null t c =
    let seen : null ≡ view c.args.v.now = rw c.in-Null.is (search (rules, the_lemmas)) in
    rw (← seen) (adds_node _ _ nodes.Null _ c.in_ok-push-in-Null.ensures spells_null)

pub add_value-returns-in_ok-push-in-Bool : goal.add_value-returns-in_ok-push-in-Bool
add_value-returns-in_ok-push-in-Bool t c =
    let seen : boolean c.in-Bool.truth ≡ view c.args.v.now = rw c.in-Bool.is (search (rules, the_lemmas)) in
    rw (← seen) (adds_node _ _ (nodes.Truth c.in-Bool.truth) _ c.in_ok-push-in-Bool.ensures (spells_truth c.in-Bool.truth))

pub add_value-returns-in_ok-push-in-Number : goal.add_value-returns-in_ok-push-in-Number
add_value-returns-in_ok-push-in-Number t c =
    let seen : number (number_view c.in-Number.number) ≡ view c.args.v.now = rw c.in-Number.is (search (rules, the_lemmas)) in
    rw (← seen, ← c.number_of.ensures) (adds_node _ _ (nodes.Number c.number_of.result) _ c.in_ok-push-in-Number.ensures (spells_number c.number_of.result))

pub add_value-returns-in_ok-push-in-String : goal.add_value-returns-in_ok-push-in-String
add_value-returns-in_ok-push-in-String t c =
    let seen : string c.as_str.result.now ≡ view c.args.v.now = rw c.in-String.is (search (rules, the_lemmas)) in
    rw (← seen) (adds_node _ _ (nodes.Text c.as_str.result) _ c.in_ok-push-in-String.ensures (spells_text c.as_str.result))

pub add_value-returns-in_ok-add_array-in-Array : goal.add_value-returns-in_ok-add_array-in-Array
add_value-returns-in_ok-add_array-in-Array t c =
    let seen = ap view c.in-Array.is ∙ view-Array c.in-Array.elements in
    rw seen c.in_ok-add_array-in-Array.ensures

pub add_value-returns-in_ok-add_object-in-Object : goal.add_value-returns-in_ok-add_object-in-Object
add_value-returns-in_ok-add_object-in-Object t c =
    let seen = ap view c.in-Object.is ∙ view-Object c.in-Object.members in
    rw seen c.in_ok-add_object-in-Object.ensures

-- ---- arrays

pub add_array-close_array-requires : goal.add_array-close_array-requires
add_array-close_array-requires t c =
    place_within c.args.nodes.now.items c.push.new.nodes.items c.add_elements.new.nodes.items (nodes.Array 0) _ c.len-at.result (search rules) c.in_ok-push.ensures c.in_ok-add_elements.ensures

pub add_array-returns : goal.add_array-returns
add_array-returns t c =
    let vs = c.args.elements.now.items in
    subst (λ ds. Adds c.args.nodes.now.items c.close_array.new.nodes.items (held (array (items_of ds)) ∷ [])) (held_values vs)
    (array_closed c.args.nodes.now.items c.push.new.nodes.items c.add_elements.new.nodes.items (nodes.Array 0) _ c.len-at.result (search rules) c.in_ok-push.ensures c.in_ok-add_elements.ensures c.close_array.new.nodes.items c.close_array.ensures)

pub add_elements-elements-init : goal.add_elements-elements-init
add_elements-elements-init t c = record { adds = adds_none _ _ refl }

pub add_elements-elements-preserved : goal.add_elements-elements-preserved
add_elements-elements-preserved t c =
    let vs = c.deref-element-items.result.now in
    let i = c.elements.element-index in
    let v = c.element-item.result in
    let one_more = ap (map (λ v. held (view v))) (take_more vs i v c.elements-test.true ∙ ap (λ w. take i vs ++ w ∷ []) (sym c.element-item.is)) ∙ held_more (take i vs) v in
    record { adds = rw one_more (adds_then _ _ _ _ _ c.elements.invariant.adds c.in_ok-add_value.ensures) }

pub add_elements-returns : goal.add_elements-returns
add_elements-returns t c =
    let vs = c.deref-element-items.result.now in
    rw (← c.deref-element-items.ensures.value, ← take_all c.elements.element-index vs (omega arith)) c.elements.invariant.adds

-- ---- objects

pub add_object-close_object-requires : goal.add_object-close_object-requires
add_object-close_object-requires t c =
    place_within c.args.nodes.now.items c.push.new.nodes.items c.add_members.new.nodes.items (nodes.Object 0) _ c.len-at.result (search rules) c.in_ok-push.ensures c.in_ok-add_members.ensures.adds

pub add_object-returns : goal.add_object-returns
add_object-returns t c =
    let done = c.in_ok-add_members.ensures in
    let told = ap (λ ms. put_all ms no_members) (members_told done.whole) ∙ done.is in
    subst (λ ms. Adds c.args.nodes.now.items c.close_object.new.nodes.items (held (object ms) ∷ [])) told
    (object_closed c.args.nodes.now.items c.push.new.nodes.items c.add_members.new.nodes.items (nodes.Object 0) _ c.len-at.result (search rules) c.in_ok-push.ensures done.adds c.close_object.new.nodes.items c.close_object.ensures)

pub add_members-members-init : goal.add_members-members-init
add_members-members-init t c = record {
  done = [];
  all = search rules;
  seen = [];
  told = refl;
  adds = adds_none _ _ refl;
}

pub add_members-members-preserved : goal.add_members-members-preserved
add_members-members-preserved t c =
    let i = c.members.invariant in
    let e : Entry = (c.in-Some.name.now, c.in-Some.member.now) in
    let k = string_bytes c.in-Some.name.now in
    let left = c.next.new.self in
    let all : c.args.members.now.entries ≡ i.done ++ e ∷ left = i.all ∙ ap (λ es. i.done ++ es) c.in-Some.ensures.steps in
    let last = views.put_last i.done e left (subst (λ es. IsStrictlySortedBy string_cmp (keys_of es)) all c.iter-name-items.ensures.ordered) in
    let named : c.as_str.result.now ≡ k = search rules in
    let key_added = adds_node _ _ (nodes.Key c.as_str.result) (key k) c.in_ok-push.ensures (subst (λ name. Spells (nodes.Key c.as_str.result ∷ []) (key name ∷ [])) named (spells_key c.as_str.result)) in
    let more = adds_then _ _ _ _ _ (adds_then _ _ _ _ _ i.adds key_added) c.in_ok-add_value.ensures in
    record {
      done = i.done ++ e ∷ [];
      all = all ∙ sym (append_assoc i.done (e ∷ []) left);
      seen = i.seen ++ (k, view e.1) ∷ [];
      told = put_last i.seen k (view e.1) no_members ∙ ap (put k (view e.1)) i.told ∙ last;
      adds = rw (← one_more_member i.seen k (view e.1), ← append_assoc (member_entries i.seen) (key k ∷ []) (held (view e.1) ∷ [])) more;
    }

pub add_members-returns : goal.add_members-returns
add_members-returns t c =
    let i = c.members.invariant in
    let all : c.args.members.now.entries ≡ i.done = i.all ∙ ap (λ es. i.done ++ es) c.in-None.ensures.steps.0 ∙ append-nil i.done in
    record { whole = i.seen; is = i.told ∙ ap members_view (sym all); adds = i.adds }
