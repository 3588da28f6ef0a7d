use Rattle.std.proofs.Common.{◌≡◌, ◌-◌, ◌<◌, [], ◌∷◌, ◌++◌, length, Some, None, refl, sym, ap, ap₂, ◌∙◌, subst, arith, rules, append_assoc}
use Rattle.json.specs.Token.{Token}
use Rattle.json.specs.Json.{parse_map, after_end_array, read_key, items, members, value}
use Rattle.json.specs.Reads.{token_of}
use Rattle.json.proofs.Grammar.{value_is, value-begin_array, value-begin_object, read_key-shorter}
use Rattle.serde_json.specs.Data.{null, boolean, number, string, array, object, no_members}
use Rattle.serde_json.specs.Read.{of_json, of_items, of_members, converted}
use Rattle.serde_json.specs.View.{items_of}
use Rattle.json_nodes.specs.private.Building.{Adds, member_entries}
use Rattle.json_nodes.specs.Nodes.{num_of, key, value as held, put_all}
use Rattle.json_nodes.specs.declared.node.Node.TheVariants as nodes
use Rattle.json_nodes.proofs.BuildingLemmas.{spells_null, spells_truth, spells_number, spells_text, spells_key, adds_none, adds_node, adds_then, place_within, array_closed, object_closed, values_told, members_told, one_more_value, one_more_member, put_last}
use Rattle.json_nodes.proofs.TokenLemmas.{converted_array, converted_object, item_read, item_refused, items_over, member_read, member_refused, key_refused, members_over, items_before, items_before-no_items, one_more_item, none_before_items}
use Rattle.json_nodes.proofs.text.+read.Goals as goal

pub read-returns-in_err-token-clause-bad : goal.read-returns-in_err-token-clause-bad
read-returns-in_err-token-clause-bad t c refused =
    let empty : c.args.reader.now ≡ [] = grind arith in
    ap (converted of_json) (ap (value c.args.depth) empty ∙ value_is c.args.depth [])

pub read-returns-then-depth-eq0-clause-bad : goal.read-returns-then-depth-eq0-clause-bad
unfolding value
read-returns-then-depth-eq0-clause-bad t c never =
    let first : c.args.reader.now ≡ token_of c.in_ok-token.token ∷ c.next.new.self = grind arith in
    let none : c.args.depth ≡ 0 = omega arith in
    ap (converted of_json) (ap₂ value none (first ∙ ap (λ k. token_of k ∷ c.next.new.self) c.in-BeginArray.is))

pub read-returns-then-depth-eq0-2-clause-bad : goal.read-returns-then-depth-eq0-2-clause-bad
unfolding value
read-returns-then-depth-eq0-2-clause-bad t c never =
    let first : c.args.reader.now ≡ token_of c.in_ok-token.token ∷ c.next.new.self = grind arith in
    let none : c.args.depth ≡ 0 = omega arith in
    ap (converted of_json) (ap₂ value none (first ∙ ap (λ k. token_of k ∷ c.next.new.self) c.in-BeginObject.is))

pub read-returns-in_err-read_array-in-BeginArray-clause-bad : goal.read-returns-in_err-read_array-in-BeginArray-clause-bad
read-returns-in_err-read_array-in-BeginArray-clause-bad t c refused =
    let first : c.args.reader.now ≡ token_of c.in_ok-token.token ∷ c.next.new.self = grind arith in
    let opened = ap (converted of_json) (ap (value c.args.depth) (first ∙ ap (λ k. token_of k ∷ c.next.new.self) c.in-BeginArray.is) ∙ value-begin_array c.args.depth c.next.new.self (omega arith)) ∙ converted_array (items (value (c.args.depth - 1)) (length c.next.new.self) c.next.new.self) in
    opened ∙ ap (parse_map array) (c.read_array.ensures.bad (grind arith))

pub read-returns-in_err-read_object-in-BeginObject-clause-bad : goal.read-returns-in_err-read_object-in-BeginObject-clause-bad
read-returns-in_err-read_object-in-BeginObject-clause-bad t c refused =
    let first : c.args.reader.now ≡ token_of c.in_ok-token.token ∷ c.next.new.self = grind arith in
    let opened = ap (converted of_json) (ap (value c.args.depth) (first ∙ ap (λ k. token_of k ∷ c.next.new.self) c.in-BeginObject.is) ∙ value-begin_object c.args.depth c.next.new.self (omega arith)) ∙ converted_object (members (value (c.args.depth - 1)) (length c.next.new.self) c.next.new.self) in
    opened ∙ ap (parse_map object) (c.read_object.ensures.bad (grind arith))

pub read-returns-in_ok-push-in-String-clause-ok : goal.read-returns-in_ok-push-in-String-clause-ok
read-returns-in_ok-push-in-String-clause-ok t c =
    let first : c.args.reader.now ≡ token_of c.in_ok-token.token ∷ c.next.new.self = grind arith in
    let is : c.args.reader.now ≡ Token.string c.in-String.text.now ∷ c.next.new.self = grind (arith, first) in
    record {
      whole = string c.in-String.text.now;
      is = ap (converted of_json) (ap (value c.args.depth) is ∙ value_is c.args.depth _);
      adds = adds_node _ _ (nodes.Text c.in-String.text) _ c.in_ok-push-in-String.ensures (spells_text c.in-String.text);
    }

pub read-returns-in_ok-push-in-Bool-clause-ok : goal.read-returns-in_ok-push-in-Bool-clause-ok
read-returns-in_ok-push-in-Bool-clause-ok t c =
    let first : c.args.reader.now ≡ token_of c.in_ok-token.token ∷ c.next.new.self = grind arith in
    let is : c.args.reader.now ≡ Token.boolean c.in-Bool.truth ∷ c.next.new.self = grind (arith, first) in
    record {
      whole = boolean c.in-Bool.truth;
      is = ap (converted of_json) (ap (value c.args.depth) is ∙ value_is c.args.depth _);
      adds = adds_node _ _ (nodes.Truth c.in-Bool.truth) _ c.in_ok-push-in-Bool.ensures (spells_truth c.in-Bool.truth);
    }

pub read-returns-in_ok-push-in-Null-clause-ok : goal.read-returns-in_ok-push-in-Null-clause-ok
read-returns-in_ok-push-in-Null-clause-ok t c =
    let first : c.args.reader.now ≡ token_of c.in_ok-token.token ∷ c.next.new.self = grind arith in
    let is : c.args.reader.now ≡ Token.null ∷ c.next.new.self = grind (arith, first) in
    record {
      whole = null;
      is = ap (converted of_json) (ap (value c.args.depth) is ∙ value_is c.args.depth _);
      adds = adds_node _ _ nodes.Null _ c.in_ok-push-in-Null.ensures spells_null;
    }

pub read-returns-in_ok-push-in-Some-clause-ok : goal.read-returns-in_ok-push-in-Some-clause-ok
read-returns-in_ok-push-in-Some-clause-ok t c =
    let first : c.args.reader.now ≡ token_of c.in_ok-token.token ∷ c.next.new.self = grind arith in
    let is : c.args.reader.now ≡ Token.number c.in-Number.text.now ∷ c.next.new.self = grind (arith, first) in
    record {
      whole = number (num_of c.in-Some.number);
      is = ap (converted of_json) (ap (value c.args.depth) is ∙ value_is c.args.depth _) ∙ rw (← c.in-Some.ensures) refl;
      adds = adds_node _ _ (nodes.Number c.in-Some.number) _ c.in_ok-push-in-Some.ensures (spells_number c.in-Some.number);
    }

pub read-returns-in-None-clause-bad : goal.read-returns-in-None-clause-bad
read-returns-in-None-clause-bad t c refused =
    let first : c.args.reader.now ≡ token_of c.in_ok-token.token ∷ c.next.new.self = grind arith in
    let is : c.args.reader.now ≡ Token.number c.in-Number.text.now ∷ c.next.new.self = grind (arith, first) in
    ap (converted of_json) (ap (value c.args.depth) is ∙ value_is c.args.depth _) ∙ rw (← c.in-None.ensures)

pub read-returns-in-EndObject-clause-bad : goal.read-returns-in-EndObject-clause-bad
read-returns-in-EndObject-clause-bad t c refused =
    let first : c.args.reader.now ≡ token_of c.in_ok-token.token ∷ c.next.new.self = grind arith in
    let none : value c.args.depth c.args.reader.now ≡ None = rw (value_is c.args.depth c.args.reader.now, first) (grind arith) in
    ap (converted of_json) none

pub read-returns-in_ok-read_array-in-BeginArray-clause-ok : goal.read-returns-in_ok-read_array-in-BeginArray-clause-ok
read-returns-in_ok-read_array-in-BeginArray-clause-ok t c =
    let first : c.args.reader.now ≡ token_of c.in_ok-token.token ∷ c.next.new.self = grind arith in
    let opened = ap (converted of_json) (ap (value c.args.depth) (first ∙ ap (λ k. token_of k ∷ c.next.new.self) c.in-BeginArray.is) ∙ value-begin_array c.args.depth c.next.new.self (omega arith)) ∙ converted_array (items (value (c.args.depth - 1)) (length c.next.new.self) c.next.new.self) in
    let done = c.in_ok-read_array-in-BeginArray.ensures.ok in
    record { whole = done.whole; is = opened ∙ done.is; adds = done.adds }

pub read-returns-in_ok-read_object-in-BeginObject-clause-ok : goal.read-returns-in_ok-read_object-in-BeginObject-clause-ok
read-returns-in_ok-read_object-in-BeginObject-clause-ok t c =
    let first : c.args.reader.now ≡ token_of c.in_ok-token.token ∷ c.next.new.self = grind arith in
    let opened = ap (converted of_json) (ap (value c.args.depth) (first ∙ ap (λ k. token_of k ∷ c.next.new.self) c.in-BeginObject.is) ∙ value-begin_object c.args.depth c.next.new.self (omega arith)) ∙ converted_object (members (value (c.args.depth - 1)) (length c.next.new.self) c.next.new.self) in
    let done = c.in_ok-read_object-in-BeginObject.ensures.ok in
    record { whole = done.whole; is = opened ∙ done.is; adds = done.adds }

-- ---- arrays

pub read_array-close_array-requires : goal.read_array-close_array-requires
read_array-close_array-requires t c =
    place_within c.args.nodes.now.items c.push.new.nodes.items c.read_elements.new.nodes.items (nodes.Array 0) _ c.len-at.result (search rules) c.in_ok-push.ensures c.in_ok-read_elements.ensures.ok.adds

pub read_array-returns-clause-ok : goal.read_array-returns-clause-ok
read_array-returns-clause-ok t c =
    let done = c.in_ok-read_elements.ensures.ok in
    record {
      whole = array (items_of done.whole);
      is = ap (parse_map array) done.is;
      adds = subst (λ vs. Adds c.args.nodes.now.items c.close_array.new.nodes.items (held (array (items_of vs)) ∷ [])) (values_told done.whole)
          (array_closed c.args.nodes.now.items c.push.new.nodes.items c.read_elements.new.nodes.items (nodes.Array 0) _ c.len-at.result (search rules) c.in_ok-push.ensures done.adds c.close_array.new.nodes.items c.close_array.ensures);
    }

pub read_elements-elements-init : goal.read_elements-elements-init
read_elements-elements-init t c = record {
  turns = length c.args.reader.now;
  enough = omega arith;
  seen = [];
  adds = adds_none _ _ refl;
  so_far = none_before_items (converted of_items (items (value c.args.depth) (length c.args.reader.now) c.args.reader.now));
  shorter = omega arith;
}

pub read_elements-returns-in_err-read-clause-bad : goal.read_elements-returns-in_err-read-clause-bad
read_elements-returns-in_err-read-clause-bad t c refused =
    let p = value c.args.depth in
    let l = c.elements in
    let i = l.invariant in
    let going : (after_end_array l.reader ≡ None) × (c.take_end_array.new.self ≡ l.reader) = grind arith in
    i.so_far ∙ ap (parse_map (items_before i.seen)) (item_refused p i.turns l.reader going.0 (rw (← going.1) (c.read.ensures.bad (grind arith))))

pub read_elements-elements-preserved : goal.read_elements-elements-preserved
read_elements-elements-preserved t c =
    let p = value c.args.depth in
    let l = c.elements in
    let i = l.invariant in
    let going : (after_end_array l.reader ≡ None) × (c.take_end_array.new.self ≡ l.reader) = grind arith in
    let done = c.in_ok-read.ensures in
    let d = done.ok.whole in
    let r = c.read.new.reader in
    let less : length r < length l.reader = rw (← going.1) done.shorter in
    let turn = item_read p i.turns l.reader r d (omega (arith, i.enough)) going.0 (rw (← going.1) done.ok.is) in
    record {
      turns = i.turns - 1;
      enough = omega (arith, i.enough);
      seen = i.seen ++ d ∷ [];
      adds = rw (← one_more_value i.seen d) (adds_then _ _ _ _ _ i.adds done.ok.adds);
      so_far = i.so_far ∙ ap (parse_map (items_before i.seen)) turn ∙ one_more_item i.seen d _;
      shorter = omega (arith, i.shorter);
    }

pub read_elements-returns-clause-ok : goal.read_elements-returns-clause-ok
read_elements-returns-clause-ok t c =
    let p = value c.args.depth in
    let l = c.elements in
    let i = l.invariant in
    let r = c.take_end_array.new.self in
    record {
      whole = i.seen;
      is = i.so_far ∙ ap (parse_map (items_before i.seen)) (items_over p i.turns l.reader r i.enough (grind arith)) ∙ ap (λ ds. Some (ds, r)) (items_before-no_items i.seen);
      adds = i.adds;
    }

-- ---- objects

pub read_object-close_object-requires : goal.read_object-close_object-requires
read_object-close_object-requires t c =
    place_within c.args.nodes.now.items c.push.new.nodes.items c.read_members.new.nodes.items (nodes.Object 0) _ c.len-at.result (search rules) c.in_ok-push.ensures c.in_ok-read_members.ensures.ok.adds

pub read_object-returns-clause-ok : goal.read_object-returns-clause-ok
read_object-returns-clause-ok t c =
    let done = c.in_ok-read_members.ensures.ok in
    record {
      whole = object (put_all done.whole no_members);
      is = ap (parse_map object) done.is;
      adds = subst (λ ms. Adds c.args.nodes.now.items c.close_object.new.nodes.items (held (object (put_all ms no_members)) ∷ [])) (members_told done.whole)
          (object_closed c.args.nodes.now.items c.push.new.nodes.items c.read_members.new.nodes.items (nodes.Object 0) _ c.len-at.result (search rules) c.in_ok-push.ensures done.adds c.close_object.new.nodes.items c.close_object.ensures);
    }

pub read_members-members-init : goal.read_members-members-init
read_members-members-init t c = record {
  turns = length c.args.reader.now;
  enough = omega arith;
  seen = [];
  adds = adds_none _ _ refl;
  so_far = refl;
  shorter = omega arith;
}

pub read_members-returns-in_err-name-clause-bad : goal.read_members-returns-in_err-name-clause-bad
read_members-returns-in_err-name-clause-bad t c refused =
    let l = c.members in
    let i = l.invariant in
    i.so_far ∙ key_refused (value c.args.depth) (put_all i.seen no_members) i.turns l.reader c.in_err-name.ensures.value

pub read_members-returns-in_err-read-clause-bad : goal.read_members-returns-in_err-read-clause-bad
read_members-returns-in_err-read-clause-bad t c refused =
    let p = value c.args.depth in
    let l = c.members in
    let i = l.invariant in
    let k = c.in-Some.name.now in
    let s = c.next_key.new.self in
    let named : read_key l.reader ≡ Some (Some k, s) = grind arith in
    i.so_far ∙ member_refused p (put_all i.seen no_members) i.turns k l.reader s named (c.read.ensures.bad (grind arith))

pub read_members-members-preserved : goal.read_members-members-preserved
read_members-members-preserved t c =
    let p = value c.args.depth in
    let l = c.members in
    let i = l.invariant in
    let k = c.in-Some.name.now in
    let s = c.next_key.new.self in
    let named : read_key l.reader ≡ Some (Some k, s) = grind arith in
    let done = c.in_ok-read.ensures in
    let d = done.ok.whole in
    let r = c.read.new.reader in
    let less = read_key-shorter l.reader (Some k) s named in
    let lesser = done.shorter in
    let more = adds_then _ _ _ _ _ (adds_then _ _ _ _ _ i.adds (adds_node _ _ (nodes.Key c.in-Some.name) (key k) c.in_ok-push.ensures (spells_key c.in-Some.name))) done.ok.adds in
    record {
      turns = i.turns - 1;
      enough = omega (arith, i.enough);
      seen = i.seen ++ (k, d) ∷ [];
      adds = rw (← one_more_member i.seen k d, ← append_assoc (member_entries i.seen) (key k ∷ []) (held d ∷ [])) more;
      so_far = i.so_far ∙ member_read p (put_all i.seen no_members) i.turns k l.reader s r d (omega (arith, i.enough)) named done.ok.is
          ∙ ap (λ ms. converted (λ js. of_members js ms) (members p (i.turns - 1) r)) (sym (put_last i.seen k d no_members));
      shorter = omega (arith, i.shorter);
    }

pub read_members-returns-clause-ok : goal.read_members-returns-clause-ok
read_members-returns-clause-ok t c =
    let l = c.members in
    let i = l.invariant in
    record {
      whole = i.seen;
      is = i.so_far ∙ members_over (value c.args.depth) (put_all i.seen no_members) i.turns l.reader c.next_key.new.self i.enough (grind arith);
      adds = i.adds;
    }
