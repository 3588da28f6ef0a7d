use Rattle.std.proofs.Common.{◌≡◌, ℕ, List, [], ◌∷◌, ◌++◌, Option, sym, ap, ◌∙◌, subst, rules}
use Rattle.std.specs.Prelude.{IfOk, IfSome}
use Rattle.std.proofs.lemmas.List.Elements.{All-push}
use Rattle.serde_json.specs.Data.{no_members}
use Rattle.serde_json.specs.View.{items_of}
use Rattle.json_nodes.specs.Lents.{lent_view as view, elements_left, members_left, named_members}
use Rattle.json_nodes.specs.Nodes.{put_all}
use Rattle.trace_model.specs.EventReading.{IsRead, AreRead, pairs_within}
use Rattle.trace_model.specs.Proper.{IsProperPair}
use Rattle.trace_model.specs.Values.{MapsRise}
use Rattle.trace_model.specs.declared.value.Value.{Value as Val}
use Rattle.trace_model.proofs.EventLemmas.{list_read, map_read}
use Rattle.trace_model.proofs.EventRows.{Entry, behind, of_array, of_object, value_more, pair_more, pair_all, keys_rise}
use Rattle.trace_model.proofs.event_reading.+reads.Goals as goal

pub held_of-returns-in-Some-clause-value : goal.held_of-returns-in-Some-clause-value
held_of-returns-in-Some-clause-value t c =
    subst (λ (x : Option Val). IfOk c.list_of.result (λ o. o ≡ x))
    (of_array c.args.left (view c.args.json.now) (items_of (elements_left c.in-Some.elements)) c.requires.some c.in-Some.ensures) c.list_of.ensures.value

pub held_of-returns-in-Some-members-clause-value : goal.held_of-returns-in-Some-members-clause-value
held_of-returns-in-Some-members-clause-value t c =
    subst (λ (x : Option Val). IfOk c.map_of.result (λ o. o ≡ x))
    (of_object c.args.left (view c.args.json.now) (put_all (members_left c.in-Some-members.members) no_members) c.requires.some c.in-Some-members.ensures) c.map_of.ensures.value

pub list_of-elements-preserved : goal.list_of-elements-preserved
list_of-elements-preserved t c = record {
  read = rw c.in_ok-push.ensures.ok (value_more c.args.left _ c.elements.list (elements_left c.elements.rest) c.elements.invariant.read
      (view c.in-Some.element) (elements_left c.next.new.self) c.in-Some.ensures c.in-Some-2.value (sym c.in-Some-2.is ∙ c.in_ok-value.ensures.value));
  all = rw c.in_ok-push.ensures.ok (All-push IsRead c.elements.list c.in-Some-2.value c.elements.invariant.all
      (subst (λ (o : Option Val). IfSome o IsRead) c.in-Some-2.is c.in_ok-value.ensures.read));
}

pub list_of-returns-clause-read : goal.list_of-returns-clause-read
list_of-returns-clause-read t c = list_read c.elements.list c.elements.invariant.all

pub map_of-returns-clause-read : goal.map_of-returns-clause-read
map_of-returns-clause-read t c =
    map_read c.in-Some.pairs (subst (λ (o : Option (List (List ℕ × Val))). IfSome o AreRead) c.in-Some.is c.in_ok-pairs.ensures.read)

pub pairs_by_name-members-preserved : goal.pairs_by_name-members-preserved
pairs_by_name-members-preserved t c =
    let e : Entry = (c.in-Some.key.now, c.in-Some.member.now) in
    let more : Option (List (List ℕ × Val)) = pairs_within c.args.left (named_members c.next.new.self) in
    let named : e.0.now ≡ c.in_ok-of.field-0 = sym c.in_ok-of.ensures in
    let read : IsRead c.in-Some-2.value = subst (λ (o : Option Val). IfSome o IsRead) c.in-Some-2.is c.in_ok-value.ensures.read in
    let pair : List ℕ × Val = (c.in_ok-of.field-0, c.in-Some-2.value) in
    record {
      read = pair_more c.args.left _ c.members.pairs c.members.key-iterator c.members.invariant.read e c.next.new.self c.in-Some.ensures.steps
          c.in-Some-2.value (sym c.in-Some-2.is ∙ c.in_ok-value.ensures.value)
          ∙ ap (λ k. behind (c.members.pairs ++ (k, c.in-Some-2.value) ∷ []) more) named
          ∙ ap (λ l. behind l more) (sym c.in_ok-push.ensures.ok);
      rising = rw c.in_ok-push.ensures.ok (All-push (λ (p : List ℕ × Val). MapsRise p.1) c.members.pairs pair c.members.invariant.rising read.rising);
      proper = rw c.in_ok-push.ensures.ok (All-push IsProperPair c.members.pairs pair c.members.invariant.proper
          (record { key = search rules; value = read.proper }));
    }

pub pairs_by_name-returns-clause-read : goal.pairs_by_name-returns-clause-read
pairs_by_name-returns-clause-read t c = record {
  keys_rise = keys_rise c.args.left c.args.named.now.entries c.members.pairs c.iter-key-items.ensures.ordered
      (pair_all c.args.left _ c.members.pairs c.members.key-iterator c.members.invariant.read c.in-None.ensures.steps.0);
  rising = c.members.invariant.rising;
  proper = c.members.invariant.proper;
}
