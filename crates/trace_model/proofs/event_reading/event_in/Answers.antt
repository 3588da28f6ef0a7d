use Rattle.std.proofs.Common.{◌≡◌, ℕ, List, ◌∷◌, Option, Some, sym, ap, ◌∙◌, subst, arith, rules}
use Rattle.std.specs.Prelude.{IfSome}
use Rattle.serde_json.specs.Data.{no_members}
use Rattle.serde_json.specs.Find.{as_object}
use Rattle.json_nodes.specs.Lents.{lent_view as view, members_left, named_members}
use Rattle.json_nodes.specs.Nodes.{put_all}
use Rattle.trace_model.specs.EventReading.{AreRead}
use Rattle.trace_model.specs.EventTexts.{IsEventJson}
use Rattle.trace_model.specs.declared.value.Value.{Value as Val}
use Rattle.trace_model.proofs.EventLemmas.{one_member, no_event, no_empty, is_event, none_empty}
use Rattle.trace_model.proofs.EventRows.{Entry}
use Rattle.trace_model.proofs.event_reading.event_in.Goals as goal

pub returns-then-len-ne1-clause-none : goal.returns-then-len-ne1-clause-none
returns-then-len-ne1-clause-none c = λ name attributes is.
    let object : Some (named_members c.in_ok-named.named.entries) ≡ as_object (view c.args.json.now) = ap Some c.in_ok-named.ensures ∙ c.in-Some.ensures in
    let one = one_member (view c.args.json.now) c.in_ok-named.named.entries object name attributes is in
    absurd (omega (arith, one, c.len.ensures.len, c.if-len-ne1.true))

pub returns-in_default-2-clause-none : goal.returns-in_default-2-clause-none
returns-in_default-2-clause-none c =
    let object : Some (named_members c.in_ok-named.named.entries) ≡ as_object (view c.args.json.now) = ap Some c.in_ok-named.ensures ∙ c.in-Some.ensures in
    let x : Entry = (c.in-Some-next.name.now, c.in-Some-next.held.now) in
    let split : c.in_ok-named.named.entries ≡ x ∷ c.next.new.self = search rules in
    no_event (view c.args.json.now) c.in_ok-named.named.entries object x c.next.new.self split
    (put_all (members_left c.in-Some-members.inner) no_members) c.in-Some-members.ensures (search rules)

pub returns-then-len-eq0-clause-none : goal.returns-then-len-eq0-clause-none
returns-then-len-eq0-clause-none c =
    let object : Some (named_members c.in_ok-named.named.entries) ≡ as_object (view c.args.json.now) = ap Some c.in_ok-named.ensures ∙ c.in-Some.ensures in
    let x : Entry = (c.in-Some-next.name.now, c.in-Some-next.held.now) in
    let split : c.in_ok-named.named.entries ≡ x ∷ c.next.new.self = search rules in
    no_empty (view c.args.json.now) c.in_ok-named.named.entries object x c.next.new.self split
    (put_all (members_left c.in-Some-members.inner) no_members) c.in-Some-members.ensures
    c.in-Some-2.attributes (sym c.in-Some-2.is ∙ c.in_ok-attributes.ensures.value) (omega (arith, c.len-2.ensures, c.if-len-eq0.true))

pub returns-clause-found : goal.returns-clause-found
returns-clause-found c =
    let object : Some (named_members c.in_ok-named.named.entries) ≡ as_object (view c.args.json.now) = ap Some c.in_ok-named.ensures ∙ c.in-Some.ensures in
    let x : Entry = (c.in-Some-next.name.now, c.in-Some-next.held.now) in
    let split : c.in_ok-named.named.entries ≡ x ∷ c.next.new.self = search rules in
    let read : AreRead c.in-Some-2.attributes = subst (λ (o : Option (List (List ℕ × Val))). IfSome o AreRead) c.in-Some-2.is c.in_ok-attributes.ensures.read in
    subst (λ n. IsEventJson (view c.args.json.now) n c.in-Some-2.attributes) (sym c.in_ok-of.ensures)
    (is_event (view c.args.json.now) c.in_ok-named.named.entries object x c.next.new.self split
    (put_all (members_left c.in-Some-members.inner) no_members) c.in-Some-members.ensures (omega (arith, c.len.ensures.len, c.if-len-ne1.false))
    c.in-Some-2.attributes (sym c.in-Some-2.is ∙ c.in_ok-attributes.ensures.value) read
    (none_empty c.in-Some-2.attributes (omega (arith, c.len-2.ensures, c.if-len-eq0.false))))
