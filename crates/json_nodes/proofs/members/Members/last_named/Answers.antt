use Rattle.std.proofs.Common.{◌≡◌, true, Some, None, cond, option_map, ap, ◌∙◌, rules}
use Rattle.std.specs.Str.{bytes_eq}
use Rattle.json_nodes.specs.Lents.{lent_view, members_left}
use Rattle.json_nodes.specs.private.Parts.{later_or, last_value}
use Rattle.json_nodes.proofs.MemberLemmas.{seen_more}
use Rattle.json_nodes.proofs.members.Members.last_named.Goals as goal

pub members-preserved-then-eq : goal.members-preserved-then-eq
members-preserved-then-eq c =
    let same : bytes_eq c.in-Some.key.now c.args.name.now ≡ true = search rules in
    let found = option_map lent_view c.members.found in
    let left = members_left c.next.new.self in
    c.members.invariant ∙ ap (λ ms. later_or (last_value c.args.name.now ms) found) c.in-Some.ensures
    ∙ seen_more c.in-Some.key.now c.args.name.now (lent_view c.in-Some.value) left found
    ∙ ap (λ b. later_or (last_value c.args.name.now left) (later_or (cond b (Some (lent_view c.in-Some.value)) None) found)) same
