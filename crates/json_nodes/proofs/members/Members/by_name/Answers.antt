use Rattle.std.proofs.Common.{sym, ap, ◌∙◌}
use Rattle.json_nodes.specs.Lents.{members_left, named_members}
use Rattle.json_nodes.specs.Nodes.{put_all}
use Rattle.json_nodes.proofs.MemberLemmas.{named_insert}
use Rattle.json_nodes.proofs.members.Members.by_name.Goals as goal

pub members-preserved : goal.members-preserved
members-preserved c =
    let left = members_left c.next.new.self in
    let before = c.members.named.entries in
    ap (λ es. put_all left (named_members es)) c.in-Ok.ensures.entries ∙ ap (put_all left) (named_insert before c.in-Some.name c.in-Some.member)
    ∙ sym (ap (λ ms. put_all ms (named_members before)) c.in-Some.ensures) ∙ c.members.invariant
