use Rattle.std.proofs.Common.{◌∙◌, ap}
use Rattle.json_members.specs.Members.{unless_null, member}
use Rattle.json_members.proofs.members.member_of.Goals as goal

pub returns : goal.returns
unfolding member
returns c = c.other_than_null.ensures ∙ ap unless_null c.get.ensures
