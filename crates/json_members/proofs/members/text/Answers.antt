use Rattle.json_members.proofs.members.text.Goals as goal

pub returns-clause-value : goal.returns-clause-value
returns-clause-value c = rw c.member_of.ensures at c.text_found.ensures.value

pub returns-clause-judged : goal.returns-clause-judged
returns-clause-judged c = rw c.member_of.ensures at c.text_found.ensures.judged
