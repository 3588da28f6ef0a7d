use Rattle.span_convert.proofs.DocumentTwins.{agreeing_say_the_same}
use Rattle.span_convert.proofs.laws.free_members.Goals as goal

pub returns : goal.returns
returns c = λ from what limits bytes others agree.
    c.same_documents.ensures from what limits bytes others (agreeing_say_the_same c.free_members.ensures c.free_members-2.ensures from limits bytes others agree)
