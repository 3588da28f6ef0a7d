use Rattle.std.proofs.Common.{All, take}
use Rattle.trace_model.specs.Proper.{IsProperLink}
use Rattle.trace_model.proofs.proper.proper_links.Given as goal

abbrev pub invariant-links : goal.invariant-links
invariant-links l = All IsProperLink (take l.link-index l.links)
