use Rattle.std.proofs.Common.{All, take}
use Rattle.trace_model.specs.Proper.{IsProperValue, AreProper}
use Rattle.trace_model.proofs.proper.+proper.Given as goal

abbrev pub invariant-proper_attributes-pairs : goal.invariant-proper_attributes-pairs
invariant-proper_attributes-pairs l = AreProper (take l.pair-index l.attributes)

abbrev pub invariant-proper_members-members : goal.invariant-proper_members-members
invariant-proper_members-members l = All IsProperValue (take l.member-index l.members)
