use Rattle.std.proofs.Common.{◌≡◌, take}
use Rattle.propagation.specs.Tracestate.{tracestate_text}
use Rattle.propagation.proofs.tracestate.joined.Given as goal

abbrev pub invariant-members : goal.invariant-members
invariant-members l = l.state ≡ tracestate_text (take l.member-index l.members)
