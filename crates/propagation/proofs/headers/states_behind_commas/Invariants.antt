use Rattle.std.proofs.Common.{◌≡◌, List, length}
use Rattle.propagation.specs.Blocks.{Header}
use Rattle.propagation.specs.Heads.{header_values, tracestate_name}
use Rattle.propagation.specs.private.HeadSteps.{behind_commas}
use Rattle.propagation.specs.private.HeaderLines.{HeadersThen}
use Rattle.propagation.proofs.headers.states_behind_commas.Given as goal

abbrev pub invariant-states : goal.invariant-states
invariant-states l = (headers : List Header) × (l.joined ≡ behind_commas (header_values tracestate_name headers)) × HeadersThen l.block headers l.rest

abbrev pub decreases-states : goal.decreases-states
decreases-states l = length l.rest
