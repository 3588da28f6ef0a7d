use Rattle.std.proofs.Common.{List, length}
use Rattle.propagation.specs.Blocks.{Header}
use Rattle.propagation.specs.private.FoundHeaders.{FoundIn}
use Rattle.propagation.specs.private.HeaderLines.{HeadersThen}
use Rattle.propagation.specs.declared.found.Found.{Found}
use Rattle.propagation.proofs.headers.find_headers.Given as goal

-- a struct that lends stands in a loop as its fields, one behind the other
abbrev pub invariant-headers : goal.invariant-headers
invariant-headers l =
    let found : Found = record { traceparent = l.found.0; state = l.found.1.0; b3 = l.found.1.1.0; multi = l.found.1.1.1.0; uber = l.found.1.1.1.1.0 } in
    (headers : List Header) × FoundIn found headers × HeadersThen l.block headers l.rest

abbrev pub decreases-headers : goal.decreases-headers
decreases-headers l = length l.rest
