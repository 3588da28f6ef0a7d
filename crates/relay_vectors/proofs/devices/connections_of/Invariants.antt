use Rattle.span_io.specs.Connections.{HaveNoFault}
use Rattle.relay_vectors.proofs.devices.connections_of.Given as goal

abbrev pub invariant-fields : goal.invariant-fields
invariant-fields g l = HaveNoFault l.conns
