use Rattle.span_agent.specs.Datagrams.{AreDatagrams}
use Rattle.agent_vectors.proofs.runs.datagrams_of.Given as goal

abbrev pub invariant-fields : goal.invariant-fields
invariant-fields l = AreDatagrams l.datagrams
