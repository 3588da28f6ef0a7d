-- The numbers and names of what speaks against a datagram, as notes print them.
use Rattle.std.specs.Prelude.{ℕ, List, codes}
use Rattle.span_io.specs.Causes.{cause_number, cause_name}
use Rattle.span_agent.specs.declared.message.AgentCause.{AgentCause}
use Rattle.span_agent.specs.declared.message.AgentCause.TheVariants as causes

-- the number of a cause: 40 to 43 for those of the agent alone, and else that of the cause of reading
abbrev pub agent_cause_number : AgentCause → ℕ
agent_cause_number causes.BadMessage = 40
agent_cause_number causes.BadName = 41
agent_cause_number (causes.Reading cause) = cause_number cause
agent_cause_number causes.NoBatch = 42
agent_cause_number causes.Tail = 43

-- the name of a cause, which a note prints behind its number
abbrev pub agent_cause_name : AgentCause → List ℕ
agent_cause_name causes.BadMessage = codes "BadMessage"
agent_cause_name causes.BadName = codes "BadName"
agent_cause_name (causes.Reading cause) = cause_name cause
agent_cause_name causes.NoBatch = codes "NoBatch"
agent_cause_name causes.Tail = codes "Tail"
