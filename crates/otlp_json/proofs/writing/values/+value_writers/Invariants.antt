use Rattle.std.proofs.Common.{take, Ok}
use Rattle.span_io.specs.declared.halt.OutOfMemory.{OutOfMemory}
use Rattle.json_members.specs.Writing.{Appends}
use Rattle.json_members.specs.private.Pieces.{pieces}
use Rattle.otlp_json.specs.private.Writing.{value_tokens, key_value_tokens}
use Rattle.otlp_json.proofs.writing.values.+value_writers.Given as goal

abbrev pub invariant-write_pairs-pairs : goal.invariant-write_pairs-pairs
invariant-write_pairs-pairs l = Appends {E = OutOfMemory} (Ok tt) l.fn.out l.out (pieces key_value_tokens (take l.pair-index l.pairs))

abbrev pub invariant-write_values-members : goal.invariant-write_values-members
invariant-write_values-members l = Appends {E = OutOfMemory} (Ok tt) l.fn.out l.out (pieces value_tokens (take l.member-index l.members))
