use Rattle.std.proofs.Common.{◌≡◌, ◌++◌}
use Rattle.otlp_proto.proofs.reading.value_rows.note_all.Given as goal

abbrev pub invariant-keys : goal.invariant-keys
invariant-keys l = l.noted ++ l.key-iterator.rest.items ≡ l.initial.noted ++ l.fn.more
