use Rattle.std.proofs.Common.{◌≡◌, ◌++◌}
use Rattle.otlp_json.proofs.reading.values.note_keys.Given as goal

abbrev pub invariant-keys : goal.invariant-keys
invariant-keys l = l.noted ++ l.key-iterator.rest.items ≡ l.initial.noted ++ l.fn.more
