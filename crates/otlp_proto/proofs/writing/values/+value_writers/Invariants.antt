use Rattle.std.proofs.Common.{◌≡◌, ◌++◌, take}
use Rattle.otlp_proto.specs.Canonical.{list_text, value_text, attributes_text}
use Rattle.otlp_proto.proofs.writing.values.+value_writers.Given as goal

abbrev pub invariant-write_attributes-pairs : goal.invariant-write_attributes-pairs
invariant-write_attributes-pairs l = l.out ≡ l.initial.out ++ attributes_text l.number (take l.pair-index l.pairs)

abbrev pub invariant-write_members-members : goal.invariant-write_members-members
invariant-write_members-members l = l.out ≡ l.initial.out ++ list_text 1 value_text (take l.member-index l.members)
