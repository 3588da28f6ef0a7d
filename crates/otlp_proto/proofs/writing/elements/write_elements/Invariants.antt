use Rattle.std.proofs.Common.{◌≡◌, ◌++◌, take}
use Rattle.otlp_proto.specs.Canonical.{list_text}
use Rattle.otlp_proto.proofs.writing.elements.write_elements.Given as goal

abbrev pub invariant-loop-item : goal.invariant-loop-item
invariant-loop-item g l = l.out ≡ l.initial.out ++ list_text l.number g.T.Message.text (take l.item-index l.items)
