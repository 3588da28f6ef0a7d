use Rattle.std.proofs.Common.{◌≡◌, ◌++◌, ℕ, take}
use Rattle.thrift_core.specs.Written.{elements_written, struct_trees}
use Rattle.jaeger_model.proofs.writing.structures.write_elements.Given as goal

abbrev pub invariant-elements : goal.invariant-elements
invariant-elements g l = (left : ℕ) → l.out ≡ l.initial.out ++ elements_written g.P.Parts.keeps g.P.Parts.writes (struct_trees g.S.Structure.rows (take l.item-index l.items)) left
