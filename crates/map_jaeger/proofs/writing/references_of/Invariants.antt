use Rattle.std.proofs.Common.{◌≡◌, ◌++◌, map, drop}
use Rattle.map_jaeger.specs.Writing.{reference_of}
use Rattle.map_jaeger.proofs.writing.references_of.Given as goal

abbrev pub invariant-links : goal.invariant-links
invariant-links l = l.references ++ map reference_of (drop l.link-index l.links) ≡ map reference_of l.links
