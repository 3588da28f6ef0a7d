use Rattle.std.proofs.Common.{◌≡◌, drop, find}
use Rattle.map_jaeger.specs.Reading.{is_own_parent}
use Rattle.map_jaeger.proofs.reading.links.first_parent.Given as goal

abbrev pub invariant-references : goal.invariant-references
invariant-references l = find (is_own_parent l.trace) (drop l.reference-index l.references) ≡ find (is_own_parent l.trace) l.references
