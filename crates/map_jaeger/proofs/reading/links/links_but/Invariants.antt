use Rattle.std.proofs.Common.{◌≡◌, ◌++◌, drop}
use Rattle.map_jaeger.specs.Reading as meant
use Rattle.map_jaeger.proofs.reading.links.links_but.Given as goal

abbrev pub invariant-references : goal.invariant-references
invariant-references l =
    l.links ++ meant.links_but l.trace l.parent (drop l.reference-index l.references) ≡ meant.links_but l.trace l.parent l.references
