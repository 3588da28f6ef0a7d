use Rattle.std.proofs.Common.{◌≡◌, ◌≤◌, ◌++◌, ◌+◌, length}
use Rattle.std.specs.Prelude.{is_none}
use Rattle.std.specs.List.{flat_map, count_by}
use Rattle.jaeger_model.specs.Span.{kept_reference}
use Rattle.jaeger_model.proofs.reading.references.References.of.Given as goal

abbrev pub invariant-references : goal.invariant-references
invariant-references l =
    (kept : l.kept ++ flat_map kept_reference l.reference-iterator.rest.items ≡ flat_map kept_reference l.fn.all)
    × (few : length l.kept + length l.reference-iterator.rest.items ≤ length l.fn.all)
    × (l.others + count_by (λ r. is_none r) l.reference-iterator.rest.items ≡ count_by (λ r. is_none r) l.fn.all)
