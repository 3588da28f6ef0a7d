-- The spans of a trace, without the groups and scopes round them.
use Rattle.std.specs.Prelude.{List}
use Rattle.std.specs.List.{flat_map}
use Rattle.trace_model.specs.declared.span.Span.{Span}
use Rattle.trace_model.specs.declared.group.Group.{Group}

-- all spans of all scopes of all groups, in order
abbrev pub flat : List Group → List Span
flat groups = flat_map (λ scope. scope.spans) (flat_map (λ group. group.scopes) groups)
