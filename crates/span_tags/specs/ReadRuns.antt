-- Scopes as spans are added to them: the last run is kept at hand.
use Rattle.std.specs.Prelude.{ℕ, ◌&&◌, if◌then◌else◌, List, [], ◌∷◌, ◌++◌, Option, Some, None}
use Rattle.std.specs.Str.{bytes_eq}
use Rattle.trace_model.specs.declared.span.Span.{Span}
use Rattle.trace_model.specs.declared.group.Scope.{Scope}
use Rattle.span_tags.specs.Runs.{Scoped, plain_scope}
use Rattle.span_tags.specs.declared.runs.Run.{Run}
use Rattle.span_tags.specs.declared.runs.ReadSpan.{ReadSpan}
use Rattle.span_tags.specs.declared.runs.Runs.{Runs}

-- a span that was read, under the name and version of its scope
abbrev pub one_of : ReadSpan → Scoped Span
one_of read = record { name = read.name; version = read.version; span = read.span }

-- a run in front of scopes: the first of them joins it, where that has its name and version
abbrev pub joined : List ℕ → List ℕ → List Span → List Scope → List Scope
joined name version spans [] = plain_scope name version spans ∷ []
joined name version spans (scope ∷ scopes) =
    if bytes_eq name scope.name && bytes_eq version scope.version then plain_scope name version (spans ++ scope.spans) ∷ scopes
    else plain_scope name version spans ∷ scope ∷ scopes

-- the run at hand, if there is one, in front of these scopes, the first of which joins it where it has its name and version
abbrev pub from_last : Option Run → List Scope → List Scope
from_last None scopes = scopes
from_last (Some run) scopes = joined run.name run.version run.spans scopes

-- these runs, with scopes behind them
abbrev pub with_behind : Runs → List Scope → List Scope
with_behind runs scopes = runs.done ++ from_last runs.last scopes
