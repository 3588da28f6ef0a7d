-- Spans under the name and version of their scopes, and the scopes of a list of them: its maximal runs of equal name and version.
use Rattle.std.specs.Prelude.{ℕ, Bool, ◌&&◌, if◌then◌else◌, List, [], ◌∷◌, map, ◌≢◌}
use Rattle.std.specs.List.{flat_map}
use Rattle.std.specs.Str.{bytes_eq}
use Rattle.trace_model.specs.declared.span.Span.{Span}
use Rattle.trace_model.specs.declared.group.Scope.{Scope}
use Rattle.std.proofs.Common.{◌≡◌}

-- a span, and the name and version of its scope
pub record Scoped (A : Type 0) : Type 0 where
  pub name : List ℕ
  pub version : List ℕ
  pub span : A

-- a span under the name and version of a scope
abbrev pub under : List ℕ → List ℕ → Span → Scoped Span
under name version span = record { name = name; version = version; span = span }

-- the spans of scopes, in order, each under the name and version of its scope
abbrev pub spans_of : Scope → List (Scoped Span)
spans_of scope = map (under scope.name scope.version) scope.spans

-- the spans of all these scopes, in order, each under the name and version of its scope
abbrev pub scoped : List Scope → List (Scoped Span)
scoped scopes = flat_map spans_of scopes

-- the span stands under the name and version that this scope has
abbrev pub is_of : Scoped Span → Scope → Bool
is_of one scope = bytes_eq one.name scope.name && bytes_eq one.version scope.version

-- a scope that has a name, a version and spans alone
abbrev pub plain_scope : List ℕ → List ℕ → List Span → Scope
plain_scope name version spans =
    record { name = name; version = version; attributes = []; dropped = 0; schema_url = []; spans = spans }

-- one more span in front: in the first scope where it is of that, else in a scope of its own
abbrev pub in_front : Scoped Span → List Scope → List Scope
in_front one [] = plain_scope one.name one.version (one.span ∷ []) ∷ []
in_front one (scope ∷ scopes) =
    if is_of one scope then plain_scope scope.name scope.version (one.span ∷ scope.spans) ∷ scopes
    else plain_scope one.name one.version (one.span ∷ []) ∷ scope ∷ scopes

-- the scopes of these spans, in order: spans side by side under one name and version stand in one scope
abbrev pub runs : List (Scoped Span) → List Scope
runs [] = []
runs (one ∷ more) = in_front one (runs more)

-- ---- their scopes

-- a scope of a name, a version and one span or more, and nothing else
pub record IsPlain (scope : Scope) : Type 0 where
  pub attributes : scope.attributes ≡ []
  pub dropped : scope.dropped ≡ 0
  pub schema_url : scope.schema_url ≡ []
  pub some : scope.spans ≢ []
