-- What a move to another form loses of a group, by place: the resource, then each scope and its spans. Scopes and spans are counted through
-- the group, from 1, and what stands in a span is counted in it. At one place losses stand by their rows, and those of a row by their keys.
--     lost place row told               a loss of the row at the place, if it is told
--     lost_key place row key told       the same, of the attribute of a key
--     lost_keys place row such pairs    one for the key of each pair that is such
--     losses_of losses n xs             the losses of the members of a list, of which the first has the number n
--     scopes_losses c s before scopes   those of scopes and their spans: the first scope has the number c, the first span the number s
use Rattle.std.specs.Prelude.{ℕ, suc, ◌+◌, Bool, true, false, not, ◌&&◌, ◌==◌, if◌then◌else◌, List, [], ◌∷◌, ◌++◌, length, Option, Some, None}
use Rattle.std.specs.Str.{bytes_eq}
use Rattle.trace_model.specs.declared.loss.Loss.{Loss}
use Rattle.trace_model.specs.declared.loss.LossRow.{LossRow}
use Rattle.trace_model.specs.declared.loss.LossRow.TheVariants as rows
use Rattle.trace_model.specs.declared.place.Place.{Place}
use Rattle.trace_model.specs.declared.place.Place.TheVariants as places
use Rattle.trace_model.specs.declared.span.Kind.{Kind}
use Rattle.trace_model.specs.declared.span.Kind.TheVariants as kinds
use Rattle.trace_model.specs.declared.span.Span.{Span}
use Rattle.trace_model.specs.declared.group.Scope.{Scope}
use Rattle.trace_model.specs.declared.value.Value.{Value, Text}
use Rattle.span_tags.specs.TagWords.{Pairs}

-- ---- tests

-- nothing stands in the list or text
abbrev pub is_empty : {A : Type 0} → List A → Bool
is_empty [] = true
is_empty (x ∷ xs) = false

-- the two numbers aren't the same
abbrev pub differ : ℕ → ℕ → Bool
differ m n = not (m == n)

-- the value is a text
abbrev pub is_text : Value → Bool
is_text (Text text) = true
is_text other = false

-- the kind is unspecified (opentelemetry-proto trace.proto, SpanKind: `SPAN_KIND_UNSPECIFIED` = 0)
abbrev pub is_unspecified : Kind → Bool
is_unspecified kinds.Unspecified = true
is_unspecified other = false

-- ---- words

-- a loss of this row at the place, of the attribute of this key, if it is told, else none
abbrev pub lost_key : Place → LossRow → List ℕ → Bool → List Loss
lost_key place row key told = if told then record { place = place; row = row; key = key } ∷ [] else []

-- a loss of this row at the place that is of no single attribute, if it is told, else none
abbrev pub lost : Place → LossRow → Bool → List Loss
lost place row told = lost_key place row [] told

-- for each of these pairs that is such, a loss of this row at the place, with the key of the pair
abbrev pub lost_keys : Place → LossRow → (List ℕ × Value → Bool) → Pairs → List Loss
lost_keys place row such [] = []
lost_keys place row such (pair ∷ pairs) = lost_key place row pair.0 (such pair) ++ lost_keys place row such pairs

-- the losses of the members of a list, in order, of which the first has the number n
abbrev pub losses_of : {A : Type 0} → (ℕ → A → List Loss) → ℕ → List A → List Loss
losses_of losses n [] = []
losses_of losses n (x ∷ xs) = losses n x ++ losses_of losses (suc n) xs

-- ---- scopes

-- the name and version of a scope
pub record Names : Type 0 where
  pub name : List ℕ
  pub version : List ℕ

-- this name with this version
abbrev pub named : List ℕ → List ℕ → Names
named name version = record { name = name; version = version }

-- the name and version that a scope has
abbrev pub names_of : Scope → Names
names_of scope = named scope.name scope.version

-- the scope of the span before has the same
abbrev pub are_names_of : Option Names → Scope → Bool
are_names_of None scope = false
are_names_of (Some before) scope = bytes_eq before.name scope.name && bytes_eq before.version scope.version

-- a scope with spans joins that of the span before
abbrev pub joins : Option Names → Scope → Bool
joins before scope = not (is_empty scope.spans) && are_names_of before scope

-- those of the scope of the last span, behind this scope
abbrev pub names_behind : Option Names → Scope → Option Names
names_behind before scope = if is_empty scope.spans then before else Some (names_of scope)

-- the losses of a scope itself: what it has beside its name, version and spans; that it has no spans; and, where it is told,
-- that it joins the scope of the span before
abbrev pub scope_losses : Place → Bool → Scope → List Loss
scope_losses place joined scope =
    lost place rows.DroppedCount (differ scope.dropped 0)
    ++ (lost place rows.SchemaUrl (not (is_empty scope.schema_url))
    ++ (lost place rows.Attributes (not (is_empty scope.attributes))
    ++ (lost place rows.ScopeEmpty (is_empty scope.spans)
    ++ lost place rows.ScopeJoined joined)))

-- the losses of scopes and of their spans, in order: the first scope has the number c, the first span the number s, and the span
-- before it stands in a scope of these names, if there is one
abbrev pub scopes_losses : (ℕ → Span → List Loss) → ℕ → ℕ → Option Names → List Scope → List Loss
scopes_losses span_losses c s before [] = []
scopes_losses span_losses c s before (scope ∷ scopes) =
    scope_losses (places.Scope c) (joins before scope) scope
    ++ (losses_of span_losses s scope.spans
    ++ scopes_losses span_losses (suc c) (s + length scope.spans) (names_behind before scope) scopes)
