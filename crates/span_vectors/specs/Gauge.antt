-- The gauge: a trace that is made by numbers alone, by which sizes and speeds are told. Its spans are counted from 1. Each group has the next
-- 100 of them, and the last one the rest.
use Rattle.std.specs.Prelude.{ℕ, ◌+◌, ◌-◌, ◌*◌, ◌/◌, ◌%◌, ◌==◌, ◌≤◌, min, if◌then◌else◌, pos, List, [], ◌∷◌, map, Option, Some, None, codes}
use Rattle.std.specs.List.{range_with_len}
use Rattle.trace_model.specs.declared.span.Code.{Code}
use Rattle.trace_model.specs.declared.span.Code.TheVariants as statuses
use Rattle.trace_model.specs.declared.span.Kind.{Kind}
use Rattle.trace_model.specs.declared.span.Kind.TheVariants as kinds
use Rattle.trace_model.specs.declared.span.Span.{Span}
use Rattle.trace_model.specs.declared.group.Group.{Group}
use Rattle.trace_model.specs.declared.group.Scope.{Scope}
use Rattle.trace_model.specs.declared.value.Value.{Value, Text, Number}

-- ---- a span, by its number

-- the group in which it stands, counted from 1
abbrev pub group_number : ℕ → ℕ
group_number i = (i - 1) / 100 + 1

-- the span before it; none for the first span of a group
abbrev pub gauge_parent : ℕ → Option ℕ
gauge_parent i = if i % 100 == 1 then None else Some (i - 1)

-- the kind of this number (OTLP trace.proto `SpanKind`), from 1 to 5
abbrev pub kind_numbered : ℕ → Kind
kind_numbered n =
    if n == 1 then kinds.Internal else (if n == 2 then kinds.Server else (if n == 3 then kinds.Client else (if n == 4 then kinds.Producer else kinds.Consumer)))

-- the code of this number (OTLP trace.proto `Status.StatusCode`), from 0 to 2
abbrev pub code_numbered : ℕ → Code
code_numbered n = if n == 0 then statuses.Unset else (if n == 1 then statuses.Okay else statuses.Fail)

-- the attributes of the span of this number: the number under `n`, and the text `x` under `t`
abbrev pub gauge_attributes : ℕ → List (List ℕ × Value)
gauge_attributes i = (codes "n", Number (pos i)) ∷ (codes "t", Text (codes "x")) ∷ []

-- times in nanoseconds
unfoldable pub gauge_span : ℕ → Span
gauge_span i = record {
  trace = group_number i;
  id = i;
  state = [];
  parent = gauge_parent i;
  name = codes "op";
  kind = kind_numbered (1 + i % 5);
  start = i * 1000000;
  end = i * 1000000 + (i % 1000) * 1000;
  attributes = gauge_attributes i;
  dropped_attributes = 0;
  events = [];
  dropped_events = 0;
  links = [];
  dropped_links = 0;
  status = record { code = code_numbered (i % 3); message = [] };
  flags = 1;
}

-- ---- a group of the gauge of so many spans, by its number

-- the number of its first span
abbrev pub first_span : ℕ → ℕ
first_span group = (group - 1) * 100 + 1

-- how many spans it has: 100, or the rest
abbrev pub group_size : ℕ → ℕ → ℕ
group_size spans group = min 100 (spans + 1 - first_span group)

-- so many spans from the first one on
unfoldable pub gauge_spans : ℕ → ℕ → List Span
gauge_spans first count = map gauge_span (range_with_len first count)

-- the one scope of a group: these spans under the name `gauge`, and nothing else
abbrev pub gauge_scope : List Span → Scope
gauge_scope list = record { name = codes "gauge"; version = []; attributes = []; dropped = 0; schema_url = []; spans = list }

-- the resource of each group: its `service.name` is `gauge`
abbrev pub gauge_resource : List (List ℕ × Value)
gauge_resource = (codes "service.name", Text (codes "gauge")) ∷ []

-- in the gauge of so many spans the group of this number, counted from 1: its resource, and its spans in one scope
unfoldable pub gauge_group : ℕ → ℕ → Group
gauge_group spans group = record {
  resource = gauge_resource;
  dropped = 0;
  schema_url = [];
  scopes = gauge_scope (gauge_spans (first_span group) (group_size spans group)) ∷ [];
}

-- ---- the gauge of so many spans

-- one group per 100 spans or rest of them
abbrev pub group_count : ℕ → ℕ
group_count spans = (spans + 99) / 100

-- there is a group of this number
pub record HasGroup (spans group : ℕ) : Type 0 where
  pub from_one : 1 ≤ group
  pub to_last : group ≤ group_count spans

-- its first groups, so many
unfoldable pub first_groups : ℕ → ℕ → List Group
first_groups spans count = map (gauge_group spans) (range_with_len 1 count)

-- the gauge of so many spans: all its groups, in order
abbrev pub gauge : ℕ → List Group
gauge spans = first_groups spans (group_count spans)
