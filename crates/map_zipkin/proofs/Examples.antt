-- A group and its one span of Zipkin, computed there and back.
use Rattle.std.proofs.Common.{◌≡◌, false, true, [], ◌∷◌, Some, refl}
use Rattle.std.specs.Fmt.{digits}
use Rattle.std.specs.Prelude.{codes}
use Rattle.span_tags.specs.TagKeys.{service_key}
use Rattle.trace_model.specs.declared.span.Code.TheVariants as statuses
use Rattle.trace_model.specs.declared.span.Kind.TheVariants as kinds
use Rattle.trace_model.specs.declared.span.Span.{Span}
use Rattle.trace_model.specs.declared.group.Group.{Group}
use Rattle.trace_model.specs.declared.value.Value.{Text, Truth}
use Rattle.zipkin_json.specs.declared.span.ZKind.TheVariants as zkinds
use Rattle.zipkin_json.specs.declared.span.ZSpan.{ZSpan}
use Rattle.map_zipkin.specs.Keys.{peer_key}
use Rattle.map_zipkin.specs.Regrouped.{RunSpan}
use Rattle.map_zipkin.specs.Normal.{normal_spans}
use Rattle.map_zipkin.specs.Reading.{run_span_of}
use Rattle.map_zipkin.specs.Writing.{spans_of_group}

-- an error without a message, in a service that calls another, with attributes under the keys of its tags and of those of a resource
call : Span
call = record {
  trace = 7;
  id = 8;
  state = [];
  parent = Some 6;
  name = codes "get";
  kind = kinds.Client;
  start = 1500;
  end = 2999;
  attributes = (codes "cached", Truth false) ∷ (codes "error", Truth true) ∷ (codes "otel.attr.error", Text (codes "b")) ∷ (codes "otel.attr.ok", Text (codes "c"))
      ∷ (codes "otel.resource.host", Text (codes "d")) ∷ (peer_key, Text (codes "db")) ∷ (codes "zipkin.local.port", Text (codes "80")) ∷ [];
  dropped_attributes = 0;
  events = [];
  dropped_events = 0;
  links = [];
  dropped_links = 0;
  status = record { code = statuses.Fail; message = [] };
  flags = 1;
}

group : Group
group = record {
  resource = (codes "host", Text (codes "a")) ∷ (service_key, Text (codes "cart")) ∷ [];
  dropped = 0;
  schema_url = [];
  scopes = record { name = codes "lib"; version = codes "2"; attributes = []; dropped = 0; schema_url = []; spans = call ∷ [] } ∷ [];
}

told : ZSpan
told = record {
  trace = 7;
  id = 8;
  parent = Some 6;
  name = codes "get";
  kind = zkinds.Client;
  start = 1000;
  end = 2000;
  debug = false;
  shared = false;
  local = record { service = codes "cart"; ipv4 = []; ipv6 = []; port = 80 };
  remote = record { service = codes "db"; ipv4 = []; ipv6 = []; port = 0 };
  annotations = [];
  tags = (codes "cached", codes "false") ∷ (codes "error", []) ∷ (codes "otel.attr.error", codes "true") ∷ (codes "otel.attr.ok", codes "c")
      ∷ (codes "otel.attr.otel.attr.error", codes "b") ∷ (codes "otel.attr.otel.resource.host", codes "d") ∷ (codes "otel.resource.host", codes "a")
      ∷ (codes "otel.scope.name", codes "lib") ∷ (codes "otel.scope.version", codes "2") ∷ (codes "otel.status_code", codes "ERROR") ∷ [];
}

written : spans_of_group group ≡ told ∷ []
unfolding group told call digits
written = refl

-- what is read of it
back : RunSpan
back = (
  record { resource = (codes "host", Text (codes "a")) ∷ (service_key, Text (codes "cart")) ∷ []; name = codes "lib"; version = codes "2" },
  record call {
    start = 1000;
    end = 2000;
    attributes = (codes "cached", Text (codes "false")) ∷ (codes "error", Text (codes "true")) ∷ (codes "otel.attr.error", Text (codes "b"))
        ∷ (codes "otel.attr.ok", Text (codes "c")) ∷ (codes "otel.resource.host", Text (codes "d")) ∷ (peer_key, Text (codes "db"))
        ∷ (codes "zipkin.local.port", Text (codes "80")) ∷ [];
    flags = 0;
  },
)

read : run_span_of told ≡ back
unfolding told back call digits
read = refl

normal : normal_spans group ≡ back ∷ []
unfolding group back call
normal = refl
