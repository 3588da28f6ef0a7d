-- Groups and their texts, and values that are refused, computed.
use Rattle.std.proofs.Common.{◌≡◌, ◌^◌, negsuc, true, arith, [], ◌∷◌, Some, None, pos, refl}
use Rattle.std.specs.Fmt.{digits}
use Rattle.std.specs.Prelude.{codes}
use Rattle.hex.proofs.OnLiterals.{hex_on_literals}
use Rattle.json.proofs.OnLiterals.{json_on_literals}
use Rattle.serde_json.specs.Data.{null, boolean, number, string, array, object, unsigned, item, no_items, member, no_members}
use Rattle.span_io.specs.Paths.{◌▹◌}
use Rattle.trace_model.specs.declared.span.Code.TheVariants as statuses
use Rattle.trace_model.specs.declared.span.Kind.TheVariants as kinds
use Rattle.trace_model.specs.declared.span.Link.{Link}
use Rattle.trace_model.specs.declared.span.Span.{Span}
use Rattle.trace_model.specs.declared.group.Group.{Group}
use Rattle.trace_model.specs.declared.value.Value.{Text, Number}
use Rattle.json_members.specs.Members.{member as member_in}
use Rattle.otlp_json.specs.Canonical.{json_group_text, json_groups_text}
use Rattle.otlp_json.specs.Numbers.{unsigned_in, signed_in}
use Rattle.otlp_json.specs.Values.{json_value_offends, json_list_offends, many_members, standing_members}
use Rattle.otlp_json.specs.Span.{json_span_members, otlp_span_offends}

-- ---- texts

call : Span
call = record {
  trace = 14576827793038113322513871894673895836;
  id = 13235353014750950193;
  state = [];
  parent = None;
  name = codes "GET /cart";
  kind = kinds.Client;
  start = 1700000000123456789;
  end = 1700000000223456789;
  attributes = (codes "http.request.method", Text (codes "GET")) ∷ (codes "http.response.status_code", Number (pos 200)) ∷ [];
  dropped_attributes = 0;
  events = [];
  dropped_events = 0;
  links = [];
  dropped_links = 0;
  status = record { code = statuses.Unset; message = [] };
  flags = 257;
}

shop : Group
shop = record {
  resource = (codes "host.name", Text (codes "n1")) ∷ (codes "service.name", Text (codes "shop")) ∷ [];
  dropped = 0;
  schema_url = [];
  scopes = record { name = codes "lib"; version = codes "1.0"; attributes = []; dropped = 0; schema_url = []; spans = call ∷ [] } ∷ [];
}

written : json_groups_text (shop ∷ []) ≡ codes "{\"resourceSpans\":[{\"resource\":{\"attributes\":[{\"key\":\"host.name\",\"value\":{\"stringValue\":\"n1\"}},{\"key\":\"service.name\",\"value\":{\"stringValue\":\"shop\"}}]},\"scopeSpans\":[{\"scope\":{\"name\":\"lib\",\"version\":\"1.0\"},\"spans\":[{\"attributes\":[{\"key\":\"http.request.method\",\"value\":{\"stringValue\":\"GET\"}},{\"key\":\"http.response.status_code\",\"value\":{\"intValue\":\"200\"}}],\"endTimeUnixNano\":\"1700000000223456789\",\"flags\":257,\"kind\":3,\"name\":\"GET /cart\",\"spanId\":\"b7ad6b7169203331\",\"startTimeUnixNano\":\"1700000000123456789\",\"traceId\":\"0af7651916cd43dd8448eb211c80319c\"}]}]}]}"
unfolding shop call digits json_groups_text json_group_text json_on_literals hex_on_literals
written = refl

child : Link
child = record { trace = 1; span = 4; state = []; attributes = (codes "opentracing.ref_type", Text (codes "child_of")) ∷ []; dropped = 0; flags = 0 }

linked : Group
linked = record {
  resource = (codes "service.name", Text (codes "s")) ∷ [];
  dropped = 0;
  schema_url = [];
  scopes = record {
    name = [];
    version = [];
    attributes = [];
    dropped = 0;
    schema_url = [];
    spans = record call { trace = 1; id = 2; parent = Some 3; name = codes "a"; kind = kinds.Internal; start = 0; end = 0; attributes = []; links = child ∷ []; flags = 0 } ∷ [];
  } ∷ [];
}

written_link : json_groups_text (linked ∷ []) ≡ codes "{\"resourceSpans\":[{\"resource\":{\"attributes\":[{\"key\":\"service.name\",\"value\":{\"stringValue\":\"s\"}}]},\"scopeSpans\":[{\"spans\":[{\"kind\":1,\"links\":[{\"attributes\":[{\"key\":\"opentracing.ref_type\",\"value\":{\"stringValue\":\"child_of\"}}],\"spanId\":\"0000000000000004\",\"traceId\":\"00000000000000000000000000000001\"}],\"name\":\"a\",\"parentSpanId\":\"0000000000000003\",\"spanId\":\"0000000000000002\",\"traceId\":\"00000000000000000000000000000001\"}]}]}]}"
unfolding linked child call digits json_groups_text json_group_text json_on_literals hex_on_literals
written_link = refl

-- ---- numbers

zeros : signed_in (string (codes "-007")) ≡ Some (negsuc 6)
unfolding signed_in
zeros = refl

minus_zero : unsigned_in (2 ^ 32) (string (codes "-0")) ≡ Some 0
unfolding unsigned_in
minus_zero = refl

plus : unsigned_in (2 ^ 32) (string (codes "+1")) ≡ None
unfolding unsigned_in
plus = refl

too_large : unsigned_in (2 ^ 32) (number (unsigned 4294967296)) ≡ None
unfolding unsigned_in
too_large = refl

-- ---- refusals: a double, two members, a list below the last level, a kind outside its table, and no trace identifier

double : json_value_offends 23 (object (member (codes "doubleValue") (number (unsigned 1)) no_members)) (3 ∷ []) 15
unfolding standing_members member_in ◌▹◌
double = refl

two_members : json_value_offends 23 (object (member (codes "boolValue") (boolean true) (member (codes "stringValue") (string []) no_members))) [] 11
unfolding standing_members member_in
two_members = refl

too_deep : json_list_offends 0 (object (member (codes "values") (array (item (object no_members) no_items)) no_members)) (0 ∷ []) 5
unfolding many_members member_in ◌▹◌
too_deep = refl

kind_of_six : otlp_span_offends (object (member (codes "kind") (number (unsigned 6)) no_members)) (5 ∷ []) 13
unfolding json_span_members member_in ◌▹◌
kind_of_six = (refl, omega arith)

no_trace : otlp_span_offends (object (member (codes "kind") null no_members)) (0 ∷ []) 12
unfolding json_span_members member_in ◌▹◌
no_trace = refl
