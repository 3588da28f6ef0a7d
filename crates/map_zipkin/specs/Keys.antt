-- The keys of tags to which the OpenTelemetry exporter page for Zipkin gives a meaning of their own, so that attributes of a span are written
-- under others in place of them, and that of the service at the other end.
use Rattle.std.specs.Prelude.{ℕ, Bool, ◌||◌, if◌then◌else◌, is_some, List, take, drop, Option, Some, None, codes}
use Rattle.std.specs.Str.{bytes_eq}
use Rattle.map_zipkin.specs.TagColumns.{is_column}

-- ---- of the resource: tags that begin with this

-- the front of the keys under which a resource's attributes, but for its service, stand as tags of each of its spans
abbrev pub resource_prefix : List ℕ
resource_prefix = codes "otel.resource."

-- the key behind it
abbrev pub resource_key : List ℕ → Option (List ℕ)
resource_key key = if bytes_eq (take 14 key) resource_prefix then Some (drop 14 key) else None

-- ---- reserved: those of the span and its scope, too

-- a tag of this key tells of the resource, the scope or the span itself, so that no attribute of a span is written under it
abbrev pub is_zipkin_reserved : List ℕ → Bool
is_zipkin_reserved key = is_column key || is_some (resource_key key)

-- ---- the service at the other end

-- the key of the attribute that Zipkin v2 has as the `serviceName` of a span's `remoteEndpoint`
abbrev pub peer_key : List ℕ
peer_key = codes "peer.service"
