-- Keys of tags and attributes that both tables name beside their rows: the code of a span's status, and a resource's service.
use Rattle.std.specs.Prelude.{ℕ, List, codes}

-- the key of a span's status code (OpenTelemetry exporter pages for Jaeger and for Zipkin)
abbrev pub code_key : List ℕ
code_key = codes "otel.status_code"

-- the key of a resource's service (OpenTelemetry semantic conventions, `service.name`)
abbrev pub service_key : List ℕ
service_key = codes "service.name"
