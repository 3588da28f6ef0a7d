-- What a path takes: OTLP/HTTP's `/v1/traces`, Jaeger's `/api/traces` and Zipkin's `/api/v2/spans`, each by its media types.
use Rattle.std.specs.Prelude.{ℕ, Bool, not, List, [], ◌∷◌, if◌then◌else◌, Option, Some, None, Result, Ok, Err, codes}
use Rattle.std.specs.List.{list_any}
use Rattle.std.specs.Str.{bytes_eq, str_eq_ignore_ascii_case}
use Rattle.httparse.specs.Ascii.{semicolon}
use Rattle.httparse.specs.Grammar.{trim_ows}
use Rattle.span_io.specs.declared.form.Form.{Form}
use Rattle.span_io.specs.declared.form.Form.TheVariants.{OtlpProto, OtlpJson, JaegerBinary, ZipkinJson}
use Rattle.http_conn.specs.Fields.{Line, before, values, content_encoding, content_type}
use Rattle.http_conn.specs.Bodies.{post}
use Rattle.http_conn.specs.declared.service.Service.{Service}
use Rattle.http_conn.specs.declared.service.Service.TheVariants.{Otlp, Jaeger, Zipkin}

-- b'?'
abbrev pub question_mark : ℕ
question_mark = 63

-- the path of a target: what stands in front of the query (RFC 9112, section 3.2.1)
abbrev pub path_of : List ℕ → List ℕ
path_of target = before question_mark target

-- the service of a path, byte for byte, none where the path is another
abbrev pub service_at : List ℕ → Option Service
service_at path =
    if bytes_eq path (codes "/v1/traces") then Some Otlp
    else (if bytes_eq path (codes "/api/traces") then Some Jaeger
    else (if bytes_eq path (codes "/api/v2/spans") then Some Zipkin else None))

-- whether a content coding other than `identity` was applied (RFC 9110, section 8.4)
abbrev pub is_encoded : List Line → Bool
is_encoded lines = list_any (λ v. not (str_eq_ignore_ascii_case v (codes "identity"))) (values content_encoding lines)

-- the type and subtype of a media type, without its parameters (RFC 9110, section 8.3.1)
abbrev pub media_type : List ℕ → List ℕ
media_type value = trim_ows (before semicolon value)

-- types and subtypes ignore case
abbrev pub is_type : List ℕ → List ℕ → Bool
is_type name value = str_eq_ignore_ascii_case (media_type value) name

-- the form of a body of this media type
abbrev pub form_taken : Service → List ℕ → Option Form
form_taken Otlp value =
    if is_type (codes "application/x-protobuf") value then Some OtlpProto
    else (if is_type (codes "application/json") value then Some OtlpJson else None)
form_taken Jaeger value =
    if is_type (codes "application/x-thrift") value then Some JaegerBinary
    else (if is_type (codes "application/vnd.apache.thrift.binary") value then Some JaegerBinary else None)
form_taken Zipkin value = if is_type (codes "application/json") value then Some ZipkinJson else None

-- the form, or the status 415 where the media type is none that is taken
abbrev pub or_unsupported : Option Form → Result Form ℕ
or_unsupported None = Err 415
or_unsupported (Some form) = Ok form

-- by the values of "Content-Type": there is one
abbrev pub form_by : Service → List (List ℕ) → Result Form ℕ
form_by service [] = Err 415
form_by service (value ∷ []) = or_unsupported (form_taken service value)
form_by service (value ∷ other ∷ others) = Err 415

-- 404 where there is no service; 405 where the method isn't POST; 415 where the content is encoded, or for its media type
abbrev pub form_at : Option Service → List ℕ → List Line → Result Form ℕ
form_at None method lines = Err 404
form_at (Some service) method lines =
    if bytes_eq method post
    then (if is_encoded lines then Err 415 else form_by service (values content_type lines))
    else Err 405

-- the form of a request's body, or the status of the verdict: not found, method not allowed, or unsupported media type
-- (RFC 9110, sections 15.5.5, 15.5.6 and 15.5.16)
abbrev pub judged : List ℕ → List ℕ → List Line → Result Form ℕ
judged method target lines = form_at (service_at (path_of target)) method lines
