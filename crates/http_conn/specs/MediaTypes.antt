-- The media types of the forms (RFC 9110, section 8.3.1).
use Rattle.std.specs.Prelude.{ℕ, List, codes}
use Rattle.span_io.specs.declared.form.Form.{Form}
use Rattle.span_io.specs.declared.form.Form.TheVariants.{OtlpProto, OtlpJson, JaegerBinary, JaegerCompact, ZipkinJson}

-- the media type of a text in a form; that of Jaeger's compact protocol is this project's own
abbrev pub type_of : Form → List ℕ
type_of OtlpProto = codes "application/x-protobuf"
type_of OtlpJson = codes "application/json"
type_of JaegerBinary = codes "application/vnd.apache.thrift.binary"
type_of JaegerCompact = codes "application/vnd.apache.thrift.compact"
type_of ZipkinJson = codes "application/json"
