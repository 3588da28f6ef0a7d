-- The words by which a command line names the forms.
use Rattle.std.specs.Prelude.{ℕ, List, codes}
use Rattle.span_io.specs.declared.form.Form.{Form}
use Rattle.span_io.specs.declared.form.Form.TheVariants.{OtlpProto, OtlpJson, JaegerBinary, JaegerCompact, ZipkinJson}

-- the word of a form: OTLP in protobuf or JSON, batches of jaeger.thrift in Thrift's binary or compact protocol, or Zipkin v2
abbrev pub form_word : Form → List ℕ
form_word OtlpProto = codes "otlp-proto"
form_word OtlpJson = codes "otlp-json"
form_word JaegerBinary = codes "jaeger-binary"
form_word JaegerCompact = codes "jaeger-compact"
form_word ZipkinJson = codes "zipkin-json"
