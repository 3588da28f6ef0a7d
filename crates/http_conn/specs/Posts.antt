-- The bytes of a request that posts a body (RFC 9112, sections 2.1, 3 and 9.6; RFC 9110, sections 7.2, 8.3 and 8.6).
use Rattle.std.specs.Prelude.{ℕ, Bool, true, List, ◌++◌, length, codes}
use Rattle.std.specs.Char.{is_ascii_graphic}
use Rattle.std.specs.List.{list_all}
use Rattle.httparse.specs.Ascii.{crlf_bytes}
use Rattle.span_io.specs.declared.form.Form.{Form}
use Rattle.span_io.specs.declared.form.Form.TheVariants.{OtlpProto, OtlpJson, JaegerBinary, JaegerCompact, ZipkinJson}
use Rattle.http_conn.specs.MediaTypes.{type_of}
use Rattle.http_conn.specs.Replies.{close_line, length_line, type_line}

-- The characters of an address are those of 0x21 to 0x7E.
abbrev pub is_address : List ℕ → Bool
is_address text = list_all is_ascii_graphic text

-- where a body in a form is posted, by its family
abbrev pub path_for : Form → List ℕ
path_for OtlpProto = codes "/v1/traces"
path_for OtlpJson = codes "/v1/traces"
path_for JaegerBinary = codes "/api/traces"
path_for JaegerCompact = codes "/api/traces"
path_for ZipkinJson = codes "/api/v2/spans"

-- the request line: the method, the path of the form, and the version HTTP/1.1 (RFC 9112, section 3)
abbrev pub post_line : Form → List ℕ
post_line form = codes "POST " ++ (path_for form ++ codes " HTTP/1.1\r\n")

-- the field line "Host", with the address to which the request goes (RFC 9110, section 7.2)
abbrev pub host_line : List ℕ → List ℕ
host_line address = codes "Host: " ++ (address ++ crlf_bytes)

-- request line, fields and the empty line, of a body of so many bytes
abbrev pub post_head : List ℕ → Form → ℕ → List ℕ
post_head address form count =
    post_line form ++ (host_line address ++ (type_line (type_of form) ++ (length_line count ++ (close_line true ++ crlf_bytes))))

-- head and body
abbrev pub post_text : List ℕ → Form → List ℕ → List ℕ
post_text address form body = post_head address form (length body) ++ body
