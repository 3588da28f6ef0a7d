-- The field lines of a request (RFC 9110, section 5).
use Rattle.std.specs.Prelude.{ℕ, Bool, List, map, filter, take, ◌||◌, ◌==◌, codes}
use Rattle.std.specs.List.{list_any, position_or_len}
use Rattle.std.specs.Str.{str_eq_ignore_ascii_case}
use Rattle.httparse.specs.Grammar.{RequestHead}
use Rattle.httparse.specs.Spans.{name_and_value}

-- a line: the name of a field, and its value without the white space round it
abbrev pub Line : Type 0
Line = List ℕ × List ℕ

-- the field lines of the head of a request, in their order
abbrev pub lines_of : RequestHead → List Line
lines_of h = map name_and_value h.fields

-- whether a line is of this field: names ignore case (section 5.1)
abbrev pub is_named : List ℕ → Line → Bool
is_named name line = str_eq_ignore_ascii_case line.0 name

-- the values of the lines of a field, in their order (section 5.2)
abbrev pub values : List ℕ → List Line → List (List ℕ)
values name lines = map (λ line. line.1) (filter (is_named name) lines)

-- the field of options for this connection alone (RFC 9110, section 7.6.1)
abbrev pub connection : List ℕ
connection = codes "Connection"

-- the field of the codings that were applied to the content (RFC 9110, section 8.4)
abbrev pub content_encoding : List ℕ
content_encoding = codes "Content-Encoding"

-- the field of the content's length in bytes (RFC 9110, section 8.6)
abbrev pub content_length : List ℕ
content_length = codes "Content-Length"

-- the field of the content's media type (RFC 9110, section 8.3)
abbrev pub content_type : List ℕ
content_type = codes "Content-Type"

-- the field of the codings of the body as it is sent (RFC 9112, section 6.1)
abbrev pub transfer_encoding : List ℕ
transfer_encoding = codes "Transfer-Encoding"

-- what stands in front of the first byte of a kind, the whole text where it has none
abbrev pub before : ℕ → List ℕ → List ℕ
before mark text = take (position_or_len (λ b. b == mark) text) text

-- whether a connection ends with the answer: in HTTP/1.0, and by a field `Connection` of the value "close" alone (RFC 9112, section 9.3)
abbrev pub closes : ℕ → List Line → Bool
closes minor lines = minor == 0 || list_any (λ v. str_eq_ignore_ascii_case v (codes "close")) (values connection lines)
