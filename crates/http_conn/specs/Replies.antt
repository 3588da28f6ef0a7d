-- The bytes of an answer (RFC 9112, section 4; RFC 9110, sections 8.3 and 8.6, and for a connection that ends RFC 9112, section 9.6).
use Rattle.std.specs.Prelude.{ℕ, Bool, cond, List, [], ◌∷◌, ◌++◌, length, if◌then◌else◌, ◌==◌, codes, decimal}
use Rattle.std.specs.List.{list_any}
use Rattle.httparse.specs.Ascii.{space, crlf_bytes}

-- the statuses of answers
abbrev pub statuses : List ℕ
statuses = 200 ∷ 202 ∷ 400 ∷ 404 ∷ 405 ∷ 411 ∷ 413 ∷ 415 ∷ 422 ∷ 431 ∷ 501 ∷ 503 ∷ []

-- a status is one of those
abbrev pub is_status : ℕ → Bool
is_status status = list_any (λ s. s == status) statuses

-- the reason phrase of a status (RFC 9110, section 15; of 431 RFC 6585, section 5)
unfoldable pub reason : ℕ → List ℕ
reason status =
    if status == 200 then codes "OK"
    else (if status == 202 then codes "Accepted"
    else (if status == 400 then codes "Bad Request"
    else (if status == 404 then codes "Not Found"
    else (if status == 405 then codes "Method Not Allowed"
    else (if status == 411 then codes "Length Required"
    else (if status == 413 then codes "Content Too Large"
    else (if status == 415 then codes "Unsupported Media Type"
    else (if status == 422 then codes "Unprocessable Content"
    else (if status == 431 then codes "Request Header Fields Too Large"
    else (if status == 501 then codes "Not Implemented"
    else (if status == 503 then codes "Service Unavailable" else [])))))))))))

-- the version HTTP/1.1, the status and its reason phrase (RFC 9112, section 4)
abbrev pub status_line : ℕ → List ℕ
status_line status = codes "HTTP/1.1 " ++ (decimal status ++ (space ∷ [] ++ (reason status ++ crlf_bytes)))

-- the media type of the content, where there is one
unfoldable pub type_line : List ℕ → List ℕ
type_line [] = []
type_line (c ∷ rest) = codes "Content-Type: " ++ (c ∷ rest ++ crlf_bytes)

-- the field line "Content-Length": how many bytes the content has (RFC 9110, section 8.6)
abbrev pub length_line : ℕ → List ℕ
length_line count = codes "Content-Length: " ++ (decimal count ++ crlf_bytes)

-- the field line "Connection: close" where the connection ends behind the answer, else nothing (RFC 9112, section 9.6)
unfoldable pub close_line : Bool → List ℕ
close_line close = cond close (codes "Connection: close\r\n") []

-- status line, fields, the empty line and the content
abbrev pub answer_text : ℕ → List ℕ → List ℕ → Bool → List ℕ
answer_text status kind body close =
    status_line status ++ (type_line kind ++ (length_line (length body) ++ (close_line close ++ (crlf_bytes ++ body))))
