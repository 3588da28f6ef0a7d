-- The length of a request's body (RFC 9112, section 6.3; RFC 9110, section 8.6).
use Rattle.std.specs.Prelude.{ℕ, Bool, ◌&&◌, List, [], ◌∷◌, length, if◌then◌else◌, nat_le, Result, Ok, Err, codes}
use Rattle.std.specs.List.{list_all, list_any}
use Rattle.std.specs.Char.{is_ascii_digit}
use Rattle.std.specs.Str.{bytes_eq}
use Rattle.std.specs.Str.Parse.{digits_value}
use Rattle.http_conn.specs.Fields.{Line, is_named, values, content_length, transfer_encoding}

-- 1 to 18 digits: each such number fits 64 bits
abbrev pub is_length : List ℕ → Bool
is_length value = nat_le 1 (length value) && nat_le (length value) 18 && list_all is_ascii_digit value

-- the length that a value says, in bytes, or a status: 400 where it is no length, 413 where it is above the limit
abbrev pub length_in : ℕ → List ℕ → Result ℕ ℕ
length_in most value =
    if is_length value then (if nat_le (digits_value 10 value) most then Ok (digits_value 10 value) else Err 413) else Err 400

-- the method POST (RFC 9110, section 9.3.3)
abbrev pub post : List ℕ
post = codes "POST"

-- by the values of "Content-Length"; without one the length of a body that is posted isn't known
abbrev pub length_by : ℕ → List ℕ → List (List ℕ) → Result ℕ ℕ
length_by most method [] = if bytes_eq method post then Err 411 else Ok 0
length_by most method (value ∷ []) = length_in most value
length_by most method (value ∷ other ∷ others) = Err 400

-- the length of the body, of at most so many bytes, or the status of a refusal; no transfer coding is read
abbrev pub body_length : ℕ → List ℕ → List Line → Result ℕ ℕ
body_length most method lines =
    if list_any (is_named transfer_encoding) lines then Err 501 else length_by most method (values content_length lines)
