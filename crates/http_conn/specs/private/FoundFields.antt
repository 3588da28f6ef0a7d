-- What was found of the fields that the steps look at.
use Rattle.std.specs.Prelude.{◌≡◌, ℕ, Bool, not, List, [], ◌∷◌, codes}
use Rattle.std.specs.List.{list_any}
use Rattle.std.specs.Str.{str_eq_ignore_ascii_case}
use Rattle.httparse.specs.Grammar.{RequestHead}
use Rattle.http_conn.specs.Fields.{Line, is_named, lines_of, values, connection, content_encoding, content_length, content_type, transfer_encoding}
use Rattle.http_conn.specs.declared.fields.Fields.{Fields}
use Rattle.http_conn.specs.declared.fields.Once.{Once}
use Rattle.http_conn.specs.declared.fields.Once.TheVariants.{Missing, At, Twice}
use Rattle.http_conn.specs.declared.head.Head.{Head}

-- no value, one, or more
abbrev pub HoldsOnce : Once → List (List ℕ) → Type 0
HoldsOnce Missing values = values ≡ []
HoldsOnce (At value) values = values ≡ value.now ∷ []
HoldsOnce Twice values = (a b : List ℕ) × (more : List (List ℕ)) × (values ≡ a ∷ b ∷ more)

-- whether a line "Connection" stands there whose whole value is "close", in any case of its letters
abbrev pub has_close : List Line → Bool
has_close lines = list_any (λ v. str_eq_ignore_ascii_case v (codes "close")) (values connection lines)

-- whether a line "Content-Encoding" stands there whose whole value is another than "identity", in any case of its letters
abbrev pub has_coding : List Line → Bool
has_coding lines = list_any (λ v. not (str_eq_ignore_ascii_case v (codes "identity"))) (values content_encoding lines)

-- what was found in these lines, field by field
pub record FoundIn (found : Fields) (lines : List Line) : Type 0 where
  pub close : found.close ≡ has_close lines
  pub encoded : found.encoded ≡ has_coding lines
  pub transfer : found.transfer ≡ list_any (is_named transfer_encoding) lines
  pub length : HoldsOnce found.length (values content_length lines)
  pub media : HoldsOnce found.media (values content_type lines)

-- what was read is this head
pub record IsHead (read : Head) (h : RequestHead) : Type 0 where
  pub method : read.method.now ≡ h.method
  pub target : read.target.now ≡ h.target
  pub minor : read.minor ≡ h.minor
  pub fields : FoundIn read.fields (lines_of h)
