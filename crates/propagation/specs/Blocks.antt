-- A block of header lines: lines that end in LF or CR LF, the last of which may end without. A line is empty, or a name, a colon and a value
-- with blanks round it.
use Rattle.std.specs.Prelude.{◌≡◌, ◌⊎◌, ◌≤◌, ℕ, List, [], ◌∷◌, ◌++◌, length, reverse, All, ⊤}
use Rattle.std.specs.List.{flat_map}
use Rattle.std.specs.Char.{IsAsciiAlphanumeric}
use Rattle.std.specs.Int.{IsInRange}
use Rattle.propagation.specs.Fronts.{BeginsWithout}
use Rattle.propagation.specs.Tracestate.{IsBlank}
use Rattle.propagation.specs.Uber.{colon}

-- a header: its name, and its value without the blanks round it
pub record Header : Type 0 where
  pub name : List ℕ
  pub value : List ℕ

-- a letter, a digit, "-" or "_"
abbrev pub IsNameByte : ℕ → Type 0
IsNameByte c = IsAsciiAlphanumeric c ⊎ ((c ≡ 45) ⊎ (c ≡ 95))

-- a visible character, a space or a tab
abbrev pub IsValueByte : ℕ → Type 0
IsValueByte c = IsInRange 0x20 0x7E c ⊎ (c ≡ 9)

-- a name has a character at least, and a value no blank at its ends
pub record IsHeader (h : Header) : Type 0 where
  pub name : (1 ≤ length h.name) × All IsNameByte h.name
  pub value : All IsValueByte h.value
  pub begins : BeginsWithout IsBlank h.value
  pub ends : BeginsWithout IsBlank (reverse h.value)

-- what stands on a line: nothing, or a header and the blanks round its value
pub data HeaderLine : Type 0 where
  empty : HeaderLine
  told : (header : Header) (before after : List ℕ) → HeaderLine

-- the bytes of a line without its end: none, or the name, a colon, and the value between its blanks
abbrev pub header_line_text : HeaderLine → List ℕ
header_line_text empty = []
header_line_text (told h before after) = h.name ++ colon ∷ (before ++ (h.value ++ after))

-- a line is empty, or its header is of the form and spaces and tabs alone stand round its value
abbrev pub IsHeaderLine : HeaderLine → Type 0
IsHeaderLine empty = ⊤
IsHeaderLine (told h before after) = IsHeader h × All IsBlank before × All IsBlank after

-- the header on a line, if there is one
abbrev pub line_headers : HeaderLine → List Header
line_headers empty = []
line_headers (told h before after) = h ∷ []

-- a line ends in CR LF, or in LF alone
pub data HeaderEnd : Type 0 where
  crlf lf : HeaderEnd

-- the bytes that end a line
abbrev pub header_end_text : HeaderEnd → List ℕ
header_end_text crlf = 13 ∷ 10 ∷ []
header_end_text lf = 10 ∷ []

-- the bytes of a line with its end
abbrev pub ended_line_text : HeaderLine × HeaderEnd → List ℕ
ended_line_text l = header_line_text l.0 ++ header_end_text l.1

-- the block has these headers, in this order
pub record HasHeaders (block : List ℕ) (headers : List Header) : Type 0 where
  pub lines : List (HeaderLine × HeaderEnd)
  pub last : HeaderLine
  pub formed : All (λ l. IsHeaderLine l.0) lines
  pub last_formed : IsHeaderLine last
  pub whole : block ≡ flat_map ended_line_text lines ++ header_line_text last
  pub headers_are : headers ≡ flat_map (λ l. line_headers l.0) lines ++ line_headers last
