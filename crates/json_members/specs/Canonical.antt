-- Canonical objects of JSON (RFC 8259): the members in the order of their names' bytes. A member that holds its default is left out, and
-- so is an object of which all is default. Identifiers have all their digits, in lower case.
use Rattle.std.specs.Prelude.{ℕ, zero, suc, List, [], ◌∷◌, Bool, true, false, Option, Some, None}
use Rattle.std.specs.Int.{w64, w128, to_be_bytes}
use Rattle.hex.specs.Hex.{encode_lower}
use Rattle.serde_json.specs.Data.{Data, boolean, number, string, object, unsigned, Members, no_members, member}

-- ---- members that are left out where they hold their default

-- a string, whose default is the empty one
abbrev pub text_data : List ℕ → Option Data
text_data [] = None
text_data (x ∷ more) = Some (string (x ∷ more))

-- a whole number that isn't negative, whose default is 0
abbrev pub count_data : ℕ → Option Data
count_data zero = None
count_data (suc n) = Some (number (unsigned (suc n)))

-- true or false, whose default is false
abbrev pub truth_data : Bool → Option Data
truth_data false = None
truth_data true = Some (boolean true)

-- a name, and what stands there unless it is left out
abbrev pub MemberRow : Type 0
MemberRow = List ℕ × Option Data

-- the members of these names that aren't left out
abbrev pub members_given : List MemberRow → Members
members_given [] = no_members
members_given ((name, None) ∷ rows) = members_given rows
members_given ((name, Some d) ∷ rows) = member name d (members_given rows)

-- an object, unless all of it is left out
abbrev pub unless_empty : Members → Option Data
unless_empty no_members = None
unless_empty (member name d more) = Some (object (member name d more))

-- ---- identifiers

-- the id of a trace: 16 bytes, the most significant first, as 32 hexadecimal digits
abbrev pub trace_id_text : ℕ → List ℕ
trace_id_text id = encode_lower (to_be_bytes w128 id)

-- the id of a span: 8 bytes, the most significant first, as 16 hexadecimal digits
abbrev pub span_id_text : ℕ → List ℕ
span_id_text id = encode_lower (to_be_bytes w64 id)
