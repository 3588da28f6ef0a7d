-- What the heads of fields, lists and maps give, by what their parts give.
use Rattle.std.proofs.Common.{◌≡◌, ◌≢◌, ◌<◌, ◌∷◌, ℕ, zero, suc, ℤ, List, [], length, Some, None, Ok, Err, refl, arith}
use Rattle.std.specs.Int.{w16}
use Rattle.span_io.specs.declared.cause.Cause.{Cause}
use Rattle.span_io.specs.declared.cause.Cause.TheVariants as causes
use Rattle.thrift_core.specs.declared.type_code.TypeCode.{TypeCode}
use Rattle.thrift_core.specs.Levels.{why_none, why_no_pair}
use Rattle.thrift_spellings.specs.BinaryTypeCodes.{binary_kind_of_code}
use Rattle.thrift_spellings.specs.BinarySpelling.{signed}
use Rattle.thrift_spellings.specs.BinaryReading.{fixed_at, binary_size_at, binary_header_at, binary_list_at, binary_map_at}

-- ---- fields

pub header_empty : (left : ℕ) (text : List ℕ) → length text < 1 → binary_header_at left text ≡ Err causes.Truncated
unfolding binary_header_at
header_empty left [] less = refl
header_empty left (code ∷ rest) less = absurd (omega (arith, less))

pub header_stop : (left : ℕ) (text rest : List ℕ) (code : ℕ) → text ≡ code ∷ rest → code ≡ 0 → binary_header_at left text ≡ Ok (None, rest)
unfolding binary_header_at
header_stop left text rest code e is_zero = rw (e, is_zero) refl

pub header_unknown : (left : ℕ) (text rest : List ℕ) (code : ℕ) → text ≡ code ∷ rest → code ≢ 0 → binary_kind_of_code code ≡ None → binary_header_at left text ≡ Err causes.BadWire
unfolding binary_header_at
header_unknown left text rest zero e other none = absurd (other refl)
header_unknown left text rest (suc n) e other none = rw (e, none) refl

pub header_refused : (left : ℕ) (text rest : List ℕ) (code : ℕ) (kind : TypeCode) (cause : Cause) → text ≡ code ∷ rest → code ≢ 0 → binary_kind_of_code code ≡ Some kind
    → why_none left (Some kind) ≡ Some cause → binary_header_at left text ≡ Err cause
unfolding binary_header_at
header_refused left text rest zero kind cause e other some why = absurd (other refl)
header_refused left text rest (suc n) kind cause e other some why = rw (e, some, why) refl

pub header_short : (left : ℕ) (text rest : List ℕ) (code : ℕ) (kind : TypeCode) (cause : Cause) → text ≡ code ∷ rest → code ≢ 0 → binary_kind_of_code code ≡ Some kind
    → why_none left (Some kind) ≡ None → fixed_at ℤ 2 (signed w16) rest ≡ Err cause → binary_header_at left text ≡ Err cause
unfolding binary_header_at
header_short left text rest zero kind cause e other some why read = absurd (other refl)
header_short left text rest (suc n) kind cause e other some why read = rw (e, some, why, read) refl

pub header_read : (left : ℕ) (text rest after : List ℕ) (code : ℕ) (kind : TypeCode) (id : ℤ) → text ≡ code ∷ rest → code ≢ 0 → binary_kind_of_code code ≡ Some kind
    → why_none left (Some kind) ≡ None → fixed_at ℤ 2 (signed w16) rest ≡ Ok (id, after) → binary_header_at left text ≡ Ok (Some (record { id = id; kind = kind; held = None }), after)
unfolding binary_header_at
header_read left text rest after zero kind id e other some why read = absurd (other refl)
header_read left text rest after (suc n) kind id e other some why read = rw (e, some, why, read) refl

-- ---- lists and sets

pub list_empty : (left : ℕ) (text : List ℕ) → length text < 1 → binary_list_at left text ≡ Err causes.Truncated
unfolding binary_list_at
list_empty left [] less = refl
list_empty left (code ∷ rest) less = absurd (omega (arith, less))

pub list_short : (left : ℕ) (text rest : List ℕ) (code : ℕ) (cause : Cause) → text ≡ code ∷ rest
    → binary_size_at (why_none left (binary_kind_of_code code)) rest ≡ Err cause → binary_list_at left text ≡ Err cause
unfolding binary_list_at
list_short left text rest code cause e read = rw (e, read) refl

pub list_read : (left : ℕ) (text rest after : List ℕ) (code n : ℕ) → text ≡ code ∷ rest
    → binary_size_at (why_none left (binary_kind_of_code code)) rest ≡ Ok (n, after) → binary_list_at left text ≡ Ok (record { element = binary_kind_of_code code; size = n }, after)
unfolding binary_list_at
list_read left text rest after code n e read = rw (e, read) refl

-- ---- maps

pub map_empty : (left : ℕ) (text : List ℕ) → length text < 1 → binary_map_at left text ≡ Err causes.Truncated
unfolding binary_map_at
map_empty left [] less = refl
map_empty left (key ∷ rest) less = absurd (omega (arith, less))

pub map_key : (left : ℕ) (text rest : List ℕ) (key : ℕ) → text ≡ key ∷ rest → length rest < 1 → binary_map_at left text ≡ Err causes.Truncated
unfolding binary_map_at
map_key left text [] key e less = rw e refl
map_key left text (value ∷ rest) key e less = absurd (omega (arith, less))

pub map_short : (left : ℕ) (text between rest : List ℕ) (key value : ℕ) (cause : Cause) → text ≡ key ∷ between → between ≡ value ∷ rest
    → binary_size_at (why_no_pair left (binary_kind_of_code key) (binary_kind_of_code value)) rest ≡ Err cause → binary_map_at left text ≡ Err cause
unfolding binary_map_at
map_short left text between rest key value cause e f read = rw (e, f, read) refl

pub map_read : (left : ℕ) (text between rest after : List ℕ) (key value n : ℕ) → text ≡ key ∷ between → between ≡ value ∷ rest
    → binary_size_at (why_no_pair left (binary_kind_of_code key) (binary_kind_of_code value)) rest ≡ Ok (n, after)
    → binary_map_at left text ≡ Ok (record { key = binary_kind_of_code key; value = binary_kind_of_code value; size = n }, after)
unfolding binary_map_at
map_read left text between rest after key value n e f read = rw (e, f, read) refl

pub ruleset of_header = (header_empty, header_stop, header_unknown, header_refused, header_short, header_read)

pub ruleset of_list = (list_empty, list_short, list_read)

pub ruleset of_map = (map_empty, map_key, map_short, map_read)
