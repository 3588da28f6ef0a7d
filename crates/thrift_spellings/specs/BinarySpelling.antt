-- How each part of a text is spelled (Thrift binary protocol): numbers have the most significant byte first, and those that have a
-- sign are in two's complement.
use Rattle.std.specs.Prelude.{◌≡◌, ◌≢◌, ◌≤◌, ◌<◌, ◌⊎◌, ℕ, zero, ℤ, Bool, true, false, Option, Some, None, List, [], ◌∷◌, length}
use Rattle.std.specs.Int.{Width, w8, w16, w32, w64, from_be_bytes, to_be_bytes, cast_signed, cast_unsigned, from_bool}
use Rattle.span_io.specs.declared.cause.Cause.{Cause}
use Rattle.span_io.specs.declared.cause.Cause.TheVariants as causes
use Rattle.thrift_core.specs.declared.field.Field.{Field}
use Rattle.thrift_core.specs.declared.field.ListHead.{ListHead}
use Rattle.thrift_core.specs.declared.field.MapHead.{MapHead}
use Rattle.thrift_core.specs.declared.type_code.TypeCode.{TypeCode}
use Rattle.thrift_core.specs.Parts.{Part, header, truth, byte, short, int, long, eight, size, list_head, map_head, Spelling, HasLevel}
use Rattle.thrift_core.specs.Protocols.{WritingOf}
use Rattle.thrift_core.specs.Levels.{CountsFirst, MayStand, why_none, why_no_pair}
use Rattle.thrift_spellings.specs.BinaryTypeCodes.{binary_code_of, binary_kind_of_code}

-- ---- what so many bytes say

-- a number that has a sign, of so many bits: two's complement, the most significant byte first
abbrev pub signed : Width → List ℕ → ℤ
signed w bytes = cast_signed w (from_be_bytes w bytes)

-- a byte of any value is a truth value, true where it isn't 0
abbrev pub binary_is_true : List ℕ → Bool
binary_is_true (zero ∷ rest) = false
binary_is_true other = true

-- the bytes of a double, which stand the most significant first already
abbrev pub as_they_are : List ℕ → List ℕ
as_they_are bytes = bytes

-- a word of so many bytes
abbrev pub IsFixed : (A : Type 0) → ℕ → (List ℕ → A) → A → List ℕ → Type 0
IsFixed A many value word text = (length text ≡ many) × (word ≡ value text)

-- a size is an i32 that isn't negative
abbrev pub IsBinarySize : ℕ → List ℕ → Type 0
IsBinarySize n (a ∷ b ∷ c ∷ d ∷ []) = (a < 128) × (n ≡ from_be_bytes w32 (a ∷ b ∷ c ∷ d ∷ []))
IsBinarySize n other = ⊥

-- ---- the spellings

-- a field is the code of its type, its id as an i16, and its value; 0 is the stop
abbrev pub IsBinaryHeader : ℕ → Option Field → List ℕ → Type 0
IsBinaryHeader left None (zero ∷ []) = Unit {0}
IsBinaryHeader left (Some f) (code ∷ id) =
    (binary_kind_of_code code ≡ Some f.kind) × HasLevel left f.kind × IsFixed ℤ 2 (signed w16) f.id id × (f.held ≡ None)
IsBinaryHeader left word other = ⊥

-- a list or set is the code of its elements' type, which means nothing where it is empty, its size, and the elements
abbrev pub IsBinaryListHead : ℕ → ListHead → List ℕ → Type 0
IsBinaryListHead left head (code ∷ number) =
    (head.element ≡ binary_kind_of_code code) × IsBinarySize head.size number × (1 ≤ head.size → MayStand left head.element)
IsBinaryListHead left head [] = ⊥

-- a map is the codes of its keys' and its values' type, its size, and the pairs
abbrev pub IsBinaryMapHead : ℕ → MapHead → List ℕ → Type 0
IsBinaryMapHead left head (key ∷ value ∷ number) =
    (head.key ≡ binary_kind_of_code key) × (head.value ≡ binary_kind_of_code value) × IsBinarySize head.size number
    × (1 ≤ head.size → MayStand left head.key × MayStand left head.value)
IsBinaryMapHead left head other = ⊥

-- how the binary protocol spells each part: a truth value that is held already has no bytes
abbrev pub binary_spells : Spelling
binary_spells (header left last) word text = IsBinaryHeader left word text
binary_spells (truth (Some held)) word text = (word ≡ held) × (text ≡ [])
binary_spells (truth None) word text = IsFixed Bool 1 binary_is_true word text
binary_spells byte word text = IsFixed ℤ 1 (signed w8) word text
binary_spells short word text = IsFixed ℤ 2 (signed w16) word text
binary_spells int word text = IsFixed ℤ 4 (signed w32) word text
binary_spells long word text = IsFixed ℤ 8 (signed w64) word text
binary_spells eight word text = IsFixed (List ℕ) 8 as_they_are word text
binary_spells size word text = IsBinarySize word text
binary_spells (list_head left) word text = IsBinaryListHead left word text
binary_spells (map_head left) word text = IsBinaryMapHead left word text

-- no part has a varint
abbrev pub binary_then_varint : Part → List ℕ → Type 0
binary_then_varint part front = ⊥

-- ---- what is refused, in the shortest front that is

-- The last of at most four bytes is the first that isn't 0: it says that a size isn't 0.
abbrev pub SaysSome : List ℕ → Type 0
SaysSome (a ∷ []) = a ≢ 0
SaysSome (a ∷ b ∷ []) = (a ≡ 0) × (b ≢ 0)
SaysSome (a ∷ b ∷ c ∷ []) = (a ≡ 0) × (b ≡ 0) × (c ≢ 0)
SaysSome (a ∷ b ∷ c ∷ d ∷ []) = (a ≡ 0) × (b ≡ 0) × (c ≡ 0) × (d ≢ 0)
SaysSome other = ⊥

-- A first byte with the sign bit.
abbrev pub SaysNegative : List ℕ → Type 0
SaysNegative (a ∷ []) = 128 ≤ a
SaysNegative other = ⊥

-- What speaks against a size: that it is negative, and behind what may have no elements, for this cause, that there are some.
abbrev pub BinarySizeFault : Option Cause → List ℕ → Cause → Type 0
BinarySizeFault why front cause = ((why ≡ Some cause) × SaysSome front) ⊎ ((cause ≡ causes.BadSize) × SaysNegative front)

-- a size is refused in these bytes, for the cause that counts first of those that speak against it
abbrev pub IsBinarySizeRefused : Option Cause → Cause → List ℕ → Type 0
IsBinarySizeRefused why cause front = CountsFirst (λ fault. BinarySizeFault why front fault) cause

-- a field is refused at the code of its type
abbrev pub IsBinaryHeaderRefused : ℕ → Cause → List ℕ → Type 0
IsBinaryHeaderRefused left cause (code ∷ []) = (code ≢ 0) × (why_none left (binary_kind_of_code code) ≡ Some cause)
IsBinaryHeaderRefused left cause other = ⊥

-- a list or set is refused in its size: it is negative, or there are elements of a type that can't stand there
abbrev pub IsBinaryListRefused : ℕ → Cause → List ℕ → Type 0
IsBinaryListRefused left cause (code ∷ number) = IsBinarySizeRefused (why_none left (binary_kind_of_code code)) cause number
IsBinaryListRefused left cause [] = ⊥

-- a map is refused in its size: it is negative, or there are pairs of types that can't stand there
abbrev pub IsBinaryMapRefused : ℕ → Cause → List ℕ → Type 0
IsBinaryMapRefused left cause (key ∷ value ∷ number) =
    IsBinarySizeRefused (why_no_pair left (binary_kind_of_code key) (binary_kind_of_code value)) cause number
IsBinaryMapRefused left cause other = ⊥

-- what refuses each part: only heads and sizes can be refused, numbers and truth values never are
abbrev pub binary_refuses : Part → Cause → List ℕ → Type 0
binary_refuses (header left last) cause front = IsBinaryHeaderRefused left cause front
binary_refuses size cause front = IsBinarySizeRefused None cause front
binary_refuses (list_head left) cause front = IsBinaryListRefused left cause front
binary_refuses (map_head left) cause front = IsBinaryMapRefused left cause front
binary_refuses other cause front = ⊥

-- ---- writing

-- the head of a field keeps no truth value
abbrev pub binary_keeps : Option Bool → Option Bool
binary_keeps given = None

-- a number that has a sign, in two's complement of so many bits, the most significant byte first
abbrev pub signed_text : Width → ℤ → List ℕ
signed_text w n = to_be_bytes w (cast_unsigned w n)

-- a type that an empty list or map lacks is written as 0
abbrev pub binary_element_code : Option TypeCode → ℕ
binary_element_code None = 0
binary_element_code (Some kind) = binary_code_of kind

-- the head of a field is the code of its type and its id as an i16; the stop byte is 0
abbrev pub binary_header_text : Option Field → List ℕ
binary_header_text None = 0 ∷ []
binary_header_text (Some f) = binary_code_of f.kind ∷ signed_text w16 f.id

-- a truth value is the byte 1 or 0; nothing is written of one that is held already
abbrev pub binary_truth_text : Option Bool → Bool → List ℕ
binary_truth_text (Some held) word = []
binary_truth_text None word = from_bool word ∷ []

-- what a writer of the binary protocol appends for each part
abbrev pub binary_writes : WritingOf
binary_writes (header left last) word = binary_header_text word
binary_writes (truth held) word = binary_truth_text held word
binary_writes byte word = signed_text w8 word
binary_writes short word = signed_text w16 word
binary_writes int word = signed_text w32 word
binary_writes long word = signed_text w64 word
binary_writes eight word = word
binary_writes size word = to_be_bytes w32 word
binary_writes (list_head left) word = binary_element_code word.element ∷ to_be_bytes w32 word.size
binary_writes (map_head left) word = binary_element_code word.key ∷ binary_element_code word.value ∷ to_be_bytes w32 word.size
