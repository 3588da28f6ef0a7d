-- How each part of a text is spelled (Thrift compact protocol): whole numbers are varints, those that have a sign as zigzag, and a double
-- has its least significant byte first.
use Rattle.std.specs.Prelude.{◌≡◌, ◌≢◌, ◌≤◌, ◌<◌, ◌⊎◌, ◌+◌, ◌*◌, ◌/◌, ◌%◌, ◌==◌, ◌&&◌, nat_le, if◌then◌else◌, ℕ, zero, ℤ, pos, ◌+ℤ◌, ◌-ℤ◌, nat_abs, int_lt, Bool, true, false, Option, Some, None, List, [], ◌∷◌, ◌++◌, length, reverse, FitsSigned}
use Rattle.std.specs.Int.{Width, w8, w16, w32, cast_signed, cast_unsigned}
use Rattle.span_io.specs.declared.cause.Cause.{Cause}
use Rattle.span_io.specs.declared.cause.Cause.TheVariants as causes
use Rattle.span_io.specs.Varint.{SpellsVarint, IsOverlong, varint_text}
use Rattle.span_io.specs.Zigzag.{SpellsZigzag, zigzag_text}
use Rattle.thrift_core.specs.declared.field.Field.{Field}
use Rattle.thrift_core.specs.declared.field.ListHead.{ListHead}
use Rattle.thrift_core.specs.declared.field.MapHead.{MapHead}
use Rattle.thrift_core.specs.declared.type_code.TypeCode.{TypeCode}
use Rattle.thrift_core.specs.Levels.{CountsFirst, MayStand, why_none, why_no_pair}
use Rattle.thrift_core.specs.Parts.{Part, header, truth, byte, short, int, long, eight, size, list_head, map_head, Spelling, HasLevel}
use Rattle.thrift_core.specs.Protocols.{WritingOf, last_size}
use Rattle.thrift_spellings.specs.CompactTypeCodes.{compact_code_of, compact_kind_of_code, held_by_code, field_code}

-- ---- numbers

-- a byte of any value is a number of eight bits, or a truth value, true where it is 1
abbrev pub IsByte : {A : Type 0} → (ℕ → A) → A → List ℕ → Type 0
IsByte value word (b ∷ []) = word ≡ value b
IsByte value word other = ⊥

-- a byte is the truth value true where it is 1, and false else
abbrev pub compact_is_true : ℕ → Bool
compact_is_true b = b == 1

-- a number of so many bits
abbrev pub IsSigned : Width → ℤ → List ℕ → Type 0
IsSigned w z text = SpellsZigzag text z × FitsSigned w z

-- a size is a varint of at most 2,147,483,647
abbrev pub IsCompactSize : ℕ → List ℕ → Type 0
IsCompactSize n text = SpellsVarint text n × (n ≤ last_size)

-- ---- the head of a field: its code and the difference of its id and the last in one byte, or the code and then the id

-- the code of this field's type, and of the truth value that the head holds
abbrev pub HasCode : ℕ → Field → ℕ → Type 0
HasCode left f code = (compact_kind_of_code code ≡ Some f.kind) × (held_by_code code ≡ f.held) × HasLevel left f.kind

-- the stop byte 0; or one byte, the code in its low four bits, and in the high ones by how much, from 1, the id is above the
-- last; or the code alone, and then the id as a zigzag varint. Ids have 16 bits.
abbrev pub IsCompactHeader : ℕ → ℤ → Option Field → List ℕ → Type 0
IsCompactHeader left last None (zero ∷ []) = Unit {0}
IsCompactHeader left last (Some f) (b ∷ []) =
    HasCode left f (b % 16) × (1 ≤ b / 16) × (f.id ≡ last +ℤ pos (b / 16)) × FitsSigned w16 f.id
IsCompactHeader left last (Some f) (b ∷ c ∷ id) = HasCode left f b × IsSigned w16 f.id (c ∷ id)
IsCompactHeader left last word other = ⊥

-- ---- the head of a list or set: the code of its elements' type with a size below 15, or with 15 and then the size

-- values of the elements' type may stand there, if there are any
abbrev pub IsListOf : ℕ → ListHead → ℕ → Type 0
IsListOf left head code = (head.element ≡ compact_kind_of_code code) × (1 ≤ head.size → MayStand left head.element)

-- the code is in the low four bits of the first byte, and the size in the high ones, or behind it where those are 15
abbrev pub IsCompactListHead : ℕ → ListHead → List ℕ → Type 0
IsCompactListHead left head (b ∷ []) = IsListOf left head (b % 16) × (head.size ≡ b / 16) × (head.size < 15)
IsCompactListHead left head (b ∷ c ∷ number) = IsListOf left head (b % 16) × (15 ≤ b / 16) × IsCompactSize head.size (c ∷ number)
IsCompactListHead left head [] = ⊥

-- ---- the head of a map: its size, and unless it is empty the codes of its keys' and its values' types in one byte

-- behind the size of an empty map nothing; else one byte, the keys' code in its high four bits and the values' in the low ones
abbrev pub ArePairs : ℕ → MapHead → List ℕ → Type 0
ArePairs left head [] = (head.size ≡ 0) × (head.key ≡ None) × (head.value ≡ None)
ArePairs left head (b ∷ []) =
    (1 ≤ head.size) × (head.key ≡ compact_kind_of_code (b / 16)) × (head.value ≡ compact_kind_of_code (b % 16))
    × MayStand left head.key × MayStand left head.value
ArePairs left head other = ⊥

-- the size of a map as a varint, and behind it the byte of its types, if it has any
pub record IsCompactMapHead (left : ℕ) (head : MapHead) (text : List ℕ) : Type 0 where
  pub number : List ℕ
  pub types : List ℕ
  pub parts : text ≡ number ++ types
  pub its_size : IsCompactSize head.size number
  pub its_types : ArePairs left head types

-- ---- the spellings

-- how the compact protocol spells each part: a truth value that the field's head holds has no bytes
abbrev pub compact_spells : Spelling
compact_spells (header left last) word text = IsCompactHeader left last word text
compact_spells (truth (Some held)) word text = (word ≡ held) × (text ≡ [])
compact_spells (truth None) word text = IsByte compact_is_true word text
compact_spells byte word text = IsByte (cast_signed w8) word text
compact_spells short word text = IsSigned w16 word text
compact_spells int word text = IsSigned w32 word text
compact_spells long word text = SpellsZigzag text word
compact_spells eight word text = (length text ≡ 8) × (word ≡ reverse text)
compact_spells size word text = IsCompactSize word text
compact_spells (list_head left) word text = IsCompactListHead left word text
compact_spells (map_head left) word text = IsCompactMapHead left word text

-- behind these first bytes of a part it has a varint
abbrev pub compact_then_varint : Part → List ℕ → Type 0
compact_then_varint (header left last) (b ∷ []) = (kind : TypeCode) × (compact_kind_of_code b ≡ Some kind) × HasLevel left kind
compact_then_varint (list_head left) (b ∷ []) = 15 ≤ b / 16
compact_then_varint short [] = Unit {0}
compact_then_varint int [] = Unit {0}
compact_then_varint long [] = Unit {0}
compact_then_varint size [] = Unit {0}
compact_then_varint (map_head left) [] = Unit {0}
compact_then_varint part front = ⊥

-- ---- what is refused, in the shortest front that is

-- a number that is no varint, or for this cause one outside its type
abbrev pub IsSignedRefused : Width → Cause → Cause → List ℕ → Type 0
IsSignedRefused w outside cause text =
    ((cause ≡ causes.BadVarint) × IsOverlong text) ⊎ ((cause ≡ outside) × ((z : ℤ) × SpellsZigzag text z × ¬ FitsSigned w z))

-- What speaks against a size: that it is no varint or too large, and behind what may have no elements, for this cause, that there are some.
abbrev pub CompactSizeFault : Option Cause → List ℕ → Cause → Type 0
CompactSizeFault why text cause = ((cause ≡ causes.BadVarint) × IsOverlong text)
    ⊎ (((why ≡ Some cause) × ((n : ℕ) × SpellsVarint text n × (1 ≤ n)))
    ⊎ ((cause ≡ causes.BadSize) × ((n : ℕ) × SpellsVarint text n × (last_size < n))))

-- a size is refused in these bytes, for the cause that counts first of those that speak against it
abbrev pub IsCompactSizeRefused : Option Cause → Cause → List ℕ → Type 0
IsCompactSizeRefused why cause text = CountsFirst (λ fault. CompactSizeFault why text fault) cause

-- What speaks against a field at its first byte: its type, and an id outside its type.
abbrev pub CompactFieldFault : ℕ → ℤ → ℕ → Cause → Type 0
CompactFieldFault left last b cause = (why_none left (compact_kind_of_code (b % 16)) ≡ Some cause)
    ⊎ ((cause ≡ causes.BadWire) × ¬ FitsSigned w16 (last +ℤ pos (b / 16)))

-- a field is refused at its first byte, or in an id that follows: BadVarint for no varint, BadWire for one outside an i16
abbrev pub IsCompactHeaderRefused : ℕ → ℤ → Cause → List ℕ → Type 0
IsCompactHeaderRefused left last cause (b ∷ []) = (b ≢ 0) × CountsFirst (λ fault. CompactFieldFault left last b fault) cause
IsCompactHeaderRefused left last cause (b ∷ c ∷ id) = IsSignedRefused w16 causes.BadWire cause (c ∷ id)
IsCompactHeaderRefused left last cause [] = ⊥

-- a list or set is refused at its first byte, where that has a size but 0, for a type of elements that can't stand there; else
-- in the size that follows
abbrev pub IsCompactListRefused : ℕ → Cause → List ℕ → Type 0
IsCompactListRefused left cause (b ∷ []) =
    (1 ≤ b / 16) × (b / 16 < 15) × (why_none left (compact_kind_of_code (b % 16)) ≡ Some cause)
IsCompactListRefused left cause (b ∷ c ∷ number) =
    IsCompactSizeRefused (why_none left (compact_kind_of_code (b % 16))) cause (c ∷ number)
IsCompactListRefused left cause [] = ⊥

-- the size first, and then the byte of types behind one that isn't 0
pub record ArePairsRefused (left : ℕ) (cause : Cause) (text : List ℕ) : Type 0 where
  pub number : List ℕ
  pub types : ℕ
  pub many : ℕ
  pub parts : text ≡ number ++ types ∷ []
  pub its_size : IsCompactSize many number
  pub why : why_no_pair left (compact_kind_of_code (types / 16)) (compact_kind_of_code (types % 16)) ≡ Some cause

-- a map is refused in its size, or at the byte of its types, if one can't stand there
abbrev pub IsCompactMapRefused : ℕ → Cause → List ℕ → Type 0
IsCompactMapRefused left cause text = IsCompactSizeRefused None cause text ⊎ ArePairsRefused left cause text

-- what refuses each part: truth values, numbers of one byte and doubles never are refused
abbrev pub compact_refuses : Part → Cause → List ℕ → Type 0
compact_refuses (header left last) cause front = IsCompactHeaderRefused left last cause front
compact_refuses short cause front = IsSignedRefused w16 causes.BadVarint cause front
compact_refuses int cause front = IsSignedRefused w32 causes.BadVarint cause front
compact_refuses long cause front = (cause ≡ causes.BadVarint) × IsOverlong front
compact_refuses size cause front = IsCompactSizeRefused None cause front
compact_refuses (list_head left) cause front = IsCompactListRefused left cause front
compact_refuses (map_head left) cause front = IsCompactMapRefused left cause front
compact_refuses other cause front = ⊥

-- ---- writing

-- the head of a field keeps its truth value
abbrev pub compact_keeps : Option Bool → Option Bool
compact_keeps given = given

-- how much higher than the last an id is, where one byte tells it
abbrev pub is_near : ℤ → ℤ → Bool
is_near last id = int_lt last id && nat_le (nat_abs (id -ℤ last)) 15

-- an id from 1 to 15 above the last is written in one byte with the code, any other as a zigzag varint behind the code
abbrev pub field_id_text : ℤ → ℤ → ℕ → List ℕ
field_id_text last id code = if is_near last id then (nat_abs (id -ℤ last) * 16 + code) ∷ [] else code ∷ zigzag_text id

-- the head of a field is its code, which says the truth value too, and its id; the stop byte is 0
abbrev pub compact_header_text : ℤ → Option Field → List ℕ
compact_header_text last None = 0 ∷ []
compact_header_text last (Some f) = field_id_text last f.id (field_code f.kind f.held)

-- a truth value is the byte 1 or 0; nothing is written of one that the field's head holds
abbrev pub compact_truth_text : Option Bool → Bool → List ℕ
compact_truth_text (Some held) word = []
compact_truth_text None true = 1 ∷ []
compact_truth_text None false = 0 ∷ []

-- a type that an empty list or map lacks is written as 0
abbrev pub compact_element_code : Option TypeCode → ℕ
compact_element_code None = 0
compact_element_code (Some kind) = compact_code_of kind

-- the head of a list or set is one byte for sizes up to 14; else its high four bits are 15, and the size follows as a varint
abbrev pub list_head_text : ListHead → List ℕ
list_head_text head = if nat_le head.size 14 then (head.size * 16 + compact_element_code head.element) ∷ []
    else (240 + compact_element_code head.element) ∷ varint_text head.size

-- the head of an empty map is the byte 0, of another its size as a varint and the byte of its types
abbrev pub map_text : MapHead → List ℕ
map_text head =
    if head.size == 0 then 0 ∷ [] else varint_text head.size
    ++ (compact_element_code head.key * 16 + compact_element_code head.value) ∷ []

-- what a writer of the compact protocol appends for each part
abbrev pub compact_writes : WritingOf
compact_writes (header left last) word = compact_header_text last word
compact_writes (truth held) word = compact_truth_text held word
compact_writes byte word = cast_unsigned w8 word ∷ []
compact_writes short word = zigzag_text word
compact_writes int word = zigzag_text word
compact_writes long word = zigzag_text word
compact_writes eight word = reverse word
compact_writes size word = varint_text word
compact_writes (list_head left) word = list_head_text word
compact_writes (map_head left) word = map_text word
