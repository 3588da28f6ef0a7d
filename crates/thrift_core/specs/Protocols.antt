-- What a protocol keeps: how its parts are read, refused, completed and written.
use Rattle.std.specs.Prelude.{◌≡◌, ◌≢◌, ◌≤◌, ◌<◌, ◌<ℤ◌, ◌↔◌, ◌⊎◌, ◌^◌, ℕ, ℤ, Bool, Option, Some, None, List, [], All, length, Ok, Err, FitsSigned}
use Rattle.std.specs.Int.{w8, w16, w32, w64, cast_unsigned}
use Rattle.span_io.specs.declared.cause.Cause.{Cause}
use Rattle.span_io.specs.declared.cause.Cause.TheVariants as causes
use Rattle.span_io.specs.Frames.{AreBytes, IsOpen, IsProperFront, IsRefused, IsRefusedAt}
use Rattle.thrift_core.specs.declared.field.Field.{Field}
use Rattle.thrift_core.specs.declared.field.ListHead.{ListHead}
use Rattle.thrift_core.specs.declared.field.MapHead.{MapHead}
use Rattle.thrift_core.specs.declared.type_code.TypeCode.{TypeCode}
use Rattle.thrift_core.specs.declared.type_code.TypeCode.TheVariants as kinds
use Rattle.thrift_core.specs.Levels.{RefusesPart}
use Rattle.thrift_core.specs.Parts.{Part, header, truth, byte, short, int, long, eight, size, list_head, map_head, WordOf, Spelling, Begins, HasLevel, texts_of}
use Rattle.thrift_core.specs.Reading.{ReadingOf}

-- Each reader answers exactly: a word where a spelling of it stands there, Truncated where the bytes are open as that part, else the
-- cause that refuses them.
pub record ReadsExactly (Spells : Spelling) (reads : ReadingOf) (ThenVarint : Part → List ℕ → Type 0)
    (Refuses : Part → Cause → List ℕ → Type 0) : Type 0 where
  pub found : (part : Part) (word : WordOf part) (bytes rest : List ℕ) → reads part bytes ≡ Ok (word, rest)
      → Begins Spells part word bytes rest
  pub only : (part : Part) (word : WordOf part) (bytes rest : List ℕ) → Begins Spells part word bytes rest
      → reads part bytes ≡ Ok (word, rest)
  pub short : (part : Part) (bytes : List ℕ)
      → (reads part bytes ≡ Err causes.Truncated) ↔ IsOpen (texts_of Spells ThenVarint part) bytes
  pub bad : (part : Part) (bytes : List ℕ) (cause : Cause) → cause ≢ causes.Truncated
      → (reads part bytes ≡ Err cause) ↔ IsRefusedAt (texts_of Spells ThenVarint part) (Refuses part cause) bytes
  -- there is no other cause
  pub refused_for : (part : Part) (bytes : List ℕ) (cause : Cause) → reads part bytes ≡ Err cause
      → (cause ≡ causes.Truncated) ⊎ RefusesPart cause

-- A part that isn't whole yet has at most so many bytes.
abbrev pub UnfinishedWithin : ℕ → ReadingOf → Type 0
UnfinishedWithin most reads = (part : Part) (bytes : List ℕ) → reads part bytes ≡ Err causes.Truncated → length bytes ≤ most

-- how many in every protocol
abbrev pub most_unfinished : ℕ
most_unfinished = 10

-- every part but a truth value that is held already
abbrev pub HasBytes : Part → Type 0
HasBytes (truth (Some b)) = ⊥
HasBytes other = Unit {0}

-- a spelling of the word in bytes
pub record SpelledInBytes (Spells : Spelling) (part : Part) (word : WordOf part) : Type 0 where
  pub text : List ℕ
  pub are_bytes : AreBytes text
  pub spelled : Spells part word text

-- What words stand where, and that each part can be spelled.
pub record PartLaws (Spells : Spelling) (ThenVarint : Part → List ℕ → Type 0) (Refuses : Part → Cause → List ℕ → Type 0)
    : Type 0 where
  pub some : (part : Part) (word : WordOf part) (text : List ℕ) → HasBytes part → Spells part word text → text ≢ []
  -- what a head opens has a level, and a list or map that isn't empty has its types
  pub field_level : (left : ℕ) (last : ℤ) (f : Field) (text : List ℕ) → Spells (header left last) (Some f) text
      → HasLevel left f.kind
  pub list_level : (left : ℕ) (head : ListHead) (text : List ℕ) → Spells (list_head left) head text → 1 ≤ head.size
      → (kind : TypeCode) × (head.element ≡ Some kind) × HasLevel left kind
  pub map_level : (left : ℕ) (head : MapHead) (text : List ℕ) → Spells (map_head left) head text → 1 ≤ head.size
      → (key : TypeCode) × (value : TypeCode) × (head.key ≡ Some key) × (head.value ≡ Some value) × HasLevel left key × HasLevel left value
  -- behind the front of a part that a varint follows the part isn't whole
  pub varint_front : (part : Part) (front : List ℕ) → ThenVarint part front
      → IsProperFront (texts_of Spells ThenVarint part) front
  -- what refuses a part has one cause, of these
  pub refused_by : (part : Part) (bytes : List ℕ) (cause : Cause) → Refuses part cause bytes → RefusesPart cause
  pub one_cause : (part : Part) (bytes : List ℕ) (a b : Cause) → IsRefused (texts_of Spells ThenVarint part) bytes
      → Refuses part a bytes → Refuses part b bytes → a ≡ b
  -- each part can be spelled, and what opens others so that it opens nothing
  pub spellable : (part : Part) → (word : WordOf part) × SpelledInBytes Spells part word
  pub stop : (left : ℕ) (last : ℤ) → SpelledInBytes Spells (header left last) None
  pub no_bytes : SpelledInBytes Spells size 0
  pub empty_list : (left : ℕ) → (head : ListHead) × SpelledInBytes Spells (list_head left) head × (head.size ≡ 0)
  pub empty_map : (left : ℕ) → (head : MapHead) × SpelledInBytes Spells (map_head left) head × (head.size ≡ 0)

-- a number of 64 bits
abbrev pub IsProperLong : ℤ → Type 0
IsProperLong n = FitsSigned w64 n × (cast_unsigned w64 n < 2 ^ 64)

-- what bytes spell has the bits of its type
pub record SpellsProper (Spells : Spelling) : Type 0 where
  pub int : (n : ℤ) (text : List ℕ) → AreBytes text → Spells int n text → FitsSigned w32 n
  pub long : (n : ℤ) (text : List ℕ) → AreBytes text → Spells long n text → IsProperLong n
  pub eight : (bytes text : List ℕ) → AreBytes text → Spells eight bytes text → (length bytes ≡ 8) × AreBytes bytes

-- ---- writing

-- what a writer appends for a word
abbrev pub WritingOf : Type 0
WritingOf = (part : Part) → WordOf part → List ℕ

-- a truth value is given exactly where the type is that of one
abbrev pub IsGiven : TypeCode → Option Bool → Type 0
IsGiven kinds.Truth (Some b) = Unit {0}
IsGiven kinds.Truth None = ⊥
IsGiven other (Some b) = ⊥
IsGiven other None = Unit {0}

-- the head of a field that is written, which keeps of a truth value what the protocol keeps
abbrev pub field_head : (Option Bool → Option Bool) → ℤ → TypeCode → Option Bool → Option Field
field_head keeps id kind given = Some (record { id = id; kind = kind; held = keeps given })

-- the head of a list that is written
abbrev pub list_of_type : TypeCode → ℕ → ListHead
list_of_type element many = record { element = Some element; size = many }

-- the largest size of a binary, list, set or map
abbrev pub last_size : ℕ
last_size = 2147483647

-- A word that may be written: fields stand by rising id, and `keeps` says what the head of a field keeps of a truth value.
abbrev pub MayWrite : (Option Bool → Option Bool) → (part : Part) → WordOf part → Type 0
MayWrite keeps (header left last) None = Unit {0}
MayWrite keeps (header left last) (Some f) =
    (last <ℤ f.id) × FitsSigned w16 f.id × HasLevel left f.kind × (given : Option Bool) × IsGiven f.kind given × (f.held ≡ keeps given)
MayWrite keeps (truth held) word = held ≡ keeps (Some word)
MayWrite keeps byte word = FitsSigned w8 word
MayWrite keeps short word = FitsSigned w16 word
MayWrite keeps int word = FitsSigned w32 word
MayWrite keeps long word = FitsSigned w64 word
MayWrite keeps eight word = (length word ≡ 8) × All (λ b. b < 256) word
MayWrite keeps size word = word ≤ last_size
MayWrite keeps (list_head left) head =
    (kind : TypeCode) × (head.element ≡ Some kind) × (head.size ≤ last_size) × (1 ≤ head.size → HasLevel left kind)
MayWrite keeps (map_head left) head = ⊥

-- What is written is a spelling, and none is shorter.
pub record WritesShortest (Spells : Spelling) (keeps : Option Bool → Option Bool) (writes : WritingOf) : Type 0 where
  pub spelled : (part : Part) (word : WordOf part) → MayWrite keeps part word → Spells part word (writes part word)
  pub shortest : (part : Part) (word : WordOf part) (text : List ℕ) → MayWrite keeps part word → All (λ b. b < 256) text
      → Spells part word text
      → length (writes part word) ≤ length text
