-- The bytes of a text of JSON (RFC 8259), and what offends in them, over what offends in the value.
use Rattle.std.specs.Prelude.{◌≡◌, ◌⊎◌, ℕ, List, [], Some, IsUtf8}
use Rattle.json_nodes.specs.declared.unread.Unread.{Unread}
use Rattle.json_nodes.specs.declared.unread.Unread.TheVariants as whys
use Rattle.serde_json.specs.Data.{Data}
use Rattle.serde_json.specs.Read.{read}
use Rattle.span_io.specs.declared.cause.Cause.TheVariants as causes
use Rattle.span_io.specs.declared.halt.Halt.{Halt}
use Rattle.span_io.specs.declared.halt.Halt.TheVariants as halts
use Rattle.span_io.specs.declared.refusal.Refusal.{Refusal}
use Rattle.span_io.specs.Paths.{Offences}

-- the bytes are a text of this value
pub record IsJsonText (d : Data) (bytes : List ℕ) : Type 0 where
  pub utf8 : IsUtf8 bytes
  pub reading : read bytes ≡ Some d

-- BadJson: the bytes are no text of a value; else what offends in the value
pub record BadJson (bytes path : List ℕ) (number : ℕ) : Type 0 where
  pub whole : path ≡ []
  pub bad : number ≡ 10
  pub none : (d : Data) → ¬ IsJsonText d bytes

-- the bytes are a text of a value, in which this offends
pub record InValue (Offends : Data → Offences) (bytes path : List ℕ) (number : ℕ) : Type 0 where
  pub value : Data
  pub is_text : IsJsonText value bytes
  pub offends : Offends value path number

-- what offends in the bytes of a whole text: BadJson, or what offends in its value
abbrev pub document_offends : (Data → Offences) → List ℕ → Offences
document_offends Offends bytes path number = BadJson bytes path number ⊎ InValue Offends bytes path number

-- what is answered of bytes that gave no value
abbrev pub IsUnread : Unread → Halt Refusal → Type 0
IsUnread why (halts.Why refusal) = (why ≡ whys.BadJson) × (refusal ≡ record { unit = 0; cause = causes.BadJson })
IsUnread why halts.OutOfMemory = why ≡ whys.OutOfMemory
