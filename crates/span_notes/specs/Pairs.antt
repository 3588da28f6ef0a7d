-- Words in pairs: options, each with its word behind it, each once, in any order.
use Rattle.std.specs.Prelude.{◌≡◌, ◌≤◌, ℕ, ◌+◌, List, Some, map, slice_get, decimal, String, string_bytes}
use Rattle.std.specs.declared.alloc.Global.{Global}
use Rattle.span_io.specs.Forms.{form_word}
use Rattle.span_io.specs.declared.form.Form.{Form}

-- the bytes of each word
abbrev pub texts : List (String Global) → List (List ℕ)
texts words = map string_bytes words

-- the word is the decimal of a number of 32 bits, without leading zeros
pub record IsDecimal (word : List ℕ) (number : ℕ) : Type 0 where
  pub is : word ≡ decimal number
  pub most : number ≤ 4294967295

-- ---- pairs that begin at the place `first`

-- one of them is this option, and this word at this place behind it
pub record IsPair (words : List (List ℕ)) (first : ℕ) (option : List ℕ) (place : ℕ) (word : List ℕ) : Type 0 where
  pub before : ℕ
  pub is_place : place ≡ first + before + before + 1
  pub is_option : slice_get words (first + before + before) ≡ Some option
  pub is_word : slice_get words place ≡ Some word

-- one alone is, whatever the word
pub record HasOption (words : List (List ℕ)) (first : ℕ) (option : List ℕ) (place : ℕ) (word : List ℕ) : Type 0 where
  pub is_pair : IsPair words first option place word
  pub once : (other : ℕ) (its : List ℕ) → IsPair words first option other its → other ≡ place

-- this place has the word of the option
abbrev pub PlaceStands : List (List ℕ) → ℕ → List ℕ → ℕ → Type 0
PlaceStands words first option place = (word : List ℕ) × HasOption words first option place word

-- the word of the option names this form
abbrev pub FormStands : List (List ℕ) → ℕ → List ℕ → Form → Type 0
FormStands words first option form = (place : ℕ) × HasOption words first option place (form_word form)

-- the word of the option is the decimal of this number, which isn't 0
pub record CountStands (words : List (List ℕ)) (first : ℕ) (option : List ℕ) (count : ℕ) : Type 0 where
  pub place : ℕ
  pub has : HasOption words first option place (decimal count)
  pub some : 1 ≤ count
  pub most : count ≤ 4294967295
