-- The words of a text, and the bytes that they spell.
use Rattle.std.specs.Prelude.{◌≡◌, ℕ, Bool, Option, Some, List, [], ◌∷◌, ◌++◌, ◌-◌, ◌==◌, ◌&&◌, ◌||◌, nat_lt, if◌then◌else◌, length, slice_index, slice_range}
use Rattle.std.specs.List.{before_first, after_first}
use Rattle.std.specs.Option.{option_and_then}
use Rattle.std.specs.Result.{result_ok}
use Rattle.hex.specs.Hex.{decode_of}
use Rattle.row_tables.specs.Parts.{is_blank, parts_of}
use Rattle.row_tables.specs.declared.words.Words.{Words}

-- the text that is left behind the words that were taken
abbrev pub words_left : Words → List ℕ
words_left words = words.rest.now

-- ` =>`
abbrev pub arrow : List ℕ
arrow = 32 ∷ 61 ∷ 62 ∷ []

-- a text without the blank at its front, if it has one
abbrev pub without_blank : List ℕ → List ℕ
without_blank text = if length (before_first is_blank text) == 0 then after_first is_blank text else text

-- a row is what is given, a mark and what is wanted, which a blank may stand before
abbrev pub StandsRound : List ℕ → List ℕ → List ℕ → List ℕ → Type 0
StandsRound mark given wanted row = (behind : List ℕ) × (row ≡ given ++ (mark ++ behind)) × (wanted ≡ without_blank behind)

-- a blank or a newline
abbrev pub is_space : ℕ → Bool
is_space b = (b == 32) || (b == 10)

-- whether a word stands in single quotes
abbrev pub is_quoted : List ℕ → Bool
is_quoted word = nat_lt 1 (length word) && (slice_index word 0 == 39) && (slice_index word (length word - 1) == 39)

-- the bytes that a word spells: those in its quotes, or those of its hexadecimal digits
abbrev pub bytes_of_word : List ℕ → Option (List ℕ)
bytes_of_word word = if is_quoted word then Some (slice_range word 1 (length word - 1)) else result_ok (decode_of word)

-- these bytes, and behind them those that words spell
abbrev pub with_words : List ℕ → List (List ℕ) → Option (List ℕ)
with_words bytes [] = Some bytes
with_words bytes (word ∷ words) = option_and_then (λ more. with_words (bytes ++ more) words) (bytes_of_word word)

-- these bytes, and behind them those that a text spells, if each of its words spells some; blanks and newlines part words
abbrev pub with_spelled : List ℕ → List ℕ → Option (List ℕ)
with_spelled bytes text = with_words bytes (parts_of is_space text)
