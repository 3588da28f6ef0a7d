-- Words and their texts.
use Rattle.std.proofs.Common.{◌≡◌, ℕ, zero, suc, ◌<◌, List, [], ◌∷◌, length, get_or, Option, Some, String, Global, refl, sym, ap, arith}
use Rattle.std.specs.Prelude.{slice_get, string_bytes}
use Rattle.std.proofs.lemmas.List.{length-map}
use Rattle.span_notes.specs.Pairs.{HasOption, texts}

-- the word that stands at a place
pub word_at : (words : List (String Global)) (i : ℕ) (w : String Global) → i < length words → w ≡ get_or words i w
    → slice_get (texts words) i ≡ Some (string_bytes w)
word_at [] i w within here = absurd (omega arith)
word_at (v ∷ words) zero w within here = ap (λ (s : String Global). Some (string_bytes s)) (sym here)
word_at (v ∷ words) (suc i) w within here = word_at words i w (omega arith) here

pub one_word : (a b : List ℕ) → ◌≡◌ {A = Option (List ℕ)} (Some a) (Some b) → a ≡ b
one_word a b e = cc

-- as many words as texts
pub same_number : (words : List (String Global)) → length (texts words) ≡ length words
same_number words = length-map words string_bytes

-- a list has a word at each of its places, and at no other
pub word_there : (t : List (List ℕ)) (i : ℕ) → i < length t → (word : List ℕ) × (slice_get t i ≡ Some word)
word_there [] i within = absurd (omega arith)
word_there (w ∷ t) zero within = (w, refl)
word_there (w ∷ t) (suc i) within = word_there t i (omega arith)

pub there_within : (t : List (List ℕ)) (i : ℕ) (word : List ℕ) → slice_get t i ≡ Some word → i < length t
there_within [] i word there = cc
there_within (w ∷ t) zero word there = omega arith
there_within (w ∷ t) (suc i) word there = let within = there_within t i word there in omega (arith, within)

-- the place of an option's word is one of the words
pub place_within : (words : List (String Global)) (first : ℕ) (option : List ℕ) (place : ℕ) (word : List ℕ) → HasOption (texts words) first option place word
    → place < length words
place_within words first option place word has =
    let within = there_within (texts words) place word has.is_pair.is_word in omega (arith, within, same_number words)
