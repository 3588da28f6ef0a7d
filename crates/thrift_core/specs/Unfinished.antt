-- How many bytes a part may have that isn't whole yet: fewer than a whole one, or less than a varint behind its first bytes.
use Rattle.std.proofs.Common.{◌≢◌, ◌≤◌, ◌+◌, ◌++◌, ◌∷◌, inl, inr, ℕ, suc, List, [], length, refl, ap, arith}
use Rattle.std.proofs.lemmas.List.{length-append}
use Rattle.span_io.specs.declared.cause.Cause.{Cause}
use Rattle.span_io.specs.Frames.{IsOpen}
use Rattle.thrift_core.specs.Parts.{Part, WordOf, Spelling, texts_of}
use Rattle.thrift_core.specs.Reading.{ReadingOf}
use Rattle.thrift_core.specs.Protocols.{ReadsExactly, UnfinishedWithin}

-- no spelling has more bytes
abbrev pub SpellsWithinBytes : Spelling → ℕ → Type 0
SpellsWithinBytes Spells most = (part : Part) (word : WordOf part) (text : List ℕ) → Spells part word text → length text ≤ most

-- where a varint follows, its first nine bytes end within so many
abbrev pub VarintsWithin : (Part → List ℕ → Type 0) → ℕ → Type 0
VarintsWithin ThenVarint most = (part : Part) (front : List ℕ) → ThenVarint part front → length front + 9 ≤ most

some_bytes : (more : List ℕ) → more ≢ [] → 1 ≤ length more
some_bytes [] some = absurd (some refl)
some_bytes (b ∷ more) some = omega arith

module _ (Spells : Spelling) (ThenVarint : Part → List ℕ → Type 0) (most : ℕ) (spelled : SpellsWithinBytes Spells (suc most))
    (varints : VarintsWithin ThenVarint most) where
  open_within : (part : Part) (bytes : List ℕ) → IsOpen (texts_of Spells ThenVarint part) bytes → length bytes ≤ most
  open_within part bytes (inl h) =
      omega (arith, spelled part h.whole.0 (bytes ++ h.more) h.whole.1, length-append bytes h.more, some_bytes h.more h.some)
  open_within part bytes (inr h) =
      omega (arith, varints part h.front h.then_varint, ap length h.parts, length-append h.front h.inside, h.unended.short)

  -- within the two bounds above, a part that is read exactly and isn't whole yet has at most `most` bytes
  pub unfinished_within : (reads : ReadingOf) (Refuses : Part → Cause → List ℕ → Type 0)
      → ReadsExactly Spells reads ThenVarint Refuses → UnfinishedWithin most reads
  unfinished_within reads Refuses exactly part bytes e = open_within part bytes ((exactly.short part bytes).0 e)
