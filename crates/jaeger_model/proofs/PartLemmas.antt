-- Parts that are known to stand somewhere.
use Rattle.std.proofs.Common.{◌≡◌, ◌≤◌, ℕ, List, length, Result, Ok, Err, OnErr, sym, ap, ◌∙◌, arith}
use Rattle.std.specs.Borrow.{Bor}
use Rattle.std.specs.Result.{result_unwrap_or}
use Rattle.std.proofs.lemmas.List.{length-append}
use Rattle.span_io.specs.declared.cause.Cause.{Cause}
use Rattle.span_io.specs.Walks.{Walk}
use Rattle.thrift_core.specs.Parts.{Part, WordOf, Spelling, Begins}
use Rattle.thrift_core.specs.Protocols.{ReadsExactly}
use Rattle.thrift_core.specs.Reading.{ReadingOf, GivesWord, IsLent}

pub taken : {A E : Type 0} (read : Result A E) (word dummy value : A) → value ≡ result_unwrap_or read dummy → read ≡ Ok word → value ≡ word
taken read word dummy value e f = e ∙ ap (λ r. result_unwrap_or r dummy) f

pub begins_shorter : (Spells : Spelling) (part : Part) (word : WordOf part) (whole rest : List ℕ) → Begins Spells part word whole rest → length rest ≤ length whole
begins_shorter Spells part word whole rest h = omega (arith, ap length h.parts, length-append h.text rest)

module _ (Spells : Spelling) (reads : ReadingOf) (ThenVarint : Part → List ℕ → Type 0) (Refuses : Part → Cause → List ℕ → Type 0) (R : ReadsExactly Spells reads ThenVarint Refuses) where
  -- what a reader answers of a part that stands there
  pub part_sure : (part : Part) (read : Result (WordOf part) Cause) (whole new : List ℕ) → GivesWord read new (reads part whole) → (word : WordOf part) (rest : List ℕ) → Begins Spells part word whole rest
      → (read ≡ Ok word) × (new ≡ rest)
  part_sure part (Ok found) whole new gives word rest begins =
      let both : ◌≡◌ {A = Result (WordOf part × List ℕ) Cause} (Ok (found, new)) (Ok (word, rest)) = sym gives ∙ R.only part word whole rest begins in
      let pair : ◌≡◌ {A = WordOf part × List ℕ} (found, new) (word, rest) = cc in
      (λ i. Ok (pair i).0, λ i. (pair i).1)
  part_sure part (Err cause) whole new gives word rest begins =
      let both : ◌≡◌ {A = Result (WordOf part × List ℕ) Cause} (Err cause) (Ok (word, rest)) = sym gives ∙ R.only part word whole rest begins in absurd (cc)

  pub part_shorter : (part : Part) (read : Result (WordOf part) Cause) (old new : Walk) → GivesWord read new.rest (reads part old.rest) → OnErr read (new ≡ old) → length new.rest ≤ length old.rest
  part_shorter part (Ok found) old new gives kept = begins_shorter Spells part found old.rest new.rest (R.found part found old.rest new.rest gives)
  part_shorter part (Err cause) old new gives kept = omega (arith, ap (λ (w : Walk). length w.rest) kept)

-- what is lent of a binary that stands there
pub lent_taken : (read : Result (Bor (List ℕ)) Cause) (dummy value : Bor (List ℕ)) (held : List ℕ) → value ≡ result_unwrap_or read dummy → IsLent read held → value.now ≡ held
lent_taken (Ok lent) dummy value held e is = ap (λ (b : Bor (List ℕ)). b.now) e ∙ is
lent_taken (Err e) dummy value held same is = absurd is
