-- What is known of varints, said of the numbers of the reading functions.
use Rattle.std.proofs.Common.{◌≡◌, ◌++◌, ℕ, List, Result, Ok, Err, refl, ap}
use Rattle.span_io.specs.declared.cause.Cause.{Cause}
use Rattle.span_io.specs.declared.cause.Cause.TheVariants as causes
use Rattle.span_io.specs.declared.cursor.Lack.{Lack}
use Rattle.span_io.specs.declared.cursor.Lack.TheVariants as lacks
use Rattle.span_io.specs.Varint.{SpellsVarint, BeginsVarint, IsInsideVarint, IsOverlong, BeginsOverlong, varint_at}
use Rattle.span_io.specs.VarintLaws.{VarintLaws}
use Rattle.proto_wire.specs.Reading.{with_cause, number_at}

-- what stands where a number was looked for
abbrev pub NumberIs : List ℕ → Result (ℕ × List ℕ) Cause → Type 0
NumberIs text (Ok x) = BeginsVarint x.0 text x.1
NumberIs text (Err causes.Truncated) = IsInsideVarint text
NumberIs text (Err causes.BadVarint) = BeginsOverlong text
NumberIs text (Err other) = ⊥

module _ (L : VarintLaws) where
  number_cases : (text : List ℕ) (r : Result (ℕ × List ℕ) Lack) → varint_at text ≡ r → NumberIs text (with_cause r)
  number_cases text (Ok x) e = L.found x.0 text x.1 e
  number_cases text (Err lacks.Short) e = (L.short text).0 e
  number_cases text (Err lacks.BadVarint) e = (L.bad text).0 e

  pub number_is : (text : List ℕ) → NumberIs text (number_at text)
  number_is text = number_cases text (varint_at text) refl

  pub number_read : (n : ℕ) (text rest : List ℕ) → SpellsVarint text n → number_at (text ++ rest) ≡ Ok (n, rest)
  number_read n text rest h = ap with_cause (L.read n (text ++ rest) rest (record { text = text; spelled = h; parts = refl }))

  pub number_short : (text : List ℕ) → IsInsideVarint text → number_at text ≡ Err causes.Truncated
  number_short text h = ap with_cause ((L.short text).1 h)

  pub number_bad : (text rest : List ℕ) → IsOverlong text → number_at (text ++ rest) ≡ Err causes.BadVarint
  number_bad text rest h = ap with_cause ((L.bad (text ++ rest)).1 (record { text = text; others = rest; overlong = h; parts = refl }))
