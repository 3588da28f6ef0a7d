-- How the offence that counts in an object is found, part by part.
use Rattle.std.proofs.Common.{◌≡◌, ℕ, zero, suc, List, [], ◌∷◌, true, is_some}
use Rattle.serde_json.specs.Data.{Data}
use Rattle.serde_json.specs.Find.{as_object}
use Rattle.span_io.specs.declared.cause.Cause.{Cause}
use Rattle.span_io.specs.declared.halt.Halt.{Halt}
use Rattle.span_io.specs.Paths.{Offences, NothingOffends, Quiet, Halts}
use Rattle.span_io.proofs.PathLaws.{clean_nothing, clean_parts, quiet_nothing, quiet_parts, halts_first, halts_later, clean_valued, halts_valued}
use Rattle.json_members.specs.Parts.{joined, part, AreClean, object_offends, IsReading}

pub quiet_joined : (parts : List Offences) → Quiet (joined parts)
quiet_joined [] = quiet_nothing
quiet_joined (First ∷ more) = quiet_parts First (joined more) (quiet_joined more)

one_more : (number : ℕ) (parts : List Offences) → AreClean number parts → NothingOffends (part number parts)
    → AreClean (suc number) parts
one_more number [] clean next = tt
one_more zero (First ∷ more) clean next = (next, tt)
one_more (suc number) (First ∷ more) clean next = (clean.0, one_more number more clean.1 next)

halts_at_part : (halt : Halt Cause) (number : ℕ) (parts : List Offences) → AreClean number parts → Halts halt (part number parts)
    → Halts halt (joined parts)
halts_at_part halt number [] clean h = h
halts_at_part halt zero (First ∷ more) clean h = halts_first halt First (joined more) (quiet_joined more) h
halts_at_part halt (suc number) (First ∷ more) clean h =
    halts_later halt First (joined more) clean.0 (halts_at_part halt number more clean.1 h)

-- this number is behind the last part
abbrev pub IsBehind : ℕ → List Offences → Type 0
IsBehind number [] = Unit {0}
IsBehind zero (First ∷ more) = ⊥
IsBehind (suc number) (First ∷ more) = IsBehind number more

all_clean : (number : ℕ) (parts : List Offences) → IsBehind number parts → AreClean number parts → NothingOffends (joined parts)
all_clean number [] behind clean = clean_nothing
all_clean zero (First ∷ more) behind clean = absurd behind
all_clean (suc number) (First ∷ more) behind clean =
    clean_parts First (joined more) clean.0 (all_clean number more behind clean.1)

-- ---- what a reader of an object knows

module _ (Parts : Data → List Offences) (d : Data) where
  pub reading_begins : is_some (as_object d) ≡ true → IsReading Parts d 0
  reading_begins shape = record { shape = shape; clean = tt }

  pub reading_goes_on : (number : ℕ) → IsReading Parts d number → NothingOffends (part number (Parts d))
      → IsReading Parts d (suc number)
  reading_goes_on number before next = record { shape = before.shape; clean = one_more number (Parts d) before.clean next }

  pub reading_stops : (halt : Halt Cause) (number : ℕ) → IsReading Parts d number → Halts halt (part number (Parts d))
      → Halts halt (object_offends Parts d)
  reading_stops halt number before h =
      halts_valued halt (joined (Parts d)) (as_object d) before.shape (halts_at_part halt number (Parts d) before.clean h)

  pub reading_ends : (number : ℕ) → IsReading Parts d number → IsBehind number (Parts d) → NothingOffends (object_offends Parts d)
  reading_ends number before behind =
      clean_valued (joined (Parts d)) (as_object d) before.shape (all_clean number (Parts d) behind before.clean)

pub ruleset reading = (reading_begins, reading_goes_on, reading_stops, reading_ends)
