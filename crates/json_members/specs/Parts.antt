-- An object as the parts that its members are: how each of them offends, in the order in which their offences count. A reader goes through
-- the parts in that order.
use Rattle.std.specs.Prelude.{◌≡◌, ℕ, zero, suc, List, [], ◌∷◌, true, is_some}
use Rattle.serde_json.specs.Data.{Data}
use Rattle.serde_json.specs.Find.{as_object}
use Rattle.span_io.specs.Paths.{Offences, nothing, ◌▹◌, valued, NothingOffends}

-- the parts, one behind the other
abbrev pub joined : List Offences → Offences
joined [] = nothing
joined (First ∷ more) = First ▹ joined more

-- the part of this number, counted from 0; behind the last nothing offends
abbrev pub part : ℕ → List Offences → Offences
part number [] = nothing
part zero (First ∷ more) = First
part (suc number) (First ∷ more) = part number more

-- the first parts, so many, don't offend
abbrev pub AreClean : ℕ → List Offences → Type 0
AreClean zero parts = Unit {0}
AreClean (suc number) [] = Unit {0}
AreClean (suc number) (First ∷ more) = NothingOffends First × AreClean number more

-- BadShape: no object; else what offends in its parts
abbrev pub object_offends : (Data → List Offences) → Data → Offences
object_offends Parts d = valued (λ members. joined (Parts d)) (as_object d)

-- an object is read up to the part of this number
pub record IsReading (Parts : Data → List Offences) (d : Data) (number : ℕ) : Type 0 where
  pub shape : is_some (as_object d) ≡ true
  pub clean : AreClean number (Parts d)
