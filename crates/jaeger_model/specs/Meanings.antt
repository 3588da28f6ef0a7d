-- What a field of jaeger.thrift means by what it holds.
use Rattle.std.specs.Prelude.{◌≡◌, ◌≤◌, ℕ, ℤ, pos, List}
use Rattle.span_ids.specs.Times.{nanos, last_micros}
use Rattle.span_io.specs.Tables.{Singular}

-- a required field stands once
abbrev pub Required : {A B : Type 0} → (A → B → Type 0) → List A → B → Type 0
Required Means held value = Singular Means (λ x. ⊥) held value

-- the value itself
abbrev pub Means : {A : Type 0} → A → A → Type 0
Means held value = value ≡ held

-- microseconds, as nanoseconds
abbrev pub MeansTime : ℤ → ℕ → Type 0
MeansTime held nanoseconds = (micros : ℕ) × (held ≡ pos micros) × (micros ≤ last_micros) × (nanoseconds ≡ nanos micros)

-- an enum, by the number of each of its values
abbrev pub MeansEnum : {E : Type 0} → (E → ℕ) → ℤ → E → Type 0
MeansEnum number_of held value = held ≡ pos (number_of value)
