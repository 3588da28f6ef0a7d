-- Rows of the tables of jaeger.thrift: which fields belong to a row, by id and type, what they mean, and how they offend. A field whose id
-- and type are of no row is passed over.
use Rattle.std.specs.Prelude.{◌≡◌, ℕ, ◌<◌, ◌⊎◌, ℤ, pos, negsuc, Bool, List, [], ◌∷◌}
use Rattle.std.specs.List.{flat_map}
use Rattle.span_ids.specs.Times.{last_micros}
use Rattle.span_io.specs.Tables.{Row, Singular, Twice, MeansText, NotText, nothing_inside}
use Rattle.thrift_core.specs.FieldValues.{of_id, truth_in, i32_in, i64_in, double_in, binary_in}
use Rattle.thrift_core.specs.Messages.{FieldItem}
use Rattle.thrift_core.specs.Trees.{Tree}
use Rattle.jaeger_model.specs.Meanings.{Means, MeansTime, MeansEnum}

-- what a field gives to the row of this id
abbrev pub given_to : {A : Type 0} → (Tree → List A) → ℕ → FieldItem → List A
given_to take id item = of_id take id item.id item.tree

-- ---- how a field offends by what it holds

-- what the field holds doesn't offend, whatever it is
abbrev pub nothing_wrong : {A : Type 0} → A → ℕ → Type 0
nothing_wrong held number = ⊥

-- a number that isn't one of 0 to `last`
abbrev pub IsOutside : ℕ → ℤ → Type 0
IsOutside last (pos n) = last < n
IsOutside last (negsuc n) = Unit {0}

-- BadEnum: a number outside the enum
abbrev pub BadEnum : ℕ → ℤ → ℕ → Type 0
BadEnum last held number = (number ≡ 13) × IsOutside last held

-- BadTime: a time outside its range
abbrev pub BadTime : ℤ → ℕ → Type 0
BadTime held number = (number ≡ 16) × IsOutside last_micros held

-- ---- rows

-- a required field may not be absent
abbrev pub required : {B : Type 0} → B → Type 0
required value = ⊥

-- an optional field has this value where it is absent
abbrev pub or_else : {B : Type 0} → B → B → Type 0
or_else absent value = value ≡ absent

-- a field that stands once at most
abbrev pub singular : {A : Type 0} → (FieldItem → List A) → (B : Type 0) → (A → B → Type 0) → (B → Type 0) → (A → ℕ → Type 0)
    → (A → ℕ → ℕ → Type 0) → Row FieldItem
singular {A} give B Means IsAbsent Wrong Inside = record {
  Given = A;
  given = λ item. give item;
  Value = B;
  Means = λ held value. Singular Means IsAbsent held value;
  here = λ earlier held number. Twice earlier number ⊎ Wrong held number;
  inside = λ held place number. Inside held place number;
}

-- binary, a text
abbrev pub text_of_id : ℕ → (List ℕ → Type 0) → Row FieldItem
text_of_id id IsAbsent = singular (λ item. given_to binary_in id item) (List ℕ) MeansText IsAbsent NotText nothing_inside

-- binary
abbrev pub bytes : ℕ → (List ℕ → Type 0) → Row FieldItem
bytes id IsAbsent = singular (λ item. given_to binary_in id item) (List ℕ) Means IsAbsent nothing_wrong nothing_inside

-- i64
abbrev pub number : ℕ → (ℤ → Type 0) → Row FieldItem
number id IsAbsent = singular (λ item. given_to i64_in id item) ℤ Means IsAbsent nothing_wrong nothing_inside

-- i64, a time
abbrev pub time_of_id : ℕ → (ℕ → Type 0) → Row FieldItem
time_of_id id IsAbsent = singular (λ item. given_to i64_in id item) ℕ MeansTime IsAbsent BadTime nothing_inside

-- i32
abbrev pub int : ℕ → (ℤ → Type 0) → Row FieldItem
int id IsAbsent = singular (λ item. given_to i32_in id item) ℤ Means IsAbsent nothing_wrong nothing_inside

-- an enum of 0 to `last`, by the number of each of its values
abbrev pub enum_of_id : ℕ → ℕ → (E : Type 0) → (E → ℕ) → (E → Type 0) → Row FieldItem
enum_of_id id last E number_of IsAbsent =
    singular (λ item. given_to i32_in id item) E (MeansEnum number_of) IsAbsent (BadEnum last) nothing_inside

-- bool
abbrev pub truth : ℕ → (Bool → Type 0) → Row FieldItem
truth id IsAbsent = singular (λ item. given_to truth_in id item) Bool Means IsAbsent nothing_wrong nothing_inside

-- double, by its eight bytes
abbrev pub double : ℕ → (List ℕ → Type 0) → Row FieldItem
double id IsAbsent = singular (λ item. given_to double_in id item) (List ℕ) Means IsAbsent nothing_wrong nothing_inside

-- ---- at the end

-- one at least of these rows has no field among those that were seen
abbrev pub SomeMissing : List (Row FieldItem) → List FieldItem → Type 0
SomeMissing [] seen = ⊥
SomeMissing (row ∷ rows) seen = (flat_map row.given seen ≡ []) ⊎ SomeMissing rows seen

-- Missing: a required row has no field
abbrev pub Missing : List (Row FieldItem) → List FieldItem → ℕ → Type 0
Missing rows seen number = (number ≡ 8) × SomeMissing rows seen
