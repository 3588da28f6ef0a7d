-- Looking into a JSON value (RFC 8259). Of equal members the last counts, and one that is null counts as absent. Each kind of value is
-- told as what it means, and as how it offends.
use Rattle.std.specs.Prelude.{◌≡◌, ℕ, List, [], ◌∷◌, Bool, Option, Some, None, option_and_then}
use Rattle.serde_json.specs.Data.{Data, null, Items, no_items, item, Members, no_members, member as has}
use Rattle.serde_json.specs.Find.{get, as_array, as_bool, as_number, as_str, as_u64}
use Rattle.span_io.specs.Paths.{Offences, nothing, here, each, valued, OfKind}
use Rattle.std.specs.List.{AllZip}

-- a value that is null counts as absent
abbrev pub unless_null : Option Data → Option Data
unless_null None = None
unless_null (Some null) = None
unless_null (Some d) = Some d

-- the value of an object's member of this name, if it has one and that isn't null
unfoldable pub member : List ℕ → Data → Option Data
member name d = unless_null (get name d)

-- the elements of an array, and the values of an object's members
abbrev pub elements : Items → List Data
elements no_items = []
elements (item d more) = d ∷ elements more

-- the values of an object's members, in their order
abbrev pub member_values : Members → List Data
member_values no_members = []
member_values (has key d more) = d ∷ member_values more

-- what the elements of an array mean, and how they offend
abbrev pub AreHeld : {A : Type 0} → (A → Data → Type 0) → List A → Data → Type 0
AreHeld Means xs d = OfKind (λ ys ds. AllZip (λ x y. Means y x) (elements ds) ys) xs (as_array d)

-- BadShape: no array; else what offends in its elements
abbrev pub elements_offend : (Data → Offences) → Data → Offences
elements_offend Offends d = valued (λ ds. each Offends (elements ds)) (as_array d)

-- ---- texts and truth values

-- the value is a string of this text
abbrev pub IsText : List ℕ → Data → Type 0
IsText text d = as_str d ≡ Some text

-- BadShape: no string
abbrev pub text_offends : Data → Offences
text_offends d = valued (λ text. nothing) (as_str d)

-- the value is true or false, as `truth` says
abbrev pub IsTruth : Bool → Data → Type 0
IsTruth truth d = as_bool d ≡ Some truth

-- BadShape: neither true nor false
abbrev pub truth_offends : Data → Offences
truth_offends d = valued (λ truth. nothing) (as_bool d)

-- ---- numbers: a whole one has neither point nor exponent, and isn't `-0`

-- the value is this whole number, which isn't negative
abbrev pub IsCount : ℕ → Data → Type 0
IsCount count d = option_and_then as_u64 (as_number d) ≡ Some count

-- ---- texts that spell something, as identifiers do

-- the text spells this
abbrev pub Spelled : {A : Type 0} → (List ℕ → A → Type 0) → A → Data → Type 0
Spelled Spells x d = OfKind (λ y text. Spells text y) x (as_str d)

-- with this number, the text spells nothing
abbrev pub unspelled : {A : Type 0} → (List ℕ → A → Type 0) → ℕ → Data → Offences
unspelled Spells number d = valued (λ text. here (λ n. (n ≡ number) × ((x : _) → ¬ Spells text x))) (as_str d)
