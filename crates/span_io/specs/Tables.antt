-- Tables of messages. A message's table has a row for each of its fields: which items belong to it, what they mean together, and how
-- they offend. These words serve every wire format. An item of no row is free: it is passed over.
use Rattle.std.specs.Prelude.{◌≡◌, ◌≢◌, ℕ, ◌<◌, List, [], ◌∷◌, ◌++◌, IsUtf8}
use Rattle.std.specs.List.{flat_map}
use Rattle.span_io.specs.Offences.{Rules, Format}
use Rattle.span_io.specs.Causes.{cause_number}
use Rattle.span_io.specs.declared.cause.Cause.{Cause}

-- A row, over the items of a wire format.
pub record Row (Item : Type 0) : Type 1 where
  -- an item of the row gives one such thing, what it holds, and another item gives nothing
  pub Given : Type 0
  pub given : Item → List Given
  -- what all that was given means
  pub Value : Type 0
  pub Means : List Given → Value → Type 0
  -- how an item offends by what it holds, behind what was given before
  pub here : List Given → Given → ℕ → Type 0
  -- what offends in the message that it holds, at a place in it
  pub inside : Given → ℕ → ℕ → Type 0

-- ---- what offends in a message, by its table

-- what is said of the one thing that was given, else of the others
abbrev pub OfFirst : {A : Type 0} → List A → (A → Type 0) → Type 0 → Type 0
OfFirst [] Says Else = Else
OfFirst (x ∷ more) Says Else = Says x

module _ {Item : Type 0} where
  -- this item, behind those seen, offends with this number by the first row that it belongs to; an item of no row doesn't offend
  abbrev pub table_here : List (Row Item) → List Item → Item → ℕ → Type 0
  table_here [] seen this number = ⊥
  table_here (row ∷ table) seen this number =
      OfFirst (row.given this) (λ x. row.here (flat_map row.given seen) x number) (table_here table seen this number)

  -- the message that this item holds offends at this place in it with this number, by the first row that the item belongs to
  abbrev pub table_inside : List (Row Item) → Item → ℕ → ℕ → Type 0
  table_inside [] this place number = ⊥
  table_inside (row ∷ table) this place number =
      OfFirst (row.given this) (λ x. row.inside x place number) (table_inside table this place number)

  -- the rules of a message with this table, which may offend at its end
  abbrev pub rules_by : List (Row Item) → (List Item → ℕ → Type 0) → Rules Item
  rules_by table ends = record {
    here = λ seen this number. table_here table seen this number;
    inside = λ this place number. table_inside table this place number;
    ends = λ seen number. ends seen number;
  }

  -- of a message that doesn't offend at its end
  abbrev pub no_ends : List Item → ℕ → Type 0
  no_ends seen number = ⊥

  -- the item is of no row
  abbrev pub IsFree : List (Row Item) → Item → Type 0
  IsFree [] this = Unit {0}
  IsFree (row ∷ table) this = (row.given this ≡ []) × IsFree table this

  -- ---- what the items of a message give to its rows, and what that means

  -- for each row of a table a list of the things that were given to it
  abbrev pub Givens : List (Row Item) → Type 0
  Givens [] = Unit {0}
  Givens (row ∷ table) = List row.Given × Givens table

  -- what these items give to each row of the table, in the order of the items
  abbrev pub givens : (table : List (Row Item)) → List Item → Givens table
  givens [] items = tt
  givens (row ∷ table) items = (flat_map row.given items, givens table items)

  -- for each row of a table one value: what its field means in a message
  abbrev pub Values : List (Row Item) → Type 0
  Values [] = Unit {0}
  Values (row ∷ table) = row.Value × Values table

  -- each row's value is what was given to it means
  abbrev pub Mean : (table : List (Row Item)) → Givens table → Values table → Type 0
  Mean [] given values = Unit {0}
  Mean (row ∷ table) given values = row.Means given.0 values.0 × Mean table given.1 values.1

-- ---- what a message means

-- the text has items that are those of this thing; `Are` says which items a text has
pub record MeansByItems {Item Rest X : Type 0} (Are : List Item → Rest → Type 0) (Is : X → List Item → Type 0) (text : Rest)
    (x : X) : Type 0 where
  pub items : List Item
  pub are : Are items text
  pub is : Is x items

-- ---- for a reader that goes on item by item

-- the one thing more
abbrev pub pushed : {A : Type 0} → List A → List A → List A
pushed before [] = before
pushed before (x ∷ more) = before ++ x ∷ []

module _ {Item : Type 0} where
  -- what is given with one item more
  abbrev pub givens_with : (table : List (Row Item)) → Givens table → Item → Givens table
  givens_with [] given this = tt
  givens_with (row ∷ table) given this = (pushed given.0 (row.given this), givens_with table given.1 this)

-- ---- rows of many formats

-- a singular row has at most one item, and without one the value that is its default; what a repeated row means is std's `AllZip`
abbrev pub Singular : {A B : Type 0} → (A → B → Type 0) → (B → Type 0) → List A → B → Type 0
Singular Means IsDefault [] value = IsDefault value
Singular Means IsDefault (held ∷ []) value = Means held value
Singular Means IsDefault (held ∷ other ∷ more) value = ⊥

-- FieldTwice: a singular row has an earlier item
abbrev pub Twice : {A : Type 0} → List A → ℕ → Type 0
Twice earlier number = (number ≡ 7) × (earlier ≢ [])

-- bytes that are a text
abbrev pub MeansText : List ℕ → List ℕ → Type 0
MeansText held text = IsUtf8 held × (text ≡ held)

-- NotText: the bytes are no text
abbrev pub NotText : List ℕ → ℕ → Type 0
NotText held number = (number ≡ 9) × ¬ IsUtf8 held

-- BadEnum: the value is above the last of the enum
abbrev pub Above : ℕ → ℕ → ℕ → Type 0
Above last n number = (number ≡ 13) × (last < n)

-- nothing offends inside what the row holds
abbrev pub nothing_inside : {A : Type 0} → A → ℕ → ℕ → Type 0
nothing_inside held place number = ⊥

-- ---- a message, item by item

-- what stands at the front of what is left
pub data Next (F : Format) (rest : F.Rest) : Type 0 where
  ended : F.IsEnd rest → Next F rest
  stopped : (cause : Cause) → F.Unread rest (cause_number cause) → Next F rest
  begun : (this : F.Item) (after : F.Rest) → F.Begins this rest after → Next F rest

-- ---- nothing offends in a message of which each item keeps the rules

-- the message is these items, to its end
unfoldable pub Whole : (F : Format) → List F.Item → F.Rest → Type 0
Whole F [] text = F.IsEnd text
Whole F (this ∷ more) text = (after : F.Rest) × F.Begins this text after × Whole F more after
