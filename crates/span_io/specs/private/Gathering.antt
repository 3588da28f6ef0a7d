-- What the walk over a message does with one item more, and what it gives at the end. These words serve every wire format.
use Rattle.std.specs.Prelude.{ℕ, ◌≤◌, List, [], ◌∷◌, ◌++◌, Result}
use Rattle.span_io.specs.declared.cause.Cause.{Cause}
use Rattle.span_io.specs.declared.halt.Halt.{Halt}
use Rattle.span_io.specs.Offences.{Format, Rules, Offence, Least, HereOrInside, ItemOffends, Judges}
use Rattle.span_io.specs.Tables.{Row, table_here, table_inside}

module _ {Item R : Type 0} where
  -- the item is added, whatever items were gathered before it from the first rows on
  abbrev pub AddsItem : (R → R → List Item → Type 0) → Item → R → R → Type 0
  AddsItem Gathered this old new =
      (first : R) (seen : List Item) → Gathered first old seen → Gathered first new (seen ++ this ∷ [])

  -- what is answered of it: how it offends by its table, by itself or in the message that it holds
  abbrev pub JudgesItem : {T : Type 0} → (R → R → List Item → Type 0) → List (Row Item) → Item → R → Result T (Halt Cause)
      → Type 0
  JudgesItem Gathered table this old result =
      (first : R) (seen : List Item) → Gathered first old seen → Judges result (HereOrInside (table_here table seen this) (table_inside table this))

  -- the same by the rules of its message
  abbrev pub JudgesNext : {T : Type 0} → Rules Item → (List Item → R → Type 0) → R → Item → Result T (Halt Cause) → Type 0
  JudgesNext K Gathered rows this result = (seen : List Item) → Gathered seen rows → Judges result (ItemOffends Item K seen this)

-- All items of a text are gathered, and only its end may still offend. `Are` says which items a text has.
pub record GatheredAll (F : Format) (K : Rules F.Item) (Are : List F.Item → F.Rest → Type 0) (Gathered : List F.Item → Type 0)
    (text : F.Rest) : Type 0 where
  pub items : List F.Item
  pub are : Are items text
  pub gathered : Gathered items
  pub fine : ((n : ℕ) → ¬ K.ends items n) → (place n : ℕ) → ¬ Offence F K text place n
  pub ended : (n : ℕ) → K.ends items n → ((m : ℕ) → K.ends items m → n ≤ m) → Least (Offence F K text) n
