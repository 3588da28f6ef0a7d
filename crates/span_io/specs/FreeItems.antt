-- Free items added anywhere in a message, in messages inside it too: what it means, or the number of the offence that counts, stays.
use Rattle.std.specs.Prelude.{◌≡◌, ℕ, ◌⊎◌, List, [], ◌∷◌}
use Rattle.std.specs.List.{AllZip, flat_map}
use Rattle.span_io.specs.Offences.{Format, Cut}
use Rattle.span_io.specs.Tables.{Row, IsFree}

-- nothing is added inside a text, a number or an identifier
abbrev pub Same : {A : Type 0} → A → A → Type 0
Same x y = x ≡ y

-- For each row, when one thing that is given to it is another with free items added inside.
abbrev pub Paddings : {Item : Type 0} → List (Row Item) → Type 1
Paddings [] = Unit {1}
Paddings (row ∷ table) = (row.Given → row.Given → Type 0) × Paddings table

module _ {Item : Type 0} where
  -- what these items give to each row differs by that, thing by thing
  abbrev pub GivenPadded : (table : List (Row Item)) → Paddings table → List Item → List Item → Type 0
  GivenPadded [] padded items others = Unit {0}
  GivenPadded (row ∷ table) padded items others =
      AllZip padded.0 (flat_map row.given items) (flat_map row.given others) × GivenPadded table padded.1 items others

  -- so of one item
  abbrev pub ItemPadded : (table : List (Row Item)) → Paddings table → Item → Item → Type 0
  ItemPadded [] padded this other = Unit {0}
  ItemPadded (row ∷ table) padded this other =
      AllZip padded.0 (row.given this) (row.given other) × ItemPadded table padded.1 this other

  -- the same items, each of which may have more free items inside, and free items between them
  pub data ItemsPadded (table : List (Row Item)) (padded : Paddings table) : List Item → List Item → Type 0 where
    no_more : ItemsPadded table padded [] []
    one_free : (free : Item) (items others : List Item) → IsFree table free → ItemsPadded table padded items others
        → ItemsPadded table padded items (free ∷ others)
    one_same : (this other : Item) (items others : List Item) → ItemPadded table padded this other
        → ItemsPadded table padded items others → ItemsPadded table padded (this ∷ items) (other ∷ others)

-- the same message, with free items added in it and inside it, up to its end or to where no item stands
pub record TextPadded (F : Format) (table : List (Row F.Item)) (padded : Paddings table) (text other : F.Rest) : Type 0 where
  pub items : List F.Item
  pub others : List F.Item
  pub rest : F.Rest
  pub cut : Cut F text items rest
  pub cut_other : Cut F other others rest
  pub stops : F.IsEnd rest ⊎ ((n : ℕ) × F.Unread rest n)
  pub same : ItemsPadded table padded items others
