-- Values that are sound: of so many levels at most, with the keys of every map in them rising.
use Rattle.std.specs.Prelude.{ℕ, ◌+◌, ◌≤◌, max, List, [], ◌∷◌, All, ⊤}
use Rattle.trace_model.specs.Attributes.{Rise, keys}
use Rattle.trace_model.specs.declared.value.Value.{Value, Row_of-Value, end_of-Value, more_of-Value, Row_of-Value-Map-0-2, end_of-Value-Map-0-2, more_of-Value-Map-0-2, List', Map'}

-- how deep a value is at most, so that a list or map at the last level is empty
abbrev pub most_levels : ℕ
most_levels = 24

abbrev mutual
  -- a leaf or an empty list or map has depth 1, another list or map one more than its deepest member
  pub depth : Value → ℕ
  depth (List' shape members) = deepest members + 1
  depth (Map' shape members) = deepest_of_pairs members + 1
  depth _ = 1

  pub deepest : {n : _} → Row_of-Value n → ℕ
  deepest end_of-Value = 0
  deepest (more_of-Value value rest) = max (depth value) (deepest rest)

  pub deepest_of_pairs : {n : _} → Row_of-Value-Map-0-2 n → ℕ
  deepest_of_pairs end_of-Value-Map-0-2 = 0
  deepest_of_pairs (more_of-Value-Map-0-2 key value rest) = max (depth value) (deepest_of_pairs rest)

-- the keys of a map's pairs, in the order of the pairs
abbrev pub keys_of_row : {n : _} → Row_of-Value-Map-0-2 n → List (List ℕ)
keys_of_row end_of-Value-Map-0-2 = []
keys_of_row (more_of-Value-Map-0-2 key value rest) = key ∷ keys_of_row rest

abbrev mutual
  -- the keys of each map in the value rise
  pub MapsRise : Value → Type 0
  MapsRise (List' shape members) = MapsRiseInEach members
  MapsRise (Map' shape members) = Rise (keys_of_row members) × MapsRiseInPairs members
  MapsRise _ = ⊤

  pub MapsRiseInEach : {n : _} → Row_of-Value n → Type 0
  MapsRiseInEach end_of-Value = ⊤
  MapsRiseInEach (more_of-Value value rest) = MapsRise value × MapsRiseInEach rest

  pub MapsRiseInPairs : {n : _} → Row_of-Value-Map-0-2 n → Type 0
  MapsRiseInPairs end_of-Value-Map-0-2 = ⊤
  MapsRiseInPairs (more_of-Value-Map-0-2 key value rest) = MapsRise value × MapsRiseInPairs rest

-- the value has 24 levels at most, its own counted, and the keys of each map in it rise, so that none stands twice
pub record IsSound (value : Value) : Type 0 where
  pub shallow : depth value ≤ most_levels
  pub rising : MapsRise value

-- attributes are sound where their keys rise and each value is sound
pub record AreSound (attributes : List (List ℕ × Value)) : Type 0 where
  pub rising : Rise (keys attributes)
  pub values : All (λ pair. IsSound pair.1) attributes
