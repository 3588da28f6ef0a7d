-- The value that a JSON value stands for, where it is at most so many levels deep.
--     value_within left json    the value, or None where it is deeper or a number in it is no whole one of 64 bits
--     IsRead value              what reading gives besides: the keys of its maps rise, and it is proper
use Rattle.std.specs.Prelude.{ℕ, zero, suc, List, [], ◌∷◌, All, Option, Some, None, option_map, option_and_then}
use Rattle.serde_json.specs.Data.{Data, null, boolean, number, string, array, object, Items, no_items, item, Members, no_members, member}
use Rattle.serde_json.specs.Find.{as_i64}
use Rattle.serde_json.specs.Read.{read}
use Rattle.trace_model.specs.Attributes.{Rise, keys}
use Rattle.trace_model.specs.EventTexts.{in_braces}
use Rattle.trace_model.specs.Proper.{IsProperValue, IsProperPair}
use Rattle.trace_model.specs.Values.{MapsRise, most_levels}
use Rattle.trace_model.specs.declared.value.Value.{Value, Text, Truth, Number, List as Several, Map as Named, Nothing}

abbrev mutual
  pub value_within : ℕ → Data → Option Value
  value_within zero json = None
  value_within (suc left) null = Some Nothing
  value_within (suc left) (boolean truth) = Some (Truth truth)
  value_within (suc left) (number n) = option_map Number (as_i64 n)
  value_within (suc left) (string text) = Some (Text text)
  value_within (suc left) (array elements) = option_map Several (values_within left elements)
  value_within (suc left) (object members) = option_map Named (pairs_within left members)

  pub values_within : ℕ → Items → Option (List Value)
  values_within left no_items = Some []
  values_within left (item json rest) =
      option_and_then (λ value. option_map (λ values. value ∷ values) (values_within left rest)) (value_within left json)

  pub pairs_within : ℕ → Members → Option (List (List ℕ × Value))
  pairs_within left no_members = Some []
  pairs_within left (member key json rest) =
      option_and_then (λ value. option_map (λ pairs. (key, value) ∷ pairs) (pairs_within left rest)) (value_within left json)

-- a value as reading gives it: the keys of each map in it rise, and it is proper
pub record IsRead (value : Value) : Type 0 where
  pub rising : MapsRise value
  pub proper : IsProperValue value

-- the same of attributes: their own keys rise, so do those of the maps inside, and each pair is proper
pub record AreRead (pairs : List (List ℕ × Value)) : Type 0 where
  pub keys_rise : Rise (keys pairs)
  pub rising : All (λ pair. MapsRise pair.1) pairs
  pub proper : All IsProperPair pairs

-- ---- the event of a text, as a computation

-- attributes aren't empty
abbrev pub some_pairs : List ℕ → Option (List (List ℕ × Value)) → Option (List ℕ × List (List ℕ × Value))
some_pairs name None = None
some_pairs name (Some []) = None
some_pairs name (Some (pair ∷ pairs)) = Some (name, pair ∷ pairs)

-- an object of one member, which is an object itself
abbrev pub event_in : Data → Option (List ℕ × List (List ℕ × Value))
event_in (object (member name (object members) no_members)) = some_pairs name (pairs_within most_levels members)
event_in json = None

-- what stands in braces is JSON of such an event
unfoldable pub event_text_read : List ℕ → Option (List ℕ × List (List ℕ × Value))
event_text_read text = option_and_then event_in (read (in_braces text))
