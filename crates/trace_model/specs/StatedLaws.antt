-- What the laws of attributes and values say.
use Rattle.std.specs.Prelude.{◌≡◌, ◌≢◌, ◌↔◌, ◌⊎◌, ℕ, false, ◌+◌, ◌≤◌, List, [], All, Contains, Some, IsUtf8}
use Rattle.std.specs.List.{list_any}
use Rattle.json.specs.Json.{document}
use Rattle.trace_model.specs.Attributes.{Rise, keys, AreKeysInOrder, AreAttributes, AreRepeated}
use Rattle.trace_model.specs.EventTexts.{IsEventText, has_bytes, bytes_as_texts, event_text, holds_double, with_texts}
use Rattle.trace_model.specs.Proper.{IsProperValue, AreProper}
use Rattle.trace_model.specs.ValueTexts.{has_double, json_of, json_text, value_text}
use Rattle.trace_model.specs.Values.{depth, MapsRise, AreSound, most_levels}
use Rattle.trace_model.specs.declared.value.Value.{Value}
use Rattle.trace_model.specs.declared.value.Value.TheVariants as values

-- a list of pairs makes one list of attributes at most, all of them among the pairs, and one list of repeated keys
pub record AttributesOnce : Type 0 where
  pub attributes : (pairs first second : List (List ℕ × Value)) → AreAttributes first pairs → AreAttributes second pairs
      → first ≡ second
  pub among : (attributes pairs : List (List ℕ × Value)) → AreAttributes attributes pairs
      → All (λ pair. Contains pairs pair) attributes
  pub repeated : (pairs : List (List ℕ × Value)) (first second : List (List ℕ)) → AreRepeated first pairs
      → AreRepeated second pairs → first ≡ second
  -- lists in order that hold the same keys are equal
  pub same_keys : (first second : List (List ℕ)) → Rise first → Rise second
      → ((key : List ℕ) → Contains first key ↔ Contains second key) → first ≡ second

-- a list of pairs makes attributes and repeated keys, and a list of keys can be put in order
pub record AttributesExist : Type 0 where
  pub attributes : (pairs : List (List ℕ × Value)) → (kept : List (List ℕ × Value)) × AreAttributes kept pairs
  pub repeated : (pairs : List (List ℕ × Value)) → (names : List (List ℕ)) × AreRepeated names pairs
  pub in_order : (all : List (List ℕ)) → (names : List (List ℕ)) × AreKeysInOrder names all

-- how deep a list or map is, and where the maps in it rise, by its members
pub record MembersOfValues : Type 0 where
  pub list_depth : (d : ℕ) (members : List Value) → (depth (values.List members) ≤ d + 1) ↔ All (λ value. depth value ≤ d) members
  pub map_depth : (d : ℕ) (pairs : List (List ℕ × Value))
      → (depth (values.Map pairs) ≤ d + 1) ↔ All (λ pair. depth pair.1 ≤ d) pairs
  pub list_rises : (members : List Value) → MapsRise (values.List members) ↔ All MapsRise members
  pub map_rises : (pairs : List (List ℕ × Value))
      → MapsRise (values.Map pairs) ↔ (Rise (keys pairs) × All (λ pair. MapsRise pair.1) pairs)

-- a list or map is proper where its members are
pub record MembersOfProperValues : Type 0 where
  pub list : (members : List Value) → IsProperValue (values.List members) ↔ All IsProperValue members
  pub map : (pairs : List (List ℕ × Value)) → IsProperValue (values.Map pairs) ↔ AreProper pairs

-- pairs whose keys rise are their own attributes, and none of their keys is repeated
pub record RisingAttributes : Type 0 where
  pub themselves : (pairs : List (List ℕ × Value)) → Rise (keys pairs) → AreAttributes pairs pairs
  pub unrepeated : (pairs : List (List ℕ × Value)) → Rise (keys pairs) → AreRepeated [] pairs

-- doubles in a list or map by its members; the text of a proper value is UTF-8, and its JSON is read back
pub record TextsOfValues : Type 0 where
  pub list_double : (members : List Value) → has_double (values.List members) ≡ list_any has_double members
  pub map_double : (pairs : List (List ℕ × Value)) → has_double (values.Map pairs) ≡ list_any (λ pair. has_double pair.1) pairs
  pub utf8 : (value : Value) → IsProperValue value → IsUtf8 (value_text value)
  pub read_back : (value : Value) → IsProperValue value → depth value ≤ most_levels
      → document (json_text value) ≡ Some (json_of value)

-- a text has one name and one list of attributes at most, which hold neither bytes nor doubles
pub record EventTextsOnce : Type 0 where
  pub one_name : (text name other : List ℕ) (attributes others : List (List ℕ × Value)) → IsEventText text name attributes
      → IsEventText text other others → name ≡ other
  pub one_list : (text name other : List ℕ) (attributes others : List (List ℕ × Value)) → IsEventText text name attributes
      → IsEventText text other others
      → attributes ≡ others
  pub no_bytes : (text name : List ℕ) (attributes : List (List ℕ × Value)) → IsEventText text name attributes
      → with_texts attributes ≡ attributes
  pub no_double : (text name : List ℕ) (attributes : List (List ℕ × Value)) → IsEventText text name attributes
      → holds_double attributes ≡ false

-- each text is that of an event, or of none
pub record EventTextsOrNone : Type 0 where
  pub some_or_none : (text : List ℕ)
      → ((name : List ℕ) × (attributes : List (List ℕ × Value)) × IsEventText text name attributes)
      ⊎ ((name : List ℕ) (attributes : List (List ℕ × Value)) → ¬ IsEventText text name attributes)

-- what is written is read back, with texts for bytes
pub record EventTextsReadBack : Type 0 where
  pub read_back : (name : List ℕ) (attributes : List (List ℕ × Value)) → AreProper attributes → AreSound attributes
      → attributes ≢ []
      → holds_double attributes ≡ false → IsEventText (event_text name attributes) name (with_texts attributes)

-- texts in the place of bytes stay, and change nothing else; a value without bytes stays, and no other
pub record TextsForBytes : Type 0 where
  pub none : (value : Value) → (has_bytes value ≡ false) ↔ (bytes_as_texts value ≡ value)
  pub again : (attributes : List (List ℕ × Value)) → with_texts (with_texts attributes) ≡ with_texts attributes
  pub map : (attributes : List (List ℕ × Value)) → bytes_as_texts (values.Map attributes) ≡ values.Map (with_texts attributes)
  pub sound : (attributes : List (List ℕ × Value)) → AreSound attributes → AreSound (with_texts attributes)
  pub proper : (attributes : List (List ℕ × Value)) → AreProper attributes → AreProper (with_texts attributes)
  pub double : (attributes : List (List ℕ × Value)) → holds_double (with_texts attributes) ≡ holds_double attributes
  pub same_text : (name : List ℕ) (attributes : List (List ℕ × Value))
      → event_text name (with_texts attributes) ≡ event_text name attributes
