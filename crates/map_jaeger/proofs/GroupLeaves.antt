-- Leaves: the values that a tag has. What is read is of leaves, and so is every normal form.
use Rattle.std.proofs.Common.{◌≡◌, ℕ, Bool, true, false, cond, not, List, [], ◌∷◌, map, get_or, All, refl, ap, ◌∙◌, arith}
use Rattle.std.specs.Prelude.{⊤}
use Rattle.std.specs.Str.{bytes_eq}
use Rattle.std.proofs.lemmas.List.Elements.{All-head, All-tail, All-map, All-contains}
use Rattle.jaeger_model.specs.declared.tag.Tag.{Tag}
use Rattle.jaeger_model.specs.declared.tag.TagValue.{TagValue}
use Rattle.jaeger_model.specs.declared.tag.TagValue.TheVariants as tags
use Rattle.trace_model.specs.Attributes.{Rise, keys, attrs}
use Rattle.trace_model.specs.Values.{IsSound}
use Rattle.trace_model.specs.declared.value.Value.{Value, Text, List', Map', Nothing}
use Rattle.span_tags.specs.TagWords.{without}
use Rattle.span_tags.proofs.AttributeLaws.{attrs_itself, map_rise}
use Rattle.map_jaeger.specs.Faults.{HasDoubleInside, HasDouble}
use Rattle.map_jaeger.specs.Normal.{normal_attributes}
use Rattle.map_jaeger.specs.Reading.{attributes_of}
use Rattle.map_jaeger.specs.TagValues.{value_of, attribute_of, tag_value, tag_of, normal_value, normal_attribute}

abbrev pub IsLeaf : Value → Type 0
IsLeaf (List' shape members) = ⊥
IsLeaf (Map' shape members) = ⊥
IsLeaf Nothing = ⊥
IsLeaf other = ⊤

abbrev pub AreLeaves : List (List ℕ × Value) → Type 0
AreLeaves attributes = All (λ pair. IsLeaf pair.1) attributes

-- ---- a value

pub normal_leaf : (value : Value) → IsLeaf (normal_value value)
normal_leaf (Text text) = tt
normal_leaf other = tt

tag_leaf : (value : TagValue) → IsLeaf (value_of value)
tag_leaf (tags.Text text) = tt
tag_leaf other = tt

leaf_normal : (value : Value) → IsLeaf value → normal_value value ≡ value
leaf_normal (List' shape members) leaf = absurd leaf
leaf_normal (Map' shape members) leaf = absurd leaf
leaf_normal Nothing leaf = absurd leaf
leaf_normal other leaf = refl

pub leaf_sound : (value : Value) → IsLeaf value → IsSound value
leaf_sound (List' shape members) leaf = absurd leaf
leaf_sound (Map' shape members) leaf = absurd leaf
leaf_sound Nothing leaf = absurd leaf
leaf_sound other leaf = record { shallow = omega arith; rising = tt }

leaf_plain : (value : Value) → IsLeaf value → HasDoubleInside value → ⊥
leaf_plain (List' shape members) leaf inside = leaf
leaf_plain (Map' shape members) leaf inside = leaf
leaf_plain other leaf inside = inside

-- the value of the tag of a value is the normal one
value_back : (value : Value) → value_of (tag_value value) ≡ normal_value value
value_back (Text text) = refl
value_back other = refl

-- and the tag of the normal one is the tag
value_same : (value : Value) → tag_value (normal_value value) ≡ tag_value value
value_same (Text text) = refl
value_same other = refl

-- ---- attributes

pub normal_leaves : (attributes : List (List ℕ × Value)) → AreLeaves (normal_attributes attributes)
normal_leaves attributes = All-map (λ pair. IsLeaf pair.1) normal_attribute attributes (λ k d lt. normal_leaf (get_or attributes k d).1)

pub tags_leaves : (l : List Tag) → AreLeaves (map attribute_of l)
tags_leaves l = All-map (λ pair. IsLeaf pair.1) attribute_of l (λ k d lt. tag_leaf (get_or l k d).value)

pub leaves_normal : (attributes : List (List ℕ × Value)) → AreLeaves attributes → normal_attributes attributes ≡ attributes
leaves_normal [] leaves = refl
leaves_normal (pair ∷ more) leaves =
    let here : normal_value pair.1 ≡ pair.1 = leaf_normal pair.1 (All-head (λ p. IsLeaf p.1) pair more leaves) in
    let rest : normal_attributes more ≡ more = leaves_normal more (All-tail (λ p. IsLeaf p.1) pair more leaves) in
    λ i. (pair.0, here i) ∷ rest i

pub leaves_plain : (attributes : List (List ℕ × Value)) → AreLeaves attributes → HasDouble attributes → ⊥
leaves_plain attributes leaves double =
    leaf_plain double.1.1 (All-contains (λ pair. IsLeaf pair.1) attributes double.1 leaves (double.0, double.2, double.3)) double.4

pub map_back : (attributes : List (List ℕ × Value)) → map attribute_of (map tag_of attributes) ≡ normal_attributes attributes
map_back [] = refl
map_back (pair ∷ more) =
    let here : value_of (tag_value pair.1) ≡ normal_value pair.1 = value_back pair.1 in
    let rest : map attribute_of (map tag_of more) ≡ normal_attributes more = map_back more in
    λ i. (pair.0, here i) ∷ rest i

-- the tags of attributes mean their normal form
pub attributes_back : (attributes : List (List ℕ × Value)) → Rise (keys attributes) → attributes_of (map tag_of attributes) ≡ normal_attributes attributes
attributes_back attributes up = ap attrs (map_back attributes) ∙ attrs_itself (normal_attributes attributes) (map_rise normal_value attributes up)

-- and are those of their normal form
pub tags_same : (attributes : List (List ℕ × Value)) → map tag_of (normal_attributes attributes) ≡ map tag_of attributes
tags_same [] = refl
tags_same (pair ∷ more) =
    let here : tag_value (normal_value pair.1) ≡ tag_value pair.1 = value_same pair.1 in
    let rest : map tag_of (normal_attributes more) ≡ map tag_of more = tags_same more in
    λ i. record { key = pair.0; value = here i } ∷ rest i

-- a key is left out before values change, or behind
pub without_normal_values : (key : List ℕ) (l : List (List ℕ × Value)) → without key (normal_attributes l) ≡ normal_attributes (without key l)
without_normal_values key [] = refl
without_normal_values key (pair ∷ more) = by (not (bytes_eq key pair.0)) (without_normal_values key more)
  where
    by : (b : Bool) → without key (normal_attributes more) ≡ normal_attributes (without key more)
        → cond b ((pair.0, normal_value pair.1) ∷ without key (normal_attributes more)) (without key (normal_attributes more)) ≡ normal_attributes (cond b (pair ∷ without key more) (without key more))
    by true rest = ap (λ l. (pair.0, normal_value pair.1) ∷ l) rest
    by false rest = rest
