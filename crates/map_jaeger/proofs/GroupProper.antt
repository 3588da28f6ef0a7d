-- The normal form of a resource is proper where the resource is: the texts of its values are UTF-8.
use Rattle.std.proofs.Common.{◌≡◌, ℕ, Bool, true, false, List, [], ◌∷◌, get_or, All, Option, Some, None, refl, sym, true≢false}
use Rattle.std.specs.Prelude.{◌&&◌, ◌<◌, not, IsUtf8}
use Rattle.std.specs.List.{list_all}
use Rattle.std.specs.Option.{IfSome}
use Rattle.std.specs.Str.{bytes_eq}
use Rattle.std.proofs.lemmas.List.Elements.{All-nil, All-cons, All-filter, All-map}
use Rattle.std.proofs.lemmas.Map.Entries.{All-lookup}
use Rattle.std.proofs.lemmas.Str.{IsUtf8-nil, IsUtf8-from_ascii}
use Rattle.std.proofs.lemmas.Str.Ascii.{IsAscii-from_all}
use Rattle.std.proofs.lemmas.Bool.{ltb-true}
use Rattle.std.proofs.Math.Dec.{ltb}
use Rattle.trace_model.specs.Attributes.{at}
use Rattle.trace_model.specs.Proper.{IsProperValue, IsProperPair, AreProper}
use Rattle.trace_model.specs.ValueTexts.{value_text}
use Rattle.trace_model.specs.declared.value.Value.{Value, List', Map', Nothing}
use Rattle.span_tags.specs.TagKeys.{service_key}
use Rattle.span_tags.specs.TagWords.{without, text_or_none}
use Rattle.map_jaeger.specs.Normal.{normal_attributes, normal_resource}
use Rattle.map_jaeger.specs.TagValues.{normal_value, normal_attribute}
use Rattle.map_jaeger.proofs.GroupResource.{made_all, name_of, other_attributes}

pub ascii : (bs : List ℕ) → list_all (λ b. ltb b 128) bs ≡ true → All (λ b. b < 128) bs
ascii [] e = All-nil (λ b. b < 128)
ascii (b ∷ bs) e = by (λ rest. ascii bs rest) (ltb b 128) refl e
  where
    by : (list_all (λ c. ltb c 128) bs ≡ true → All (λ c. c < 128) bs) → (low : Bool) → ltb b 128 ≡ low → (low && list_all (λ c. ltb c 128) bs) ≡ true → All (λ c. c < 128) (b ∷ bs)
    by others true low rest = All-cons (λ c. c < 128) b bs (ltb-true b 128 low) (others rest)
    by others false low rest = absurd (true≢false (sym rest))

-- texts are UTF-8: a law of the model
abbrev pub TextsAreUtf8 : Type 0
TextsAreUtf8 = (value : Value) → IsProperValue value → IsUtf8 (value_text value)

module _ (utf8 : TextsAreUtf8) where
  normal_value_proper : (value : Value) → IsProperValue value → IsProperValue (normal_value value)
  normal_value_proper (List' shape members) proper = utf8 (List' shape members) proper
  normal_value_proper (Map' shape members) proper = utf8 (Map' shape members) proper
  normal_value_proper Nothing proper = IsUtf8-nil
  normal_value_proper other proper = proper

  pub normal_proper : (attributes : List (List ℕ × Value)) → AreProper attributes → AreProper (normal_attributes attributes)
  normal_proper attributes proper = All-map IsProperPair normal_attribute attributes
      (λ k d lt. record { key = (proper k d lt).key; value = normal_value_proper (get_or attributes k d).1 (proper k d lt).value })

  pub service_utf8 : (value : Option Value) → IfSome value IsProperValue → IsUtf8 (text_or_none value)
  service_utf8 None proper = IsUtf8-nil
  service_utf8 (Some value) proper = utf8 value proper

  pub resource_proper : (resource : List (List ℕ × Value)) → AreProper resource → AreProper (normal_resource resource)
  resource_proper resource proper = made_all (name_of resource) (other_attributes resource) IsProperPair
      (record {
        key = IsUtf8-from_ascii service_key (IsAscii-from_all service_key (ascii service_key refl));
        value = service_utf8 (at service_key resource) (All-lookup IsProperValue (bytes_eq service_key) resource (λ k d lt. (proper k d lt).value));
      })
      (normal_proper (without service_key resource) (All-filter (λ attribute. not (bytes_eq service_key attribute.0)) IsProperPair resource proper))
