-- The resource of a group: what is written of it is read as its normal form, which is its own and has no fault. Each such resource is
-- made of a service's name, a text, and attributes that rise without that key.
use Rattle.std.proofs.Common.{◌≡◌, ℕ, Bool, true, false, cond, List, [], ◌∷◌, ◌++◌, map, All, Some, None, option_map, not, refl, sym, ap, ◌∙◌, subst, true≢false, ⊎_elim}
use Rattle.std.specs.Option.{option_or}
use Rattle.std.specs.Str.{bytes_eq}
use Rattle.std.proofs.lemmas.List.Elements.{All-nil, All-cons, All-append, All-filter, All-weaker}
use Rattle.jaeger_model.specs.declared.batch.Batch.{Batch}
use Rattle.trace_model.specs.Attributes.{Rise, keys, attrs, at}
use Rattle.trace_model.specs.Values.{IsSound, AreSound}
use Rattle.trace_model.specs.declared.fault.Fault.{Fault}
use Rattle.trace_model.specs.declared.fault.Fault.TheVariants.{DoubleInText}
use Rattle.trace_model.specs.declared.value.Value.{Value, Text}
use Rattle.span_tags.proofs.AttributeLaws.{same_key, key_itself, option_or-none, last_at, attrs_rise, at_attrs-append, all_attrs, same_pairs, at_filter, filter_rise, at_map, map_rise}
use Rattle.span_tags.specs.TagKeys.{service_key}
use Rattle.span_tags.specs.TagWords.{row, text_given, without, text_or_none}
use Rattle.map_jaeger.specs.Faults.{HasDoubleAt, IsResourceFault, HasDouble}
use Rattle.map_jaeger.specs.Normal.{normal_attributes, normal_resource}
use Rattle.map_jaeger.specs.Reading.{attributes_of, resource_of}
use Rattle.map_jaeger.specs.TagValues.{tag_of, normal_value, attribute_of}
use Rattle.map_jaeger.proofs.GroupLeaves.{IsLeaf, AreLeaves, normal_leaves, tags_leaves, leaves_normal, leaves_plain, attributes_back, leaf_sound}

-- ---- attributes without a key

pub without_rise : (key : List ℕ) (l : List (List ℕ × Value)) → Rise (keys l) → Rise (keys (without key l))
without_rise key l up = filter_rise (λ k. not (bytes_eq key k)) l up

pub at_without : (key : List ℕ) (l : List (List ℕ × Value)) → at key (without key l) ≡ None
at_without key l = at_filter key (λ k. not (bytes_eq key k)) l ∙ ap (λ b. cond (not b) (at key l) None) (key_itself key)

pub without_absent : (key : List ℕ) (l : List (List ℕ × Value)) → Rise (keys l) → at key l ≡ None → without key l ≡ l
without_absent key l up none = same_pairs (without key l) l (without_rise key l up) up
    (λ k. at_filter k (λ q. not (bytes_eq key q)) l ∙ by k (bytes_eq key k) refl)
  where
    by : (k : List ℕ) (b : Bool) → bytes_eq key k ≡ b → cond (not b) (at k l) None ≡ at k l
    by k true e = sym none ∙ ap (λ q. at q l) (same_key key k e)
    by k false e = refl

-- ---- made of a name and attributes

abbrev pub with_service : List ℕ → List (List ℕ × Value) → List (List ℕ × Value)
with_service name rest = attrs (row service_key (text_given name) ++ rest)

name_in_row : (name : List ℕ) → last_at service_key (row service_key (text_given name)) ≡ text_given name
name_in_row [] = refl
name_in_row (x ∷ more) = refl

service_text : (name : List ℕ) → text_or_none (text_given name) ≡ name
service_text [] = refl
service_text (x ∷ more) = refl

-- other keys in that row
other_in_row : (name key : List ℕ) → bytes_eq key service_key ≡ false → last_at key (row service_key (text_given name)) ≡ None
other_in_row [] key apart = refl
other_in_row (x ∷ more) key apart = ap (λ b. cond b (Some (Text (x ∷ more))) None) apart

text_plain : (name : List ℕ) → HasDoubleAt (text_given name) → ⊥
text_plain [] double = double
text_plain (x ∷ more) double = true≢false (sym double)

row_all : (P : List ℕ × Value → Type 0) (name : List ℕ) → P (service_key, Text name) → All P (row service_key (text_given name))
row_all P [] here = All-nil P
row_all P (x ∷ more) here = All-cons P (service_key, Text (x ∷ more)) [] here (All-nil P)

module _ (name : List ℕ) (rest : List (List ℕ × Value)) where
  pub made_rise : Rise (keys (with_service name rest))
  made_rise = attrs_rise (row service_key (text_given name) ++ rest)

  pub made_all : (P : List ℕ × Value → Type 0) → P (service_key, Text name) → All P rest → All P (with_service name rest)
  made_all P here all = all_attrs P (row service_key (text_given name) ++ rest) (All-append P (row service_key (text_given name)) rest (row_all P name here) all)

  module _ (up : Rise (keys rest)) (none : at service_key rest ≡ None) where
    pub service_at : at service_key (with_service name rest) ≡ text_given name
    service_at = at_attrs-append service_key (row service_key (text_given name)) rest up
        ∙ ap (λ o. option_or o (last_at service_key (row service_key (text_given name)))) none
        ∙ name_in_row name

    -- the name is the service's
    pub service_back : text_or_none (at service_key (with_service name rest)) ≡ name
    service_back = ap text_or_none service_at ∙ service_text name

    -- and the others are the attributes
    pub without_back : without service_key (with_service name rest) ≡ rest
    without_back = same_pairs (without service_key (with_service name rest)) rest (without_rise service_key (with_service name rest) made_rise) up
        (λ k. at_filter k (λ q. not (bytes_eq service_key q)) (with_service name rest) ∙ by k (bytes_eq service_key k) refl)
      where
        others : (k : List ℕ) → bytes_eq service_key k ≡ false → (b : Bool) → bytes_eq k service_key ≡ b → last_at k (row service_key (text_given name)) ≡ None
        others k apart true same = absurd (true≢false (sym (key_itself service_key) ∙ ap (bytes_eq service_key) (sym (same_key k service_key same)) ∙ apart))
        others k apart false e = other_in_row name k e

        by : (k : List ℕ) (b : Bool) → bytes_eq service_key k ≡ b → cond (not b) (at k (with_service name rest)) None ≡ at k rest
        by k true e = sym none ∙ ap (λ q. at q rest) (same_key service_key k e)
        by k false e = at_attrs-append k (row service_key (text_given name)) rest up
            ∙ ap (option_or (at k rest)) (others k e (bytes_eq k service_key) refl)
            ∙ option_or-none (at k rest)

    pub made_normal : normal_resource (with_service name rest) ≡ with_service name (normal_attributes rest)
    made_normal =
        ap (λ n. attrs (row service_key (text_given n) ++ normal_attributes (without service_key (with_service name rest)))) service_back
        ∙ ap (λ l. attrs (row service_key (text_given name) ++ normal_attributes l)) without_back

    pub made_plain : AreLeaves rest → (fault : Fault) → IsResourceFault (with_service name rest) fault → ⊥
    made_plain leaves DoubleInText is = ⊎_elim
        (λ (at_service : HasDoubleAt (at service_key (with_service name rest))). text_plain name (subst HasDoubleAt service_at at_service))
        (λ (inside : HasDouble (with_service name rest)). leaves_plain (with_service name rest) (made_all (λ pair. IsLeaf pair.1) tt leaves) inside)
        is
    made_plain leaves other is = is

  pub made_sound : AreLeaves rest → AreSound (with_service name rest)
  made_sound leaves = record {
    rising = made_rise;
    values = All-weaker (λ pair. IsLeaf pair.1) (λ pair. IsSound pair.1) (λ pair leaf. leaf_sound pair.1 leaf) (with_service name rest) (made_all (λ pair. IsLeaf pair.1) tt leaves);
  }

-- ---- a resource and its normal form

abbrev pub other_attributes : List (List ℕ × Value) → List (List ℕ × Value)
other_attributes resource = normal_attributes (without service_key resource)

abbrev pub name_of : List (List ℕ × Value) → List ℕ
name_of resource = text_or_none (at service_key resource)

module _ (resource : List (List ℕ × Value)) (up : Rise (keys resource)) where
  pub others_rise : Rise (keys (other_attributes resource))
  others_rise = map_rise normal_value (without service_key resource) (without_rise service_key resource up)

  pub others_none : at service_key (other_attributes resource) ≡ None
  others_none = at_map normal_value service_key (without service_key resource) ∙ ap (option_map normal_value) (at_without service_key resource)

  pub without_normal : without service_key (normal_resource resource) ≡ other_attributes resource
  without_normal = without_back (name_of resource) (other_attributes resource) others_rise others_none

  pub name_normal : name_of (normal_resource resource) ≡ name_of resource
  name_normal = service_back (name_of resource) (other_attributes resource) others_rise others_none

  pub normal_itself : normal_resource (normal_resource resource) ≡ normal_resource resource
  normal_itself = made_normal (name_of resource) (other_attributes resource) others_rise others_none
      ∙ ap (with_service (name_of resource)) (leaves_normal (other_attributes resource) (normal_leaves (without service_key resource)))

  pub normal_plain : (fault : Fault) → IsResourceFault (normal_resource resource) fault → ⊥
  normal_plain = made_plain (name_of resource) (other_attributes resource) others_rise others_none (normal_leaves (without service_key resource))

  pub normal_is_sound : AreSound (normal_resource resource)
  normal_is_sound = made_sound (name_of resource) (other_attributes resource) (normal_leaves (without service_key resource))

  -- what is written of the other attributes
  pub process_back : attributes_of (map tag_of (without service_key resource)) ≡ other_attributes resource
  process_back = attributes_back (without service_key resource) (without_rise service_key resource up)

  pub process_none : at service_key (attributes_of (map tag_of (without service_key resource))) ≡ None
  process_none = ap (at service_key) process_back ∙ others_none

  without_others : without service_key (other_attributes resource) ≡ other_attributes resource
  without_others = without_absent service_key (other_attributes resource) others_rise others_none

  -- what is written of a resource is read as its normal form
  pub resource_back : with_service (name_of resource) (without service_key (attributes_of (map tag_of (without service_key resource)))) ≡ normal_resource resource
  resource_back = ap (λ l. with_service (name_of resource) (without service_key l)) process_back ∙ ap (with_service (name_of resource)) without_others

-- ---- a resource that is read

module _ (batch : Batch) where
  read_attributes : List (List ℕ × Value)
  read_attributes = without service_key (attributes_of batch.tags)

  read_leaves : AreLeaves read_attributes
  unfolding read_attributes
  read_leaves = All-filter (λ attribute. not (bytes_eq service_key attribute.0)) (λ pair. IsLeaf pair.1) (attributes_of batch.tags)
      (all_attrs (λ pair. IsLeaf pair.1) (map attribute_of batch.tags) (tags_leaves batch.tags))

  read_rise : Rise (keys read_attributes)
  unfolding read_attributes
  read_rise = without_rise service_key (attributes_of batch.tags) (attrs_rise (map attribute_of batch.tags))

  read_none : at service_key read_attributes ≡ None
  unfolding read_attributes
  read_none = at_without service_key (attributes_of batch.tags)

  -- has no fault
  pub read_plain : (fault : Fault) → IsResourceFault (resource_of batch) fault → ⊥
  unfolding read_attributes
  read_plain = made_plain batch.service read_attributes read_rise read_none read_leaves

  -- and is its own normal form
  pub resource_read : normal_resource (resource_of batch) ≡ resource_of batch
  unfolding read_attributes
  resource_read = made_normal batch.service read_attributes read_rise read_none ∙ ap (with_service batch.service) (leaves_normal read_attributes read_leaves)
