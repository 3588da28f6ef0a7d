-- Attributes of which all values are texts. What Zipkin leaves of attributes, their normal form, is of texts; and texts stay as they are, with
-- Jaeger and with Zipkin.
--     IsTextPair pair     its value is a text
--     kept_at key pairs   what Zipkin leaves under the one key: the text there, unless it is empty
use Rattle.std.proofs.Common.{◌≡◌, ℕ, Bool, true, false, cond, List, [], ◌∷◌, ◌++◌, All, Contains, Option, Some, None, is_some, option_map, refl, sym, ap, ◌∙◌, subst, true≢false}
use Rattle.std.specs.Prelude.{not, Any}
use Rattle.std.specs.Option.{option_or, IfSome}
use Rattle.std.specs.Str.{bytes_eq}
use Rattle.std.proofs.lemmas.List.Elements.{All-nil, All-cons, All-append, All-contains, All-filter, All-map, All-weaker}
use Rattle.std.proofs.lemmas.List.Folds.{map_fixed}
use Rattle.std.proofs.lemmas.Map.Entries.{All-lookup}
use Rattle.span_tags.proofs.AttributeLaws.{last_at, key_itself, same_key, other_way, option_or-none, key_of_some, some_of_key, last_at-append, last_at-rising, at_attrs, all_attrs, attrs_rise, at_map, map_attrs, same_pairs}
use Rattle.span_tags.proofs.RowLaws.{last_at-row, last_at-filter}
use Rattle.span_tags.specs.TagKeys.{service_key}
use Rattle.span_tags.specs.TagWords.{Pairs, row, without, text_given, text_or_none}
use Rattle.trace_model.specs.Attributes.{Rise, keys, attrs, at}
use Rattle.trace_model.specs.ValueTexts.{has_double, value_text}
use Rattle.trace_model.specs.declared.value.Value.{Value, Text}
use Rattle.map_jaeger.specs.Faults.{HasDoubleInside, HasDoubleAt}
use Rattle.map_jaeger.specs.Normal.{normal_attributes, normal_resource}
use Rattle.map_jaeger.specs.TagValues.{normal_value, normal_attribute}
use Rattle.map_zipkin.specs.Normal.{normal_pairs}
use Rattle.map_zipkin.specs.Writing.{as_text, as_texts}

abbrev pub to_text : Value → Value
to_text value = Text (value_text value)

abbrev pub IsTextValue : Value → Type 0
IsTextValue value = to_text value ≡ value

abbrev pub IsTextPair : List ℕ × Value → Type 0
IsTextPair pair = IsTextValue pair.1

-- ---- such a value

-- Jaeger leaves it
pub normal_text : (value : Value) → IsTextValue value → normal_value value ≡ value
normal_text value text = ap normal_value (sym text) ∙ text

-- there is no double in it
pub plain_text : (value : Value) → IsTextValue value → has_double value ≡ true → ⊥
plain_text value text double = true≢false (sym double ∙ ap has_double (sym text))

pub plain_inside : (value : Value) → IsTextValue value → HasDoubleInside value → ⊥
plain_inside value text = subst (λ (v : Value). HasDoubleInside v → ⊥) text (λ inside. inside)

-- ---- what Zipkin leaves

abbrev pub kept_at : List ℕ → Pairs → Option Value
kept_at key pairs = text_given (text_or_none (at key pairs))

row_texts : (key text : List ℕ) → All IsTextPair (row key (text_given text))
row_texts key [] = All-nil IsTextPair
row_texts key (x ∷ more) = All-cons IsTextPair (key, Text (x ∷ more)) [] refl (All-nil IsTextPair)

module _ (key : List ℕ) (l : Pairs) where
  pub left_texts : All IsTextPair (normal_pairs key l)
  left_texts = all_attrs IsTextPair (row key (kept_at key l) ++ as_texts (without key l))
      (All-append IsTextPair (row key (kept_at key l)) (as_texts (without key l))
      (row_texts key (text_or_none (at key l)))
      (All-map IsTextPair as_text (without key l) (λ k d lt. refl)))

  pub left_rise : Rise (keys (normal_pairs key l))
  left_rise = attrs_rise (row key (kept_at key l) ++ as_texts (without key l))

  -- ---- at a key

  last_text : (k : List ℕ) (pairs : Pairs) → last_at k (as_texts pairs) ≡ option_map to_text (last_at k pairs)
  last_text k pairs =
      sym (at_attrs k (as_texts pairs))
      ∙ ap (at k) (sym (map_attrs to_text pairs))
      ∙ at_map to_text k (attrs pairs)
      ∙ ap (option_map to_text) (at_attrs k pairs)

  last_other : (k : List ℕ) → last_at k (as_texts (without key l)) ≡ option_map to_text (cond (not (bytes_eq key k)) (last_at k l) None)
  last_other k = last_text k (without key l) ∙ ap (option_map to_text) (last_at-filter k (λ q. not (bytes_eq key q)) l)

  joined : (k : List ℕ) (b : Bool) → bytes_eq key k ≡ b
      → option_or (option_map to_text (cond (not b) (last_at k l) None)) (cond (bytes_eq k key) (kept_at key l) None) ≡ cond b (kept_at key l) (option_map to_text (last_at k l))
  joined k true e = ap (λ (c : Bool). cond c (kept_at key l) None) (ap (λ q. bytes_eq q key) (sym (same_key key k e)) ∙ key_itself key)
  joined k false e = ap (λ (c : Bool). option_or (option_map to_text (last_at k l)) (cond c (kept_at key l) None)) (other_way key k e)
      ∙ option_or-none (option_map to_text (last_at k l))

  left_at : (k : List ℕ) → at k (normal_pairs key l) ≡ cond (bytes_eq key k) (kept_at key l) (option_map to_text (last_at k l))
  left_at k = at_attrs k (row key (kept_at key l) ++ as_texts (without key l))
      ∙ last_at-append k (row key (kept_at key l)) (as_texts (without key l))
      ∙ (λ i. option_or (last_other k i) (last_at-row k key (kept_at key l) i))
      ∙ joined k (bytes_eq key k) refl

  left_at_key : at key (normal_pairs key l) ≡ kept_at key l
  left_at_key = left_at key ∙ ap (λ (c : Bool). cond c (kept_at key l) (option_map to_text (last_at key l))) (key_itself key)

  -- under another key stands the text of what stood there
  pub left_at_other : (k : List ℕ) → Rise (keys l) → bytes_eq key k ≡ false → at k (normal_pairs key l) ≡ option_map to_text (at k l)
  left_at_other k up apart = left_at k
      ∙ ap (λ (c : Bool). cond c (kept_at key l) (option_map to_text (last_at k l))) apart
      ∙ ap (option_map to_text) (last_at-rising k l up)

-- ---- texts stay

module _ (key : List ℕ) (l : Pairs) (up : Rise (keys l)) (texts : All IsTextPair l) where
  others_by : (o : Option Value) → IfSome o IsTextValue → option_map to_text o ≡ o
  others_by None text = refl
  others_by (Some value) text = ap Some text

  text_at : (k : List ℕ) → option_map to_text (at k l) ≡ at k l
  text_at k = others_by (at k l) (All-lookup IsTextValue (bytes_eq k) l texts)

  same_by : kept_at key l ≡ at key l → (k : List ℕ) (b : Bool) → bytes_eq key k ≡ b → cond b (kept_at key l) (option_map to_text (last_at k l)) ≡ at k l
  same_by kept k true e = kept ∙ ap (λ q. at q l) (same_key key k e)
  same_by kept k false e = ap (option_map to_text) (last_at-rising k l up) ∙ text_at k

  pub texts_left : kept_at key l ≡ at key l → normal_pairs key l ≡ l
  texts_left kept = same_pairs (normal_pairs key l) l (left_rise key l) up (λ k. left_at key l k ∙ same_by kept k (bytes_eq key k) refl)

given_again : (text : List ℕ) → text_given (text_or_none (text_given text)) ≡ text_given text
given_again [] = refl
given_again (x ∷ more) = refl

-- Jaeger leaves texts
pub texts_normal : (l : Pairs) → All IsTextPair l → normal_attributes l ≡ l
texts_normal l texts = map_fixed normal_attribute l (All-weaker IsTextPair (λ pair. normal_attribute pair ≡ pair) each l texts)
  where
    each : (pair : List ℕ × Value) → IsTextPair pair → normal_attribute pair ≡ pair
    each pair text = let value : normal_value pair.1 ≡ pair.1 = normal_text pair.1 text in λ i. (pair.0, value i)

texts_as_texts : (l : Pairs) → All IsTextPair l → as_texts l ≡ l
texts_as_texts l texts = map_fixed as_text l (All-weaker IsTextPair (λ pair. as_text pair ≡ pair) each l texts)
  where
    each : (pair : List ℕ × Value) → IsTextPair pair → as_text pair ≡ pair
    each pair text = λ i. (pair.0, text i)

-- of a resource of texts Jaeger and Zipkin leave the same
texts_resource : (l : Pairs) → All IsTextPair l → normal_resource l ≡ normal_pairs service_key l
texts_resource l texts =
    let others : All IsTextPair (without service_key l) = All-filter (λ pair. not (bytes_eq service_key pair.0)) IsTextPair l texts in
    ap (λ (rest : Pairs). attrs (row service_key (kept_at service_key l) ++ rest))
    (texts_normal (without service_key l) others ∙ sym (texts_as_texts (without service_key l) others))

-- what Zipkin leaves, Zipkin leaves again
pub left_again : (key : List ℕ) (l : Pairs) → normal_pairs key (normal_pairs key l) ≡ normal_pairs key l
left_again key l = texts_left key (normal_pairs key l) (left_rise key l) (left_texts key l)
    (ap (λ o. text_given (text_or_none o)) (left_at_key key l) ∙ given_again (text_or_none (at key l)) ∙ sym (left_at_key key l))

-- and so does Jaeger, of a resource
pub resource_stays : (l : Pairs) → normal_resource (normal_pairs service_key l) ≡ normal_pairs service_key l
resource_stays l = texts_resource (normal_pairs service_key l) (left_texts service_key l) ∙ left_again service_key l

-- ---- keys

some_kept : (o : Option Value) → is_some (text_given (text_or_none o)) ≡ true → is_some o ≡ true
some_kept None e = e
some_kept (Some value) e = refl

some_text : (o : Option Value) → is_some (option_map to_text o) ≡ true → is_some o ≡ true
some_text None e = e
some_text (Some value) e = refl

module _ (key : List ℕ) (l : Pairs) (up : Rise (keys l)) where
  some_by : (k : List ℕ) (b : Bool) → bytes_eq key k ≡ b → is_some (cond b (kept_at key l) (option_map to_text (last_at k l))) ≡ true → is_some (at k l) ≡ true
  some_by k true same is = ap (λ q. is_some (at q l)) (sym (same_key key k same)) ∙ some_kept (at key l) is
  some_by k false apart is = ap is_some (sym (last_at-rising k l up)) ∙ some_text (last_at k l) is

  -- a key that is left stood there
  pub left_key : (k : List ℕ) → Contains (keys (normal_pairs key l)) k → Contains (keys l) k
  left_key k there = key_of_some k l
      (some_by k (bytes_eq key k) refl (ap is_some (sym (left_at key l k)) ∙ some_of_key k (normal_pairs key l) there))

-- ---- no double stands in texts

none_at : (o : Option Value) → IfSome o IsTextValue → HasDoubleAt o → ⊥
none_at None text double = double
none_at (Some value) text double = plain_text value text double

pub texts_plain_at : (k : List ℕ) (l : Pairs) → All IsTextPair l → HasDoubleAt (at k l) → ⊥
texts_plain_at k l texts = none_at (at k l) (All-lookup IsTextValue (bytes_eq k) l texts)

pub texts_plain_inside : (l : Pairs) → All IsTextPair l → Any (λ pair. HasDoubleInside pair.1) l → ⊥
texts_plain_inside l texts (k, pair, lt, there, inside) = plain_inside pair.1 (All-contains IsTextPair l pair texts (k, lt, there)) inside
