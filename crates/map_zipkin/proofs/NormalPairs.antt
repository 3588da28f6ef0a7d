-- Attributes in normal form, as finite maps: under the one key the text that isn't empty, under the others the texts of values.
use Rattle.std.proofs.Common.{◌≡◌, ℕ, Bool, true, false, cond, List, [], ◌∷◌, ◌++◌, map, All, Option, Some, None, option_map, refl, sym, ap, ◌∙◌, true≢false}
use Rattle.std.specs.Prelude.{filter, not, ◌||◌}
use Rattle.std.specs.Option.{option_or}
use Rattle.std.specs.Str.{bytes_eq}
use Rattle.span_tags.proofs.AttributeLaws.{last_at, key_itself, same_key, other_way, option_or-none, at_attrs-append, attrs_rise, at_filter, filter_rise, at_map, map_rise, same_pairs}
use Rattle.span_tags.specs.TagKeys.{service_key}
use Rattle.span_tags.specs.TagWords.{Pairs, row, without, text_given, text_or_none}
use Rattle.trace_model.specs.Attributes.{Rise, keys, at}
use Rattle.trace_model.specs.ValueTexts.{value_text}
use Rattle.trace_model.specs.declared.value.Value.{Value, Text}
use Rattle.map_zipkin.specs.Keys.{peer_key}
use Rattle.map_zipkin.specs.OwnColumns.{is_own}
use Rattle.map_zipkin.specs.Normal.{normal_pairs}
use Rattle.map_zipkin.specs.Writing.{as_texts, prefixed, resource_pairs, is_told, told_pairs}
use Rattle.map_zipkin.proofs.ReadFaults.{found_has}
use Rattle.map_zipkin.proofs.ReadTexts.{IsTextPair}

-- a value as its text
abbrev pub to_text : Value → Value
to_text value = Text (value_text value)

no_row : (b : Bool) → cond {A = Option Value} b None None ≡ None
no_row true = refl
no_row false = refl

at_row : (k key : List ℕ) (o : Option Value) → last_at k (row key o) ≡ cond (bytes_eq k key) o None
at_row k key None = sym (no_row (bytes_eq k key))
at_row k key (Some value) = refl

given_text : (text : List ℕ) → text_or_none (text_given text) ≡ text
given_text [] = refl
given_text (x ∷ more) = refl

twice : (o : Option Value) → option_map to_text (option_map to_text o) ≡ option_map to_text o
twice None = refl
twice (Some value) = refl

-- the text under the key, unless it is empty
abbrev pub kept_at : List ℕ → Pairs → Option Value
kept_at key pairs = text_given (text_or_none (at key pairs))

at_rest : (key k : List ℕ) (l : Pairs) → at k (as_texts (without key l)) ≡ option_map to_text (cond (not (bytes_eq key k)) (at k l) None)
at_rest key k l = at_map to_text k (without key l) ∙ ap (option_map to_text) (at_filter k (λ q. not (bytes_eq key q)) l)

rest_rise : (key : List ℕ) (l : Pairs) → Rise (keys l) → Rise (keys (as_texts (without key l)))
rest_rise key l up = map_rise to_text (without key l) (filter_rise (λ q. not (bytes_eq key q)) l up)

module _ (key : List ℕ) (l : Pairs) (up : Rise (keys l)) where
  groups_joined : (k : List ℕ) (b : Bool) → bytes_eq key k ≡ b
      → option_or (option_map to_text (cond (not b) (at k l) None)) (cond (bytes_eq k key) (kept_at key l) None) ≡ cond b (kept_at key l) (option_map to_text (at k l))
  groups_joined k true e = ap (λ (c : Bool). cond c (kept_at key l) None) (ap (λ q. bytes_eq q key) (sym (same_key key k e)) ∙ key_itself key)
  groups_joined k false e = ap (λ (c : Bool). option_or (option_map to_text (at k l)) (cond c (kept_at key l) None)) (other_way key k e) ∙ option_or-none (option_map to_text (at k l))

  -- what stands at a key of the normal form
  pub normal_at : (k : List ℕ) → at k (normal_pairs key l) ≡ cond (bytes_eq key k) (kept_at key l) (option_map to_text (at k l))
  normal_at k = at_attrs-append k (row key (kept_at key l)) (as_texts (without key l)) (rest_rise key l up)
      ∙ ap (λ o. option_or o (last_at k (row key (kept_at key l)))) (at_rest key k l)
      ∙ ap (option_or (option_map to_text (cond (not (bytes_eq key k)) (at k l) None))) (at_row k key (kept_at key l))
      ∙ groups_joined k (bytes_eq key k) refl

  pub normal_rise : Rise (keys (normal_pairs key l))
  normal_rise = attrs_rise (row key (kept_at key l) ++ as_texts (without key l))

  at_the_key : at key (normal_pairs key l) ≡ kept_at key l
  at_the_key = normal_at key ∙ ap (λ (c : Bool). cond c (kept_at key l) (option_map to_text (at key l))) (key_itself key)

  -- the text under the key stays
  pub text_kept : text_or_none (at key (normal_pairs key l)) ≡ text_or_none (at key l)
  text_kept = ap text_or_none at_the_key ∙ given_text (text_or_none (at key l))

  pub at_others : (k : List ℕ) → bytes_eq key k ≡ false → at k (normal_pairs key l) ≡ option_map to_text (at k l)
  at_others k apart = normal_at k ∙ ap (λ (c : Bool). cond c (kept_at key l) (option_map to_text (at k l))) apart

  others_by : (k : List ℕ) (b : Bool) → bytes_eq key k ≡ b
      → option_map to_text (cond (not b) (at k (normal_pairs key l)) None) ≡ option_map to_text (cond (not b) (at k l) None)
  others_by k true e = refl
  others_by k false e = ap (option_map to_text) (at_others k e) ∙ twice (at k l)

  -- and so do the texts of the others
  pub others_kept : as_texts (without key (normal_pairs key l)) ≡ as_texts (without key l)
  others_kept = same_pairs (as_texts (without key (normal_pairs key l))) (as_texts (without key l))
      (rest_rise key (normal_pairs key l) normal_rise) (rest_rise key l up)
      (λ k. at_rest key k (normal_pairs key l) ∙ others_by k (bytes_eq key k) refl ∙ sym (at_rest key k l))

  -- ---- texts are their own

  text_leaf : (k : List ℕ) (o : Option Value) → All IsTextPair l → at k l ≡ o → option_map to_text o ≡ o
  text_leaf k None all e = refl
  text_leaf k (Some value) all e =
      let is : IsTextPair (k, value) = found_has IsTextPair k l value all e in
      ap (λ v. Some (to_text v)) is.is ∙ ap Some (sym is.is)

  itself_by : (k : List ℕ) (b : Bool) → bytes_eq key k ≡ b → All IsTextPair l → kept_at key l ≡ at key l → cond b (kept_at key l) (option_map to_text (at k l)) ≡ at k l
  itself_by k true e all kept = kept ∙ ap (λ q. at q l) (same_key key k e)
  itself_by k false e all kept = text_leaf k (at k l) all refl

  -- texts of which the one isn't empty are in normal form
  pub normal_itself : All IsTextPair l → kept_at key l ≡ at key l → normal_pairs key l ≡ l
  normal_itself all kept = same_pairs (normal_pairs key l) l normal_rise up (λ k. normal_at k ∙ itself_by k (bytes_eq key k) refl all kept)

-- ---- what is written

pub resource_same : (resource : Pairs) → Rise (keys resource) → resource_pairs (normal_pairs service_key resource) ≡ resource_pairs resource
resource_same resource up = ap (map prefixed) (others_kept service_key resource up)

at_told : (k : List ℕ) (l : Pairs) → at k (told_pairs l) ≡ option_map to_text (cond (is_told k) (at k l) None)
at_told k l = at_map to_text k (filter (λ attribute. is_told attribute.0) l) ∙ ap (option_map to_text) (at_filter k is_told l)

told_rise : (l : Pairs) → Rise (keys l) → Rise (keys (told_pairs l))
told_rise l up = map_rise to_text (filter (λ attribute. is_told attribute.0) l) (filter_rise is_told l up)

told_apart : (a b : Bool) → not (a || b) ≡ true → b ≡ false
told_apart true b e = absurd (true≢false (sym e))
told_apart false true e = absurd (true≢false (sym e))
told_apart false false e = refl

module _ (l : Pairs) (up : Rise (keys l)) where
  told_by : (k : List ℕ) (b : Bool) → is_told k ≡ b → option_map to_text (cond b (at k (normal_pairs peer_key l)) None) ≡ option_map to_text (cond b (at k l) None)
  told_by k false e = refl
  told_by k true e = ap (option_map to_text) (at_others peer_key l up k (told_apart (is_own k) (bytes_eq peer_key k) e)) ∙ twice (at k l)

  pub told_same : told_pairs (normal_pairs peer_key l) ≡ told_pairs l
  told_same = same_pairs (told_pairs (normal_pairs peer_key l)) (told_pairs l) (told_rise (normal_pairs peer_key l) (normal_rise peer_key l up)) (told_rise l up)
      (λ k. at_told k (normal_pairs peer_key l) ∙ told_by k (is_told k) refl ∙ sym (at_told k l))
