-- Keys under the prefix of the resource.
use Rattle.std.proofs.Common.{◌≡◌, ◌≢◌, ℕ, Bool, true, false, cond, ◌||◌, not, List, [], ◌∷◌, ◌++◌, filter, drop, Option, Some, None, is_some, option_map, Bor, refl, sym, ap, ◌∙◌, true≢false, append_assoc, Result, Ok, Err}
use Rattle.std.proofs.lemmas.List.{append-nil}
use Rattle.std.specs.Option.{MatchOption}
use Rattle.std.specs.Result.{OnOk}
use Rattle.std.specs.Str.Pattern.{FindsTextPrefix, StripsPrefix}
use Rattle.trace_model.specs.declared.value.Value.{Value}
use Rattle.span_tags.specs.TagKeys.{service_key}
use Rattle.span_tags.specs.TagWords.{Pairs, without}
use Rattle.std.specs.Str.{bytes_eq}
use Rattle.map_zipkin.specs.Keys.{resource_prefix, resource_key, peer_key}
use Rattle.map_zipkin.specs.OwnColumns.{is_own}
use Rattle.map_zipkin.specs.TagColumns.{is_column}
use Rattle.map_zipkin.specs.Reading.{is_free_tag, resource_row, resource_tags}
use Rattle.map_zipkin.proofs.ResourceTags.{key_behind, key_in_front}

pub key_found : (key : List ℕ) (n : ℕ) → key ≡ resource_prefix ++ drop n key → resource_key key ≡ Some (drop n key)
key_found key n e = ap resource_key e ∙ key_behind (drop n key)

pub key_missed : (key : List ℕ) → ((rest : List ℕ) → key ≢ resource_prefix ++ rest) → resource_key key ≡ None
key_missed key lacks = by (resource_key key) refl
  where
    by : (o : Option (List ℕ)) → resource_key key ≡ o → o ≡ None
    by None e = refl
    by (Some rest) e = absurd (lacks rest (key_in_front key rest e))

-- what is left of a key without the prefix
pub key_stripped : (key : List ℕ) (r : Option (Bor (List ℕ)))
    → MatchOption r (FindsTextPrefix resource_prefix key None) (λ x. StripsPrefix (FindsTextPrefix resource_prefix) key x.now)
    → option_map (λ k. k.now) r ≡ resource_key key
key_stripped key None lacks = sym (key_missed key lacks)
key_stripped key (Some x) found = ap Some found.2 ∙ sym (key_found key found.0 found.1.1)

by_parts : (columns : Bool) (o : Option (List ℕ)) (told : Bool) → is_some o ≡ true → not ((columns || is_some o) || told) ≡ false
by_parts true o told e = refl
by_parts false (Some rest) told e = refl
by_parts false None told e = absurd (true≢false (sym e))

-- a key of the resource is no attribute's
pub resource_not_free : (key rest : List ℕ) → resource_key key ≡ Some rest → is_free_tag key ≡ false
resource_not_free key rest e =
    by_parts (is_column key) (resource_key key) (is_own key || bytes_eq peer_key key) (ap is_some e)

-- and the key of an attribute is none of the resource
pub free_no_resource : (key : List ℕ) → is_free_tag key ≡ true → resource_key key ≡ None
free_no_resource key is = by (resource_key key) refl
  where
    by : (o : Option (List ℕ)) → resource_key key ≡ o → o ≡ None
    by None e = refl
    by (Some rest) e = absurd (true≢false (sym is ∙ resource_not_free key rest e))

-- so nothing is added to the resource for it
pub no_resource : {T E : Type 0} (r : Result T E) (resource : Pairs) (tag : List ℕ × Value) → is_free_tag tag.0 ≡ true
    → OnOk r (resource ≡ resource ++ without service_key (resource_tags (tag ∷ [])))
no_resource (Err e) resource tag is = tt
no_resource (Ok y) resource tag is =
    sym (ap (λ o. resource ++ without service_key (resource_row o tag.1 ++ [])) (free_no_resource tag.0 is) ∙ append-nil resource)

-- ---- tags one after the other

without_both : (key : List ℕ) (a b : Pairs) → without key (a ++ b) ≡ without key a ++ without key b
without_both key [] b = refl
without_both key (p ∷ a) b = by (not (bytes_eq key p.0)) (without_both key a b)
  where
    by : (kept : Bool) → without key (a ++ b) ≡ without key a ++ without key b
        → cond kept (p ∷ without key (a ++ b)) (without key (a ++ b)) ≡ cond kept (p ∷ without key a) (without key a) ++ without key b
    by true more = ap (λ l. p ∷ l) more
    by false more = more

resource_more : (tag : List ℕ × Value) (more : Pairs) → resource_tags (tag ∷ more) ≡ resource_tags (tag ∷ []) ++ resource_tags more
resource_more tag more = ap (λ l. l ++ resource_tags more) (sym (append-nil (resource_row (resource_key tag.0) tag.1)))

pub resource_step : (tag : List ℕ × Value) (rest more all first old new : Pairs) → rest ≡ tag ∷ more
    → new ≡ old ++ without service_key (resource_tags (tag ∷ []))
    → old ++ without service_key (resource_tags rest) ≡ first ++ without service_key (resource_tags all)
    → new ++ without service_key (resource_tags more) ≡ first ++ without service_key (resource_tags all)
resource_step tag rest more all first old new left one so_far =
    let parts : without service_key (resource_tags rest) ≡ without service_key (resource_tags (tag ∷ [])) ++ without service_key (resource_tags more) =
    ap (λ l. without service_key (resource_tags l)) left ∙ ap (without service_key) (resource_more tag more)
    ∙ without_both service_key (resource_tags (tag ∷ [])) (resource_tags more) in
    ap (λ l. l ++ without service_key (resource_tags more)) one
    ∙ append_assoc old (without service_key (resource_tags (tag ∷ []))) (without service_key (resource_tags more))
    ∙ ap (λ l. old ++ l) (sym parts) ∙ so_far

abbrev free_tags : Pairs → Pairs
free_tags tags = filter (λ tag. is_free_tag tag.0) tags

free_more : (tag : List ℕ × Value) (more : Pairs) → free_tags (tag ∷ more) ≡ free_tags (tag ∷ []) ++ free_tags more
free_more tag more = by (is_free_tag tag.0)
  where
    by : (b : Bool) → cond b (tag ∷ free_tags more) (free_tags more) ≡ cond b (tag ∷ []) [] ++ free_tags more
    by true = refl
    by false = refl

pub free_step : (tag : List ℕ × Value) (rest more all first old new : Pairs) → rest ≡ tag ∷ more
    → new ≡ old ++ filter (λ tag. is_free_tag tag.0) (tag ∷ [])
    → old ++ filter (λ tag. is_free_tag tag.0) rest ≡ first ++ filter (λ tag. is_free_tag tag.0) all
    → new ++ filter (λ tag. is_free_tag tag.0) more ≡ first ++ filter (λ tag. is_free_tag tag.0) all
free_step tag rest more all first old new left one so_far =
    ap (λ l. l ++ free_tags more) one
    ∙ append_assoc old (free_tags (tag ∷ [])) (free_tags more)
    ∙ ap (λ l. old ++ l) (sym (ap free_tags left ∙ free_more tag more)) ∙ so_far
