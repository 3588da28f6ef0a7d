-- Tags of the resource: what stands at a key under the prefix, and what stands at the key in the resource.
use Rattle.std.proofs.Common.{◌≡◌, ℕ, Bool, true, false, cond, List, [], ◌∷◌, ◌++◌, map, take, drop, Option, Some, None, is_some, refl, sym, ap, ◌∙◌, true≢false}
use Rattle.std.specs.Option.{option_or}
use Rattle.std.specs.Str.{bytes_eq}
use Rattle.std.proofs.lemmas.List.{take-append-drop}
use Rattle.span_tags.proofs.AttributeLaws.{same_key, option_or-none, last_at}
use Rattle.span_tags.specs.TagWords.{Pairs}
use Rattle.map_zipkin.specs.Keys.{resource_prefix, resource_key}
use Rattle.map_zipkin.specs.Reading.{resource_row, resource_tags}
use Rattle.map_zipkin.specs.Writing.{prefixed}

-- ---- the prefix

pub key_behind : (k : List ℕ) → resource_key (resource_prefix ++ k) ≡ Some k
key_behind k = refl

pub key_in_front : (q r : List ℕ) → resource_key q ≡ Some r → q ≡ resource_prefix ++ r
key_in_front q r e = by (bytes_eq (take 14 q) resource_prefix) refl e
  where
    by : (b : Bool) → bytes_eq (take 14 q) resource_prefix ≡ b → cond b (Some (drop 14 q)) None ≡ Some r → q ≡ resource_prefix ++ r
    by true same found =
        let behind : drop 14 q ≡ r = cc in
        sym (take-append-drop 14 q) ∙ (λ i. same_key (take 14 q) resource_prefix same i ++ behind i)
    by false apart found = absurd (true≢false (sym (ap is_some found)))

-- a key without the prefix is no key with it
pub prefixed_apart : (k q : List ℕ) → resource_key q ≡ None → bytes_eq (resource_prefix ++ k) q ≡ false
prefixed_apart k q none = by (bytes_eq (resource_prefix ++ k) q) refl
  where
    by : (b : Bool) → bytes_eq (resource_prefix ++ k) q ≡ b → b ≡ false
    by true same = absurd (true≢false (ap is_some (ap resource_key (same_key (resource_prefix ++ k) q same) ∙ none)))
    by false apart = refl

pub apart_prefixed : (k q : List ℕ) → resource_key k ≡ None → bytes_eq k (resource_prefix ++ q) ≡ false
apart_prefixed k q none = by (bytes_eq k (resource_prefix ++ q)) refl
  where
    by : (b : Bool) → bytes_eq k (resource_prefix ++ q) ≡ b → b ≡ false
    by true same = absurd (true≢false (ap is_some (ap resource_key (sym (same_key k (resource_prefix ++ q) same)) ∙ none)))
    by false apart = refl

-- ---- read

pub last_at-resource_tags : (k : List ℕ) (l : Pairs) → last_at k (resource_tags l) ≡ last_at (resource_prefix ++ k) l
last_at-resource_tags k [] = refl
last_at-resource_tags k (p ∷ l) = by (last_at-resource_tags k l) (resource_key p.0) refl
  where
    by : last_at k (resource_tags l) ≡ last_at (resource_prefix ++ k) l → (o : Option (List ℕ)) → resource_key p.0 ≡ o
        → last_at k (resource_row o p.1 ++ resource_tags l) ≡ option_or (last_at (resource_prefix ++ k) l) (cond (bytes_eq (resource_prefix ++ k) p.0) (Some p.1) None)
    by later None e = later
        ∙ sym (ap (λ b. option_or (last_at (resource_prefix ++ k) l) (cond b (Some p.1) None)) (prefixed_apart k p.0 e)
        ∙ option_or-none (last_at (resource_prefix ++ k) l))
    by later (Some r) e = ap (λ o. option_or o (cond (bytes_eq k r) (Some p.1) None)) later
        ∙ ap (λ q. option_or (last_at (resource_prefix ++ k) l) (cond (bytes_eq (resource_prefix ++ k) q) (Some p.1) None)) (sym (key_in_front p.0 r e))

-- ---- written

pub last_at-prefixed : (k : List ℕ) (l : Pairs) → last_at (resource_prefix ++ k) (map prefixed l) ≡ last_at k l
last_at-prefixed k [] = refl
last_at-prefixed k (p ∷ l) = ap (λ o. option_or o (cond (bytes_eq k p.0) (Some p.1) None)) (last_at-prefixed k l)

pub none_prefixed : (k : List ℕ) (l : Pairs) → resource_key k ≡ None → last_at k (map prefixed l) ≡ None
none_prefixed k [] none = refl
none_prefixed k (p ∷ l) none =
    ap (λ o. option_or o (cond (bytes_eq k (resource_prefix ++ p.0)) (Some p.1) None)) (none_prefixed k l none)
    ∙ ap (λ b. cond b (Some p.1) None) (apart_prefixed k p.0 none)
