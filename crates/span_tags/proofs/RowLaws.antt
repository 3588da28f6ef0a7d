-- What is known of rows, keys that stand with a value or not at all, and of what stands last at a key.
--     Told            each key with its value, or with none
--     rows_of told    the pairs that they are
use Rattle.std.proofs.Common.{◌≡◌, ℕ, Bool, true, false, cond, ◌||◌, List, [], ◌∷◌, ◌++◌, map, filter, Option, Some, None, option_map, refl, sym, ap, ◌∙◌, true≢false}
use Rattle.std.specs.List.{list_any}
use Rattle.std.specs.Option.{option_or}
use Rattle.std.specs.Str.{bytes_eq}
use Rattle.trace_model.specs.Attributes.{at}
use Rattle.trace_model.specs.declared.value.Value.{Value}
use Rattle.span_tags.proofs.AttributeLaws.{same_key, option_or-none, last_at, last_at-append, on_values}
use Rattle.span_tags.specs.TagWords.{Pairs, row}

-- ---- a row

both_alike : (b : Bool) (value : Option Value) → cond b value value ≡ value
both_alike true value = refl
both_alike false value = refl

pub last_at-row : (k key : List ℕ) (value : Option Value) → last_at k (row key value) ≡ cond (bytes_eq k key) value None
last_at-row k key None = sym (both_alike (bytes_eq k key) None)
last_at-row k key (Some value) = refl

-- ---- rows as data

abbrev pub Told : Type 0
Told = List (List ℕ × Option Value)

abbrev pub rows_of : Told → Pairs
rows_of [] = []
rows_of (one ∷ more) = row one.0 one.1 ++ rows_of more

abbrev pub last_told : List ℕ → Told → Option Value
last_told k [] = None
last_told k (one ∷ more) = cond (bytes_eq k one.0) (option_or (last_told k more) one.1) (last_told k more)

joined : (b : Bool) (value last : Option Value) → option_or last (cond b value None) ≡ cond b (option_or last value) last
joined true value last = refl
joined false value last = option_or-none last

pub last_at-rows : (k : List ℕ) (cs : Told) → last_at k (rows_of cs) ≡ last_told k cs
last_at-rows k [] = refl
last_at-rows k (one ∷ more) =
    last_at-append k (row one.0 one.1) (rows_of more)
    ∙ (λ i. option_or (last_at-rows k more i) (last_at-row k one.0 one.1 i))
    ∙ joined (bytes_eq k one.0) one.1 (last_told k more)

-- under other keys no row stands
pub told_none : (k : List ℕ) (cs : Told) → list_any (bytes_eq k) (map (λ one. one.0) cs) ≡ false → last_told k cs ≡ None
told_none k [] e = refl
told_none k (one ∷ more) e = by (bytes_eq k one.0) refl e (told_none k more)
  where
    by : (b : Bool) → bytes_eq k one.0 ≡ b → (b || list_any (bytes_eq k) (map (λ one. one.0) more)) ≡ false
        → (list_any (bytes_eq k) (map (λ one. one.0) more) ≡ false → last_told k more ≡ None)
        → cond b (option_or (last_told k more) one.1) (last_told k more) ≡ None
    by true same e rest = absurd (true≢false e)
    by false apart e rest = rest e

-- what pairs hold at some keys
abbrev pub told_at : Pairs → List (List ℕ) → Told
told_at l ks = map (λ k. (k, at k l)) ks

same_twice : (o : Option Value) → option_or o o ≡ o
same_twice None = refl
same_twice (Some value) = refl

again : (b : Bool) (o : Option Value) → option_or (cond b o None) o ≡ o
again true o = same_twice o
again false o = refl

pub last_told-at : (k : List ℕ) (l : Pairs) (ks : List (List ℕ)) → last_told k (told_at l ks) ≡ cond (list_any (bytes_eq k) ks) (at k l) None
last_told-at k l [] = refl
last_told-at k l (q ∷ qs) = by (bytes_eq k q) refl (last_told-at k l qs)
  where
    by : (b : Bool) → bytes_eq k q ≡ b → last_told k (told_at l qs) ≡ cond (list_any (bytes_eq k) qs) (at k l) None
        → cond b (option_or (last_told k (told_at l qs)) (at q l)) (last_told k (told_at l qs)) ≡ cond (b || list_any (bytes_eq k) qs) (at k l) None
    by true same later =
        ap (λ o. option_or o (at q l)) later
        ∙ ap (λ x. option_or (cond (list_any (bytes_eq k) qs) (at k l) None) (at x l)) (sym (same_key k q same))
        ∙ again (list_any (bytes_eq k) qs) (at k l)
    by false apart later = later

-- other values in rows
pub on_row : (g : Value → Value) (key : List ℕ) (value : Option Value) (more : Pairs) → on_values g (row key value ++ more) ≡ row key (option_map g value) ++ on_values g more
on_row g key None more = refl
on_row g key (Some value) more = refl

abbrev pub on_told : (Value → Value) → Told → Told
on_told g cs = map (λ one. (one.0, option_map g one.1)) cs

pub on_rows : (g : Value → Value) (cs : Told) → on_values g (rows_of cs) ≡ rows_of (on_told g cs)
on_rows g [] = refl
on_rows g (one ∷ more) = on_row g one.0 one.1 (rows_of more) ∙ ap (λ l. row one.0 (option_map g one.1) ++ l) (on_rows g more)

-- ---- parts by their keys

pub last_at-filter : (k : List ℕ) (f : List ℕ → Bool) (l : Pairs) → last_at k (filter (λ pair. f pair.0) l) ≡ cond (f k) (last_at k l) None
last_at-filter k f [] = sym (both_alike (f k) None)
last_at-filter k f (p ∷ l) = by (f p.0) refl (last_at-filter k f l)
  where
    kept : (c : Bool) (o : Option Value) (b : Bool) → bytes_eq k p.0 ≡ b → f p.0 ≡ true → f k ≡ c
        → option_or (cond c o None) (cond b (Some p.1) None) ≡ cond c (option_or o (cond b (Some p.1) None)) None
    kept true o b e known c_is = refl
    kept false o true e known c_is = absurd (true≢false (sym known ∙ ap f (sym (same_key k p.0 e)) ∙ c_is))
    kept false o false e known c_is = refl

    left : (c : Bool) (o : Option Value) (b : Bool) → bytes_eq k p.0 ≡ b → f p.0 ≡ false → f k ≡ c
        → cond c o None ≡ cond c (option_or o (cond b (Some p.1) None)) None
    left true o true e known c_is = absurd (true≢false (sym c_is ∙ ap f (same_key k p.0 e) ∙ known))
    left true o false e known c_is = sym (option_or-none o)
    left false o b e known c_is = refl

    by : (b : Bool) → f p.0 ≡ b → last_at k (filter (λ pair. f pair.0) l) ≡ cond (f k) (last_at k l) None
        → last_at k (cond b (p ∷ filter (λ pair. f pair.0) l) (filter (λ pair. f pair.0) l)) ≡ cond (f k) (last_at k (p ∷ l)) None
    by true known later = ap (λ o. option_or o (cond (bytes_eq k p.0) (Some p.1) None)) later ∙ kept (f k) (last_at k l) (bytes_eq k p.0) refl known refl
    by false known later = later ∙ left (f k) (last_at k l) (bytes_eq k p.0) refl known refl
