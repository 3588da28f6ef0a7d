-- What a line adds to the rows of a table and to the fields of one.
use Rattle.std.proofs.Common.{◌≡◌, ◌<◌, ◌+◌, ℕ, true, false, List, [], ◌∷◌, ◌++◌, length, take, get_or, refl, ap, sym, ◌∙◌, append-nil}
use Rattle.std.proofs.lemmas.List.{map-append, take_more}
use Rattle.std.proofs.lemmas.List.Elements.{filter_map-append}
use Rattle.std.specs.List.{filter_map}
use Rattle.std.specs.Str.{bytes_eq}
use Rattle.row_tables.specs.Rows.{Pair, with_more, key_of, text_of, pairs_of, text_under}
use Rattle.row_tables.specs.declared.row.Field.{Field}

more_behind : (ps : List Pair) (k t m : List ℕ) → with_more (ps ++ ((k, t) ∷ [])) m ≡ ps ++ ((k, t ++ m) ∷ [])
more_behind [] k t m = refl
more_behind (p ∷ []) k t m = refl
more_behind (p ∷ q ∷ ps) k t m = ap (λ (l : List Pair). p ∷ l) (more_behind (q ∷ ps) k t m)

pub goes_on : (old front new : List Field) (f g : Field) (m : List ℕ) → old ≡ front ++ (f ∷ []) → new ≡ front ++ (g ∷ [])
    → key_of g ≡ key_of f → text_of g ≡ text_of f ++ m → pairs_of new ≡ with_more (pairs_of old) m
goes_on old front new f g m was is key text =
    let old_pairs : pairs_of old ≡ pairs_of front ++ ((key_of f, text_of f) ∷ []) = ap pairs_of was ∙ map-append (λ h. (key_of h, text_of h)) front (f ∷ []) in
    let new_pairs : pairs_of new ≡ pairs_of front ++ ((key_of g, text_of g) ∷ []) = ap pairs_of is ∙ map-append (λ h. (key_of h, text_of h)) front (g ∷ []) in
    rw (new_pairs, old_pairs, key, text) (sym (more_behind (pairs_of front) (key_of f) (text_of f) m))

texts_behind : (key : List ℕ) (fields : List Field) (i : ℕ) (f : Field) → i < length fields → f ≡ get_or fields i f
    → filter_map (text_under key) (take (i + 1) fields) ≡ filter_map (text_under key) (take i fields) ++ filter_map (text_under key) (f ∷ [])
texts_behind key fields i f h is =
    ap (filter_map (text_under key)) (take_more fields i f h)
    ∙ filter_map-append (text_under key) (take i fields) (get_or fields i f ∷ [])
    ∙ ap (λ (g : Field). filter_map (text_under key) (take i fields) ++ filter_map (text_under key) (g ∷ [])) (sym is)

-- a field of another key tells none of its texts
pub passes : (key : List ℕ) (fields : List Field) (i : ℕ) (f : Field) (so_far : List (List ℕ)) → i < length fields → f ≡ get_or fields i f
    → bytes_eq (key_of f) key ≡ false → filter_map (text_under key) (take i fields) ≡ so_far → filter_map (text_under key) (take (i + 1) fields) ≡ so_far
passes key fields i f so_far h is other before =
    let none : filter_map (text_under key) (f ∷ []) ≡ [] = rw other refl in
    texts_behind key fields i f h is ∙ ap (λ (l : List (List ℕ)). filter_map (text_under key) (take i fields) ++ l) none ∙ append-nil _ ∙ before

-- the first field of a key tells its only text so far
pub finds : (key : List ℕ) (fields : List Field) (i : ℕ) (f : Field) → i < length fields → f ≡ get_or fields i f
    → bytes_eq (key_of f) key ≡ true → filter_map (text_under key) (take i fields) ≡ [] → filter_map (text_under key) (take (i + 1) fields) ≡ text_of f ∷ []
finds key fields i f h is same before =
    let one : filter_map (text_under key) (f ∷ []) ≡ text_of f ∷ [] = rw same refl in
    texts_behind key fields i f h is ∙ rw (before, one) refl
