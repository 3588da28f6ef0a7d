-- The tokens of a list or map by its members, and tokens that are written in a row.
use Rattle.std.proofs.Common.{◌≡◌, ℕ, ◌+◌, ◌<◌, ◌≤◌, List, [], ◌∷◌, ◌++◌, length, take, get_or, refl, sym, ap, ◌∙◌, subst, append_assoc}
use Rattle.std.specs.List.{flat_map}
use Rattle.std.proofs.lemmas.List.{take_more, take_all, flat_map_more}
use Rattle.std.proofs.lemmas.List.Concat.{flat_map-cons}
use mathlib.Core.Former.{Count}
use Rattle.json.specs.Token.{Token, begin_array, end_array, begin_object, end_object}
use Rattle.json.specs.Tree.{items_tokens, members_tokens}
use Rattle.json.specs.Written.{Written}
use Rattle.trace_model.specs.declared.value.Value.{Value, List as Several, Map as Named, List', Map', Row_of-Value, end_of-Value, more_of-Value, Row_of-Value-Map-0-2, end_of-Value-Map-0-2, more_of-Value-Map-0-2, items-the_row-Value, items-the_row-Value-Map-0-2, items_hidden-the_row-Value-0, items_hidden-the_row-Value-Map-0-2-1}
use Rattle.trace_model.specs.ValueTexts.{json_of_each, json_of_pairs}
use Rattle.trace_model.specs.private.WrittenTokens.{Wrote, tokens_of, pair_tokens, list_tokens, map_tokens}

abbrev row_of : Value → (n : Count) × Row_of-Value n
row_of (List' _ row) = (_, row)
row_of _ = (_, end_of-Value)

abbrev pairs_of : Value → (n : Count) × Row_of-Value-Map-0-2 n
pairs_of (Map' _ row) = (_, row)
pairs_of _ = (_, end_of-Value-Map-0-2)

-- one element's tokens before those of the others and an end
first_of : {A : Type 0} (text : A → List Token) (x : A) (xs : List A) (last : List Token) → text x ++ (flat_map text xs ++ last) ≡ flat_map text (x ∷ xs) ++ last
first_of text x xs last = sym (append_assoc (text x) (flat_map text xs) last) ∙ ap (λ l. l ++ last) (sym (flat_map-cons text x xs))

each_row : (n : _) (row : Row_of-Value n) → items_tokens (json_of_each row) ≡ flat_map tokens_of (items-the_row-Value n row) ++ end_array ∷ []
unfolding tokens_of
each_row n end_of-Value = refl
each_row n (more_of-Value value rest) =
    ap (λ l. tokens_of value ++ l) (each_row _ rest) ∙ first_of tokens_of value (items-the_row-Value _ rest) (end_array ∷ [])

pairs_row : (n : _) (row : Row_of-Value-Map-0-2 n) → members_tokens (json_of_pairs row) ≡ flat_map pair_tokens (items-the_row-Value-Map-0-2 n row) ++ end_object ∷ []
unfolding tokens_of
pairs_row n end_of-Value-Map-0-2 = refl
pairs_row n (more_of-Value-Map-0-2 key value rest) =
    ap (λ l. pair_tokens (key, value) ++ l) (pairs_row _ rest) ∙ first_of pair_tokens (key, value) (items-the_row-Value-Map-0-2 _ rest) (end_object ∷ [])

pub list_of_members : (members : List Value) → tokens_of (Several members) ≡ list_tokens members
unfolding tokens_of list_tokens
list_of_members members =
    let row = row_of (Several members) in
    ap (λ l. begin_array ∷ l) (each_row row.0 row.1 ∙ ap (λ (l : List Value). flat_map tokens_of l ++ end_array ∷ []) (items_hidden-the_row-Value-0 members))

pub map_of_pairs : (pairs : List (List ℕ × Value)) → tokens_of (Named pairs) ≡ map_tokens pairs
unfolding tokens_of map_tokens
map_of_pairs pairs =
    let row = pairs_of (Named pairs) in
    ap (λ l. begin_object ∷ l) (pairs_row row.0 row.1 ∙ ap (λ (l : List (List ℕ × Value)). flat_map pair_tokens l ++ end_object ∷ []) (items_hidden-the_row-Value-Map-0-2-1 pairs))

-- ---- in a row

pub wrote : (old new : Written) (tokens : List Token) → new.before ≡ old.before → new.tokens ≡ old.tokens ++ tokens → Wrote old new tokens
wrote old new tokens before is = record { before = before; tokens = is }

pub wrote_then : (old middle new : Written) (first second : List Token) → Wrote old middle first → Wrote middle new second → Wrote old new (first ++ second)
wrote_then old middle new first second a b = record {
  before = b.before ∙ a.before;
  tokens = b.tokens ∙ ap (λ l. l ++ second) a.tokens ∙ append_assoc old.tokens first second;
}

-- an opening bracket and the elements up to one, with that one
module _ {A : Type 0} (text : A → List Token) (opening : Token) (xs : List A) where
  pub opened : (old new : Written) → Wrote old new (opening ∷ []) → Wrote old new (opening ∷ flat_map text (take 0 xs))
  opened old new h = h

  up_to : (i : ℕ) (x : A) → i < length xs → x ≡ get_or xs i x → flat_map text (take i xs) ++ text x ≡ flat_map text (take (i + 1) xs)
  up_to i x lt is =
      flat_map_more text [] (take i xs) x
      ∙ ap (flat_map text) (ap (λ (y : A). take i xs ++ y ∷ []) is ∙ sym (take_more xs i x lt))

  pub one_more : (old out new : Written) (i : ℕ) (x : A) → i < length xs → x ≡ get_or xs i x → Wrote old out (opening ∷ flat_map text (take i xs)) → Wrote out new (text x)
      → Wrote old new (opening ∷ flat_map text (take (i + 1) xs))
  one_more old out new i x lt is so_far h =
      subst (λ l. Wrote old new (opening ∷ l)) (up_to i x lt is) (wrote_then old out new (opening ∷ flat_map text (take i xs)) (text x) so_far h)

  pub closed : (closing : Token) (old out new : Written) (i : ℕ) → length xs ≤ i → Wrote old out (opening ∷ flat_map text (take i xs)) → Wrote out new (closing ∷ [])
      → Wrote old new (opening ∷ (flat_map text xs ++ closing ∷ []))
  closed closing old out new i le so_far h =
      wrote_then old out new (opening ∷ flat_map text xs) (closing ∷ [])
      (subst (λ (l : List A). Wrote old out (opening ∷ flat_map text l)) (take_all i xs le) so_far) h
