-- What nodes spell, a node at a time.
use Rattle.std.proofs.Common.{◌≡◌, ℕ, zero, suc, ◌+◌, ◌≤◌, min, List, [], ◌∷◌, ◌++◌, length, take, drop, Option, Some, None, option_map, is_some, refl, sym, ap, ap₂, ◌∙◌, arith}
use Rattle.std.proofs.lemmas.List.{length-take}
use Rattle.serde_json.specs.Data.{Data, null, boolean, number, string, array, object, no_members}
use Rattle.serde_json.specs.Find.{as_null, as_bool, as_number, as_str, as_array, as_object}
use Rattle.serde_json.specs.View.{items_of}
use Rattle.json_nodes.specs.Nodes.{num_of, Entry, key, value, next_value, values_of, pairs_of, put_all, entries, spelled, value_at}
use Rattle.json_nodes.specs.private.Parts.{first_or_null, is_null_node, truth_in, number_in, text_in, key_in, array_in, object_in, nodes_inside}
use Rattle.json_nodes.specs.declared.node.Node.{Node}
use Rattle.json_nodes.specs.declared.node.Node.TheVariants as nodes

pub none_before : (skip : ℕ) (ns : List Node) → entries skip 0 ns ≡ []
unfolding entries
none_before skip [] = refl
none_before skip (n ∷ ns) = refl

-- where the end is past the last node, it doesn't matter
pub same_end : (skip end other : ℕ) (ns : List Node) → min end (length ns) ≡ min other (length ns) → entries skip end ns ≡ entries skip other ns
unfolding entries
same_end skip end other [] h = refl
same_end skip zero zero (n ∷ ns) h = refl
same_end skip zero (suc o) (n ∷ ns) h = absurd (omega arith)
same_end skip (suc e) zero (n ∷ ns) h = absurd (omega arith)
same_end (suc s) (suc e) (suc o) (n ∷ ns) h = same_end s e o ns (omega arith)
same_end zero (suc e) (suc o) (nodes.Null ∷ ns) h = ap (λ es. value null ∷ es) (same_end 0 e o ns (omega arith))
same_end zero (suc e) (suc o) (nodes.Truth b ∷ ns) h = ap (λ es. value (boolean b) ∷ es) (same_end 0 e o ns (omega arith))
same_end zero (suc e) (suc o) (nodes.Number n ∷ ns) h = ap (λ es. value (number (num_of n)) ∷ es) (same_end 0 e o ns (omega arith))
same_end zero (suc e) (suc o) (nodes.Text s ∷ ns) h = ap (λ es. value (string s.now) ∷ es) (same_end 0 e o ns (omega arith))
same_end zero (suc e) (suc o) (nodes.Key k ∷ ns) h = ap (λ es. key k.now ∷ es) (same_end 0 e o ns (omega arith))
same_end zero (suc e) (suc o) (nodes.Array count ∷ ns) h =
    ap₂ (λ inner es. value (array (items_of (values_of inner))) ∷ es) (same_end 0 (min count e) (min count o) ns (omega arith)) (same_end count e o ns (omega arith))
same_end zero (suc e) (suc o) (nodes.Object count ∷ ns) h =
    ap₂ (λ inner es. value (object (put_all (pairs_of inner) no_members)) ∷ es) (same_end 0 (min count e) (min count o) ns (omega arith)) (same_end count e o ns (omega arith))

-- nodes from the end on may be left out
pub within : (skip end room : ℕ) (ns : List Node) → end ≤ room → entries skip end (take room ns) ≡ entries skip end ns
unfolding entries
within skip zero room ns h = none_before skip (take room ns) ∙ sym (none_before skip ns)
within skip (suc e) zero ns h = absurd (omega arith)
within skip (suc e) (suc r) [] h = refl
within (suc s) (suc e) (suc r) (n ∷ ns) h = within s e r ns (omega arith)
within zero (suc e) (suc r) (nodes.Null ∷ ns) h = ap (λ es. value null ∷ es) (within 0 e r ns (omega arith))
within zero (suc e) (suc r) (nodes.Truth b ∷ ns) h = ap (λ es. value (boolean b) ∷ es) (within 0 e r ns (omega arith))
within zero (suc e) (suc r) (nodes.Number n ∷ ns) h = ap (λ es. value (number (num_of n)) ∷ es) (within 0 e r ns (omega arith))
within zero (suc e) (suc r) (nodes.Text s ∷ ns) h = ap (λ es. value (string s.now) ∷ es) (within 0 e r ns (omega arith))
within zero (suc e) (suc r) (nodes.Key k ∷ ns) h = ap (λ es. key k.now ∷ es) (within 0 e r ns (omega arith))
within zero (suc e) (suc r) (nodes.Array count ∷ ns) h =
    ap₂ (λ inner es. value (array (items_of (values_of inner))) ∷ es) (within 0 (min count e) r ns (omega arith)) (within count e r ns (omega arith))
within zero (suc e) (suc r) (nodes.Object count ∷ ns) h =
    ap₂ (λ inner es. value (object (put_all (pairs_of inner) no_members)) ∷ es) (within 0 (min count e) r ns (omega arith)) (within count e r ns (omega arith))

-- so many nodes that follow, as a list of their own
pub spelled_inside : (count : ℕ) (ns : List Node) → spelled (take count ns) ≡ entries 0 (min count (length ns)) ns
spelled_inside count ns =
    ap (λ (e : ℕ). entries 0 e (take count ns)) (length-take count ns) ∙ within 0 (min count (length ns)) count ns (omega arith)

-- the nodes behind so many
pub spelled_behind : (count : ℕ) (ns : List Node) → spelled (drop count ns) ≡ entries count (length ns) ns
unfolding entries
spelled_behind zero ns = refl
spelled_behind (suc c) [] = refl
spelled_behind (suc c) (n ∷ ns) = spelled_behind c ns

pub nodes_behind : (front rest : List Node) (end left : ℕ) → length front + left ≡ end → entries (length front) end (front ++ rest) ≡ entries 0 left rest
unfolding entries
nodes_behind [] rest end left h = let e : end ≡ left = omega arith in ap (λ (n : ℕ). entries 0 n rest) e
nodes_behind (n ∷ front) rest zero left h = absurd (omega arith)
nodes_behind (n ∷ front) rest (suc e) left h = nodes_behind front rest e left (omega arith)

-- ---- the value that comes first

next_is : (n : Node) (ns : List Node) → option_map (λ k. (value_at (n ∷ ns), spelled (drop k ns))) (nodes_inside n) ≡ next_value (spelled (n ∷ ns))
unfolding entries
next_is nodes.Null ns = refl
next_is (nodes.Truth b) ns = refl
next_is (nodes.Number n) ns = refl
next_is (nodes.Text s) ns = refl
next_is (nodes.Key k) ns = refl
next_is (nodes.Array count) ns = ap (λ es. Some (value_at (nodes.Array count ∷ ns), es)) (spelled_behind count ns)
next_is (nodes.Object count) ns = ap (λ es. Some (value_at (nodes.Object count ∷ ns), es)) (spelled_behind count ns)

nothing : (all : List Node) → length all ≡ 0 → all ≡ []
nothing [] h = refl
nothing (n ∷ ns) h = absurd (omega arith)

pub empty_next : (all : List Node) → length all ≡ 0 → None ≡ next_value (spelled all)
unfolding entries
empty_next all h = rw (nothing all h) refl

module _ (all : List Node) (n : Node) (ns : List Node) (split : all ≡ n ∷ ns) where
  pub none_next : None ≡ nodes_inside n → None ≡ next_value (spelled all)
  none_next h = rw split (ap (option_map (λ k. (value_at (n ∷ ns), spelled (drop k ns)))) h ∙ next_is n ns)

  pub some_next : (count : ℕ) → Some count ≡ nodes_inside n → Some (value_at all, spelled (drop count ns)) ≡ next_value (spelled all)
  some_next count h = rw split (ap (option_map (λ k. (value_at (n ∷ ns), spelled (drop k ns)))) h ∙ next_is n ns)

pub null_at : (ns : List Node) → is_null_node (first_or_null ns) ≡ is_some (as_null (value_at ns))
unfolding entries
null_at [] = refl
null_at (nodes.Null ∷ ns) = refl
null_at (nodes.Truth b ∷ ns) = refl
null_at (nodes.Number n ∷ ns) = refl
null_at (nodes.Text s ∷ ns) = refl
null_at (nodes.Key k ∷ ns) = refl
null_at (nodes.Array count ∷ ns) = refl
null_at (nodes.Object count ∷ ns) = refl

pub truth_at : (ns : List Node) → truth_in (first_or_null ns) ≡ as_bool (value_at ns)
unfolding entries
truth_at [] = refl
truth_at (nodes.Null ∷ ns) = refl
truth_at (nodes.Truth b ∷ ns) = refl
truth_at (nodes.Number n ∷ ns) = refl
truth_at (nodes.Text s ∷ ns) = refl
truth_at (nodes.Key k ∷ ns) = refl
truth_at (nodes.Array count ∷ ns) = refl
truth_at (nodes.Object count ∷ ns) = refl

pub text_at : (ns : List Node) → text_in (first_or_null ns) ≡ as_str (value_at ns)
unfolding entries
text_at [] = refl
text_at (nodes.Null ∷ ns) = refl
text_at (nodes.Truth b ∷ ns) = refl
text_at (nodes.Number n ∷ ns) = refl
text_at (nodes.Text s ∷ ns) = refl
text_at (nodes.Key k ∷ ns) = refl
text_at (nodes.Array count ∷ ns) = refl
text_at (nodes.Object count ∷ ns) = refl

pub number_at : (ns : List Node) → option_map num_of (number_in (first_or_null ns)) ≡ as_number (value_at ns)
unfolding entries
number_at [] = refl
number_at (nodes.Null ∷ ns) = refl
number_at (nodes.Truth b ∷ ns) = refl
number_at (nodes.Number n ∷ ns) = refl
number_at (nodes.Text s ∷ ns) = refl
number_at (nodes.Key k ∷ ns) = refl
number_at (nodes.Array count ∷ ns) = refl
number_at (nodes.Object count ∷ ns) = refl

pub object_at : (ns : List Node) → is_some (object_in (first_or_null ns)) ≡ is_some (as_object (value_at ns))
unfolding entries
object_at [] = refl
object_at (nodes.Null ∷ ns) = refl
object_at (nodes.Truth b ∷ ns) = refl
object_at (nodes.Number n ∷ ns) = refl
object_at (nodes.Text s ∷ ns) = refl
object_at (nodes.Key k ∷ ns) = refl
object_at (nodes.Array count ∷ ns) = refl
object_at (nodes.Object count ∷ ns) = refl

-- ---- what is inside it

elements_is : (n : Node) (ns : List Node) → option_map (λ k. items_of (values_of (spelled (take k ns)))) (array_in n) ≡ as_array (value_at (n ∷ ns))
unfolding entries
elements_is nodes.Null ns = refl
elements_is (nodes.Truth b) ns = refl
elements_is (nodes.Number n) ns = refl
elements_is (nodes.Text s) ns = refl
elements_is (nodes.Key k) ns = refl
elements_is (nodes.Array count) ns = ap (λ es. Some (items_of (values_of es))) (spelled_inside count ns)
elements_is (nodes.Object count) ns = refl

members_is : (n : Node) (ns : List Node) → option_map (λ k. put_all (pairs_of (spelled (take k ns))) no_members) (object_in n) ≡ as_object (value_at (n ∷ ns))
unfolding entries
members_is nodes.Null ns = refl
members_is (nodes.Truth b) ns = refl
members_is (nodes.Number n) ns = refl
members_is (nodes.Text s) ns = refl
members_is (nodes.Key k) ns = refl
members_is (nodes.Array count) ns = refl
members_is (nodes.Object count) ns = ap (λ es. Some (put_all (pairs_of es) no_members)) (spelled_inside count ns)

pub no_elements : (all : List Node) → length all ≡ 0 → None ≡ as_array (value_at all)
unfolding entries
no_elements all h = rw (nothing all h) refl

pub no_object : (all : List Node) → length all ≡ 0 → None ≡ as_object (value_at all)
unfolding entries
no_object all h = rw (nothing all h) refl

module _ (all : List Node) (n : Node) (ns : List Node) (split : all ≡ n ∷ ns) where
  pub no_array_at : None ≡ array_in n → None ≡ as_array (value_at all)
  no_array_at h = rw split (ap (option_map (λ k. items_of (values_of (spelled (take k ns))))) h ∙ elements_is n ns)

  pub array_at : (count : ℕ) → Some count ≡ array_in n → Some (items_of (values_of (spelled (take count ns)))) ≡ as_array (value_at all)
  array_at count h = rw split (ap (option_map (λ k. items_of (values_of (spelled (take k ns))))) h ∙ elements_is n ns)

  pub no_object_at : None ≡ object_in n → None ≡ as_object (value_at all)
  no_object_at h = rw split (ap (option_map (λ k. put_all (pairs_of (spelled (take k ns))) no_members)) h ∙ members_is n ns)

  pub members_at : (count : ℕ) → Some count ≡ object_in n → Some (put_all (pairs_of (spelled (take count ns))) no_members) ≡ as_object (value_at all)
  members_at count h = rw split (ap (option_map (λ k. put_all (pairs_of (spelled (take k ns))) no_members)) h ∙ members_is n ns)

-- ---- one more element or member

abbrev pick : Data × List Entry → Option (Data × List Entry) → Data × List Entry
pick p None = p
pick p (Some q) = q

pub no_value : (ns : List Node) → None ≡ next_value (spelled ns) → values_of (spelled ns) ≡ []
no_value ns h = without (spelled ns) h
  where
    without : (es : List Entry) → None ≡ next_value es → values_of es ≡ []
    without [] e = refl
    without (key k ∷ es) e = refl
    without (value d ∷ es) e = cc

pub one_value : (ns rest : List Node) → Some (value_at ns, spelled rest) ≡ next_value (spelled ns) → values_of (spelled ns) ≡ value_at ns ∷ values_of (spelled rest)
one_value ns rest h = with_value (spelled ns) (value_at ns) (spelled rest) h
  where
    with_value : (es : List Entry) (d : Data) (more : List Entry) → Some (d, more) ≡ next_value es → values_of es ≡ d ∷ values_of more
    with_value [] d more e = cc
    with_value (key k ∷ es) d more e = cc
    with_value (value w ∷ es) d more e = sym (ap (λ p. p.0 ∷ values_of p.1) (ap (pick (d, more)) e))

key_then : (es : List Entry) (k : List ℕ) → None ≡ next_value es → pairs_of (key k ∷ es) ≡ []
key_then [] k e = refl
key_then (key l ∷ es) k e = refl
key_then (value d ∷ es) k e = cc

pair_then : (es : List Entry) (k : List ℕ) (d : Data) (more : List Entry) → Some (d, more) ≡ next_value es → pairs_of (key k ∷ es) ≡ (k, d) ∷ pairs_of more
pair_then [] k d more e = cc
pair_then (key l ∷ es) k d more e = cc
pair_then (value w ∷ es) k d more e = sym (ap (λ p. (k, p.0) ∷ pairs_of p.1) (ap (pick (d, more)) e))

pub no_pairs : (all : List Node) → length all ≡ 0 → pairs_of (spelled all) ≡ []
unfolding entries
no_pairs all h = rw (nothing all h) refl

unkeyed : (n : Node) (ns : List Node) → None ≡ key_in n → pairs_of (spelled (n ∷ ns)) ≡ []
unfolding entries
unkeyed nodes.Null ns h = refl
unkeyed (nodes.Truth b) ns h = refl
unkeyed (nodes.Number n) ns h = refl
unkeyed (nodes.Text s) ns h = refl
unkeyed (nodes.Key k) ns h = cc
unkeyed (nodes.Array count) ns h = refl
unkeyed (nodes.Object count) ns h = refl

keyed : (n : Node) (ns : List Node) (k : List ℕ) → Some k ≡ key_in n → spelled (n ∷ ns) ≡ key k ∷ spelled ns
unfolding entries
keyed nodes.Null ns l h = cc
keyed (nodes.Truth b) ns l h = cc
keyed (nodes.Number n) ns l h = cc
keyed (nodes.Text s) ns l h = cc
keyed (nodes.Key k) ns l h = let same : k.now ≡ l = cc in ap (λ x. key x ∷ spelled ns) same
keyed (nodes.Array count) ns l h = cc
keyed (nodes.Object count) ns l h = cc

module _ (all : List Node) (n : Node) (ns : List Node) (split : all ≡ n ∷ ns) where
  pub no_key_at : None ≡ key_in n → pairs_of (spelled all) ≡ []
  no_key_at h = rw split (unkeyed n ns h)

  pub key_alone : (k : List ℕ) → Some k ≡ key_in n → None ≡ next_value (spelled ns) → pairs_of (spelled all) ≡ []
  key_alone k h none = rw split (ap pairs_of (keyed n ns k h) ∙ key_then (spelled ns) k none)

  pub pair_at : (k : List ℕ) (rest : List Node) → Some k ≡ key_in n → Some (value_at ns, spelled rest) ≡ next_value (spelled ns) → pairs_of (spelled all) ≡ (k, value_at ns) ∷ pairs_of (spelled rest)
  pair_at k rest h some = rw split (ap pairs_of (keyed n ns k h) ∙ pair_then (spelled ns) k (value_at ns) (spelled rest) some)
