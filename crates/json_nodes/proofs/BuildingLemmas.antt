-- Nodes as they are added, and what they spell.
use Rattle.std.proofs.Common.{◌≡◌, ℕ, suc, ◌+◌, ◌-◌, ◌<◌, ◌≤◌, min, List, [], ◌∷◌, ◌++◌, length, map, Bool, Bor, refl, sym, ap, ap₂, ◌∙◌, arith, append_assoc, append-nil, length-append}
use Rattle.std.proofs.Math.ListN.{set}
use Rattle.std.proofs.lemmas.List.{set-append_right}
use Rattle.serde_json.specs.Data.{Data, null, boolean, number, string, array, object, Members, no_members, put}
use Rattle.serde_json.specs.View.{view, items_of}
use Rattle.serde_json.specs.declared.value.Value.{Value}
use Rattle.json_nodes.specs.private.Building.{Spells, Adds, member_entries}
use Rattle.json_nodes.specs.Nodes.{num_of, Entry, key, value, values_of, pairs_of, put_all, entries, spelled, value_at}
use Rattle.json_nodes.specs.declared.node.Node.{Node}
use Rattle.json_nodes.specs.declared.node.Node.TheVariants as nodes
use Rattle.json_nodes.specs.declared.number.Number.{Number}
use Rattle.json_nodes.proofs.NodeLemmas.{nodes_behind, none_before}

pub spells_none : Spells [] []
spells_none end left rest h = let e : end ≡ left = omega arith in ap (λ (n : ℕ). entries 0 n rest) e

pub spells_then : (a b : List Node) (es fs : List Entry) → Spells a es → Spells b fs → Spells (a ++ b) (es ++ fs)
spells_then a b es fs first second end left rest h =
    let enough : length a + (length b + left) ≡ end = omega (arith, length-append a b) in
    ap (entries 0 end) (append_assoc a b rest) ∙ first end (length b + left) (b ++ rest) enough
    ∙ ap (λ l. es ++ l) (second (length b + left) left rest refl) ∙ sym (append_assoc es fs (entries 0 left rest))

-- ---- a node by itself

one_less : (end left : ℕ) → 1 + left ≡ end → end ≡ suc left
one_less end left h = omega arith

pub spells_null : Spells (nodes.Null ∷ []) (value null ∷ [])
unfolding entries
spells_null end left rest h = ap (λ (n : ℕ). entries 0 n (nodes.Null ∷ rest)) (one_less end left h)

pub spells_truth : (b : Bool) → Spells (nodes.Truth b ∷ []) (value (boolean b) ∷ [])
unfolding entries
spells_truth b end left rest h = ap (λ (n : ℕ). entries 0 n (nodes.Truth b ∷ rest)) (one_less end left h)

pub spells_number : (x : Number) → Spells (nodes.Number x ∷ []) (value (number (num_of x)) ∷ [])
unfolding entries
spells_number x end left rest h = ap (λ (n : ℕ). entries 0 n (nodes.Number x ∷ rest)) (one_less end left h)

pub spells_text : (s : Bor (List ℕ)) → Spells (nodes.Text s ∷ []) (value (string s.now) ∷ [])
unfolding entries
spells_text s end left rest h = ap (λ (n : ℕ). entries 0 n (nodes.Text s ∷ rest)) (one_less end left h)

pub spells_key : (s : Bor (List ℕ)) → Spells (nodes.Key s ∷ []) (key s.now ∷ [])
unfolding entries
spells_key s end left rest h = ap (λ (n : ℕ). entries 0 n (nodes.Key s ∷ rest)) (one_less end left h)

-- ---- a node, and those inside it

module _ (inner : List Node) (es : List Entry) (spells : Spells inner es) where
  inside : (end left : ℕ) (rest : List Node) → length inner + left ≡ end → entries 0 (min (length inner) end) (inner ++ rest) ≡ es
  inside end left rest h =
      let none : length inner + 0 ≡ min (length inner) end = omega arith in
      spells (min (length inner) end) 0 rest none ∙ ap (λ l. es ++ l) (none_before 0 rest) ∙ append-nil es

  pub spells_array : Spells (nodes.Array (length inner) ∷ inner) (value (array (items_of (values_of es))) ∷ [])
  unfolding entries
  spells_array end left rest h =
      let less : end ≡ suc (length inner + left) = omega arith in
      ap (λ (n : ℕ). entries 0 n (nodes.Array (length inner) ∷ inner ++ rest)) less
      ∙ ap₂ (λ held more. value (array (items_of (values_of held))) ∷ more) (inside (length inner + left) left rest refl) (nodes_behind inner rest (length inner + left) left refl)

  pub spells_object : Spells (nodes.Object (length inner) ∷ inner) (value (object (put_all (pairs_of es) no_members)) ∷ [])
  unfolding entries
  spells_object end left rest h =
      let less : end ≡ suc (length inner + left) = omega arith in
      ap (λ (n : ℕ). entries 0 n (nodes.Object (length inner) ∷ inner ++ rest)) less
      ∙ ap₂ (λ held more. value (object (put_all (pairs_of held) no_members)) ∷ more) (inside (length inner + left) left rest refl) (nodes_behind inner rest (length inner + left) left refl)

pub spelled_whole : (ns : List Node) (es : List Entry) → Spells ns es → spelled ns ≡ es
spelled_whole ns es spells =
    let all : length ns + 0 ≡ length ns = omega arith in
    ap (entries 0 (length ns)) (sym (append-nil ns)) ∙ spells (length ns) 0 [] all ∙ ap (λ l. es ++ l) (none_before 0 []) ∙ append-nil es

-- ---- what was added

pub adds_none : (old new : List Node) → new ≡ old → Adds old new []
adds_none old new same = record { added = []; grown = same ∙ sym (append-nil old); spells = spells_none }

pub adds_node : (old new : List Node) (n : Node) (e : Entry) → new ≡ old ++ n ∷ [] → Spells (n ∷ []) (e ∷ []) → Adds old new (e ∷ [])
adds_node old new n e grown spells = record { added = n ∷ []; grown = grown; spells = spells }

pub adds_then : (old mid new : List Node) (es fs : List Entry) → Adds old mid es → Adds mid new fs → Adds old new (es ++ fs)
adds_then old mid new es fs first second = record {
  added = first.added ++ second.added;
  grown = second.grown ∙ ap (λ l. l ++ second.added) first.grown ∙ append_assoc old first.added second.added;
  spells = spells_then first.added second.added es fs first.spells second.spells;
}

pub one_whole : (new : List Node) (d : Data) → Adds [] new (value d ∷ []) → value_at new ≡ d
one_whole new d adds =
    let all : spelled new ≡ value d ∷ [] = ap spelled adds.grown ∙ spelled_whole adds.added (value d ∷ []) adds.spells in
    rw all refl

-- ---- the node of an array or object, told at last how many are inside

module _ (old opened filled : List Node) (n : Node) (es : List Entry) (place : ℕ) (here : place ≡ length old) (open_is : opened ≡ old ++ n ∷ []) (adds : Adds opened filled es) where
  all_nodes : filled ≡ old ++ n ∷ adds.added
  all_nodes = adds.grown ∙ ap (λ l. l ++ adds.added) open_is ∙ append_assoc old (n ∷ []) adds.added

  pub place_within : place < length filled
  place_within = omega (arith, ap length all_nodes, length-append old (n ∷ adds.added))

  inside_count : length filled - (place + 1) ≡ length adds.added
  inside_count = omega (arith, ap length all_nodes, length-append old (n ∷ adds.added))

  closed_as : (m : Node) → set filled place m ≡ old ++ m ∷ adds.added
  closed_as m =
      let first : place - length old ≡ 0 = omega arith in
      let behind : length old ≤ place = omega arith in
      ap (λ l. set l place m) all_nodes ∙ set-append_right old (n ∷ adds.added) (length old) place m refl behind
      ∙ ap (λ (i : ℕ). old ++ set (n ∷ adds.added) i m) first

  pub array_closed : (closed : List Node) → closed ≡ set filled place (nodes.Array (length filled - (place + 1))) → Adds old closed (value (array (items_of (values_of es))) ∷ [])
  array_closed closed is = record {
    added = nodes.Array (length adds.added) ∷ adds.added;
    grown = is ∙ closed_as (nodes.Array (length filled - (place + 1))) ∙ ap (λ (k : ℕ). old ++ nodes.Array k ∷ adds.added) inside_count;
    spells = spells_array adds.added es adds.spells;
  }

  pub object_closed : (closed : List Node) → closed ≡ set filled place (nodes.Object (length filled - (place + 1))) → Adds old closed (value (object (put_all (pairs_of es) no_members)) ∷ [])
  object_closed closed is = record {
    added = nodes.Object (length adds.added) ∷ adds.added;
    grown = is ∙ closed_as (nodes.Object (length filled - (place + 1))) ∙ ap (λ (k : ℕ). old ++ nodes.Object k ∷ adds.added) inside_count;
    spells = spells_object adds.added es adds.spells;
  }

-- ---- lists of values and of members

pub values_told : (ds : List Data) → values_of (map value ds) ≡ ds
values_told [] = refl
values_told (d ∷ ds) = ap (λ l. d ∷ l) (values_told ds)

pub one_more_value : (ds : List Data) (d : Data) → map value ds ++ value d ∷ [] ≡ map value (ds ++ d ∷ [])
one_more_value [] d = refl
one_more_value (x ∷ ds) d = ap (λ l. value x ∷ l) (one_more_value ds d)

pub members_told : (ms : List (List ℕ × Data)) → pairs_of (member_entries ms) ≡ ms
members_told [] = refl
members_told (m ∷ ms) = ap (λ l. (m.0, m.1) ∷ l) (members_told ms)

pub one_more_member : (ms : List (List ℕ × Data)) (k : List ℕ) (d : Data) → member_entries ms ++ key k ∷ value d ∷ [] ≡ member_entries (ms ++ (k, d) ∷ [])
one_more_member [] k d = refl
one_more_member (m ∷ ms) k d = ap (λ l. key m.0 ∷ value m.1 ∷ l) (one_more_member ms k d)

pub put_last : (ms : List (List ℕ × Data)) (k : List ℕ) (d : Data) (found : Members) → put_all (ms ++ (k, d) ∷ []) found ≡ put k d (put_all ms found)
put_last [] k d found = refl
put_last (m ∷ ms) k d found = put_last ms k d (put m.0 m.1 found)

pub held_values : (vs : List Value) → values_of (map (λ v. value (view v)) vs) ≡ map view vs
held_values [] = refl
held_values (v ∷ vs) = ap (λ ds. view v ∷ ds) (held_values vs)

pub held_more : (vs : List Value) (v : Value) → map (λ v. value (view v)) (vs ++ v ∷ []) ≡ map (λ v. value (view v)) vs ++ value (view v) ∷ []
held_more [] v = refl
held_more (w ∷ vs) v = ap (λ es. value (view w) ∷ es) (held_more vs v)
