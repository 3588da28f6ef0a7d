-- What a walk passes is the text of a tree, and such a text is passed.
use Rattle.std.proofs.Common.{◌≡◌, ◌≤◌, ◌<◌, ◌++◌, ◌∷◌, ◌⊎◌, ◌↔◌, inl, inr, ℕ, zero, suc, ℤ, pos, Bool, List, [], length, Option, Some, None, refl, ap, sym, subst, arith}
use Rattle.span_io.specs.declared.cause.Cause.{Cause}
use Rattle.thrift_core.specs.declared.field.Field.{Field}
use Rattle.thrift_core.specs.declared.field.ListHead.{ListHead}
use Rattle.thrift_core.specs.declared.field.MapHead.{MapHead}
use Rattle.thrift_core.specs.declared.type_code.TypeCode.{TypeCode}
use Rattle.thrift_core.specs.declared.type_code.TypeCode.TheVariants as kinds
use Rattle.thrift_core.specs.Parts.{Part, header, size, list_head, map_head, Spelling, Begins}
use Rattle.thrift_core.specs.Trees.{Leaf, truth_value, i8, i16, i32, i64, double, leaf_kind, Tree, Fields, Trees, Pairs, leaf, binary, structure, map_of, set_of, list_of, no_fields, field_then, no_trees, tree_then, no_pairs, pair_then, kind_of, tree_count, pair_count, LeafThen, ValueThen, FieldsThen, ElementsThen, PairsThen}
use Rattle.thrift_core.specs.Protocols.{PartLaws}
use Rattle.thrift_core.specs.Walks.{Open, in_struct, in_value, in_elements, in_pairs, in_bytes, first_of, opened_by_header, opened_elements, opened_pairs, Turn, Turns, Passes, WholeOf}
use Rattle.thrift_core.proofs.Determined.{no_turns, one_turn, passes_on}

-- ---- the text of a tree is passed

module _ (Spells : Spelling) where
  turn_and : (top : Open) (below : List Open) (whole : List ℕ) (opened : List Open) (between : List ℕ) (after : List Open) (rest : List ℕ) → Turn Spells (first_of top) whole opened between → Passes Spells (opened ++ below) between after rest → Passes Spells (top ∷ below) whole after rest
  turn_and top below whole opened between after rest h g = passes_on Spells (top ∷ below) whole (opened ++ below) between after rest (one_turn Spells top below whole opened between h) g

  nothing_left : (stack : List Open) (whole rest : List ℕ) → whole ≡ rest → Passes Spells stack whole stack rest
  nothing_left stack whole rest e = subst (λ l. Passes Spells stack whole stack l) e (no_turns Spells stack whole)

  leaf_on : (x : Leaf) (left : ℕ) (held : Option Bool) (whole rest : List ℕ) (below : List Open) → LeafThen Spells x held whole rest → Passes Spells (in_value left (leaf_kind x) held ∷ below) whole below rest
  leaf_on (truth_value b) left held whole rest below h = one_turn Spells (in_value left kinds.Truth held) below whole [] rest (b, h, refl)
  leaf_on (i8 n) left held whole rest below h = one_turn Spells (in_value left kinds.I8 held) below whole [] rest (n, h, refl)
  leaf_on (i16 n) left held whole rest below h = one_turn Spells (in_value left kinds.I16 held) below whole [] rest (n, h, refl)
  leaf_on (i32 n) left held whole rest below h = one_turn Spells (in_value left kinds.I32 held) below whole [] rest (n, h, refl)
  leaf_on (i64 n) left held whole rest below h = one_turn Spells (in_value left kinds.I64 held) below whole [] rest (n, h, refl)
  leaf_on (double bytes) left held whole rest below h = one_turn Spells (in_value left kinds.Eight held) below whole [] rest (bytes, h, refl)

  no_elements_on : (kind : Option TypeCode) (left : ℕ) (whole rest : List ℕ) (below : List Open) → whole ≡ rest → Passes Spells (opened_elements left kind zero ++ below) whole below rest
  no_elements_on None left whole rest below e = nothing_left below whole rest e
  no_elements_on (Some kind) left whole rest below e = one_turn Spells (in_elements left kind zero) below whole [] rest (refl, e)

  no_pairs_on : (key value : Option TypeCode) (left : ℕ) (whole rest : List ℕ) (below : List Open) → whole ≡ rest → Passes Spells (opened_pairs left key value zero ++ below) whole below rest
  no_pairs_on None value left whole rest below e = nothing_left below whole rest e
  no_pairs_on (Some key) None left whole rest below e = nothing_left below whole rest e
  no_pairs_on (Some key) (Some value) left whole rest below e = one_turn Spells (in_pairs left key value zero) below whole [] rest (refl, e)

  mutual
    unfolding ValueThen FieldsThen ElementsThen PairsThen tree_count pair_count

    pub value_on : (tree : Tree) (left : ℕ) (held : Option Bool) (whole rest : List ℕ) (below : List Open) → ValueThen Spells tree left held whole rest → Passes Spells (in_value left (kind_of tree) held ∷ below) whole below rest
    value_on (leaf x) left held whole rest below h = leaf_on x left held whole rest below h
    value_on (binary bytes) left held whole rest below h =
        turn_and (in_value left kinds.Binary held) below whole (in_bytes (length bytes) ∷ []) h.0 below rest (length bytes, h.1, refl) (one_turn Spells (in_bytes (length bytes)) below h.0 [] rest (bytes, h.2, refl, refl))
    value_on (structure inner) zero held whole rest below h = absurd h
    value_on (structure inner) (suc left) held whole rest below h =
        turn_and (in_value (suc left) kinds.Struct held) below whole (in_struct left (pos 0) ∷ []) whole below rest (refl, refl) (fields_on inner left (pos 0) whole rest below h)
    value_on (map_of pairs) zero held whole rest below h = absurd h
    value_on (map_of pairs) (suc left) held whole rest below h =
        turn_and (in_value (suc left) kinds.Map held) below whole (opened_pairs left h.0.key h.0.value h.0.size) h.1 below rest (h.0, h.2, refl)
        (subst (λ many. Passes Spells (opened_pairs left h.0.key h.0.value many ++ below) h.1 below rest) (sym h.3) (pairs_on pairs h.0.key h.0.value left h.1 rest below h.4))
    value_on (set_of trees) zero held whole rest below h = absurd h
    value_on (set_of trees) (suc left) held whole rest below h =
        turn_and (in_value (suc left) kinds.Set held) below whole (opened_elements left h.0.element h.0.size) h.1 below rest (h.0, h.2, refl)
        (subst (λ many. Passes Spells (opened_elements left h.0.element many ++ below) h.1 below rest) (sym h.3) (elements_on trees h.0.element left h.1 rest below h.4))
    value_on (list_of trees) zero held whole rest below h = absurd h
    value_on (list_of trees) (suc left) held whole rest below h =
        turn_and (in_value (suc left) kinds.List held) below whole (opened_elements left h.0.element h.0.size) h.1 below rest (h.0, h.2, refl)
        (subst (λ many. Passes Spells (opened_elements left h.0.element many ++ below) h.1 below rest) (sym h.3) (elements_on trees h.0.element left h.1 rest below h.4))

    pub fields_on : (fields : Fields) (left : ℕ) (last : ℤ) (whole rest : List ℕ) (below : List Open) → FieldsThen Spells fields left last whole rest → Passes Spells (in_struct left last ∷ below) whole below rest
    fields_on no_fields left last whole rest below h = one_turn Spells (in_struct left last) below whole [] rest (None, h, refl)
    fields_on (field_then id tree more) left last whole rest below h =
        turn_and (in_struct left last) below whole (in_value left (kind_of tree) h.0 ∷ in_struct left id ∷ []) h.1 below rest (Some (record { id = id; kind = kind_of tree; held = h.0 }), h.3, refl)
        (passes_on Spells (in_value left (kind_of tree) h.0 ∷ in_struct left id ∷ below) h.1 (in_struct left id ∷ below) h.2 below rest
        (value_on tree left h.0 h.1 h.2 (in_struct left id ∷ below) h.4)
        (fields_on more left id h.2 rest below h.5))

    pub elements_on : (trees : Trees) (kind : Option TypeCode) (left : ℕ) (whole rest : List ℕ) (below : List Open) → ElementsThen Spells trees kind left whole rest → Passes Spells (opened_elements left kind (tree_count trees) ++ below) whole below rest
    elements_on no_trees kind left whole rest below h = no_elements_on kind left whole rest below h
    elements_on (tree_then tree more) kind left whole rest below h =
        let inner : Passes Spells (in_elements left (kind_of tree) (tree_count more) ∷ below) h.1 below rest =
        subst (λ k. Passes Spells (opened_elements left k (tree_count more) ++ below) h.1 below rest) h.0 (elements_on more kind left h.1 rest below h.3) in
        let all : Passes Spells (in_elements left (kind_of tree) (suc (tree_count more)) ∷ below) whole below rest =
        turn_and (in_elements left (kind_of tree) (suc (tree_count more))) below whole (in_value left (kind_of tree) None ∷ in_elements left (kind_of tree) (tree_count more) ∷ []) whole below rest (refl, refl)
        (passes_on Spells (in_value left (kind_of tree) None ∷ in_elements left (kind_of tree) (tree_count more) ∷ below) whole (in_elements left (kind_of tree) (tree_count more) ∷ below) h.1 below rest
        (value_on tree left None whole h.1 (in_elements left (kind_of tree) (tree_count more) ∷ below) h.2)
        inner) in
        subst (λ k. Passes Spells (opened_elements left k (suc (tree_count more)) ++ below) whole below rest) (sym h.0) all

    pub pairs_on : (pairs : Pairs) (key value : Option TypeCode) (left : ℕ) (whole rest : List ℕ) (below : List Open) → PairsThen Spells pairs key value left whole rest → Passes Spells (opened_pairs left key value (pair_count pairs) ++ below) whole below rest
    pairs_on no_pairs key value left whole rest below h = no_pairs_on key value left whole rest below h
    pairs_on (pair_then first second more) key value left whole rest below h =
        let a : TypeCode = kind_of first in
        let b : TypeCode = kind_of second in
        let inner : Passes Spells (in_pairs left a b (pair_count more) ∷ below) h.3 below rest =
        subst (λ v. Passes Spells (opened_pairs left (Some a) v (pair_count more) ++ below) h.3 below rest) h.1
        (subst (λ k. Passes Spells (opened_pairs left k value (pair_count more) ++ below) h.3 below rest) h.0 (pairs_on more key value left h.3 rest below h.6)) in
        let all : Passes Spells (in_pairs left a b (suc (pair_count more)) ∷ below) whole below rest =
        turn_and (in_pairs left a b (suc (pair_count more))) below whole (in_value left a None ∷ in_value left b None ∷ in_pairs left a b (pair_count more) ∷ []) whole below rest (refl, refl)
        (passes_on Spells (in_value left a None ∷ in_value left b None ∷ in_pairs left a b (pair_count more) ∷ below) whole (in_value left b None ∷ in_pairs left a b (pair_count more) ∷ below) h.2 below rest
        (value_on first left None whole h.2 (in_value left b None ∷ in_pairs left a b (pair_count more) ∷ below) h.4)
        (passes_on Spells (in_value left b None ∷ in_pairs left a b (pair_count more) ∷ below) h.2 (in_pairs left a b (pair_count more) ∷ below) h.3 below rest
        (value_on second left None h.2 h.3 (in_pairs left a b (pair_count more) ∷ below) h.5)
        inner)) in
        subst (λ k. Passes Spells (opened_pairs left k value (suc (pair_count more)) ++ below) whole below rest) (sym h.0)
        (subst (λ v. Passes Spells (opened_pairs left (Some a) v (suc (pair_count more)) ++ below) whole below rest) (sym h.1) all)

-- ---- what is passed is the text of a tree

-- what a walk passes first, and fewer turns over the rest
record Back (Spells : Spelling) {T : Type 0} (Is : T → List ℕ → Type 0) (most : ℕ) (below : List Open) (rest : List ℕ) : Type 0 where
  tree : T
  between : List ℕ
  is : Is tree between
  count : ℕ
  fewer : count < most
  turns : Turns Spells count below between [] rest

abbrev IsValue : Spelling → ℕ → TypeCode → Option Bool → List ℕ → Tree → List ℕ → Type 0
IsValue Spells left kind held whole tree rest = (kind_of tree ≡ kind) × ValueThen Spells tree left held whole rest

abbrev AreElements : Spelling → ℕ → Option TypeCode → ℕ → List ℕ → Trees → List ℕ → Type 0
AreElements Spells left kind many whole trees rest = (many ≡ tree_count trees) × ElementsThen Spells trees kind left whole rest

abbrev ArePairs : Spelling → ℕ → Option TypeCode → Option TypeCode → ℕ → List ℕ → Pairs → List ℕ → Type 0
ArePairs Spells left key value many whole pairs rest = (many ≡ pair_count pairs) × PairsThen Spells pairs key value left whole rest

no_turn : (Spells : Spelling) (count : ℕ) (top : Open) (below : List Open) (whole rest : List ℕ) → count ≤ 0 → Turns Spells count (top ∷ below) whole [] rest → ⊥
unfolding Turns
no_turn Spells zero top below whole rest within h = let e : top ∷ below ≡ [] = h.0 in cc
no_turn Spells (suc n) top below whole rest within h = omega (arith, within)

-- each walk of at most so many turns
record Backs (Spells : Spelling) (most : ℕ) : Type 0 where
  value : (left : ℕ) (kind : TypeCode) (held : Option Bool) (below : List Open) (whole rest : List ℕ) (count : ℕ) → count ≤ most → Turns Spells count (in_value left kind held ∷ below) whole [] rest
      → Back Spells (IsValue Spells left kind held whole) count below rest
  fields : (left : ℕ) (last : ℤ) (below : List Open) (whole rest : List ℕ) (count : ℕ) → count ≤ most → Turns Spells count (in_struct left last ∷ below) whole [] rest
      → Back Spells (λ fields mid. FieldsThen Spells fields left last whole mid) count below rest
  elements : (left : ℕ) (kind : TypeCode) (many : ℕ) (below : List Open) (whole rest : List ℕ) (count : ℕ) → count ≤ most → Turns Spells count (in_elements left kind many ∷ below) whole [] rest
      → Back Spells (AreElements Spells left (Some kind) many whole) count below rest
  pairs : (left : ℕ) (key value : TypeCode) (many : ℕ) (below : List Open) (whole rest : List ℕ) (count : ℕ) → count ≤ most → Turns Spells count (in_pairs left key value many ∷ below) whole [] rest
      → Back Spells (ArePairs Spells left (Some key) (Some value) many whole) count below rest

module _ (Spells : Spelling) (ThenVarint : Part → List ℕ → Type 0) (Refuses : Part → Cause → List ℕ → Type 0) (L : PartLaws Spells ThenVarint Refuses) where
  -- a part that opens nothing
  leaf_back : (left : ℕ) (held : Option Bool) (x : Leaf) (below opened : List Open) (whole between rest : List ℕ) (n : ℕ) → LeafThen Spells x held whole between → opened ≡ [] → Turns Spells n (opened ++ below) between [] rest
      → Back Spells (IsValue Spells left (leaf_kind x) held whole) (suc n) below rest
  unfolding ValueThen
  leaf_back left held x below opened whole between rest n h e turns = record {
    tree = leaf x;
    between = between;
    is = (refl, h);
    count = n;
    fewer = omega arith;
    turns = subst (λ s. Turns Spells n (s ++ below) between [] rest) e turns;
  }

  bytes_back : (left : ℕ) (held : Option Bool) (many : ℕ) (below : List Open) (whole between rest : List ℕ) (n : ℕ) → Begins Spells size many whole between → Turns Spells n (in_bytes many ∷ below) between [] rest
      → Back Spells (IsValue Spells left kinds.Binary held whole) (suc n) below rest
  unfolding ValueThen Turns
  bytes_back left held many below whole between rest zero h turns = (let e : in_bytes many ∷ below ≡ [] = turns.0 in cc)
  bytes_back left held many below whole between rest (suc n) h turns = record {
    tree = binary turns.2.0;
    between = turns.1;
    is = (refl, (between, subst (λ k. Begins Spells size k whole between) (sym turns.2.2) h, turns.2.1));
    count = n;
    fewer = omega arith;
    turns = subst (λ s. Turns Spells n (s ++ below) turns.1 [] rest) turns.2.3 turns.3;
  }

  module _ (most : ℕ) (B : Backs Spells most) where
    list_none : (left : ℕ) (head : ListHead) (text : List ℕ) → Spells (list_head left) head text → head.element ≡ None → (head.size ≤ 0) ⊎ (1 ≤ head.size) → head.size ≡ 0
    list_none left head text h e (inl few) = omega (arith, few)
    list_none left head text h e (inr some) = let w = L.list_level left head text h some in let f : head.element ≡ Some w.0 = w.1 in cc

    few_or_some : (n : ℕ) → (n ≤ 0) ⊎ (1 ≤ n)
    few_or_some zero = inl (omega arith)
    few_or_some (suc n) = inr (omega arith)

    list_back : (left : ℕ) (head : ListHead) (text : List ℕ) → Spells (list_head left) head text → (element : Option TypeCode) → head.element ≡ element → (below : List Open) (whole rest : List ℕ) (n : ℕ) → n ≤ most
        → Turns Spells n (opened_elements left element head.size ++ below) whole [] rest → Back Spells (AreElements Spells left element head.size whole) (suc n) below rest
    unfolding ElementsThen tree_count
    list_back left head text h None e below whole rest n within turns = record {
      tree = no_trees;
      between = whole;
      is = (list_none left head text h e (few_or_some head.size), refl);
      count = n;
      fewer = omega arith;
      turns = turns;
    }
    list_back left head text h (Some kind) e below whole rest n within turns =
        let b = B.elements left kind head.size below whole rest n within turns in
        record { tree = b.tree; between = b.between; is = b.is; count = b.count; fewer = omega (arith, b.fewer); turns = b.turns }

    map_none : (left : ℕ) (head : MapHead) (text : List ℕ) → Spells (map_head left) head text → (head.key ≡ None) ⊎ (head.value ≡ None) → (head.size ≤ 0) ⊎ (1 ≤ head.size) → head.size ≡ 0
    map_none left head text h e (inl few) = omega (arith, few)
    map_none left head text h (inl e) (inr some) = let w = L.map_level left head text h some in let f : head.key ≡ Some w.0 = w.2 in cc
    map_none left head text h (inr e) (inr some) = let w = L.map_level left head text h some in let f : head.value ≡ Some w.1 = w.3 in cc

    no_map_back : (left : ℕ) (head : MapHead) (text : List ℕ) → Spells (map_head left) head text → (key value : Option TypeCode) → (head.key ≡ None) ⊎ (head.value ≡ None) → (below : List Open) (whole rest : List ℕ) (n : ℕ)
        → Turns Spells n below whole [] rest → Back Spells (ArePairs Spells left key value head.size whole) (suc n) below rest
    unfolding PairsThen pair_count
    no_map_back left head text h key value e below whole rest n turns = record {
      tree = no_pairs;
      between = whole;
      is = (map_none left head text h e (few_or_some head.size), refl);
      count = n;
      fewer = omega arith;
      turns = turns;
    }

    map_back : (left : ℕ) (head : MapHead) (text : List ℕ) → Spells (map_head left) head text → (key value : Option TypeCode) → head.key ≡ key → head.value ≡ value → (below : List Open) (whole rest : List ℕ) (n : ℕ) → n ≤ most
        → Turns Spells n (opened_pairs left key value head.size ++ below) whole [] rest → Back Spells (ArePairs Spells left key value head.size whole) (suc n) below rest
    map_back left head text h None value e f below whole rest n within turns = no_map_back left head text h None value (inl e) below whole rest n turns
    map_back left head text h (Some key) None e f below whole rest n within turns = no_map_back left head text h (Some key) None (inr f) below whole rest n turns
    map_back left head text h (Some key) (Some value) e f below whole rest n within turns =
        let b = B.pairs left key value head.size below whole rest n within turns in
        record { tree = b.tree; between = b.between; is = b.is; count = b.count; fewer = omega (arith, b.fewer); turns = b.turns }

    value_turn : (left : ℕ) (kind : TypeCode) (held : Option Bool) (below opened : List Open) (whole between rest : List ℕ) (n : ℕ) → n ≤ most → Turn Spells (first_of (in_value left kind held)) whole opened between → Turns Spells n (opened ++ below) between [] rest
        → Back Spells (IsValue Spells left kind held whole) (suc n) below rest
    unfolding ValueThen
    value_turn left kinds.Truth held below opened whole between rest n within h turns = leaf_back left held (truth_value h.0) below opened whole between rest n h.1 h.2 turns
    value_turn left kinds.I8 held below opened whole between rest n within h turns = leaf_back left held (i8 h.0) below opened whole between rest n h.1 h.2 turns
    value_turn left kinds.I16 held below opened whole between rest n within h turns = leaf_back left held (i16 h.0) below opened whole between rest n h.1 h.2 turns
    value_turn left kinds.I32 held below opened whole between rest n within h turns = leaf_back left held (i32 h.0) below opened whole between rest n h.1 h.2 turns
    value_turn left kinds.I64 held below opened whole between rest n within h turns = leaf_back left held (i64 h.0) below opened whole between rest n h.1 h.2 turns
    value_turn left kinds.Eight held below opened whole between rest n within h turns = leaf_back left held (double h.0) below opened whole between rest n h.1 h.2 turns
    value_turn left kinds.Binary held below opened whole between rest n within h turns = bytes_back left held h.0 below whole between rest n h.1 (subst (λ s. Turns Spells n (s ++ below) between [] rest) h.2 turns)
    value_turn (suc left) kinds.Struct held below opened whole between rest n within h turns =
        let b = B.fields left (pos 0) below between rest n within (subst (λ s. Turns Spells n (s ++ below) between [] rest) h.0 turns) in
        record {
          tree = structure b.tree;
          between = b.between;
          is = (refl, subst (λ l. FieldsThen Spells b.tree left (pos 0) l b.between) (sym h.1) b.is);
          count = b.count;
          fewer = omega (arith, b.fewer);
          turns = b.turns;
        }
    value_turn (suc left) kinds.Map held below opened whole between rest n within h turns =
        let b = map_back left h.0 h.1.text h.1.spelled h.0.key h.0.value refl refl below between rest n within (subst (λ s. Turns Spells n (s ++ below) between [] rest) h.2 turns) in
        record { tree = map_of b.tree; between = b.between; is = (refl, (h.0, between, h.1, b.is.0, b.is.1)); count = b.count; fewer = b.fewer; turns = b.turns }
    value_turn (suc left) kinds.Set held below opened whole between rest n within h turns =
        let b = list_back left h.0 h.1.text h.1.spelled h.0.element refl below between rest n within (subst (λ s. Turns Spells n (s ++ below) between [] rest) h.2 turns) in
        record { tree = set_of b.tree; between = b.between; is = (refl, (h.0, between, h.1, b.is.0, b.is.1)); count = b.count; fewer = b.fewer; turns = b.turns }
    value_turn (suc left) kinds.List held below opened whole between rest n within h turns =
        let b = list_back left h.0 h.1.text h.1.spelled h.0.element refl below between rest n within (subst (λ s. Turns Spells n (s ++ below) between [] rest) h.2 turns) in
        record { tree = list_of b.tree; between = b.between; is = (refl, (h.0, between, h.1, b.is.0, b.is.1)); count = b.count; fewer = b.fewer; turns = b.turns }
    value_turn zero kinds.Struct held below opened whole between rest n within h turns = absurd h
    value_turn zero kinds.Map held below opened whole between rest n within h turns = absurd h
    value_turn zero kinds.Set held below opened whole between rest n within h turns = absurd h
    value_turn zero kinds.List held below opened whole between rest n within h turns = absurd h

    value_back : (left : ℕ) (kind : TypeCode) (held : Option Bool) (below : List Open) (whole rest : List ℕ) (count : ℕ) → count ≤ suc most → Turns Spells count (in_value left kind held ∷ below) whole [] rest
        → Back Spells (IsValue Spells left kind held whole) count below rest
    unfolding Turns
    value_back left kind held below whole rest zero within h = (let e : in_value left kind held ∷ below ≡ [] = h.0 in cc)
    value_back left kind held below whole rest (suc n) within h = value_turn left kind held below h.0 whole h.1 rest n (omega (arith, within)) h.2 h.3

    fields_turn : (left : ℕ) (last : ℤ) (below opened : List Open) (whole between rest : List ℕ) (n : ℕ) → n ≤ most → (word : Option Field) → Begins Spells (header left last) word whole between → opened ≡ opened_by_header left word
        → Turns Spells n (opened ++ below) between [] rest → Back Spells (λ fields mid. FieldsThen Spells fields left last whole mid) (suc n) below rest
    unfolding FieldsThen
    fields_turn left last below opened whole between rest n within None h e turns = record {
      tree = no_fields;
      between = between;
      is = h;
      count = n;
      fewer = omega arith;
      turns = subst (λ s. Turns Spells n (s ++ below) between [] rest) e turns;
    }
    fields_turn left last below opened whole between rest n within (Some f) h e turns =
        let v = B.value left f.kind f.held (in_struct left f.id ∷ below) between rest n within (subst (λ s. Turns Spells n (s ++ below) between [] rest) e turns) in
        let w = B.fields left f.id below v.between rest v.count (omega (arith, v.fewer, within)) v.turns in
        record {
          tree = field_then f.id v.tree w.tree;
          between = w.between;
          is = (f.held, between, v.between, subst (λ k. Begins Spells (header left last) (Some (record { id = f.id; kind = k; held = f.held })) whole between) (sym v.is.0) h, v.is.1, w.is);
          count = w.count;
          fewer = omega (arith, w.fewer, v.fewer);
          turns = w.turns;
        }

    fields_back : (left : ℕ) (last : ℤ) (below : List Open) (whole rest : List ℕ) (count : ℕ) → count ≤ suc most → Turns Spells count (in_struct left last ∷ below) whole [] rest
        → Back Spells (λ fields mid. FieldsThen Spells fields left last whole mid) count below rest
    unfolding Turns
    fields_back left last below whole rest zero within h = (let e : in_struct left last ∷ below ≡ [] = h.0 in cc)
    fields_back left last below whole rest (suc n) within h = fields_turn left last below h.0 whole h.1 rest n (omega (arith, within)) h.2.0 h.2.1 h.2.2 h.3

    elements_back : (left : ℕ) (kind : TypeCode) (many : ℕ) (below : List Open) (whole rest : List ℕ) (count : ℕ) → count ≤ suc most → Turns Spells count (in_elements left kind many ∷ below) whole [] rest
        → Back Spells (AreElements Spells left (Some kind) many whole) count below rest
    unfolding Turns ElementsThen tree_count
    elements_back left kind many below whole rest zero within h = (let e : in_elements left kind many ∷ below ≡ [] = h.0 in cc)
    elements_back left kind zero below whole rest (suc n) within h = record {
      tree = no_trees;
      between = h.1;
      is = (refl, h.2.1);
      count = n;
      fewer = omega arith;
      turns = subst (λ s. Turns Spells n (s ++ below) h.1 [] rest) h.2.0 h.3;
    }
    elements_back left kind (suc many) below whole rest (suc n) within h =
        let v = B.value left kind None (in_elements left kind many ∷ below) h.1 rest n (omega (arith, within)) (subst (λ s. Turns Spells n (s ++ below) h.1 [] rest) h.2.0 h.3) in
        let w = B.elements left kind many below v.between rest v.count (omega (arith, v.fewer, within)) v.turns in
        record {
          tree = tree_then v.tree w.tree;
          between = w.between;
          is = (ap (λ k. suc k) w.is.0, (ap (λ k. Some k) {y = kind_of v.tree} (sym v.is.0), v.between, subst (λ l. ValueThen Spells v.tree left None l v.between) (sym h.2.1) v.is.1, w.is.1));
          count = w.count;
          fewer = omega (arith, w.fewer, v.fewer);
          turns = w.turns;
        }

    pairs_back : (left : ℕ) (key value : TypeCode) (many : ℕ) (below : List Open) (whole rest : List ℕ) (count : ℕ) → count ≤ suc most → Turns Spells count (in_pairs left key value many ∷ below) whole [] rest
        → Back Spells (ArePairs Spells left (Some key) (Some value) many whole) count below rest
    unfolding Turns PairsThen pair_count
    pairs_back left key value many below whole rest zero within h = (let e : in_pairs left key value many ∷ below ≡ [] = h.0 in cc)
    pairs_back left key value zero below whole rest (suc n) within h = record {
      tree = no_pairs;
      between = h.1;
      is = (refl, h.2.1);
      count = n;
      fewer = omega arith;
      turns = subst (λ s. Turns Spells n (s ++ below) h.1 [] rest) h.2.0 h.3;
    }
    pairs_back left key value (suc many) below whole rest (suc n) within h =
        let u = B.value left key None (in_value left value None ∷ in_pairs left key value many ∷ below) h.1 rest n (omega (arith, within)) (subst (λ s. Turns Spells n (s ++ below) h.1 [] rest) h.2.0 h.3) in
        let v = B.value left value None (in_pairs left key value many ∷ below) u.between rest u.count (omega (arith, u.fewer, within)) u.turns in
        let w = B.pairs left key value many below v.between rest v.count (omega (arith, u.fewer, v.fewer, within)) v.turns in
        record {
          tree = pair_then u.tree v.tree w.tree;
          between = w.between;
          is = (
            ap (λ k. suc k) {y = pair_count w.tree} w.is.0,
            (
              ap (λ k. Some k) {y = kind_of u.tree} (sym u.is.0),
              ap (λ k. Some k) {y = kind_of v.tree} (sym v.is.0),
              u.between,
              v.between,
              subst (λ l. ValueThen Spells u.tree left None l u.between) (sym h.2.1) u.is.1,
              v.is.1,
              w.is.1,
            ),
          );
          count = w.count;
          fewer = omega (arith, w.fewer, v.fewer, u.fewer);
          turns = w.turns;
        }

    more_backs : Backs Spells (suc most)
    more_backs = record { value = value_back; fields = fields_back; elements = elements_back; pairs = pairs_back }

  no_backs : Backs Spells zero
  no_backs = record {
    value = λ left kind held below whole rest count within h. absurd (no_turn Spells count (in_value left kind held) below whole rest within h);
    fields = λ left last below whole rest count within h. absurd (no_turn Spells count (in_struct left last) below whole rest within h);
    elements = λ left kind many below whole rest count within h. absurd (no_turn Spells count (in_elements left kind many) below whole rest within h);
    pairs = λ left key value many below whole rest count within h. absurd (no_turn Spells count (in_pairs left key value many) below whole rest within h);
  }

  backs : (most : ℕ) → Backs Spells most
  backs zero = no_backs
  backs (suc most) = more_backs most (backs most)

  -- ---- whole texts

  none_left : (rest : List ℕ) (count : ℕ) (between : List ℕ) → Turns Spells count [] between [] rest → between ≡ rest
  unfolding Turns
  none_left rest zero between h = h.1
  none_left rest (suc n) between h = absurd h

  pub struct_back : (left : ℕ) (last : ℤ) (whole rest : List ℕ) → Passes Spells (in_struct left last ∷ []) whole [] rest → (fields : Fields) × FieldsThen Spells fields left last whole rest
  struct_back left last whole rest h =
      let b = (backs h.count).fields left last [] whole rest h.count (omega arith) h.turns in
      (b.tree, subst (λ l. FieldsThen Spells b.tree left last whole l) (none_left rest b.count b.between b.turns) b.is)

  pub value_whole : (left : ℕ) (kind : TypeCode) (held : Option Bool) (whole rest : List ℕ) → Passes Spells (in_value left kind held ∷ []) whole [] rest → (tree : Tree) × (kind_of tree ≡ kind) × ValueThen Spells tree left held whole rest
  value_whole left kind held whole rest h =
      let b = (backs h.count).value left kind held [] whole rest h.count (omega arith) h.turns in
      (b.tree, b.is.0, subst (λ l. ValueThen Spells b.tree left held whole l) (none_left rest b.count b.between b.turns) b.is.1)

  -- the whole text of what is open is what the walk passes to its end
  pub whole_walk : (start : Open) (text : List ℕ) → WholeOf Spells start text ↔ Passes Spells (start ∷ []) text [] []
  whole_walk (in_struct left last) text = (λ h. fields_on Spells h.0 left last text [] [] h.1, λ h. struct_back left last text [] h)
  whole_walk (in_value left kind held) text = (
    λ h. subst (λ k. Passes Spells (in_value left k held ∷ []) text [] []) h.1 (value_on Spells h.0 left held text [] [] h.2),
    λ h. value_whole left kind held text [] h,
  )
  whole_walk (in_elements left kind many) text = (λ h. h, λ h. h)
  whole_walk (in_pairs left key value many) text = (λ h. h, λ h. h)
  whole_walk (in_bytes many) text = (λ h. h, λ h. h)
