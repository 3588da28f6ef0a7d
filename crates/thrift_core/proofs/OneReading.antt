-- A text has one reading: of two values of one type at its front, or of two structs, one is the other, and they leave the same rest.
-- And each begins with a text of its own, which stands before anything.
use Rattle.std.proofs.Common.{◌≡◌, ◌++◌, ℕ, zero, suc, ℤ, pos, Bool, Option, Some, None, List, [], length, take, drop, Result, Ok, refl, sym, ap, subst, ◌∙◌}
use Rattle.std.proofs.lemmas.List.{append_assoc, append-nil}
use Rattle.std.proofs.Math.Seq.{drop-append_seam, take-append_seam}
use Rattle.span_io.specs.declared.cause.Cause.{Cause}
use Rattle.thrift_core.specs.declared.field.Field.{Field}
use Rattle.thrift_core.specs.declared.field.ListHead.{ListHead}
use Rattle.thrift_core.specs.declared.field.MapHead.{MapHead}
use Rattle.thrift_core.specs.declared.type_code.TypeCode.{TypeCode}
use Rattle.thrift_core.specs.declared.type_code.TypeCode.TheVariants as kinds
use Rattle.thrift_core.specs.Parts.{Part, header, truth, byte, short, int, long, eight, size, list_head, map_head, WordOf, Spelling, Begins}
use Rattle.thrift_core.specs.Protocols.{ReadsExactly}
use Rattle.thrift_core.specs.Reading.{ReadingOf}
use Rattle.thrift_core.specs.Trees.{Leaf, truth_value, i8, i16, i32, i64, double, Tree, leaf, binary, structure, map_of, set_of, list_of, Fields, no_fields, field_then, Trees, no_trees, tree_then, Pairs, no_pairs, pair_then, kind_of, tree_count, pair_count, LeafThen, ValueThen, FieldsThen, ElementsThen, PairsThen}

-- ---- what values of a type hold

abbrev pub Content : TypeCode → Type 0
Content kinds.Truth = Bool
Content kinds.I8 = ℤ
Content kinds.I16 = ℤ
Content kinds.I32 = ℤ
Content kinds.I64 = ℤ
Content kinds.Eight = List ℕ
Content kinds.Binary = List ℕ
Content kinds.Struct = Fields
Content kinds.Map = Pairs
Content kinds.Set = Trees
Content kinds.List = Trees

abbrev pub tree_of : (kind : TypeCode) → Content kind → Tree
tree_of kinds.Truth b = leaf (truth_value b)
tree_of kinds.I8 n = leaf (i8 n)
tree_of kinds.I16 n = leaf (i16 n)
tree_of kinds.I32 n = leaf (i32 n)
tree_of kinds.I64 n = leaf (i64 n)
tree_of kinds.Eight bytes = leaf (double bytes)
tree_of kinds.Binary bytes = binary bytes
tree_of kinds.Struct inner = structure inner
tree_of kinds.Map pairs = map_of pairs
tree_of kinds.Set trees = set_of trees
tree_of kinds.List trees = list_of trees

-- a value of this type, by what it holds
abbrev OfKind : Tree → TypeCode → Type 0
OfKind tree kind = (x : Content kind) × (tree ≡ tree_of kind x)

itself : (tree : Tree) → OfKind tree (kind_of tree)
itself (leaf (truth_value b)) = (b, refl)
itself (leaf (i8 n)) = (n, refl)
itself (leaf (i16 n)) = (n, refl)
itself (leaf (i32 n)) = (n, refl)
itself (leaf (i64 n)) = (n, refl)
itself (leaf (double bytes)) = (bytes, refl)
itself (binary bytes) = (bytes, refl)
itself (structure inner) = (inner, refl)
itself (map_of pairs) = (pairs, refl)
itself (set_of trees) = (trees, refl)
itself (list_of trees) = (trees, refl)

pub of_kind : (tree : Tree) (kind : TypeCode) → kind_of tree ≡ kind → (x : Content kind) × (tree ≡ tree_of kind x)
of_kind tree kind e = subst (λ k. OfKind tree k) e (itself tree)

-- ---- texts before anything

-- the text of its own, and what stands before any other bytes
pub record Front (Then : List ℕ → List ℕ → Type 0) (whole rest : List ℕ) : Type 0 where
  pub text : List ℕ
  pub parts : whole ≡ text ++ rest
  pub again : (other : List ℕ) → Then (text ++ other) other

module _ (Spells : Spelling) where
  part_front : (part : Part) (word : WordOf part) (whole rest : List ℕ) → Begins Spells part word whole rest → Front (λ a b. Begins Spells part word a b) whole rest
  part_front part word whole rest h = record { text = h.text; parts = h.parts; again = λ other. record { text = h.text; spelled = h.spelled; parts = refl } }

  leaf_front : (x : Leaf) (held : Option Bool) (whole rest : List ℕ) → LeafThen Spells x held whole rest → Front (λ a b. LeafThen Spells x held a b) whole rest
  leaf_front (truth_value b) held whole rest h = part_front (truth held) b whole rest h
  leaf_front (i8 n) held whole rest h = part_front byte n whole rest h
  leaf_front (i16 n) held whole rest h = part_front short n whole rest h
  leaf_front (i32 n) held whole rest h = part_front int n whole rest h
  leaf_front (i64 n) held whole rest h = part_front long n whole rest h
  leaf_front (double bytes) held whole rest h = part_front eight bytes whole rest h

  -- a part, and what follows it
  joined : (part : Part) (word : WordOf part) (whole inner text rest : List ℕ) → (h : Begins Spells part word whole inner) → inner ≡ text ++ rest → whole ≡ (h.text ++ text) ++ rest
  joined part word whole inner text rest h e = h.parts ∙ ap (λ l. h.text ++ l) e ∙ sym (append_assoc h.text text rest)

  before : (part : Part) (word : WordOf part) (whole inner text other : List ℕ) → (h : Begins Spells part word whole inner) → Begins Spells part word ((h.text ++ text) ++ other) (text ++ other)
  before part word whole inner text other h = record { text = h.text; spelled = h.spelled; parts = append_assoc h.text text other }

  -- two values, one after the other
  two_parts : (whole a b text between rest : List ℕ) → whole ≡ a ++ between → between ≡ text ++ rest → whole ≡ (a ++ text) ++ rest
  two_parts whole a b text between rest e f = e ∙ ap (λ l. a ++ l) f ∙ sym (append_assoc a text rest)

  mutual
    unfolding ValueThen FieldsThen ElementsThen PairsThen

    pub value_front : (tree : Tree) (left : ℕ) (held : Option Bool) (whole rest : List ℕ) → ValueThen Spells tree left held whole rest → Front (λ a b. ValueThen Spells tree left held a b) whole rest
    value_front (leaf x) left held whole rest h =
        let f = leaf_front x held whole rest h in
        record { text = f.text; parts = f.parts; again = f.again }
    value_front (binary bytes) left held whole rest h = record {
      text = h.1.text ++ bytes;
      parts = joined size (length bytes) whole h.0 bytes rest h.1 h.2;
      again = λ other. (bytes ++ other, before size (length bytes) whole h.0 bytes other h.1, refl);
    }
    value_front (structure inner) zero held whole rest h = absurd h
    value_front (structure inner) (suc left) held whole rest h =
        let f = fields_front inner left (pos 0) whole rest h in
        record { text = f.text; parts = f.parts; again = f.again }
    value_front (map_of pairs) zero held whole rest h = absurd h
    value_front (map_of pairs) (suc left) held whole rest h =
        let f = pairs_front pairs h.0.key h.0.value left h.1 rest h.4 in
        record {
          text = h.2.text ++ f.text;
          parts = joined (map_head left) h.0 whole h.1 f.text rest h.2 f.parts;
          again = λ other. (h.0, f.text ++ other, before (map_head left) h.0 whole h.1 f.text other h.2, h.3, f.again other);
        }
    value_front (set_of trees) zero held whole rest h = absurd h
    value_front (set_of trees) (suc left) held whole rest h =
        let f = elements_front trees h.0.element left h.1 rest h.4 in
        record {
          text = h.2.text ++ f.text;
          parts = joined (list_head left) h.0 whole h.1 f.text rest h.2 f.parts;
          again = λ other. (h.0, f.text ++ other, before (list_head left) h.0 whole h.1 f.text other h.2, h.3, f.again other);
        }
    value_front (list_of trees) zero held whole rest h = absurd h
    value_front (list_of trees) (suc left) held whole rest h =
        let f = elements_front trees h.0.element left h.1 rest h.4 in
        record {
          text = h.2.text ++ f.text;
          parts = joined (list_head left) h.0 whole h.1 f.text rest h.2 f.parts;
          again = λ other. (h.0, f.text ++ other, before (list_head left) h.0 whole h.1 f.text other h.2, h.3, f.again other);
        }

    pub fields_front : (fields : Fields) (left : ℕ) (last : ℤ) (whole rest : List ℕ) → FieldsThen Spells fields left last whole rest → Front (λ a b. FieldsThen Spells fields left last a b) whole rest
    fields_front no_fields left last whole rest h = record { text = h.text; parts = h.parts; again = λ other. record { text = h.text; spelled = h.spelled; parts = refl } }
    fields_front (field_then id tree more) left last whole rest h =
        let head : Field = record { id = id; kind = kind_of tree; held = h.0 } in
        let v = value_front tree left h.0 h.1 h.2 h.4 in
        let m = fields_front more left id h.2 rest h.5 in
        let inner : h.1 ≡ (v.text ++ m.text) ++ rest = v.parts ∙ ap (λ l. v.text ++ l) m.parts ∙ sym (append_assoc v.text m.text rest) in
        record {
          text = h.3.text ++ (v.text ++ m.text);
          parts = joined (header left last) (Some head) whole h.1 (v.text ++ m.text) rest h.3 inner;
          again = λ other. (
            h.0,
            (v.text ++ m.text) ++ other,
            m.text ++ other,
            before (header left last) (Some head) whole h.1 (v.text ++ m.text) other h.3,
            subst (λ l. ValueThen Spells tree left h.0 l (m.text ++ other)) (sym (append_assoc v.text m.text other)) (v.again (m.text ++ other)),
            m.again other,
          );
        }

    pub elements_front : (trees : Trees) (kind : Option TypeCode) (left : ℕ) (whole rest : List ℕ) → ElementsThen Spells trees kind left whole rest → Front (λ a b. ElementsThen Spells trees kind left a b) whole rest
    elements_front no_trees kind left whole rest h = record { text = []; parts = h; again = λ other. refl }
    elements_front (tree_then tree more) kind left whole rest h =
        let v = value_front tree left None whole h.1 h.2 in
        let m = elements_front more kind left h.1 rest h.3 in
        record {
          text = v.text ++ m.text;
          parts = v.parts ∙ ap (λ l. v.text ++ l) m.parts ∙ sym (append_assoc v.text m.text rest);
          again = λ other. (
            h.0,
            m.text ++ other,
            subst (λ l. ValueThen Spells tree left None l (m.text ++ other)) (sym (append_assoc v.text m.text other)) (v.again (m.text ++ other)),
            m.again other,
          );
        }

    pub pairs_front : (pairs : Pairs) (key value : Option TypeCode) (left : ℕ) (whole rest : List ℕ) → PairsThen Spells pairs key value left whole rest → Front (λ a b. PairsThen Spells pairs key value left a b) whole rest
    pairs_front no_pairs key value left whole rest h = record { text = []; parts = h; again = λ other. refl }
    pairs_front (pair_then first second more) key value left whole rest h =
        let f = value_front first left None whole h.2 h.4 in
        let s = value_front second left None h.2 h.3 h.5 in
        let m = pairs_front more key value left h.3 rest h.6 in
        let inner : h.2 ≡ (s.text ++ m.text) ++ rest = s.parts ∙ ap (λ l. s.text ++ l) m.parts ∙ sym (append_assoc s.text m.text rest) in
        record {
          text = f.text ++ (s.text ++ m.text);
          parts = f.parts ∙ ap (λ l. f.text ++ l) inner ∙ sym (append_assoc f.text (s.text ++ m.text) rest);
          again = λ other. (
            h.0,
            h.1,
            (s.text ++ m.text) ++ other,
            m.text ++ other,
            subst (λ l. ValueThen Spells first left None l ((s.text ++ m.text) ++ other)) (sym (append_assoc f.text (s.text ++ m.text) other)) (f.again ((s.text ++ m.text) ++ other)),
            subst (λ l. ValueThen Spells second left None l (m.text ++ other)) (sym (append_assoc s.text m.text other)) (s.again (m.text ++ other)),
            m.again other,
          );
        }

module _ (Spells : Spelling) where
  -- a value's own text stands before anything
  pub own_text : (tree : Tree) (left : ℕ) (held : Option Bool) (text other : List ℕ) → ValueThen Spells tree left held text [] → ValueThen Spells tree left held (text ++ other) other
  own_text tree left held text other h =
      let f = value_front Spells tree left held text [] h in
      subst (λ l. ValueThen Spells tree left held (l ++ other) other) (sym (f.parts ∙ append-nil f.text)) (f.again other)

  pub own_struct : (fields : Fields) (left : ℕ) (last : ℤ) (text other : List ℕ) → FieldsThen Spells fields left last text [] → FieldsThen Spells fields left last (text ++ other) other
  own_struct fields left last text other h =
      let f = fields_front Spells fields left last text [] h in
      subst (λ l. FieldsThen Spells fields left last (l ++ other) other) (sym (f.parts ∙ append-nil f.text)) (f.again other)

-- ---- one reading

same_word : {A : Type 0} (v w : A) (rest other : List ℕ) → ◌≡◌ {A = Result (A × List ℕ) Cause} (Ok (v, rest)) (Ok (w, other)) → (v ≡ w) × (rest ≡ other)
same_word {A} v w rest other e = let pair : ◌≡◌ {A = A × List ℕ} (v, rest) (w, other) = cc in (λ i. (pair i).0, λ i. (pair i).1)

same_front : (a b rest other : List ℕ) → length a ≡ length b → a ++ rest ≡ b ++ other → (a ≡ b) × (rest ≡ other)
same_front a b rest other e f = (
  sym (take-append_seam a rest) ∙ (ap (λ n. take n (a ++ rest)) e ∙ (ap (λ l. take (length b) l) f ∙ take-append_seam b other)),
  sym (drop-append_seam a rest) ∙ (ap (λ n. drop n (a ++ rest)) e ∙ (ap (λ l. drop (length b) l) f ∙ drop-append_seam b other)),
)

module _ (Spells : Spelling) (reads : ReadingOf) (ThenVarint : Part → List ℕ → Type 0) (Refuses : Part → Cause → List ℕ → Type 0) (R : ReadsExactly Spells reads ThenVarint Refuses) where
  pub one_part : (part : Part) (v w : WordOf part) (whole rest other : List ℕ) → Begins Spells part v whole rest → Begins Spells part w whole other → (v ≡ w) × (rest ≡ other)
  one_part part v w whole rest other h k = same_word v w rest other (sym (R.only part v whole rest h) ∙ R.only part w whole other k)

  -- what another value of this type holds, which stands there too
  record Other (kind : TypeCode) (tree : Tree) (left : ℕ) (held : Option Bool) (whole rest : List ℕ) : Type 0 where
    content : Content kind
    is : tree ≡ tree_of kind content
    stands : ValueThen Spells (tree_of kind content) left held whole rest

  other_of : (kind : TypeCode) (tree : Tree) (left : ℕ) (held : Option Bool) (whole rest : List ℕ) → kind ≡ kind_of tree → ValueThen Spells tree left held whole rest → Other kind tree left held whole rest
  other_of kind tree left held whole rest e h =
      let x = of_kind tree kind (sym e) in
      record { content = x.0; is = x.1; stands = subst (λ (t : Tree). ValueThen Spells t left held whole rest) x.1 h }

  Same : Tree → Tree → List ℕ → List ℕ → Type 0
  Same a b rest other = (a ≡ b) × (rest ≡ other)

  by_content : {A : Type 0} (make : A → Tree) (x y : A) (b : Tree) (rest other : List ℕ) → b ≡ make y → (x ≡ y) × (rest ≡ other) → (make x ≡ b) × (rest ≡ other)
  by_content make x y b rest other e one = (ap make one.0 ∙ sym e, one.1)

  mutual
    unfolding ValueThen FieldsThen ElementsThen PairsThen tree_count pair_count

    pub one_value : (a b : Tree) (left : ℕ) (held : Option Bool) (whole rest other : List ℕ) → kind_of a ≡ kind_of b → ValueThen Spells a left held whole rest → ValueThen Spells b left held whole other → (a ≡ b) × (rest ≡ other)
    one_value (leaf (truth_value x)) b left held whole rest other e h k =
        let o = other_of kinds.Truth b left held whole other e k in
        by_content (λ y. leaf (truth_value y)) x o.content b rest other o.is (one_part (truth held) x o.content whole rest other h o.stands)
    one_value (leaf (i8 x)) b left held whole rest other e h k =
        let o = other_of kinds.I8 b left held whole other e k in
        by_content (λ y. leaf (i8 y)) x o.content b rest other o.is (one_part byte x o.content whole rest other h o.stands)
    one_value (leaf (i16 x)) b left held whole rest other e h k =
        let o = other_of kinds.I16 b left held whole other e k in
        by_content (λ y. leaf (i16 y)) x o.content b rest other o.is (one_part short x o.content whole rest other h o.stands)
    one_value (leaf (i32 x)) b left held whole rest other e h k =
        let o = other_of kinds.I32 b left held whole other e k in
        by_content (λ y. leaf (i32 y)) x o.content b rest other o.is (one_part int x o.content whole rest other h o.stands)
    one_value (leaf (i64 x)) b left held whole rest other e h k =
        let o = other_of kinds.I64 b left held whole other e k in
        by_content (λ y. leaf (i64 y)) x o.content b rest other o.is (one_part long x o.content whole rest other h o.stands)
    one_value (leaf (double x)) b left held whole rest other e h k =
        let o = other_of kinds.Eight b left held whole other e k in
        by_content (λ y. leaf (double y)) x o.content b rest other o.is (one_part eight x o.content whole rest other h o.stands)
    one_value (binary x) b left held whole rest other e h k =
        let o = other_of kinds.Binary b left held whole other e k in
        let n = one_part size (length x) (length o.content) whole h.0 o.stands.0 h.1 o.stands.1 in
        by_content binary x o.content b rest other o.is (same_front x o.content rest other n.0 (sym h.2 ∙ (n.1 ∙ o.stands.2)))
    one_value (structure x) b zero held whole rest other e h k = absurd h
    one_value (structure x) b (suc left) held whole rest other e h k =
        let o = other_of kinds.Struct b (suc left) held whole other e k in
        by_content structure x o.content b rest other o.is (one_fields x o.content left (pos 0) whole rest other h o.stands)
    one_value (map_of x) b zero held whole rest other e h k = absurd h
    one_value (map_of x) b (suc left) held whole rest other e h k =
        let o = other_of kinds.Map b (suc left) held whole other e k in
        let g = o.stands in
        let n = one_part (map_head left) h.0 g.0 whole h.1 g.1 h.2 g.2 in
        let same = subst (λ (m : MapHead). PairsThen Spells o.content m.key m.value left h.1 other) (sym n.0) (subst (λ l. PairsThen Spells o.content g.0.key g.0.value left l other) (sym n.1) g.4) in
        by_content map_of x o.content b rest other o.is (one_pairs x o.content h.0.key h.0.value left h.1 rest other (sym h.3 ∙ (ap (λ (m : MapHead). m.size) n.0 ∙ g.3)) h.4 same)
    one_value (set_of x) b zero held whole rest other e h k = absurd h
    one_value (set_of x) b (suc left) held whole rest other e h k =
        let o = other_of kinds.Set b (suc left) held whole other e k in
        let g = o.stands in
        let n = one_part (list_head left) h.0 g.0 whole h.1 g.1 h.2 g.2 in
        let same = subst (λ (m : ListHead). ElementsThen Spells o.content m.element left h.1 other) (sym n.0) (subst (λ l. ElementsThen Spells o.content g.0.element left l other) (sym n.1) g.4) in
        by_content set_of x o.content b rest other o.is (one_list x o.content h.0.element left h.1 rest other (sym h.3 ∙ (ap (λ (m : ListHead). m.size) n.0 ∙ g.3)) h.4 same)
    one_value (list_of x) b zero held whole rest other e h k = absurd h
    one_value (list_of x) b (suc left) held whole rest other e h k =
        let o = other_of kinds.List b (suc left) held whole other e k in
        let g = o.stands in
        let n = one_part (list_head left) h.0 g.0 whole h.1 g.1 h.2 g.2 in
        let same = subst (λ (m : ListHead). ElementsThen Spells o.content m.element left h.1 other) (sym n.0) (subst (λ l. ElementsThen Spells o.content g.0.element left l other) (sym n.1) g.4) in
        by_content list_of x o.content b rest other o.is (one_list x o.content h.0.element left h.1 rest other (sym h.3 ∙ (ap (λ (m : ListHead). m.size) n.0 ∙ g.3)) h.4 same)

    pub one_fields : (a b : Fields) (left : ℕ) (last : ℤ) (whole rest other : List ℕ) → FieldsThen Spells a left last whole rest → FieldsThen Spells b left last whole other → (a ≡ b) × (rest ≡ other)
    one_fields no_fields no_fields left last whole rest other h k = (refl, (one_part (header left last) None None whole rest other h k).1)
    one_fields no_fields (field_then id tree more) left last whole rest other h k =
        let head : Field = record { id = id; kind = kind_of tree; held = k.0 } in
        let n = one_part (header left last) None (Some head) whole rest k.1 h k.3 in
        let never : None ≡ Some head = n.0 in absurd (cc)
    one_fields (field_then id tree more) no_fields left last whole rest other h k =
        let head : Field = record { id = id; kind = kind_of tree; held = h.0 } in
        let n = one_part (header left last) (Some head) None whole h.1 other h.3 k in
        let never : Some head ≡ None = n.0 in absurd (cc)
    one_fields (field_then id tree more) (field_then it that others) left last whole rest other h k =
        let head : Field = record { id = id; kind = kind_of tree; held = h.0 } in
        let there : Field = record { id = it; kind = kind_of that; held = k.0 } in
        let n = one_part (header left last) (Some head) (Some there) whole h.1 k.1 h.3 k.3 in
        let heads : Some head ≡ Some there = n.0 in
        let same : head ≡ there = cc in
        let v = one_value tree that left h.0 h.1 h.2 k.2 (ap (λ (f : Field). f.kind) same) h.4
        (subst (λ (x : Option Bool). ValueThen Spells that left x h.1 k.2) (sym (ap (λ (f : Field). f.held) same)) (subst (λ l. ValueThen Spells that left k.0 l k.2) (sym n.1) k.4)) in
        let ids : id ≡ it = ap (λ (f : Field). f.id) same in
        let m = one_fields more others left id h.2 rest other h.5 (subst (λ (x : ℤ). FieldsThen Spells others left x h.2 other) (sym ids) (subst (λ l. FieldsThen Spells others left it l other) (sym v.1) k.5)) in
        (λ i. field_then (ids i) (v.0 i) (m.0 i), m.1)

    one_list : (a b : Trees) (kind : Option TypeCode) (left : ℕ) (whole rest other : List ℕ) → tree_count a ≡ tree_count b → ElementsThen Spells a kind left whole rest → ElementsThen Spells b kind left whole other → (a ≡ b) × (rest ≡ other)
    one_list no_trees no_trees kind left whole rest other e h k = (refl, sym h ∙ k)
    one_list no_trees (tree_then that others) kind left whole rest other e h k = absurd (cc)
    one_list (tree_then tree more) no_trees kind left whole rest other e h k = absurd (cc)
    one_list (tree_then tree more) (tree_then that others) kind left whole rest other e h k =
        let kinds : Some (kind_of tree) ≡ Some (kind_of that) = sym h.0 ∙ k.0 in
        let v = one_value tree that left None whole h.1 k.1 (cc) h.2 k.2 in
        let m = one_list more others kind left h.1 rest other (cc) h.3 (subst (λ l. ElementsThen Spells others kind left l other) (sym v.1) k.3) in
        (λ i. tree_then (v.0 i) (m.0 i), m.1)

    one_pairs : (a b : Pairs) (key value : Option TypeCode) (left : ℕ) (whole rest other : List ℕ) → pair_count a ≡ pair_count b → PairsThen Spells a key value left whole rest → PairsThen Spells b key value left whole other → (a ≡ b) × (rest ≡ other)
    one_pairs no_pairs no_pairs key value left whole rest other e h k = (refl, sym h ∙ k)
    one_pairs no_pairs (pair_then first second others) key value left whole rest other e h k = absurd (cc)
    one_pairs (pair_then first second more) no_pairs key value left whole rest other e h k = absurd (cc)
    one_pairs (pair_then first second more) (pair_then this that others) key value left whole rest other e h k =
        let keys : Some (kind_of first) ≡ Some (kind_of this) = sym h.0 ∙ k.0 in
        let values : Some (kind_of second) ≡ Some (kind_of that) = sym h.1 ∙ k.1 in
        let f = one_value first this left None whole h.2 k.2 (cc) h.4 k.4 in
        let s = one_value second that left None h.2 h.3 k.3 (cc) h.5 (subst (λ l. ValueThen Spells that left None l k.3) (sym f.1) k.5) in
        let m = one_pairs more others key value left h.3 rest other (cc) h.6 (subst (λ l. PairsThen Spells others key value left l other) (sym s.1) k.6) in
        (λ i. pair_then (f.0 i) (s.0 i) (m.0 i), m.1)
