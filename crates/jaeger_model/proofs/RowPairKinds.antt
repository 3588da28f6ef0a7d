-- Each kind of row of jaeger.thrift, in two protocols.
use Rattle.std.proofs.Common.{◌≡◌, ◌≤◌, ◌<◌, ◌-◌, ◌⊎◌, ◌++◌, ◌∷◌, if◌then◌else◌, ℕ, zero, suc, pos, Bool, true, false, Option, Some, None, List, [], length, Ok, Err, inl, inr, refl, sym, ap, subst, ◌∙◌, arith}
use Rattle.std.specs.Prelude.{◌↔◌}
use Rattle.std.specs.List.{AllZip}
use Rattle.std.proofs.lemmas.Bool.{cases_lt}
use Rattle.std.proofs.lemmas.List.{length-append}
use Rattle.span_io.specs.Causes.{cause_number}
use Rattle.span_io.specs.declared.halt.Halt.TheVariants as halts
use Rattle.span_io.proofs.FreeItemLaws.{SameOffence}
use Rattle.span_io.specs.Offences.{RulesLaws}
use Rattle.span_io.proofs.OffenceLaws.{least_here, least_inside, none_in_item}
use Rattle.span_io.specs.Offences.{Rules, Offence, HereOrInside}
use Rattle.span_io.proofs.RowLaws.{all_zip_self}
use Rattle.span_io.specs.Tables.{Row, Twice, nothing_inside, IsFree}
use Rattle.thrift_core.specs.declared.type_code.TypeCode.{TypeCode}
use Rattle.thrift_core.specs.declared.type_code.TypeCode.TheVariants as kinds
use Rattle.thrift_core.specs.FieldValues.{of_id, has_id, struct_in, list_in}
use Rattle.thrift_core.specs.Messages.{FieldItem, structs, whole_struct}
use Rattle.thrift_core.specs.Parts.{Spelling}
use Rattle.thrift_core.specs.Trees.{Tree, leaf, binary, structure as struct_of, map_of, set_of, list_of, Fields, Trees, no_trees, tree_then, tree_count, kind_of, StructText, ValueThen, ElementsThen}
use Rattle.jaeger_model.proofs.ListLemmas.{First, first, later_to, later_from, this_least, ListThere, bad_element, are_elements, list_judged, inner_within}
use Rattle.jaeger_model.proofs.RowPairs.{Keeps, SameCause, same_moved, cause_moved, Each, Twins, Free, alike_given, RowPair, StructPair}
use Rattle.jaeger_model.proofs.StructRows.{Stands}
use Rattle.jaeger_model.proofs.TwoTexts.{Surely, NoneOrFirst, none_or_first}
use Rattle.jaeger_model.specs.FreeAtAnyDepth.{EachPadded, no_structs, struct_then}
use Rattle.jaeger_model.specs.InnerRows.{with_text, IsOfOthers, BadElement, ElementsOffend, ListOffends, structure, structures}
use Rattle.jaeger_model.specs.Rows.{given_to, nothing_wrong, singular}

-- ---- a singular row

-- by what one field of it holds
module _ (A B : Spelling) (left : ℕ) (own : List (Row FieldItem)) (Differs : ℕ → Tree → Tree → Type 0) {X Y V : Type 0} (give : FieldItem → List X) (take : FieldItem → List Y) (Means : X → V → Type 0) (Is : Y → V → Type 0)
    (IsAbsent : V → Type 0) (Wrong : X → ℕ → Type 0) (Bad : Y → ℕ → Type 0) (Inside : X → ℕ → ℕ → Type 0) (Within : Y → ℕ → ℕ → Type 0) (Alike : X → Y → Type 0)
    (given : (item other : FieldItem) → Twins A B left own Differs item other → AllZip Alike (give item) (take other)) (passes : (item : FieldItem) → Free A B left own Differs item → give item ≡ [])
    (passes_too : (item : FieldItem) → Free A B left own Differs item → take item ≡ []) (above : (x : X) (n : ℕ) → Wrong x n → 7 ≤ n) (over : (y : Y) (n : ℕ) → Bad y n → 7 ≤ n)
    (alone : (x : X) (y : Y) → Alike x y → Surely (SameOffence (HereOrInside (λ n. Wrong x n) (λ p n. Inside x p n)) (HereOrInside (λ n. Bad y n) (λ p n. Within y p n)))) where
  abbrev Twofold : List X → List Y → X → Y → Type 0
  Twofold earlier others x y = SameOffence (HereOrInside (λ n. Twice earlier n ⊎ Wrong x n) (λ p n. Inside x p n)) (HereOrInside (λ n. Twice others n ⊎ Bad y n) (λ p n. Within y p n))

  one_of : (earlier : List X) (others : List Y) → AllZip Alike earlier others → (x : X) (y : Y) → Alike x y → Surely (Twofold earlier others x y)
  one_of [] [] each x y alike not =
      alone x y alike (λ same. not (same_moved (HereOrInside (λ n. Wrong x n) (λ p n. Inside x p n)) (HereOrInside (λ n. Bad y n) (λ p n. Within y p n)) (HereOrInside (λ n. Twice {A = X} [] n ⊎ Wrong x n) (λ p n. Inside x p n))
      (HereOrInside (λ n. Twice {A = Y} [] n ⊎ Bad y n) (λ p n. Within y p n)) to from on back same))
    where
      to : (p n : ℕ) → HereOrInside (λ m. Wrong x m) (λ q m. Inside x q m) p n → HereOrInside (λ m. Twice {A = X} [] m ⊎ Wrong x m) (λ q m. Inside x q m) p n
      to zero n h = inr h
      to (suc p) n h = h

      from : (p n : ℕ) → HereOrInside (λ m. Twice {A = X} [] m ⊎ Wrong x m) (λ q m. Inside x q m) p n → HereOrInside (λ m. Wrong x m) (λ q m. Inside x q m) p n
      from zero n (inl twice) = absurd (twice.1 refl)
      from zero n (inr h) = h
      from (suc p) n h = h

      on : (p n : ℕ) → HereOrInside (λ m. Bad y m) (λ q m. Within y q m) p n → HereOrInside (λ m. Twice {A = Y} [] m ⊎ Bad y m) (λ q m. Within y q m) p n
      on zero n h = inr h
      on (suc p) n h = h

      back : (p n : ℕ) → HereOrInside (λ m. Twice {A = Y} [] m ⊎ Bad y m) (λ q m. Within y q m) p n → HereOrInside (λ m. Bad y m) (λ q m. Within y q m) p n
      back zero n (inl twice) = absurd (twice.1 refl)
      back zero n (inr h) = h
      back (suc p) n h = h
  one_of [] (e ∷ others) each x y alike not = absurd each
  one_of (e ∷ earlier) [] each x y alike not = absurd each
  one_of (e ∷ earlier) (f ∷ others) each x y alike not =
      not (inr (
        7,
        least_here (λ n. Twice (e ∷ earlier) n ⊎ Wrong x n) (λ p n. Inside x p n) 7 (inl (refl, λ none. cc)) low,
        least_here (λ n. Twice (f ∷ others) n ⊎ Bad y n) (λ p n. Within y p n) 7 (inl (refl, λ none. cc)) high,
      ))
    where
      low : (m : ℕ) → Twice (e ∷ earlier) m ⊎ Wrong x m → 7 ≤ m
      low m (inl twice) = omega (arith, twice.0)
      low m (inr wrong) = above x m wrong

      high : (m : ℕ) → Twice (f ∷ others) m ⊎ Bad y m → 7 ≤ m
      high m (inl twice) = omega (arith, twice.0)
      high m (inr wrong) = over y m wrong

  pub singular_pair : RowPair A B left own Differs (singular give V Means IsAbsent Wrong Inside) (singular take V Is IsAbsent Bad Within)
  singular_pair = record { Alike = Alike; given = given; passes = passes; passes_too = passes_too; one = one_of }

-- ---- rows in which no struct stands

module _ (A B : Spelling) (left : ℕ) (own : List (Row FieldItem)) (Inside : ℕ → Tree → Tree → Type 0) {X V : Type 0} (take : Tree → List X) (id : ℕ) (passes : (item : FieldItem) → IsFree own item → given_to take id item ≡ [])
    (Alike : X → X → Type 0) (self : (x : X) → Alike x x) (inner : (n : ℕ) (tree other : Tree) → Inside n tree other → AllZip Alike (of_id take id (pos n) tree) (of_id take id (pos n) other)) where
  -- what isn't wrong by more than what twins have alike
  pub alike_pair : (Means : X → V → Type 0) (IsAbsent : V → Type 0) (Wrong : X → ℕ → Type 0) → ((x : X) (n : ℕ) → Wrong x n → 7 ≤ n) → ((x y : X) → Alike x y → (n : ℕ) → Wrong x n ↔ Wrong y n)
      → RowPair A B left own Inside (singular (λ item. given_to take id item) V Means IsAbsent Wrong nothing_inside) (singular (λ item. given_to take id item) V Means IsAbsent Wrong nothing_inside)
  alike_pair Means IsAbsent Wrong above same =
      singular_pair A B left own Inside (λ item. given_to take id item) (λ item. given_to take id item) Means Means IsAbsent Wrong Wrong nothing_inside nothing_inside Alike
      (alike_given A B left own Inside take id Alike self inner) (λ item free. passes (record { id = item.id; tree = item.tree; text = free.0 }) free.1)
      (λ item free. passes (record { id = item.id; tree = item.tree; text = free.0 }) free.1) above above (λ x y alike not. none_or_first (λ n. Wrong x n) (λ first. not (of x y alike first)))
    where
      nothing : ℕ → ℕ → Type 0
      nothing p n = ⊥

      of : (x y : X) → Alike x y → NoneOrFirst (λ n. Wrong x n) → SameOffence (HereOrInside (λ n. Wrong x n) nothing) (HereOrInside (λ n. Wrong y n) nothing)
      of x y alike (inl none) = inl (none_in_item (λ n. Wrong x n) nothing none (λ p n h. h), none_in_item (λ n. Wrong y n) nothing (λ n h. none n ((same x y alike n).1 h)) (λ p n h. h))
      of x y alike (inr (n, offends, low)) = inr (n, least_here (λ n. Wrong x n) nothing n offends low, least_here (λ n. Wrong y n) nothing n ((same x y alike n).0 offends) (λ m h. low m ((same x y alike m).1 h)))

-- of which twins hold the same
pub plain_pair : (A B : Spelling) (left : ℕ) (own : List (Row FieldItem)) (Inside : ℕ → Tree → Tree → Type 0) {X V : Type 0} (take : Tree → List X) (id : ℕ) → ((item : FieldItem) → IsFree own item → given_to take id item ≡ [])
    → ((n : ℕ) (tree other : Tree) → Inside n tree other → of_id take id (pos n) tree ≡ of_id take id (pos n) other) → (Means : X → V → Type 0) (IsAbsent : V → Type 0) (Wrong : X → ℕ → Type 0) → ((x : X) (n : ℕ) → Wrong x n → 7 ≤ n)
    → RowPair A B left own Inside (singular (λ item. given_to take id item) V Means IsAbsent Wrong nothing_inside) (singular (λ item. given_to take id item) V Means IsAbsent Wrong nothing_inside)
plain_pair A B left own Inside {X} take id passes quiet Means IsAbsent Wrong above =
    alike_pair A B left own Inside take id passes (λ x y. x ≡ y) (λ x. refl)
    (λ n tree other within. subst (λ (l : List X). AllZip (λ x y. x ≡ y) (of_id take id (pos n) tree) l) (quiet n tree other within) (all_zip_self (λ x y. x ≡ y) (λ x. refl) (of_id take id (pos n) tree))) Means IsAbsent Wrong above
    (λ x y same n. (λ h. subst (λ z. Wrong z n) same h, λ h. subst (λ z. Wrong z n) (sym same) h))

-- ---- the values of twins

-- a truth value alone is held by its head
struct_text : (Spells : Spelling) (inner : Fields) (left : ℕ) (held : Option Bool) (text : List ℕ) → ValueThen Spells (struct_of inner) left held text [] → StructText Spells (left - 1) inner text
unfolding ValueThen
struct_text Spells inner zero held text h = absurd h
struct_text Spells inner (suc left) held text h = subst (λ m. StructText Spells m inner text) (omega arith) h

list_text : (Spells : Spelling) (trees : Trees) (left : ℕ) (held : Option Bool) (text : List ℕ) → ValueThen Spells (list_of trees) left held text [] → ListThere Spells (left - 1) trees text
unfolding ValueThen
list_text Spells trees zero held text h = absurd h
list_text Spells trees (suc left) held text h = subst (λ m. ListThere Spells m trees text) (omega arith) (record { head = h.0; inner = h.1; begins = h.2; count = h.3; stand = h.4 })

-- things with the bytes of their fields
module _ (Spells : Spelling) (left : ℕ) {X : Type 0} (take : Tree → List X) (id : ℕ) (Stood : X × List ℕ → Type 0)
    (of_value : (tree : Tree) (held : Option Bool) (text : List ℕ) → ValueThen Spells tree left held text [] → Each Stood (with_text text (take tree))) where
  each_of : (b : Bool) (item : FieldItem) → Stands Spells left item → Each Stood (with_text item.text (if b then take item.tree else []))
  each_of true item stands = of_value item.tree stands.0 item.text stands.1
  each_of false item stands = tt

  each_stood : (item : FieldItem) → Stands Spells left item → Each Stood (with_text item.text (given_to take id item))
  each_stood item stands = each_of (has_id id item.id) item stands

-- things that correspond, each of which stands
abbrev Joined : {X : Type 0} → (X → X → Type 0) → (X × List ℕ → Type 0) → (X × List ℕ → Type 0) → X × List ℕ → X × List ℕ → Type 0
Joined Alike Here There x y = Alike x.0 y.0 × Here x × There y

join : {X : Type 0} (Alike : X → X → Type 0) (Here There : X × List ℕ → Type 0) (xs ys : List X) (text other : List ℕ) → AllZip Alike xs ys → Each Here (with_text text xs) → Each There (with_text other ys)
    → AllZip (Joined Alike Here There) (with_text text xs) (with_text other ys)
join Alike Here There [] [] text other alike here there = tt
join Alike Here There [] (y ∷ ys) text other alike here there = absurd alike
join Alike Here There (x ∷ xs) [] text other alike here there = absurd alike
join Alike Here There (x ∷ xs) (y ∷ ys) text other alike here there = ((alike.0, here.0, there.0), join Alike Here There xs ys text other alike.1 here.1 there.1)

-- no bytes make something of nothing
with_none : {X : Type 0} (text other : List ℕ) (xs : List X) → with_text text xs ≡ [] → with_text other xs ≡ []
with_none text other [] none = refl
with_none text other (x ∷ xs) none = cc

-- ---- one struct

structs_stand : (Spells : Spelling) (left : ℕ) (tree : Tree) (held : Option Bool) (text : List ℕ) → ValueThen Spells tree left held text [] → Each (λ x. StructText Spells (left - 1) x.0 x.1) (with_text text (struct_in tree))
structs_stand Spells left (leaf x) held text h = tt
structs_stand Spells left (binary x) held text h = tt
structs_stand Spells left (struct_of inner) held text h = (struct_text Spells inner left held text h, tt)
structs_stand Spells left (map_of x) held text h = tt
structs_stand Spells left (set_of x) held text h = tt
structs_stand Spells left (list_of x) held text h = tt

module _ (A B : Spelling) (left : ℕ) (own : List (Row FieldItem)) (Inside : ℕ → Tree → Tree → Type 0) (Padded : Fields → Fields → Type 0) (self : (f : Fields) → Padded f f) (K J : Rules FieldItem) (pair : StructPair A B (left - 1) Padded K J)
    (id : ℕ) (passes : (item : FieldItem) → IsFree own item → with_text item.text (given_to struct_in id item) ≡ [])
    (inner : (n : ℕ) (tree other : Tree) → Inside n tree other → AllZip Padded (of_id struct_in id (pos n) tree) (of_id struct_in id (pos n) other)) {V : Type 0} (Means : Fields → V → Type 0) (IsAbsent : V → Type 0) where
  abbrev AlikeStructs : Fields × List ℕ → Fields × List ℕ → Type 0
  AlikeStructs x y = Joined Padded (λ z. StructText A (left - 1) z.0 z.1) (λ z. StructText B (left - 1) z.0 z.1) x y

  structs_alike : (item other : FieldItem) → Twins A B left own Inside item other → AllZip AlikeStructs (with_text item.text (given_to struct_in id item)) (with_text other.text (given_to struct_in id other))
  structs_alike item other twins =
      join Padded (λ z. StructText A (left - 1) z.0 z.1) (λ z. StructText B (left - 1) z.0 z.1) (given_to struct_in id item) (given_to struct_in id other) item.text other.text
      (alike_given A B left own Inside struct_in id Padded self inner item other twins) (each_stood A left struct_in id (λ z. StructText A (left - 1) z.0 z.1) (structs_stand A left) item twins.stands)
      (each_stood B left struct_in id (λ z. StructText B (left - 1) z.0 z.1) (structs_stand B left) other twins.there)

  free_struct : (item : FieldItem) → Free A B left own Inside item → with_text item.text (given_to struct_in id item) ≡ []
  free_struct item free = with_none free.0 item.text (given_to struct_in id item) (passes (record { id = item.id; tree = item.tree; text = free.0 }) free.1)

  pub structure_pair : RowPair A B left own Inside (structure A (left - 1) K id V Means IsAbsent) (structure B (left - 1) J id V Means IsAbsent)
  structure_pair =
      singular_pair A B left own Inside (λ item. with_text item.text (given_to struct_in id item)) (λ item. with_text item.text (given_to struct_in id item)) (λ held value. Means held.0 value) (λ held value. Means held.0 value) IsAbsent nothing_wrong
      nothing_wrong (λ held p n. Offence (structs A (left - 1)) K (whole_struct held.1) p n) (λ held p n. Offence (structs B (left - 1)) J (whole_struct held.1) p n) AlikeStructs
      structs_alike free_struct free_struct (λ x n h. absurd h) (λ y n h. absurd h) (λ x y alike not. not (of x y (pair x.0 y.0 alike.0 x.1 y.1 alike.1 alike.2)))
    where
      of : (x y : Fields × List ℕ) → SameCause (Offence (structs A (left - 1)) K (whole_struct x.1)) (Offence (structs B (left - 1)) J (whole_struct y.1))
          → SameOffence (HereOrInside (λ n. ⊥) (λ p n. Offence (structs A (left - 1)) K (whole_struct x.1) p n)) (HereOrInside (λ n. ⊥) (λ p n. Offence (structs B (left - 1)) J (whole_struct y.1) p n))
      of x y (inl none) = inl (none_in_item (λ n. ⊥) (λ p n. Offence (structs A (left - 1)) K (whole_struct x.1) p n) (λ n h. h) none.0, none_in_item (λ n. ⊥) (λ p n. Offence (structs B (left - 1)) J (whole_struct y.1) p n) (λ n h. h) none.1)
      of x y (inr (cause, least, same)) =
          inr (
            cause_number cause,
            least_inside (λ n. ⊥) (λ p n. Offence (structs A (left - 1)) K (whole_struct x.1) p n) (cause_number cause) (λ n h. h) least,
            least_inside (λ n. ⊥) (λ p n. Offence (structs B (left - 1)) J (whole_struct y.1) p n) (cause_number cause) (λ n h. h) same,
          )

-- ---- the elements of a list

-- of which the structs on both sides correspond
module _ (Padded : Fields → Fields → Type 0) where
  abbrev Alongside : Trees → Trees → Type 0
  Alongside no_trees no_trees = Unit {0}
  Alongside no_trees (tree_then twin others) = ⊥
  Alongside (tree_then tree more) no_trees = ⊥
  Alongside (tree_then tree more) (tree_then twin others) = ((f g : Fields) → tree ≡ struct_of f → twin ≡ struct_of g → Padded f g) × Alongside more others

  alongside_self : ((f : Fields) → Padded f f) → (trees : Trees) → Alongside trees trees
  alongside_self self no_trees = tt
  alongside_self self (tree_then tree more) = (λ f g is its. let both : struct_of f ≡ struct_of g = sym is ∙ its in let same : f ≡ g = cc in subst (λ (x : Fields). Padded f x) same (self f), alongside_self self more)

  alongside_each : (trees others : Trees) → EachPadded Padded trees others → Alongside trees others
  alongside_each _ _ no_structs = tt
  alongside_each _ _ (struct_then this other more others padded each) = (
    λ f g is its. let one : this ≡ f = cc in let two : other ≡ g = cc in subst (λ (x : Fields). Padded x g) one (subst (λ (x : Fields). Padded this x) two padded),
    alongside_each more others each,
  )

module _ (A B : Spelling) (k : Keeps A) (j : Keeps B) (left : ℕ) (Padded : Fields → Fields → Type 0) (K J : Rules FieldItem) (O : RulesLaws (structs A left) K) (N : RulesLaws (structs B left) J) (pair : StructPair A B left Padded K J) where
  -- what the first element is, in each text
  record Heads (tree : Tree) (more : Trees) (Spells : Spelling) (bytes : List ℕ) : Type 0 where
    fields : Fields
    is : tree ≡ struct_of fields
    text : List ℕ
    after : List ℕ
    parts : bytes ≡ text ++ after
    value : ValueThen Spells tree (suc left) None text []
    stands : StructText Spells left fields text
    stand : ElementsThen Spells more (Some kinds.Struct) (suc left) after []

  heads : (Spells : Spelling) → Keeps Spells → (K : Rules FieldItem) (tree : Tree) (more : Trees) (bytes : List ℕ) → ElementsThen Spells (tree_then tree more) (Some kinds.Struct) (suc left) bytes [] → Heads tree more Spells bytes
  unfolding tree_count
  heads Spells kept K tree more bytes h = of (first Spells kept.reads kept.ThenVarint kept.Refuses kept.exactly kept.parts left K (tree_then tree more) bytes (omega arith) h)
    where
      of : First Spells left (tree_then tree more) bytes → Heads tree more Spells bytes
      of one =
          let same : tree_then tree more ≡ tree_then (struct_of one.fields) one.others = one.is in
          let tree_is : tree ≡ struct_of one.fields = cc in
          let others_are : more ≡ one.others = cc in
          record {
            fields = one.fields;
            is = tree_is;
            text = one.text;
            after = one.after;
            parts = one.parts;
            value = subst (λ (t : Tree). ValueThen Spells t (suc left) None one.text []) (sym tree_is) one.value;
            stands = one.stands;
            stand = subst (λ (t : Trees). ElementsThen Spells t (Some kinds.Struct) (suc left) one.after []) (sym others_are) one.stand;
          }

  pub elements_pair : (trees those : Trees) → Alongside Padded trees those → (bytes other : List ℕ) → ElementsThen A trees (Some kinds.Struct) (suc left) bytes [] → ElementsThen B those (Some kinds.Struct) (suc left) other []
      → (total sum : ℕ) → length bytes ≤ total → length other ≤ sum → SameCause (ElementsOffend A left K total trees bytes) (ElementsOffend B left J sum those other)
  unfolding ElementsOffend
  elements_pair no_trees no_trees along bytes other h g total sum small less = inl (λ p n o. o, λ p n o. o)
  elements_pair no_trees (tree_then twin rest) along bytes other h g total sum small less = absurd along
  elements_pair (tree_then tree more) no_trees along bytes other h g total sum small less = absurd along
  elements_pair (tree_then tree more) (tree_then twin rest) along bytes other h g total sum small less =
      let one = heads A k K tree more bytes h in
      let same = heads B j J twin rest other g in
      of_first one same
      (elements_pair more rest along.1 one.after same.after one.stand same.stand total sum (omega (arith, small, ap length one.parts, length-append one.text one.after)) (omega (arith, less, ap length same.parts, length-append same.text same.after)))
      (pair one.fields same.fields (along.0 one.fields same.fields one.is same.is) one.text same.text one.stands same.stands)
    where
      of_first : (one : Heads tree more A bytes) (same : Heads twin rest B other) → SameCause (ElementsOffend A left K total more one.after) (ElementsOffend B left J sum rest same.after)
          → SameCause (Offence (structs A left) K (whole_struct one.text)) (Offence (structs B left) J (whole_struct same.text)) → SameCause (ElementsOffend A left K total (tree_then tree more) bytes) (ElementsOffend B left J sum (tree_then twin rest) other)
      of_first one same others (inl none) =
          cause_moved (ElementsOffend A left K total more one.after) (ElementsOffend B left J sum rest same.after) (ElementsOffend A left K total (tree_then tree more) bytes) (ElementsOffend B left J sum (tree_then twin rest) other)
          (λ p n o. later_from A k.reads k.ThenVarint k.Refuses k.exactly k.parts left K tree more bytes one.text one.after one.parts one.value total p n o)
          (λ p n o. later_to A k.reads k.ThenVarint k.Refuses k.exactly k.parts left K tree more bytes one.text one.after one.parts one.value none.0 total p n o)
          (λ p n o. later_from B j.reads j.ThenVarint j.Refuses j.exactly j.parts left J twin rest other same.text same.after same.parts same.value sum p n o)
          (λ p n o. later_to B j.reads j.ThenVarint j.Refuses j.exactly j.parts left J twin rest other same.text same.after same.parts same.value none.1 sum p n o) others
      of_first one same others (inr (cause, least, its)) =
          inr (
            cause,
            this_least A k.reads k.ThenVarint k.Refuses k.exactly k.parts left K tree more bytes one.text one.after one.parts one.value O total small (cause_number cause) least,
            this_least B j.reads j.ThenVarint j.Refuses j.exactly j.parts left J twin rest other same.text same.after same.parts same.value N sum less (cause_number cause) its,
          )

-- ---- a list of structs

-- its elements
abbrev elements : Trees → List Tree
elements no_trees = []
elements (tree_then tree more) = tree ∷ elements more

-- it is one of others where its head says so
is_of_others : (Spells : Spelling) (left : ℕ) (trees : Trees) (text : List ℕ) (there : ListThere Spells left trees text) → 1 ≤ there.head.size → (there.head.element ≡ Some kinds.Struct → ⊥) → IsOfOthers trees
is_of_others Spells left trees text there some not = let bad = bad_element Spells left trees text there (λ p n. ⊥) some not in of bad.place bad.offence
  where
    of : (p : ℕ) → HereOrInside (BadElement (trees, text)) (λ q n. ⊥) p 14 → IsOfOthers trees
    of zero h = h.1
    of (suc p) h = absurd h

-- each of its elements is a struct
all_structs : (Spells : Spelling) (left : ℕ) (trees : Trees) (text : List ℕ) (there : ListThere Spells left trees text) → Each (λ tree. kind_of tree ≡ kinds.Struct) (elements trees) → 1 ≤ there.head.size → there.head.element ≡ Some kinds.Struct
unfolding tree_count ElementsThen
all_structs Spells left trees text there are some = of trees there.count there.stand are
  where
    of : (trees : Trees) → there.head.size ≡ tree_count trees → ElementsThen Spells trees there.head.element left there.inner [] → Each (λ tree. kind_of tree ≡ kinds.Struct) (elements trees) → there.head.element ≡ Some kinds.Struct
    of no_trees count h are = absurd (omega (arith, count, some))
    of (tree_then tree more) count h are = h.0 ∙ ap (λ (k : TypeCode). Some k) are.0

structs_here : (Padded : Fields → Fields → Type 0) (trees others : Trees) → EachPadded Padded trees others → Each (λ tree. kind_of tree ≡ kinds.Struct) (elements trees)
structs_here Padded _ _ no_structs = tt
structs_here Padded _ _ (struct_then this other more others padded each) = (refl, structs_here Padded more others each)

structs_there : (Padded : Fields → Fields → Type 0) (trees others : Trees) → EachPadded Padded trees others → Each (λ tree. kind_of tree ≡ kinds.Struct) (elements others)
structs_there Padded _ _ no_structs = tt
structs_there Padded _ _ (struct_then this other more others padded each) = (refl, structs_there Padded more others each)

lists_stand : (Spells : Spelling) (left : ℕ) (tree : Tree) (held : Option Bool) (text : List ℕ) → ValueThen Spells tree left held text [] → Each (λ x. ListThere Spells (left - 1) x.0 x.1) (with_text text (list_in tree))
lists_stand Spells left (leaf x) held text h = tt
lists_stand Spells left (binary x) held text h = tt
lists_stand Spells left (struct_of x) held text h = tt
lists_stand Spells left (map_of x) held text h = tt
lists_stand Spells left (set_of x) held text h = tt
lists_stand Spells left (list_of trees) held text h = (list_text Spells trees left held text h, tt)

-- the same list, or structs that correspond
abbrev pub ListAlike : (Fields → Fields → Type 0) → Trees → Trees → Type 0
ListAlike Padded trees others = (trees ≡ others) ⊎ EachPadded Padded trees others

module _ (A B : Spelling) (k : Keeps A) (j : Keeps B) (left : ℕ) (own : List (Row FieldItem)) (Inside : ℕ → Tree → Tree → Type 0) (Padded : Fields → Fields → Type 0) (self : (f : Fields) → Padded f f) (K J : Rules FieldItem)
    (O : RulesLaws (structs A (left - 2)) K) (N : RulesLaws (structs B (left - 2)) J) (pair : StructPair A B (left - 2) Padded K J) (id : ℕ) (passes : (item : FieldItem) → IsFree own item → with_text item.text (given_to list_in id item) ≡ [])
    (inner : (n : ℕ) (tree other : Tree) → Inside n tree other → AllZip (ListAlike Padded) (of_id list_in id (pos n) tree) (of_id list_in id (pos n) other)) {V : Type 0} (Means : Trees → V → Type 0) (IsAbsent : V → Type 0) where
  abbrev AlikeLists : Trees × List ℕ → Trees × List ℕ → Type 0
  AlikeLists x y = Joined (ListAlike Padded) (λ z. ListThere A (left - 1) z.0 z.1) (λ z. ListThere B (left - 1) z.0 z.1) x y

  list_offence_alike : (item other : FieldItem) → Twins A B left own Inside item other → AllZip AlikeLists (with_text item.text (given_to list_in id item)) (with_text other.text (given_to list_in id other))
  list_offence_alike item other twins =
      join (ListAlike Padded) (λ z. ListThere A (left - 1) z.0 z.1) (λ z. ListThere B (left - 1) z.0 z.1) (given_to list_in id item) (given_to list_in id other) item.text other.text
      (alike_given A B left own Inside list_in id (ListAlike Padded) (λ trees. inl refl) inner item other twins) (each_stood A left list_in id (λ z. ListThere A (left - 1) z.0 z.1) (lists_stand A left) item twins.stands)
      (each_stood B left list_in id (λ z. ListThere B (left - 1) z.0 z.1) (lists_stand B left) other twins.there)

  free_list : (item : FieldItem) → Free A B left own Inside item → with_text item.text (given_to list_in id item) ≡ []
  free_list item free = with_none free.0 item.text (given_to list_in id item) (passes (record { id = item.id; tree = item.tree; text = free.0 }) free.1)

  -- what offends in the list, by itself or in its elements
  abbrev ListFaults : Spelling → Rules FieldItem → Trees × List ℕ → ℕ → ℕ → Type 0
  ListFaults Spells rules held p n = HereOrInside (λ m. BadElement held m) (λ q m. ListOffends Spells (left - 2) rules held q m) p n

  module _ (trees those : Trees) (text more : List ℕ) (there : ListThere A (left - 1) trees text) (here : ListThere B (left - 1) those more) where
    abbrev SameList : Type 0
    SameList = SameOffence (ListFaults A K (trees, text)) (ListFaults B J (those, more))

    same_structs : Alongside Padded trees those → (1 ≤ there.head.size → there.head.element ≡ Some kinds.Struct) → (1 ≤ here.head.size → here.head.element ≡ Some kinds.Struct) → SameList
    same_structs along are also =
        of (elements_pair A B k j (left - 2) Padded K J O N pair trees those along there.inner here.inner (are_elements A k.reads k.ThenVarint k.Refuses k.exactly left trees text there are).stand
        (are_elements B j.reads j.ThenVarint j.Refuses j.exactly left those more here also).stand (length text) (length more) (inner_within A k.reads k.ThenVarint k.Refuses k.exactly left trees text there are K)
        (inner_within B j.reads j.ThenVarint j.Refuses j.exactly left those more here also J))
      where
        of : SameCause (ElementsOffend A (left - 2) K (length text) trees there.inner) (ElementsOffend B (left - 2) J (length more) those here.inner) → SameList
        of (inl none) = inl (
          list_judged A k.reads k.ThenVarint k.Refuses k.exactly left trees text there are K Unit (Ok tt) none.0,
          list_judged B j.reads j.ThenVarint j.Refuses j.exactly left those more here also J Unit (Ok tt) none.1,
        )
        of (inr (cause, least, same)) =
            inr (
              cause_number cause,
              list_judged A k.reads k.ThenVarint k.Refuses k.exactly left trees text there are K Unit (Err (halts.Why cause)) least,
              list_judged B j.reads j.ThenVarint j.Refuses j.exactly left those more here also J Unit (Err (halts.Why cause)) same,
            )

  -- of one list, its elements may be others than structs
  module _ (trees : Trees) (text more : List ℕ) (there : ListThere A (left - 1) trees text) (here : ListThere B (left - 1) trees more) where
    same_others : IsOfOthers trees → SameList trees trees text more there here
    same_others others =
        inr (
          14,
          least_here (λ n. BadElement (trees, text) n) (λ p n. ListOffends A (left - 2) K (trees, text) p n) 14 (refl, others) (λ m o. omega (arith, o.0)),
          least_here (λ n. BadElement (trees, more) n) (λ p n. ListOffends B (left - 2) J (trees, more) p n) 14 (refl, others) (λ m o. omega (arith, o.0)),
        )

    same_list : Surely (SameList trees trees text more there here)
    same_list not = of (cases_lt 0 there.head.size)
      where
        never : IsOfOthers trees → ⊥
        never others = not (same_others others)

        of : (0 < there.head.size) ⊎ (there.head.size ≤ 0) → ⊥
        of (inl some) =
            let also : 1 ≤ here.head.size = omega (arith, some, there.count, here.count) in
            never (is_of_others A (left - 1) trees text there some (λ is. never (is_of_others B (left - 1) trees more here also (λ it. not (same_structs trees trees text more there here (alongside_self Padded self trees) (λ h. is) (λ h. it))))))
        of (inr none) = not (same_structs trees trees text more there here (alongside_self Padded self trees) (λ some. absurd (omega (arith, some, none))) (λ some. absurd (omega (arith, some, none, there.count, here.count))))

  lists_same : (trees those : Trees) → ListAlike Padded trees those → (text more : List ℕ) (there : ListThere A (left - 1) trees text) (here : ListThere B (left - 1) those more) → Surely (SameOffence (ListFaults A K (trees, text)) (ListFaults B J (those, more)))
  lists_same trees those (inl same) text more there here =
      subst (λ (t : Trees). Surely (SameOffence (ListFaults A K (trees, text)) (ListFaults B J (t, more)))) same (same_list trees text more there (subst (λ (t : Trees). ListThere B (left - 1) t more) (sym same) here))
  lists_same trees those (inr each) text more there here = λ not.
      not (same_structs trees those text more there here (alongside_each Padded trees those each) (all_structs A (left - 1) trees text there (structs_here Padded trees those each))
      (all_structs B (left - 1) those more here (structs_there Padded trees those each)))

  pub structures_pair : RowPair A B left own Inside (structures A (left - 2) K id V Means IsAbsent) (structures B (left - 2) J id V Means IsAbsent)
  structures_pair =
      singular_pair A B left own Inside (λ item. with_text item.text (given_to list_in id item)) (λ item. with_text item.text (given_to list_in id item)) (λ held value. Means held.0 value) (λ held value. Means held.0 value) IsAbsent BadElement BadElement
      (λ held p n. ListOffends A (left - 2) K held p n) (λ held p n. ListOffends B (left - 2) J held p n) AlikeLists list_offence_alike free_list free_list (λ x n h. omega (arith, h.0)) (λ y n h. omega (arith, h.0))
      (λ x y alike. lists_same x.0 y.0 alike.0 x.1 y.1 alike.1 alike.2)
