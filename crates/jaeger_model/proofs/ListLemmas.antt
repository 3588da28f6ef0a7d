-- A list of structs that is known to stand at the cursor, element by element, and what offends in it.
use Rattle.std.proofs.Common.{◌≡◌, ◌≤◌, ◌<◌, ◌+◌, ◌-◌, ◌++◌, ◌∷◌, ◌⊎◌, inl, inr, ℕ, zero, suc, List, [], length, Result, Ok, Err, Option, Some, None, refl, sym, ap, subst, ◌∙◌, arith}
use Rattle.std.proofs.lemmas.List.{append_assoc, append-nil, append_cancel_right, length-append}
use Rattle.span_io.specs.Causes.{cause_number}
use Rattle.span_io.specs.declared.cause.Cause.{Cause}
use Rattle.span_io.specs.declared.halt.Halt.{Halt}
use Rattle.span_io.specs.declared.halt.Halt.TheVariants as halts
use Rattle.span_io.specs.Offences.{FormatLaws, RulesLaws}
use Rattle.span_io.proofs.OffenceLaws.{offence_within, least_here, least_inside, none_in_item}
use Rattle.span_io.specs.Offences.{Rules, Cut, Offence, unread, here, inside, at_end, Least, HereOrInside, Judges}
use Rattle.span_io.specs.RowsSoFar.{Gave, Sets}
use Rattle.span_io.specs.Tables.{Twice}
use Rattle.thrift_core.specs.declared.field.ListHead.{ListHead}
use Rattle.thrift_core.specs.declared.type_code.TypeCode.{TypeCode}
use Rattle.thrift_core.specs.declared.type_code.TypeCode.TheVariants as kinds
use Rattle.thrift_core.specs.FieldValues.{EachStruct}
use Rattle.thrift_core.specs.Messages.{FieldItem, StructRest, structs, whole_struct}
use Rattle.thrift_core.proofs.OneReading.{of_kind, value_front, own_text, one_part, one_value}
use Rattle.thrift_core.specs.Parts.{Part, list_head, Spelling, Begins}
use Rattle.thrift_core.specs.Protocols.{ReadsExactly, PartLaws}
use Rattle.thrift_core.specs.Reading.{ReadingOf}
use Rattle.thrift_core.proofs.StructLaws.{struct_laws}
use Rattle.thrift_core.specs.Trees.{Tree, structure, list_of, Fields, Trees, no_trees, tree_then, tree_count, kind_of, ValueThen, ElementsThen, StructText}
use Rattle.jaeger_model.specs.InnerRows.{IsOfOthers, BadElement, ElementsOffend, ListOffends}
use Rattle.jaeger_model.specs.private.ListsSoFar.{AreElements}

pub least_same : (A B : ℕ → ℕ → Type 0) → ((p n : ℕ) → A p n → B p n) → ((p n : ℕ) → B p n → A p n) → (n : ℕ) → Least A n → Least B n
least_same A B to from n h = record { place = h.place; offence = to h.place n h.offence; least = λ p m o. h.least p m (from p m o) }

-- the first element of a list of structs, and the others
pub record First (Spells : Spelling) (left : ℕ) (trees : Trees) (bytes : List ℕ) : Type 0 where
  pub fields : Fields
  pub others : Trees
  pub text : List ℕ
  pub after : List ℕ
  pub is : trees ≡ tree_then (structure fields) others
  pub parts : bytes ≡ text ++ after
  pub value : ValueThen Spells (structure fields) (suc left) None text []
  pub stands : StructText Spells left fields text
  pub stand : ElementsThen Spells others (Some kinds.Struct) (suc left) after []

-- where a reader is in the list: these elements are left
pub record ElementsLeft (Spells : Spelling) (left size : ℕ) (K : Rules FieldItem) {B : Type 0} (Is : B → Fields → Type 0) (read : List B) (text tail : List ℕ) (trees : Trees) (bytes : List ℕ) (count : ℕ) : Type 0 where
  pub more : Trees
  pub rest : List ℕ
  pub parts : bytes ≡ rest ++ tail
  pub sum : size ≡ count + tree_count more
  pub stand : ElementsThen Spells more (Some kinds.Struct) (suc left) rest []
  pub fewer : length rest ≤ length text
  pub adds : (others : List B) → EachStruct Is more others → EachStruct Is trees (read ++ others)
  pub to : (total place n : ℕ) → ElementsOffend Spells left K total trees text place n → ElementsOffend Spells left K total more rest place n
  pub from : (total place n : ℕ) → ElementsOffend Spells left K total more rest place n → ElementsOffend Spells left K total trees text place n

-- what the loop keeps
pub record Listing (Spells : Spelling) (left size : ℕ) (K : Rules FieldItem) {B : Type 0} (Is : B → Fields → Type 0) (read : List B) (start bytes : List ℕ) (count : ℕ) : Type 0 where
  pub shorter : length bytes ≤ length start
  pub counted : length read ≡ count
  pub standing : (text tail : List ℕ) (trees : Trees) → start ≡ text ++ tail → AreElements Spells left size trees text → ElementsLeft Spells left size K Is read text tail trees bytes count

-- ---- places

module _ (Spells : Spelling) (left : ℕ) (L : FormatLaws (structs Spells left)) (K : Rules FieldItem) where
  cut_shorter : (whole rest : StructRest) (seen : List FieldItem) → Cut (structs Spells left) whole seen rest → length rest.bytes ≤ length whole.bytes
  unfolding Cut
  cut_shorter whole rest [] cut = omega (arith, ap (λ (r : StructRest). length r.bytes) cut)
  cut_shorter whole rest (this ∷ seen) cut = omega (arith, cut_shorter cut.0 rest seen cut.2, L.room this whole cut.0 cut.1)

  pub offence_some : (text : List ℕ) (place n : ℕ) → Offence (structs Spells left) K (whole_struct text) place n → 1 ≤ place
  offence_some text place n (unread o) = absurd o.offends
  offence_some text place n (here o) = omega (arith, o.placed, cut_shorter (whole_struct text) o.rest o.seen o.cut)
  offence_some text place n (inside o) =
      omega (arith, o.placed, cut_shorter (whole_struct text) o.rest o.seen o.cut, L.room o.this o.rest o.after o.begins, L.some_beside)
  offence_some text place n (at_end o) =
      omega (arith, o.placed, cut_shorter (whole_struct text) o.rest o.seen o.cut, L.end_room o.rest o.is_end)

  -- what offends in the elements that are left stands in their bytes
  pub elements_place : (total : ℕ) (trees : Trees) (bytes : List ℕ) (place n : ℕ) → ElementsOffend Spells left K total trees bytes place n → total < place + length bytes
  unfolding ElementsOffend
  elements_place total no_trees bytes place n o = absurd o
  elements_place total (tree_then tree more) bytes place n (text, after, parts, value, inl (inner, offence, placed)) = omega (arith, placed, offence_some text inner n offence)
  elements_place total (tree_then tree more) bytes place n (text, after, parts, value, inr later) = omega (arith, elements_place total more after place n later, ap length parts, length-append text after)

  pub elements_within : RulesLaws (structs Spells left) K → (total : ℕ) (trees : Trees) (bytes : List ℕ) (place n : ℕ) → ElementsOffend Spells left K total trees bytes place n → place ≤ total
  unfolding ElementsOffend
  elements_within O total no_trees bytes place n o = absurd o
  elements_within O total (tree_then tree more) bytes place n (text, after, parts, value, inl (inner, offence, placed)) =
      omega (arith, placed, offence_within (structs Spells left) L K O (whole_struct text) inner n offence, ap length parts, length-append text after)
  elements_within O total (tree_then tree more) bytes place n (text, after, parts, value, inr later) = elements_within O total more after place n later

module _ (Spells : Spelling) (reads : ReadingOf) (ThenVarint : Part → List ℕ → Type 0) (Refuses : Part → Cause → List ℕ → Type 0) (R : ReadsExactly Spells reads ThenVarint Refuses) (P : PartLaws Spells ThenVarint Refuses)
    (left : ℕ) (K : Rules FieldItem) where
  L : FormatLaws (structs Spells left)
  L = struct_laws Spells reads ThenVarint Refuses R P left

  pub first : (trees : Trees) (bytes : List ℕ) → 1 ≤ tree_count trees → ElementsThen Spells trees (Some kinds.Struct) (suc left) bytes [] → First Spells left trees bytes
  unfolding tree_count ElementsThen ValueThen
  first no_trees bytes some h = absurd (omega (arith, some))
  first (tree_then tree others) bytes some h =
      let kind : Some kinds.Struct ≡ Some (kind_of tree) = h.0 in
      let same : kinds.Struct ≡ kind_of tree = cc in
      let inner = of_kind tree kinds.Struct (sym same) in
      let own = value_front Spells tree (suc left) None bytes h.1 h.2 in
      let value : ValueThen Spells tree (suc left) None own.text [] = subst (λ l. ValueThen Spells tree (suc left) None l []) (append-nil own.text) (own.again []) in
      let struct : ValueThen Spells (structure inner.0) (suc left) None own.text [] = subst (λ (t : Tree). ValueThen Spells t (suc left) None own.text []) inner.1 value in
      record {
        fields = inner.0;
        others = others;
        text = own.text;
        after = h.1;
        is = ap (λ (t : Tree). tree_then t others) inner.1;
        parts = own.parts;
        value = struct;
        stands = struct;
        stand = h.3;
      }

  -- ---- an element has one text

  one_element : (tree : Tree) (bytes text other after there : List ℕ) → bytes ≡ text ++ after → bytes ≡ other ++ there → ValueThen Spells tree (suc left) None text [] → ValueThen Spells tree (suc left) None other []
      → (text ≡ other) × (after ≡ there)
  one_element tree bytes text other after there e f h k =
      let a = own_text Spells tree (suc left) None text after h in
      let b = subst (λ l. ValueThen Spells tree (suc left) None l there) (sym f ∙ e) (own_text Spells tree (suc left) None other there k) in
      let one = one_value Spells reads ThenVarint Refuses R tree tree (suc left) None (text ++ after) after there refl a b in
      (append_cancel_right text other there (ap (λ l. text ++ l) (sym one.1) ∙ (sym e ∙ f)), one.1)

  -- ---- where an element doesn't offend, the others do

  module _ (tree : Tree) (others : Trees) (bytes text after : List ℕ) (parts : bytes ≡ text ++ after) (value : ValueThen Spells tree (suc left) None text []) where
    pub later_to : ((p n : ℕ) → Offence (structs Spells left) K (whole_struct text) p n → ⊥) → (total place n : ℕ) → ElementsOffend Spells left K total (tree_then tree others) bytes place n → ElementsOffend Spells left K total others after place n
    unfolding ElementsOffend
    later_to fine total place n (other, there, e, k, inl (inner, offence, placed)) =
        let one = one_element tree bytes text other after there parts e value k in
        absurd (fine inner n (subst (λ l. Offence (structs Spells left) K (whole_struct l) inner n) (sym one.0) offence))
    later_to fine total place n (other, there, e, k, inr later) =
        let one = one_element tree bytes text other after there parts e value k in
        subst (λ l. ElementsOffend Spells left K total others l place n) (sym one.1) later

    pub later_from : (total place n : ℕ) → ElementsOffend Spells left K total others after place n → ElementsOffend Spells left K total (tree_then tree others) bytes place n
    unfolding ElementsOffend
    later_from total place n later = (text, after, parts, value, inr later)

    -- ---- where it offends, that counts

    pub this_least : RulesLaws (structs Spells left) K → (total : ℕ) → length bytes ≤ total → (n : ℕ) → Least (Offence (structs Spells left) K (whole_struct text)) n → Least (ElementsOffend Spells left K total (tree_then tree others) bytes) n
    unfolding ElementsOffend
    this_least O total within n inner = record {
      place = total + inner.place - length bytes;
      offence = (text, after, parts, value, inl (inner.place, inner.offence, omega (arith, within)));
      least = first_of_list;
    }
      where
        in_one : (p m there : ℕ) → p + length bytes ≡ total + there → (inner.place < there) ⊎ ((inner.place ≡ there) × (n ≤ m)) → (total + inner.place - length bytes < p) ⊎ ((total + inner.place - length bytes ≡ p) × (n ≤ m))
        in_one p m there e (inl h) = inl (omega (arith, e, h, within))
        in_one p m there e (inr h) = inr (omega (arith, e, h.0, within), h.1)

        first_of_list : (p m : ℕ) → ElementsOffend Spells left K total (tree_then tree others) bytes p m → (total + inner.place - length bytes < p) ⊎ ((total + inner.place - length bytes ≡ p) × (n ≤ m))
        first_of_list p m (other, there, e, k, inl (at, offence, placed)) =
            let one = one_element tree bytes text other after there parts e value k in
            in_one p m at placed (inner.least at m (subst (λ l. Offence (structs Spells left) K (whole_struct l) at m) (sym one.0) offence))
        first_of_list p m (other, there, e, k, inr later) =
            let one = one_element tree bytes text other after there parts e value k in
            inl (omega (arith, within, elements_place Spells left L K total others there p m later, ap length one.1, ap length parts, length-append text after, offence_within (structs Spells left) L K O (whole_struct text) inner.place n inner.offence))

  -- ---- the walk

  module _ {B : Type 0} (Is : B → Fields → Type 0) (size : ℕ) where
    pub listing_start : (bytes : List ℕ) → Listing Spells left size K Is [] bytes bytes 0
    listing_start bytes = record {
      counted = refl;
      shorter = omega arith;
      standing = λ text tail trees e are. record {
        more = trees;
        rest = text;
        parts = e;
        sum = omega (arith, are.count);
        stand = are.stand;
        fewer = omega arith;
        adds = λ others h. h;
        to = λ total place n o. o;
        from = λ total place n o. o;
      };
    }

    -- the element that stands here, and its reader's answer
    module _ (read : List B) (text tail : List ℕ) (trees : Trees) (bytes : List ℕ) (count : ℕ) (some : count < size) (here : ElementsLeft Spells left size K Is read text tail trees bytes count) where
      pub this_one : First Spells left here.more here.rest
      this_one = first here.more here.rest (omega (arith, some, here.sum)) here.stand

      pub its_bytes : bytes ≡ this_one.text ++ (this_one.after ++ tail)
      its_bytes = here.parts ∙ (ap (λ l. l ++ tail) this_one.parts ∙ append_assoc this_one.text this_one.after tail)

      pub left_next : (element : B) (new : List ℕ) → ((place n : ℕ) → Offence (structs Spells left) K (whole_struct this_one.text) place n → ⊥) → new ≡ this_one.after ++ tail → Is element this_one.fields
          → ElementsLeft Spells left size K Is (read ++ element ∷ []) text tail trees new (count + 1)
      unfolding EachStruct tree_count
      left_next element new fine e is = record {
        more = this_one.others;
        rest = this_one.after;
        parts = e;
        sum = omega (arith, here.sum, ap tree_count this_one.is);
        stand = this_one.stand;
        fewer = omega (arith, here.fewer, ap length this_one.parts, length-append this_one.text this_one.after);
        adds = λ others h.
            subst (λ l. EachStruct Is trees l) (sym (append_assoc read (element ∷ []) others)) (here.adds (element ∷ others) (subst (λ (t : Trees). EachStruct Is t (element ∷ others)) (sym this_one.is) (is, h)));
        to = λ total place n o.
            later_to (structure this_one.fields) this_one.others here.rest this_one.text this_one.after this_one.parts this_one.value fine total place n
            (subst (λ (t : Trees). ElementsOffend Spells left K total t here.rest place n) this_one.is (here.to total place n o));
        from = λ total place n o.
            here.from total place n (subst (λ (t : Trees). ElementsOffend Spells left K total t here.rest place n) (sym this_one.is)
            (later_from (structure this_one.fields) this_one.others here.rest this_one.text this_one.after this_one.parts this_one.value total place n o));
      }

      pub element_halts : RulesLaws (structs Spells left) K → (S T : Type 0) (halt : Halt Cause) → Judges {T = S} (Err halt) (Offence (structs Spells left) K (whole_struct this_one.text)) → (total : ℕ) → length text ≤ total
          → Judges {T = T} (Err halt) (ElementsOffend Spells left K total trees text)
      element_halts O S T (halts.Why cause) judged total within =
          let least = this_least (structure this_one.fields) this_one.others here.rest this_one.text this_one.after this_one.parts this_one.value O total (omega (arith, here.fewer, within)) (cause_number cause) judged in
          least_same (ElementsOffend Spells left K total here.more here.rest) (ElementsOffend Spells left K total trees text) (λ p n o. here.from total p n o) (λ p n o. here.to total p n o) (cause_number cause)
          (subst (λ (t : Trees). Least (ElementsOffend Spells left K total t here.rest) (cause_number cause)) (sym this_one.is) least)
      element_halts O S T halts.OutOfMemory judged total within = tt

    -- all were read
    module _ (read : List B) (text tail : List ℕ) (trees : Trees) (bytes : List ℕ) (count : ℕ) (all : size ≤ count) (here : ElementsLeft Spells left size K Is read text tail trees bytes count) where
      none_left : here.more ≡ no_trees
      unfolding tree_count
      none_left = of here.more (omega (arith, all, here.sum))
        where
          of : (t : Trees) → tree_count t ≡ 0 → t ≡ no_trees
          of no_trees none = refl
          of (tree_then tree more) none = absurd (omega (arith, none))

      pub all_read : (bytes ≡ tail) × EachStruct Is trees read
      unfolding ElementsThen EachStruct
      all_read =
          let stand : here.rest ≡ [] = subst (λ (t : Trees). ElementsThen Spells t (Some kinds.Struct) (suc left) here.rest []) none_left here.stand in (
            here.parts ∙ ap (λ l. l ++ tail) stand,
            subst (λ l. EachStruct Is trees l) (append-nil read) (here.adds [] (subst (λ (t : Trees). EachStruct Is t []) (sym none_left) tt)),
          )

      pub none_offends : (total place n : ℕ) → ElementsOffend Spells left K total trees text place n → ⊥
      unfolding ElementsOffend
      none_offends total place n o = subst (λ (t : Trees). ElementsOffend Spells left K total t here.rest place n) none_left (here.to total place n o)

-- ---- a whole list

-- the head of a list, and then its elements
pub record ListThere (Spells : Spelling) (left : ℕ) (trees : Trees) (text : List ℕ) : Type 0 where
  pub head : ListHead
  pub inner : List ℕ
  pub begins : Begins Spells (list_head left) head text inner
  pub count : head.size ≡ tree_count trees
  pub stand : ElementsThen Spells trees head.element left inner []

pub list_there : (Spells : Spelling) (left : ℕ) (trees : Trees) (text : List ℕ) → ValueThen Spells (list_of trees) left None text [] → ListThere Spells (left - 1) trees text
unfolding ValueThen
list_there Spells zero trees text h = absurd h
list_there Spells (suc left) trees text h = subst (λ m. ListThere Spells m trees text) (omega arith) (record { head = h.0; inner = h.1; begins = h.2; count = h.3; stand = h.4 })

-- what stands before anything
pub list_before : (Spells : Spelling) (left : ℕ) (trees : Trees) (text tail bytes : List ℕ) → bytes ≡ text ++ tail → (there : ListThere Spells left trees text) → Begins Spells (list_head left) there.head bytes (there.inner ++ tail)
list_before Spells left trees text tail bytes e there =
    record { text = there.begins.text; spelled = there.begins.spelled; parts = e ∙ (ap (λ l. l ++ tail) there.begins.parts ∙ append_assoc there.begins.text there.inner tail) }

-- a list of others
module _ (Spells : Spelling) (left : ℕ) (trees : Trees) (text : List ℕ) (there : ListThere Spells left trees text) where
  of_others : 1 ≤ there.head.size → (there.head.element ≡ Some kinds.Struct → ⊥) → IsOfOthers trees
  unfolding tree_count ElementsThen
  of_others some not = of trees (omega (arith, some, there.count)) there.stand
    where
      of : (trees : Trees) → 1 ≤ tree_count trees → ElementsThen Spells trees there.head.element left there.inner [] → IsOfOthers trees
      of no_trees some h = absurd (omega (arith, some))
      of (tree_then tree more) some h = λ is. not (h.0 ∙ ap (λ (k : TypeCode). Some k) is)

  pub bad_element : (Inside : ℕ → ℕ → Type 0) → 1 ≤ there.head.size → (there.head.element ≡ Some kinds.Struct → ⊥) → Least (HereOrInside (BadElement (trees, text)) Inside) 14
  bad_element Inside some not = least_here (BadElement (trees, text)) Inside 14 (refl, of_others some not) (λ m o. omega (arith, o.0))

-- a list of structs
module _ (Spells : Spelling) (reads : ReadingOf) (ThenVarint : Part → List ℕ → Type 0) (Refuses : Part → Cause → List ℕ → Type 0) (R : ReadsExactly Spells reads ThenVarint Refuses)
    (left : ℕ) (trees : Trees) (text : List ℕ) (there : ListThere Spells (left - 1) trees text) (are : 1 ≤ there.head.size → there.head.element ≡ Some kinds.Struct) where
  -- its elements have a level
  has_level : (trees : Trees) → there.head.size ≡ tree_count trees → (m : ℕ) (bytes : List ℕ) → ElementsThen Spells trees there.head.element m bytes [] → 1 ≤ tree_count trees → 1 ≤ m
  unfolding tree_count ElementsThen ValueThen
  has_level no_trees count m bytes h some = absurd (omega (arith, some))
  has_level (tree_then tree more) count m bytes h some = of m h.2
    where
      inner : (x : Fields) × (tree ≡ structure x)
      inner = let kind : Some (kind_of tree) ≡ Some kinds.Struct = sym h.0 ∙ are (omega (arith, count, some)) in let same : kind_of tree ≡ kinds.Struct = cc in of_kind tree kinds.Struct same

      of : (m : ℕ) → ValueThen Spells tree m None bytes h.1 → 1 ≤ m
      of zero v = let none : ValueThen Spells (structure inner.0) zero None bytes h.1 = subst (λ (t : Tree). ValueThen Spells t zero None bytes h.1) inner.1 v in absurd none
      of (suc m) v = omega arith

  levels : 1 ≤ tree_count trees → left - 1 ≡ suc (left - 2)
  levels some = omega (arith, has_level trees there.count (left - 1) there.inner there.stand some)

  pub are_elements : AreElements Spells (left - 2) there.head.size trees there.inner
  unfolding tree_count ElementsThen
  are_elements = record { count = there.count; stand = of trees there.count levels there.stand }
    where
      of : (trees : Trees) → there.head.size ≡ tree_count trees → (1 ≤ tree_count trees → left - 1 ≡ suc (left - 2)) → ElementsThen Spells trees there.head.element (left - 1) there.inner []
          → ElementsThen Spells trees (Some kinds.Struct) (suc (left - 2)) there.inner []
      of no_trees count level h = h
      of (tree_then tree more) count level h =
          subst (λ m. ElementsThen Spells (tree_then tree more) (Some kinds.Struct) m there.inner []) (level (omega arith))
          (subst (λ (k : Option TypeCode). ElementsThen Spells (tree_then tree more) k (left - 1) there.inner []) (are (omega (arith, count))) h)

  module _ (K : Rules FieldItem) where
    to_elements : (place n : ℕ) → ListOffends Spells (left - 2) K (trees, text) place n → ElementsOffend Spells (left - 2) K (length text) trees there.inner place n
    unfolding tree_count ElementsOffend
    to_elements place n (head, bytes, begins, offends) = of trees levels offends
      where
        of : (trees : Trees) → (1 ≤ tree_count trees → left - 1 ≡ suc (left - 2)) → ElementsOffend Spells (left - 2) K (length text) trees bytes place n → ElementsOffend Spells (left - 2) K (length text) trees there.inner place n
        of no_trees level o = absurd o
        of (tree_then tree more) level o =
            let one = one_part Spells reads ThenVarint Refuses R (list_head (suc (left - 2))) head there.head text bytes there.inner begins (subst (λ m. Begins Spells (list_head m) there.head text there.inner) (level (omega arith)) there.begins) in
            subst (λ l. ElementsOffend Spells (left - 2) K (length text) (tree_then tree more) l place n) one.1 o

    from_elements : (place n : ℕ) → ElementsOffend Spells (left - 2) K (length text) trees there.inner place n → ListOffends Spells (left - 2) K (trees, text) place n
    unfolding tree_count ElementsOffend
    from_elements place n o = (there.head, there.inner, subst (λ m. Begins Spells (list_head m) there.head text there.inner) (levels (some trees o)) there.begins, o)
      where
        some : (trees : Trees) → ElementsOffend Spells (left - 2) K (length text) trees there.inner place n → 1 ≤ tree_count trees
        some no_trees o = absurd o
        some (tree_then tree more) o = omega arith

    not_others : (m : ℕ) → BadElement (trees, text) m → ⊥
    unfolding tree_count ElementsThen
    not_others m bad = of trees there.count there.stand bad.1
      where
        of : (trees : Trees) → there.head.size ≡ tree_count trees → ElementsThen Spells trees there.head.element (left - 1) there.inner [] → IsOfOthers trees → ⊥
        of no_trees count h others = others
        of (tree_then tree more) count h others = let kind : Some (kind_of tree) ≡ Some kinds.Struct = sym h.0 ∙ are (omega (arith, count)) in let same : kind_of tree ≡ kinds.Struct = cc in others same

    pub list_judged : (T : Type 0) (answer : Result T (Halt Cause)) → Judges answer (ElementsOffend Spells (left - 2) K (length text) trees there.inner)
        → Judges answer (HereOrInside (BadElement (trees, text)) (ListOffends Spells (left - 2) K (trees, text)))
    list_judged T (Ok x) none = none_in_item (BadElement (trees, text)) (ListOffends Spells (left - 2) K (trees, text)) not_others (λ p m o. none p m (to_elements p m o))
    list_judged T (Err (halts.Why cause)) h =
        least_inside (BadElement (trees, text)) (ListOffends Spells (left - 2) K (trees, text)) (cause_number cause) not_others
        (least_same (ElementsOffend Spells (left - 2) K (length text) trees there.inner) (ListOffends Spells (left - 2) K (trees, text)) from_elements to_elements (cause_number cause) h)
    list_judged T (Err halts.OutOfMemory) h = tt

    -- the list's own bytes
    pub inner_within : length there.inner ≤ length text
    inner_within = omega (arith, ap length there.begins.parts, length-append there.begins.text there.inner)

-- ---- the row of a field, of which earlier ones were seen

pub judges_same : (A B : ℕ → ℕ → Type 0) → ((p n : ℕ) → A p n → B p n) → ((p n : ℕ) → B p n → A p n) → (T : Type 0) (answer : Result T (Halt Cause)) → Judges answer A → Judges answer B
judges_same A B to from T (Ok x) none = λ p n o. none p n (from p n o)
judges_same A B to from T (Err (halts.Why cause)) h = least_same A B to from (cause_number cause) h
judges_same A B to from T (Err halts.OutOfMemory) h = tt

pub halts_too : (Offends : ℕ → ℕ → Type 0) (S T : Type 0) (halt : Halt Cause) → Judges {T = S} (Err halt) Offends → Judges {T = T} (Err halt) Offends
halts_too Offends S T (halts.Why cause) h = h
halts_too Offends S T halts.OutOfMemory h = tt

module _ {A B : Type 0} (Means : A → B → Type 0) (earlier : List A) (Wrong : ℕ → Type 0) (Inside : ℕ → ℕ → Type 0) where
  none_earlier : Gave Means earlier None → earlier ≡ []
  none_earlier gave = of earlier gave
    where
      of : (xs : List A) → Gave Means xs None → xs ≡ []
      of [] gave = refl
      of (x ∷ []) gave = absurd gave
      of (x ∷ y ∷ more) gave = absurd gave

  -- the first of its row
  pub row_judged : (row : Option B) → row ≡ None → Gave Means earlier row → (T : Type 0) (answer : Result T (Halt Cause)) → Judges answer (HereOrInside Wrong Inside) → Judges answer (HereOrInside (λ n. Twice earlier n ⊎ Wrong n) Inside)
  row_judged row is gave T answer judged = judges_same (HereOrInside Wrong Inside) (HereOrInside (λ n. Twice earlier n ⊎ Wrong n) Inside) to from T answer judged
    where
      none : earlier ≡ []
      none = none_earlier (subst (λ (r : Option B). Gave Means earlier r) is gave)

      to : (p n : ℕ) → HereOrInside Wrong Inside p n → HereOrInside (λ m. Twice earlier m ⊎ Wrong m) Inside p n
      to zero n h = inr h
      to (suc p) n h = h

      alone : (n : ℕ) → Twice earlier n ⊎ Wrong n → Wrong n
      alone n (inl twice) = absurd (twice.1 none)
      alone n (inr wrong) = wrong

      from : (p n : ℕ) → HereOrInside (λ m. Twice earlier m ⊎ Wrong m) Inside p n → HereOrInside Wrong Inside p n
      from zero n h = alone n h
      from (suc p) n h = h

-- it is set
pub sets_first : {A B : Type 0} (Means : A → B → Type 0) (held : A) (old new : Option B) (value : B) → old ≡ None → new ≡ Some value → Means held value → Sets Means held old new
sets_first {A} {B} Means held old new value is_old is_new means = λ earlier gave.
    let none : earlier ≡ [] = none_earlier Means earlier (λ n. ⊥) (λ p n. ⊥) (subst (λ (r : Option B). Gave Means earlier r) is_old gave) in
    subst (λ (xs : List A). Gave Means (xs ++ held ∷ []) new) (sym none) (subst (λ (r : Option B). Gave Means (held ∷ []) r) (sym is_new) means)

-- ---- one struct

pub struct_there : (Spells : Spelling) (left : ℕ) (fields : Fields) (text : List ℕ) → ValueThen Spells (structure fields) left None text [] → StructText Spells (left - 1) fields text
unfolding ValueThen
struct_there Spells zero its text h = absurd h
struct_there Spells (suc left) its text h = subst (λ m. StructText Spells m its text) (omega arith) h

-- nothing offends by itself
pub all_inside : (Inside : ℕ → ℕ → Type 0) (T : Type 0) (answer : Result T (Halt Cause)) → Judges answer Inside → Judges answer (HereOrInside (λ n. ⊥) Inside)
all_inside Inside T (Ok x) none = none_in_item (λ n. ⊥) Inside (λ n h. h) none
all_inside Inside T (Err (halts.Why cause)) h = least_inside (λ n. ⊥) Inside (cause_number cause) (λ n h. h) h
all_inside Inside T (Err halts.OutOfMemory) h = tt
