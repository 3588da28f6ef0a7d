-- What is proved of each kind of row of jaeger.thrift: where what a field holds is wrong, and that else it means something.
use Rattle.std.proofs.Common.{◌≡◌, ◌≢◌, ◌⊎◌, ◌≤◌, ◌<◌, ◌++◌, ◌∷◌, ◌-◌, ◌==◌, if◌then◌else◌, ℕ, zero, suc, ℤ, pos, negsuc, Bool, true, false, Option, Some, None, List, [], length, Err, inl, inr, refl, sym, ap, subst, ◌∙◌, arith}
use Rattle.std.proofs.lemmas.Bool.{eqb-true, cases_lt}
use Rattle.std.proofs.lemmas.List.{append-nil, length-append}
use Rattle.span_ids.specs.Times.{nanos, last_micros}
use Rattle.span_io.specs.Causes.{cause_number}
use Rattle.span_io.specs.declared.cause.Cause.{Cause}
use Rattle.span_io.specs.declared.cause.Cause.TheVariants as causes
use Rattle.span_io.specs.declared.halt.Halt.TheVariants as halts
use Rattle.span_io.specs.Offences.{RulesLaws}
use Rattle.span_io.specs.Offences.{Rules, Offence, Least, HereOrInside}
use Rattle.span_io.proofs.RowLaws.{singular_split, twice_or, one_number, not_text, some_text}
use Rattle.span_io.proofs.TableDecisions.{Decided, DecidedHere}
use Rattle.span_io.proofs.TableLaws.{IsFew}
use Rattle.span_io.specs.Tables.{Singular, Twice, MeansText, NotText, nothing_inside}
use Rattle.thrift_core.specs.declared.type_code.TypeCode.{TypeCode}
use Rattle.thrift_core.specs.declared.type_code.TypeCode.TheVariants as kinds
use Rattle.thrift_core.specs.FieldValues.{has_id, of_id, struct_in, list_in, IsStructOf, EachStruct}
use Rattle.thrift_core.specs.Messages.{FieldItem, structs, whole_struct}
use Rattle.thrift_core.proofs.OneReading.{of_kind, value_front}
use Rattle.thrift_core.specs.Parts.{Part, Spelling}
use Rattle.thrift_core.specs.Protocols.{ReadsExactly, PartLaws}
use Rattle.thrift_core.specs.Reading.{ReadingOf}
use Rattle.thrift_core.specs.Trees.{truth_value, i8, i16, i32, i64, double, Tree, leaf, binary, structure as struct_of, map_of, set_of, list_of, Fields, Trees, no_trees, tree_then, tree_count, kind_of, ValueThen, ElementsThen, StructText}
use Rattle.jaeger_model.proofs.ListLemmas.{least_same, later_to, later_from, this_least, ListThere, list_there, are_elements, list_judged, inner_within, struct_there}
use Rattle.jaeger_model.proofs.StructRows.{Comes, CleanAt, RowProof}
use Rattle.jaeger_model.specs.InnerRows.{with_text, IsOfOthers, BadElement, ElementsOffend, ListOffends}
use Rattle.jaeger_model.specs.private.ListsSoFar.{AreElements}
use Rattle.jaeger_model.specs.Meanings.{Means, MeansTime, MeansEnum}
use Rattle.jaeger_model.specs.Rows.{given_to, nothing_wrong, IsOutside, BadEnum, BadTime, singular}

-- ---- one field

-- Of what one field of a singular row holds.
pub record Kind (Spells : Spelling) (left : ℕ) {A B : Type 0} (give : FieldItem → List A) (Means : A → B → Type 0) (Wrong : A → ℕ → Type 0) (Inside : A → ℕ → ℕ → Type 0) : Type 0 where
  pub right : (x : A) (v : B) → Means x v → (n : ℕ) → Wrong x n → ⊥
  pub clean : (x : A) (v : B) → Means x v → Comes Spells left give x → (place n : ℕ) → Inside x place n → ⊥
  pub above : (x : A) (n : ℕ) → Wrong x n → 7 ≤ n
  pub wrong : (x : A) → DecidedHere (λ n. Wrong x n)
  pub inside : (x : A) → Comes Spells left give x → ((n : ℕ) → Wrong x n → ⊥) → Decided (λ place n. Inside x place n)
  pub some : (x : A) → Comes Spells left give x → ((n : ℕ) → Wrong x n → ⊥) → ((place n : ℕ) → Inside x place n → ⊥) → (v : B) × Means x v

module _ (Spells : Spelling) (left : ℕ) {A B : Type 0} (give : FieldItem → List A) (Means : A → B → Type 0) (Wrong : A → ℕ → Type 0) (Inside : A → ℕ → ℕ → Type 0) (kind : Kind Spells left give Means Wrong Inside) (IsAbsent : B → Type 0) where
  pub fine_alone : (front back : List A) (x : A) (v : B) → Singular Means IsAbsent (front ++ x ∷ back) v → (n : ℕ) → Twice front n ⊎ Wrong x n → ⊥
  fine_alone front back x v means n (inl twice) = twice.1 (singular_split Means IsAbsent front back x v means).0
  fine_alone front back x v means n (inr wrong) = kind.right x v (singular_split Means IsAbsent front back x v means).1 n wrong

  pub found_alone : (xs : List A) → CleanAt Spells left (singular give B Means IsAbsent Wrong Inside) [] xs → (xs ≡ []) ⊎ ((v : B) × Singular Means IsAbsent xs v)
  found_alone [] clean = inl refl
  found_alone (x ∷ []) clean = inr (kind.some x clean.0 (λ n wrong. clean.1 n (inr wrong)) clean.2)
  found_alone (x ∷ y ∷ more) clean = absurd (clean.3.1 7 (inl (refl, λ e. cc)))

  abbrev pub row_proof : (id : ℕ) → ((item : FieldItem) (x : A) → give item ≡ x ∷ [] → item.id ≡ pos id) → ((item : FieldItem) → has_id id item.id ≡ false → give item ≡ []) → ((item : FieldItem) → IsFew (give item))
      → RowProof Spells left (singular give B Means IsAbsent Wrong Inside)
  row_proof id own apart few = record {
    id = id;
    own = own;
    apart = apart;
    few = few;
    fine_here = fine_alone;
    fine_inside = λ front back x v means comes place n wrong. kind.clean x v (singular_split Means IsAbsent front back x v means).1 comes place n wrong;
    here = λ earlier x. twice_or earlier (λ n. Wrong x n) (λ n wrong. kind.above x n wrong) (kind.wrong x);
    inside = λ earlier x comes right. kind.inside x comes (λ n wrong. right n (inr wrong));
    found = found_alone;
  }

-- ---- which field gives something to a row

module _ {A : Type 0} (take : Tree → List A) (id : ℕ) (item : FieldItem) where
  pub given_is : (x : A) → given_to take id item ≡ x ∷ [] → (item.id ≡ pos id) × (take item.tree ≡ x ∷ [])
  given_is x gives = of item.id gives
    where
      if_id : (n : ℕ) (b : Bool) → (n == id) ≡ b → (if b then take item.tree else []) ≡ x ∷ [] → (pos n ≡ pos id) × (take item.tree ≡ x ∷ [])
      if_id n true e gives = (ap pos (eqb-true n id e), gives)
      if_id n false e gives = absurd (cc)

      of : (its : ℤ) → of_id take id its item.tree ≡ x ∷ [] → (its ≡ pos id) × (take item.tree ≡ x ∷ [])
      of (pos n) gives = if_id n (n == id) refl gives
      of (negsuc n) gives = absurd (cc)

  pub given_apart : has_id id item.id ≡ false → given_to take id item ≡ []
  given_apart e = ap (λ b. if b then take item.tree else []) e

pub with_is : {A : Type 0} (text : List ℕ) (xs : List A) (x : A × List ℕ) → with_text text xs ≡ x ∷ [] → (xs ≡ x.0 ∷ []) × (x.1 ≡ text)
with_is text [] x e = absurd (cc)
with_is {A} text (y ∷ []) x e = let same : (y, text) ≡ x = cc in (λ i. (same i).0 ∷ [], sym (ap (λ (p : A × List ℕ). p.1) same))
with_is text (y ∷ z ∷ more) x e = absurd (cc)

-- ---- rows in which no struct stands

module _ (Spells : Spelling) (left : ℕ) where
  plain_kind : {A B : Type 0} (give : FieldItem → List A) (Means : A → B → Type 0) (Wrong : A → ℕ → Type 0) → ((x : A) (v : B) → Means x v → (n : ℕ) → Wrong x n → ⊥) → ((x : A) (n : ℕ) → Wrong x n → 7 ≤ n)
      → ((x : A) → DecidedHere (λ n. Wrong x n)) → ((x : A) → ((n : ℕ) → Wrong x n → ⊥) → (v : B) × Means x v) → Kind Spells left give Means Wrong nothing_inside
  plain_kind give Means Wrong right above wrong some = record {
    right = right;
    clean = λ x v means comes place n h. h;
    above = above;
    wrong = wrong;
    inside = λ x comes good. inl (λ place n h. h);
    some = λ x comes good inner. some x good;
  }

  pub means_kind : {A : Type 0} (give : FieldItem → List A) → Kind Spells left give Means nothing_wrong nothing_inside
  means_kind give = plain_kind give Means nothing_wrong (λ x v means n h. h) (λ x n h. absurd h) (λ x. inl (λ n h. h)) (λ x good. (x, refl))

  pub text_kind : (give : FieldItem → List (List ℕ)) → Kind Spells left give MeansText NotText nothing_inside
  text_kind give = plain_kind give MeansText NotText (λ x v means n wrong. wrong.1 means.0) (λ x n wrong. omega (arith, wrong.0)) not_text (λ x good. (x, some_text x good))

  -- ---- numbers in a range

  outside_or : (last : ℕ) (x : ℤ) → IsOutside last x ⊎ (IsOutside last x → ⊥)
  outside_or last (pos n) = of (cases_lt last n)
    where
      of : (last < n) ⊎ (n ≤ last) → (last < n) ⊎ (last < n → ⊥)
      of (inl high) = inl high
      of (inr low) = inr (λ high. omega (arith, low, high))
  outside_or last (negsuc n) = inl tt

  within : (last : ℕ) (x : ℤ) → (IsOutside last x → ⊥) → (n : ℕ) × (x ≡ pos n) × (n ≤ last)
  within last (pos n) not = of (cases_lt last n)
    where
      of : (last < n) ⊎ (n ≤ last) → (k : ℕ) × (pos n ≡ pos k) × (k ≤ last)
      of (inl high) = absurd (not high)
      of (inr low) = (n, refl, low)
  within last (negsuc n) not = absurd (not tt)

  not_outside : (last : ℕ) (x : ℤ) (n : ℕ) → x ≡ pos n → n ≤ last → IsOutside last x → ⊥
  not_outside last x n e low out = let high : last < n = subst (λ z. IsOutside last z) e out in omega (arith, low, high)

  pub enum_kind : (give : FieldItem → List ℤ) (last : ℕ) {E : Type 0} (number_of : E → ℕ) → ((e : E) → number_of e ≤ last) → ((k : ℕ) → k ≤ last → (e : E) × (k ≡ number_of e))
      → Kind Spells left give (MeansEnum number_of) (BadEnum last) nothing_inside
  enum_kind give last {E} number_of small named =
      plain_kind give (MeansEnum number_of) (BadEnum last) (λ x v means n wrong. not_outside last x (number_of v) means (small v) wrong.1) (λ x n wrong. omega (arith, wrong.0))
      (λ x. one_number causes.BadEnum (IsOutside last x) (outside_or last x)) some
    where
      some : (x : ℤ) → ((n : ℕ) → BadEnum last x n → ⊥) → (e : E) × MeansEnum number_of x e
      some x good =
          let k = within last x (λ out. good 13 (refl, out)) in
          let e = named k.0 k.2 in
          (e.0, k.1 ∙ ap pos e.1)

  pub time_kind : (give : FieldItem → List ℤ) → Kind Spells left give MeansTime BadTime nothing_inside
  time_kind give =
      plain_kind give MeansTime BadTime (λ x v means n wrong. not_outside last_micros x means.0 means.1 means.2 wrong.1) (λ x n wrong. omega (arith, wrong.0))
      (λ x. one_number causes.BadTime (IsOutside last_micros x) (outside_or last_micros x)) some
    where
      some : (x : ℤ) → ((n : ℕ) → BadTime x n → ⊥) → (t : ℕ) × MeansTime x t
      some x good =
          let k = within last_micros x (λ out. good 16 (refl, out)) in
          (nanos k.0, (k.0, k.1, k.2, refl))

-- ---- structs

-- What is proved of a kind of struct, in which so many levels are left.
pub record StructProof (Spells : Spelling) (left : ℕ) {X : Type 0} (Is : X → Fields → Type 0) (rules : Rules FieldItem) : Type 0 where
  pub laws : RulesLaws (structs Spells left) rules
  pub fine : (x : X) (fields : Fields) (text : List ℕ) → StructText Spells left fields text → Is x fields → (place n : ℕ) → Offence (structs Spells left) rules (whole_struct text) place n → ⊥
  pub some : (fields : Fields) (text : List ℕ) → StructText Spells left fields text
      → ((x : X) × Is x fields) ⊎ ((cause : Cause) × Least (Offence (structs Spells left) rules (whole_struct text)) (cause_number cause))

-- what a struct or a list is
struct_is : (tree : Tree) (inner : Fields) → struct_in tree ≡ inner ∷ [] → tree ≡ struct_of inner
struct_is (leaf x) inner e = absurd (cc)
struct_is (binary h) inner e = absurd (cc)
struct_is (struct_of held) inner e = let same : held ≡ inner = cc in ap struct_of same
struct_is (map_of pairs) inner e = absurd (cc)
struct_is (set_of trees) inner e = absurd (cc)
struct_is (list_of trees) inner e = absurd (cc)

list_is : (tree : Tree) (inner : Trees) → list_in tree ≡ inner ∷ [] → tree ≡ list_of inner
list_is (leaf x) inner e = absurd (cc)
list_is (binary h) inner e = absurd (cc)
list_is (struct_of held) inner e = absurd (cc)
list_is (map_of pairs) inner e = absurd (cc)
list_is (set_of trees) inner e = absurd (cc)
list_is (list_of trees) inner e = let same : trees ≡ inner = cc in ap list_of same

said_struct : (Says : Fields → Type 0) (tree : Tree) → IsStructOf Says tree → (inner : Fields) × (tree ≡ struct_of inner) × Says inner
said_struct Says (leaf x) is = absurd is
said_struct Says (binary h) is = absurd is
said_struct Says (struct_of held) is = (held, refl, is)
said_struct Says (map_of pairs) is = absurd is
said_struct Says (set_of trees) is = absurd is
said_struct Says (list_of trees) is = absurd is

struct_or : (tree : Tree) → (kind_of tree ≡ kinds.Struct) ⊎ (kind_of tree ≡ kinds.Struct → ⊥)
struct_or (leaf (truth_value b)) = inr (λ e. cc)
struct_or (leaf (i8 n)) = inr (λ e. cc)
struct_or (leaf (i16 n)) = inr (λ e. cc)
struct_or (leaf (i32 n)) = inr (λ e. cc)
struct_or (leaf (i64 n)) = inr (λ e. cc)
struct_or (leaf (double h)) = inr (λ e. cc)
struct_or (binary h) = inr (λ e. cc)
struct_or (struct_of held) = inl refl
struct_or (map_of pairs) = inr (λ e. cc)
struct_or (set_of trees) = inr (λ e. cc)
struct_or (list_of trees) = inr (λ e. cc)

others_or : (trees : Trees) → IsOfOthers trees ⊎ (IsOfOthers trees → ⊥)
others_or no_trees = inr (λ h. h)
others_or (tree_then tree more) = of (struct_or tree)
  where
    of : (kind_of tree ≡ kinds.Struct) ⊎ (kind_of tree ≡ kinds.Struct → ⊥) → (kind_of tree ≢ kinds.Struct) ⊎ (kind_of tree ≢ kinds.Struct → ⊥)
    of (inl is) = inr (λ not. not is)
    of (inr not) = inl not

-- only a truth value is held by its head
list_without_held : (Spells : Spelling) (trees : Trees) (left : ℕ) (held : Option Bool) (text : List ℕ) → ValueThen Spells (list_of trees) left held text [] → ValueThen Spells (list_of trees) left None text []
unfolding ValueThen
list_without_held Spells trees zero held text h = absurd h
list_without_held Spells trees (suc left) held text h = h

struct_without_held : (Spells : Spelling) (inner : Fields) (left : ℕ) (held : Option Bool) (text : List ℕ) → ValueThen Spells (struct_of inner) left held text [] → ValueThen Spells (struct_of inner) left None text []
unfolding ValueThen
struct_without_held Spells inner zero held text h = absurd h
struct_without_held Spells inner (suc left) held text h = h

-- what counts in an item that doesn't offend by itself
only_inside : (Here : ℕ → Type 0) (Inside : ℕ → ℕ → Type 0) (n : ℕ) → ((m : ℕ) → Here m → ⊥) → Least (HereOrInside Here Inside) n → Least Inside n
only_inside Here Inside n right least = of least.place least.offence least.least
  where
    earlier : (p q m : ℕ) → (suc p < suc q) ⊎ ((suc p ≡ suc q) × (n ≤ m)) → (p < q) ⊎ ((p ≡ q) × (n ≤ m))
    earlier p q m (inl less) = inl (omega (arith, less))
    earlier p q m (inr same) = inr (omega (arith, same.0), same.1)

    of : (p : ℕ) → HereOrInside Here Inside p n → ((q m : ℕ) → HereOrInside Here Inside q m → (p < q) ⊎ ((p ≡ q) × (n ≤ m))) → Least Inside n
    of zero offence first = absurd (right n offence)
    of (suc p) offence first = record { place = p; offence = offence; least = λ q m o. earlier p q m (first (suc q) m o) }

-- ---- rows in which structs stand

module _ (Spells : Spelling) (reads : ReadingOf) (ThenVarint : Part → List ℕ → Type 0) (Refuses : Part → Cause → List ℕ → Type 0) (R : ReadsExactly Spells reads ThenVarint Refuses) (P : PartLaws Spells ThenVarint Refuses)
    {X : Type 0} (Is : X → Fields → Type 0) (rules : Rules FieldItem) where
  -- ---- the elements of a list

  module _ (left : ℕ) (S : StructProof Spells left Is rules) where
    text_of : (inner : Fields) (text : List ℕ) → ValueThen Spells (struct_of inner) (suc left) None text [] → StructText Spells left inner text
    unfolding ValueThen
    text_of inner text h = h

    pub elements_clean : (trees : Trees) (xs : List X) → EachStruct Is trees xs → (total : ℕ) (bytes : List ℕ) (place n : ℕ) → ElementsOffend Spells left rules total trees bytes place n → ⊥
    unfolding EachStruct ElementsOffend
    elements_clean no_trees xs each total bytes place n o = o
    elements_clean (tree_then tree more) [] each total bytes place n o = each
    elements_clean (tree_then tree more) (x ∷ xs) each total bytes place n (text, after, parts, value, inl (inner, offence, placed)) =
        let own = said_struct (λ f. Is x f) tree each.0 in
        S.fine x own.0 text (text_of own.0 text (subst (λ (t : Tree). ValueThen Spells t (suc left) None text []) own.1 value)) own.2 inner n offence
    elements_clean (tree_then tree more) (x ∷ xs) each total bytes place n (text, after, parts, value, inr later) = elements_clean more xs each.1 total after place n later

    pub elements_some : (trees : Trees) (bytes : List ℕ) → ElementsThen Spells trees (Some kinds.Struct) (suc left) bytes [] → (total : ℕ) → length bytes ≤ total
        → ((xs : List X) × EachStruct Is trees xs) ⊎ ((cause : Cause) × Least (ElementsOffend Spells left rules total trees bytes) (cause_number cause))
    unfolding EachStruct ElementsThen
    elements_some no_trees bytes h total small = inl ([], tt)
    elements_some (tree_then tree more) bytes h total small = of (S.some inner.0 text stands) (elements_some more after h.3 total (omega (arith, small, ap length parts, length-append text after)))
      where
        inner : (f : Fields) × (tree ≡ struct_of f)
        inner = let kind : Some kinds.Struct ≡ Some (kind_of tree) = h.0 in let same : kinds.Struct ≡ kind_of tree = cc in of_kind tree kinds.Struct (sym same)

        after : List ℕ
        after = h.1

        text : List ℕ
        text = (value_front Spells tree (suc left) None bytes h.1 h.2).text

        parts : bytes ≡ text ++ after
        parts = (value_front Spells tree (suc left) None bytes h.1 h.2).parts

        value : ValueThen Spells tree (suc left) None text []
        value = subst (λ l. ValueThen Spells tree (suc left) None l []) (append-nil text) ((value_front Spells tree (suc left) None bytes h.1 h.2).again [])

        stands : StructText Spells left inner.0 text
        stands = text_of inner.0 text (subst (λ (t : Tree). ValueThen Spells t (suc left) None text []) inner.1 value)

        of : ((x : X) × Is x inner.0) ⊎ ((cause : Cause) × Least (Offence (structs Spells left) rules (whole_struct text)) (cause_number cause))
            → ((xs : List X) × EachStruct Is more xs) ⊎ ((cause : Cause) × Least (ElementsOffend Spells left rules total more after) (cause_number cause))
            → ((xs : List X) × EachStruct Is (tree_then tree more) xs) ⊎ ((cause : Cause) × Least (ElementsOffend Spells left rules total (tree_then tree more) bytes) (cause_number cause))
        of (inr (cause, least)) others = inr (cause, this_least Spells reads ThenVarint Refuses R P left rules tree more bytes text after parts value S.laws total small (cause_number cause) least)
        of (inl (x, is)) (inl (xs, each)) = inl (x ∷ xs, (subst (λ (t : Tree). IsStructOf (λ f. Is x f) t) (sym inner.1) is, each))
        of (inl (x, is)) (inr (cause, least)) =
            let fine = S.fine x inner.0 text stands is in
            inr (
              cause,
              least_same (ElementsOffend Spells left rules total more after) (ElementsOffend Spells left rules total (tree_then tree more) bytes)
                  (λ p n o. later_from Spells reads ThenVarint Refuses R P left rules tree more bytes text after parts value total p n o)
                  (λ p n o. later_to Spells reads ThenVarint Refuses R P left rules tree more bytes text after parts value fine total p n o) (cause_number cause) least,
            )

  -- ---- a list of structs

  module _ (outer : ℕ) (S : StructProof Spells (outer - 2) Is rules) (id : ℕ) where
    abbrev Give : FieldItem → List (Trees × List ℕ)
    Give item = with_text item.text (given_to list_in id item)

    list_stands : (x : Trees × List ℕ) → Comes Spells outer Give x → ValueThen Spells (list_of x.0) outer None x.1 []
    list_stands x (item, stands, gives) =
        let own = with_is item.text (given_to list_in id item) x gives in
        let tree = list_is item.tree x.0 (given_is list_in id item x.0 own.0).1 in
        list_without_held Spells x.0 outer stands.0 x.1 (subst (λ l. ValueThen Spells (list_of x.0) outer stands.0 l []) (sym own.1) (subst (λ (t : Tree). ValueThen Spells t outer stands.0 item.text []) tree stands.1))

    no_others : (trees : Trees) (xs : List X) → EachStruct Is trees xs → IsOfOthers trees → ⊥
    unfolding EachStruct
    no_others no_trees xs each others = others
    no_others (tree_then tree more) [] each others = each
    no_others (tree_then tree more) (x ∷ xs) each others = others (ap kind_of (said_struct (λ f. Is x f) tree each.0).1)

    abbrev ListChosen : Trees × List ℕ → Type 0
    ListChosen x = ((xs : List X) × EachStruct Is x.0 xs) ⊎ ((cause : Cause) × Least (ListOffends Spells (outer - 2) rules x) (cause_number cause))

    list_clean : (x : Trees × List ℕ) (v : List X) → EachStruct Is x.0 v → (place n : ℕ) → ListOffends Spells (outer - 2) rules x place n → ⊥
    list_clean x v each place n (head, bytes, begins, offends) = elements_clean (outer - 2) S x.0 v each (length x.1) bytes place n offends

    -- a list that isn't of others is of structs
    of_structs : (trees : Trees) (text : List ℕ) (there : ListThere Spells (outer - 1) trees text) → (IsOfOthers trees → ⊥) → 1 ≤ there.head.size → there.head.element ≡ Some kinds.Struct
    unfolding tree_count ElementsThen
    of_structs trees text there right some = of trees there.count there.stand right
      where
        of : (trees : Trees) → there.head.size ≡ tree_count trees → ElementsThen Spells trees there.head.element (outer - 1) there.inner [] → (IsOfOthers trees → ⊥) → there.head.element ≡ Some kinds.Struct
        of no_trees count h right = absurd (omega (arith, some, count))
        of (tree_then tree more) count h right = by (struct_or tree)
          where
            by : (kind_of tree ≡ kinds.Struct) ⊎ (kind_of tree ≡ kinds.Struct → ⊥) → there.head.element ≡ Some kinds.Struct
            by (inl is) = h.0 ∙ ap (λ (k : TypeCode). Some k) is
            by (inr not) = absurd (right not)

    -- it means something, or it offends
    list_some : (x : Trees × List ℕ) → Comes Spells outer Give x → ((n : ℕ) → BadElement x n → ⊥)
        → ListChosen x
    list_some x comes right = of (elements_some (outer - 2) S x.0 there.inner elements.stand (length x.1) (inner_within Spells reads ThenVarint Refuses R outer x.0 x.1 there are rules))
      where
        there : ListThere Spells (outer - 1) x.0 x.1
        there = list_there Spells outer x.0 x.1 (list_stands x comes)

        are : 1 ≤ there.head.size → there.head.element ≡ Some kinds.Struct
        are = of_structs x.0 x.1 there (λ others. right 14 (refl, others))

        elements : AreElements Spells (outer - 2) there.head.size x.0 there.inner
        elements = are_elements Spells reads ThenVarint Refuses R outer x.0 x.1 there are

        judged : (cause : Cause) → Least (ElementsOffend Spells (outer - 2) rules (length x.1) x.0 there.inner) (cause_number cause) → Least (HereOrInside (BadElement x) (ListOffends Spells (outer - 2) rules x)) (cause_number cause)
        judged cause least = list_judged Spells reads ThenVarint Refuses R outer x.0 x.1 there are rules Unit (Err (halts.Why cause)) least

        of : ((xs : List X) × EachStruct Is x.0 xs) ⊎ ((cause : Cause) × Least (ElementsOffend Spells (outer - 2) rules (length x.1) x.0 there.inner) (cause_number cause))
            → ListChosen x
        of (inl found) = inl found
        of (inr (cause, least)) = inr (cause, only_inside (BadElement x) (ListOffends Spells (outer - 2) rules x) (cause_number cause) right (judged cause least))

    pub structures_kind : Kind Spells outer Give (λ held v. EachStruct Is held.0 v) BadElement (λ held place n. ListOffends Spells (outer - 2) rules held place n)
    structures_kind = record {
      right = λ x v means n wrong. no_others x.0 v means wrong.1;
      clean = λ x v means comes place n offends. list_clean x v means place n offends;
      above = λ x n wrong. omega (arith, wrong.0);
      wrong = λ x. one_number causes.BadElement (IsOfOthers x.0) (others_or x.0);
      inside = λ x comes right. decided x (list_some x comes right);
      some = λ x comes right clean. found x clean (list_some x comes right);
    }
      where
        decided : (x : Trees × List ℕ) → ListChosen x → Decided (λ place n. ListOffends Spells (outer - 2) rules x place n)
        decided x (inl (xs, each)) = inl (list_clean x xs each)
        decided x (inr least) = inr least

        found : (x : Trees × List ℕ) → ((place n : ℕ) → ListOffends Spells (outer - 2) rules x place n → ⊥) → ListChosen x
            → (xs : List X) × EachStruct Is x.0 xs
        found x clean (inl one) = one
        found x clean (inr (cause, least)) = absurd (clean least.place (cause_number cause) least.offence)

  -- ---- one struct

  module _ (outer : ℕ) (S : StructProof Spells (outer - 1) Is rules) (id : ℕ) where
    abbrev GiveOne : FieldItem → List (Fields × List ℕ)
    GiveOne item = with_text item.text (given_to struct_in id item)

    struct_stands : (x : Fields × List ℕ) → Comes Spells outer GiveOne x → StructText Spells (outer - 1) x.0 x.1
    struct_stands x (item, stands, gives) =
        let own = with_is item.text (given_to struct_in id item) x gives in
        let tree = struct_is item.tree x.0 (given_is struct_in id item x.0 own.0).1 in
        struct_there Spells outer x.0 x.1
        (struct_without_held Spells x.0 outer stands.0 x.1 (subst (λ l. ValueThen Spells (struct_of x.0) outer stands.0 l []) (sym own.1) (subst (λ (t : Tree). ValueThen Spells t outer stands.0 item.text []) tree stands.1)))

    abbrev Chosen : Fields × List ℕ → Type 0
    Chosen x = ((v : X) × Is v x.0) ⊎ ((cause : Cause) × Least (Offence (structs Spells (outer - 1)) rules (whole_struct x.1)) (cause_number cause))

    pub structure_kind : Kind Spells outer GiveOne (λ held v. Is v held.0) nothing_wrong (λ held place n. Offence (structs Spells (outer - 1)) rules (whole_struct held.1) place n)
    structure_kind = record {
      right = λ x v means n wrong. wrong;
      clean = λ x v means comes place n offends. S.fine v x.0 x.1 (struct_stands x comes) means place n offends;
      above = λ x n wrong. absurd wrong;
      wrong = λ x. inl (λ n h. h);
      inside = λ x comes right. decided x comes (S.some x.0 x.1 (struct_stands x comes));
      some = λ x comes right clean. found x clean (S.some x.0 x.1 (struct_stands x comes));
    }
      where
        decided : (x : Fields × List ℕ) → Comes Spells outer GiveOne x → Chosen x → Decided (λ place n. Offence (structs Spells (outer - 1)) rules (whole_struct x.1) place n)
        decided x comes (inl (v, is)) = inl (S.fine v x.0 x.1 (struct_stands x comes) is)
        decided x comes (inr least) = inr least

        found : (x : Fields × List ℕ) → ((place n : ℕ) → Offence (structs Spells (outer - 1)) rules (whole_struct x.1) place n → ⊥) → Chosen x → (v : X) × Is v x.0
        found x clean (inl one) = one
        found x clean (inr (cause, least)) = absurd (clean least.place (cause_number cause) least.offence)
