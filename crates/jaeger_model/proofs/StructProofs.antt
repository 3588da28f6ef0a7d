-- What is proved of a kind of struct, by its table: rows, what they mean together, and what its end says.
use Rattle.std.proofs.Common.{◌≡◌, ◌⊎◌, ◌++◌, ◌∷◌, ◌-◌, ℕ, ℤ, pos, Bool, true, List, [], inl, inr, refl, sym, ap, subst, ◌∙◌}
use Rattle.std.specs.Prelude.{map}
use Rattle.std.specs.List.{flat_map}
use Rattle.std.proofs.lemmas.List.{map-append}
use Rattle.std.proofs.lemmas.List.Concat.{flat_map-cons}
use Rattle.span_io.specs.Causes.{cause_number}
use Rattle.span_io.specs.declared.cause.Cause.{Cause}
use Rattle.span_io.specs.Offences.{FormatLaws, RulesLaws}
use Rattle.span_io.specs.Offences.{Rules, Offence, Least}
use Rattle.span_io.specs.Tables.{Row, rules_by, Singular, givens, Values, Mean, nothing_inside}
use Rattle.thrift_core.specs.FieldValues.{values_of, truth_in, i32_in, i64_in, double_in, binary_in, struct_in, list_in, EachStruct}
use Rattle.thrift_core.specs.Messages.{FieldItem, structs, whole_struct, fields_of}
use Rattle.thrift_core.specs.Parts.{Part, Spelling}
use Rattle.thrift_core.specs.Protocols.{ReadsExactly, PartLaws}
use Rattle.thrift_core.specs.Reading.{ReadingOf}
use Rattle.thrift_core.proofs.StructLaws.{struct_laws}
use Rattle.thrift_core.specs.Trees.{Tree, Fields, Trees, StructText}
use Rattle.jaeger_model.proofs.FieldLemmas.{values_given}
use Rattle.jaeger_model.proofs.RowKinds.{Kind, row_proof, given_is, given_apart, with_is, StructProof, structures_kind, structure_kind}
use Rattle.jaeger_model.proofs.RowShapes.{binary_shape, int_shape, long_shape, truth_shape, eight_shape, structure_shape, structures_shape}
use Rattle.jaeger_model.proofs.StructRows.{RowProof, TableProof, TableFound, distinct, ids, AtEnd, table_fine, table_some, whole_of}
use Rattle.jaeger_model.specs.InnerRows.{with_text, structure, structures}
use Rattle.jaeger_model.specs.Meanings.{Required, Means}
use Rattle.jaeger_model.specs.Rows.{given_to, singular}

-- ---- rows

module _ (Spells : Spelling) (left : ℕ) (id : ℕ) where
  abbrev pub binary_proof : {B : Type 0} (Means : List ℕ → B → Type 0) (Wrong : List ℕ → ℕ → Type 0) (IsAbsent : B → Type 0) → Kind Spells left (λ item. given_to binary_in id item) Means Wrong nothing_inside
      → RowProof Spells left (singular (λ item. given_to binary_in id item) B Means IsAbsent Wrong nothing_inside)
  binary_proof {B} Means Wrong IsAbsent kind =
      row_proof Spells left (λ item. given_to binary_in id item) Means Wrong nothing_inside kind IsAbsent id (λ item x gives. (given_is binary_in id item x gives).0) (given_apart binary_in id)
      (binary_shape Spells left 0 id B Means IsAbsent Wrong).few

  abbrev pub int_proof : {B : Type 0} (Means : ℤ → B → Type 0) (Wrong : ℤ → ℕ → Type 0) (IsAbsent : B → Type 0) → Kind Spells left (λ item. given_to i32_in id item) Means Wrong nothing_inside
      → RowProof Spells left (singular (λ item. given_to i32_in id item) B Means IsAbsent Wrong nothing_inside)
  int_proof {B} Means Wrong IsAbsent kind =
      row_proof Spells left (λ item. given_to i32_in id item) Means Wrong nothing_inside kind IsAbsent id (λ item x gives. (given_is i32_in id item x gives).0) (given_apart i32_in id)
      (int_shape Spells left 0 id B Means IsAbsent Wrong).few

  abbrev pub long_proof : {B : Type 0} (Means : ℤ → B → Type 0) (Wrong : ℤ → ℕ → Type 0) (IsAbsent : B → Type 0) → Kind Spells left (λ item. given_to i64_in id item) Means Wrong nothing_inside
      → RowProof Spells left (singular (λ item. given_to i64_in id item) B Means IsAbsent Wrong nothing_inside)
  long_proof {B} Means Wrong IsAbsent kind =
      row_proof Spells left (λ item. given_to i64_in id item) Means Wrong nothing_inside kind IsAbsent id (λ item x gives. (given_is i64_in id item x gives).0) (given_apart i64_in id)
      (long_shape Spells left 0 id B Means IsAbsent Wrong).few

  abbrev pub truth_proof : {B : Type 0} (Means : Bool → B → Type 0) (Wrong : Bool → ℕ → Type 0) (IsAbsent : B → Type 0) → Kind Spells left (λ item. given_to truth_in id item) Means Wrong nothing_inside
      → RowProof Spells left (singular (λ item. given_to truth_in id item) B Means IsAbsent Wrong nothing_inside)
  truth_proof {B} Means Wrong IsAbsent kind =
      row_proof Spells left (λ item. given_to truth_in id item) Means Wrong nothing_inside kind IsAbsent id (λ item x gives. (given_is truth_in id item x gives).0) (given_apart truth_in id)
      (truth_shape Spells left 0 id B Means IsAbsent Wrong).few

  abbrev pub eight_proof : {B : Type 0} (Means : List ℕ → B → Type 0) (Wrong : List ℕ → ℕ → Type 0) (IsAbsent : B → Type 0) → Kind Spells left (λ item. given_to double_in id item) Means Wrong nothing_inside
      → RowProof Spells left (singular (λ item. given_to double_in id item) B Means IsAbsent Wrong nothing_inside)
  eight_proof {B} Means Wrong IsAbsent kind =
      row_proof Spells left (λ item. given_to double_in id item) Means Wrong nothing_inside kind IsAbsent id (λ item x gives. (given_is double_in id item x gives).0) (given_apart double_in id)
      (eight_shape Spells left 0 id B Means IsAbsent Wrong).few

module _ (Spells : Spelling) (reads : ReadingOf) (ThenVarint : Part → List ℕ → Type 0) (Refuses : Part → Cause → List ℕ → Type 0) (R : ReadsExactly Spells reads ThenVarint Refuses) (P : PartLaws Spells ThenVarint Refuses)
    {X : Type 0} (Is : X → Fields → Type 0) (rules : Rules FieldItem) (outer id : ℕ) where
  pub laws : (m : ℕ) → FormatLaws (structs Spells m)
  laws m = struct_laws Spells reads ThenVarint Refuses R P m

  abbrev pub structures_proof : StructProof Spells (outer - 2) Is rules → (IsAbsent : List X → Type 0) → RowProof Spells outer (structures Spells (outer - 2) rules id (List X) (λ trees xs. EachStruct Is trees xs) IsAbsent)
  structures_proof S IsAbsent =
      row_proof Spells outer (λ item. with_text item.text (given_to list_in id item)) (λ held v. EachStruct Is held.0 v) _ _ (structures_kind Spells reads ThenVarint Refuses R P Is rules outer S id) IsAbsent id
      (λ item x gives. (given_is list_in id item x.0 (with_is item.text (given_to list_in id item) x gives).0).0) (λ item e. ap (λ (l : List Trees). with_text item.text l) (given_apart list_in id item e))
      (structures_shape Spells laws outer 0 (outer - 2) rules S.laws id (List X) (λ trees xs. EachStruct Is trees xs) IsAbsent).few

  abbrev pub structure_proof : StructProof Spells (outer - 1) Is rules → (IsAbsent : X → Type 0) → RowProof Spells outer (structure Spells (outer - 1) rules id X (λ fields x. Is x fields) IsAbsent)
  structure_proof S IsAbsent =
      row_proof Spells outer (λ item. with_text item.text (given_to struct_in id item)) (λ held v. Is v held.0) _ _ (structure_kind Spells reads ThenVarint Refuses R P Is rules outer S id) IsAbsent id
      (λ item x gives. (given_is struct_in id item x.0 (with_is item.text (given_to struct_in id item) x gives).0).0) (λ item e. ap (λ (l : List Fields). with_text item.text l) (given_apart struct_in id item e))
      (structure_shape Spells laws outer 0 (outer - 1) rules S.laws id X (λ fields x. Is x fields) IsAbsent).few

-- ---- structs

-- what its fields mean, by its rows
pub record Meant {X : Type 0} (table : List (Row FieldItem)) (ends : List FieldItem → ℕ → Type 0) (Is : X → Fields → Type 0) : Type 0 where
  pub values : (x : X) (items : List FieldItem) → Is x (fields_of items) → (v : Values table) × Mean table (givens table items) v
  pub clean : (x : X) (items : List FieldItem) → Is x (fields_of items) → (n : ℕ) → ends items n → ⊥

module _ (Spells : Spelling) (left : ℕ) (L : FormatLaws (structs Spells left)) (table : List (Row FieldItem)) (rows : TableProof Spells left table) (each : distinct (ids Spells left table rows) ≡ true) (ends : List FieldItem → ℕ → Type 0)
    (last : RulesLaws (structs Spells left) (rules_by table ends)) {X : Type 0} (Is : X → Fields → Type 0) (meant : Meant table ends Is)
    (at_end : (items : List FieldItem) → TableFound table items → AtEnd Spells left (λ l. (x : X) × Is x (fields_of l)) ends items) where
  fine_of : (x : X) (fields : Fields) (text : List ℕ) → StructText Spells left fields text → Is x fields → (place n : ℕ) → Offence (structs Spells left) (rules_by table ends) (whole_struct text) place n → ⊥
  fine_of x fields text stands is =
      let whole = whole_of Spells left fields (pos 0) text stands in
      let its = subst (λ (f : Fields). Is x f) (sym whole.1) is in
      let means = meant.values x whole.0 its in
      table_fine Spells left L table rows ends (whole_struct text) whole.0 whole.2 means.0 means.1 (meant.clean x whole.0 its)

  some_of : (fields : Fields) (text : List ℕ) → StructText Spells left fields text → ((x : X) × Is x fields) ⊎ ((cause : Cause) × Least (Offence (structs Spells left) (rules_by table ends) (whole_struct text)) (cause_number cause))
  some_of fields text stands =
      let whole = whole_of Spells left fields (pos 0) text stands in
      of whole.0 whole.1 (table_some Spells left L table rows each ends last (λ l. (x : X) × Is x (fields_of l)) at_end (whole_struct text) whole.0 whole.2)
    where
      of : (items : List FieldItem) → fields_of items ≡ fields → ((x : X) × Is x (fields_of items)) ⊎ ((cause : Cause) × Least (Offence (structs Spells left) (rules_by table ends) (whole_struct text)) (cause_number cause))
          → ((x : X) × Is x fields) ⊎ ((cause : Cause) × Least (Offence (structs Spells left) (rules_by table ends) (whole_struct text)) (cause_number cause))
      of items same (inl (x, is)) = inl (x, subst (λ (f : Fields). Is x f) same is)
      of items same (inr least) = inr least

  pub struct_proof : StructProof Spells left Is (rules_by table ends)
  struct_proof = record { laws = last; fine = fine_of; some = some_of }

-- ---- what was given to a row, and what the fields of its id hold

module _ {A B : Type 0} (take : Tree → List A) (id : ℕ) (Means : A → B → Type 0) (IsAbsent : B → Type 0) (items : List FieldItem) (v : B) where
  pub given_back : Singular Means IsAbsent (values_of take id (fields_of items)) v → Singular Means IsAbsent (flat_map (λ (item : FieldItem). given_to take id item) items) v
  given_back h = subst (λ (l : List A). Singular Means IsAbsent l v) (sym (values_given take id items)) h

  pub given_on : Singular Means IsAbsent (flat_map (λ (item : FieldItem). given_to take id item) items) v → Singular Means IsAbsent (values_of take id (fields_of items)) v
  given_on h = subst (λ (l : List A). Singular Means IsAbsent l v) (values_given take id items) h

-- with the bytes of each field
pub pairs_given : {A : Type 0} (take : Tree → List A) (id : ℕ) (items : List FieldItem) → map (λ x. x.0) (flat_map (λ (item : FieldItem). with_text item.text (given_to take id item)) items) ≡ values_of take id (fields_of items)
pairs_given {A} take id items = all items ∙ values_given take id items
  where
    give : FieldItem → List (A × List ℕ)
    give item = with_text item.text (given_to take id item)

    bare : (xs : List A) (text : List ℕ) → map (λ (x : A × List ℕ). x.0) (with_text text xs) ≡ xs
    bare [] text = refl
    bare (x ∷ xs) text = ap (λ l. x ∷ l) (bare xs text)

    all : (items : List FieldItem) → map (λ (x : A × List ℕ). x.0) (flat_map give items) ≡ flat_map (λ (item : FieldItem). given_to take id item) items
    all [] = refl
    all (item ∷ items) =
        ap (λ l. map (λ (x : A × List ℕ). x.0) l) (flat_map-cons give item items)
        ∙ (map-append (λ (x : A × List ℕ). x.0) (give item) (flat_map give items)
        ∙ ((λ i. bare (given_to take id item) item.text i ++ all items i) ∙ sym (flat_map-cons (λ (i : FieldItem). given_to take id i) item items)))

pairs_back : {A B : Type 0} (Means : A → B → Type 0) (IsAbsent : B → Type 0) (xs : List (A × List ℕ)) (v : B) → Singular Means IsAbsent (map (λ (x : A × List ℕ). x.0) xs) v → Singular (λ held y. Means held.0 y) IsAbsent xs v
pairs_back Means IsAbsent [] v h = h
pairs_back Means IsAbsent (x ∷ []) v h = h
pairs_back Means IsAbsent (x ∷ y ∷ more) v h = absurd h

pairs_on : {A B : Type 0} (Means : A → B → Type 0) (IsAbsent : B → Type 0) (xs : List (A × List ℕ)) (v : B) → Singular (λ held y. Means held.0 y) IsAbsent xs v → Singular Means IsAbsent (map (λ (x : A × List ℕ). x.0) xs) v
pairs_on Means IsAbsent [] v h = h
pairs_on Means IsAbsent (x ∷ []) v h = h
pairs_on Means IsAbsent (x ∷ y ∷ more) v h = absurd h

module _ {A B : Type 0} (take : Tree → List A) (id : ℕ) (Means : A → B → Type 0) (IsAbsent : B → Type 0) (items : List FieldItem) (v : B) where
  abbrev Pairs : List (A × List ℕ)
  Pairs = flat_map (λ (item : FieldItem). with_text item.text (given_to take id item)) items

  pub inner_back : Singular Means IsAbsent (values_of take id (fields_of items)) v → Singular (λ held y. Means held.0 y) IsAbsent Pairs v
  inner_back h = pairs_back Means IsAbsent Pairs v (subst (λ (l : List A). Singular Means IsAbsent l v) (sym (pairs_given take id items)) h)

  pub inner_on : Singular (λ held y. Means held.0 y) IsAbsent Pairs v → Singular Means IsAbsent (values_of take id (fields_of items)) v
  inner_on h = subst (λ (l : List A). Singular Means IsAbsent l v) (pairs_given take id items) (pairs_on Means IsAbsent Pairs v h)

-- ---- rows that must have a field, and those that need not

pub some_held : {A B : Type 0} (Means : A → B → Type 0) (xs : List A) (v : B) → Singular Means (λ x. ⊥) xs v → xs ≡ [] → ⊥
some_held Means [] v h e = h
some_held Means (x ∷ xs) v h e = cc

-- what was found, else what stands for it
pub found_or : {A B : Type 0} (Means : A → B → Type 0) (absent : B) (xs : List A) → (xs ≡ []) ⊎ ((v : B) × Singular Means (λ z. z ≡ absent) xs v) → (v : B) × Singular Means (λ z. z ≡ absent) xs v
found_or {A} Means absent xs (inl none) = (absent, subst (λ (l : List A). Singular Means (λ z. z ≡ absent) l absent) (sym none) refl)
found_or Means absent xs (inr found) = found

-- ---- what isn't there

pub given_nothing : {A : Type 0} (take : Tree → List A) (id : ℕ) (items : List FieldItem) → flat_map (λ (item : FieldItem). given_to take id item) items ≡ [] → values_of take id (fields_of items) ≡ []
given_nothing take id items none = sym (values_given take id items) ∙ none

pub inner_nothing : {A : Type 0} (take : Tree → List A) (id : ℕ) (items : List FieldItem) → flat_map (λ (item : FieldItem). with_text item.text (given_to take id item)) items ≡ [] → values_of take id (fields_of items) ≡ []
inner_nothing {A} take id items none = sym (pairs_given take id items) ∙ ap (λ (l : List (A × List ℕ)). map (λ x. x.0) l) none

-- ---- by the value that is held

pub held_value : {A B : Type 0} (M : A → B → Type 0) (xs : List A) (v : B) → Required M xs v → (x : A) × Required Means xs x × M x v
held_value M [] v h = absurd h
held_value M (x ∷ []) v h = (x, refl, h)
held_value M (x ∷ y ∷ more) v h = absurd h

pub value_held : {A B : Type 0} (M : A → B → Type 0) (xs : List A) (x : A) (v : B) → Required Means xs x → M x v → Required M xs v
value_held M [] x v h m = absurd h
value_held M (y ∷ []) x v h m = subst (λ z. M z v) h m
value_held M (y ∷ z ∷ more) x v h m = absurd h
