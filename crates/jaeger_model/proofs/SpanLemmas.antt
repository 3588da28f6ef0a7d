-- What is known of a span of which nothing is missing.
use Rattle.std.proofs.Common.{◌≡◌, ◌≤◌, ◌<◌, ◌⊎◌, ◌+◌, ◌^◌, ◌++◌, ℕ, ℤ, pos, List, [], ◌∷◌, length, Option, Some, None, inl, inr, refl, sym, ap, subst, ◌∙◌, arith}
use Rattle.std.specs.List.{flat_map}
use Rattle.std.specs.Prelude.{map}
use Rattle.std.specs.Option.{unwrap_or}
use Rattle.std.proofs.lemmas.Bool.{cases_lt}
use Rattle.std.proofs.lemmas.List.{map-append}
use Rattle.std.proofs.lemmas.List.Concat.{flat_map-cons}
use Rattle.span_ids.specs.Times.{nanos, last_micros}
use Rattle.span_io.specs.RowsSoFar.{Gave}
use Rattle.span_io.specs.Tables.{MeansText, Singular}
use Rattle.thrift_core.specs.FieldValues.{values_of, i32_in, i64_in, binary_in, list_in, EachStruct}
use Rattle.thrift_core.specs.Messages.{FieldItem, fields_of}
use Rattle.thrift_core.specs.Trees.{Fields, Tree, Trees}
use Rattle.jaeger_model.proofs.FieldLemmas.{values_given}
use Rattle.jaeger_model.specs.declared.reading.references.References.{References}
use Rattle.jaeger_model.specs.declared.span.SpanRef.{SpanRef}
use Rattle.jaeger_model.specs.declared.reading.span.SpanParts.{SpanParts}
use Rattle.jaeger_model.specs.Counted.{IsCounted}
use Rattle.jaeger_model.specs.Identifiers.{span_id_of, trace_id_of}
use Rattle.jaeger_model.specs.InnerRows.{with_text}
use Rattle.jaeger_model.specs.private.ListsSoFar.{MeansEach}
use Rattle.jaeger_model.specs.Meanings.{Required, Means, MeansTime}
use Rattle.jaeger_model.specs.private.ReferenceSoFar.{KeepsOf, KeepsReferences}
use Rattle.jaeger_model.specs.Rows.{SomeMissing, given_to}
use Rattle.jaeger_model.specs.Span.{HasReferences, MeansReferences, NoTrace, NoId, EndsLate, jspan_ends, span_required}
use Rattle.jaeger_model.specs.private.SpanSoFar.{HasParts}

-- ---- a required field means one value

required_once : {A B : Type 0} (M : A → B → Type 0) → ((held : A) (x y : B) → M held x → M held y → x ≡ y) → (xs : List A) (x y : B) → Required M xs x → Required M xs y → x ≡ y
required_once M one [] x y h k = absurd h
required_once M one (held ∷ []) x y h k = one held x y h k
required_once M one (held ∷ other ∷ more) x y h k = absurd h

same_number : (xs : List ℤ) (x y : ℤ) → Required Means xs x → Required Means xs y → x ≡ y
same_number xs x y h k = required_once Means (λ held a b e f. e ∙ sym f) xs x y h k

same_time : (xs : List ℤ) (x y : ℕ) → Required MeansTime xs x → Required MeansTime xs y → x ≡ y
same_time xs x y h k = required_once MeansTime one xs x y h k
  where
    one : (held : ℤ) (a b : ℕ) → MeansTime held a → MeansTime held b → a ≡ b
    one held a b m n = let same : pos m.0 ≡ pos n.0 = sym m.1 ∙ n.1 in let micros : m.0 ≡ n.0 = cc in m.3 ∙ (ap nanos micros ∙ sym n.3)

-- one that stands is not missing
some_held : {A B : Type 0} (M : A → B → Type 0) (xs : List A) (x : B) → Required M xs x → xs ≡ [] → ⊥
some_held M [] x h e = h
some_held M (held ∷ more) x h e = cc

present : {A B : Type 0} (take : Tree → List A) (id : ℕ) (M : A → B → Type 0) (items : List FieldItem) (x : B) → Required M (values_of take id (fields_of items)) x → flat_map (λ (item : FieldItem). given_to take id item) items ≡ [] → ⊥
present take id M items x h e = some_held M (values_of take id (fields_of items)) x h (sym (values_given take id items) ∙ e)

module _ (parts : SpanParts) where
  pub none_missing : (items : List FieldItem) → HasParts parts (fields_of items) → SomeMissing span_required items → ⊥
  none_missing items h (inl e) = present i64_in 1 Means items parts.low h.low e
  none_missing items h (inr (inl e)) = present i64_in 2 Means items parts.high h.high e
  none_missing items h (inr (inr (inl e))) = present i64_in 3 Means items parts.id h.id e
  none_missing items h (inr (inr (inr (inl e)))) = present i64_in 4 Means items parts.parent h.parent e
  none_missing items h (inr (inr (inr (inr (inl e))))) = present binary_in 5 MeansText items parts.name h.name e
  none_missing items h (inr (inr (inr (inr (inr (inl e)))))) = present i32_in 7 Means items parts.flags h.flags e
  none_missing items h (inr (inr (inr (inr (inr (inr (inl e))))))) = present i64_in 8 MeansTime items parts.start h.start e
  none_missing items h (inr (inr (inr (inr (inr (inr (inr (inl e)))))))) = present i64_in 9 MeansTime items parts.duration h.duration e
  none_missing items h (inr (inr (inr (inr (inr (inr (inr (inr none)))))))) = none

  some_trace : (fields : Fields) (trace : ℕ) → HasParts parts fields → trace_id_of parts.high parts.low ≡ Some trace → NoTrace fields → ⊥
  some_trace fields trace h is bad =
      let low = same_number (values_of i64_in 1 fields) bad.low parts.low bad.its_low h.low in
      let high = same_number (values_of i64_in 2 fields) bad.high parts.high bad.its_high h.high in
      let joined : trace_id_of bad.high bad.low ≡ trace_id_of parts.high parts.low = λ i. trace_id_of (high i) (low i) in
      let never : None ≡ Some trace = sym bad.zero ∙ (joined ∙ is) in cc

  some_id : (fields : Fields) (id : ℕ) → HasParts parts fields → span_id_of parts.id ≡ Some id → NoId fields → ⊥
  some_id fields id h is bad =
      let same = same_number (values_of i64_in 3 fields) bad.0 parts.id bad.1 h.id in
      let never : None ≡ Some id = sym bad.2 ∙ (ap span_id_of same ∙ is) in cc

  in_time : (fields : Fields) → HasParts parts fields → parts.start + parts.duration ≤ nanos last_micros → EndsLate fields → ⊥
  in_time fields h within bad =
      omega (arith, within, bad.late, same_time (values_of i64_in 8 fields) bad.start parts.start bad.its_start h.start, same_time (values_of i64_in 9 fields) bad.duration parts.duration bad.its_duration h.duration)

  -- ---- what it offends with at its end

  pub no_trace : (items : List FieldItem) → HasParts parts (fields_of items) → trace_id_of parts.high parts.low ≡ None → jspan_ends items 12 × ((n : ℕ) → jspan_ends items n → 12 ≤ n)
  no_trace items h none = (inr (inl (refl, inl (record { low = parts.low; its_low = h.low; high = parts.high; its_high = h.high; zero = none }))), λ n e. least n e)
    where
      least : (n : ℕ) → jspan_ends items n → 12 ≤ n
      least n (inl e) = absurd (none_missing items h e.1)
      least n (inr (inl e)) = omega (arith, e.0)
      least n (inr (inr e)) = omega (arith, e.0)

  pub no_id : (items : List FieldItem) → HasParts parts (fields_of items) → span_id_of parts.id ≡ None → jspan_ends items 12 × ((n : ℕ) → jspan_ends items n → 12 ≤ n)
  no_id items h none = (inr (inl (refl, inr (parts.id, h.id, none))), λ n e. least n e)
    where
      least : (n : ℕ) → jspan_ends items n → 12 ≤ n
      least n (inl e) = absurd (none_missing items h e.1)
      least n (inr (inl e)) = omega (arith, e.0)
      least n (inr (inr e)) = omega (arith, e.0)

  module _ (trace id : ℕ) (is_trace : trace_id_of parts.high parts.low ≡ Some trace) (is_id : span_id_of parts.id ≡ Some id) where
    pub ends_late : (items : List FieldItem) → HasParts parts (fields_of items) → nanos last_micros < parts.start + parts.duration → jspan_ends items 16 × ((n : ℕ) → jspan_ends items n → 16 ≤ n)
    ends_late items h late = (inr (inr (refl, record { start = parts.start; its_start = h.start; duration = parts.duration; its_duration = h.duration; late = late })), λ n e. least n e)
      where
        least : (n : ℕ) → jspan_ends items n → 16 ≤ n
        least n (inl e) = absurd (none_missing items h e.1)
        least n (inr (inl (e, inl bad))) = absurd (some_trace (fields_of items) trace h is_trace bad)
        least n (inr (inl (e, inr bad))) = absurd (some_id (fields_of items) id h is_id bad)
        least n (inr (inr e)) = omega (arith, e.0)

    pub ends_well : (items : List FieldItem) → HasParts parts (fields_of items) → parts.start + parts.duration ≤ nanos last_micros → (n : ℕ) → jspan_ends items n → ⊥
    ends_well items h within n (inl e) = none_missing items h e.1
    ends_well items h within n (inr (inl (e, inl bad))) = some_trace (fields_of items) trace h is_trace bad
    ends_well items h within n (inr (inl (e, inr bad))) = some_id (fields_of items) id h is_id bad
    ends_well items h within n (inr (inr e)) = in_time (fields_of items) h within e.1

-- the sum of whole microseconds
pub whole_micros : (xs ys : List ℤ) (start duration : ℕ) → Required MeansTime xs start → Required MeansTime ys duration → start + duration ≤ 18446744073709551615 → start + duration ≤ nanos last_micros
whole_micros [] ys start duration h k fits = absurd h
whole_micros (x ∷ []) [] start duration h k fits = absurd k
whole_micros (x ∷ []) (y ∷ []) start duration h k fits = omega (arith, h.3, k.3, fits)
whole_micros (x ∷ []) (y ∷ z ∷ more) start duration h k fits = absurd k
whole_micros (x ∷ w ∷ more) ys start duration h k fits = absurd h

-- the sum that an answer is
pub fits_answer : (sum : ℕ) (answer : Option ℕ) (end : ℕ) → answer ≡ Some end → (2 ^ 64 ≤ sum → answer ≡ None) → sum ≤ 18446744073709551615
fits_answer sum answer end e none = of (cases_lt 18446744073709551615 sum)
  where
    of : (18446744073709551615 < sum) ⊎ (sum ≤ 18446744073709551615) → sum ≤ 18446744073709551615
    of (inl high) = let never : None ≡ Some end = sym (none high) ∙ e in absurd (cc)
    of (inr low) = low

-- ---- what was gathered of the lists

-- without their bytes
without_text : (trees : List Trees) (text : List ℕ) → map (λ x. x.0) (with_text text trees) ≡ trees
without_text [] text = refl
without_text (held ∷ more) text = ap (λ l. held ∷ l) (without_text more text)

pub lists_given : (id : ℕ) (items : List FieldItem) → map (λ x. x.0) (flat_map (λ (item : FieldItem). with_text item.text (given_to list_in id item)) items) ≡ values_of list_in id (fields_of items)
lists_given id items = all items ∙ values_given list_in id items
  where
    give : FieldItem → List (Trees × List ℕ)
    give item = with_text item.text (given_to list_in id item)

    all : (items : List FieldItem) → map (λ (x : Trees × List ℕ). x.0) (flat_map give items) ≡ flat_map (λ (item : FieldItem). given_to list_in id item) items
    all [] = refl
    all (item ∷ items) =
        ap (λ l. map (λ (x : Trees × List ℕ). x.0) l) (flat_map-cons give item items)
        ∙ (map-append (λ (x : Trees × List ℕ). x.0) (give item) (flat_map give items)
        ∙ (ap (λ l. l ++ map (λ (x : Trees × List ℕ). x.0) (flat_map give items)) (without_text (given_to list_in id item) item.text)
        ∙ (ap (λ l. given_to list_in id item ++ l) (all items) ∙ sym (flat_map-cons (λ (i : FieldItem). given_to list_in id i) item items))))

-- what is so of a value that a row may mean, and of the one that stands for an absent one
pub given_held : {A B : Type 0} (M : A → B → Type 0) (P : B → Type 0) → ((held : A) (value : B) → M held value → P value) → (xs : List A) (row : Option B) (default value : B) → value ≡ unwrap_or row default → P default
    → Gave M xs row → P value
given_held M P each [] None default value e is gave = subst P (sym e) is
given_held M P each [] (Some y) default value e is gave = absurd gave
given_held M P each (x ∷ []) None default value e is gave = absurd gave
given_held M P each (x ∷ []) (Some y) default value e is gave = subst P (sym e) (each x y gave)
given_held M P each (x ∷ w ∷ more) row default value e is gave = absurd gave

-- those of an optional list
pub list_held : {B : Type 0} (Is : B → Fields → Type 0) (id : ℕ) (items : List FieldItem) (row : Option (List B)) (default value : List B) → value ≡ unwrap_or row default → default ≡ []
    → Gave (MeansEach Is) (flat_map (λ (item : FieldItem). with_text item.text (given_to list_in id item)) items) row → Singular (λ trees xs. EachStruct Is trees xs) (λ list. list ≡ []) (values_of list_in id (fields_of items)) value
list_held {B} Is id items row default value e none gave = subst (λ (l : List Trees). Singular (λ trees xs. EachStruct Is trees xs) (λ list. list ≡ []) l value) (lists_given id items) (of (flat_map (λ (item : FieldItem). with_text item.text (given_to list_in id item)) items) row e gave)
  where
    of : (xs : List (Trees × List ℕ)) (row : Option (List B)) → value ≡ unwrap_or row default → Gave (MeansEach Is) xs row → Singular (λ trees ys. EachStruct Is trees ys) (λ list. list ≡ []) (map (λ x. x.0) xs) value
    of [] None e gave = e ∙ none
    of [] (Some y) e gave = absurd gave
    of (x ∷ []) None e gave = absurd gave
    of (x ∷ []) (Some y) e gave = subst (λ (l : List B). EachStruct Is x.0 l) (sym e) gave.0
    of (x ∷ w ∷ more) row e gave = absurd gave

-- they are counted
pub list_counted : {B : Type 0} (Is : B → Fields → Type 0) (xs : List (Trees × List ℕ)) (row : Option (List B)) (default value : List B) → value ≡ unwrap_or row default → default ≡ [] → Gave (MeansEach Is) xs row → IsCounted value
list_counted {B} Is xs row default value e none gave =
    given_held (MeansEach Is) (λ (l : List B). IsCounted l) (λ held value means. means.1) xs row default value e (omega (arith, ap length none)) gave

pub references_counted : (xs : List (Trees × List ℕ)) (row : Option References) (default value : References) → value ≡ unwrap_or row default → KeepsOf [] default → Gave KeepsReferences xs row → IsCounted value.kept
references_counted xs row default value e none gave =
    given_held KeepsReferences (λ (r : References). IsCounted r.kept) (λ held value means. means.2.counted) xs row default value e none.counted gave

pub references_held : (items : List FieldItem) (row : Option References) (default value : References) → value ≡ unwrap_or row default → KeepsOf [] default
    → Gave KeepsReferences (flat_map (λ (item : FieldItem). with_text item.text (given_to list_in 6 item)) items) row → HasReferences (fields_of items) value.kept value.others
references_held items row default value e none gave =
    let held = subst (λ (l : List Trees). Held l) (lists_given 6 items) (of (flat_map (λ (item : FieldItem). with_text item.text (given_to list_in 6 item)) items) row e gave) in
    record { all = held.0; given = held.1; kept = held.2.kept; others = held.2.others }
  where
    Held : List Trees → Type 0
    Held xs = (all : List (Option SpanRef)) × Singular MeansReferences (λ list. list ≡ []) xs all × KeepsOf all value

    of : (xs : List (Trees × List ℕ)) (row : Option References) → value ≡ unwrap_or row default → Gave KeepsReferences xs row → Held (map (λ (x : Trees × List ℕ). x.0) xs)
    of [] None e gave = ([], refl, subst (λ (r : References). KeepsOf [] r) (sym e) none)
    of [] (Some y) e gave = absurd gave
    of (x ∷ []) None e gave = absurd gave
    of (x ∷ []) (Some y) e gave = (gave.0, gave.1, subst (λ (r : References). KeepsOf gave.0 r) (sym e) gave.2)
    of (x ∷ w ∷ more) row e gave = absurd gave

-- a missing field goes before what else offends at the end
pub some_missing : (items : List FieldItem) → SomeMissing span_required items → jspan_ends items 8 × ((n : ℕ) → jspan_ends items n → 8 ≤ n)
some_missing items missing = (inl (refl, missing), λ n e. least n e)
  where
    least : (n : ℕ) → jspan_ends items n → 8 ≤ n
    least n (inl e) = omega (arith, e.0)
    least n (inr (inl e)) = omega (arith, e.0)
    least n (inr (inr e)) = omega (arith, e.0)
