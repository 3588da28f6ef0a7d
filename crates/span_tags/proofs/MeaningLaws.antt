-- What is told of a group: a loss is in a list of losses exactly where it is one of a row that is told, part by part.
--     Told found P              a loss is found exactly where P holds of it
--     ToldAt place found P      the same of losses at one place, of which P tells the row and the key
--     told_row, told_keys, told_both, told_as     of a row, of the keys of pairs, of two parts, and in other words
--     Among P n xs              a loss of a member of a list, of which the first has the number n
--     AmongScopes               a loss of a scope
use Rattle.std.proofs.Common.{◌≡◌, ℕ, zero, suc, ◌+◌, Bool, true, false, not, cond, List, [], ◌∷◌, ◌++◌, length, map, All, Contains, Option, Some, None, option_map, refl, sym, ap, ◌∙◌, subst, true≢false, ⊎_elim, inl, inr, is_some, arith}
use Rattle.std.specs.Prelude.{◌↔◌, ◌≢◌, ◌⊎◌, ◌&&◌, slice_get}
use Rattle.std.specs.List.Sorted.{IsStrictlySortedBy}
use Rattle.std.specs.Str.{bytes_eq}
use Rattle.std.proofs.lemmas.Option.{slice_get-map}
use Rattle.std.proofs.lemmas.List.Elements.{All-head, All-tail, Contains-append_left, Contains-append_right, Contains-append_cases}
use Rattle.trace_model.specs.Attributes.{Rise, keys, at}
use Rattle.trace_model.specs.ValueTexts.{value_text}
use Rattle.trace_model.specs.declared.loss.Loss.{Loss}
use Rattle.trace_model.specs.declared.loss.LossRow.{LossRow}
use Rattle.trace_model.specs.declared.loss.LossRow.TheVariants as rows
use Rattle.trace_model.specs.declared.place.Place.{Place}
use Rattle.trace_model.specs.declared.place.Place.TheVariants as places
use Rattle.trace_model.specs.declared.span.Span.{Span}
use Rattle.trace_model.specs.declared.group.Scope.{Scope}
use Rattle.trace_model.specs.declared.value.Value.{Value, Text}
use Rattle.span_tags.proofs.AttributeLaws.{same_key, key_itself, at_below, on_values, at_map}
use Rattle.span_tags.specs.LossMeanings.{StaysOther, Goes, OfScope, numbered, InPlace, spans_in}
use Rattle.span_tags.specs.Losses.{is_empty, is_text, differ, lost, lost_key, lost_keys, losses_of, Names, joins, names_behind, scope_losses, scopes_losses}
use Rattle.span_tags.proofs.QuietLaws.{differ_not, given_not}
use Rattle.span_tags.specs.TagWords.{Pairs, text_given}

-- ---- tests

-- a test that fails exactly where P, and so holds where not
pub told_not : {P : Type 0} (told : Bool) → (told ≡ false) ↔ P → (told ≡ true) ↔ (P → ⊥)
told_not true known = (λ e. λ holds. true≢false (known.1 holds), λ apart. refl)
told_not false known = (λ e. absurd (true≢false (sym e)), λ apart. absurd (apart (known.0 refl)))

-- ---- members

none_there : {X : Type 0} (y : X) → Contains [] y → ⊥
none_there y there = omega (arith, there.1)

one_there : {X : Type 0} (x y : X) → Contains (x ∷ []) y → y ≡ x
one_there x y (zero, lt, e) = sym e
one_there x y (suc k, lt, e) = absurd (omega (arith, lt))

here : {X : Type 0} (x y : X) → y ≡ x → Contains (x ∷ []) y
here x y e = (0, omega arith, sym e)

-- ---- parts

abbrev pub Told : List Loss → (Loss → Type 0) → Type 0
Told found P = (loss : Loss) → Contains found loss ↔ P loss

pub record ToldAt (place : Place) (found : List Loss) (P : LossRow → List ℕ → Type 0) : Type 0 where
  pub at : Told found (λ loss. (loss.place ≡ place) × P loss.row loss.key)

pub told_parts : {P Q : Loss → Type 0} (xs ys : List Loss) → Told xs P → Told ys Q → Told (xs ++ ys) (λ loss. P loss ⊎ Q loss)
told_parts {P = P} {Q = Q} xs ys first second loss = (
  λ there. ⊎_elim (λ (in_first : Contains xs loss). inl ((first loss).0 in_first)) (λ (in_second : Contains ys loss). inr ((second loss).0 in_second))
      (Contains-append_cases xs ys loss there),
  λ holds. ⊎_elim (λ (p : P loss). Contains-append_left xs ys loss ((first loss).1 p)) (λ (q : Q loss). Contains-append_right xs ys loss ((second loss).1 q)) holds,
)

pub told_both : {P Q : LossRow → List ℕ → Type 0} (place : Place) (xs ys : List Loss) → ToldAt place xs P → ToldAt place ys Q
    → ToldAt place (xs ++ ys) (λ row key. P row key ⊎ Q row key)
told_both {P = P} {Q = Q} place xs ys first second = record {
  at = λ loss. (
    λ there. ⊎_elim
        (λ (in_first : Contains xs loss). let its = (first.at loss).0 in_first in (its.0, inl its.1))
        (λ (in_second : Contains ys loss). let its = (second.at loss).0 in_second in (its.0, inr its.1))
        (Contains-append_cases xs ys loss there),
    λ holds. ⊎_elim
        (λ (p : P loss.row loss.key). Contains-append_left xs ys loss ((first.at loss).1 (holds.0, p)))
        (λ (q : Q loss.row loss.key). Contains-append_right xs ys loss ((second.at loss).1 (holds.0, q)))
        holds.1,
  );
}

-- the same in other words
pub told_as : {P Q : LossRow → List ℕ → Type 0} (place : Place) (xs : List Loss) → ToldAt place xs P → ((row : LossRow) (key : List ℕ) → P row key ↔ Q row key)
    → ToldAt place xs Q
told_as place xs told same = record {
  at = λ loss. (
    λ there. let its = (told.at loss).0 there in (its.0, (same loss.row loss.key).0 its.1),
    λ holds. (told.at loss).1 (holds.0, (same loss.row loss.key).1 holds.1),
  );
}

-- ---- rows

pub record IsRow (wanted : LossRow) (of_key : List ℕ) (test : Bool) (its_row : LossRow) (its_key : List ℕ) : Type 0 where
  pub row : its_row ≡ wanted
  pub key : its_key ≡ of_key
  pub told : test ≡ true

pub told_row : (place : Place) (row : LossRow) (key : List ℕ) (told : Bool) → ToldAt place (lost_key place row key told) (IsRow row key told)
told_row place row key true = record {
  at = λ loss. (
    λ there.
        let same : loss ≡ record { place = place; row = row; key = key } = one_there (record { place = place; row = row; key = key }) loss there in (
          ap (λ (l : Loss). l.place) same,
          record { row = ap (λ (l : Loss). l.row) same; key = ap (λ (l : Loss). l.key) same; told = refl },
        ),
    λ holds. here (record { place = place; row = row; key = key }) loss (λ i. record { place = holds.0 i; row = holds.1.row i; key = holds.1.key i }),
  );
}
told_row place row key false = record { at = λ loss. (λ there. absurd (none_there loss there), λ holds. absurd (true≢false (sym holds.1.told))) }

-- ---- keys

-- of rising pairs the one of the key is such
pub record IsSuch (such : List ℕ × Value → Bool) (pairs : Pairs) (key : List ℕ) : Type 0 where
  pub value : Value
  pub stood : at key pairs ≡ Some value
  pub told : such (key, value) ≡ true

later_is : (pair : List ℕ × Value) (l : Pairs) → at pair.0 l ≡ None → (k : List ℕ) (v : Value) → at k l ≡ Some v
    → (b : Bool) → bytes_eq k pair.0 ≡ b → cond b (Some pair.1) (at k l) ≡ Some v
later_is pair l none k v found true same =
    absurd (true≢false (sym (ap is_some found) ∙ ap (λ (q : List ℕ). is_some (at q l)) (same_key k pair.0 same) ∙ ap is_some none))
later_is pair l none k v found false apart = found

pub told_keys : (place : Place) (row : LossRow) (such : List ℕ × Value → Bool) (pairs : Pairs) → Rise (keys pairs)
    → ToldAt place (lost_keys place row such pairs) (λ its_row key. (its_row ≡ row) × IsSuch such pairs key)
unfolding IsStrictlySortedBy
told_keys place row such [] up =
    record { at = λ loss. (λ there. absurd (none_there loss there), λ holds. absurd (true≢false (sym (ap is_some holds.1.1.stood)))) }
told_keys place row such (pair ∷ pairs) up = told_as place (lost_keys place row such (pair ∷ pairs))
    (told_both place (lost_key place row pair.0 (such pair)) (lost_keys place row such pairs)
    (told_row place row pair.0 (such pair)) (told_keys place row such pairs up.1))
    (λ its_row key. (
      λ holds. ⊎_elim
          (λ (its : IsRow row pair.0 (such pair) its_row key). (its.row, first key its.key its.told))
          (λ (its : (its_row ≡ row) × IsSuch such pairs key). (its.0, later key its.1))
          holds,
      λ holds. of_one its_row key holds.0 holds.1 (bytes_eq key pair.0) refl holds.1.stood,
    ))
  where
    first : (key : List ℕ) → key ≡ pair.0 → such pair ≡ true → IsSuch such (pair ∷ pairs) key
    first key is told = record {
      value = pair.1;
      stood = ap (λ (k : List ℕ). cond (bytes_eq k pair.0) (Some pair.1) (at key pairs)) is ∙ ap (λ (b : Bool). cond b (Some pair.1) (at key pairs)) (key_itself pair.0);
      told = ap (λ (k : List ℕ). such (k, pair.1)) is ∙ told;
    }

    later : (key : List ℕ) → IsSuch such pairs key → IsSuch such (pair ∷ pairs) key
    later key its = record {
      value = its.value;
      stood = later_is pair pairs (at_below pair.0 pairs up.0) key its.value its.stood (bytes_eq key pair.0) refl;
      told = its.told;
    }

    of_one : (its_row : LossRow) (key : List ℕ) → its_row ≡ row → (its : IsSuch such (pair ∷ pairs) key) → (b : Bool) → bytes_eq key pair.0 ≡ b
        → cond b (Some pair.1) (at key pairs) ≡ Some its.value
        → IsRow row pair.0 (such pair) its_row key ⊎ ((its_row ≡ row) × IsSuch such pairs key)
    of_one its_row key is its true same found =
        let key_is : key ≡ pair.0 = same_key key pair.0 same in
        let value : pair.1 ≡ its.value = cc in
        inl (record { row = is; key = key_is; told = (λ i. such (sym key_is i, value i)) ∙ its.told })
    of_one its_row key is its false apart found = inr (is, record { value = its.value; stood = found; told = its.told })

-- ---- lists

abbrev pub Among : {A : Type 0} → (ℕ → A → Loss → Type 0) → ℕ → List A → Loss → Type 0
Among P n [] loss = ⊥
Among P n (x ∷ xs) loss = P n x loss ⊎ Among P (suc n) xs loss

module _ {A : Type 0} (losses : ℕ → A → List Loss) (P : ℕ → A → Loss → Type 0) (Q : A → Type 0) (known : (n : ℕ) (x : A) → Q x → Told (losses n x) (P n x)) where
  pub told_list : (n : ℕ) (xs : List A) → All Q xs → Told (losses_of losses n xs) (Among P n xs)
  told_list n [] all = λ loss. (λ there. none_there loss there, λ holds. absurd holds)
  told_list n (x ∷ xs) all = told_parts (losses n x) (losses_of losses (suc n) xs) (known n x (All-head Q x xs all)) (told_list (suc n) xs (All-tail Q x xs all))

module _ {A : Type 0} (P : ℕ → A → Loss → Type 0) (loss : Loss) where
  -- a member behind k others, whose number is n
  pub record IsMember (start : ℕ) (xs : List A) : Type 0 where
    pub k : ℕ
    pub n : ℕ
    pub part : A
    pub stood : slice_get xs k ≡ Some part
    pub number : n ≡ start + k
    pub its : P n part loss

  pub member_of : (start : ℕ) (xs : List A) → Among P start xs loss → IsMember start xs
  member_of start [] among = absurd among
  member_of start (x ∷ xs) (inl its) = record { k = 0; n = start; part = x; stood = refl; number = omega arith; its = its }
  member_of start (x ∷ xs) (inr more) =
      let rest = member_of (suc start) xs more in
      record { k = suc rest.k; n = rest.n; part = rest.part; stood = rest.stood; number = omega (arith, rest.number); its = rest.its }

  pub among_member : (start : ℕ) (xs : List A) → IsMember start xs → Among P start xs loss
  among_member start xs member = by start xs member.k member.stood member.number
    where
      by : (start : ℕ) (xs : List A) (k : ℕ) → slice_get xs k ≡ Some member.part → member.n ≡ start + k → Among P start xs loss
      by start [] k stood number = absurd (true≢false (sym (ap is_some stood)))
      by start (x ∷ xs) zero stood number =
          let is : x ≡ member.part = cc in
          let number_is : member.n ≡ start = omega (arith, number) in
          inl (subst (λ (n : ℕ). P n x loss) number_is (subst (λ (y : A). P member.n y loss) (sym is) member.its))
      by start (x ∷ xs) (suc k) stood number = inr (by (suc start) xs k stood (omega (arith, number)))

  pub among_both : (start : ℕ) (xs ys : List A) → Among P start (xs ++ ys) loss ↔ (Among P start xs loss ⊎ Among P (start + length xs) ys loss)
  among_both start [] ys =
      let same : start + 0 ≡ start = omega arith in (
        λ among. inr (subst (λ (n : ℕ). Among P n ys loss) (sym same) among),
        λ holds. ⊎_elim (λ (none : ⊥). absurd none) (λ (among : Among P (start + 0) ys loss). subst (λ (n : ℕ). Among P n ys loss) same among) holds,
      )
  among_both start (x ∷ xs) ys =
      let rest = among_both (suc start) xs ys in
      let same : suc start + length xs ≡ start + suc (length xs) = omega arith in (
        λ among. ⊎_elim (λ (its : P start x loss). inl (inl its))
            (λ (more : Among P (suc start) (xs ++ ys) loss). ⊎_elim
            (λ (first : Among P (suc start) xs loss). inl (inr first))
            (λ (second : Among P (suc start + length xs) ys loss). inr (subst (λ (n : ℕ). Among P n ys loss) same second))
            (rest.0 more))
            among,
        λ holds. ⊎_elim
            (λ (first : Among P start (x ∷ xs) loss). ⊎_elim (λ (its : P start x loss). inl its) (λ (more : Among P (suc start) xs loss). inr (rest.1 (inl more))) first)
            (λ (second : Among P (start + suc (length xs)) ys loss). inr (rest.1 (inr (subst (λ (n : ℕ). Among P n ys loss) (sym same) second))))
            holds,
      )

-- ---- rows without a key

pub record IsOne (wanted : LossRow) (P : Type 0) (its_row : LossRow) (its_key : List ℕ) : Type 0 where
  pub row : its_row ≡ wanted
  pub key : its_key ≡ []
  pub holds : P

pub told_one : {P : Type 0} (place : Place) (row : LossRow) (told : Bool) → ((told ≡ true) ↔ P) → ToldAt place (lost_key place row [] told) (IsOne row P)
told_one place row told known = told_as place (lost_key place row [] told) (told_row place row [] told) (λ its_row key. (
  λ holds. record { row = holds.row; key = holds.key; holds = known.0 holds.told },
  λ holds. record { row = holds.row; key = holds.key; told = known.1 holds.holds },
))

-- two numbers that differ, a list that isn't empty, and one that is
pub told_differ : (place : Place) (row : LossRow) (m n : ℕ) → ToldAt place (lost_key place row [] (differ m n)) (IsOne row (m ≢ n))
told_differ place row m n = told_one place row (differ m n) (told_not (differ m n) (differ_not m n))

pub told_given : {A : Type 0} (place : Place) (row : LossRow) (xs : List A) → ToldAt place (lost_key place row [] (not (is_empty xs))) (IsOne row (xs ≢ []))
told_given place row xs = told_one place row (not (is_empty xs)) (told_not (not (is_empty xs)) (given_not xs))

pub empty_is : {A : Type 0} (xs : List A) → (is_empty xs ≡ true) ↔ (xs ≡ [])
empty_is [] = (λ e. refl, λ e. refl)
empty_is (x ∷ xs) = (λ e. absurd (true≢false (sym e)), λ e. absurd (cc))

-- ---- rows of attributes

-- a value that becomes another one
pub record Becomes (value : Value) (made : Option Value) : Type 0 where
  pub other : Value
  pub is : made ≡ Some other
  pub differ : value ≢ other

module _ (place : Place) (row : LossRow) (such : List ℕ × Value → Bool) (pairs normal : Pairs) (up : Rise (keys pairs)) where
  pub told_other : ((key : List ℕ) (value : Value) → at key pairs ≡ Some value → (such (key, value) ≡ true) ↔ Becomes value (at key normal))
      → ToldAt place (lost_keys place row such pairs) (λ its_row key. (its_row ≡ row) × StaysOther key pairs normal)
  told_other known = told_as place (lost_keys place row such pairs) (told_keys place row such pairs up) (λ its_row key. (
    λ holds.
        let its = (known key holds.1.value holds.1.stood).0 holds.1.told in
        (holds.0, record { value = holds.1.value; other = its.other; stood = holds.1.stood; stands = its.is; differ = its.differ }),
    λ holds. (
      holds.0,
      record {
        value = holds.1.value;
        stood = holds.1.stood;
        told = (known key holds.1.value holds.1.stood).1 (record { other = holds.1.other; is = holds.1.stands; differ = holds.1.differ });
      },
    ),
  ))

  pub told_gone : ((key : List ℕ) (value : Value) → at key pairs ≡ Some value → (such (key, value) ≡ true) ↔ (at key normal ≡ None))
      → ToldAt place (lost_keys place row such pairs) (λ its_row key. (its_row ≡ row) × Goes key pairs normal)
  told_gone known = told_as place (lost_keys place row such pairs) (told_keys place row such pairs up) (λ its_row key. (
    λ holds.
        (holds.0, record { value = holds.1.value; stood = holds.1.stood; gone = (known key holds.1.value holds.1.stood).0 holds.1.told }),
    λ holds.
        (holds.0, record { value = holds.1.value; stood = holds.1.stood; told = (known key holds.1.value holds.1.stood).1 holds.1.gone }),
  ))

some_same : {A : Type 0} (x y : A) → Some x ≡ Some y → x ≡ y
some_same x y e = cc

-- values that a function makes others of, and that differ where they are such
pub becomes : (f : Value → Value) (value : Value) (made : Option Value) (told : Bool) → made ≡ Some (f value) → (told ≡ false) ↔ (f value ≡ value)
    → (told ≡ true) ↔ Becomes value made
becomes f value made told is known = (
  λ e. record { other = f value; is = is; differ = λ same. (told_not told known).0 e (sym same) },
  λ its.
      let made_is : f value ≡ its.other = some_same (f value) its.other (sym is ∙ its.is) in
      (told_not told known).1 (λ same. its.differ (sym same ∙ made_is)),
)

pub told_made : (place : Place) (row : LossRow) (f : Value → Value) (such : List ℕ × Value → Bool) (pairs : Pairs)
    → ((pair : List ℕ × Value) → (such pair ≡ false) ↔ (f pair.1 ≡ pair.1)) → Rise (keys pairs)
    → ToldAt place (lost_keys place row such pairs) (λ its_row key. (its_row ≡ row) × StaysOther key pairs (on_values f pairs))
told_made place row f such pairs known up = told_other place row such pairs (on_values f pairs) up
    (λ key value found. becomes f value (at key (on_values f pairs)) (such (key, value)) (at_map f key pairs ∙ ap (option_map f) found) (known (key, value)))

-- none of them goes
pub made_stays : (f : Value → Value) (key : List ℕ) (pairs : Pairs) → Goes key pairs (on_values f pairs) → ⊥
made_stays f key pairs goes =
    true≢false (ap is_some (ap (option_map f) (sym goes.stood) ∙ sym (at_map f key pairs)) ∙ ap is_some goes.gone)

-- ---- values that become their texts

pub text_is : (value : Value) → (not (is_text value) ≡ false) ↔ (Text (value_text value) ≡ value)
text_is (Text text) = (λ e. refl, λ same. refl)
text_is other = (λ e. absurd (true≢false e), λ same. absurd (true≢false (ap is_text same)))

text_none : (text : List ℕ) → is_empty text ≡ true → text_given text ≡ None
text_none [] e = refl
text_none (x ∷ more) e = absurd (true≢false (sym e))

text_some : (text : List ℕ) → is_empty text ≡ false → text_given text ≡ Some (Text text)
text_some [] e = absurd (true≢false e)
text_some (x ∷ more) e = refl

none_text : (text : List ℕ) → text_given text ≡ None → is_empty text ≡ true
none_text [] e = refl
none_text (x ∷ more) e = absurd (true≢false (ap is_some e))

-- one whose text is empty goes
pub text_goes : (text : List ℕ) → (is_empty text ≡ true) ↔ (text_given text ≡ None)
text_goes text = (text_none text, none_text text)

pub text_becomes : (value : Value) (empty : Bool) → is_empty (value_text value) ≡ empty
    → ((not empty && not (is_text value)) ≡ true) ↔ Becomes value (text_given (value_text value))
text_becomes value true e = (
  λ told. absurd (true≢false (sym told)),
  λ its. absurd (true≢false (sym (ap is_some (sym (text_none (value_text value) e) ∙ its.is)))),
)
text_becomes value false e =
    becomes (λ v. Text (value_text v)) value (text_given (value_text value)) (not (is_text value)) (text_some (value_text value) e) (text_is value)

-- ---- parts in place

get_front : {A B : Type 0} (f : A → B) (xs : List A) (more : List B) (k : ℕ) (x : A) → slice_get xs k ≡ Some x → slice_get (map f xs ++ more) k ≡ Some (f x)
get_front f [] more k x stood = absurd (true≢false (sym (ap is_some stood)))
get_front f (y ∷ xs) more zero x stood = ap (option_map f) stood
get_front f (y ∷ xs) more (suc k) x stood = get_front f xs more k x stood

module _ {A : Type 0} (f : A → A) (xs normal more : List A) (same : normal ≡ map f xs ++ more) where
  pub in_place_of : (Such : A → A → Type 0) (n k : ℕ) (part : A) → slice_get xs k ≡ Some part → n ≡ 1 + k → Such part (f part) → InPlace n xs normal Such
  in_place_of Such n k part stood number such =
      let is : n ≡ suc k = omega (arith, number) in
      record {
        part = part;
        in_place = f part;
        stood = ap (λ (m : ℕ). numbered m xs) is ∙ stood;
        stands = ap (λ (m : ℕ). numbered m normal) is ∙ ap (λ (l : List A). slice_get l k) same ∙ get_front f xs more k part stood;
        such = such;
      }

  pub record IsPlaced (Such : A → A → Type 0) (n : ℕ) : Type 0 where
    pub k : ℕ
    pub part : A
    pub stood : slice_get xs k ≡ Some part
    pub number : n ≡ 1 + k
    pub such : Such part (f part)

  pub placed_of : (Such : A → A → Type 0) (n : ℕ) → InPlace n xs normal Such → IsPlaced Such n
  placed_of Such n its = by n its.stood its.stands
    where
      by : (n : ℕ) → numbered n xs ≡ Some its.part → numbered n normal ≡ Some its.in_place → IsPlaced Such n
      by zero stood stands = absurd (true≢false (sym (ap is_some stood)))
      by (suc k) stood stands =
          let both : Some (f its.part) ≡ Some its.in_place = sym (get_front f xs more k its.part stood) ∙ ap (λ (l : List A). slice_get l k) (sym same) ∙ stands in
          let is : f its.part ≡ its.in_place = some_same (f its.part) its.in_place both in
          record {
            k = k;
            part = its.part;
            stood = stood;
            number = omega arith;
            such = subst (Such its.part) (sym is) its.such;
          }

-- the same number in other parts
pub number_map : {A : Type 0} (f : A → A) (xs : List A) (n : ℕ) (x : A) → numbered n xs ≡ Some x → numbered n (map f xs) ≡ Some (f x)
number_map f xs zero x stood = absurd (true≢false (sym (ap is_some stood)))
number_map f xs (suc k) x stood = slice_get-map f xs k ∙ ap (option_map f) stood

-- ---- scopes

-- where the scope joins in other words
pub scope_same : {P Q : Type 0} (scope : Scope) → (P → Q) → (row : LossRow) (key : List ℕ) → OfScope scope P row key → OfScope scope Q row key
scope_same scope to rows.ScopeJoined key its = (its.0, to its.1)
scope_same scope to other key its = its

module _ (place : Place) (joined : Bool) (scope : Scope) where
  abbrev ScopeRows : LossRow → List ℕ → Type 0
  ScopeRows row key =
      IsOne rows.DroppedCount (scope.dropped ≢ 0) row key
      ⊎ (IsOne rows.SchemaUrl (scope.schema_url ≢ []) row key
      ⊎ (IsOne rows.Attributes (scope.attributes ≢ []) row key
      ⊎ (IsOne rows.ScopeEmpty (scope.spans ≡ []) row key
      ⊎ IsOne rows.ScopeJoined (joined ≡ true) row key)))

  scope_rows : (row : LossRow) (key : List ℕ) → ScopeRows row key → OfScope scope (joined ≡ true) row key
  scope_rows row key (inl its) = subst (λ r. OfScope scope (joined ≡ true) r key) (sym its.row) (its.key, its.holds)
  scope_rows row key (inr (inl its)) = subst (λ r. OfScope scope (joined ≡ true) r key) (sym its.row) (its.key, its.holds)
  scope_rows row key (inr (inr (inl its))) = subst (λ r. OfScope scope (joined ≡ true) r key) (sym its.row) (its.key, its.holds)
  scope_rows row key (inr (inr (inr (inl its)))) = subst (λ r. OfScope scope (joined ≡ true) r key) (sym its.row) (its.key, its.holds)
  scope_rows row key (inr (inr (inr (inr its)))) = subst (λ r. OfScope scope (joined ≡ true) r key) (sym its.row) (its.key, its.holds)

  rows_scope : (row : LossRow) (key : List ℕ) → OfScope scope (joined ≡ true) row key → ScopeRows row key
  rows_scope rows.DroppedCount key its = inl (record { row = refl; key = its.0; holds = its.1 })
  rows_scope rows.SchemaUrl key its = inr (inl (record { row = refl; key = its.0; holds = its.1 }))
  rows_scope rows.Attributes key its = inr (inr (inl (record { row = refl; key = its.0; holds = its.1 })))
  rows_scope rows.ScopeEmpty key its = inr (inr (inr (inl (record { row = refl; key = its.0; holds = its.1 }))))
  rows_scope rows.ScopeJoined key its = inr (inr (inr (inr (record { row = refl; key = its.0; holds = its.1 }))))
  rows_scope other key its = absurd its

  told_scope : ToldAt place (scope_losses place joined scope) (OfScope scope (joined ≡ true))
  told_scope =
      let rest_3 = told_both place (lost place rows.ScopeEmpty (is_empty scope.spans)) (lost place rows.ScopeJoined joined)
      (told_one place rows.ScopeEmpty (is_empty scope.spans) (empty_is scope.spans)) (told_one place rows.ScopeJoined joined (λ e. e, λ e. e)) in
      let rest_2 = told_both place (lost place rows.Attributes (not (is_empty scope.attributes))) _ (told_given place rows.Attributes scope.attributes) rest_3 in
      let rest_1 = told_both place (lost place rows.SchemaUrl (not (is_empty scope.schema_url))) _ (told_given place rows.SchemaUrl scope.schema_url) rest_2 in
      told_as place (scope_losses place joined scope)
      (told_both place (lost place rows.DroppedCount (differ scope.dropped 0)) _ (told_differ place rows.DroppedCount scope.dropped 0) rest_1)
      (λ row key. (scope_rows row key, rows_scope row key))

-- those of scopes alone: the first has the number c, and the names are those of the scope of the span before
abbrev pub AmongScopes : ℕ → Option Names → List Scope → Loss → Type 0
AmongScopes c names [] loss = ⊥
AmongScopes c names (scope ∷ scopes) loss =
    ((loss.place ≡ places.Scope c) × OfScope scope (joins names scope ≡ true) loss.row loss.key) ⊎ AmongScopes (suc c) (names_behind names scope) scopes loss

-- a scope and its spans, and later ones
to_sides : {Here First Later Second Whole : Type 0} → (First ⊎ Second → Whole) → Here ⊎ (First ⊎ (Later ⊎ Second)) → (Here ⊎ Later) ⊎ Whole
to_sides join (inl its) = inl (inl its)
to_sides join (inr (inl its)) = inr (join (inl its))
to_sides join (inr (inr (inl its))) = inl (inr its)
to_sides join (inr (inr (inr its))) = inr (join (inr its))

from_sides : {Here First Later Second Whole : Type 0} → (Whole → First ⊎ Second) → (Here ⊎ Later) ⊎ Whole → Here ⊎ (First ⊎ (Later ⊎ Second))
from_sides split (inl (inl its)) = inl its
from_sides split (inl (inr its)) = inr (inr (inl its))
from_sides {Here = Here} {First = First} {Later = Later} {Second = Second} split (inr whole) =
    ⊎_elim (λ (its : First). inr (inl its)) (λ (its : Second). inr (inr (inr its))) (split whole)

module _ (span_losses : ℕ → Span → List Loss) (P : ℕ → Span → Loss → Type 0) (Q : Span → Type 0)
    (known : (n : ℕ) (span : Span) → Q span → Told (span_losses n span) (P n span)) where
  abbrev InScopes : ℕ → ℕ → Option Names → List Scope → Loss → Type 0
  InScopes c s names scopes loss = AmongScopes c names scopes loss ⊎ Among P s (spans_in scopes) loss

  pub told_scopes : (c s : ℕ) (names : Option Names) (scopes : List Scope) → All (λ scope. All Q scope.spans) scopes
      → Told (scopes_losses span_losses c s names scopes) (InScopes c s names scopes)
  told_scopes c s names [] all = λ loss. (λ there. absurd (none_there loss there), λ holds. ⊎_elim (λ (none : ⊥). absurd none) (λ (none : ⊥). absurd none) holds)
  told_scopes c s names (scope ∷ scopes) all = λ loss.
      let spans = told_list span_losses P Q known s scope.spans (All-head (λ (one : Scope). All Q one.spans) scope scopes all) in
      let rest = told_scopes (suc c) (s + length scope.spans) (names_behind names scope) scopes (All-tail (λ (one : Scope). All Q one.spans) scope scopes all) in
      let parts = told_parts (scope_losses (places.Scope c) (joins names scope) scope) _ (told_scope (places.Scope c) (joins names scope) scope).at
      (told_parts (losses_of span_losses s scope.spans) _ spans rest) loss in
      let split = among_both P loss s scope.spans (spans_in scopes) in
      (λ there. to_sides split.1 (parts.0 there), λ holds. parts.1 (from_sides split.0 holds))

-- the names of the scope of the last span, behind scopes
abbrev pub names_after : Option Names → List Scope → Option Names
names_after names [] = names
names_after names (scope ∷ scopes) = names_after (names_behind names scope) scopes

pub record IsScope (c : ℕ) (names : Option Names) (scopes : List Scope) (loss : Loss) : Type 0 where
  pub before : List Scope
  pub scope : Scope
  pub others : List Scope
  pub split : scopes ≡ before ++ scope ∷ others
  pub n : ℕ
  pub number : n ≡ c + length before
  pub place : loss.place ≡ places.Scope n
  pub such : OfScope scope (joins (names_after names before) scope ≡ true) loss.row loss.key

module _ (loss : Loss) where
  pub scope_of : (c : ℕ) (names : Option Names) (scopes : List Scope) → AmongScopes c names scopes loss → IsScope c names scopes loss
  scope_of c names [] among = absurd among
  scope_of c names (scope ∷ scopes) (inl its) =
      record { before = []; scope = scope; others = scopes; split = refl; n = c; number = omega arith; place = its.0; such = its.1 }
  scope_of c names (scope ∷ scopes) (inr more) =
      let rest = scope_of (suc c) (names_behind names scope) scopes more in
      record {
        before = scope ∷ rest.before;
        scope = rest.scope;
        others = rest.others;
        split = ap (λ (l : List Scope). scope ∷ l) rest.split;
        n = rest.n;
        number = omega (arith, rest.number);
        place = rest.place;
        such = rest.such;
      }

  pub among_scope : (c : ℕ) (names : Option Names) (scopes : List Scope) → IsScope c names scopes loss → AmongScopes c names scopes loss
  among_scope c names scopes its = subst (λ (l : List Scope). AmongScopes c names l loss) (sym its.split) (by c names its.before its.number its.such)
    where
      by : (c : ℕ) (names : Option Names) (before : List Scope) → its.n ≡ c + length before
          → OfScope its.scope (joins (names_after names before) its.scope ≡ true) loss.row loss.key → AmongScopes c names (before ++ its.scope ∷ its.others) loss
      by c names [] number such = let number_is : its.n ≡ c = omega (arith, number) in inl (its.place ∙ ap places.Scope number_is, such)
      by c names (one ∷ before) number such = inr (by (suc c) (names_behind names one) before (omega (arith, number)) such)
