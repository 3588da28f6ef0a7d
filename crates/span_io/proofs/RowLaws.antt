-- What is known of rows that are singular or repeated: what they mean, how they offend, and what a reader gathers of them. Rows of every
-- wire format cite these.
use Rattle.std.proofs.Common.{◌≡◌, ℕ, ◌<◌, ◌≤◌, ◌⊎◌, inl, inr, List, [], ◌∷◌, ◌++◌, Bool, true, false, Option, Some, None, refl, sym, subst, ◌∙◌, arith}
use Rattle.std.specs.Prelude.{◌↔◌, IsNone, IsUtf8}
use Rattle.std.specs.List.{AllZip}
use Rattle.std.specs.Option.{unwrap_or}
use Rattle.std.specs.Str.{is_utf8}
use Rattle.std.proofs.lemmas.Bool.{cases_lt}
use Rattle.std.proofs.lemmas.Str.{IsUtf8-from_is_utf8, is_utf8-from_IsUtf8}
use Rattle.span_io.specs.Causes.{cause_number}
use Rattle.span_io.specs.declared.cause.Cause.{Cause}
use Rattle.span_io.specs.declared.cause.Cause.TheVariants as causes
use Rattle.span_io.specs.RowsSoFar.{Gave}
use Rattle.span_io.proofs.TableDecisions.{DecidedHere, Clean}
use Rattle.span_io.specs.Tables.{Row, Singular, Twice, MeansText, NotText, Above}

-- ---- lists that are related thing by thing

pub all_zip_append : {A B : Type 0} (R : A → B → Type 0) (xs more : List A) (ys others : List B) → AllZip R xs ys → AllZip R more others → AllZip R (xs ++ more) (ys ++ others)
all_zip_append R [] more [] others each rest = rest
all_zip_append R [] more (y ∷ ys) others each rest = absurd each
all_zip_append R (x ∷ xs) more [] others each rest = absurd each
all_zip_append R (x ∷ xs) more (y ∷ ys) others each rest = (each.0, all_zip_append R xs more ys others each.1 rest)

-- one more
pub all_zip_push : {A B : Type 0} (R : A → B → Type 0) (xs : List A) (ys : List B) (x : A) (y : B) → AllZip R xs ys → R x y → AllZip R (xs ++ x ∷ []) (ys ++ y ∷ [])
all_zip_push R xs ys x y each is = all_zip_append R xs (x ∷ []) ys (y ∷ []) each (is, tt)

pub all_zip_equal : {A : Type 0} (xs ys : List A) → AllZip (λ x y. x ≡ y) xs ys → xs ≡ ys
all_zip_equal [] [] each = refl
all_zip_equal [] (y ∷ ys) each = absurd each
all_zip_equal (x ∷ xs) [] each = absurd each
all_zip_equal (x ∷ xs) (y ∷ ys) each = let first = each.0 in let others = all_zip_equal xs ys each.1 in λ i. first i ∷ others i

pub all_zip_self : {A : Type 0} (R : A → A → Type 0) → ((x : A) → R x x) → (xs : List A) → AllZip R xs xs
all_zip_self R self [] = tt
all_zip_self R self (x ∷ xs) = (self x, all_zip_self R self xs)

pub all_zip_split : {A B : Type 0} (R : A → B → Type 0) (front back : List A) (held : A) (values : List B) → AllZip R (front ++ held ∷ back) values → (x : B) × R held x
all_zip_split R [] back held [] h = absurd h
all_zip_split R [] back held (x ∷ values) h = (x, h.0)
all_zip_split R (one ∷ front) back held [] h = absurd h
all_zip_split R (one ∷ front) back held (x ∷ values) h = all_zip_split R front back held values h.1

pub all_zip_once : {A B : Type 0} (R : A → B → Type 0) → ((held : A) (x y : B) → R held x → R held y → x ≡ y) → (held : List A) (xs ys : List B) → AllZip R held xs → AllZip R held ys → xs ≡ ys
all_zip_once R one [] [] [] a b = refl
all_zip_once R one [] (x ∷ xs) ys a b = absurd a
all_zip_once R one [] [] (y ∷ ys) a b = absurd b
all_zip_once R one (held ∷ more) [] ys a b = absurd a
all_zip_once R one (held ∷ more) (x ∷ xs) [] a b = absurd b
all_zip_once R one (held ∷ more) (x ∷ xs) (y ∷ ys) a b =
    let head : x ≡ y = one held x y a.0 b.0 in
    let rest : xs ≡ ys = all_zip_once R one more xs ys a.1 b.1 in
    cc

-- none stands on one side where none stands on the other
all_zip_none : {A B : Type 0} (R : A → B → Type 0) (xs : List A) (ys : List B) → AllZip R xs ys → (xs ≡ []) ↔ (ys ≡ [])
all_zip_none R [] [] each = (λ none. refl, λ none. refl)
all_zip_none R [] (y ∷ ys) each = absurd each
all_zip_none R (x ∷ xs) [] each = absurd each
all_zip_none R (x ∷ xs) (y ∷ ys) each = (λ none. cc, λ none. cc)

-- ---- what rows mean

pub singular_split : {A B : Type 0} (Means : A → B → Type 0) (IsDefault : B → Type 0) (front back : List A) (held : A) (value : B) → Singular Means IsDefault (front ++ held ∷ back) value → (front ≡ []) × Means held value
singular_split Means IsDefault [] [] held value h = (refl, h)
singular_split Means IsDefault [] (other ∷ back) held value h = absurd h
singular_split Means IsDefault (one ∷ []) back held value h = absurd h
singular_split Means IsDefault (one ∷ other ∷ front) back held value h = absurd h

pub singular_once : {A B : Type 0} (Means : A → B → Type 0) (absent : B) → ((held : A) (x y : B) → Means held x → Means held y → x ≡ y) → (xs : List A) (x y : B)
    → Singular Means (λ z. z ≡ absent) xs x → Singular Means (λ z. z ≡ absent) xs y → x ≡ y
singular_once Means absent one [] x y a b = a ∙ sym b
singular_once Means absent one (held ∷ []) x y a b = one held x y a b
singular_once Means absent one (held ∷ other ∷ more) x y a b = absurd a

-- a second item of a singular row, or one that means nothing
pub singular_fine : {A B : Type 0} (Means : A → B → Type 0) (absent : B) (Wrong : A → ℕ → Type 0) → ((x : A) (v : B) → Means x v → (n : ℕ) → Wrong x n → ⊥)
    → (front back : List A) (x : A) (value : B) → Singular Means (λ z. z ≡ absent) (front ++ x ∷ back) value → (n : ℕ) → Twice front n ⊎ Wrong x n → ⊥
singular_fine Means absent Wrong right front back x value is n (inl twice) = twice.1 (singular_split Means (λ z. z ≡ absent) front back x value is).0
singular_fine Means absent Wrong right front back x value is n (inr wrong) = right x value (singular_split Means (λ z. z ≡ absent) front back x value is).1 n wrong

-- of a singular row whose item means something where it isn't wrong
pub singular_exists : {Item : Type 0} (row : Row Item) (Means : row.Given → row.Value → Type 0) (absent : row.Value) (Wrong : row.Given → ℕ → Type 0)
    → ((earlier : List row.Given) (x : row.Given) (n : ℕ) → Twice earlier n ⊎ Wrong x n → row.here earlier x n) → ((xs : List row.Given) (v : row.Value) → Singular Means (λ z. z ≡ absent) xs v → row.Means xs v)
    → ((x : row.Given) → ((n : ℕ) → Wrong x n → ⊥) → ((p n : ℕ) → row.inside x p n → ⊥) → (v : row.Value) × Means x v) → (xs : List row.Given) → Clean row [] xs → (v : row.Value) × row.Means xs v
singular_exists row Means absent Wrong wrong_here is some [] clean = (absent, is [] absent refl)
singular_exists row Means absent Wrong wrong_here is some (x ∷ []) clean =
    let found = some x (λ n wrong. clean.0 n (wrong_here [] x n (inr wrong))) clean.1 in
    (found.0, is (x ∷ []) found.0 found.1)
singular_exists row Means absent Wrong wrong_here is some (x ∷ y ∷ more) clean = absurd (clean.2.0 7 (wrong_here (x ∷ []) y 7 (inl (refl, λ e. cc))))

-- an enum, whose values have numbers of their own, and none above the last
pub record EnumLaws (E : Type 0) (number_of : E → ℕ) (last : ℕ) : Type 0 where
  pub same : (a b : E) → number_of a ≡ number_of b → a ≡ b
  pub within : (e : E) → (n : ℕ) → last < number_of e → ⊥

-- ---- whether something offends in them

-- the first of equal rows, or what is wrong with it
pub twice_or : {A : Type 0} (earlier : List A) (Wrong : ℕ → Type 0) → ((m : ℕ) → Wrong m → 7 ≤ m) → DecidedHere Wrong → DecidedHere (λ n. Twice earlier n ⊎ Wrong n)
twice_or {A} [] Wrong above (inl none) = inl of
  where
    of : (n : ℕ) → Twice {A = A} [] n ⊎ Wrong n → ⊥
    of n (inl twice) = twice.1 refl
    of n (inr wrong) = none n wrong
twice_or {A} [] Wrong above (inr (cause, wrong, first)) = inr (cause, inr wrong, of)
  where
    of : (m : ℕ) → Twice {A = A} [] m ⊎ Wrong m → cause_number cause ≤ m
    of m (inl twice) = absurd (twice.1 refl)
    of m (inr other) = first m other
twice_or {A} (x ∷ more) Wrong above decided = inr (causes.FieldTwice, inl (refl, λ e. cc), of)
  where
    of : (m : ℕ) → Twice (x ∷ more) m ⊎ Wrong m → 7 ≤ m
    of m (inl twice) = omega (arith, twice.0)
    of m (inr wrong) = above m wrong

pub twice_only : {A : Type 0} (earlier : List A) → DecidedHere (λ n. Twice earlier n)
twice_only [] = inl (λ n twice. twice.1 refl)
twice_only (x ∷ more) = inr (causes.FieldTwice, (refl, λ e. cc), λ m twice. omega (arith, twice.0))

-- a number that stands under a condition
pub one_number : (cause : Cause) (P : Type 0) → P ⊎ (P → ⊥) → DecidedHere (λ n. (n ≡ cause_number cause) × P)
one_number cause P (inl p) = inr (cause, (refl, p), λ m h. omega (arith, h.0))
one_number cause P (inr none) = inl (λ n h. none h.1)

pub utf8_or : (held : List ℕ) → IsUtf8 held ⊎ (IsUtf8 held → ⊥)
utf8_or held = of (is_utf8 held) refl
  where
    of : (b : Bool) → is_utf8 held ≡ b → IsUtf8 held ⊎ (IsUtf8 held → ⊥)
    of true e = inl (IsUtf8-from_is_utf8 held e)
    of false e = inr (λ utf8. let never : true ≡ false = sym (is_utf8-from_IsUtf8 held utf8) ∙ e in cc)

turned : {P : Type 0} → P ⊎ (P → ⊥) → (P → ⊥) ⊎ ((P → ⊥) → ⊥)
turned (inl p) = inr (λ none. none p)
turned (inr none) = inl none

pub not_text : (held : List ℕ) → DecidedHere (λ n. NotText held n)
not_text held = one_number causes.NotText (IsUtf8 held → ⊥) (turned (utf8_or held))

-- bytes that aren't NotText are a text
pub some_text : (held : List ℕ) → ((n : ℕ) → NotText held n → ⊥) → MeansText held held
some_text held right = of (utf8_or held)
  where
    of : IsUtf8 held ⊎ (IsUtf8 held → ⊥) → MeansText held held
    of (inl utf8) = (utf8, refl)
    of (inr not) = absurd (right 9 (refl, not))

pub above_or : (last k : ℕ) → DecidedHere (λ n. Above last k n)
above_or last k = of (cases_lt last k)
  where
    of : (last < k) ⊎ (k ≤ last) → DecidedHere (λ n. Above last k n)
    of (inl high) = inr (causes.BadEnum, (refl, high), λ m wrong. omega (arith, wrong.0))
    of (inr low) = inl (λ n wrong. omega (arith, wrong.1))

pub not_above : (last k : ℕ) → ((n : ℕ) → Above last k n → ⊥) → k ≤ last
not_above last k right = of (cases_lt last k)
  where
    of : (last < k) ⊎ (k ≤ last) → k ≤ last
    of (inl high) = absurd (right 13 (refl, high))
    of (inr low) = low

-- ---- what is added in the things of a row

module _ {A : Type 0} (Padded : A → A → Type 0) where
  pub same_twice : (xs ys : List A) → AllZip Padded xs ys → (n : ℕ) → Twice xs n ↔ Twice ys n
  same_twice xs ys each n =
      let none = all_zip_none Padded xs ys each in
      (λ twice. (twice.0, λ e. twice.1 (none.1 e)), λ twice. (twice.0, λ e. twice.1 (none.0 e)))

  module _ {B : Type 0} (Means : A → B → Type 0) (moves : (x y : A) → Padded x y → (v : B) → Means x v → Means y v) where
    pub singular_moves : (IsDefault : B → Type 0) (xs ys : List A) → AllZip Padded xs ys → (v : B) → Singular Means IsDefault xs v → Singular Means IsDefault ys v
    singular_moves IsDefault [] [] each v means = means
    singular_moves IsDefault [] (y ∷ ys) each v means = absurd each
    singular_moves IsDefault (x ∷ []) [] each v means = absurd each
    singular_moves IsDefault (x ∷ []) (y ∷ []) each v means = moves x y each.0 v means
    singular_moves IsDefault (x ∷ []) (y ∷ z ∷ ys) each v means = absurd each.1
    singular_moves IsDefault (x ∷ w ∷ xs) ys each v means = absurd means

    pub all_zip_moves : (xs ys : List A) → AllZip Padded xs ys → (vs : List B) → AllZip Means xs vs → AllZip Means ys vs
    all_zip_moves [] [] each vs means = means
    all_zip_moves [] (y ∷ ys) each vs means = absurd each
    all_zip_moves (x ∷ xs) [] each vs means = absurd each
    all_zip_moves (x ∷ xs) (y ∷ ys) each [] means = absurd means
    all_zip_moves (x ∷ xs) (y ∷ ys) each (v ∷ vs) means = (moves x y each.0 v means.0, all_zip_moves xs ys each.1 vs means.1)

-- ---- what a reader has gathered of a singular row

-- a row of which no item was seen has none twice
pub first_item : {A B : Type 0} (Means : A → B → Type 0) (earlier : List A) (row : Option B) → IsNone row → Gave Means earlier row → (m : ℕ) → Twice earlier m → ⊥
first_item Means [] None none gave m h = h.1 refl
first_item Means (held ∷ []) None none gave m h = absurd gave
first_item Means (held ∷ other ∷ more) None none gave m h = absurd gave
first_item Means earlier (Some value) none gave m h = cc

-- its value; where no item gave one it is the default
pub gave_or : {A B : Type 0} (Means : A → B → Type 0) (IsDefault : B → Type 0) (items : List A) (row : Option B) (default : B) → IsDefault default → Gave Means items row → Singular Means IsDefault items (unwrap_or row default)
gave_or Means IsDefault [] None default is gave = is
gave_or Means IsDefault [] (Some value) default is gave = absurd gave
gave_or Means IsDefault (held ∷ []) None default is gave = absurd gave
gave_or Means IsDefault (held ∷ []) (Some value) default is gave = gave
gave_or Means IsDefault (held ∷ other ∷ more) None default is gave = absurd gave
gave_or Means IsDefault (held ∷ other ∷ more) (Some value) default is gave = absurd gave

-- the same of an answer that is known to be that value
pub singular_or : {A B : Type 0} (Means : A → B → Type 0) (IsDefault : B → Type 0) (xs : List A) (row : Option B) (default value : B) → value ≡ unwrap_or row default → IsDefault default → Gave Means xs row
    → Singular Means IsDefault xs value
singular_or Means IsDefault xs row default value e is gave = subst (λ v. Singular Means IsDefault xs v) (sym e) (gave_or Means IsDefault xs row default is gave)
