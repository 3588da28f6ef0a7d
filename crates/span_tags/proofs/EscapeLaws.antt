-- Attributes written under other keys, and read back: no reserved key is left, no two keys become one, what stands at a key stands at its
-- new one, and reading and writing undo each other. What needs it takes that no key behind the front is reserved.
use Rattle.std.proofs.Common.{◌≡◌, ℕ, ◌≤◌, zero, suc, Bool, true, false, cond, ◌&&◌, if◌then◌else◌, List, [], ◌∷◌, ◌++◌, length, take, drop, All, Some, None, is_some, refl, sym, ap, ◌∙◌, subst, true≢false, arith, length-append, length-drop}
use Rattle.std.specs.List.{AllByRecursion, list_any}
use Rattle.std.specs.Prelude.{◌||◌}
use Rattle.std.specs.Option.{option_or}
use Rattle.std.specs.Str.{bytes_eq}
use Rattle.std.proofs.lemmas.List.{take-append-drop}
use Rattle.std.proofs.lemmas.List.Elements.{All-nil, All-cons, All-map, recursion_from_All}
use Rattle.trace_model.specs.Attributes.{Rise, keys, attrs, at}
use Rattle.span_tags.proofs.AttributeLaws.{same_key, key_itself, last_at, at_attrs, last_at-rising, attrs_rise, attrs_itself, same_pairs, all_attrs, on_values, map_attrs}
use Rattle.span_tags.specs.Escapes.{front, has_front, base_within, base, rekeyed, is_touched, esc, is_escaped, unesc, escaped, unescaped, IsApart}
use Rattle.trace_model.specs.declared.value.Value.{Value}
use Rattle.span_tags.specs.TagWords.{Pairs}

-- ---- the front

pub front_split : (k : List ℕ) → has_front k ≡ true → k ≡ front ++ drop 10 k
front_split k e = sym (take-append-drop 10 k) ∙ ap (λ t. t ++ drop 10 k) (same_key (take 10 k) front e)

drop_shorter : (n : ℕ) (k : List ℕ) → length k ≤ suc n → length (drop 10 k) ≤ n
drop_shorter n k le = let e = length-drop 10 k in omega (arith, e, le)

base_enough : (n m : ℕ) (k : List ℕ) → length k ≤ n → length k ≤ m → base_within n k ≡ base_within m k
base_enough zero zero k le_n le_m = refl
base_enough zero (suc m) [] le_n le_m = refl
base_enough zero (suc m) (x ∷ k) le_n le_m = absurd (omega (arith, le_n))
base_enough (suc n) zero [] le_n le_m = refl
base_enough (suc n) zero (x ∷ k) le_n le_m = absurd (omega (arith, le_m))
base_enough (suc n) (suc m) k le_n le_m =
    ap (λ rest. if has_front k then rest else k) (base_enough n m (drop 10 k) (drop_shorter n k le_n) (drop_shorter m k le_m))

pub base_front : (k : List ℕ) → base (front ++ k) ≡ base k
base_front k =
    let n = length (front ++ k) in
    let e = length-append front k in
    base_enough n (suc n) (front ++ k) (omega arith) (omega arith) ∙ base_enough n (length k) k (omega (arith, e)) (omega arith)

plain_within : (n : ℕ) (k : List ℕ) → has_front k ≡ false → base_within n k ≡ k
plain_within zero k e = refl
plain_within (suc n) k e = ap (λ b. if b then base_within n (drop 10 k) else k) e

pub base_plain : (k : List ℕ) → has_front k ≡ false → base k ≡ k
base_plain k e = plain_within (length k) k e

pub base_behind : (k : List ℕ) → has_front k ≡ true → base (drop 10 k) ≡ base k
base_behind k e = sym (base_front (drop 10 k)) ∙ ap base (sym (front_split k e))

-- ---- other keys

pub equal_if : (k q k_new q_new : List ℕ) → (k ≡ q → k_new ≡ q_new) → (k_new ≡ q_new → k ≡ q) → bytes_eq k q ≡ bytes_eq k_new q_new
equal_if k q k_new q_new to from = by (bytes_eq k q) (bytes_eq k_new q_new) refl refl
  where
    by : (a b : Bool) → bytes_eq k q ≡ a → bytes_eq k_new q_new ≡ b → a ≡ b
    by true true e f = refl
    by true false e f = absurd (true≢false (sym (key_itself k_new) ∙ ap (bytes_eq k_new) (to (same_key k q e)) ∙ f))
    by false true e f = absurd (true≢false (sym (key_itself k) ∙ ap (bytes_eq k) (from (same_key k_new q_new f)) ∙ e))
    by false false e f = refl

-- what stands last at a key stands so at another after it
last_moved : (f : List ℕ → List ℕ) (k k_old : List ℕ) (l : Pairs) → AllByRecursion (λ q. bytes_eq k (f q) ≡ bytes_eq k_old q) (keys l)
    → last_at k (rekeyed f l) ≡ last_at k_old l
last_moved f k k_old [] all = refl
last_moved f k k_old (p ∷ l) all = λ i. option_or (last_moved f k k_old l all.1 i) (cond (all.0 i) (Some p.1) None)

last_none : (f : List ℕ → List ℕ) (k : List ℕ) → ((q : List ℕ) → bytes_eq k (f q) ≡ false) → (l : Pairs) → last_at k (rekeyed f l) ≡ None
last_none f k apart [] = refl
last_none f k apart (p ∷ l) = λ i. option_or (last_none f k apart l i) (cond (apart p.0 i) (Some p.1) None)

every_key : (P : List ℕ → Type 0) → ((q : List ℕ) → P q) → (ks : List (List ℕ)) → AllByRecursion P ks
every_key P each [] = tt
every_key P each (k ∷ ks) = (each k, every_key P each ks)

same_keys : (f : List ℕ → List ℕ) (l : Pairs) → AllByRecursion (λ q. f q ≡ q) (keys l) → rekeyed f l ≡ l
same_keys f [] all = refl
same_keys f (p ∷ l) all = λ i. (all.0 i, p.1) ∷ same_keys f l all.1 i

values_rekeyed : (f : List ℕ → List ℕ) (g : Value → Value) (l : Pairs) → on_values g (rekeyed f l) ≡ rekeyed f (on_values g l)
values_rekeyed f g [] = refl
values_rekeyed f g (p ∷ l) = ap (λ rest. (f p.0, g p.1) ∷ rest) (values_rekeyed f g l)

-- where no key passes the test
pub no_key : (test : List ℕ → Bool) (l : Pairs) → list_any (λ pair. test pair.0) l ≡ false → All (λ k. test k ≡ false) (keys l)
no_key test [] e = All-nil (λ k. test k ≡ false)
no_key test (p ∷ l) e = by (no_key test l) (test p.0) refl e
  where
    by : (list_any (λ pair. test pair.0) l ≡ false → All (λ k. test k ≡ false) (keys l)) → (b : Bool) → test p.0 ≡ b
        → (b || list_any (λ pair. test pair.0) l) ≡ false → All (λ k. test k ≡ false) (keys (p ∷ l))
    by rest true here none = absurd (true≢false none)
    by rest false here none = All-cons (λ k. test k ≡ false) p.0 (keys l) here (rest none)

module _ (is_reserved : List ℕ → Bool) where
  abbrev Touched : List ℕ → Bool
  Touched = is_touched is_reserved

  esc_when : (k : List ℕ) (b : Bool) → Touched k ≡ b → esc is_reserved k ≡ (if b then front ++ k else k)
  esc_when k b e = ap (λ b. if b then front ++ k else k) e

  unesc_when : (k : List ℕ) (b : Bool) → is_escaped is_reserved k ≡ b → unesc is_reserved k ≡ (if b then drop 10 k else k)
  unesc_when k b e = ap (λ b. if b then drop 10 k else k) e

  pub esc_untouched : (k : List ℕ) → is_touched is_reserved k ≡ false → esc is_reserved k ≡ k
  esc_untouched k e = esc_when k false e

  -- a key behind the front is touched where it is
  pub touched_behind : (k : List ℕ) → Touched (front ++ k) ≡ Touched k
  touched_behind k = ap is_reserved (base_front k)

  not_escaped : (k : List ℕ) → Touched k ≡ false → is_escaped is_reserved k ≡ false
  not_escaped k e = by (has_front k)
    where
      by : (b : Bool) → (b && Touched k) ≡ false
      by true = e
      by false = refl

  pub unesc_untouched : (k : List ℕ) → is_touched is_reserved k ≡ false → unesc is_reserved k ≡ k
  unesc_untouched k e = unesc_when k false (not_escaped k e)

  pub unesc_esc : (k : List ℕ) → unesc is_reserved (esc is_reserved k) ≡ k
  unesc_esc k = by (Touched k) refl
    where
      by : (b : Bool) → Touched k ≡ b → unesc is_reserved (esc is_reserved k) ≡ k
      by true e = ap (unesc is_reserved) (esc_when k true e) ∙ unesc_when (front ++ k) true (touched_behind k ∙ e)
      by false e = ap (unesc is_reserved) (esc_when k false e) ∙ unesc_untouched k e

  pub esc_injective : (a b : List ℕ) → esc is_reserved a ≡ esc is_reserved b → a ≡ b
  esc_injective a b e = sym (unesc_esc a) ∙ ap (unesc is_reserved) e ∙ unesc_esc b

  pub esc_unesc : (k : List ℕ) → is_reserved k ≡ false → esc is_reserved (unesc is_reserved k) ≡ k
  esc_unesc k free = by (Touched k) (has_front k) refl refl
    where
      by : (t f : Bool) → Touched k ≡ t → has_front k ≡ f → esc is_reserved (unesc is_reserved k) ≡ k
      by true true e f =
          let split = front_split k f in
          let touched : Touched (drop 10 k) ≡ true = sym (touched_behind (drop 10 k)) ∙ ap Touched (sym split) ∙ e in
          ap (esc is_reserved) (unesc_when k true (λ i. f i && e i)) ∙ esc_when (drop 10 k) true touched ∙ sym split
      by true false e f = absurd (true≢false (sym e ∙ ap is_reserved (base_plain k f) ∙ free))
      by false f e h = ap (esc is_reserved) (unesc_untouched k e) ∙ esc_when k false e

  -- ---- values

  pub escaped_rise : (P : Pairs) → Rise (keys (escaped is_reserved P))
  escaped_rise P = attrs_rise (rekeyed (esc is_reserved) P)

  pub unescaped_rise : (T : Pairs) → Rise (keys (unescaped is_reserved T))
  unescaped_rise T = attrs_rise (rekeyed (unesc is_reserved) T)

  pub escaped_values : (f : Value → Value) (P : Pairs) → on_values f (escaped is_reserved P) ≡ escaped is_reserved (on_values f P)
  escaped_values f P = map_attrs f (rekeyed (esc is_reserved) P) ∙ ap attrs (values_rekeyed (esc is_reserved) f P)

  -- what holds of each pair under its new key holds of all
  pub escaped_all : (Q : List ℕ × Value → Type 0) (P : Pairs) → All (λ pair. Q (esc is_reserved pair.0, pair.1)) P → All Q (escaped is_reserved P)
  escaped_all Q P all = all_attrs Q (rekeyed (esc is_reserved) P) (All-map Q (λ pair. (esc is_reserved pair.0, pair.1)) P all)

  pub unescaped_all : (Q : List ℕ × Value → Type 0) (T : Pairs) → All (λ pair. Q (unesc is_reserved pair.0, pair.1)) T → All Q (unescaped is_reserved T)
  unescaped_all Q T all = all_attrs Q (rekeyed (unesc is_reserved) T) (All-map Q (λ pair. (unesc is_reserved pair.0, pair.1)) T all)

  pub esc_holds : (Q : List ℕ → Type 0) → ((k : List ℕ) → Q k → Q (front ++ k)) → (k : List ℕ) → Q k → Q (esc is_reserved k)
  esc_holds Q more k h = by (Touched k)
    where
      by : (b : Bool) → Q (if b then front ++ k else k)
      by true = more k h
      by false = h

  pub unesc_holds : (Q : List ℕ → Type 0) → ((k : List ℕ) → Q (front ++ k) → Q k) → (k : List ℕ) → Q k → Q (unesc is_reserved k)
  unesc_holds Q less k h = by (has_front k) (Touched k) refl
    where
      by : (f t : Bool) → has_front k ≡ f → Q (if f && t then drop 10 k else k)
      by true true e = less (drop 10 k) (subst Q (front_split k e) h)
      by true false e = h
      by false t e = h

  -- ---- what stays

  all_same : (P : List ℕ → Type 0) (Q : List ℕ → Type 0) → ((k : List ℕ) → P k → Q k) → (ks : List (List ℕ)) → AllByRecursion P ks → AllByRecursion Q ks
  all_same P Q each [] all = tt
  all_same P Q each (k ∷ ks) all = (each k all.0, all_same P Q each ks all.1)

  pub escaped_same : (P : Pairs) → Rise (keys P) → All (λ k. is_touched is_reserved k ≡ false) (keys P) → escaped is_reserved P ≡ P
  escaped_same P up all =
      ap attrs (same_keys (esc is_reserved) P (all_same (λ k. Touched k ≡ false) (λ k. esc is_reserved k ≡ k) esc_untouched (keys P)
      (recursion_from_All (λ k. Touched k ≡ false) (keys P) all)))
      ∙ attrs_itself P up

  pub unescaped_same : (T : Pairs) → Rise (keys T) → All (λ k. is_escaped is_reserved k ≡ false) (keys T) → unescaped is_reserved T ≡ T
  unescaped_same T up all =
      ap attrs (same_keys (unesc is_reserved) T (all_same (λ k. is_escaped is_reserved k ≡ false) (λ k. unesc is_reserved k ≡ k) (λ k e. unesc_when k false e) (keys T)
      (recursion_from_All (λ k. is_escaped is_reserved k ≡ false) (keys T) all)))
      ∙ attrs_itself T up

  -- ---- look-ups

  pub last_escaped : (P : Pairs) (k : List ℕ) → last_at (esc is_reserved k) (rekeyed (esc is_reserved) P) ≡ last_at k P
  last_escaped P k = last_moved (esc is_reserved) (esc is_reserved k) k P
      (every_key (λ q. bytes_eq (esc is_reserved k) (esc is_reserved q) ≡ bytes_eq k q)
      (λ q. equal_if (esc is_reserved k) (esc is_reserved q) k q (esc_injective k q) (ap (esc is_reserved))) (keys P))

  pub at_esc : (P : Pairs) (k : List ℕ) → Rise (keys P) → at (esc is_reserved k) (escaped is_reserved P) ≡ at k P
  at_esc P k up =
      at_attrs (esc is_reserved k) (rekeyed (esc is_reserved) P)
      ∙ last_escaped P k
      ∙ last_at-rising k P up

  pub at_untouched : (P : Pairs) (k : List ℕ) → Rise (keys P) → is_touched is_reserved k ≡ false → at k (escaped is_reserved P) ≡ at k P
  at_untouched P k up e = ap (λ q. at q (escaped is_reserved P)) (sym (esc_untouched k e)) ∙ at_esc P k up

  -- no tag stands under a reserved key
  abbrev pub NoneReserved : Pairs → Type 0
  NoneReserved T = (k : List ℕ) → is_reserved k ≡ true → at k T ≡ None

  abbrev Free : List ℕ → Type 0
  Free q = is_reserved q ≡ false

  all_free : (T : Pairs) → NoneReserved T → AllByRecursion Free (keys T)
  all_free [] none = tt
  all_free (p ∷ l) none = (first (is_reserved p.0) refl, all_free l (λ k e. behind k (bytes_eq k p.0) refl (none k e)))
    where
      first : (b : Bool) → is_reserved p.0 ≡ b → b ≡ false
      first true e = absurd (true≢false (ap is_some (ap (λ b. cond b (Some p.1) (at p.0 l)) (sym (key_itself p.0)) ∙ none p.0 e)))
      first false e = refl

      behind : (k : List ℕ) (b : Bool) → bytes_eq k p.0 ≡ b → cond b (Some p.1) (at k l) ≡ None → at k l ≡ None
      behind k true e is_none = absurd (true≢false (ap is_some is_none))
      behind k false e is_none = is_none

  pub last_unescaped : (T : Pairs) (k : List ℕ) → NoneReserved T → last_at k (rekeyed (unesc is_reserved) T) ≡ last_at (esc is_reserved k) T
  last_unescaped T k none = last_moved (unesc is_reserved) k (esc is_reserved k) T
      (all_same Free (λ q. bytes_eq k (unesc is_reserved q) ≡ bytes_eq (esc is_reserved k) q)
      (λ q free. equal_if k (unesc is_reserved q) (esc is_reserved k) q
      (λ e. ap (esc is_reserved) e ∙ esc_unesc q free) (λ e. sym (unesc_esc k) ∙ ap (unesc is_reserved) e)) (keys T) (all_free T none))

  pub at_unescaped : (T : Pairs) (k : List ℕ) → Rise (keys T) → NoneReserved T → at k (unescaped is_reserved T) ≡ at (esc is_reserved k) T
  at_unescaped T k up none =
      at_attrs k (rekeyed (unesc is_reserved) T)
      ∙ last_unescaped T k none
      ∙ last_at-rising (esc is_reserved k) T up

  -- ---- where no key behind the front is reserved

  module _ (apart : IsApart is_reserved) where
    -- a reserved key has no copy of the front
    reserved_plain : (k : List ℕ) → is_reserved k ≡ true → has_front k ≡ false
    reserved_plain k e = by (has_front k) refl
      where
        by : (b : Bool) → has_front k ≡ b → b ≡ false
        by true f = absurd (true≢false (sym e ∙ ap is_reserved (front_split k f) ∙ apart (drop 10 k)))
        by false f = refl

    pub touched_reserved : (k : List ℕ) → is_reserved k ≡ true → is_touched is_reserved k ≡ true
    touched_reserved k e = ap is_reserved (base_plain k (reserved_plain k e)) ∙ e

    pub esc_free : (k : List ℕ) → is_reserved (esc is_reserved k) ≡ false
    esc_free k = by (Touched k) (is_reserved k) refl refl
      where
        by : (t r : Bool) → Touched k ≡ t → is_reserved k ≡ r → is_reserved (esc is_reserved k) ≡ false
        by true r e f = ap is_reserved (esc_when k true e) ∙ apart k
        by false true e f = absurd (true≢false (sym (touched_reserved k f) ∙ e))
        by false false e f = ap is_reserved (esc_when k false e) ∙ f

    pub at_reserved : (P : Pairs) → NoneReserved (escaped is_reserved P)
    at_reserved P k e = at_attrs k (rekeyed (esc is_reserved) P) ∙ last_none (esc is_reserved) k (λ q. other q (bytes_eq k (esc is_reserved q)) refl) P
      where
        other : (q : List ℕ) (b : Bool) → bytes_eq k (esc is_reserved q) ≡ b → b ≡ false
        other q true same = absurd (true≢false (sym e ∙ ap is_reserved (same_key k (esc is_reserved q) same) ∙ esc_free q))
        other q false differs = refl

    pub unescaped_escaped : (P : Pairs) → Rise (keys P) → unescaped is_reserved (escaped is_reserved P) ≡ P
    unescaped_escaped P up = same_pairs (unescaped is_reserved (escaped is_reserved P)) P (unescaped_rise (escaped is_reserved P)) up
        (λ k. at_unescaped (escaped is_reserved P) k (escaped_rise P) (at_reserved P) ∙ at_esc P k up)

    pub escaped_unescaped : (T : Pairs) → Rise (keys T) → NoneReserved T → escaped is_reserved (unescaped is_reserved T) ≡ T
    escaped_unescaped T up none = same_pairs (escaped is_reserved (unescaped is_reserved T)) T (escaped_rise (unescaped is_reserved T)) up (λ k. by k (is_reserved k) refl)
      where
        by : (k : List ℕ) (b : Bool) → is_reserved k ≡ b → at k (escaped is_reserved (unescaped is_reserved T)) ≡ at k T
        by k true e = at_reserved (unescaped is_reserved T) k e ∙ sym (none k e)
        by k false e =
            ap (λ q. at q (escaped is_reserved (unescaped is_reserved T))) (sym (esc_unesc k e))
            ∙ at_esc (unescaped is_reserved T) (unesc is_reserved k) (unescaped_rise T)
            ∙ at_unescaped T (unesc is_reserved k) up none
            ∙ ap (λ q. at q T) (esc_unesc k e)
