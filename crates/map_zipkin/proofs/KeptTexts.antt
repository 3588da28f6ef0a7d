-- Attributes in normal form, pair by pair: where keys rise those that stay are the normal form, and where nothing of them is lost they stay.
use Rattle.std.proofs.Common.{◌≡◌, ℕ, suc, ◌≤◌, Bool, true, false, cond, List, [], ◌∷◌, ◌++◌, length, Option, Some, None, option_map, refl, sym, ap, ◌∙◌, true≢false, arith}
use Rattle.std.specs.Prelude.{not, ◌&&◌, if◌then◌else◌}
use Rattle.std.specs.Cmp.Lexicographic.{slice_cmp}
use Rattle.std.specs.List.{AllByRecursion}
use Rattle.std.specs.List.Sorted.{IsStrictlySortedBy}
use Rattle.std.specs.Ordering.{nat_cmp}
use Rattle.std.specs.Str.{bytes_eq}
use Rattle.std.specs.declared.cmp.Ordering.TheVariants.{Less}
use Rattle.trace_model.specs.Attributes.{Rise, keys, at}
use Rattle.trace_model.specs.ValueTexts.{value_text}
use Rattle.trace_model.specs.declared.value.Value.{Value, Text}
use Rattle.span_tags.proofs.AttributeLaws.{same_key, other_way, at_below, same_pairs}
use Rattle.span_tags.specs.Losses.{is_empty, is_text}
use Rattle.span_tags.proofs.QuietLaws.{same_parts}
use Rattle.span_tags.specs.TagWords.{Pairs, text_given, text_or_none}
use Rattle.map_zipkin.specs.Losses.{goes, changes}
use Rattle.map_zipkin.specs.private.LossWalks.{kept_text, kept_texts}
use Rattle.map_zipkin.specs.Normal.{normal_pairs}
use Rattle.map_zipkin.specs.Writing.{as_text}
use Rattle.map_zipkin.proofs.NormalPairs.{to_text, normal_at, normal_rise}

-- ---- their keys rise

all_kept : (P : List ℕ → Type 0) (key : List ℕ) (l : Pairs) → AllByRecursion P (keys l) → AllByRecursion P (keys (kept_texts key l))
all_kept P key [] all = tt
all_kept P key (pair ∷ l) all = by (goes key pair) (all_kept P key l all.1)
  where
    by : (b : Bool) → AllByRecursion P (keys (kept_texts key l)) → AllByRecursion P (keys ((if b then [] else as_text pair ∷ []) ++ kept_texts key l))
    by true rest = rest
    by false rest = (all.0, rest)

kept_rise : (key : List ℕ) (l : Pairs) → Rise (keys l) → Rise (keys (kept_texts key l))
unfolding IsStrictlySortedBy
kept_rise key [] up = tt
kept_rise key (pair ∷ l) up = by (goes key pair) (kept_rise key l up.1)
  where
    by : (b : Bool) → Rise (keys (kept_texts key l)) → Rise (keys ((if b then [] else as_text pair ∷ []) ++ kept_texts key l))
    by true rest = rest
    by false rest = (all_kept (λ k. slice_cmp nat_cmp pair.0 k ≡ Less) key l up.0, rest)

-- ---- what stands at a key

-- what becomes of the value at a key, and of that at the one key
abbrev made_of : Bool → Option Value → Option Value → Option Value
made_of is one value = cond is (text_given (text_or_none one)) (option_map to_text value)

empty_text : (text : List ℕ) → is_empty text ≡ true → text_given text ≡ None
empty_text [] e = refl
empty_text (x ∷ more) e = absurd (true≢false (sym e))

some_text : (text : List ℕ) → is_empty text ≡ false → text_given text ≡ Some (Text text)
some_text [] e = absurd (true≢false e)
some_text (x ∷ more) e = refl

module _ (k key : List ℕ) (pair : List ℕ × Value) (l : Pairs) where
  -- it goes, and its key doesn't stand behind it
  gone : (key_is here : Bool) → bytes_eq key k ≡ key_is → bytes_eq k pair.0 ≡ here → key ≡ pair.0 → is_empty (value_text pair.1) ≡ true
      → at pair.0 l ≡ None → made_of key_is (at key l) (at k l) ≡ made_of key_is (Some pair.1) (cond here (Some pair.1) (at k l))
  gone true here key_same there one empty none =
      ap (λ (o : Option Value). text_given (text_or_none o)) (ap (λ q. at q l) one ∙ none) ∙ sym (empty_text (value_text pair.1) empty)
  gone false true apart there one empty none =
      absurd (true≢false (sym there ∙ ap (bytes_eq k) (sym one) ∙ other_way key k apart))
  gone false false apart there one empty none = refl

  -- it stays
  kept : (one key_is here : Bool) → bytes_eq key pair.0 ≡ one → bytes_eq key k ≡ key_is → bytes_eq k pair.0 ≡ here → (one && is_empty (value_text pair.1)) ≡ false
      → cond here (Some (to_text pair.1)) (made_of key_is (at key l) (at k l)) ≡ made_of key_is (cond one (Some pair.1) (at key l)) (cond here (Some pair.1) (at k l))
  kept true true true is same there some = sym (some_text (value_text pair.1) some)
  kept false true true is same there some =
      absurd (true≢false (sym same ∙ ap (bytes_eq key) (same_key k pair.0 there) ∙ is))
  kept one false true is same there some = refl
  kept true true false is same there some =
      absurd (true≢false (sym is ∙ ap (λ q. bytes_eq q pair.0) (same_key key k same) ∙ there))
  kept false true false is same there some = refl
  kept one false false is same there some = refl

both_true : (a b : Bool) → (a && b) ≡ true → (a ≡ true) × (b ≡ true)
both_true true b e = (refl, e)
both_true false b e = absurd (true≢false (sym e))

at_kept : (k key : List ℕ) (l : Pairs) → Rise (keys l) → at k (kept_texts key l) ≡ made_of (bytes_eq key k) (at key l) (at k l)
unfolding IsStrictlySortedBy
at_kept k key [] up = by (bytes_eq key k)
  where
    by : (b : Bool) → None ≡ made_of b None None
    by true = refl
    by false = refl
at_kept k key (pair ∷ l) up = by (goes key pair) refl (at_kept k key l up.1)
  where
    by : (b : Bool) → goes key pair ≡ b → at k (kept_texts key l) ≡ made_of (bytes_eq key k) (at key l) (at k l)
        → at k ((if b then [] else as_text pair ∷ []) ++ kept_texts key l) ≡ made_of (bytes_eq key k) (at key (pair ∷ l)) (at k (pair ∷ l))
    by true e rest =
        let parts = both_true (bytes_eq key pair.0) (is_empty (value_text pair.1)) e in
        rest
        ∙ gone k key pair l (bytes_eq key k) (bytes_eq k pair.0) refl refl (same_key key pair.0 parts.0) parts.1 (at_below pair.0 l up.0)
        ∙ ap (λ (b : Bool). made_of (bytes_eq key k) (cond b (Some pair.1) (at key l)) (at k (pair ∷ l))) (sym parts.0)
    by false e rest =
        ap (cond (bytes_eq k pair.0) (Some (to_text pair.1))) rest
        ∙ kept k key pair l (bytes_eq key pair.0) (bytes_eq key k) (bytes_eq k pair.0) refl refl refl e

-- where keys rise the normal form is made pair by pair
pub normal_kept : (key : List ℕ) (l : Pairs) → Rise (keys l) → normal_pairs key l ≡ kept_texts key l
normal_kept key l up = same_pairs (normal_pairs key l) (kept_texts key l) (normal_rise key l up) (kept_rise key l up)
    (λ k. normal_at key l up k ∙ sym (at_kept k key l up))

-- ---- where nothing is lost

-- the pair stays, and its value is a text
abbrev pub Stays : List ℕ → List ℕ × Value → Type 0
Stays key pair = (changes key pair ≡ false) × (goes key pair ≡ false)

text_itself : (value : Value) → is_text value ≡ true → Text (value_text value) ≡ value
text_itself (Text text) e = refl
text_itself value e = absurd (true≢false (sym e))

not_false : (b : Bool) → not b ≡ false → b ≡ true
not_false true e = refl
not_false false e = absurd (true≢false e)

stays_itself : (key : List ℕ) (pair : List ℕ × Value) → Stays key pair → kept_text key pair ≡ pair ∷ []
stays_itself key pair stays =
    let is : is_text pair.1 ≡ true = not_false (is_text pair.1) (ap (λ b. not b && not (is_text pair.1)) (sym stays.1) ∙ stays.0) in
    let text : Text (value_text pair.1) ≡ pair.1 = text_itself pair.1 is in
    ap (λ (b : Bool). if b then [] else as_text pair ∷ []) stays.1 ∙ (λ i. (pair.0, text i) ∷ [])

pub all_stay : (key : List ℕ) (l : Pairs) → AllByRecursion (Stays key) l → kept_texts key l ≡ l
all_stay key [] all = refl
all_stay key (pair ∷ l) all = ap (λ f. f ++ kept_texts key l) (stays_itself key pair all.0) ∙ ap (λ r. pair ∷ r) (all_stay key l all.1)

no_longer : (key : List ℕ) (l : Pairs) → length (kept_texts key l) ≤ length l
no_longer key [] = omega arith
no_longer key (pair ∷ l) = by (goes key pair) (no_longer key l)
  where
    by : (b : Bool) → length (kept_texts key l) ≤ length l → length ((if b then [] else as_text pair ∷ []) ++ kept_texts key l) ≤ suc (length l)
    by true rest = omega (arith, rest)
    by false rest = omega (arith, rest)

itself_stays : (key : List ℕ) (pair : List ℕ × Value) → goes key pair ≡ false → as_text pair ≡ pair → Stays key pair
itself_stays key pair kept same =
    let text : is_text pair.1 ≡ true = sym (ap (λ (p : List ℕ × Value). is_text p.1) same) in
    (ap (λ b. not b && not (is_text pair.1)) kept ∙ ap not text, kept)

pub none_go : (key : List ℕ) (l : Pairs) → kept_texts key l ≡ l → AllByRecursion (Stays key) l
none_go key [] same = tt
none_go key (pair ∷ l) same = by (goes key pair) (none_go key l) refl same
  where
    by : (b : Bool) → (kept_texts key l ≡ l → AllByRecursion (Stays key) l) → goes key pair ≡ b
        → (if b then [] else as_text pair ∷ []) ++ kept_texts key l ≡ pair ∷ l → AllByRecursion (Stays key) (pair ∷ l)
    by true later e is = absurd (omega (arith, no_longer key l, ap length is))
    by false later e is =
        let parts = same_parts (as_text pair) pair (kept_texts key l) l is in
        (itself_stays key pair e parts.0, later parts.1)
