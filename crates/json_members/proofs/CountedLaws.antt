-- What is listed of a value, and what stands in it, are fewer than the values in it.
use Rattle.std.proofs.Common.{◌≡◌, ℕ, suc, ◌+◌, ◌<◌, ◌≤◌, List, [], ◌∷◌, ◌++◌, length, Option, Some, None, sym, ap, subst, arith, Ordering, Less, Equal, Greater}
use Rattle.std.proofs.lemmas.Slice.Zip.{AllZip-long}
use Rattle.std.specs.Cmp.Lexicographic.{slice_cmp}
use Rattle.std.specs.Ordering.{nat_cmp, match_ordering}
use Rattle.serde_json.specs.Data.{Data, null, boolean, number, string, array, object, Items, no_items, item, Members, no_members, member as has}
use Rattle.serde_json.specs.Find.{get_member, as_array}
use Rattle.serde_json.specs.View.{items_of}
use Rattle.span_io.specs.Paths.{Given}
use Rattle.json_members.specs.Counted.{values_in, values_in_items, values_in_members, IsCountedValue}
use Rattle.json_members.specs.Members.{unless_null, member, elements, AreHeld}
use Rattle.json_members.proofs.Utf8Laws.{HoldsOf}

pub one_value : (d : Data) → 1 ≤ values_in d
one_value null = omega arith
one_value (boolean b) = omega arith
one_value (number n) = omega arith
one_value (string s) = omega arith
one_value (array ds) = omega arith
one_value (object ms) = omega arith

-- ---- members

found_within : (name : List ℕ) (ms : Members) → HoldsOf (λ d. values_in d ≤ values_in_members ms) (get_member name ms)
found_within name no_members = tt
found_within name (has k d ms) = on (slice_cmp nat_cmp name k) (later (get_member name ms) (found_within name ms))
  where
    later : (o : Option Data) → HoldsOf (λ e. values_in e ≤ values_in_members ms) o → HoldsOf (λ e. values_in e ≤ values_in d + values_in_members ms) o
    later None h = tt
    later (Some e) h = omega (arith, h)

    on : (o : Ordering) → HoldsOf (λ e. values_in e ≤ values_in d + values_in_members ms) (get_member name ms)
        → HoldsOf (λ e. values_in e ≤ values_in d + values_in_members ms) (match_ordering o (get_member name ms) (Some d) (get_member name ms))
    on Less more = more
    on Equal more = omega arith
    on Greater more = more

there_within : (n : ℕ) (o : Option Data) → HoldsOf (λ d. values_in d ≤ n) o → HoldsOf (λ d. values_in d < suc n) (unless_null o)
there_within n None h = tt
there_within n (Some null) h = tt
there_within n (Some (boolean b)) h = omega (arith, h)
there_within n (Some (number x)) h = omega (arith, h)
there_within n (Some (string s)) h = omega (arith, h)
there_within n (Some (array ds)) h = omega (arith, h)
there_within n (Some (object ms)) h = omega (arith, h)

pub member_within : (name : List ℕ) (d : Data) → HoldsOf (λ inner. values_in inner < values_in d) (member name d)
unfolding member
member_within name null = tt
member_within name (boolean b) = tt
member_within name (number n) = tt
member_within name (string s) = tt
member_within name (array ds) = tt
member_within name (object ms) = there_within (values_in_members ms) (get_member name ms) (found_within name ms)

-- a member that was found
pub found_fewer : (name : List ℕ) (d inner : Data) → Some inner ≡ member name d → values_in inner < values_in d
found_fewer name d inner is = subst (HoldsOf (λ e. values_in e < values_in d)) (sym is) (member_within name d)

-- ---- elements

pub array_values : (d : Data) (ds : Items) → as_array d ≡ Some ds → values_in d ≡ suc (values_in_items ds)
array_values null ds is = cc
array_values (boolean b) ds is = cc
array_values (number n) ds is = cc
array_values (string s) ds is = cc
array_values (array held) ds is = let e : held ≡ ds = cc in ap (λ l. suc (values_in_items l)) e
array_values (object ms) ds is = cc

elements_within : (ds : Items) → length (elements ds) ≤ values_in_items ds
elements_within no_items = omega arith
elements_within (item d ds) = omega (arith, one_value d, elements_within ds)

-- what is listed of the elements of an array
pub listed_within : {A : Type 0} (Is : A → Data → Type 0) (xs : List A) (d : Data) → AreHeld Is xs d → length xs < values_in d
listed_within Is xs d is =
    let long = AllZip-long (λ e y. Is y e) (elements is.held) xs is.means in
    let each = elements_within is.held in
    let whole = array_values d is.held is.shape in
    omega (arith, long, each, whole)

-- what is listed of a member that may be absent
pub given_within : {A : Type 0} (Is : A → Data → Type 0) (xs : List A) (name : List ℕ) (d : Data)
    → Given (AreHeld Is) (λ ys. ys ≡ []) xs (member name d) → length xs < values_in d
given_within {A} Is xs name d is = on (member name d) (member_within name d) is
  where
    on : (o : Option Data) → HoldsOf (λ inner. values_in inner < values_in d) o → Given (AreHeld Is) (λ ys. ys ≡ []) xs o
        → length xs < values_in d
    on None h none = omega (arith, ap length none, one_value d)
    on (Some e) h listed = omega (arith, h, listed_within Is xs e listed)

-- ---- elements in a loop

pub in_both : (ds es : List Data) → values_in_items (items_of (ds ++ es)) ≡ values_in_items (items_of ds) + values_in_items (items_of es)
in_both [] es = omega arith
in_both (d ∷ ds) es = omega (arith, in_both ds es)

-- those before an element, and it
pub next_within : (all seen rest : List Data) (d : Data) → all ≡ seen ++ d ∷ rest → values_in_items (items_of seen) + values_in d ≤ values_in_items (items_of all)
next_within all seen rest d split =
    let parts = ap (λ ds. values_in_items (items_of ds)) split in
    let sums = in_both seen (d ∷ rest) in
    omega (arith, parts, sums)

pub fewer_left : (all seen rest : List Data) (d : Data) → all ≡ seen ++ d ∷ rest → IsCountedValue (array (items_of all)) → IsCountedValue d
fewer_left all seen rest d split h =
    let within = next_within all seen rest d split in
    omega (arith, h, within)
