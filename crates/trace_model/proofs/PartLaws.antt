-- What is known of values and attributes, however they are spelled: a value by its variants, what is read where nothing is noted, what all
-- pairs have and so the attributes kept of them, and texts told apart by their bytes.
--     Cases P            P, at each variant of a value
--     Sound d value      no deeper than d, and the keys of each map in it rise
--     ProperTrace id     the trace's identifier, if there is one, is proper
use Rattle.std.proofs.Common.{◌≡◌, ℕ, ◌≤◌, Bool, List, [], ◌∷◌, map, All, get_or, Option, Some, None, refl, sym, ap, subst, ◌∙◌, arith}
use Rattle.std.specs.Prelude.{Contains, ⊤}
use Rattle.std.specs.Cmp.{IsEquivalence}
use Rattle.std.specs.List.{AllByRecursion, AllZip, flat_map}
use Rattle.std.specs.Str.{bytes_eq}
use Rattle.std.proofs.lemmas.Cmp.{eq_by_cmp_equiv, nat_list_cmp_total}
use Rattle.std.proofs.lemmas.List.Concat.{flat_map-cons}
use Rattle.std.proofs.lemmas.List.Elements.{All-nil, All-cons, All-contains, Contains-append_right, Contains-get_or}
use Rattle.std.proofs.lemmas.Map.Text.{is_eq-slice_cmp}
use Rattle.std.proofs.lemmas.Slice.Eq.{bytes_eq-Decides}
use Rattle.span_ids.specs.Proper.{IsProperTraceId}
use Rattle.trace_model.specs.Attributes.{IsLast, AreAttributes}
use Rattle.trace_model.specs.declared.noted.KeyValue.{KeyValue}
use Rattle.trace_model.specs.OtlpParts.{NotedValue, leaf, entry}
use Rattle.trace_model.specs.Values.{depth, MapsRise}
use Rattle.trace_model.specs.declared.value.Value.{Value, Value-F, roll-Value, out-Value, roll-out-Value}
use Rattle.trace_model.specs.declared.value.Value.TheOpen as layers
use Rattle.trace_model.specs.declared.value.Value.TheVariants as values

-- ---- values by their variants

pub record Cases (P : Value → Type 0) : Type 0 where
  pub of_text : (text : List ℕ) → P (values.Text text)
  pub of_truth : (truth : Bool) → P (values.Truth truth)
  pub of_number : (n : _) → P (values.Number n)
  pub of_eight : (double : List ℕ) → P (values.Eight double)
  pub of_bytes : (held : List ℕ) → P (values.Bytes held)
  pub of_list : (members : List Value) → P (values.List members)
  pub of_map : (pairs : List (List ℕ × Value)) → P (values.Map pairs)
  pub of_nothing : P values.Nothing

by_layer : (P : Value → Type 0) → Cases P → (layer : Value-F Value) → P (roll-Value layer)
by_layer P c (layers.Text text) = subst P (sym (values.rolls-Text text)) (c.of_text text)
by_layer P c (layers.Truth truth) = subst P (sym (values.rolls-Truth truth)) (c.of_truth truth)
by_layer P c (layers.Number n) = subst P (sym (values.rolls-Number n)) (c.of_number n)
by_layer P c (layers.Eight double) = subst P (sym (values.rolls-Eight double)) (c.of_eight double)
by_layer P c (layers.Bytes held) = subst P (sym (values.rolls-Bytes held)) (c.of_bytes held)
by_layer P c (layers.List members) = subst P (sym (values.rolls-List members)) (c.of_list members)
by_layer P c (layers.Map pairs) = subst P (sym (values.rolls-Map pairs)) (c.of_map pairs)
by_layer P c layers.Nothing = subst P (sym values.rolls-Nothing) c.of_nothing

pub by_variant : (P : Value → Type 0) → Cases P → (v : Value) → P v
by_variant P c v = subst P (roll-out-Value v) (by_layer P c (out-Value v))

-- every value has a depth
pub some_depth : (v : Value) → 1 ≤ depth v
some_depth = by_variant (λ v. 1 ≤ depth v) (record {
  of_text = λ text. omega arith;
  of_truth = λ truth. omega arith;
  of_number = λ n. omega arith;
  of_eight = λ double. omega arith;
  of_bytes = λ held. omega arith;
  of_list = λ members. omega arith;
  of_map = λ pairs. omega arith;
  of_nothing = omega arith;
})

-- ---- lists of values and pairs, with nothing noted

abbrev pub quiet_key_value : List ℕ × Value → KeyValue
quiet_key_value pair = record { key = pair.0; value = leaf pair.1 }

pub values_back : (members : List Value) → map (λ (m : NotedValue). m.means) (map leaf members) ≡ members
values_back [] = refl
values_back (v ∷ members) = ap (λ l. v ∷ l) (values_back members)

pub values_quiet : (members : List Value) → flat_map (λ (m : NotedValue). m.notes) (map leaf members) ≡ []
values_quiet [] = refl
values_quiet (v ∷ members) = flat_map-cons (λ (m : NotedValue). m.notes) (leaf v) (map leaf members) ∙ values_quiet members

pub pairs_back : (pairs : List (List ℕ × Value)) → map entry (map quiet_key_value pairs) ≡ pairs
pairs_back [] = refl
pairs_back (p ∷ pairs) = ap (λ l. p ∷ l) (pairs_back pairs)

pub pairs_quiet : (pairs : List (List ℕ × Value)) → flat_map (λ (p : KeyValue). p.value.notes) (map quiet_key_value pairs) ≡ []
pairs_quiet [] = refl
pairs_quiet (p ∷ pairs) = flat_map-cons (λ (q : KeyValue). q.value.notes) (quiet_key_value p) (map quiet_key_value pairs) ∙ pairs_quiet pairs

-- ---- what is sound and proper

pub record Sound (d : ℕ) (v : Value) : Type 0 where
  pub shallow : depth v ≤ d
  pub rising : MapsRise v

here : {X : Type 0} (x : X) (xs : List X) → Contains (x ∷ xs) x
here x xs = (0, omega arith, refl)

-- what all pairs have is so of the last ones too
pub kept_all : (P : List ℕ × Value → Type 0) (attributes pairs : List (List ℕ × Value)) → AreAttributes attributes pairs → All P pairs → All P attributes
kept_all P attributes pairs are all = λ k d lt. of (get_or attributes k d) ((are.last (get_or attributes k d)).0 (Contains-get_or attributes k d lt))
  where
    of : (pair : List ℕ × Value) → IsLast pair pairs → P pair
    of pair is = All-contains P pairs pair all (subst (λ l. Contains l pair) (sym is.split) (Contains-append_right is.before (pair ∷ is.behind) pair (here pair is.behind)))

-- all that is read has P, where all that it is read of has Q
pub each_in_range : {A B C : Type 0} (Is : A → B → Type 0) (f : B → C) (Q : A → Type 0) (P : C → Type 0) → ((x : B) (a : A) → Q a → Is a x → P (f x))
    → (held : List A) (xs : List B) → AllByRecursion Q held → AllZip Is held xs → All P (map f xs)
each_in_range Is f Q P so [] [] all each = All-nil P
each_in_range Is f Q P so [] (x ∷ xs) all each = absurd each
each_in_range Is f Q P so (a ∷ held) [] all each = absurd each
each_in_range Is f Q P so (a ∷ held) (x ∷ xs) all each = All-cons P (f x) (map f xs) (so x a all.0 each.0) (each_in_range Is f Q P so held xs all.1 each.1)

-- of an identifier that may be absent
abbrev pub ProperTrace : Option ℕ → Type 0
ProperTrace None = ⊤
ProperTrace (Some id) = IsProperTraceId id

-- ---- keys

-- texts are told apart by their bytes
pub bytes_eq_equiv : IsEquivalence bytes_eq
bytes_eq_equiv =
    let equal = eq_by_cmp_equiv nat_list_cmp_total in
    record {
      refl = λ x. (bytes_eq-Decides x x).1 refl;
      symm = λ x y. sym (is_eq-slice_cmp x y) ∙ equal.symm x y ∙ is_eq-slice_cmp y x;
      congr = λ x y z e. sym (is_eq-slice_cmp x z) ∙ equal.congr x y z (is_eq-slice_cmp x y ∙ e) ∙ is_eq-slice_cmp y z;
    }
