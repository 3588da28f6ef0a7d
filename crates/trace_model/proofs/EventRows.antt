-- Values within so many levels, as loops over elements and members come to them.
use Rattle.std.proofs.Common.{◌≡◌, ℕ, zero, suc, Bool, ◌-◌, ◌<◌, List, [], ◌∷◌, ◌++◌, map, Option, Some, None, option_map, option_and_then, refl, sym, ap, ◌∙◌, subst, arith, append_assoc, append-nil, Bor}
use Rattle.std.specs.List.{AllByRecursion}
use Rattle.std.specs.List.Sorted.{IsStrictlySortedBy}
use Rattle.std.specs.Map.{keys_of}
use Rattle.std.specs.Ordering.{nat_cmp}
use Rattle.std.specs.Cmp.Lexicographic.{slice_cmp}
use Rattle.std.specs.declared.cmp.Ordering.TheVariants.{Less}
use Rattle.serde_json.specs.Data.{Data, null, boolean, number, string, array, object, Num, Items, Members}
use Rattle.serde_json.specs.Find.{as_bool, as_number, as_str, as_array, as_object, as_i64}
use Rattle.serde_json.specs.View.{items_of}
use Rattle.json_nodes.specs.Lents.{lent_view, named_members}
use Rattle.json_nodes.specs.declared.lent.Lent.{Lent}
use Rattle.trace_model.specs.declared.value.Value.{Value, Text, Truth, Number, List as Several, Map as Named, Nothing}
use Rattle.trace_model.specs.Attributes.{Rise, keys}
use Rattle.trace_model.specs.EventReading.{value_within, values_within, pairs_within}
use Rattle.trace_model.proofs.EventOptions.{map_some, then_some}

-- a member by its name
abbrev pub Entry : Type 0
Entry = Bor (List ℕ) × Lent

-- ---- one level

pub of_text : (left : ℕ) (d : Data) (text : List ℕ) → 0 < left → Some text ≡ as_str d → Some (Text text) ≡ value_within left d
of_text zero d text some is = absurd (omega arith)
of_text (suc left) null text some is = cc
of_text (suc left) (boolean b) text some is = cc
of_text (suc left) (number n) text some is = cc
of_text (suc left) (string s) text some is = cc
of_text (suc left) (array ds) text some is = cc
of_text (suc left) (object ms) text some is = cc

pub of_number : (left : ℕ) (d : Data) (n : Num) → 0 < left → Some n ≡ as_number d → option_map Number (as_i64 n) ≡ value_within left d
of_number zero d n some is = absurd (omega arith)
of_number (suc left) null n some is = cc
of_number (suc left) (boolean b) n some is = cc
of_number (suc left) (number m) n some is = let e : n ≡ m = cc in ap (λ o. option_map Number (as_i64 o)) e
of_number (suc left) (string s) n some is = cc
of_number (suc left) (array ds) n some is = cc
of_number (suc left) (object ms) n some is = cc

pub of_truth : (left : ℕ) (d : Data) (truth : Bool) → 0 < left → Some truth ≡ as_bool d → Some (Truth truth) ≡ value_within left d
of_truth zero d truth some is = absurd (omega arith)
of_truth (suc left) null truth some is = cc
of_truth (suc left) (boolean b) truth some is = cc
of_truth (suc left) (number n) truth some is = cc
of_truth (suc left) (string s) truth some is = cc
of_truth (suc left) (array ds) truth some is = cc
of_truth (suc left) (object ms) truth some is = cc

pub of_array : (left : ℕ) (d : Data) (ds : Items) → 0 < left → Some ds ≡ as_array d → option_map Several (values_within (left - 1) ds) ≡ value_within left d
of_array zero d ds some is = absurd (omega arith)
of_array (suc left) null ds some is = cc
of_array (suc left) (boolean b) ds some is = cc
of_array (suc left) (number n) ds some is = cc
of_array (suc left) (string s) ds some is = cc
of_array (suc left) (array es) ds some is = let e : suc left - 1 ≡ left = omega arith in let s : ds ≡ es = cc in rw (e, s) refl
of_array (suc left) (object ms) ds some is = cc

pub of_object : (left : ℕ) (d : Data) (ms : Members) → 0 < left → Some ms ≡ as_object d → option_map Named (pairs_within (left - 1) ms) ≡ value_within left d
of_object zero d ms some is = absurd (omega arith)
of_object (suc left) null ms some is = cc
of_object (suc left) (boolean b) ms some is = cc
of_object (suc left) (number n) ms some is = cc
of_object (suc left) (string s) ms some is = cc
of_object (suc left) (array ds) ms some is = cc
of_object (suc left) (object os) ms some is = let e : suc left - 1 ≡ left = omega arith in let s : ms ≡ os = cc in rw (e, s) refl

-- what is nothing else is null
pub of_null : (left : ℕ) (d : Data) → 0 < left → as_str d ≡ None → as_number d ≡ None → as_bool d ≡ None → None ≡ as_array d → None ≡ as_object d → Some Nothing ≡ value_within left d
of_null zero d some s n b a o = absurd (omega arith)
of_null (suc left) null some s n b a o = refl
of_null (suc left) (boolean x) some s n b a o = cc
of_null (suc left) (number x) some s n b a o = cc
of_null (suc left) (string x) some s n b a o = cc
of_null (suc left) (array x) some s n b a o = cc
of_null (suc left) (object x) some s n b a o = cc

-- ---- what was read, and what is left to read behind it

abbrev pub behind : {A : Type 0} → List A → Option (List A) → Option (List A)
behind done more = option_map (λ l. done ++ l) more

pub all_left : {A : Type 0} (more : Option (List A)) → more ≡ behind [] more
all_left None = refl
all_left (Some l) = refl

moved : {A : Type 0} (done : List A) (x : A) (more : Option (List A)) → behind done (option_map (λ l. x ∷ l) more) ≡ behind (done ++ x ∷ []) more
moved done x None = refl
moved done x (Some l) = ap Some (sym (append_assoc done (x ∷ []) l))

module _ (left : ℕ) where
  module _ (whole : Option (List Value)) (list : List Value) (ds : List Data) (so_far : whole ≡ behind list (values_within left (items_of ds))) where
    pub value_more : (d : Data) (more : List Data) → ds ≡ d ∷ more → (x : Value) → Some x ≡ value_within left d → whole ≡ behind (list ++ x ∷ []) (values_within left (items_of more))
    value_more d more is x read =
        so_far ∙ ap (λ l. behind list (values_within left (items_of l))) is
        ∙ ap (λ o. behind list (option_and_then (λ v. option_map (λ l. v ∷ l) (values_within left (items_of more))) o)) (sym read)
        ∙ moved list x (values_within left (items_of more))

    pub value_none : (d : Data) (more : List Data) → ds ≡ d ∷ more → None ≡ value_within left d → None ≡ whole
    value_none d more is none =
        sym (so_far ∙ ap (λ l. behind list (values_within left (items_of l))) is
        ∙ ap (λ o. behind list (option_and_then (λ v. option_map (λ l. v ∷ l) (values_within left (items_of more))) o)) (sym none))

    pub value_all : ds ≡ [] → Some list ≡ whole
    value_all is = sym (so_far ∙ ap (λ l. behind list (values_within left (items_of l))) is ∙ ap Some (append-nil list))

  abbrev pairs : List Entry → Option (List (List ℕ × Value))
  pairs es = pairs_within left (named_members es)

  module _ (whole : Option (List (List ℕ × Value))) (list : List (List ℕ × Value)) (es : List Entry) (so_far : whole ≡ behind list (pairs es)) where
    pub pair_more : (e : Entry) (more : List Entry) → es ≡ e ∷ more → (x : Value) → Some x ≡ value_within left (lent_view e.1) → whole ≡ behind (list ++ (e.0.now, x) ∷ []) (pairs more)
    pair_more e more is x read =
        so_far ∙ ap (λ l. behind list (pairs l)) is
        ∙ ap (λ o. behind list (option_and_then (λ v. option_map (λ l. (e.0.now, v) ∷ l) (pairs more)) o)) (sym read)
        ∙ moved list (e.0.now, x) (pairs more)

    pub pair_none : (e : Entry) (more : List Entry) → es ≡ e ∷ more → None ≡ value_within left (lent_view e.1) → None ≡ whole
    pair_none e more is none =
        sym (so_far ∙ ap (λ l. behind list (pairs l)) is
        ∙ ap (λ o. behind list (option_and_then (λ v. option_map (λ l. (e.0.now, v) ∷ l) (pairs more)) o)) (sym none))

    pub pair_all : es ≡ [] → Some list ≡ whole
    pair_all is = sym (so_far ∙ ap (λ l. behind list (pairs l)) is ∙ ap Some (append-nil list))

  -- ---- the keys of what was read are those of the members

  keys_same : (es : List Entry) (list : List (List ℕ × Value)) → pairs es ≡ Some list → keys list ≡ map (λ k. k.now) (keys_of es)
  keys_same [] list e = let s : [] ≡ list = cc in ap keys (sym s)
  keys_same (x ∷ es) list e =
      let i = then_some (λ v. option_map (λ l. (x.0.now, v) ∷ l) (pairs es)) (value_within left (lent_view x.1)) list e in
      let j = map_some (λ l. (x.0.now, i.0) ∷ l) (pairs es) list i.2 in
      ap keys (sym j.2) ∙ ap (λ l. x.0.now ∷ l) (keys_same es j.0 j.1)

below_all : (k : Bor (List ℕ)) (ks : List (Bor (List ℕ))) → AllByRecursion (λ y. slice_cmp nat_cmp k.now y.now ≡ Less) ks → AllByRecursion (λ y. slice_cmp nat_cmp k.now y ≡ Less) (map (λ k. k.now) ks)
below_all k [] h = tt
below_all k (x ∷ ks) h = (h.0, below_all k ks h.1)

texts_rise : (ks : List (Bor (List ℕ))) → IsStrictlySortedBy (λ x y. slice_cmp nat_cmp x.now y.now) ks → Rise (map (λ k. k.now) ks)
unfolding IsStrictlySortedBy
texts_rise [] h = tt
texts_rise (k ∷ ks) h = (below_all k ks h.0, texts_rise ks h.1)

pub keys_rise : (left : ℕ) (es : List Entry) (list : List (List ℕ × Value)) → IsStrictlySortedBy (λ x y. slice_cmp nat_cmp x.now y.now) (keys_of es) → Some list ≡ pairs_within left (named_members es) → Rise (keys list)
keys_rise left es list up e = subst Rise (sym (keys_same left es list (sym e))) (texts_rise (keys_of es) up)
