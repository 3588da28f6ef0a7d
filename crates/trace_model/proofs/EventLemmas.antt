-- What a JSON value holds of an event, as the reader comes to it; and how a member is written.
use Rattle.std.proofs.Common.{◌≡◌, ◌≢◌, ℕ, ◌<◌, ◌≤◌, List, [], ◌∷◌, ◌++◌, length, All, Option, Some, None, Result, Ok, Err, refl, sym, ap, ◌∙◌, subst, arith, append_assoc}
use Rattle.std.specs.Prelude.{IfOk, IfNone}
use Rattle.std.proofs.lemmas.List.Elements.{All-weaker}
use Rattle.json.specs.Print.{print, print_from, quoted}
use Rattle.json.specs.Token.{Token, key}
use Rattle.serde_json.specs.Data.{Data, null, boolean, number, string, array, object, Members, no_members, member}
use Rattle.serde_json.specs.Find.{as_object}
use Rattle.serde_json.specs.Read.{read}
use Rattle.json_nodes.specs.Lents.{lent_view as view, named_members}
use Rattle.trace_model.proofs.EventRows.{Entry}
use Rattle.trace_model.specs.declared.value.Value.{Value, List as Several, Map as Named}
use Rattle.trace_model.specs.EventReading.{IsRead, AreRead, pairs_within}
use Rattle.trace_model.specs.EventTexts.{IsEventJson, IsEventText, in_braces}
use Rattle.trace_model.specs.Proper.{IsProperValue}
use Rattle.trace_model.specs.Values.{AreSound, depth, MapsRise, most_levels}
use Rattle.trace_model.proofs.EventDepths.{pairs_sound, pairs_complete}
use Rattle.trace_model.proofs.Rows.{list_rises, map_rises}
use Rattle.trace_model.proofs.ProperRows.{list_proper, map_proper}

-- ---- what was read

pub list_read : (list : List Value) → All IsRead list → IsRead (Several list)
list_read list all = record {
  rising = (list_rises list).1 (All-weaker IsRead MapsRise (λ v r. r.rising) list all);
  proper = (list_proper list).1 (All-weaker IsRead IsProperValue (λ v r. r.proper) list all);
}

pub map_read : (pairs : List (List ℕ × Value)) → AreRead pairs → IsRead (Named pairs)
map_read pairs r = record { rising = (map_rises pairs).1 (r.keys_rise, r.rising); proper = (map_proper pairs).1 r.proper }

pub sound_read : (pairs : List (List ℕ × Value)) → AreRead pairs → All (λ p. depth p.1 ≤ most_levels) pairs → AreSound pairs
sound_read pairs r low = record { rising = r.keys_rise; values = λ k d lt. record { shallow = low k d lt; rising = r.rising k d lt } }

pub shallow : (pairs : List (List ℕ × Value)) → AreSound pairs → All (λ p. depth p.1 ≤ most_levels) pairs
shallow pairs s = λ k d lt. (s.values k d lt).shallow

-- ---- the one member

of_object : (d : Data) (ms : Members) → Some ms ≡ as_object d → d ≡ object ms
of_object null ms e = absurd (cc)
of_object (boolean b) ms e = absurd (cc)
of_object (number n) ms e = absurd (cc)
of_object (string s) ms e = absurd (cc)
of_object (array ds) ms e = absurd (cc)
of_object (object os) ms e = cc

module _ (json : Data) (entries : List Entry) (is_object : Some (named_members entries) ≡ as_object json) where
  same_members : (name : List ℕ) (attributes : List (List ℕ × Value)) (is : IsEventJson json name attributes) → named_members entries ≡ member name (object is.members) no_members
  same_members name attributes is =
      let e : Some (named_members entries) ≡ Some (member name (object is.members) no_members) = is_object ∙ ap as_object is.one in cc

  alone : (es : List Entry) (k : List ℕ) (d : Data) → named_members es ≡ member k d no_members → length es ≡ 1
  alone [] k d e = absurd (cc)
  alone (x ∷ []) k d e = omega arith
  alone (x ∷ y ∷ es) k d e = absurd (cc)

  pub one_member : (name : List ℕ) (attributes : List (List ℕ × Value)) → IsEventJson json name attributes → length entries ≡ 1
  one_member name attributes is = alone entries name (object is.members) (same_members name attributes is)

  module _ (x : Entry) (more : List Entry) (split : entries ≡ x ∷ more) (inner : Members) (holds : Some inner ≡ as_object (view x.1)) where
    inner_is : (name : List ℕ) (attributes : List (List ℕ × Value)) (is : IsEventJson json name attributes) → inner ≡ is.members
    inner_is name attributes is =
        let e : member (x.0.now) (view x.1) (named_members more) ≡ member name (object is.members) no_members =
        ap named_members (sym split) ∙ same_members name attributes is in
        let v : view x.1 ≡ object is.members = cc in
        let o : Some inner ≡ Some is.members = holds ∙ ap as_object v in
        cc

    pub no_event : None ≡ pairs_within most_levels inner → (name : List ℕ) (attributes : List (List ℕ × Value)) → IsEventJson json name attributes → ⊥
    no_event none name attributes is =
        let read : pairs_within most_levels inner ≡ Some attributes =
        ap (pairs_within most_levels) (inner_is name attributes is) ∙ pairs_complete most_levels is.members attributes is.values (shallow attributes is.sound) in
        let e : None ≡ Some attributes = none ∙ read in
        cc

    pub no_empty : (read : List (List ℕ × Value)) → Some read ≡ pairs_within most_levels inner → length read ≡ 0
        → (name : List ℕ) (attributes : List (List ℕ × Value)) → IsEventJson json name attributes → ⊥
    no_empty [] read empty name attributes is =
        let e : Some [] ≡ Some attributes =
        read ∙ ap (pairs_within most_levels) (inner_is name attributes is) ∙ pairs_complete most_levels is.members attributes is.values (shallow attributes is.sound) in
        let none : attributes ≡ [] = cc in
        is.some none
    no_empty (pair ∷ pairs) read empty name attributes is = absurd (omega (arith, empty))

    last_one : (es : List Entry) → 1 ≡ length (x ∷ es) → named_members es ≡ no_members
    last_one [] e = refl
    last_one (y ∷ es) e = absurd (omega arith)

    pub is_event : 1 ≡ length entries → (attributes : List (List ℕ × Value)) → Some attributes ≡ pairs_within most_levels inner → AreRead attributes → attributes ≢ [] → IsEventJson json (x.0.now) attributes
    is_event one attributes is r some =
        let s = pairs_sound most_levels inner attributes (sym is) in
        let e : named_members entries ≡ member (x.0.now) (object inner) no_members =
        ap named_members split
        ∙ ap (λ d. member (x.0.now) d (named_members more)) (of_object (view x.1) inner holds)
        ∙ ap (member (x.0.now) (object inner)) (last_one more (one ∙ ap (λ (l : List Entry). length l) split)) in
        record {
          members = inner;
          one = of_object json (named_members entries) is_object ∙ ap object e;
          values = s.0;
          some = some;
          sound = sound_read attributes r s.1;
        }

pub none_empty : (pairs : List (List ℕ × Value)) → 0 < length pairs → pairs ≢ []
none_empty pairs some e = let z : length pairs ≡ 0 = ap (λ (l : List (List ℕ × Value)). length l) e in omega arith

-- ---- the text

abbrev NoEvent : Data → Type 0
NoEvent json = (name : List ℕ) (attributes : List (List ℕ × Value)) → ¬ IsEventJson json name attributes

abbrev pub NoEventText : List ℕ → Type 0
NoEventText text = (name : List ℕ) (attributes : List (List ℕ × Value)) → ¬ IsEventText text name attributes

pub no_text : {T E : Type 0} (text : List ℕ) (json : Data) (result : Result (Option T) E) → read (in_braces text) ≡ Some json
    → IfOk result (λ o. IfNone o (NoEvent json)) → IfOk result (λ o. IfNone o (NoEventText text))
no_text text json (Ok None) reading none = λ name attributes is.
    let e : Some is.json ≡ Some json = sym is.reading ∙ reading in
    let same : is.json ≡ json = cc in
    none name attributes (subst (λ d. IsEventJson d name attributes) same is.event)
no_text text json (Ok (Some t)) reading none = none
no_text text json (Err e) reading none = none

-- ---- written

pub member_print : (name : List ℕ) (ts : List Token) → print (key name ∷ ts) ≡ quoted name ++ 58 ∷ print ts
unfolding print_from
member_print name ts = append_assoc (quoted name) (58 ∷ []) (print ts)
