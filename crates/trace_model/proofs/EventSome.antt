-- Each text is that of an event, or of none.
use Rattle.std.proofs.Common.{◌≡◌, ℕ, List, [], ◌∷◌, All, Option, Some, None, option_map, option_and_then, Ordering, Equal, refl, sym, ap, ◌∙◌, subst, nat_cmp}
use Rattle.std.specs.Prelude.{◌⊎◌, ⊤}
use Rattle.std.specs.Ordering.{match_ordering, ordering_reverse}
use Rattle.std.specs.Cmp.Lexicographic.{slice_cmp}
use Rattle.std.specs.List.{AllByRecursion}
use Rattle.std.specs.List.Sorted.{IsStrictlySortedBy}
use Rattle.std.specs.declared.cmp.Ordering.TheVariants.{Less, Greater}
use Rattle.std.proofs.lemmas.Cmp.{nat_list_cmp_total}
use Rattle.std.proofs.lemmas.List.Elements.{All-nil, All-cons}
use mathlib.Core.Logic.{inl, inr}
use Rattle.json.specs.Json as json
use Rattle.json.specs.Lex.{tokens}
use Rattle.serde_json.specs.Data.{Data, null, boolean, number, string, array, object, Items, no_items, item, Members, no_members, member, put}
use Rattle.serde_json.specs.Find.{as_i64}
use Rattle.serde_json.specs.Read.{read, max_depth, number_of, of_json, of_items, of_members}
use Rattle.trace_model.specs.declared.value.Value.{Value, Text, Truth, Number, List as Several, Map as Named, Nothing}
use Rattle.trace_model.specs.Attributes.{Rise, keys}
use Rattle.trace_model.specs.EventReading.{pairs_within}
use Rattle.trace_model.specs.EventTexts.{IsEventJson, IsEventText, in_braces, value_of_json, values_of_json, pairs_of_json}
use Rattle.trace_model.specs.Values.{MapsRise, most_levels}
use Rattle.trace_model.proofs.EventBack.{names}
use Rattle.trace_model.proofs.EventDepths.{pairs_sound, pairs_complete}
use Rattle.trace_model.proofs.EventLemmas.{shallow}
use Rattle.trace_model.proofs.EventOptions.{map_some, then_some}
use Rattle.trace_model.proofs.Rows.{list_rises, map_rises}

abbrev cmp : List ℕ → List ℕ → Ordering
cmp = slice_cmp nat_cmp

abbrev AllAbove : List ℕ → List (List ℕ) → Type 0
AllAbove k ks = AllByRecursion (λ y. cmp k y ≡ Less) ks

-- ---- the keys of what was read rise

abbrev mutual
  pub KeysRise : Data → Type 0
  KeysRise null = ⊤
  KeysRise (boolean b) = ⊤
  KeysRise (number n) = ⊤
  KeysRise (string s) = ⊤
  KeysRise (array ds) = RiseInEach ds
  KeysRise (object ms) = Rise (names ms) × RiseInMembers ms

  RiseInEach : Items → Type 0
  RiseInEach no_items = ⊤
  RiseInEach (item d ds) = KeysRise d × RiseInEach ds

  RiseInMembers : Members → Type 0
  RiseInMembers no_members = ⊤
  RiseInMembers (member k d ms) = KeysRise d × RiseInMembers ms

of_either : (P : Members → Type 0) (o : Ordering) (a b c : Members) → P a → P b → P c → P (match_ordering o a b c)
of_either P Less a b c x y z = x
of_either P Equal a b c x y z = y
of_either P Greater a b c x y z = z

above_put : (l k : List ℕ) (d : Data) (ms : Members) → cmp l k ≡ Less → AllAbove l (names ms) → AllAbove l (names (put k d ms))
above_put l k d no_members lt h = (lt, tt)
above_put l k d (member m e ms) lt h =
    of_either (λ ns. AllAbove l (names ns)) (cmp k m) (member k d (member m e ms)) (member m d ms) (member m e (put k d ms))
    (lt, h) h (h.0, above_put l k d ms lt h.1)

above_too : (k m : List ℕ) (ks : List (List ℕ)) → cmp k m ≡ Less → AllAbove m ks → AllAbove k ks
above_too k m [] lt h = tt
above_too k m (x ∷ ks) lt h = (nat_list_cmp_total.trans k m x lt h.0, above_too k m ks lt h.1)

rise_at : (k : List ℕ) (d : Data) (m : List ℕ) (e : Data) (ms : Members) → Rise (names (member m e ms)) → Rise (names (put k d ms))
    → (o : Ordering) → cmp k m ≡ o → Rise (names (put k d (member m e ms)))
unfolding IsStrictlySortedBy
rise_at k d m e ms up rest Less is = rw is ((is, above_too k m (names ms) is up.0), up)
rise_at k d m e ms up rest Equal is = rw is up
rise_at k d m e ms up rest Greater is =
    let below : cmp m k ≡ Less = nat_list_cmp_total.antisymm m k ∙ ap ordering_reverse is in
    rw is (above_put m k d ms below up.0, rest)

rise_put : (k : List ℕ) (d : Data) (ms : Members) → Rise (names ms) → Rise (names (put k d ms))
unfolding IsStrictlySortedBy
rise_put k d no_members up = (tt, tt)
rise_put k d (member m e ms) up = rise_at k d m e ms up (rise_put k d ms up.1) (cmp k m) refl

in_put : (k : List ℕ) (d : Data) (ms : Members) → KeysRise d → RiseInMembers ms → RiseInMembers (put k d ms)
in_put k d no_members here h = (here, tt)
in_put k d (member m e ms) here h =
    of_either RiseInMembers (cmp k m) (member k d (member m e ms)) (member m d ms) (member m e (put k d ms)) (here, h) (here, h.1) (h.0, in_put k d ms here h.1)

abbrev MembersRise : Members → Type 0
MembersRise ms = Rise (names ms) × RiseInMembers ms

mutual
  unfolding IsStrictlySortedBy

  read_rises : (j : json.Json) (d : Data) → of_json j ≡ Some d → KeysRise d
  read_rises json.null d e = let s : null ≡ d = cc in subst KeysRise s tt
  read_rises (json.boolean b) d e = let s : boolean b ≡ d = cc in subst KeysRise s tt
  read_rises (json.number t) d e = let i = map_some number (number_of t) d e in subst KeysRise i.2 tt
  read_rises (json.string t) d e = let s : string t ≡ d = cc in subst KeysRise s tt
  read_rises (json.array js) d e = let i = map_some array (of_items js) d e in subst KeysRise i.2 (items_rise js i.0 i.1)
  read_rises (json.object ms) d e =
      let i = map_some object (of_members ms no_members) d e in subst KeysRise i.2 (members_rise ms no_members i.0 i.1 (tt, tt))

  items_rise : (js : json.Items) (ds : Items) → of_items js ≡ Some ds → RiseInEach ds
  items_rise json.no_items ds e = let s : no_items ≡ ds = cc in subst RiseInEach s tt
  items_rise (json.item j js) ds e =
      let i = then_some (λ d. option_map (item d) (of_items js)) (of_json j) ds e in
      let k = map_some (item i.0) (of_items js) ds i.2 in
      subst RiseInEach k.2 (read_rises j i.0 i.1, items_rise js k.0 k.1)

  members_rise : (ms : json.Members) (found out : Members) → of_members ms found ≡ Some out → MembersRise found → MembersRise out
  members_rise json.no_members found out e up = let s : found ≡ out = cc in subst MembersRise s up
  members_rise (json.member k j ms) found out e up =
      let i = then_some (λ d. of_members ms (put k d found)) (of_json j) out e in
      members_rise ms (put k i.0 found) out i.2 (rise_put k i.0 found up.0, in_put k i.0 found (read_rises j i.0 i.1) up.1)

pub text_rises : (text : List ℕ) (d : Data) → read text ≡ Some d → KeysRise d
text_rises text d e = let i = then_some of_json (option_and_then (λ p. json.if_last p.0 p.1) (json.value max_depth (tokens text))) d e in read_rises i.0 d i.2

-- ---- and so do those of the values

pub names_stay : (ms : Members) (ps : List (List ℕ × Value)) → pairs_of_json ms ≡ Some ps → keys ps ≡ names ms
names_stay no_members ps e = let s : [] ≡ ps = cc in ap keys (sym s)
names_stay (member k d ms) ps e =
    let i = then_some (λ v. option_map (λ l. (k, v) ∷ l) (pairs_of_json ms)) (value_of_json d) ps e in
    let j = map_some (λ l. (k, i.0) ∷ l) (pairs_of_json ms) ps i.2 in
    ap keys (sym j.2) ∙ ap (λ l. k ∷ l) (names_stay ms j.0 j.1)

abbrev RisesPair : List ℕ × Value → Type 0
RisesPair pair = MapsRise pair.1

mutual
  value_rises : (d : Data) (v : Value) → value_of_json d ≡ Some v → KeysRise d → MapsRise v
  value_rises null v e up = let s : Nothing ≡ v = cc in subst MapsRise s tt
  value_rises (boolean b) v e up = let s : Truth b ≡ v = cc in subst MapsRise s tt
  value_rises (number n) v e up = let i = map_some Number (as_i64 n) v e in subst MapsRise i.2 tt
  value_rises (string t) v e up = let s : Text t ≡ v = cc in subst MapsRise s tt
  value_rises (array ds) v e up =
      let i = map_some Several (values_of_json ds) v e in subst MapsRise i.2 ((list_rises i.0).1 (values_rise ds i.0 i.1 up))
  value_rises (object ms) v e up =
      let i = map_some Named (pairs_of_json ms) v e in
      subst MapsRise i.2 ((map_rises i.0).1 (subst Rise (sym (names_stay ms i.0 i.1)) up.0, pairs_rise ms i.0 i.1 up.1))

  values_rise : (ds : Items) (vs : List Value) → values_of_json ds ≡ Some vs → RiseInEach ds → All MapsRise vs
  values_rise no_items vs e up = let s : [] ≡ vs = cc in subst (All MapsRise) s (All-nil MapsRise)
  values_rise (item d ds) vs e up =
      let i = then_some (λ v. option_map (λ l. v ∷ l) (values_of_json ds)) (value_of_json d) vs e in
      let j = map_some (λ l. i.0 ∷ l) (values_of_json ds) vs i.2 in
      subst (All MapsRise) j.2 (All-cons MapsRise i.0 j.0 (value_rises d i.0 i.1 up.0) (values_rise ds j.0 j.1 up.1))

  pub pairs_rise : (ms : Members) (ps : List (List ℕ × Value)) → pairs_of_json ms ≡ Some ps → RiseInMembers ms → All (λ pair. MapsRise pair.1) ps
  pairs_rise no_members ps e up = let s : [] ≡ ps = cc in subst (All RisesPair) s (All-nil RisesPair)
  pairs_rise (member k d ms) ps e up =
      let i = then_some (λ v. option_map (λ l. (k, v) ∷ l) (pairs_of_json ms)) (value_of_json d) ps e in
      let j = map_some (λ l. (k, i.0) ∷ l) (pairs_of_json ms) ps i.2 in
      subst (All RisesPair) j.2 (All-cons RisesPair (k, i.0) j.0 (value_rises d i.0 i.1 up.0) (pairs_rise ms j.0 j.1 up.1))

-- ---- an event or none

abbrev HasEvent : Data → Type 0
HasEvent d = (name : List ℕ) × (attributes : List (List ℕ × Value)) × IsEventJson d name attributes

abbrev HasNone : Data → Type 0
HasNone d = (name : List ℕ) (attributes : List (List ℕ × Value)) → ¬ IsEventJson d name attributes

held : (name : List ℕ) (ms : Members) → MembersRise ms → (o : Option (List (List ℕ × Value))) → pairs_within most_levels ms ≡ o
    → HasEvent (object (member name (object ms) no_members)) ⊎ HasNone (object (member name (object ms) no_members))
held name ms up None e = inr (λ other attributes is.
    let same : ms ≡ is.members = (let one = is.one in cc) in
    let all : pairs_within most_levels ms ≡ Some attributes = pairs_complete most_levels ms attributes (ap pairs_of_json same ∙ is.values) (shallow attributes is.sound) in
    let no : None ≡ Some attributes = sym e ∙ all in
    cc)
held name ms up (Some []) e = inr (λ other attributes is.
    let same : ms ≡ is.members = (let one = is.one in cc) in
    let all : pairs_within most_levels ms ≡ Some attributes = pairs_complete most_levels ms attributes (ap pairs_of_json same ∙ is.values) (shallow attributes is.sound) in
    let empty : Some [] ≡ Some attributes = sym e ∙ all in
    is.some (sym (let s = empty in cc)))
held name ms up (Some (p ∷ ps)) e =
    let s = pairs_sound most_levels ms (p ∷ ps) e in
    let rising = pairs_rise ms (p ∷ ps) s.0 up.1 in
    inl (
      name,
      p ∷ ps,
      record {
        members = ms;
        one = refl;
        values = s.0;
        some = λ z. cc;
        sound = record { rising = subst Rise (sym (names_stay ms (p ∷ ps) s.0)) up.0; values = λ k d lt. record { shallow = s.1 k d lt; rising = rising k d lt } };
      },
    )

event_or_none : (d : Data) → KeysRise d → HasEvent d ⊎ HasNone d
event_or_none null up = inr (λ name attributes is. let one = is.one in cc)
event_or_none (boolean b) up = inr (λ name attributes is. let one = is.one in cc)
event_or_none (number n) up = inr (λ name attributes is. let one = is.one in cc)
event_or_none (string s) up = inr (λ name attributes is. let one = is.one in cc)
event_or_none (array ds) up = inr (λ name attributes is. let one = is.one in cc)
event_or_none (object no_members) up = inr (λ name attributes is. let one = is.one in cc)
event_or_none (object (member k d (member l e ms))) up = inr (λ name attributes is. let one = is.one in cc)
event_or_none (object (member k null no_members)) up = inr (λ name attributes is. let one = is.one in cc)
event_or_none (object (member k (boolean b) no_members)) up = inr (λ name attributes is. let one = is.one in cc)
event_or_none (object (member k (number n) no_members)) up = inr (λ name attributes is. let one = is.one in cc)
event_or_none (object (member k (string s) no_members)) up = inr (λ name attributes is. let one = is.one in cc)
event_or_none (object (member k (array ds) no_members)) up = inr (λ name attributes is. let one = is.one in cc)
event_or_none (object (member k (object ms) no_members)) up = held k ms up.1.0 (pairs_within most_levels ms) refl

of_text : (text : List ℕ) (d : Data) → read (in_braces text) ≡ Some d → HasEvent d ⊎ HasNone d
    → ((name : List ℕ) × (attributes : List (List ℕ × Value)) × IsEventText text name attributes) ⊎ ((name : List ℕ) (attributes : List (List ℕ × Value)) → ¬ IsEventText text name attributes)
of_text text d e (inl (name, attributes, is)) = inl (name, attributes, record { json = d; reading = e; event = is })
of_text text d e (inr none) = inr (λ name attributes is.
    let both : Some is.json ≡ Some d = sym is.reading ∙ e in
    let same : is.json ≡ d = cc in
    none name attributes (subst (λ j. IsEventJson j name attributes) same is.event))

by_reading : (text : List ℕ) (o : Option Data) → read (in_braces text) ≡ o
    → ((name : List ℕ) × (attributes : List (List ℕ × Value)) × IsEventText text name attributes) ⊎ ((name : List ℕ) (attributes : List (List ℕ × Value)) → ¬ IsEventText text name attributes)
by_reading text None e = inr (λ name attributes is. let no : None ≡ Some is.json = sym e ∙ is.reading in cc)
by_reading text (Some d) e = of_text text d e (event_or_none d (text_rises (in_braces text) d e))

pub some_or_none : (text : List ℕ)
    → ((name : List ℕ) × (attributes : List (List ℕ × Value)) × IsEventText text name attributes) ⊎ ((name : List ℕ) (attributes : List (List ℕ × Value)) → ¬ IsEventText text name attributes)
some_or_none text = by_reading text (read (in_braces text)) refl
