-- What is read of a text can be held: values and attributes are sound and proper, and no double stands in them.
use Rattle.std.proofs.Common.{◌≡◌, ℕ, zero, suc, ◌+◌, ◌<◌, ◌≤◌, ◌^◌, ℤ, pos, negsuc, List, [], ◌∷◌, ◌++◌, map, All, Bool, true, false, nat_lt, if◌then◌else◌, Option, Some, None, option_and_then, codes, refl, sym, subst, ◌∙◌, arith}
use Rattle.std.specs.Prelude.{FitsSigned}
use Rattle.std.specs.Int.{w64}
use Rattle.std.specs.List.{AllByRecursion, list_any}
use Rattle.std.proofs.lemmas.Bool.{ltb-true}
use Rattle.std.proofs.lemmas.List.{map-id}
use Rattle.std.proofs.lemmas.List.Elements.{All-nil, All-cons, All-head, All-append, All-weaker}
use Rattle.std.proofs.lemmas.List.Folds.{list_any_none}
use Rattle.serde_json.specs.Data.{Data, Items, no_items, item}
use Rattle.span_io.specs.Paths.{Given}
use Rattle.trace_model.specs.Attributes.{Rise, keys}
use Rattle.trace_model.specs.EventTexts.{holds_double}
use Rattle.trace_model.specs.StatedLaws.{MembersOfValues, MembersOfProperValues, TextsOfValues}
use Rattle.trace_model.specs.declared.noted.KeyValue.{KeyValue}
use Rattle.trace_model.specs.OtlpParts.{levels_below, NotedValue, leaf, entry}
use Rattle.trace_model.specs.Proper.{IsProperValue, IsProperPair, AreProper}
use Rattle.trace_model.specs.Remarks.{Keys}
use Rattle.trace_model.specs.Values.{depth, MapsRise, IsSound, AreSound, most_levels}
use Rattle.trace_model.specs.ValueTexts.{has_double}
use Rattle.trace_model.specs.declared.value.Value.{Value}
use Rattle.trace_model.specs.declared.value.Value.TheVariants as values
use Rattle.trace_model.proofs.PartLaws.{each_in_range}
use Rattle.trace_model.proofs.PartLaws.{Sound, kept_all}
use Rattle.json_members.specs.Members.{member, elements, AreHeld}
use Rattle.json_members.proofs.SoundLaws.{member_sound, text_sound, given_text, array_sound, Sound as InUtf8, ItemsSound as AllInUtf8}
use Rattle.json_members.proofs.Utf8Laws.{HoldsOf}
use Rattle.otlp_json.specs.Attributes.{AreJsonAttributes}
use Rattle.otlp_json.specs.Numbers.{integer_in, unsigned_below, signed_fitting, unsigned_in, signed_in, IsJsonUnsigned, IsJsonSigned}
use Rattle.otlp_json.specs.Values.{JsonMember, string_member, bool_member, int_member, double_member, array_member, kvlist_member, bytes_member, standing, standing_members, IsJsonList, IsJsonMap, MeansJsonMember, MeansStanding, IsJsonValue, IsJsonKeyValue, json_value_in, json_key_value_in, json_key_value_at}

-- ---- sound, proper and without doubles

pub record Held {X : Type 0} (IsSoundHere IsProperHere : X → Type 0) (double : X → Bool) (x : X) : Type 0 where
  pub sound : IsSoundHere x
  pub proper : IsProperHere x
  pub no_double : double x ≡ false

pub all_held : {X : Type 0} (IsSoundHere IsProperHere : X → Type 0) (double : X → Bool) (xs : List X) → All (Held IsSoundHere IsProperHere double) xs → Held (All IsSoundHere) (All IsProperHere) (list_any double) xs
all_held IsSoundHere IsProperHere double xs h = record {
  sound = All-weaker (Held IsSoundHere IsProperHere double) IsSoundHere (λ x k. k.sound) xs h;
  proper = All-weaker (Held IsSoundHere IsProperHere double) IsProperHere (λ x k. k.proper) xs h;
  no_double = list_any_none double xs (All-weaker (Held IsSoundHere IsProperHere double) (λ x. double x ≡ false) (λ x k. k.no_double) xs h);
}

abbrev pub HeldValue : ℕ → Value → Type 0
HeldValue d v = Held (Sound d) IsProperValue has_double v

abbrev pub HeldPair : ℕ → List ℕ × Value → Type 0
HeldPair d pair = Held (λ (p : List ℕ × Value). Sound d p.1) IsProperPair (λ p. has_double p.1) pair

abbrev pub HeldAttributes : List (List ℕ × Value) → Type 0
HeldAttributes attributes = Held AreSound AreProper holds_double attributes

-- ---- members that may be absent

-- what its default and each that is meant have
pub given_has : {A : Type 0} (Means : A → Data → Type 0) (absent : A) (P : A → Type 0) → P absent → ((x : A) (d : Data) → InUtf8 d → Means x d → P x)
    → (x : A) (o : Option Data) → HoldsOf InUtf8 o → Given Means (λ y. y ≡ absent) x o → P x
given_has Means absent P none some x None utf8 h = subst P (sym h) none
given_has Means absent P none some x (Some d) utf8 h = some x d utf8 h

elements_utf8 : (ds : Items) → AllInUtf8 ds → AllByRecursion InUtf8 (elements ds)
elements_utf8 no_items h = tt
elements_utf8 (item d ds) h = (h.0, elements_utf8 ds h.1)

-- what each element has, of an array that may be absent
pub each_has : {A B : Type 0} (Means : A → Data → Type 0) (f : A → B) (P : B → Type 0) → ((x : A) (d : Data) → InUtf8 d → Means x d → P (f x))
    → (xs : List A) (o : Option Data) → HoldsOf InUtf8 o → Given (AreHeld Means) (λ ys. ys ≡ []) xs o → All P (map f xs)
each_has Means f P so xs None utf8 h = subst (λ ys. All P (map f ys)) (sym h) (All-nil P)
each_has Means f P so xs (Some d) utf8 h = each_in_range (λ e x. Means x e) f InUtf8 P so (elements h.held) xs (elements_utf8 h.held (array_sound d h.held utf8 h.shape)) h.means

pub each_of : {A : Type 0} (Means : A → Data → Type 0) (P : A → Type 0) → ((x : A) (d : Data) → InUtf8 d → Means x d → P x)
    → (xs : List A) (o : Option Data) → HoldsOf InUtf8 o → Given (AreHeld Means) (λ ys. ys ≡ []) xs o → All P xs
each_of {A} Means P so xs o utf8 h = subst (All P) (map-id xs) (each_has Means (λ (x : A). x) P so xs o utf8 h)

-- ---- numbers

below : (limit n : ℕ) (o : Option ℤ) → option_and_then (unsigned_below limit) o ≡ Some n → n < limit
below limit n None e = cc
below limit n (Some (pos m)) e = on (nat_lt m limit) refl e
  where
    on : (b : Bool) → nat_lt m limit ≡ b → (if b then Some m else None) ≡ Some n → n < limit
    on true k f = let same : m ≡ n = cc in subst (λ i. i < limit) same (ltb-true m limit k)
    on false k f = cc
below limit n (Some (negsuc m)) e = cc

fitting : (z : ℤ) (o : Option ℤ) → option_and_then signed_fitting o ≡ Some z → FitsSigned w64 z
fitting z None e = cc
fitting z (Some (pos n)) e = on (nat_lt n (2 ^ 63)) refl e
  where
    on : (b : Bool) → nat_lt n (2 ^ 63) ≡ b → (if b then Some (pos n) else None) ≡ Some z → FitsSigned w64 z
    on true k f = let same : pos n ≡ z = cc in subst (FitsSigned w64) same (record { sfits = ltb-true n (2 ^ 63) k })
    on false k f = cc
fitting z (Some (negsuc n)) e = on (nat_lt n (2 ^ 63)) refl e
  where
    on : (b : Bool) → nat_lt n (2 ^ 63) ≡ b → (if b then Some (negsuc n) else None) ≡ Some z → FitsSigned w64 z
    on true k f = let same : negsuc n ≡ z = cc in subst (FitsSigned w64) same (record { sfits = ltb-true n (2 ^ 63) k })
    on false k f = cc

signed_fits : (z : ℤ) (d : Data) → IsJsonSigned z d → FitsSigned w64 z
unfolding signed_in
signed_fits z d h = fitting z (integer_in d) h

unsigned_fits : (limit n : ℕ) (d : Data) → IsJsonUnsigned limit n d → n < limit
unfolding unsigned_in
unsigned_fits limit n d h = below limit n (integer_in d) h

pub number_fits : (limit n : ℕ) (o : Option Data) → 0 < limit → Given (IsJsonUnsigned limit) (λ k. k ≡ 0) n o → n < limit
number_fits limit n None some h = omega (arith, h, some)
number_fits limit n (Some d) some h = unsigned_fits limit n d h

-- ---- the members of a value

abbrev data_in : JsonMember → Data
data_in (string_member d) = d
data_in (bool_member d) = d
data_in (int_member d) = d
data_in (double_member d) = d
data_in (array_member d) = d
data_in (kvlist_member d) = d
data_in (bytes_member d) = d

abbrev MemberInUtf8 : JsonMember → Type 0
MemberInUtf8 m = InUtf8 (data_in m)

module _ (d : Data) (utf8 : InUtf8 d) where
  one_utf8 : (named : Data → JsonMember) → ((e : Data) → data_in (named e) ≡ e) → (name : List ℕ) → All MemberInUtf8 (standing named (member name d))
  one_utf8 named same name = on (member name d) (member_sound name d utf8)
    where
      on : (o : Option Data) → HoldsOf InUtf8 o → All MemberInUtf8 (standing named o)
      on None h = All-nil MemberInUtf8
      on (Some e) h = All-cons MemberInUtf8 (named e) [] (subst InUtf8 (sym (same e)) h) (All-nil MemberInUtf8)

  more_utf8 : (before : List JsonMember) → All MemberInUtf8 before → (named : Data → JsonMember) → ((e : Data) → data_in (named e) ≡ e) → (name : List ℕ) → All MemberInUtf8 (before ++ standing named (member name d))
  more_utf8 before all named same name = All-append MemberInUtf8 before (standing named (member name d)) all (one_utf8 named same name)

  standing_utf8 : All MemberInUtf8 (standing_members d)
  unfolding standing_members
  standing_utf8 =
      let texts = one_utf8 string_member (λ e. refl) (codes "stringValue") in
      let truths = more_utf8 _ texts bool_member (λ e. refl) (codes "boolValue") in
      let numbers = more_utf8 _ truths int_member (λ e. refl) (codes "intValue") in
      let doubles = more_utf8 _ numbers double_member (λ e. refl) (codes "doubleValue") in
      let lists = more_utf8 _ doubles array_member (λ e. refl) (codes "arrayValue") in
      let maps = more_utf8 _ lists kvlist_member (λ e. refl) (codes "kvlistValue") in
      more_utf8 _ maps bytes_member (λ e. refl) (codes "bytesValue")

-- ---- values

-- what is known of lists and maps by their members
pub record ValueLaws : Type 0 where
  pub depths : MembersOfValues
  pub proper : MembersOfProperValues
  pub doubles : TextsOfValues

leaf_held : (d : ℕ) (r : NotedValue) (v : Value) → depth v ≡ 1 → MapsRise v → has_double v ≡ false → IsProperValue v → r ≡ leaf v → HeldValue (d + 1) r.means
leaf_held d r v one rises none proper e = subst (λ (x : NotedValue). HeldValue (d + 1) x.means) (sym e) (record { sound = record { shallow = omega (arith, one); rising = rises }; proper = proper; no_double = none })

module _ (L : ValueLaws) where
  list_held : (d : ℕ) (members : List Value) → All (HeldValue d) members → HeldValue (d + 1) (values.List members)
  list_held d members all =
      let h = all_held (Sound d) IsProperValue has_double members all in
      record {
        sound = record {
          shallow = (L.depths.list_depth d members).1 (All-weaker (Sound d) (λ v. depth v ≤ d) (λ v s. s.shallow) members h.sound);
          rising = (L.depths.list_rises members).1 (All-weaker (Sound d) MapsRise (λ v s. s.rising) members h.sound);
        };
        proper = (L.proper.list members).1 h.proper;
        no_double = L.doubles.list_double members ∙ h.no_double;
      }

  map_held : (d : ℕ) (pairs : List (List ℕ × Value)) → Rise (keys pairs) → All (HeldPair d) pairs → HeldValue (d + 1) (values.Map pairs)
  map_held d pairs rise all =
      let h = all_held (λ (p : List ℕ × Value). Sound d p.1) IsProperPair (λ p. has_double p.1) pairs all in
      record {
        sound = record {
          shallow = (L.depths.map_depth d pairs).1 (All-weaker (λ (p : List ℕ × Value). Sound d p.1) (λ p. depth p.1 ≤ d) (λ p s. s.shallow) pairs h.sound);
          rising = (L.depths.map_rises pairs).1 (rise, All-weaker (λ (p : List ℕ × Value). Sound d p.1) (λ p. MapsRise p.1) (λ p s. s.rising) pairs h.sound);
        };
        proper = (L.proper.map pairs).1 h.proper;
        no_double = L.doubles.map_double pairs ∙ h.no_double;
      }

  module _ (d : ℕ) (IsValue : NotedValue → Data → Type 0) (IsPair : KeyValue → Data → Type 0)
      (values_held : (r : NotedValue) (e : Data) → InUtf8 e → IsValue r e → HeldValue d r.means) (pairs_held : (p : KeyValue) (e : Data) → InUtf8 e → IsPair p e → HeldPair d (entry p)) where
    list_member_held : (r : NotedValue) (e : Data) → InUtf8 e → IsJsonList IsValue r e → HeldValue (d + 1) r.means
    list_member_held r e utf8 is = subst (HeldValue (d + 1)) (sym is.make.value)
        (list_held d (map (λ m. m.means) is.members) (each_has IsValue (λ m. m.means) (HeldValue d) values_held is.members (member (codes "values") e) (member_sound (codes "values") e utf8) is.each))

    map_member_held : (r : NotedValue) (e : Data) → InUtf8 e → IsJsonMap IsPair r e → HeldValue (d + 1) r.means
    map_member_held r e utf8 is = subst (HeldValue (d + 1)) (sym is.make.value) (map_held d is.make.attributes is.make.kept.rising (kept_all (HeldPair d) is.make.attributes (map entry is.pairs) is.make.kept
        (each_has IsPair entry (HeldPair d) pairs_held is.pairs (member (codes "values") e) (member_sound (codes "values") e utf8) is.each)))

    member_held : (m : JsonMember) (r : NotedValue) → MemberInUtf8 m → MeansJsonMember IsValue IsPair m r → HeldValue (d + 1) r.means
    member_held (string_member e) r utf8 h = leaf_held d r (values.Text h.0) refl tt refl (text_sound e h.0 utf8 h.1) h.2
    member_held (bool_member e) r utf8 h = leaf_held d r (values.Truth h.0) refl tt refl tt h.2
    member_held (int_member e) r utf8 h = leaf_held d r (values.Number h.0) refl tt refl (signed_fits h.0 e h.1) h.2
    member_held (double_member e) r utf8 h = absurd h
    member_held (array_member e) r utf8 h = list_member_held r e utf8 h
    member_held (kvlist_member e) r utf8 h = map_member_held r e utf8 h
    member_held (bytes_member e) r utf8 h = leaf_held d r (values.Bytes h.0) refl tt refl h.1.means.0 h.2

    value_held : (r : NotedValue) (e : Data) → InUtf8 e → IsJsonValue IsValue IsPair r e → HeldValue (d + 1) r.means
    value_held r e utf8 is = of (standing_members e) (standing_utf8 e utf8) is.value
      where
        of : (ms : List JsonMember) → All MemberInUtf8 ms → MeansStanding IsValue IsPair ms r → HeldValue (d + 1) r.means
        of [] all h = leaf_held d r values.Nothing refl tt refl tt h
        of (m ∷ []) all h = member_held m r (All-head MemberInUtf8 m [] all) h
        of (m ∷ n ∷ ms) all h = absurd h

    pair_held : (p : KeyValue) (e : Data) → InUtf8 e → IsJsonKeyValue (λ r inner. IsJsonValue IsValue IsPair r inner) p e → HeldPair (d + 1) (entry p)
    pair_held p e utf8 is =
        let h = given_has (λ r inner. IsJsonValue IsValue IsPair r inner) (leaf values.Nothing) (λ (r : NotedValue). HeldValue (d + 1) r.means)
        (leaf_held d (leaf values.Nothing) values.Nothing refl tt refl tt refl) value_held p.value (member (codes "value") e) (member_sound (codes "value") e utf8) is.value in
        record { sound = h.sound; proper = record { key = given_text p.key (member (codes "key") e) (member_sound (codes "key") e utf8) is.key; value = h.proper }; no_double = h.no_double }

  -- the levels as they are counted
  counted : (left : ℕ) (v : Value) → Sound (left + 1) v → Sound (suc left) v
  counted left v h = record { shallow = omega (arith, h.shallow); rising = h.rising }

  mutual
    unfolding json_value_in json_key_value_in

    value_in_held : (left : ℕ) (r : NotedValue) (e : Data) → InUtf8 e → json_value_in left r e → HeldValue left r.means
    value_in_held zero r e utf8 is = absurd is
    value_in_held (suc left) r e utf8 is =
        let h = value_held left (json_value_in left) (json_key_value_in left) (value_in_held left) (pair_in_held left) r e utf8 is in
        record { sound = counted left r.means h.sound; proper = h.proper; no_double = h.no_double }

    pair_in_held : (left : ℕ) (p : KeyValue) (e : Data) → InUtf8 e → json_key_value_in left p e → HeldPair left (entry p)
    pair_in_held zero p e utf8 is = absurd is
    pair_in_held (suc left) p e utf8 is =
        let h = pair_held left (json_value_in left) (json_key_value_in left) (value_in_held left) (pair_in_held left) p e utf8 is in
        record { sound = counted left p.value.means h.sound; proper = h.proper; no_double = h.no_double }

  -- ---- attributes

  attribute_held : (p : KeyValue) (e : Data) → InUtf8 e → json_key_value_at levels_below p e → HeldPair most_levels (entry p)
  attribute_held p e utf8 is = pair_held levels_below (json_value_in levels_below) (json_key_value_in levels_below) (value_in_held levels_below) (pair_in_held levels_below) p e utf8 is

  pub attributes_held : (attributes : List (List ℕ × Value)) (noted : Keys) (o : Option Data) → HoldsOf InUtf8 o → AreJsonAttributes attributes noted o → HeldAttributes attributes
  attributes_held attributes noted o utf8 is =
      let all = kept_all (HeldPair most_levels) attributes (map entry is.pairs) is.make.kept (each_has (json_key_value_at levels_below) entry (HeldPair most_levels) attribute_held is.pairs o utf8 is.each) in
      let h = all_held (λ (p : List ℕ × Value). Sound most_levels p.1) IsProperPair (λ p. has_double p.1) attributes all in
      record {
        sound = record {
          rising = is.make.kept.rising;
          values = All-weaker (λ (p : List ℕ × Value). Sound most_levels p.1) (λ p. IsSound p.1) (λ p s. record { shallow = s.shallow; rising = s.rising }) attributes h.sound;
        };
        proper = h.proper;
        no_double = h.no_double;
      }
