-- Unknown members change nothing in values and attributes: by the levels that are left.
use Rattle.std.proofs.Common.{◌≡◌, ℕ, zero, suc, List, [], ◌∷◌, ◌++◌, Option, Some, None, sym, ◌∙◌, subst}
use Rattle.std.specs.List.{AllZip}
use Rattle.serde_json.specs.Data.{Data}
use Rattle.serde_json.specs.Find.{as_array, as_object}
use Rattle.span_io.specs.Paths.{Offences, optional}
use Rattle.trace_model.specs.Remarks.{Keys}
use Rattle.trace_model.specs.declared.value.Value.{Value}
use Rattle.trace_model.specs.declared.value.Value.TheVariants as values
use Rattle.trace_model.specs.declared.noted.KeyValue.{KeyValue}
use Rattle.trace_model.specs.OtlpParts.{NotedValue, leaf, levels_below}
use Rattle.json_members.specs.Agreement.{Agreement, same, both_or_neither, objects_agree, arrays_agree}
use Rattle.json_members.proofs.AgreementLaws.{AgreesBothWays, same_turns, objects_turn, arrays_turn, MeanAlike, given_alike, given_same, array_alike, OffendAlike, OffencesAlike, nothing_alike, two_alike, no_parts_alike, parts_alike, same_alike, optional_alike, each_alike, valued_alike, array_offends_alike, object_offends_alike, by_parts_alike}
use Rattle.json_members.specs.Members.{elements, IsText, text_offends, AreHeld}
use Rattle.otlp_json.specs.Attributes.{AreJsonAttributes, AreJsonPairs, pairs_offend}
use Rattle.otlp_json.specs.Known.{many_known, value_known, key_value_known, inner_values_agree, inner_pairs_agree, values_agree, attributes_agree}
use Rattle.otlp_json.specs.Values.{JsonMember, string_member, bool_member, int_member, double_member, array_member, kvlist_member, bytes_member, standing, standing_members, MeansJsonMember, MeansStanding, IsJsonValue, IsJsonKeyValue, json_value_in, json_key_value_in, json_value_at, json_key_value_at, behind, values_offend, held_offends, many_members, many_offend, json_member_offends, standing_offend, any_value_offends, key_value_members, key_value_offends, inner_value_offends, inner_pair_offends, json_value_offends, json_key_value_offends}

-- ---- both ways round

many_turn : (Held : Agreement) → AgreesBothWays Held → AgreesBothWays (objects_agree (many_known Held))
many_turn Held turns = objects_turn (many_known Held) (arrays_turn Held turns, tt)

value_turns : (Inner Pair : Agreement) → AgreesBothWays Inner → AgreesBothWays Pair → AgreesBothWays (objects_agree (value_known Inner Pair))
value_turns Inner Pair inner pair =
    objects_turn (value_known Inner Pair)
    (same_turns, (same_turns, (same_turns, (same_turns, (many_turn Inner inner, (many_turn Pair pair, (same_turns, tt)))))))

mutual
  unfolding inner_values_agree inner_pairs_agree

  inner_values_turn : (left : ℕ) → AgreesBothWays (inner_values_agree left)
  inner_values_turn zero v w h = tt
  inner_values_turn (suc left) v w h =
      value_turns (inner_values_agree left) (inner_pairs_agree left) (inner_values_turn left) (inner_pairs_turn left) v w h

  inner_pairs_turn : (left : ℕ) → AgreesBothWays (inner_pairs_agree left)
  inner_pairs_turn zero v w h = tt
  inner_pairs_turn (suc left) v w h =
      objects_turn (key_value_known (values_agree left))
      (same_turns, (value_turns (inner_values_agree left) (inner_pairs_agree left) (inner_values_turn left) (inner_pairs_turn left), tt)) v w h

pub attributes_turn : AgreesBothWays attributes_agree
attributes_turn =
    arrays_turn (objects_agree (key_value_known (values_agree levels_below))) (objects_turn (key_value_known (values_agree levels_below))
    (same_turns, (value_turns (inner_values_agree levels_below) (inner_pairs_agree levels_below) (inner_values_turn levels_below) (inner_pairs_turn levels_below), tt)))

-- ---- the members that stand

abbrev MembersAlike : Type 1
MembersAlike = JsonMember → JsonMember → Type 0

module _ (Alike : MembersAlike) where
  standing_alike : (named : Data → JsonMember) (Agree : Agreement) → ((d e : Data) → Agree d e → Alike (named d) (named e))
      → (o p : Option Data) → both_or_neither Agree o p → AllZip Alike (standing named o) (standing named p)
  standing_alike named Agree alike None None h = tt
  standing_alike named Agree alike None (Some e) h = absurd h
  standing_alike named Agree alike (Some d) None h = absurd h
  standing_alike named Agree alike (Some d) (Some e) h = (alike d e h, tt)

  behind_alike : (ms ns more rest : List JsonMember) → AllZip Alike ms ns → AllZip Alike more rest → AllZip Alike (ms ++ more) (ns ++ rest)
  behind_alike [] [] more rest h k = k
  behind_alike [] (n ∷ ns) more rest h k = absurd h
  behind_alike (m ∷ ms) [] more rest h k = absurd h
  behind_alike (m ∷ ms) (n ∷ ns) more rest h k = (h.0, behind_alike ms ns more rest h.1 k)

  -- members that hold the same
  module _ (of_same : (named : Data → JsonMember) (d : Data) → Alike (named d) (named d)) where
    same_member : (named : Data → JsonMember) (d e : Data) → same d e → Alike (named d) (named e)
    same_member named d e h = subst (λ (f : Data). Alike (named d) (named f)) h (of_same named d)

    all_alike : (Inner Pair : Agreement) → ((d e : Data) → objects_agree (many_known Inner) d e → Alike (array_member d) (array_member e))
        → ((d e : Data) → objects_agree (many_known Pair) d e → Alike (kvlist_member d) (kvlist_member e))
        → (v w : Data) → objects_agree (value_known Inner Pair) v w → AllZip Alike (standing_members v) (standing_members w)
    unfolding standing_members
    all_alike Inner Pair arrays maps v w h =
        let m = h.1 in
        behind_alike _ _ _ _ (behind_alike _ _ _ _ (behind_alike _ _ _ _ (behind_alike _ _ _ _ (behind_alike _ _ _ _ (behind_alike _ _ _ _
        (standing_alike string_member same (same_member string_member) _ _ m.0)
        (standing_alike bool_member same (same_member bool_member) _ _ m.1.0))
        (standing_alike int_member same (same_member int_member) _ _ m.1.1.0))
        (standing_alike double_member same (same_member double_member) _ _ m.1.1.1.0))
        (standing_alike array_member (objects_agree (many_known Inner)) arrays _ _ m.1.1.1.1.0))
        (standing_alike kvlist_member (objects_agree (many_known Pair)) maps _ _ m.1.1.1.1.1.0))
        (standing_alike bytes_member same (same_member bytes_member) _ _ m.1.1.1.1.1.1.0)

-- ---- what they mean

module _ (IsValue : NotedValue → Data → Type 0) (IsPair : KeyValue → Data → Type 0) (Inner Pair : Agreement)
    (values_alike : MeanAlike IsValue Inner) (pairs_alike : MeanAlike IsPair Pair) where
  abbrev MemberMeans : MembersAlike
  MemberMeans m n = (r : NotedValue) → MeansJsonMember IsValue IsPair m r → MeansJsonMember IsValue IsPair n r

  list_alike : (v w : Data) → objects_agree (many_known Inner) v w → MemberMeans (array_member v) (array_member w)
  list_alike v w h r is = record {
    shape = sym h.0 ∙ is.shape;
    members = is.members;
    each = given_alike (AreHeld IsValue) (λ ms. ms ≡ []) (arrays_agree Inner) (array_alike IsValue Inner values_alike) _ _ h.1.0 is.members is.each;
    make = is.make;
  }

  map_alike : (v w : Data) → objects_agree (many_known Pair) v w → MemberMeans (kvlist_member v) (kvlist_member w)
  map_alike v w h r is = record {
    shape = sym h.0 ∙ is.shape;
    pairs = is.pairs;
    each = given_alike (AreHeld IsPair) (λ ps. ps ≡ []) (arrays_agree Pair) (array_alike IsPair Pair pairs_alike) _ _ h.1.0 is.pairs is.each;
    make = is.make;
  }

  standing_means : (ms ns : List JsonMember) → AllZip MemberMeans ms ns → (r : NotedValue) → MeansStanding IsValue IsPair ms r → MeansStanding IsValue IsPair ns r
  standing_means [] [] h r is = is
  standing_means [] (n ∷ ns) h r is = absurd h
  standing_means (m ∷ []) [] h r is = absurd h
  standing_means (m ∷ []) (n ∷ []) h r is = h.0 r is
  standing_means (m ∷ []) (n ∷ k ∷ ns) h r is = absurd h.1
  standing_means (m ∷ l ∷ ms) ns h r is = absurd is

  any_value_alike : MeanAlike (IsJsonValue IsValue IsPair) (objects_agree (value_known Inner Pair))
  any_value_alike v w h r is = record {
    shape = sym h.0 ∙ is.shape;
    value = standing_means (standing_members v) (standing_members w) (all_alike MemberMeans (λ named d r is. is) Inner Pair list_alike map_alike v w h) r is.value;
  }

key_value_alike : (IsValue : NotedValue → Data → Type 0) (Inner : Agreement) → MeanAlike IsValue Inner → MeanAlike (IsJsonKeyValue IsValue) (objects_agree (key_value_known Inner))
key_value_alike IsValue Inner alike v w h p is = record {
  shape = sym h.0 ∙ is.shape;
  key = given_same IsText (λ text. text ≡ []) _ _ h.1.0 p.key is.key;
  value = given_alike IsValue (λ r. r ≡ leaf values.Nothing) Inner alike _ _ h.1.1.0 p.value is.value;
}

mutual
  unfolding json_value_in json_key_value_in inner_values_agree inner_pairs_agree

  inner_values_alike : (left : ℕ) → MeanAlike (json_value_in left) (inner_values_agree left)
  inner_values_alike zero v w h r is = absurd is
  inner_values_alike (suc left) v w h r is =
      any_value_alike (json_value_in left) (json_key_value_in left) (inner_values_agree left) (inner_pairs_agree left) (inner_values_alike left) (inner_pairs_alike left) v w h r is

  inner_pairs_alike : (left : ℕ) → MeanAlike (json_key_value_in left) (inner_pairs_agree left)
  inner_pairs_alike zero v w h p is = absurd is
  inner_pairs_alike (suc left) v w h p is =
      key_value_alike (json_value_at left) (values_agree left)
      (any_value_alike (json_value_in left) (json_key_value_in left) (inner_values_agree left) (inner_pairs_agree left) (inner_values_alike left) (inner_pairs_alike left)) v w h p is

pairs_alike : MeanAlike AreJsonPairs attributes_agree
pairs_alike =
    array_alike (json_key_value_at levels_below) (objects_agree (key_value_known (values_agree levels_below)))
    (key_value_alike (json_value_at levels_below) (values_agree levels_below)
    (any_value_alike (json_value_in levels_below) (json_key_value_in levels_below) (inner_values_agree levels_below) (inner_pairs_agree levels_below)
    (inner_values_alike levels_below) (inner_pairs_alike levels_below)))

pub attributes_alike : (attributes : List (List ℕ × Value)) (keys : Keys) (o p : Option Data) → both_or_neither attributes_agree o p
    → AreJsonAttributes attributes keys o → AreJsonAttributes attributes keys p
attributes_alike attributes keys o p h is = record {
  pairs = is.pairs;
  each = given_alike AreJsonPairs (λ ps. ps ≡ []) attributes_agree pairs_alike o p h is.pairs is.each;
  make = is.make;
}

-- ---- what offends in them

offends_behind_alike : (before : ℕ) (First Second : Offences) → OffendAlike First Second → OffendAlike (behind before First) (behind before Second)
offends_behind_alike zero First Second alike = two_alike alike nothing_alike
offends_behind_alike (suc before) First Second alike = two_alike nothing_alike (offends_behind_alike before First Second alike)

values_offend_alike : (left : ℕ) (Offends : Data → Offences) (Agree : Agreement) → OffencesAlike Offends Agree
    → (ds es : List Data) → AllZip Agree ds es → OffendAlike (values_offend left Offends ds) (values_offend left Offends es)
values_offend_alike zero Offends Agree alike [] [] h = nothing_alike
values_offend_alike zero Offends Agree alike [] (e ∷ es) h = absurd h
values_offend_alike zero Offends Agree alike (d ∷ ds) [] h = absurd h
values_offend_alike zero Offends Agree alike (d ∷ ds) (e ∷ es) h = λ path number offends. offends
values_offend_alike (suc left) Offends Agree alike ds es h = each_alike Offends Agree alike ds es h

many_offend_alike : (left : ℕ) (Offends : Data → Offences) (Agree : Agreement) → OffencesAlike Offends Agree → OffencesAlike (many_offend left Offends) (objects_agree (many_known Agree))
unfolding many_members
many_offend_alike left Offends Agree alike v w h =
    by_parts_alike (many_members left Offends) v w h.0
    (parts_alike (optional_alike (held_offends left Offends) (arrays_agree Agree) held _ _ h.1.0) no_parts_alike)
  where
    held : OffencesAlike (held_offends left Offends) (arrays_agree Agree)
    held d e k =
        valued_alike (λ ds. values_offend left Offends (elements ds)) (λ ds es. AllZip Agree (elements ds) (elements es))
        (λ ds es each. values_offend_alike left Offends Agree alike (elements ds) (elements es) each) (as_array d) (as_array e) k

module _ (Lists Maps : Data → Offences) (Inner Pair : Agreement) (list_offence_alike : OffencesAlike Lists (objects_agree (many_known Inner)))
    (maps_alike : OffencesAlike Maps (objects_agree (many_known Pair))) where
  abbrev MemberOffends : MembersAlike
  MemberOffends m n = OffendAlike (json_member_offends Lists Maps m) (json_member_offends Lists Maps n)

  standing_offend_alike : (ms ns : List JsonMember) → AllZip MemberOffends ms ns → OffendAlike (standing_offend Lists Maps ms) (standing_offend Lists Maps ns)
  standing_offend_alike [] [] h = nothing_alike
  standing_offend_alike [] (n ∷ ns) h = absurd h
  standing_offend_alike (m ∷ []) [] h = absurd h
  standing_offend_alike (m ∷ []) (n ∷ []) h = h.0
  standing_offend_alike (m ∷ []) (n ∷ k ∷ ns) h = absurd h.1
  standing_offend_alike (m ∷ l ∷ ms) [] h = absurd h
  standing_offend_alike (m ∷ l ∷ ms) (n ∷ []) h = absurd h.1
  standing_offend_alike (m ∷ l ∷ ms) (n ∷ k ∷ ns) h = λ path number offends. offends

  any_value_offends_alike : OffencesAlike (any_value_offends Lists Maps) (objects_agree (value_known Inner Pair))
  any_value_offends_alike v w h =
      object_offends_alike (standing_offend Lists Maps (standing_members v)) (standing_offend Lists Maps (standing_members w)) (as_object v) (as_object w) h.0
      (standing_offend_alike (standing_members v) (standing_members w)
      (all_alike MemberOffends (λ named d path number offends. offends) Inner Pair
      (λ d e k. offends_behind_alike 4 (Lists d) (Lists e) (list_offence_alike d e k)) (λ d e k. offends_behind_alike 5 (Maps d) (Maps e) (maps_alike d e k)) v w h))

key_value_offends_alike : (Offends : Data → Offences) (Agree : Agreement) → OffencesAlike Offends Agree → OffencesAlike (key_value_offends Offends) (objects_agree (key_value_known Agree))
unfolding key_value_members
key_value_offends_alike Offends Agree alike v w h =
    by_parts_alike (key_value_members Offends) v w h.0
    (parts_alike (same_alike (optional text_offends) _ _ h.1.0) (parts_alike (optional_alike Offends Agree alike _ _ h.1.1.0) no_parts_alike))

value_offends_by : (left : ℕ) → OffencesAlike (inner_value_offends left) (inner_values_agree left) → OffencesAlike (inner_pair_offends left) (inner_pairs_agree left)
    → OffencesAlike (json_value_offends left) (values_agree left)
value_offends_by left values pairs =
    any_value_offends_alike (many_offend left (inner_value_offends left)) (many_offend left (inner_pair_offends left)) (inner_values_agree left) (inner_pairs_agree left)
    (many_offend_alike left (inner_value_offends left) (inner_values_agree left) values) (many_offend_alike left (inner_pair_offends left) (inner_pairs_agree left) pairs)

mutual
  unfolding inner_value_offends inner_pair_offends inner_values_agree inner_pairs_agree

  inner_values_offend_alike : (left : ℕ) → OffencesAlike (inner_value_offends left) (inner_values_agree left)
  inner_values_offend_alike zero v w h = nothing_alike
  inner_values_offend_alike (suc left) v w h = value_offends_by left (inner_values_offend_alike left) (inner_pairs_offend_alike left) v w h

  inner_pairs_offend_alike : (left : ℕ) → OffencesAlike (inner_pair_offends left) (inner_pairs_agree left)
  inner_pairs_offend_alike zero v w h = nothing_alike
  inner_pairs_offend_alike (suc left) v w h =
      key_value_offends_alike (json_value_offends left) (values_agree left) (value_offends_by left (inner_values_offend_alike left) (inner_pairs_offend_alike left)) v w h

pub attributes_offend_alike : (o p : Option Data) → both_or_neither attributes_agree o p → OffendAlike (optional pairs_offend o) (optional pairs_offend p)
attributes_offend_alike o p h =
    optional_alike pairs_offend attributes_agree
    (array_offends_alike (json_key_value_offends levels_below) (objects_agree (key_value_known (values_agree levels_below)))
    (key_value_offends_alike (json_value_offends levels_below) (values_agree levels_below)
    (value_offends_by levels_below (inner_values_offend_alike levels_below) (inner_pairs_offend_alike levels_below)))) o p h
