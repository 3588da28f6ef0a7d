-- Values and attributes mean one thing, or one offence in them counts: by the levels that are left.
use Rattle.std.proofs.Common.{◌≡◌, ℕ, zero, suc, ◌⊎◌, List, [], ◌∷◌, ◌++◌, map, Option, is_some, true, codes, refl, sym, ap, ◌∙◌}
use Rattle.std.specs.Prelude.{◌↔◌, Contains}
use Rattle.std.specs.List.{AllZip, flat_map}
use Rattle.serde_json.specs.Data.{Data}
use Rattle.serde_json.specs.Find.{as_array, as_object}
use Rattle.span_io.specs.declared.cause.Cause.TheVariants as causes
use Rattle.span_io.specs.Paths.{Offences, nothing, optional, Given, Quiet}
use Rattle.span_io.proofs.PathLaws.{clean_nothing, counts_only, quiet_nothing, quiet_parts}
use Rattle.span_io.proofs.PathDecisions.{IsSettled, one, none, decided_as, also, no_more, decided_optional, decided_each, decided_valued, decided_plain, pair}
use Rattle.trace_model.specs.Attributes.{AreAttributes, AreRepeated, AreKeysInOrder, StandsTwice}
use Rattle.trace_model.specs.StatedLaws.{AttributesOnce, AttributesExist}
use Rattle.trace_model.specs.Remarks.{Keys}
use Rattle.trace_model.specs.declared.value.Value.{Value}
use Rattle.trace_model.specs.declared.value.Value.TheVariants as values
use Rattle.trace_model.specs.declared.noted.KeyValue.{KeyValue}
use Rattle.trace_model.specs.OtlpParts.{NotedValue, leaf, entry, keys_inside, levels_below}
use Rattle.json_members.specs.Members.{member, elements, AreHeld}
use Rattle.json_members.proofs.DecisionLaws.{text_decided, truth_decided, spelled_decided, next, last, object_settled, text_settled, array_settled}
use Rattle.json_members.specs.Parts.{joined}
use Rattle.otlp_json.specs.Attributes.{AreJsonAttributes, AreJsonPairs, pairs_offend}
use Rattle.otlp_json.specs.Numbers.{signed_in, SpellsBytes}
use Rattle.otlp_json.specs.Values.{JsonMember, string_member, bool_member, int_member, double_member, array_member, kvlist_member, bytes_member, standing_members, IsJsonList, IsJsonMap, MeansJsonMember, MeansStanding, IsJsonValue, IsJsonKeyValue, json_value_in, json_key_value_in, json_value_at, json_key_value_at, behind, values_offend, held_offends, many_members, many_offend, json_member_offends, standing_offend, any_value_offends, key_value_members, key_value_offends, inner_value_offends, inner_pair_offends, json_value_offends, json_key_value_offends}
use Rattle.otlp_json.proofs.AttributeLemmas.{keys_named}
use Rattle.otlp_json.proofs.SettledMembers.{noted_is}
use Rattle.otlp_json.proofs.SpelledOnce.{bytes_spelled}

-- ---- the one member of a value

quiet_behind : (before : ℕ) (Offends : Offences) → Quiet (behind before Offends)
quiet_behind zero Offends = quiet_parts Offends nothing quiet_nothing
quiet_behind (suc before) Offends = quiet_parts nothing (behind before Offends) (quiet_behind before Offends)

behind_settled : {A : Type 0} {M : A → Type 0} {Offends : Offences} (before : ℕ) → IsSettled M Offends → IsSettled M (behind before Offends)
behind_settled {A} {M} {Offends} zero settled =
    decided_as M (λ p. p.0) (λ p h. h.0) (λ z h. ((z, tt), (h, tt), refl)) (also quiet_nothing settled (λ x means. no_more))
behind_settled {A} {M} {Offends} (suc before) settled =
    decided_as M (λ p. p.1) (λ p h. h.1) (λ z h. ((tt, z), (tt, h), refl)) (also (quiet_behind before Offends) no_more (λ x means. behind_settled before settled))

-- a value without notes
leaf_settled : {A : Type 0} {M : A → Type 0} {Offends : Offences} (make : A → Value) → IsSettled M Offends → IsSettled (λ r. (x : A) × M x × (r ≡ leaf (make x))) Offends
leaf_settled {A} {M} make settled =
    decided_as (λ r. (x : A) × M x × (r ≡ leaf (make x))) (λ x. leaf (make x)) (λ x means. (x, means, refl)) (λ z h. (h.0, h.1, sym h.2)) settled

module _ (IsValue : NotedValue → Data → Type 0) (IsPair : KeyValue → Data → Type 0) (list_offends map_offends : Data → Offences)
    (list_settled : (d : Data) → IsSettled (λ r. IsJsonList IsValue r d) (list_offends d)) (map_settled : (d : Data) → IsSettled (λ r. IsJsonMap IsPair r d) (map_offends d)) where
  member_settled : (m : JsonMember) → IsSettled (λ r. MeansJsonMember IsValue IsPair m r) (json_member_offends list_offends map_offends m)
  member_settled (string_member d) = behind_settled 0 (leaf_settled (λ text. values.Text text) (text_decided d))
  member_settled (bool_member d) = behind_settled 1 (leaf_settled (λ truth. values.Truth truth) (truth_decided d))
  member_settled (int_member d) = behind_settled 2 (leaf_settled (λ z. values.Number z) (decided_plain (signed_in d)))
  member_settled (double_member d) = behind_settled 3 (none causes.DoubleInJson (counts_only 15) (λ r h. h))
  member_settled (array_member d) = behind_settled 4 (list_settled d)
  member_settled (kvlist_member d) = behind_settled 5 (map_settled d)
  member_settled (bytes_member d) = behind_settled 6 (leaf_settled (λ held. values.Bytes held) (spelled_decided SpellsBytes causes.BadShape bytes_spelled d))

  standing_settled : (ms : List JsonMember) → IsSettled (λ r. MeansStanding IsValue IsPair ms r) (standing_offend list_offends map_offends ms)
  standing_settled [] = one (leaf values.Nothing) refl (λ r h. sym h) clean_nothing
  standing_settled (m ∷ []) = member_settled m
  standing_settled (m ∷ n ∷ ms) = none causes.BadShape (counts_only 11) (λ r h. h)

  any_value_settled : (d : Data) → IsSettled (λ r. IsJsonValue IsValue IsPair r d) (any_value_offends list_offends map_offends d)
  any_value_settled d =
      object_settled d (standing_settled (standing_members d)) (λ r. IsJsonValue IsValue IsPair r d) (λ r. r) (λ r shape h. record { shape = shape; value = h })
      (λ r h. (h.shape, (r, h.value, refl)))

key_value_settled : (IsValue : NotedValue → Data → Type 0) (Offends : Data → Offences) → ((d : Data) → IsSettled (λ r. IsValue r d) (Offends d)) → (d : Data)
    → IsSettled (λ p. IsJsonKeyValue IsValue p d) (key_value_offends Offends d)
unfolding key_value_members
key_value_settled IsValue Offends settled d =
    object_settled d
    (next (text_settled d (codes "key")) (next (decided_optional IsValue Offends settled (leaf values.Nothing) (member (codes "value") d)) last)).settled
    (λ p. IsJsonKeyValue IsValue p d) (λ p. record { key = p.0; value = p.1.0 })
    (λ p shape h. record { shape = shape; key = h.0; value = h.1.0 })
    (λ z h. (h.shape, ((z.key, (z.value, tt)), (h.key, (h.value, tt)), refl)))

-- ---- lists and maps

module _ {A : Type 0} (Means : A → Data → Type 0) (left : ℕ) (Offends : Data → Offences) (settled : (ds : List Data) → IsSettled (λ xs. AllZip (λ d x. Means x d) ds xs) (values_offend left Offends ds)) where
  held_settled : (d : Data) → IsSettled (λ xs. AreHeld Means xs d) (held_offends left Offends d)
  held_settled d = decided_valued (λ xs ds. AllZip (λ inner x. Means x inner) (elements ds) xs) (λ ds. values_offend left Offends (elements ds)) (λ ds. settled (elements ds)) (as_array d)

  many_settled : (d : Data)
      → IsSettled (λ (p : List A × Unit {0}). Given (AreHeld Means) (λ xs. xs ≡ []) p.0 (member (codes "values") d) × Unit {0}) (joined (many_members left Offends d))
  unfolding many_members
  many_settled d = (next (decided_optional (AreHeld Means) (held_offends left Offends) held_settled [] (member (codes "values") d)) last).settled

list_settled : (IsValue : NotedValue → Data → Type 0) (left : ℕ) (Offends : Data → Offences) → ((ds : List Data) → IsSettled (λ rs. AllZip (λ d r. IsValue r d) ds rs) (values_offend left Offends ds))
    → (d : Data) → IsSettled (λ r. IsJsonList IsValue r d) (many_offend left Offends d)
list_settled IsValue left Offends settled d =
    object_settled d (many_settled IsValue left Offends settled d) (λ r. IsJsonList IsValue r d) (λ p. record { means = values.List (map (λ m. m.means) p.0); notes = flat_map (λ m. m.notes) p.0 })
    (λ p shape h. record { shape = shape; members = p.0; each = h.0; make = record { value = refl; noted = refl } })
    (λ z h. (h.shape, ((h.members, tt), (h.each, tt), noted_is z _ _ h.make.value h.make.noted)))

-- no element stands where no level is left
too_deep : {A : Type 0} (Means : A → Data → Type 0) (Offends : Data → Offences) → ((x : A) (d : Data) → Means x d → ⊥) → (ds : List Data)
    → IsSettled (λ xs. AllZip (λ d x. Means x d) ds xs) (values_offend zero Offends ds)
too_deep {A} Means Offends never [] = one [] tt only clean_nothing
  where
    only : (ys : List A) → AllZip (λ d x. Means x d) [] ys → [] ≡ ys
    only [] h = refl
    only (y ∷ ys) h = absurd h
too_deep {A} Means Offends never (d ∷ ds) = none causes.TooDeep (counts_only 5) fails
  where
    fails : (ys : List A) → AllZip (λ d x. Means x d) (d ∷ ds) ys → ⊥
    fails [] h = h
    fails (y ∷ ys) h = never y d h.0

module _ (once : AttributesOnce) (exist : AttributesExist) where
  -- what pairs make
  kept_of : List (List ℕ × Value) → List (List ℕ × Value)
  kept_of pairs = (exist.attributes pairs).0

  repeated_of : List (List ℕ × Value) → Keys
  repeated_of pairs = (exist.repeated pairs).0

  are_kept : (pairs : List (List ℕ × Value)) → AreAttributes (kept_of pairs) pairs
  unfolding kept_of
  are_kept pairs = (exist.attributes pairs).1

  are_repeated : (pairs : List (List ℕ × Value)) → AreRepeated (repeated_of pairs) pairs
  unfolding repeated_of
  are_repeated pairs = (exist.repeated pairs).1

  map_settled : (IsPair : KeyValue → Data → Type 0) (left : ℕ) (Offends : Data → Offences) → ((ds : List Data) → IsSettled (λ ps. AllZip (λ d p. IsPair p d) ds ps) (values_offend left Offends ds))
      → (d : Data) → IsSettled (λ r. IsJsonMap IsPair r d) (many_offend left Offends d)
  map_settled IsPair left Offends settled d =
      object_settled d (many_settled IsPair left Offends settled d) (λ r. IsJsonMap IsPair r d) (λ p. made p.0) (λ p shape h. there p.0 shape h.0)
      (λ z h. (h.shape, ((h.pairs, tt), (h.each, tt), back z h)))
    where
      made : List KeyValue → NotedValue
      made pairs = record { means = values.Map (kept_of (map entry pairs)); notes = keys_inside pairs ++ repeated_of (map entry pairs) }

      there : (pairs : List KeyValue) → is_some (as_object d) ≡ true → Given (AreHeld IsPair) (λ ps. ps ≡ []) pairs (member (codes "values") d) → IsJsonMap IsPair (made pairs) d
      there pairs shape h = record {
        shape = shape;
        pairs = pairs;
        each = h;
        make = record {
          attributes = kept_of (map entry pairs);
          kept = are_kept (map entry pairs);
          repeated = repeated_of (map entry pairs);
          twice = are_repeated (map entry pairs);
          value = refl;
          noted = refl;
        };
      }

      back : (z : NotedValue) (h : IsJsonMap IsPair z d) → made h.pairs ≡ z
      back z h =
          let attributes = once.attributes (map entry h.pairs) h.make.attributes (kept_of (map entry h.pairs)) h.make.kept (are_kept (map entry h.pairs)) in
          let repeated = once.repeated (map entry h.pairs) h.make.repeated (repeated_of (map entry h.pairs)) h.make.twice (are_repeated (map entry h.pairs)) in
          noted_is z _ _ (h.make.value ∙ ap (λ list. values.Map list) attributes) (h.make.noted ∙ ap (λ keys. keys_inside h.pairs ++ keys) repeated)

  -- ---- by the levels that are left

  module _ (left : ℕ) (settled : (ds : List Data) → IsSettled (λ rs. AllZip (λ d r. json_value_in left r d) ds rs) (values_offend left (inner_value_offends left) ds))
      (pairs_too : (ds : List Data) → IsSettled (λ ps. AllZip (λ d p. json_key_value_in left p d) ds ps) (values_offend left (inner_pair_offends left) ds)) where
    value_over : (d : Data) → IsSettled (λ r. json_value_at left r d) (json_value_offends left d)
    value_over d =
        any_value_settled (json_value_in left) (json_key_value_in left) (many_offend left (inner_value_offends left)) (many_offend left (inner_pair_offends left))
        (λ inner. list_settled (json_value_in left) left (inner_value_offends left) settled inner) (λ inner. map_settled (json_key_value_in left) left (inner_pair_offends left) pairs_too inner) d

  mutual
    unfolding json_value_in json_key_value_in inner_value_offends inner_pair_offends

    values_settled : (left : ℕ) (ds : List Data) → IsSettled (λ rs. AllZip (λ d r. json_value_in left r d) ds rs) (values_offend left (inner_value_offends left) ds)
    values_settled zero ds = too_deep (λ r d. json_value_in zero r d) (inner_value_offends zero) (λ r d h. h) ds
    values_settled (suc left) ds = decided_each (json_value_in (suc left)) (inner_value_offends (suc left)) (λ d. value_over left (values_settled left) (pairs_settled left) d) ds

    pairs_settled : (left : ℕ) (ds : List Data) → IsSettled (λ ps. AllZip (λ d p. json_key_value_in left p d) ds ps) (values_offend left (inner_pair_offends left) ds)
    pairs_settled zero ds = too_deep (λ p d. json_key_value_in zero p d) (inner_pair_offends zero) (λ p d h. h) ds
    pairs_settled (suc left) ds =
        decided_each (json_key_value_in (suc left)) (inner_pair_offends (suc left))
        (λ d. key_value_settled (json_value_at left) (json_value_offends left) (value_over left (values_settled left) (pairs_settled left)) d) ds

  pub value_settled : (left : ℕ) (d : Data) → IsSettled (λ r. json_value_at left r d) (json_value_offends left d)
  value_settled left d = value_over left (values_settled left) (pairs_settled left) d

  key_values_settled : (d : Data) → IsSettled (λ p. json_key_value_at levels_below p d) (json_key_value_offends levels_below d)
  key_values_settled d = key_value_settled (json_value_at levels_below) (json_value_offends levels_below) (value_settled levels_below) d

  -- ---- attributes

  module _ (pairs : List KeyValue) where
    -- the keys that are noted of pairs, before they are put in order
    gathered : Keys
    gathered = keys_inside pairs ++ repeated_of (map entry pairs)

    keys_of : Keys
    keys_of = (exist.in_order gathered).0

    in_order : AreKeysInOrder keys_of gathered
    unfolding keys_of
    in_order = (exist.in_order gathered).1

    noted_of : (key : List ℕ) → Contains keys_of key ↔ (StandsTwice key (map entry pairs) ⊎ Contains (keys_inside pairs) key)
    unfolding gathered
    noted_of = keys_named (map entry pairs) (repeated_of (map entry pairs)) (keys_inside pairs) gathered keys_of (are_repeated (map entry pairs)) refl in_order.same

    made_of : (o : Option Data) → Given AreJsonPairs (λ ps. ps ≡ []) pairs o → AreJsonAttributes (kept_of (map entry pairs)) keys_of o
    made_of o h = record { pairs = pairs; each = h; make = record { kept = are_kept (map entry pairs); rising = in_order.rising; noted = noted_of } }

  same_attributes : (o : Option Data) (attributes : List (List ℕ × Value)) (keys : Keys) (h : AreJsonAttributes attributes keys o)
      → ◌≡◌ {A = List (List ℕ × Value) × Keys} (kept_of (map entry h.pairs), keys_of h.pairs) (attributes, keys)
  same_attributes o attributes keys h =
      pair (kept_of (map entry h.pairs)) attributes (keys_of h.pairs) keys
      (once.attributes (map entry h.pairs) (kept_of (map entry h.pairs)) attributes (are_kept (map entry h.pairs)) h.make.kept)
      (once.same_keys (keys_of h.pairs) keys (in_order h.pairs).rising h.make.rising
      (λ key. ((λ k. (h.make.noted key).1 ((noted_of h.pairs key).0 k)), (λ k. (noted_of h.pairs key).1 ((h.make.noted key).0 k)))))

  pub attributes_settled : (d : Data) (name : List ℕ) → IsSettled (λ (p : List (List ℕ × Value) × Keys). AreJsonAttributes p.0 p.1 (member name d)) (optional pairs_offend (member name d))
  attributes_settled d name =
      decided_as (λ (p : List (List ℕ × Value) × Keys). AreJsonAttributes p.0 p.1 (member name d)) (λ pairs. (kept_of (map entry pairs), keys_of pairs)) (λ pairs h. made_of pairs (member name d) h)
      (λ z h. (h.pairs, h.each, same_attributes (member name d) z.0 z.1 h))
      (array_settled (json_key_value_at levels_below) (json_key_value_offends levels_below) key_values_settled (member name d))
