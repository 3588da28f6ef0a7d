-- Bytes are decided as values, lists, maps, `KeyValue`s and attributes: they mean one, or an offence in them counts.
use Rattle.std.proofs.Common.{◌≡◌, ◌≢◌, ◌≤◌, ℕ, zero, suc, ◌⊎◌, inl, inr, List, [], ◌∷◌, ◌++◌, map, Bool, true, false, ◌==◌, if◌then◌else◌, refl, ap, ⊎_elim, arith}
use Rattle.std.specs.Prelude.{◌↔◌, Contains, IsTrue}
use Rattle.std.specs.Int.{w64, cast_signed, to_be_bytes}
use Rattle.std.specs.List.{AllZip, flat_map}
use Rattle.std.proofs.lemmas.Bool.{cases_eq, eqb-true}
use Rattle.std.proofs.lemmas.List.Elements.{Contains-append_left, Contains-append_right, Contains-append_cases}
use Rattle.span_io.specs.Causes.{cause_number}
use Rattle.span_io.specs.declared.cause.Cause.{Cause}
use Rattle.span_io.specs.declared.cause.Cause.TheVariants as causes
use Rattle.span_io.specs.Offences.{Offence, Least}
use Rattle.span_io.specs.Offences.{RulesLaws}
use Rattle.span_io.specs.Tables.{Row, Singular, Twice, rules_by, no_ends}
use Rattle.span_io.proofs.TableLaws.{TableShape}
use Rattle.span_io.specs.Tables.{Whole}
use Rattle.span_io.proofs.TableDecisions.{Decided, DecidedHere, Clean, RowDecides, TableDecides, Apart, Means, decide_message}
use Rattle.span_io.specs.Tables.{Next}
use Rattle.proto_wire.specs.Messages.{messages}
use Rattle.proto_wire.specs.Records.{Held, varint, fixed64, bytes, fixed32, Record}
use Rattle.proto_wire.specs.Wire.{Wire}
use Rattle.trace_model.specs.Attributes.{AreRepeated, StandsTwice}
use Rattle.trace_model.specs.StatedLaws.{AttributesOnce, AttributesExist}
use Rattle.trace_model.specs.declared.value.Value.{Value}
use Rattle.trace_model.specs.declared.value.Value.TheVariants as values
use Rattle.otlp_proto.specs.StatedLaws.{WireFacts}
use Rattle.otlp_proto.specs.Attributes.{attribute_at, attribute_rules, AttributesOf, attributes}
use Rattle.trace_model.specs.Remarks.{Keys}
use Rattle.otlp_proto.specs.Rows.{bytes_in, varint_in, fixed64_in, fixed32_in, bytes_of, bytes_row}
use Rattle.otlp_proto.proofs.Shapes.{shape_of_value, shape_of_key_value, many_shape, value_bounded, key_value_bounded, list_laws, map_laws, value_laws, key_value_laws}
use Rattle.otlp_proto.specs.Values.{Member, string_value, bool_value, int_value, double_value, array_value, kvlist_value, bytes_value, member_in, IsListText, IsMapText, MeansMember, value_in, key_value_in, value_at, key_value_at, BadMember, InMember, many_table, value_offends, key_value_offends, table_of_value, value_rules, table_of_key_value, key_value_rules, list_rules, map_rules}
use Rattle.trace_model.specs.declared.noted.Noted.{Noted}
use Rattle.trace_model.specs.declared.noted.KeyValue.{KeyValue}
use Rattle.trace_model.specs.OtlpParts.{NotedValue, leaf, entry, keys_inside, levels_below}
use Rattle.otlp_proto.proofs.RowDecisions.{Chosen, chosen_decided, text_decides, message_decides, all_of}
use Rattle.span_io.proofs.RowLaws.{twice_or, one_number, not_text, utf8_or, singular_exists}
use Rattle.otlp_proto.proofs.ValueReadings.{list_reads, map_reads, value_at_reads, key_value_at_reads, attribute_reads}

-- a message's records, to its end
pub whole_wire : (records : List Record) (text : List ℕ) → Whole messages records text → Wire records text
unfolding Wire Whole
whole_wire [] text whole = whole
whole_wire (r ∷ more) text whole = (whole.0, whole.1, whole_wire more whole.0 whole.2)

-- ---- what a record is that gives something to a row

abbrev pub record_of : ℕ → Held → Record
record_of number held = record { number = number; held = held }

is_held : {A : Type 0} (hold : A → Held) (k number : ℕ) (b : Bool) (held x : A) → (k == number) ≡ b → (if b then held ∷ [] else []) ≡ x ∷ [] → record_of k (hold held) ≡ record_of number (hold x)
is_held hold k number true held x same e =
    let equal : k ≡ number = eqb-true k number same in
    let holds : held ≡ x = cc in
    λ i. record { number = equal i; held = hold (holds i) }
is_held hold k number false held x same e = cc

pub bytes_is : (number : ℕ) (r : Record) (x : List ℕ) → bytes_in number r ≡ x ∷ [] → r ≡ record_of number (bytes x)
bytes_is number r x e = of r.held e
  where
    of : (h : Held) → bytes_in number (record_of r.number h) ≡ x ∷ [] → record_of r.number h ≡ record_of number (bytes x)
    of (bytes held) e = is_held bytes r.number number (r.number == number) held x refl e
    of (varint n) e = cc
    of (fixed64 n) e = cc
    of (fixed32 n) e = cc

pub varint_is : (number : ℕ) (r : Record) (x : ℕ) → varint_in number r ≡ x ∷ [] → r ≡ record_of number (varint x)
varint_is number r x e = of r.held e
  where
    of : (h : Held) → varint_in number (record_of r.number h) ≡ x ∷ [] → record_of r.number h ≡ record_of number (varint x)
    of (varint n) e = is_held varint r.number number (r.number == number) n x refl e
    of (bytes held) e = cc
    of (fixed64 n) e = cc
    of (fixed32 n) e = cc

pub fixed64_is : (number : ℕ) (r : Record) (x : ℕ) → fixed64_in number r ≡ x ∷ [] → r ≡ record_of number (fixed64 x)
fixed64_is number r x e = of r.held e
  where
    of : (h : Held) → fixed64_in number (record_of r.number h) ≡ x ∷ [] → record_of r.number h ≡ record_of number (fixed64 x)
    of (fixed64 n) e = is_held fixed64 r.number number (r.number == number) n x refl e
    of (bytes held) e = cc
    of (varint n) e = cc
    of (fixed32 n) e = cc

pub fixed32_is : (number : ℕ) (r : Record) (x : ℕ) → fixed32_in number r ≡ x ∷ [] → r ≡ record_of number (fixed32 x)
fixed32_is number r x e = of r.held e
  where
    of : (h : Held) → fixed32_in number (record_of r.number h) ≡ x ∷ [] → record_of r.number h ≡ record_of number (fixed32 x)
    of (fixed32 n) e = is_held fixed32 r.number number (r.number == number) n x refl e
    of (bytes held) e = cc
    of (varint n) e = cc
    of (fixed64 n) e = cc

-- ---- members of a value

bad_above : (m : Member) (n : ℕ) → BadMember m n → 7 ≤ n
bad_above (string_value held) n bad = omega (arith, bad.0)
bad_above (bool_value k) n bad = absurd bad
bad_above (int_value k) n bad = absurd bad
bad_above (double_value k) n bad = absurd bad
bad_above (array_value held) n bad = absurd bad
bad_above (kvlist_value held) n bad = absurd bad
bad_above (bytes_value held) n bad = absurd bad

bad_member : (m : Member) → DecidedHere (λ n. BadMember m n)
bad_member (string_value held) = not_text held
bad_member (bool_value k) = inl (λ n h. h)
bad_member (int_value k) = inl (λ n h. h)
bad_member (double_value k) = inl (λ n h. h)
bad_member (array_value held) = inl (λ n h. h)
bad_member (kvlist_value held) = inl (λ n h. h)
bad_member (bytes_value held) = inl (λ n h. h)

truth_of : (n : ℕ) → (n ≡ 0) ⊎ (n ≡ 0 → ⊥) → (b : Bool) × (IsTrue b ↔ (n ≢ 0))
truth_of n (inl none) = (false, (λ h. cc, λ some. absurd (some none)))
truth_of n (inr some) = (true, (λ h. some, λ h. refl))

abbrev value_row : ℕ → Row Record
value_row left = record {
  Given = Member;
  given = λ r. member_in r;
  Value = NotedValue;
  Means = λ members r. Singular (MeansMember (value_in left) (key_value_in left)) (λ x. x ≡ leaf values.Nothing) members r;
  here = λ earlier member n. Twice earlier n ⊎ BadMember member n;
  inside = λ member place n. InMember (λ held q k. Offence messages (list_rules left) held q k) (λ held q k. Offence messages (map_rules left) held q k) member place n;
}

key_value_apart : (left : ℕ) → Apart (table_of_key_value left)
key_value_apart left = ((λ r x e. (ap (bytes_in 2) (bytes_is 1 r x e), tt)), ((λ r x e. tt), tt))

module _ (facts : WireFacts) (once : AttributesOnce) (exist : AttributesExist) (next : (rest : List ℕ) → Next messages rest) where
  -- what is decided of those that stand in a list or map below which so many levels are left
  record Below (left : ℕ) : Type 0 where
    value_inside : (held : List ℕ) → Decided (λ p n. value_offends left held p n)
    value_some : left ≢ 0 → (held : List ℕ) → ((p n : ℕ) → value_offends left held p n → ⊥) → (r : NotedValue) × value_in left held r
    pair_inside : (held : List ℕ) → Decided (λ p n. key_value_offends left held p n)
    pair_some : left ≢ 0 → (held : List ℕ) → ((p n : ℕ) → key_value_offends left held p n → ⊥) → (r : KeyValue) × key_value_in left held r

  module _ (left : ℕ) (B : Type 0) (Is : List ℕ → B → Type 0) (Offends : List ℕ → ℕ → ℕ → Type 0) (inside : (held : List ℕ) → Decided (λ p n. Offends held p n))
      (some : left ≢ 0 → (held : List ℕ) → ((p n : ℕ) → Offends held p n → ⊥) → (r : B) × Is held r) (shape : TableShape messages (many_table left B Is Offends) 3) (laws : RulesLaws messages (rules_by (many_table left B Is Offends) no_ends)) where
    each_below : (xs earlier : List (List ℕ)) → Clean (bytes_row 1 (List B) (λ held ys. AllZip Is held ys) (λ before held n. (n ≡ 5) × (left ≡ 0)) Offends) earlier xs → (ys : List B) × AllZip Is xs ys
    each_below [] earlier clean = ([], tt)
    each_below (x ∷ xs) earlier clean =
        let first = some (λ none. clean.0 5 (refl, none)) x clean.1 in
        let others = each_below xs (earlier ++ x ∷ []) clean.2 in
        (first.0 ∷ others.0, (first.1, others.1))

    many_decides : TableDecides (many_table left B Is Offends)
    many_decides = (record { here = λ earlier held. one_number causes.TooDeep (left ≡ 0) (cases_eq left 0); inside = inside; exists = λ xs clean. each_below xs [] clean }, tt)

    many_chosen : (text : List ℕ) → Means messages facts.format next (many_table left B Is Offends) 3 shape many_decides ((λ r x e. tt), tt) no_ends laws (λ seen. inl (λ n h. h)) text
        ⊎ ((cause : Cause) × Least (Offence messages (rules_by (many_table left B Is Offends) no_ends) text) (cause_number cause))
    many_chosen text = decide_message messages facts.format next (many_table left B Is Offends) 3 shape many_decides ((λ r x e. tt), tt) no_ends laws (λ seen. inl (λ n h. h)) text

  -- of what stands at a level, where what is below it is decided
  module _ (left : ℕ) (below : Below left) where
    list_chosen : (text : List ℕ) → Chosen (λ held r. IsListText (value_in left) held r) (λ held p n. Offence messages (list_rules left) held p n) text
    list_chosen text = ⊎_elim (λ m. inl (
      record { means = values.List (map (λ x. x.means) m.values.0); notes = flat_map (λ x. x.notes) m.values.0 },
      record { records = m.items; wire = whole_wire m.items text m.whole; members = m.values.0; each = m.mean.0; make = record { value = refl; noted = refl } },
    )) (λ least. inr least)
        (many_chosen left NotedValue (value_in left) (value_offends left) below.value_inside below.value_some
        (many_shape facts.format left NotedValue (value_in left) (value_offends left) (value_bounded facts.format left)) (list_laws facts.format left) text)

    map_of : (text : List ℕ) (records : List Record) → Wire records text → (pairs : List KeyValue) → AllZip (key_value_in left) (bytes_of 1 records) pairs → (r : NotedValue) × IsMapText (key_value_in left) text r
    map_of text records wire pairs each =
        let kept = exist.attributes (map entry pairs) in
        let twice = exist.repeated (map entry pairs) in (
          record { means = values.Map kept.0; notes = keys_inside pairs ++ twice.0 },
          record {
            records = records;
            wire = wire;
            pairs = pairs;
            each = each;
            make = record { attributes = kept.0; kept = kept.1; repeated = twice.0; twice = twice.1; value = refl; noted = refl };
          },
        )

    map_chosen : (text : List ℕ) → Chosen (λ held r. IsMapText (key_value_in left) held r) (λ held p n. Offence messages (map_rules left) held p n) text
    map_chosen text = ⊎_elim (λ m. inl (map_of text m.items (whole_wire m.items text m.whole) m.values.0 m.mean.0)) (λ least. inr least)
        (many_chosen left KeyValue (key_value_in left) (key_value_offends left) below.pair_inside below.pair_some
        (many_shape facts.format left KeyValue (key_value_in left) (key_value_offends left) (key_value_bounded facts.format left)) (map_laws facts.format left) text)

    in_member : (m : Member) → Decided (λ p n. InMember (λ held q k. Offence messages (list_rules left) held q k) (λ held q k. Offence messages (map_rules left) held q k) m p n)
    in_member (string_value held) = inl (λ p n h. h)
    in_member (bool_value k) = inl (λ p n h. h)
    in_member (int_value k) = inl (λ p n h. h)
    in_member (double_value k) = inl (λ p n h. h)
    in_member (array_value held) = chosen_decided (λ text r. IsListText (value_in left) text r) (λ text p n. Offence messages (list_rules left) text p n) (list_reads facts once left) list_chosen held
    in_member (kvlist_value held) = chosen_decided (λ text r. IsMapText (key_value_in left) text r) (λ text p n. Offence messages (map_rules left) text p n) (map_reads facts once left) map_chosen held
    in_member (bytes_value held) = inl (λ p n h. h)

    some_member : (m : Member) → ((n : ℕ) → BadMember m n → ⊥) → ((p n : ℕ) → InMember (λ held q k. Offence messages (list_rules left) held q k) (λ held q k. Offence messages (map_rules left) held q k) m p n → ⊥)
        → (r : NotedValue) × MeansMember (value_in left) (key_value_in left) m r
    some_member (string_value held) right inner = (leaf (values.Text held), (⊎_elim (λ utf8. utf8) (λ not. absurd (right 9 (refl, not))) (utf8_or held), refl))
    some_member (bool_value k) right inner = let truth = truth_of k (cases_eq k 0) in (leaf (values.Truth truth.0), (truth.0, refl, truth.1))
    some_member (int_value k) right inner = (leaf (values.Number (cast_signed w64 k)), refl)
    some_member (double_value k) right inner = (leaf (values.Eight (to_be_bytes w64 k)), refl)
    some_member (array_value held) right inner = ⊎_elim (λ found. found) (λ least. absurd (inner least.1.place (cause_number least.0) least.1.offence)) (list_chosen held)
    some_member (kvlist_value held) right inner = ⊎_elim (λ found. found) (λ least. absurd (inner least.1.place (cause_number least.0) least.1.offence)) (map_chosen held)
    some_member (bytes_value held) right inner = (leaf (values.Bytes held), refl)

    value_decides : TableDecides (table_of_value left)
    value_decides = (
      record {
        here = λ earlier m. twice_or earlier (λ n. BadMember m n) (bad_above m) (bad_member m);
        inside = in_member;
        exists = singular_exists (value_row left) (MeansMember (value_in left) (key_value_in left)) (leaf values.Nothing) BadMember (λ earlier x n h. h) (λ xs v h. h) some_member;
      },
      tt,
    )

    value_over : (text : List ℕ) → Chosen (value_at left) (λ held p n. Offence messages (value_rules left) held p n) text
    value_over text = ⊎_elim (λ m. inl (m.values.0, record { records = m.items; wire = whole_wire m.items text m.whole; value = m.mean.0 })) (λ least. inr least)
        (decide_message messages facts.format next (table_of_value left) 3 (shape_of_value facts.format left) value_decides ((λ r x e. tt), tt) no_ends (value_laws facts.format left) (λ seen. inl (λ n h. h)) text)

    key_value_decides : TableDecides (table_of_key_value left)
    key_value_decides = (text_decides 1, (message_decides (λ held r. value_at left held r) (λ held p n. Offence messages (value_rules left) held p n) (value_at_reads facts once left) value_over 2 (leaf values.Nothing), tt))

    key_value_over : (text : List ℕ) → Chosen (key_value_at left) (λ held p n. Offence messages (key_value_rules left) held p n) text
    key_value_over text = ⊎_elim (λ m. inl (record { key = m.values.0; value = m.values.1.0 }, record { records = m.items; wire = whole_wire m.items text m.whole; key = m.mean.0; value = m.mean.1.0 })) (λ least. inr least)
        (decide_message messages facts.format next (table_of_key_value left) 3 (shape_of_key_value facts.format left) key_value_decides (key_value_apart left) no_ends (key_value_laws facts.format left) (λ seen. inl (λ n h. h)) text)

  below_more : (left : ℕ) → Below left → Below (suc left)
  unfolding value_in key_value_in value_offends key_value_offends
  below_more left below = record {
    value_inside = λ held. chosen_decided (value_at left) (λ text p n. Offence messages (value_rules left) text p n) (value_at_reads facts once left) (value_over left below) held;
    value_some = λ some held fine. ⊎_elim (λ found. found) (λ least. absurd (fine least.1.place (cause_number least.0) least.1.offence)) (value_over left below held);
    pair_inside = λ held. chosen_decided (key_value_at left) (λ text p n. Offence messages (key_value_rules left) text p n) (key_value_at_reads facts once left) (key_value_over left below) held;
    pair_some = λ some held fine. ⊎_elim (λ found. found) (λ least. absurd (fine least.1.place (cause_number least.0) least.1.offence)) (key_value_over left below held);
  }

  below_none : Below 0
  unfolding value_in key_value_in value_offends key_value_offends
  below_none = record {
    value_inside = λ held. inl (λ p n h. h);
    value_some = λ some held fine. absurd (some refl);
    pair_inside = λ held. inl (λ p n h. h);
    pair_some = λ some held fine. absurd (some refl);
  }

  below_at : (left : ℕ) → Below left
  below_at zero = below_none
  below_at (suc left) = below_more left (below_at left)

  -- ---- the tables, at each level

  pub list_table_decides : (left : ℕ) → TableDecides (many_table left NotedValue (value_in left) (value_offends left))
  list_table_decides left = many_decides left NotedValue (value_in left) (value_offends left) (below_at left).value_inside (below_at left).value_some
      (many_shape facts.format left NotedValue (value_in left) (value_offends left) (value_bounded facts.format left)) (list_laws facts.format left)

  pub map_table_decides : (left : ℕ) → TableDecides (many_table left KeyValue (key_value_in left) (key_value_offends left))
  map_table_decides left = many_decides left KeyValue (key_value_in left) (key_value_offends left) (below_at left).pair_inside (below_at left).pair_some
      (many_shape facts.format left KeyValue (key_value_in left) (key_value_offends left) (key_value_bounded facts.format left)) (map_laws facts.format left)

  pub value_table_decides : (left : ℕ) → TableDecides (table_of_value left)
  value_table_decides left = value_decides left (below_at left)

  pub key_value_table_decides : (left : ℕ) → TableDecides (table_of_key_value left)
  key_value_table_decides left = key_value_decides left (below_at left)

  -- ---- attributes

  pub attribute_chosen : (held : List ℕ) → Chosen attribute_at (λ text p n. Offence messages attribute_rules text p n) held
  attribute_chosen held = key_value_over levels_below (below_at levels_below) held

  in_order : (pairs : List KeyValue) (repeated keys : List (List ℕ)) → AreRepeated repeated (map entry pairs) → ((key : List ℕ) → Contains keys key ↔ Contains (repeated ++ keys_inside pairs) key)
      → (key : List ℕ) → Contains keys key ↔ (StandsTwice key (map entry pairs) ⊎ Contains (keys_inside pairs) key)
  in_order pairs repeated keys twice same key = (
    λ there. ⊎_elim (λ (h : Contains repeated key). inl ((twice.twice key).0 h)) (λ (h : Contains (keys_inside pairs) key). inr h) (Contains-append_cases repeated (keys_inside pairs) key ((same key).0 there)),
    λ is. (same key).1 (⊎_elim (λ (h : StandsTwice key (map entry pairs)). Contains-append_left repeated (keys_inside pairs) key ((twice.twice key).1 h)) (λ (h : Contains (keys_inside pairs) key). Contains-append_right repeated (keys_inside pairs) key h) is),
  )

  pub attributes_decides : (number : ℕ) → RowDecides (attributes number)
  attributes_decides number = record {
    here = λ earlier held. inl (λ n h. h);
    inside = λ held. chosen_decided attribute_at (λ text p n. Offence messages attribute_rules text p n) (attribute_reads facts once) attribute_chosen held;
    exists = λ xs clean. of xs (all_of attribute_at (λ text p n. Offence messages attribute_rules text p n) (attribute_reads facts once) attribute_chosen number (λ earlier held n. ⊥) xs [] (same_clean xs [] clean));
  }
    where
      same_clean : (xs earlier : List (List ℕ)) → Clean (attributes number) earlier xs → Clean (bytes_row number (List KeyValue) (λ held ys. AllZip attribute_at held ys) (λ before held n. ⊥) (λ held p n. Offence messages attribute_rules held p n)) earlier xs
      same_clean [] earlier clean = tt
      same_clean (x ∷ xs) earlier clean = (clean.0, clean.1, same_clean xs (earlier ++ x ∷ []) clean.2)

      of : (xs : List (List ℕ)) → (pairs : List KeyValue) × AllZip attribute_at xs pairs → (a : Noted (List (List ℕ × Value)) Keys) × AttributesOf xs a.means a.notes
      of xs (pairs, each) =
          let kept = exist.attributes (map entry pairs) in
          let twice = exist.repeated (map entry pairs) in
          let keys = exist.in_order (twice.0 ++ keys_inside pairs) in (
            record { means = kept.0; notes = keys.0 },
            record { pairs = pairs; each = each; make = record { kept = kept.1; rising = keys.1.rising; noted = in_order pairs twice.0 keys.0 twice.1 keys.1.same } },
          )
