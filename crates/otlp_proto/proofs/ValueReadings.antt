-- Bytes mean one value at most, and nothing offends in those that mean one: values, lists, maps, `KeyValue`s and attributes.
use Rattle.std.proofs.Common.{◌≡◌, ◌≢◌, ℕ, zero, suc, ◌⊎◌, inl, inr, List, [], ◌∷◌, ◌++◌, map, Bool, true, false, refl, sym, ap, subst, ◌∙◌, arith}
use Rattle.std.specs.Prelude.{◌↔◌, IsTrue}
use Rattle.std.specs.List.{AllZip, flat_map}
use Rattle.span_io.specs.Offences.{Offence}
use Rattle.span_io.specs.Tables.{Singular, Twice, no_ends, MeansText}
use Rattle.span_io.proofs.TableLaws.{RowMeaning, TableShape, TableMeaning, table_fine}
use Rattle.span_io.specs.Tables.{Whole}
use Rattle.proto_wire.specs.Messages.{messages}
use Rattle.proto_wire.specs.Records.{Record}
use Rattle.proto_wire.specs.Wire.{Wire}
use Rattle.trace_model.specs.StatedLaws.{AttributesOnce}
use Rattle.trace_model.specs.declared.value.Value.{Value}
use Rattle.trace_model.specs.declared.value.Value.TheVariants as values
use Rattle.otlp_proto.specs.StatedLaws.{WireFacts}
use Rattle.otlp_proto.specs.Attributes.{attribute_at, attribute_rules, AttributesOf, attributes}
use Rattle.trace_model.specs.Remarks.{Keys}
use Rattle.otlp_proto.specs.Rows.{bytes_of}
use Rattle.otlp_proto.proofs.Shapes.{shape_of_value, shape_of_key_value, many_shape, value_bounded, key_value_bounded}
use Rattle.otlp_proto.specs.Values.{Member, string_value, bool_value, int_value, double_value, array_value, kvlist_value, bytes_value, members_of, IsListText, IsMapText, MeansMember, value_in, key_value_in, value_at, key_value_at, BadMember, InMember, value_table, many_table, many_rules, value_offends, key_value_offends, table_of_value, value_rules, table_of_key_value, key_value_rules, list_rules, map_rules}
use Rattle.trace_model.specs.declared.noted.Noted.{Noted}
use Rattle.trace_model.specs.declared.noted.KeyValue.{KeyValue}
use Rattle.trace_model.specs.OtlpParts.{NotedValue, leaf, entry, keys_inside, IsNotedMap, AreNotedAttributes, levels_below}
use Rattle.span_io.proofs.RowLaws.{all_zip_split, all_zip_once, singular_split, singular_once}
use Rattle.otlp_proto.proofs.RowMeanings.{Reads, text_meaning, message_meaning, repeated_meaning}

-- a message's records, to its end
pub wire_whole : (records : List Record) (text : List ℕ) → Wire records text → Whole messages records text
unfolding Wire Whole
wire_whole [] text wire = wire
wire_whole (r ∷ more) text wire = (wire.0, wire.1, wire_whole more wire.0 wire.2)

-- ---- values

same_bool : (b c : Bool) → IsTrue b ↔ IsTrue c → b ≡ c
same_bool true true e = refl
same_bool true false e = sym (e.0 refl)
same_bool false true e = e.1 refl
same_bool false false e = refl

truth_once : (n : ℕ) (r s : NotedValue) → (b : Bool) × (r ≡ leaf (values.Truth b)) × (IsTrue b ↔ (n ≢ 0)) → (b : Bool) × (s ≡ leaf (values.Truth b)) × (IsTrue b ↔ (n ≢ 0)) → r ≡ s
truth_once n r s (b, e, is_b) (c, f, is_c) = e ∙ ap (λ x. leaf (values.Truth x)) (same_bool b c (λ h. is_c.1 (is_b.0 h), λ h. is_b.1 (is_c.0 h))) ∙ sym f

noted_same : {A N : Type 0} (a b : Noted A N) → a.means ≡ b.means → a.notes ≡ b.notes → a ≡ b
noted_same a b means notes = λ i. record { means = means i; notes = notes i }

module _ (facts : WireFacts) (once : AttributesOnce) where
  module _ (IsValue : List ℕ → NotedValue → Type 0) (IsKeyValue : List ℕ → KeyValue → Type 0)
      (value_one : (held : List ℕ) (r s : NotedValue) → IsValue held r → IsValue held s → r ≡ s) (pair_one : (held : List ℕ) (p q : KeyValue) → IsKeyValue held p → IsKeyValue held q → p ≡ q) where
    list_once : (text : List ℕ) (r s : NotedValue) → IsListText IsValue text r → IsListText IsValue text s → r ≡ s
    list_once text r s a b =
        let records = facts.one_reading text a.records b.records a.wire b.wire in
        let members : a.members ≡ b.members = all_zip_once IsValue value_one (bytes_of 1 b.records) a.members b.members (subst (λ (l : List Record). AllZip IsValue (bytes_of 1 l) a.members) records a.each) b.each in
        noted_same r s (a.make.value ∙ ap (λ (l : List NotedValue). values.List (map (λ m. m.means) l)) members ∙ sym b.make.value)
        (a.make.noted ∙ ap (λ (l : List NotedValue). flat_map (λ m. m.notes) l) members ∙ sym b.make.noted)

    map_made_once : (pairs : List (List ℕ × Value)) (inside : Keys) (r s : NotedValue) → IsNotedMap pairs inside r → IsNotedMap pairs inside s → r ≡ s
    map_made_once pairs inside r s a b =
        let kept : a.attributes ≡ b.attributes = once.attributes pairs a.attributes b.attributes a.kept b.kept in
        let twice : a.repeated ≡ b.repeated = once.repeated pairs a.repeated b.repeated a.twice b.twice in
        noted_same r s (a.value ∙ ap (λ (l : List (List ℕ × Value)). values.Map l) kept ∙ sym b.value)
        (a.noted ∙ ap (λ (l : Keys). inside ++ l) twice ∙ sym b.noted)

    map_once : (text : List ℕ) (r s : NotedValue) → IsMapText IsKeyValue text r → IsMapText IsKeyValue text s → r ≡ s
    map_once text r s a b =
        let records = facts.one_reading text a.records b.records a.wire b.wire in
        let pairs : a.pairs ≡ b.pairs = all_zip_once IsKeyValue pair_one (bytes_of 1 b.records) a.pairs b.pairs (subst (λ (l : List Record). AllZip IsKeyValue (bytes_of 1 l) a.pairs) records a.each) b.each in
        map_made_once (map entry b.pairs) (keys_inside b.pairs) r s (subst (λ (l : List KeyValue). IsNotedMap (map entry l) (keys_inside l) r) pairs a.make) b.make

    member_once : (m : Member) (r s : NotedValue) → MeansMember IsValue IsKeyValue m r → MeansMember IsValue IsKeyValue m s → r ≡ s
    member_once (string_value held) r s a b = a.1 ∙ sym b.1
    member_once (bool_value n) r s a b = truth_once n r s a b
    member_once (int_value n) r s a b = a ∙ sym b
    member_once (double_value n) r s a b = a ∙ sym b
    member_once (array_value held) r s a b = list_once held r s a b
    member_once (kvlist_value held) r s a b = map_once held r s a b
    member_once (bytes_value held) r s a b = a ∙ sym b

  module _ (IsValue : List ℕ → NotedValue → Type 0) (IsKeyValue : List ℕ → KeyValue → Type 0) (InList InMap : List ℕ → ℕ → ℕ → Type 0)
      (lists : (v : NotedValue) (held : List ℕ) → IsListText IsValue held v → (place n : ℕ) → InList held place n → ⊥)
      (maps : (v : NotedValue) (held : List ℕ) → IsMapText IsKeyValue held v → (place n : ℕ) → InMap held place n → ⊥) where
    member_good : (m : Member) (v : NotedValue) → MeansMember IsValue IsKeyValue m v → (n : ℕ) → BadMember m n → ⊥
    member_good (string_value held) v means n h = h.1 means.0
    member_good (bool_value k) v means n h = h
    member_good (int_value k) v means n h = h
    member_good (double_value k) v means n h = h
    member_good (array_value held) v means n h = h
    member_good (kvlist_value held) v means n h = h
    member_good (bytes_value held) v means n h = h

    member_inside : (m : Member) (v : NotedValue) → MeansMember IsValue IsKeyValue m v → (place n : ℕ) → InMember InList InMap m place n → ⊥
    member_inside (string_value held) v means place n h = h
    member_inside (bool_value k) v means place n h = h
    member_inside (int_value k) v means place n h = h
    member_inside (double_value k) v means place n h = h
    member_inside (array_value held) v means place n h = lists v held means place n h
    member_inside (kvlist_value held) v means place n h = maps v held means place n h
    member_inside (bytes_value held) v means place n h = h

    value_meaning : ((held : List ℕ) (r s : NotedValue) → IsValue held r → IsValue held s → r ≡ s) → ((held : List ℕ) (p q : KeyValue) → IsKeyValue held p → IsKeyValue held q → p ≡ q)
        → TableMeaning (value_table IsValue IsKeyValue InList InMap)
    value_meaning value_one pair_one = (
      record {
        once = λ xs a b h k. singular_once (MeansMember IsValue IsKeyValue) (leaf values.Nothing) (member_once IsValue IsKeyValue value_one pair_one) xs a b h k;
        fine_here = λ front back x value is n wrong. here_fine front back x value is n wrong;
        fine_inside = λ front back x value is place n inner. member_inside x value (singular_split (MeansMember IsValue IsKeyValue) (λ z. z ≡ leaf values.Nothing) front back x value is).1 place n inner;
      },
      tt,
    )
      where
        here_fine : (front back : List Member) (x : Member) (value : NotedValue) → Singular (MeansMember IsValue IsKeyValue) (λ z. z ≡ leaf values.Nothing) (front ++ x ∷ back) value → (n : ℕ) → Twice front n ⊎ BadMember x n → ⊥
        here_fine front back x value is n (inl twice) = twice.1 (singular_split (MeansMember IsValue IsKeyValue) (λ z. z ≡ leaf values.Nothing) front back x value is).0
        here_fine front back x value is n (inr bad) = member_good x value (singular_split (MeansMember IsValue IsKeyValue) (λ z. z ≡ leaf values.Nothing) front back x value is).1 n bad

  -- ---- by the levels that are left

  value_level : (left : ℕ) (v : NotedValue) (held : List ℕ) → value_in left held v → left ≡ 0 → ⊥
  unfolding value_in
  value_level zero v held is none = is
  value_level (suc left) v held is none = omega (arith, none)

  key_value_level : (left : ℕ) (p : KeyValue) (held : List ℕ) → key_value_in left held p → left ≡ 0 → ⊥
  unfolding key_value_in
  key_value_level zero p held is none = is
  key_value_level (suc left) p held is none = omega (arith, none)

  module _ (left : ℕ) (below : Reads (value_in left) (value_offends left)) (pairs_below : Reads (key_value_in left) (key_value_offends left)) where
    many_fine : (B : Type 0) (Is : List ℕ → B → Type 0) (Offends : List ℕ → ℕ → ℕ → Type 0) → Reads Is Offends → TableShape messages (many_table left B Is Offends) 3 → ((x : B) (held : List ℕ) → Is held x → left ≡ 0 → ⊥)
        → (text : List ℕ) (records : List Record) (xs : List B) → Wire records text → AllZip Is (bytes_of 1 records) xs → (place n : ℕ) → Offence messages (many_rules left B Is Offends) text place n → ⊥
    many_fine B Is Offends reads shape level text records xs wire each =
        table_fine messages facts.format (many_table left B Is Offends) 3 shape
        (repeated_meaning 1 B Is (λ earlier held n. (n ≡ 5) × (left ≡ 0)) Offends reads (λ x earlier held is n h. level x held is h.1), tt) no_ends text records (wire_whole records text wire) (xs, tt) (each, tt) (λ n h. h)

    lists_fine : (v : NotedValue) (held : List ℕ) → IsListText (value_in left) held v → (place n : ℕ) → Offence messages (list_rules left) held place n → ⊥
    lists_fine v held is = many_fine NotedValue (value_in left) (value_offends left) below (many_shape facts.format left NotedValue (value_in left) (value_offends left) (value_bounded facts.format left)) (value_level left) held is.records is.members is.wire is.each

    maps_fine : (v : NotedValue) (held : List ℕ) → IsMapText (key_value_in left) held v → (place n : ℕ) → Offence messages (map_rules left) held place n → ⊥
    maps_fine v held is = many_fine KeyValue (key_value_in left) (key_value_offends left) pairs_below (many_shape facts.format left KeyValue (key_value_in left) (key_value_offends left) (key_value_bounded facts.format left)) (key_value_level left) held is.records is.pairs is.wire is.each

    over : TableMeaning (table_of_value left)
    over = value_meaning (value_in left) (key_value_in left) (λ held p n. Offence messages (list_rules left) held p n) (λ held p n. Offence messages (map_rules left) held p n) lists_fine maps_fine below.once pairs_below.once

    value_over : Reads (value_at left) (λ held p n. Offence messages (value_rules left) held p n)
    value_over = record {
      once = λ text r s a b.
          let records = facts.one_reading text a.records b.records a.wire b.wire in
          over.0.once (members_of b.records) r s (subst (λ (l : List Record). Singular (MeansMember (value_in left) (key_value_in left)) (λ x. x ≡ leaf values.Nothing) (members_of l) r) records a.value) b.value;
      fine = λ v text is. table_fine messages facts.format (table_of_value left) 3 (shape_of_value facts.format left) over no_ends text is.records (wire_whole is.records text is.wire) (v, tt) (is.value, tt) (λ n h. h);
    }

    key_value_meaning : TableMeaning (table_of_key_value left)
    key_value_meaning = (text_meaning 1, (message_meaning 2 NotedValue (λ held r. value_at left held r) (leaf values.Nothing) (λ held p n. Offence messages (value_rules left) held p n) value_over, tt))

    key_value_over : Reads (key_value_at left) (λ held p n. Offence messages (key_value_rules left) held p n)
    key_value_over = record {
      once = λ text p q a b.
          let records = facts.one_reading text a.records b.records a.wire b.wire in
          let key = key_value_meaning.0.once (bytes_of 1 b.records) p.key q.key (subst (λ (l : List Record). Singular MeansText (λ x. x ≡ []) (bytes_of 1 l) p.key) records a.key) b.key in
          let value = key_value_meaning.1.0.once (bytes_of 2 b.records) p.value q.value (subst (λ (l : List Record). Singular (λ held r. value_at left held r) (λ r. r ≡ leaf values.Nothing) (bytes_of 2 l) p.value) records a.value) b.value in
          λ i. record { key = key i; value = value i };
      fine = λ p text is. table_fine messages facts.format (table_of_key_value left) 3 (shape_of_key_value facts.format left) key_value_meaning no_ends text is.records (wire_whole is.records text is.wire) (p.key, (p.value, tt)) (is.key, (is.value, tt)) (λ n h. h);
    }

  mutual
    unfolding value_in key_value_in value_offends key_value_offends

    value_reads : (left : ℕ) → Reads (value_in left) (value_offends left)
    value_reads zero = record { once = λ held x y h k. absurd h; fine = λ x held h place n o. absurd h }
    value_reads (suc left) =
        let reads = value_over left (value_reads left) (key_value_reads left) in
        record { once = λ held x y h k. reads.once held x y h k; fine = λ x held h place n o. reads.fine x held h place n o }

    key_value_reads : (left : ℕ) → Reads (key_value_in left) (key_value_offends left)
    key_value_reads zero = record { once = λ held x y h k. absurd h; fine = λ x held h place n o. absurd h }
    key_value_reads (suc left) =
        let reads = key_value_over left (value_reads left) (key_value_reads left) in
        record { once = λ held x y h k. reads.once held x y h k; fine = λ x held h place n o. reads.fine x held h place n o }

  pub list_reads : (left : ℕ) → Reads (λ held r. IsListText (value_in left) held r) (λ held p n. Offence messages (list_rules left) held p n)
  list_reads left = record {
    once = λ held x y a b. list_once (value_in left) (key_value_in left) (value_reads left).once (key_value_reads left).once held x y a b;
    fine = λ x held is. lists_fine left (value_reads left) (key_value_reads left) x held is;
  }

  pub map_reads : (left : ℕ) → Reads (λ held r. IsMapText (key_value_in left) held r) (λ held p n. Offence messages (map_rules left) held p n)
  map_reads left = record {
    once = λ held x y a b. map_once (value_in left) (key_value_in left) (value_reads left).once (key_value_reads left).once held x y a b;
    fine = λ x held is. maps_fine left (value_reads left) (key_value_reads left) x held is;
  }

  pub value_at_reads : (left : ℕ) → Reads (value_at left) (λ held p n. Offence messages (value_rules left) held p n)
  value_at_reads left = value_over left (value_reads left) (key_value_reads left)

  pub key_value_at_reads : (left : ℕ) → Reads (key_value_at left) (λ held p n. Offence messages (key_value_rules left) held p n)
  key_value_at_reads left = key_value_over left (value_reads left) (key_value_reads left)

  -- ---- attributes

  pub attribute_reads : Reads attribute_at (λ held p n. Offence messages attribute_rules held p n)
  attribute_reads = key_value_over levels_below (value_reads levels_below) (key_value_reads levels_below)

  attributes_made_once : (pairs : List (List ℕ × Value)) (inside : Keys) (a b : Noted (List (List ℕ × Value)) Keys) → AreNotedAttributes pairs inside a.means a.notes → AreNotedAttributes pairs inside b.means b.notes → a ≡ b
  attributes_made_once pairs inside a b h k = noted_same a b (once.attributes pairs a.means b.means h.kept k.kept)
      (once.same_keys a.notes b.notes h.rising k.rising (λ z. (λ there. (k.noted z).1 ((h.noted z).0 there), λ there. (h.noted z).1 ((k.noted z).0 there))))

  attributes_of_once : (texts : List (List ℕ)) (a b : Noted (List (List ℕ × Value)) Keys) → AttributesOf texts a.means a.notes → AttributesOf texts b.means b.notes → a ≡ b
  attributes_of_once texts a b h k =
      let pairs = all_zip_once attribute_at attribute_reads.once texts h.pairs k.pairs h.each k.each in
      attributes_made_once (map entry k.pairs) (keys_inside k.pairs) a b (subst (λ (l : List KeyValue). AreNotedAttributes (map entry l) (keys_inside l) a.means a.notes) pairs h.make) k.make

  pub attributes_meaning : (number : ℕ) → RowMeaning (attributes number)
  attributes_meaning number = record {
    once = λ xs a b h k. attributes_of_once xs a b h k;
    fine_here = λ front back x value is n h. h;
    fine_inside = λ front back x value is place n o. let at = all_zip_split attribute_at front back x is.pairs is.each in attribute_reads.fine at.0 x at.1 place n o;
  }
