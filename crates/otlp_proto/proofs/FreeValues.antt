-- Free records change no reading of values, lists, maps and `KeyValue`s.
use Rattle.std.proofs.Common.{◌≡◌, ℕ, List, [], ◌∷◌, ◌++◌, sym, ap, subst, ◌∙◌}
use Rattle.std.specs.List.{AllZip}
use Rattle.span_io.specs.Tables.{Row, Singular, givens, MeansText}
use Rattle.span_io.proofs.TableLaws.{givens_without}
use Rattle.proto_wire.specs.Records.{Record}
use Rattle.proto_wire.specs.Wire.{Wire}
use Rattle.trace_model.specs.declared.value.Value.TheVariants as values
use Rattle.otlp_proto.specs.StatedLaws.{WireFacts, PassesFreeIn}
use Rattle.otlp_proto.specs.Rows.{bytes_of}
use Rattle.otlp_proto.specs.Values.{members_of, IsListText, IsMapText, MeansMember, value_in, key_value_in, value_at, key_value_at, value_offends, key_value_offends, many_table, table_of_value, table_of_key_value}
use Rattle.trace_model.specs.declared.noted.KeyValue.{KeyValue}
use Rattle.trace_model.specs.OtlpParts.{NotedValue, leaf}

module _ (facts : WireFacts) where
  -- a reading that goes from one text to another where the rows are given the same
  both_ways : {X : Type 0} (table : List (Row Record)) (Is : List ℕ → X → Type 0)
      → ((x : X) (records others : List Record) (text other : List ℕ) → givens table records ≡ givens table others → Wire records text → Wire others other → Is text x → Is other x) → PassesFreeIn table Is
  both_ways table Is moves x before behind free text other is wire goes =
      let same = givens_without table before behind free is in
      (moves x (before ++ free ∷ behind) (before ++ behind) text other same wire goes, moves x (before ++ behind) (before ++ free ∷ behind) other text (sym same) goes wire)

  pub value_passes : (left : ℕ) → PassesFreeIn (table_of_value left) (value_at left)
  value_passes left = both_ways (table_of_value left) (value_at left) (λ r records others text other same wire goes is. record {
    records = others;
    wire = goes;
    value = subst (λ l. Singular (MeansMember (value_in left) (key_value_in left)) (λ x. x ≡ leaf values.Nothing) l r)
        (ap members_of (facts.one_reading text is.records records is.wire wire) ∙ (λ i. (same i).0)) is.value;
  })

  pub list_passes : (left : ℕ) → PassesFreeIn (many_table left NotedValue (value_in left) (value_offends left)) (λ text r. IsListText (value_in left) text r)
  list_passes left = both_ways (many_table left NotedValue (value_in left) (value_offends left)) (λ text r. IsListText (value_in left) text r) (λ r records others text other same wire goes is. record {
    records = others;
    wire = goes;
    members = is.members;
    each = subst (λ l. AllZip (value_in left) l is.members) (ap (bytes_of 1) (facts.one_reading text is.records records is.wire wire) ∙ (λ i. (same i).0)) is.each;
    make = is.make;
  })

  pub map_passes : (left : ℕ) → PassesFreeIn (many_table left KeyValue (key_value_in left) (key_value_offends left)) (λ text r. IsMapText (key_value_in left) text r)
  map_passes left = both_ways (many_table left KeyValue (key_value_in left) (key_value_offends left)) (λ text r. IsMapText (key_value_in left) text r) (λ r records others text other same wire goes is. record {
    records = others;
    wire = goes;
    pairs = is.pairs;
    each = subst (λ l. AllZip (key_value_in left) l is.pairs) (ap (bytes_of 1) (facts.one_reading text is.records records is.wire wire) ∙ (λ i. (same i).0)) is.each;
    make = is.make;
  })

  pub key_value_passes : (left : ℕ) → PassesFreeIn (table_of_key_value left) (key_value_at left)
  key_value_passes left = both_ways (table_of_key_value left) (key_value_at left) (λ p records others text other same wire goes is. record {
    records = others;
    wire = goes;
    key = subst (λ l. Singular MeansText (λ x. x ≡ []) l p.key) (ap (bytes_of 1) (facts.one_reading text is.records records is.wire wire) ∙ (λ i. (same i).0)) is.key;
    value = subst (λ l. Singular (λ held r. value_at left held r) (λ r. r ≡ leaf values.Nothing) l p.value) (ap (bytes_of 2) (facts.one_reading text is.records records is.wire wire) ∙ (λ i. (same i).1.0)) is.value;
  })
