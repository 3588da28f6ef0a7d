-- The text of a sound value is a text of it, and so are those of attributes.
use Rattle.std.proofs.Common.{◌≡◌, ℕ, zero, suc, ◌+◌, ◌*◌, ◌<◌, ◌≤◌, ◌^◌, ⊎_elim, inl, Bool, true, false, List, [], ◌∷◌, ◌++◌, length, map, All, get_or, refl, sym, ap, subst, ◌∙◌, arith}
use Rattle.std.specs.Prelude.{◌↔◌, ◌≢◌, IsTrue, Contains, FitsSigned}
use Rattle.std.specs.Int.{w64, from_be_bytes, to_be_bytes, cast_signed, cast_unsigned}
use Rattle.std.specs.List.{AllZip}
use Rattle.std.proofs.Math.Facts.{Fits-of_z}
use Rattle.std.proofs.lemmas.Bool.{cases_lt}
use Rattle.std.proofs.lemmas.Int.{to_z-of_z}
use Rattle.std.proofs.lemmas.List.{get_or_past}
use Rattle.std.proofs.lemmas.List.Elements.{All-get_or}
use Rattle.std.proofs.lemmas.Nat.{be_bytes_8}
use Rattle.span_io.specs.Tables.{Singular}
use Rattle.proto_wire.specs.Records.{varint, fixed64, bytes, Record, IsProper, IsFieldNumber}
use Rattle.proto_wire.specs.Wire.{record_text}
use Rattle.trace_model.specs.Attributes.{Rise, keys, AreAttributes, AreRepeated}
use Rattle.trace_model.specs.Proper.{IsProperValue, IsProperPair, AreProper}
use Rattle.trace_model.specs.Values.{depth, MapsRise, AreSound, most_levels}
use Rattle.trace_model.specs.declared.value.Value.{Value}
use Rattle.trace_model.specs.declared.value.Value.TheVariants as values
use Rattle.otlp_proto.specs.Attributes.{attribute_at, AttributesOf}
use Rattle.otlp_proto.specs.Rows.{bytes_in}
use Rattle.otlp_proto.specs.Canonical.{bytes_field, list_text, truth_bit, value_text, key_value_text, attributes_text}
use Rattle.otlp_proto.specs.Values.{Member, members_of, MeansMember, value_in, key_value_in, value_at, key_value_at, table_of_key_value}
use Rattle.trace_model.specs.OtlpParts.{levels_below, NotedValue, leaf, entry}
use Rattle.trace_model.proofs.PartLaws.{by_variant, some_depth, quiet_key_value, values_back, values_quiet, pairs_back, pairs_quiet}
use Rattle.otlp_proto.proofs.CanonicalLaws.{Laws}
use Rattle.otlp_proto.proofs.Fronts.{record_some}
use Rattle.otlp_proto.proofs.FieldLemmas.{Fits, held_fits, list_fits, record_of, no_wire, one_wire, held_wire, list_wire}
use Rattle.otlp_proto.proofs.ValueTexts.{list_value, map_value}
use Rattle.otlp_proto.proofs.WrittenFields.{text_written, message_written, each_row}
use Rattle.otlp_proto.proofs.WrittenRows.{AllWritten, IsReadAs, values_of, read_as, given_all, chosen_own, ◌and◌}

-- ---- only a value of nothing has no text

pub only_nothing : (v : Value) → value_text v ≡ [] → v ≡ values.Nothing
only_nothing = by_variant (λ v. value_text v ≡ [] → v ≡ values.Nothing) (record {
  of_text = λ text e. absurd (record_some _ e);
  of_truth = λ truth e. absurd (record_some _ e);
  of_number = λ n e. absurd (record_some _ e);
  of_eight = λ double e. absurd (record_some _ e);
  of_bytes = λ held e. absurd (record_some _ e);
  of_list = λ members e. absurd (record_some (record_of bytes 5 (list_text 1 value_text members)) (sym (list_value members) ∙ e));
  of_map = λ pairs e. absurd (record_some (record_of bytes 6 (attributes_text 1 pairs)) (sym (map_value pairs) ∙ e));
  of_nothing = λ e. refl;
})

-- ---- numbers of fields

number_one : IsFieldNumber 1
number_one = (omega arith, omega arith)

number_two : IsFieldNumber 2
number_two = (omega arith, omega arith)

number_three : IsFieldNumber 3
number_three = (omega arith, omega arith)

number_four : IsFieldNumber 4
number_four = (omega arith, omega arith)

number_seven : IsFieldNumber 7
number_seven = (omega arith, omega arith)

-- ---- numbers of eight bytes

eight_low : (a b c d e f g h : ℕ) → a < 256 → b < 256 → c < 256 → d < 256 → e < 256 → f < 256 → g < 256 → h < 256
    → a * 256 ^ 7 + b * 256 ^ 6 + c * 256 ^ 5 + d * 256 ^ 4 + e * 256 ^ 3 + f * 256 ^ 2 + g * 256 ^ 1 + h < 2 ^ 64
eight_low a b c d e f g h pa pb pc pd pe pf pg ph = omega arith

each_low : (double : List ℕ) → All (λ b. b < 256) double → (i : ℕ) → get_or double i 0 < 256
each_low double all i = ⊎_elim
    (λ (lt : i < length double). All-get_or (λ b. b < 256) double i 0 lt all)
    (λ (ge : length double ≤ i). let past : get_or double i 0 ≡ 0 = get_or_past double i 0 ge in omega arith)
    (cases_lt i (length double))

double_low : (double : List ℕ) → All (λ b. b < 256) double → from_be_bytes w64 double < 2 ^ 64
double_low double all = eight_low _ _ _ _ _ _ _ _ (each_low double all 0) (each_low double all 1) (each_low double all 2) (each_low double all 3)
    (each_low double all 4) (each_low double all 5) (each_low double all 6) (each_low double all 7)

double_back : (double : List ℕ) → length double ≡ 8 → All (λ b. b < 256) double → to_be_bytes w64 (from_be_bytes w64 double) ≡ double
double_back double size all = be_bytes_8 double (from_be_bytes w64 double) size (each_low double all) refl

number_low : (n : _) → FitsSigned w64 n → cast_unsigned w64 n < 2 ^ 64
number_low n fits = let low = Fits-of_z {w = w64} {z = n} fits in omega (arith, low)

number_back : (n : _) → FitsSigned w64 n → cast_signed w64 (cast_unsigned w64 n) ≡ n
number_back n fits = to_z-of_z w64 n fits

-- ---- a value by those in it

record Given (d : ℕ) (v : Value) : Type 0 where
  pub shallow : depth v ≤ d
  pub rising : MapsRise v
  pub proper : IsProperValue v
  pub fits : Fits (value_text v)

record GivenKeyValue (d : ℕ) (pair : List ℕ × Value) : Type 0 where
  pub shallow : depth pair.1 ≤ d
  pub rising : MapsRise pair.1
  pub proper : IsProperPair pair
  pub fits : Fits (key_value_text pair)

module _ (L : Laws) where
  key_value_again : (left d : ℕ) (pair : List ℕ × Value) → GivenKeyValue d pair → (Given d pair.1 → value_at left (value_text pair.1) (leaf pair.1)) → key_value_at left (key_value_text pair) (quiet_key_value pair)
  key_value_again left d pair given is =
      let rows : AllWritten (table_of_key_value left) =
      text_written L.spelled 1 refl pair.0 given.proper.key and
      message_written L.spelled 2 refl _ (λ held r. value_at left held r) (leaf values.Nothing) _ (leaf pair.1) (value_text pair.1) (λ e. ap leaf (only_nothing pair.1 e))
      (λ fits. is (record { shallow = given.shallow; rising = given.rising; proper = given.proper.value; fits = fits })) and
      tt in
      let read : IsReadAs (table_of_key_value left) (values_of (table_of_key_value left) rows) (key_value_text pair) = read_as (table_of_key_value left) rows refl given.fits in
      record { records = read.records; wire = read.wire; key = read.mean.0; value = read.mean.1.0 }

  -- in a list or map below which so many levels are left
  key_value_in_again : (left : ℕ) → ((v : Value) → Given left v → value_in left (value_text v) (leaf v)) → (pair : List ℕ × Value) → GivenKeyValue left pair → key_value_in left (key_value_text pair) (quiet_key_value pair)
  unfolding value_in key_value_in
  key_value_in_again zero inner pair given = absurd (omega (arith, some_depth pair.1, given.shallow))
  key_value_in_again (suc left) inner pair given = key_value_again left (suc left) pair given (inner pair.1)

  module _ (left : ℕ) (inner : (v : Value) → Given left v → value_in left (value_text v) (leaf v)) where
    abbrev Means : Member → NotedValue → Type 0
    Means = MeansMember (value_in left) (key_value_in left)

    one_again : (r : Record) (v : Value) → IsProper r → Singular Means (λ x. x ≡ leaf values.Nothing) (members_of (r ∷ [])) (leaf v) → value_at left (record_text r) (leaf v)
    one_again r v proper is = record { records = r ∷ []; wire = one_wire L.spelled r proper; value = is }

    truth_bit_is : (truth : Bool) → IsTrue truth ↔ (truth_bit truth ≢ 0)
    truth_bit_is true = (λ h e. omega (arith, e), λ h. refl)
    truth_bit_is false = (λ h. absurd cc, λ h. absurd (h refl))

    truth_low : (truth : Bool) → truth_bit truth < 2 ^ 64
    truth_low true = omega arith
    truth_low false = omega arith

    list_again : (members : List Value) → Given (left + 1) (values.List members) → value_at left (value_text (values.List members)) (leaf (values.List members))
    list_again members given = subst (λ t. value_at left t (leaf (values.List members))) (sym (list_value members)) (record {
      records = record_of bytes 5 body ∷ [];
      wire = held_wire L.spelled 5 refl body whole_fits;
      value = record {
        records = map (record_of bytes 1) (map value_text members);
        wire = list_wire L.spelled 1 refl value_text members body_fits;
        members = map leaf members;
        each = subst (λ l. AllZip (value_in left) l (map leaf members)) (sym (given_all (bytes_in 1) (record_of bytes 1) (λ x. chosen_own 1 x) (map value_text members)))
            (each_row (value_in left) value_text leaf members (λ k d lt. inner (get_or members k d) (all_given k d lt)));
        make = record { value = ap values.List (sym (values_back members)); noted = sym (values_quiet members) };
      };
    })
      where
        body : List ℕ
        body = list_text 1 value_text members

        whole_fits : Fits (bytes_field 5 body)
        whole_fits = subst Fits (list_value members) given.fits

        body_fits : Fits body
        body_fits = held_fits 5 body whole_fits

        all_given : All (Given left) members
        all_given = λ k d lt. record {
          shallow = (L.values.list_depth left members).0 given.shallow k d lt;
          rising = (L.values.list_rises members).0 given.rising k d lt;
          proper = (L.proper.list members).0 given.proper k d lt;
          fits = list_fits 1 value_text members body_fits k d lt;
        }

    map_again : (pairs : List (List ℕ × Value)) → Given (left + 1) (values.Map pairs) → value_at left (value_text (values.Map pairs)) (leaf (values.Map pairs))
    map_again pairs given = subst (λ t. value_at left t (leaf (values.Map pairs))) (sym (map_value pairs)) (record {
      records = record_of bytes 6 body ∷ [];
      wire = held_wire L.spelled 6 refl body whole_fits;
      value = record {
        records = map (record_of bytes 1) (map key_value_text pairs);
        wire = list_wire L.spelled 1 refl key_value_text pairs body_fits;
        pairs = map quiet_key_value pairs;
        each = subst (λ l. AllZip (key_value_in left) l (map quiet_key_value pairs)) (sym (given_all (bytes_in 1) (record_of bytes 1) (λ x. chosen_own 1 x) (map key_value_text pairs)))
            (each_row (key_value_in left) key_value_text quiet_key_value pairs (λ k d lt. key_value_in_again left inner (get_or pairs k d) (all_given k d lt)));
        make = record {
          attributes = pairs;
          kept = subst (λ l. AreAttributes pairs l) (sym (pairs_back pairs)) (L.rising.themselves pairs rises.0);
          repeated = [];
          twice = subst (λ l. AreRepeated [] l) (sym (pairs_back pairs)) (L.rising.unrepeated pairs rises.0);
          value = refl;
          noted = sym (ap (λ (l : List (List ℕ)). l ++ []) (pairs_quiet pairs));
        };
      };
    })
      where
        body : List ℕ
        body = attributes_text 1 pairs

        whole_fits : Fits (bytes_field 6 body)
        whole_fits = subst Fits (map_value pairs) given.fits

        body_fits : Fits body
        body_fits = held_fits 6 body whole_fits

        rises : Rise (keys pairs) × All (λ pair. MapsRise pair.1) pairs
        rises = (L.values.map_rises pairs).0 given.rising

        all_given : All (GivenKeyValue left) pairs
        all_given = λ k d lt. record {
          shallow = (L.values.map_depth left pairs).0 given.shallow k d lt;
          rising = rises.1 k d lt;
          proper = (L.proper.map pairs).0 given.proper k d lt;
          fits = list_fits 1 key_value_text pairs body_fits k d lt;
        }

    value_again : (v : Value) → Given (left + 1) v → value_at left (value_text v) (leaf v)
    value_again = by_variant (λ v. Given (left + 1) v → value_at left (value_text v) (leaf v)) (record {
      of_text = λ text given. one_again (record_of bytes 1 text) (values.Text text) (record { number = number_one; held = held_fits 1 text given.fits }) (given.proper, refl);
      of_truth = λ truth given. one_again (record_of varint 2 (truth_bit truth)) (values.Truth truth) (record { number = number_two; held = truth_low truth }) (truth, refl, truth_bit_is truth);
      of_number = λ n given. one_again (record_of varint 3 (cast_unsigned w64 n)) (values.Number n) (record { number = number_three; held = number_low n given.proper })
          (ap (λ m. leaf (values.Number m)) (sym (number_back n given.proper)));
      of_eight = λ double given. one_again (record_of fixed64 4 (from_be_bytes w64 double)) (values.Eight double) (record { number = number_four; held = double_low double given.proper.1 })
          (ap (λ m. leaf (values.Eight m)) (sym (double_back double given.proper.0 given.proper.1)));
      of_bytes = λ held given. one_again (record_of bytes 7 held) (values.Bytes held) (record { number = number_seven; held = held_fits 7 held given.fits }) refl;
      of_list = list_again;
      of_map = map_again;
      of_nothing = λ given. record { records = []; wire = no_wire; value = refl };
    })

  in_again : (left : ℕ) (v : Value) → Given left v → value_in left (value_text v) (leaf v)
  unfolding value_in
  in_again zero v given = absurd (omega (arith, some_depth v, given.shallow))
  in_again (suc left) v given = value_again left (in_again left) v (record { shallow = omega (arith, given.shallow); rising = given.rising; proper = given.proper; fits = given.fits })

  -- the pair of an attribute
  attribute_again : (pair : List ℕ × Value) → GivenKeyValue most_levels pair → attribute_at (key_value_text pair) (quiet_key_value pair)
  attribute_again pair given = key_value_again levels_below most_levels pair given (value_again levels_below (in_again levels_below) pair.1)

  module _ (number : ℕ) (attributes : List (List ℕ × Value)) (sound : AreSound attributes) (proper : AreProper attributes) (fits : Fits (attributes_text number attributes)) where
    all_given : All (GivenKeyValue most_levels) attributes
    all_given = λ k d lt. record {
      shallow = (sound.values k d lt).shallow;
      rising = (sound.values k d lt).rising;
      proper = proper k d lt;
      fits = list_fits number key_value_text attributes fits k d lt;
    }

    unrepeated : AreRepeated [] (map entry (map quiet_key_value attributes))
    unrepeated = subst (λ l. AreRepeated [] l) (sym (pairs_back attributes)) (L.rising.unrepeated attributes sound.rising)

    pub attributes_again : AttributesOf (map key_value_text attributes) attributes []
    attributes_again = record {
      pairs = map quiet_key_value attributes;
      each = each_row attribute_at key_value_text quiet_key_value attributes (λ k d lt. attribute_again (get_or attributes k d) (all_given k d lt));
      make = record {
        kept = subst (λ l. AreAttributes attributes l) (sym (pairs_back attributes)) (L.rising.themselves attributes sound.rising);
        rising = unrepeated.rising;
        noted = λ key. (
          λ there. inl ((unrepeated.twice key).0 there),
          λ is. ⊎_elim (λ twice. (unrepeated.twice key).1 twice) (λ there. subst (λ l. Contains l key) (pairs_quiet attributes) there) is,
        );
      };
    }
