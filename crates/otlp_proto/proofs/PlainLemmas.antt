-- A plain pair is a reading of its bytes: its two records, and the one record of its value.
use Rattle.std.proofs.Common.{◌≡◌, ◌*◌, ◌+◌, ◌<◌, ◌≤◌, ℕ, List, [], ◌∷◌, true, false, length, refl, sym, ap, subst, arith}
use Rattle.std.proofs.lemmas.List.{append-nil}
use Rattle.span_io.specs.Offences.{Offence}
use Rattle.span_io.specs.Varint.{SpellsVarint, SpellsWithin}
use Rattle.proto_wire.specs.Messages.{messages}
use Rattle.proto_wire.specs.Records.{varint, bytes, Record}
use Rattle.proto_wire.specs.Wire.{Wire}
use Rattle.trace_model.specs.declared.noted.KeyValue.{KeyValue}
use Rattle.trace_model.specs.OtlpParts.{leaf}
use Rattle.otlp_proto.specs.private.PlainPairs.{short_field, value_of, IsPlainValue, IsPlainPair}
use Rattle.otlp_proto.specs.StatedLaws.{ReadingLaws}
use Rattle.trace_model.specs.declared.value.Value.TheVariants as values
use Rattle.otlp_proto.specs.Values.{value_at, key_value_at, key_value_rules}
use Rattle.otlp_proto.specs.declared.reading.plain.PlainPair.{PlainPair}
use Rattle.otlp_proto.specs.declared.reading.plain.PlainValue.{PlainValue}
use Rattle.otlp_proto.specs.declared.reading.plain.PlainValue.TheVariants as plain
use Rattle.otlp_proto.proofs.FieldLemmas.{no_wire}
use Rattle.otlp_proto.proofs.ValueReadings.{key_value_at_reads}

-- a byte below 128 is the varint of its number
one_byte : (n : ℕ) → n < 128 → SpellsVarint (n ∷ []) n
unfolding SpellsVarint SpellsWithin
one_byte n small = (small, refl)

-- the record of a short field, in front of others
short_wire : (number : ℕ) → number < 16 → 1 ≤ number → (held behind : List ℕ) (more : List Record) → length held < 128 → Wire more behind
    → Wire (record { number = number; held = bytes held } ∷ more) (short_field (number * 8 + 2) held behind)
unfolding Wire
short_wire number small above held behind more short rest = (
  behind,
  record {
    text = (number * 8 + 2) ∷ length held ∷ held;
    spelled = record {
      number = (above, omega (arith, small));
      key = (number * 8 + 2) ∷ [];
      payload = length held ∷ held;
      key_spelled = one_byte (number * 8 + 2) (omega (arith, small));
      payload_spelled = (length held ∷ [], one_byte (length held) short, refl);
      parts = refl;
    };
    parts = refl;
  },
  rest,
)

-- the record of a number or a truth
number_wire : (number n : ℕ) (digits : List ℕ) → number < 16 → 1 ≤ number → SpellsVarint digits n → Wire (record { number = number; held = varint n } ∷ []) ((number * 8 + 0) ∷ digits)
unfolding Wire
number_wire number n digits small above spelled = (
  [],
  record {
    text = (number * 8 + 0) ∷ digits;
    spelled = record {
      number = (above, omega (arith, small));
      key = (number * 8 + 0) ∷ [];
      payload = digits;
      key_spelled = one_byte (number * 8 + 0) (omega (arith, small));
      payload_spelled = spelled;
      parts = refl;
    };
    parts = sym (append-nil ((number * 8 + 0) ∷ digits));
  },
  refl,
)

pub value_reading : (left : ℕ) (value : PlainValue) (held : List ℕ) → IsPlainValue value held → value_at left held (leaf (value_of value))
value_reading left (plain.Text text) held is = record {
  records = record { number = 1; held = bytes text.now } ∷ [];
  wire = subst (λ (l : List ℕ). Wire (record { number = 1; held = bytes text.now } ∷ []) l) (sym is.2) (short_wire 1 (omega arith) (omega arith) text.now [] [] is.1 no_wire);
  value = (is.0, refl);
}
value_reading left (plain.Number n) held (digits, bits, spelled, same, parts) = record {
  records = record { number = 3; held = varint bits } ∷ [];
  wire = subst (λ (l : List ℕ). Wire (record { number = 3; held = varint bits } ∷ []) l) (sym parts) (number_wire 3 bits digits (omega arith) (omega arith) spelled);
  value = ap (λ k. leaf (values.Number k)) same;
}
value_reading left (plain.Truth true) held is = record {
  records = record { number = 2; held = varint 1 } ∷ [];
  wire = subst (λ (l : List ℕ). Wire (record { number = 2; held = varint 1 } ∷ []) l) (sym is) (number_wire 2 1 (1 ∷ []) (omega arith) (omega arith) (one_byte 1 (omega arith)));
  value = (true, refl, (λ h. omega arith, λ h. refl));
}
value_reading left (plain.Truth false) held is = record {
  records = record { number = 2; held = varint 0 } ∷ [];
  wire = subst (λ (l : List ℕ). Wire (record { number = 2; held = varint 0 } ∷ []) l) (sym is) (number_wire 2 0 (0 ∷ []) (omega arith) (omega arith) (one_byte 0 (omega arith)));
  value = (false, refl, (λ h. cc, λ h. absurd (h refl)));
}

pub pair_reading : (left : ℕ) (pair : PlainPair) (text : List ℕ) → IsPlainPair pair text → (p : KeyValue) → p.key ≡ pair.key.now → p.value ≡ leaf (value_of pair.value) → key_value_at left text p
pair_reading left pair text is p key value = record {
  records = record { number = 1; held = bytes pair.key.now } ∷ record { number = 2; held = bytes is.held } ∷ [];
  wire = subst (λ (l : List ℕ). Wire (record { number = 1; held = bytes pair.key.now } ∷ record { number = 2; held = bytes is.held } ∷ []) l) (sym is.parts)
      (short_wire 1 (omega arith) (omega arith) pair.key.now (short_field 18 is.held []) (record { number = 2; held = bytes is.held } ∷ []) is.short_key
      (short_wire 2 (omega arith) (omega arith) is.held [] [] is.short_value no_wire));
  key = (is.utf8, key);
  value = subst (λ v. value_at left is.held v) (sym value) (value_reading left pair.value is.held is.value);
}

-- so nothing offends in it
pub pair_fine : ReadingLaws → (left : ℕ) (pair : PlainPair) (text : List ℕ) → IsPlainPair pair text → (place n : ℕ) → Offence messages (key_value_rules left) text place n → ⊥
pair_fine laws left pair text is =
    let p : KeyValue = record { key = pair.key.now; value = leaf (value_of pair.value) } in
    (key_value_at_reads laws.facts laws.once left).fine p text (pair_reading left pair text is p refl refl)
