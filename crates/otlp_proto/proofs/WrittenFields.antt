-- The rows of OTLP's tables as they are written, each with the value that its records mean.
use Rattle.std.proofs.Common.{◌≡◌, ℕ, suc, ◌<◌, ◌^◌, inl, inr, Bool, true, false, List, [], ◌∷◌, length, map, get_or, refl, sym, ◌∙◌, arith}
use Rattle.std.specs.Prelude.{◌==◌, Option, Some, None, IsUtf8}
use Rattle.std.specs.Int.{w128, to_be_bytes}
use Rattle.std.proofs.Math.Nat.{mod-eq_of_lt}
use Rattle.std.proofs.lemmas.Bool.{cases_lt, eqb-true}
use Rattle.std.specs.List.{AllZip}
use Rattle.span_io.specs.Tables.{Singular, MeansText}
use Rattle.span_ids.specs.StatedLaws.{IdentifiersReadBack}
use Rattle.proto_wire.specs.Records.{varint, fixed64, fixed32, Record, IsProper}
use Rattle.proto_wire.specs.Wire.{SpellsRecord, record_text}
use Rattle.span_ids.specs.Proper.{IsProperTraceId, IsProperParent}
use Rattle.otlp_proto.specs.Identifiers.{MeansSpanId}
use Rattle.otlp_proto.specs.Rows.{varint_in, fixed64_in, fixed32_in, MeansNumber, MeansCount, text, time, flags, count, enum, trace_id, span_id, message, messages_of}
use Rattle.otlp_proto.specs.Canonical.{filled_field, count_field, time_field, flags_field, trace_field, parent_field, list_text}
use Rattle.otlp_proto.proofs.FieldLemmas.{Fits, filled_fits, list_fits, present, unless_zero, some, parent_held, IsSmall, field_number, held_wire, filled_wire, list_wire, parent_wire, number_wire}
use Rattle.span_io.proofs.RowLaws.{EnumLaws}
use Rattle.otlp_proto.proofs.WrittenRows.{Written, of_bytes, of_numbers, finds_varint, finds_fixed64, finds_fixed32}

-- ---- what a row that may be left out means

pub text_row : (held : List ℕ) → IsUtf8 held → Singular MeansText (λ t. t ≡ []) (present held) held
text_row [] utf8 = refl
text_row (b ∷ held) utf8 = (utf8, refl)

pub number_row : (n : ℕ) → Singular MeansNumber (λ x. x ≡ 0) (some n) n
number_row n = of (n == 0) refl
  where
    of : (b : Bool) → (n == 0) ≡ b → Singular MeansNumber (λ x. x ≡ 0) (unless_zero b n) n
    of true is = eqb-true n 0 is
    of false is = refl

pub count_row : (n : ℕ) → n < 2 ^ 32 → Singular MeansCount (λ x. x ≡ 0) (some n) n
count_row n low = of (n == 0) refl
  where
    of : (b : Bool) → (n == 0) ≡ b → Singular MeansCount (λ x. x ≡ 0) (unless_zero b n) n
    of true is = eqb-true n 0 is
    of false is = sym (mod-eq_of_lt low)

module _ {E : Type 0} (number_of : E → ℕ) (last : ℕ) (default e : E) (laws : EnumLaws E number_of last) (none : number_of default ≡ 0) where
  pub enum_row : Singular (λ n x. n ≡ number_of x) (λ x. x ≡ default) (some (number_of e)) e
  enum_row = of (number_of e == 0) refl
    where
      of : (b : Bool) → (number_of e == 0) ≡ b → Singular (λ n x. n ≡ number_of x) (λ x. x ≡ default) (unless_zero b (number_of e)) e
      of true is = laws.same e default (eqb-true (number_of e) 0 is ∙ sym none)
      of false is = refl

  pub enum_low : last < 2 ^ 32 → number_of e < 2 ^ 32
  enum_low small = elim (cases_lt last (number_of e)) as (λ w. number_of e < 2 ^ 32) [
    | inl above ↦ absurd (laws.within e 0 above)
    | inr within ↦ omega (arith, within, small)
  ]

pub message_row : {B : Type 0} (Is : List ℕ → B → Type 0) (absent value : B) (held : List ℕ) → (held ≡ [] → value ≡ absent) → Is held value → Singular Is (λ x. x ≡ absent) (present held) value
message_row Is absent value [] none is = none refl
message_row Is absent value (b ∷ held) none is = is

pub each_row : {A B : Type 0} (Is : List ℕ → B → Type 0) (written : A → List ℕ) (value : A → B) (xs : List A) → ((k : ℕ) (d : A) → k < length xs → Is (written (get_or xs k d)) (value (get_or xs k d))) → AllZip Is (map written xs) (map value xs)
each_row Is written value [] all = tt
each_row Is written value (x ∷ xs) all = (all 0 x (omega arith), each_row Is written value xs (λ k d lt. all (suc k) d (omega (arith, lt))))

-- ---- the rows of the tables

module _ (spelled : (r : Record) → IsProper r → SpellsRecord (record_text r) r) (number : ℕ) (small : IsSmall number) where
  abbrev pub text_written : (held : List ℕ) → IsUtf8 held → Written (text number)
  text_written held utf8 = of_bytes number _ _ _ _ held (present held) (filled_field number held) (filled_wire spelled number small held) (λ fits. text_row held utf8)

  abbrev pub time_written : (n : ℕ) → n < 2 ^ 64 → Written (time number)
  time_written n low = of_numbers number fixed64 (fixed64_in number) (finds_fixed64 number) _ _ _ n (some n) (time_field number n)
      (λ fits. number_wire spelled number small fixed64 (n == 0) n (record { number = field_number number small; held = low })) (number_row n)

  abbrev pub flags_written : (n : ℕ) → n < 2 ^ 32 → Written (flags number)
  flags_written n low = of_numbers number fixed32 (fixed32_in number) (finds_fixed32 number) _ _ _ n (some n) (flags_field number n)
      (λ fits. number_wire spelled number small fixed32 (n == 0) n (record { number = field_number number small; held = low })) (number_row n)

  abbrev pub count_written : (n : ℕ) → n < 2 ^ 32 → Written (count number)
  count_written n low = of_numbers number varint (varint_in number) (finds_varint number) _ _ _ n (some n) (count_field number n)
      (λ fits. number_wire spelled number small varint (n == 0) n (record { number = field_number number small; held = omega (arith, low) })) (count_row n low)

  abbrev pub enum_written : (last : ℕ) (E : Type 0) (number_of : E → ℕ) (default e : E) → last < 2 ^ 32 → EnumLaws E number_of last → number_of default ≡ 0 → Written (enum number last E number_of default)
  enum_written last E number_of default e low laws none = of_numbers number varint (varint_in number) (finds_varint number) _ _ _ e (some (number_of e)) (count_field number (number_of e))
      (λ fits. number_wire spelled number small varint (number_of e == 0) (number_of e) (record { number = field_number number small; held = omega (arith, enum_low number_of last default e laws none low) }))
      (enum_row number_of last default e laws none)

  abbrev pub message_written : (B : Type 0) (Is : List ℕ → B → Type 0) (absent : B) (Offends : List ℕ → ℕ → ℕ → Type 0) (value : B) (held : List ℕ) → (held ≡ [] → value ≡ absent) → (Fits held → Is held value)
      → Written (message number B Is absent Offends)
  message_written B Is absent Offends value held none is = of_bytes number _ _ _ _ value (present held) (filled_field number held) (filled_wire spelled number small held)
      (λ fits. message_row Is absent value held none (is (filled_fits number held fits)))

  abbrev pub messages_written : {A : Type 0} (B : Type 0) (Is : List ℕ → B → Type 0) (Offends : List ℕ → ℕ → ℕ → Type 0) (written : A → List ℕ) (value : A → B) (xs : List A)
      → ((k : ℕ) (d : A) → k < length xs → Fits (written (get_or xs k d)) → Is (written (get_or xs k d)) (value (get_or xs k d))) → Written (messages_of number B Is Offends)
  messages_written B Is Offends written value xs all = of_bytes number _ _ _ _ (map value xs) (map written xs) (list_text number written xs) (list_wire spelled number small written xs)
      (λ fits. each_row Is written value xs (λ k d lt. all k d lt (list_fits number written xs fits k d lt)))

  module _ (ids : IdentifiersReadBack) where
    abbrev pub trace_id_written : (id : ℕ) → IsProperTraceId id → Written (trace_id number)
    trace_id_written id proper = of_bytes number _ _ _ _ (Some id) (to_be_bytes w128 id ∷ []) (trace_field number id) (held_wire spelled number small (to_be_bytes w128 id)) (λ fits. ids.trace_written id proper.0 proper.1)

    pub span_row : (id : Option ℕ) → IsProperParent id → Singular MeansSpanId (λ x. x ≡ None) (parent_held id) id
    span_row None proper = refl
    span_row (Some id) proper = ids.span_written id proper.0 proper.1

    abbrev pub span_id_written : (id : Option ℕ) → IsProperParent id → Written (span_id number)
    span_id_written id proper = of_bytes number _ _ _ _ id (parent_held id) (parent_field number id) (parent_wire spelled number small id) (λ fits. span_row id proper)
