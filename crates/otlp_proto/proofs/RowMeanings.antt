-- What is given to a row means one value at most, and nothing in it offends where it means one.
use Rattle.std.proofs.Common.{◌≡◌, ◌≢◌, ◌+◌, ◌%◌, ◌^◌, ℕ, suc, ◌⊎◌, inl, inr, List, [], ◌∷◌, length, Option, Some, None, All, refl, sym, ap, ◌∙◌, arith}
use Rattle.std.specs.Prelude.{Any}
use Rattle.std.specs.List.{AllZip}
use Rattle.std.proofs.lemmas.Bool.{cases_eq}
use Rattle.std.proofs.lemmas.List.Elements.{All-nil, All-cons}
use Rattle.span_io.specs.Tables.{Singular, Twice, NotText, MeansText, Above}
use Rattle.span_io.proofs.TableLaws.{RowMeaning}
use Rattle.span_io.proofs.RowLaws.{all_zip_split, all_zip_once, singular_split, singular_once, singular_fine, EnumLaws}
use Rattle.span_ids.specs.Identifiers.{IsIdText, SpellsTraceId, SpellsSpanId}
use Rattle.proto_wire.specs.Records.{Record}
use Rattle.otlp_proto.specs.Identifiers.{MeansTraceId, MeansSpanId, WrongLength}
use Rattle.trace_model.specs.OtlpParts.{IsNoIdentifier}
use Rattle.otlp_proto.specs.Rows.{bytes_row, number_row, text, time, flags, count, enum, trace_id, span_id, message, messages_of, fixed64_in, fixed32_in, varint_in}

-- ---- identifiers

-- bytes are zeros, or one of them isn't
pub zeros_or : (held : List ℕ) → All (λ b. b ≡ 0) held ⊎ Any (λ b. b ≢ 0) held
zeros_or [] = inl (All-nil (λ b. b ≡ 0))
zeros_or (b ∷ held) = of (cases_eq b 0) (zeros_or held)
  where
    of : (b ≡ 0) ⊎ (b ≡ 0 → ⊥) → All (λ c. c ≡ 0) held ⊎ Any (λ c. c ≢ 0) held → All (λ c. c ≡ 0) (b ∷ held) ⊎ Any (λ c. c ≢ 0) (b ∷ held)
    of (inr some) rest = inr (0, b, omega arith, refl, some)
    of (inl zero) (inl zeros) = inl (All-cons (λ c. c ≡ 0) b held zero zeros)
    of (inl zero) (inr any) = inr (suc any.0, any.1, omega (arith, any.2), any.3, any.4)

pub zeros_only : (held : List ℕ) → All (λ b. b ≡ 0) held → Any (λ b. b ≢ 0) held → ⊥
zeros_only held zeros (k, b, within, at, some) = some (sym at ∙ zeros k b within)

no_id_length : (size : ℕ) (held : List ℕ) → IsNoIdentifier 0 size held → (n : ℕ) → WrongLength size held n → ⊥
no_id_length size held (inl none) n wrong = wrong.1 none
no_id_length size held (inr zeros) n wrong = wrong.2 zeros.0

no_id_spelled : (size more : ℕ) (held : List ℕ) → size ≡ more + 1 → IsNoIdentifier 0 size held → IsIdText size held → ⊥
no_id_spelled size more held e (inl none) spelled = absurd (omega (arith, ap length none, spelled.0))
no_id_spelled size more held e (inr zeros) spelled = zeros_only held zeros.1 spelled.1

trace_length : (held : List ℕ) (id : Option ℕ) → MeansTraceId held id → (n : ℕ) → WrongLength 16 held n → ⊥
trace_length held None means n wrong = no_id_length 16 held means n wrong
trace_length held (Some id) means n wrong = wrong.2 means.0.0

span_length : (held : List ℕ) (id : Option ℕ) → MeansSpanId held id → (n : ℕ) → WrongLength 8 held n → ⊥
span_length held None means n wrong = no_id_length 8 held means n wrong
span_length held (Some id) means n wrong = wrong.2 means.0.0

-- ---- rows

pub text_meaning : (number : ℕ) → RowMeaning (text number)
text_meaning number = record {
  once = λ xs a b h k. singular_once MeansText [] (λ held x y e f. e.1 ∙ sym f.1) xs a b h k;
  fine_here = λ front back x value is n wrong. singular_fine MeansText [] (λ held m. NotText held m) (λ held v means m not. not.1 means.0) front back x value is n wrong;
  fine_inside = λ front back x value is place n h. h;
}

-- of a row whose record is what it means
number_meaning : (give : Record → List ℕ) (of : ℕ → ℕ) → RowMeaning (number_row give ℕ (λ held n. Singular (λ k m. m ≡ of k) (λ x. x ≡ 0) held n) (λ earlier k n. Twice earlier n))
number_meaning give of = record {
  once = λ xs a b h k. singular_once (λ x y. y ≡ of x) 0 (λ held x y e f. e ∙ sym f) xs a b h k;
  fine_here = λ front back x value is n twice. twice.1 (singular_split (λ k m. m ≡ of k) (λ z. z ≡ 0) front back x value is).0;
  fine_inside = λ front back x value is place n h. h;
}

pub time_meaning : (number : ℕ) → RowMeaning (time number)
time_meaning number = number_meaning (fixed64_in number) (λ n. n)

pub flags_meaning : (number : ℕ) → RowMeaning (flags number)
flags_meaning number = number_meaning (fixed32_in number) (λ n. n)

pub count_meaning : (number : ℕ) → RowMeaning (count number)
count_meaning number = number_meaning (varint_in number) (λ n. n % 2 ^ 32)

pub enum_meaning : (number last : ℕ) (E : Type 0) (number_of : E → ℕ) (default : E) → EnumLaws E number_of last → RowMeaning (enum number last E number_of default)
enum_meaning number last E number_of default laws = record {
  once = λ xs a b h k. singular_once (λ n x. n ≡ number_of x) default (λ held x y e f. laws.same x y (sym e ∙ f)) xs a b h k;
  fine_here = λ front back x value is n wrong.
      singular_fine (λ n y. n ≡ number_of y) default (λ k m. Above last k m) (λ k v means m above. laws.within v m (omega (arith, means, above.1))) front back x value is n wrong;
  fine_inside = λ front back x value is place n h. h;
}

module _ (trace_one : (bytes : List ℕ) (a b : ℕ) → SpellsTraceId bytes a → SpellsTraceId bytes b → a ≡ b) where
  trace_once : (held : List ℕ) (a b : Option ℕ) → MeansTraceId held a → MeansTraceId held b → a ≡ b
  trace_once held None None h k = refl
  trace_once held None (Some b) h k = absurd (no_id_spelled 16 15 held (omega arith) h k.0)
  trace_once held (Some a) None h k = absurd (no_id_spelled 16 15 held (omega arith) k h.0)
  trace_once held (Some a) (Some b) h k = ap Some (trace_one held a b h k)

  pub trace_id_once : (xs : List (List ℕ)) (a b : Option ℕ) → Singular MeansTraceId (λ x. x ≡ None) xs a → Singular MeansTraceId (λ x. x ≡ None) xs b → a ≡ b
  trace_id_once xs a b h k = singular_once MeansTraceId None trace_once xs a b h k

  pub trace_id_meaning : (number : ℕ) → RowMeaning (trace_id number)
  trace_id_meaning number = record {
    once = trace_id_once;
    fine_here = λ front back x value is n wrong. singular_fine MeansTraceId None (λ held m. WrongLength 16 held m) trace_length front back x value is n wrong;
    fine_inside = λ front back x value is place n h. h;
  }

module _ (span_one : (bytes : List ℕ) (a b : ℕ) → SpellsSpanId bytes a → SpellsSpanId bytes b → a ≡ b) where
  span_once : (held : List ℕ) (a b : Option ℕ) → MeansSpanId held a → MeansSpanId held b → a ≡ b
  span_once held None None h k = refl
  span_once held None (Some b) h k = absurd (no_id_spelled 8 7 held (omega arith) h k.0)
  span_once held (Some a) None h k = absurd (no_id_spelled 8 7 held (omega arith) k h.0)
  span_once held (Some a) (Some b) h k = ap Some (span_one held a b h k)

  pub span_id_once : (xs : List (List ℕ)) (a b : Option ℕ) → Singular MeansSpanId (λ x. x ≡ None) xs a → Singular MeansSpanId (λ x. x ≡ None) xs b → a ≡ b
  span_id_once xs a b h k = singular_once MeansSpanId None span_once xs a b h k

  pub span_id_meaning : (number : ℕ) → RowMeaning (span_id number)
  span_id_meaning number = record {
    once = span_id_once;
    fine_here = λ front back x value is n wrong. singular_fine MeansSpanId None (λ held m. WrongLength 8 held m) span_length front back x value is n wrong;
    fine_inside = λ front back x value is place n h. h;
  }

-- what a message in a row keeps
pub record Reads {B : Type 0} (Means : List ℕ → B → Type 0) (Offends : List ℕ → ℕ → ℕ → Type 0) : Type 0 where
  pub once : (held : List ℕ) (x y : B) → Means held x → Means held y → x ≡ y
  pub fine : (x : B) (held : List ℕ) → Means held x → (place n : ℕ) → Offends held place n → ⊥

pub message_meaning : (number : ℕ) (B : Type 0) (Means : List ℕ → B → Type 0) (absent : B) (Offends : List ℕ → ℕ → ℕ → Type 0) → Reads Means Offends → RowMeaning (message number B Means absent Offends)
message_meaning number B Means absent Offends reads = record {
  once = λ xs a b h k. singular_once Means absent reads.once xs a b h k;
  fine_here = λ front back x value is n twice. twice.1 (singular_split Means (λ z. z ≡ absent) front back x value is).0;
  fine_inside = λ front back x value is place n inner. reads.fine value x (singular_split Means (λ z. z ≡ absent) front back x value is).1 place n inner;
}

-- of repeated messages, whatever else they break
pub repeated_meaning : (number : ℕ) (B : Type 0) (Means : List ℕ → B → Type 0) (Here : List (List ℕ) → List ℕ → ℕ → Type 0) (Offends : List ℕ → ℕ → ℕ → Type 0) → Reads Means Offends
    → ((x : B) (earlier : List (List ℕ)) (held : List ℕ) → Means held x → (n : ℕ) → Here earlier held n → ⊥) → RowMeaning (bytes_row number (List B) (λ held xs. AllZip Means held xs) Here Offends)
repeated_meaning number B Means Here Offends reads right = record {
  once = λ xs a b h k. all_zip_once Means reads.once xs a b h k;
  fine_here = λ front back x value is n wrong. let at = all_zip_split Means front back x value is in right at.0 front x at.1 n wrong;
  fine_inside = λ front back x value is place n inner. let at = all_zip_split Means front back x value is in reads.fine at.0 x at.1 place n inner;
}

pub messages_meaning : (number : ℕ) (B : Type 0) (Means : List ℕ → B → Type 0) (Offends : List ℕ → ℕ → ℕ → Type 0) → Reads Means Offends → RowMeaning (messages_of number B Means Offends)
messages_meaning number B Means Offends reads = repeated_meaning number B Means (λ earlier held n. ⊥) Offends reads (λ x earlier held is n h. h)
