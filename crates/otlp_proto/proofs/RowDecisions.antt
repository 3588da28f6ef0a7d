-- Whether something offends in a row is decided, and what doesn't offend means something.
use Rattle.std.proofs.Common.{◌≡◌, ◌≢◌, ◌≤◌, ◌%◌, ◌^◌, ℕ, ◌⊎◌, inl, inr, List, [], ◌∷◌, ◌++◌, length, Option, Some, None, All, refl, arith}
use Rattle.std.specs.Prelude.{Any}
use Rattle.std.specs.Int.{w64, w128, from_be_bytes}
use Rattle.std.proofs.lemmas.Bool.{cases_eq}
use Rattle.std.specs.List.{AllZip}
use Rattle.span_io.specs.Causes.{cause_number}
use Rattle.span_io.specs.declared.cause.Cause.{Cause}
use Rattle.span_io.specs.declared.cause.Cause.TheVariants as causes
use Rattle.span_io.specs.Offences.{Least}
use Rattle.span_io.specs.Tables.{Singular, Twice, NotText, MeansText, Above}
use Rattle.span_io.proofs.RowLaws.{singular_exists, twice_or, twice_only, not_text, some_text, above_or, not_above}
use Rattle.span_io.proofs.TableDecisions.{Decided, DecidedHere, Clean, RowDecides}
use Rattle.proto_wire.specs.Records.{Record}
use Rattle.otlp_proto.specs.Identifiers.{MeansTraceId, MeansSpanId, WrongLength}
use Rattle.otlp_proto.specs.Rows.{bytes_row, number_row, text, time, flags, count, enum, trace_id, span_id, message, messages_of, fixed64_in, fixed32_in, varint_in}
use Rattle.otlp_proto.proofs.RowMeanings.{Reads, zeros_or}

nothing_inside : Decided (λ place n. ⊥)
nothing_inside = inl (λ place n h. h)

-- ---- identifiers

pub empty_or : (held : List ℕ) → (held ≡ []) ⊎ (held ≡ [] → ⊥)
empty_or [] = inl refl
empty_or (b ∷ held) = inr (λ e. cc)

wrong_length : (size : ℕ) (held : List ℕ) → DecidedHere (λ n. WrongLength size held n)
wrong_length size held = of (empty_or held) (cases_eq (length held) size)
  where
    of : (held ≡ []) ⊎ (held ≡ [] → ⊥) → (length held ≡ size) ⊎ (length held ≡ size → ⊥) → DecidedHere (λ n. WrongLength size held n)
    of (inl none) same = inl (λ n wrong. wrong.1 none)
    of (inr some) (inl same) = inl (λ n wrong. wrong.2 same)
    of (inr some) (inr other) = inr (causes.BadId, (refl, some, other), λ m wrong. omega (arith, wrong.0))

-- bytes that aren't of a wrong length are none, or have it
right_length : (size : ℕ) (held : List ℕ) → ((n : ℕ) → WrongLength size held n → ⊥) → (held ≡ []) ⊎ (length held ≡ size)
right_length size held right = of (empty_or held) (cases_eq (length held) size)
  where
    of : (held ≡ []) ⊎ (held ≡ [] → ⊥) → (length held ≡ size) ⊎ (length held ≡ size → ⊥) → (held ≡ []) ⊎ (length held ≡ size)
    of (inl none) same = inl none
    of (inr some) (inl same) = inr same
    of (inr some) (inr other) = absurd (right 12 (refl, some, other))

some_trace : (held : List ℕ) → ((n : ℕ) → WrongLength 16 held n → ⊥) → (id : Option ℕ) × MeansTraceId held id
some_trace held right = of (right_length 16 held right) (zeros_or held)
  where
    of : (held ≡ []) ⊎ (length held ≡ 16) → All (λ b. b ≡ 0) held ⊎ Any (λ b. b ≢ 0) held → (id : Option ℕ) × MeansTraceId held id
    of (inl none) any = (None, inl none)
    of (inr size) (inr any) = (Some (from_be_bytes w128 held), ((size, any), refl))
    of (inr size) (inl zeros) = (None, inr (size, zeros))

some_span : (held : List ℕ) → ((n : ℕ) → WrongLength 8 held n → ⊥) → (id : Option ℕ) × MeansSpanId held id
some_span held right = of (right_length 8 held right) (zeros_or held)
  where
    of : (held ≡ []) ⊎ (length held ≡ 8) → All (λ b. b ≡ 0) held ⊎ Any (λ b. b ≢ 0) held → (id : Option ℕ) × MeansSpanId held id
    of (inl none) any = (None, inl none)
    of (inr size) (inr any) = (Some (from_be_bytes w64 held), ((size, any), refl))
    of (inr size) (inl zeros) = (None, inr (size, zeros))

-- ---- rows

pub text_decides : (number : ℕ) → RowDecides (text number)
text_decides number = record {
  here = λ earlier held. twice_or earlier (λ n. NotText held n) (λ m wrong. omega (arith, wrong.0)) (not_text held);
  inside = λ held. nothing_inside;
  exists = singular_exists (text number) MeansText [] NotText (λ earlier x n h. h) (λ xs v h. h) (λ held right inner. (held, some_text held right));
}

number_decides : (give : Record → List ℕ) (of : ℕ → ℕ) → RowDecides (number_row give ℕ (λ held n. Singular (λ k m. m ≡ of k) (λ x. x ≡ 0) held n) (λ earlier k n. Twice earlier n))
number_decides give of = record {
  here = λ earlier k. twice_only earlier;
  inside = λ k. nothing_inside;
  exists = singular_exists (number_row give ℕ (λ held n. Singular (λ k m. m ≡ of k) (λ x. x ≡ 0) held n) (λ earlier k n. Twice earlier n)) (λ k m. m ≡ of k) 0 (λ k n. ⊥) only (λ xs v h. h) (λ k right inner. (of k, refl));
}
  where
    only : (earlier : List ℕ) (x n : ℕ) → Twice earlier n ⊎ ⊥ → Twice earlier n
    only earlier x n (inl twice) = twice
    only earlier x n (inr never) = absurd never

pub time_decides : (number : ℕ) → RowDecides (time number)
time_decides number = number_decides (fixed64_in number) (λ n. n)

pub flags_decides : (number : ℕ) → RowDecides (flags number)
flags_decides number = number_decides (fixed32_in number) (λ n. n)

pub count_decides : (number : ℕ) → RowDecides (count number)
count_decides number = number_decides (varint_in number) (λ n. n % 2 ^ 32)

pub enum_decides : (number last : ℕ) (E : Type 0) (number_of : E → ℕ) (default : E) → ((k : ℕ) → k ≤ last → (e : E) × (k ≡ number_of e)) → RowDecides (enum number last E number_of default)
enum_decides number last E number_of default named = record {
  here = λ earlier k. twice_or earlier (λ n. Above last k n) (λ m wrong. omega (arith, wrong.0)) (above_or last k);
  inside = λ k. nothing_inside;
  exists = singular_exists (enum number last E number_of default) (λ n x. n ≡ number_of x) default (λ k n. Above last k n) (λ earlier x n h. h) (λ xs v h. h) (λ k right inner. named k (not_above last k right));
}

pub trace_id_decides : (number : ℕ) → RowDecides (trace_id number)
trace_id_decides number = record {
  here = λ earlier held. twice_or earlier (λ n. WrongLength 16 held n) (λ m wrong. omega (arith, wrong.0)) (wrong_length 16 held);
  inside = λ held. nothing_inside;
  exists = singular_exists (trace_id number) MeansTraceId None (λ held n. WrongLength 16 held n) (λ earlier x n h. h) (λ xs v h. h) (λ held right inner. some_trace held right);
}

pub span_id_decides : (number : ℕ) → RowDecides (span_id number)
span_id_decides number = record {
  here = λ earlier held. twice_or earlier (λ n. WrongLength 8 held n) (λ m wrong. omega (arith, wrong.0)) (wrong_length 8 held);
  inside = λ held. nothing_inside;
  exists = singular_exists (span_id number) MeansSpanId None (λ held n. WrongLength 8 held n) (λ earlier x n h. h) (λ xs v h. h) (λ held right inner. some_span held right);
}

-- ---- rows of messages

-- some bytes mean something, or an offence in them counts
abbrev pub Chosen : {B : Type 0} → (List ℕ → B → Type 0) → (List ℕ → ℕ → ℕ → Type 0) → List ℕ → Type 0
Chosen {B} Means Offends held = ((x : B) × Means held x) ⊎ ((cause : Cause) × Least (λ p m. Offends held p m) (cause_number cause))

module _ {B : Type 0} (Means : List ℕ → B → Type 0) (Offends : List ℕ → ℕ → ℕ → Type 0) (reads : Reads Means Offends) (chosen : (held : List ℕ) → Chosen Means Offends held) where
  pub chosen_decided : (held : List ℕ) → Decided (λ p n. Offends held p n)
  chosen_decided held = of (chosen held)
    where
      of : Chosen Means Offends held → Decided (λ p n. Offends held p n)
      of (inl (x, is)) = inl (λ p n o. reads.fine x held is p n o)
      of (inr least) = inr least

  some_of : (held : List ℕ) → ((p n : ℕ) → Offends held p n → ⊥) → (x : B) × Means held x
  some_of held fine = of (chosen held)
    where
      of : Chosen Means Offends held → (x : B) × Means held x
      of (inl found) = found
      of (inr (cause, least)) = absurd (fine least.place (cause_number cause) least.offence)

  pub message_decides : (number : ℕ) (absent : B) → RowDecides (message number B Means absent Offends)
  message_decides number absent = record {
    here = λ earlier held. twice_only earlier;
    inside = chosen_decided;
    exists = singular_exists (message number B Means absent Offends) Means absent (λ held n. ⊥) only (λ xs v h. h) (λ held right inner. some_of held inner);
  }
    where
      only : (earlier : List (List ℕ)) (x : List ℕ) (n : ℕ) → Twice earlier n ⊎ ⊥ → Twice earlier n
      only earlier x n (inl twice) = twice
      only earlier x n (inr never) = absurd never

  pub all_of : (number : ℕ) (Here : List (List ℕ) → List ℕ → ℕ → Type 0) (xs earlier : List (List ℕ)) → Clean (bytes_row number (List B) (λ held ys. AllZip Means held ys) Here Offends) earlier xs → (ys : List B) × AllZip Means xs ys
  all_of number Here [] earlier clean = ([], tt)
  all_of number Here (x ∷ xs) earlier clean =
      let first = some_of x clean.1 in
      let others = all_of number Here xs (earlier ++ x ∷ []) clean.2 in
      (first.0 ∷ others.0, (first.1, others.1))

  pub messages_decides : (number : ℕ) → RowDecides (messages_of number B Means Offends)
  messages_decides number = record {
    here = λ earlier held. inl (λ n h. h);
    inside = chosen_decided;
    exists = λ xs clean. all_of number (λ earlier held n. ⊥) xs [] clean;
  }
