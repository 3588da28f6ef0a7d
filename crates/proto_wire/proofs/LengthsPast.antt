-- A length by which a record has more bytes than the limit, and how reading finds it.
use Rattle.std.proofs.Common.{◌≡◌, ◌≢◌, ◌≤◌, ◌<◌, ◌+◌, ◌-◌, ◌*◌, ◌/◌, ◌%◌, ◌++◌, ◌↔◌, ◌⊎◌, inl, inr, ℕ, List, length, true, ltb, Result, Ok, Err, refl, ap, sym, ◌∙◌, subst, arith}
use Rattle.std.proofs.lemmas.Bool.{lt-ltb, ltb-true}
use Rattle.std.proofs.lemmas.Bool.Decides.{leb_tells, eqb_tells}
use Rattle.std.proofs.lemmas.List.{length-append, append_assoc}
use Rattle.span_io.specs.declared.cause.Cause.{Cause}
use Rattle.span_io.specs.declared.cause.Cause.TheVariants as causes
use Rattle.span_io.specs.Varint.{SpellsVarint}
use Rattle.span_io.specs.VarintLaws.{VarintLaws}
use Rattle.proto_wire.specs.Records.{bytes, IsFieldNumber}
use Rattle.proto_wire.specs.Wire.{HoldsLengthPast}
use Rattle.proto_wire.specs.Reading.{number_at, held_bytes_at, field_number, record_at, ◌>>=◌}
use Rattle.proto_wire.proofs.Varints.{NumberIs, number_is, number_read}
use Rattle.proto_wire.proofs.Payloads.{is_2, held_2}
use Rattle.proto_wire.proofs.Spellings.{with_number, FieldIs, field_good, field_refused, field_is, field_in, key_parts, key_number, key_wire, parted_key}

pub past_more : (limit : ℕ) (text more : List ℕ) → HoldsLengthPast limit text → HoldsLengthPast limit (text ++ more)
past_more limit text more h = record {
  number = h.number;
  is_number = h.is_number;
  key = h.key;
  key_spelled = h.key_spelled;
  size = h.size;
  held = h.held;
  size_spelled = h.size_spelled;
  others = h.others ++ more;
  parts = ap (λ l. l ++ more) h.parts ∙ append_assoc h.key (h.size ++ h.others) more ∙ ap (λ l. h.key ++ l) (append_assoc h.size h.others more);
  past = h.past;
}

bytes_short : (size : ℕ) (text : List ℕ) → length text < size → held_bytes_at size text ≡ Err causes.Truncated
bytes_short size text h = rw (lt-ltb (length text) size h) refl

past_length : (key size others text : List ℕ) → text ≡ key ++ (size ++ others) → length text ≡ length key + (length size + length others)
past_length key size others text e = omega (arith, ap length e, length-append key (size ++ others), length-append size others)

-- what reading finds of it: a key that a length follows, and the length
pub record ReadsLengthPast (limit : ℕ) (text : List ℕ) : Type 0 where
  pub key : ℕ
  pub behind : List ℕ
  pub size : ℕ
  pub others : List ℕ
  pub key_read : number_at text ≡ Ok (key, behind)
  pub field_read : field_number key ≡ Ok (key / 8)
  pub wire : key % 8 ≡ 2
  pub size_read : number_at behind ≡ Ok (size, others)
  pub past : limit - (length text - length others) < size

abbrev pub Number : ℕ × List ℕ → Result (ℕ × List ℕ) Cause
Number x = Ok x

pub same_number : (x y : ℕ × List ℕ) → Number x ≡ Number y → x ≡ y
same_number x y e = cc

known_field : (key n : ℕ) → field_number key ≡ Ok n → IsFieldNumber (key / 8)
known_field key n e = by_field (field_is key)
  where
    by_field : FieldIs key → IsFieldNumber (key / 8)
    by_field (field_good good) = good
    by_field (field_refused bad f) = cc

module _ (L : VarintLaws) where
  -- bytes within the limit that hold such a length end inside the record
  pub past_read : (limit : ℕ) (text : List ℕ) → HoldsLengthPast limit text → length text ≤ limit → record_at text ≡ Err causes.Truncated
  past_read limit text h within =
      let few : length h.others < h.held = omega (arith, past_length h.key h.size h.others text h.parts, h.past) in
      ap record_at h.parts
      ∙ parted_key L h.key (h.size ++ h.others) h.number 2 h.is_number is_2 h.key_spelled
      ∙ ap (λ r. r >>= with_number h.number) (held_2 (h.size ++ h.others)
      ∙ ap (λ r. r >>= λ n. held_bytes_at n.0 n.1 >>= λ b. Ok (bytes b.0, b.1)) (number_read L h.held h.size h.others h.size_spelled)
      ∙ ap (λ r. r >>= λ b. Ok (bytes b.0, b.1)) (bytes_short h.held h.others few))

  pub past_reads : (limit : ℕ) (text : List ℕ) → length text ≤ limit → HoldsLengthPast limit text → ReadsLengthPast limit text
  past_reads limit text within h =
      let number_e : (h.number * 8 + 2) / 8 ≡ h.number = key_number h.number 2 (omega arith) in
      record {
        key = h.number * 8 + 2;
        behind = h.size ++ h.others;
        size = h.held;
        others = h.others;
        key_read = ap number_at h.parts ∙ number_read L (h.number * 8 + 2) h.key (h.size ++ h.others) h.key_spelled;
        field_read = field_in (h.number * 8 + 2) (subst IsFieldNumber (sym number_e) h.is_number);
        wire = key_wire h.number 2 (omega arith);
        size_read = number_read L h.held h.size h.others h.size_spelled;
        past = omega (arith, past_length h.key h.size h.others text h.parts, h.past);
      }

  pub past_found : (limit : ℕ) (text behind others : List ℕ) (key size : ℕ) → length text ≤ limit → number_at text ≡ Ok (key, behind) → IsFieldNumber (key / 8) → key % 8 ≡ 2
      → number_at behind ≡ Ok (size, others) → limit - (length text - length others) < size → HoldsLengthPast limit text
  past_found limit text behind others key size within key_read good wire size_read past =
      let k = subst (NumberIs text) key_read (number_is L text) in
      let s = subst (NumberIs behind) size_read (number_is L behind) in
      let parts : text ≡ k.text ++ (s.text ++ others) = k.parts ∙ ap (λ l. k.text ++ l) s.parts in
      record {
        number = key / 8;
        is_number = good;
        key = k.text;
        key_spelled = subst (λ m. SpellsVarint k.text m) (key_parts key ∙ ap (λ w. key / 8 * 8 + w) wire) k.spelled;
        size = s.text;
        held = size;
        size_spelled = s.spelled;
        others = others;
        parts = parts;
        past = omega (arith, past_length k.text s.text others text parts, past);
      }

  -- ---- what each step of reading says of it

  module _ (limit : ℕ) (text : List ℕ) (within : length text ≤ limit) where
    pub no_key : (cause : Cause) → number_at text ≡ Err cause → HoldsLengthPast limit text → ⊥
    no_key cause e h = let r = (past_reads limit text within h).key_read in cc

    module _ (key : ℕ) (behind : List ℕ) (key_read : number_at text ≡ Ok (key, behind)) where
      -- the same key is read
      keyed : (r : ReadsLengthPast limit text) → (r.key ≡ key) × (r.behind ≡ behind)
      keyed r = let pairs = same_number (r.key, r.behind) (key, behind) (sym r.key_read ∙ key_read) in (ap (λ x. x.0) pairs, ap (λ x. x.1) pairs)

      pub no_field : (cause : Cause) → field_number key ≡ Err cause → HoldsLengthPast limit text → ⊥
      no_field cause e h =
          let r = past_reads limit text within h in
          let known : field_number key ≡ Ok (key / 8) = subst (λ k. field_number k ≡ Ok (k / 8)) (keyed r).0 r.field_read in cc

      pub no_wire : key % 8 ≢ 2 → HoldsLengthPast limit text → ⊥
      no_wire other h = let r = past_reads limit text within h in other (subst (λ k. k % 8 ≡ 2) (keyed r).0 r.wire)

      pub no_size : (cause : Cause) → number_at behind ≡ Err cause → HoldsLengthPast limit text → ⊥
      no_size cause e h =
          let r = past_reads limit text within h in
          let known : number_at behind ≡ Ok (r.size, r.others) = ap number_at (sym (keyed r).1) ∙ r.size_read in cc

      pub size_past : (size : ℕ) (others : List ℕ) → number_at behind ≡ Ok (size, others) → HoldsLengthPast limit text → limit - (length text - length others) < size
      size_past size others e h =
          let r = past_reads limit text within h in
          let pairs = same_number (r.size, r.others) (size, others) (sym r.size_read ∙ ap number_at (keyed r).1 ∙ e) in
          omega (arith, r.past, ap (λ x. x.0) pairs, ap (λ x. length x.1) pairs)

      pub past_exactly : (n size place : ℕ) (others : List ℕ) → field_number key ≡ Ok n → key % 8 ≡ 2 → number_at behind ≡ Ok (size, others) → place + length others ≡ length text
          → (ltb (limit - place) size ≡ true) ↔ HoldsLengthPast limit text
      past_exactly n size place others field wire e at = (
        λ less. past_found limit text behind others key size within key_read (known_field key n field) wire e (omega (arith, at, ltb-true (limit - place) size less)),
        λ h. lt-ltb (limit - place) size (omega (arith, at, size_past size others e h)),
      )

      -- it is there, or isn't
      size_tells : IsFieldNumber (key / 8) → key % 8 ≡ 2 → (r : Result (ℕ × List ℕ) Cause) → number_at behind ≡ r → HoldsLengthPast limit text ⊎ (HoldsLengthPast limit text → ⊥)
      size_tells good wire (Err cause) e = inr (no_size cause e)
      size_tells good wire (Ok x) e = elim (leb_tells x.0 (limit - (length text - length x.1))) as (λ d. HoldsLengthPast limit text ⊎ (HoldsLengthPast limit text → ⊥)) [
        | inl within_limit ↦ inr (λ h. omega (arith, within_limit.1, size_past x.0 x.1 e h))
        | inr beyond ↦ inl (past_found limit text behind x.1 key x.0 within key_read good wire e (omega (arith, beyond.1)))
      ]

      key_tells : FieldIs key → HoldsLengthPast limit text ⊎ (HoldsLengthPast limit text → ⊥)
      key_tells (field_refused bad e) = inr (no_field causes.BadWire e)
      key_tells (field_good good) = elim (eqb_tells (key % 8) 2) as (λ d. HoldsLengthPast limit text ⊎ (HoldsLengthPast limit text → ⊥)) [
        | inl wire ↦ size_tells good wire.1 (number_at behind) refl
        | inr other ↦ inr (no_wire other.1)
      ]

    tells_by : (r : Result (ℕ × List ℕ) Cause) → number_at text ≡ r → HoldsLengthPast limit text ⊎ (HoldsLengthPast limit text → ⊥)
    tells_by (Err cause) e = inr (no_key cause e)
    tells_by (Ok x) e = key_tells x.0 x.1 e (field_is x.0)

    pub tells_past : HoldsLengthPast limit text ⊎ (HoldsLengthPast limit text → ⊥)
    tells_past = tells_by (number_at text) refl
