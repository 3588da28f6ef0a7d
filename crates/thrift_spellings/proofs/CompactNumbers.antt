-- How numbers that have a sign are judged.
use Rattle.std.proofs.Common.{◌≡◌, ◌≢◌, ◌+◌, ◌*◌, ◌/◌, ◌%◌, eqb, leb, ltb, ◌⊎◌, inl, inr, ℕ, ℤ, pos, negsuc, List, [], Bool, true, false, Result, Ok, Err, FitsSigned, if◌then◌else◌, refl, ap, sym, ◌∙◌, subst, arith}
use Rattle.std.proofs.lemmas.Bool.{eqb-true, eqb-false, eq-eqb, ne_eqb, ltb-true, ltb-false, leb-true, leb-false}
use Rattle.std.proofs.Math.Bool.{and-true}
use Rattle.std.specs.Int.{Width, w16, w32}
use Rattle.span_io.specs.declared.cause.Cause.{Cause}
use Rattle.span_io.specs.declared.cause.Cause.TheVariants as causes
use Rattle.span_io.specs.declared.cursor.Lack.{Lack}
use Rattle.span_io.specs.Varint.{SpellsVarint, IsOverlong, varint_at}
use Rattle.span_io.specs.Zigzag.{zigzag, unzigzag, zigzag_at}
use Rattle.thrift_core.specs.Levels.{RefusesPart}
use Rattle.thrift_core.proofs.Judged.{Judged, JudgesReading}
use Rattle.thrift_spellings.specs.CompactSpelling.{IsSigned, IsSignedRefused}
use Rattle.thrift_spellings.specs.CompactReading.{is_signed, within, signed_at}
use Rattle.thrift_spellings.proofs.CompactVarints.{IsNumber, varint_or_cause, number_judges}

-- the same readings in other words
pub judges_at : (W : Type 0) (S : W → List ℕ → Type 0) (V : List ℕ → Type 0) (R : Cause → List ℕ → Type 0) (reads other : List ℕ → Result (W × List ℕ) Cause)
    → ((bytes : List ℕ) → reads bytes ≡ other bytes) → JudgesReading W S V R reads → JudgesReading W S V R other
judges_at W S V R reads other same laws = record {
  judged = λ bytes. subst (λ read. Judged W S V R bytes read) (same bytes) (laws.judged bytes);
  one = laws.one;
  ended = laws.ended;
  one_cause = laws.one_cause;
}

pub ok_is : {A : Type 0} (a b : A) → ◌≡◌ {A = Result A Cause} (Ok a) (Ok b) → a ≡ b
ok_is a b e = cc

pub err_is : {A : Type 0} (a b : Cause) → ◌≡◌ {A = Result A Cause} (Err a) (Err b) → a ≡ b
err_is a b e = cc

pub ok_not_err : {A : Type 0} (a : A) (cause : Cause) → ◌≡◌ {A = Result A Cause} (Ok a) (Err cause) → ⊥
ok_not_err a cause e = cc

-- ---- zigzag both ways

zigzag_by : (n : ℕ) (b : Bool) → eqb (n % 2) 0 ≡ b → zigzag (if b then pos (n / 2) else negsuc (n / 2)) ≡ n
zigzag_by n true e = omega (arith, eqb-true (n % 2) 0 e)
zigzag_by n false e = (let odd : n % 2 ≢ 0 = eqb-false (n % 2) 0 e in omega (arith, odd))

pub zigzagged : (n : ℕ) → zigzag (unzigzag n) ≡ n
zigzagged n = zigzag_by n (eqb (n % 2) 0) refl

even_back : (n k : ℕ) → k ≡ 2 * n → unzigzag k ≡ pos n
even_back n k e =
    let even : eqb (k % 2) 0 ≡ true = eq-eqb (k % 2) 0 (omega arith) in
    let half : k / 2 ≡ n = omega arith in
    ap (λ b. if b then pos (k / 2) else negsuc (k / 2)) even ∙ ap pos half

odd_back : (n k : ℕ) → k ≡ 2 * n + 1 → unzigzag k ≡ negsuc n
odd_back n k e =
    let odd : eqb (k % 2) 0 ≡ false = ne_eqb (k % 2) 0 (omega arith) in
    let half : k / 2 ≡ n = omega arith in
    ap (λ b. if b then pos (k / 2) else negsuc (k / 2)) odd ∙ ap negsuc half

pub unzigzagged : (z : ℤ) → unzigzag (zigzag z) ≡ z
unzigzagged (pos n) = even_back n (2 * n) refl
unzigzagged (negsuc n) = odd_back n (2 * n + 1) refl

-- ---- numbers that have a sign

-- the test by bits is the one of the type
pub data Tested (w : Width) (many : ℕ) (z : ℤ) : Type 0 where
  fits : FitsSigned w z → is_signed many z ≡ true → Tested w many z
  unfit : (FitsSigned w z → ⊥) → is_signed many z ≡ false → Tested w many z

pub tested_16 : (z : ℤ) → Tested w16 15 z
tested_16 (pos n) = by_size n (ltb n 32768) refl
  where
    by_size : (n : ℕ) (b : Bool) → ltb n 32768 ≡ b → Tested w16 15 (pos n)
    by_size n true e = fits (record { sfits = ltb-true n 32768 e }) e
    by_size n false e = unfit (λ f. omega (arith, f.sfits, ltb-false n 32768 e)) e
tested_16 (negsuc n) = by_size n (leb n 32767) refl
  where
    by_size : (n : ℕ) (b : Bool) → leb n 32767 ≡ b → Tested w16 15 (negsuc n)
    by_size n true e = fits (record { sfits = omega (arith, leb-true n 32767 e) }) (and-true (leb n 32767) ∙ e)
    by_size n false e = unfit (λ f. omega (arith, f.sfits, leb-false n 32767 e)) (and-true (leb n 32767) ∙ e)

pub tested_32 : (z : ℤ) → Tested w32 31 z
tested_32 (pos n) = by_size n (ltb n 2147483648) refl
  where
    by_size : (n : ℕ) (b : Bool) → ltb n 2147483648 ≡ b → Tested w32 31 (pos n)
    by_size n true e = fits (record { sfits = ltb-true n 2147483648 e }) e
    by_size n false e = unfit (λ f. omega (arith, f.sfits, ltb-false n 2147483648 e)) e
tested_32 (negsuc n) = by_size n (leb n 2147483647) refl
  where
    by_size : (n : ℕ) (b : Bool) → leb n 2147483647 ≡ b → Tested w32 31 (negsuc n)
    by_size n true e = fits (record { sfits = omega (arith, leb-true n 2147483647 e) }) (and-true (leb n 2147483647) ∙ e)
    by_size n false e = unfit (λ f. omega (arith, f.sfits, leb-false n 2147483647 e)) (and-true (leb n 2147483647) ∙ e)

module _ (w : Width) (many : ℕ) (outside : Cause) (tested : (z : ℤ) → Tested w many z) (zero_fits : FitsSigned w (pos 0))
    (of_part : RefusesPart outside) where
  abbrev meant_signed : ℕ → Result ℤ Cause
  meant_signed n = within many outside (unzigzag n)

  within_by : (z : ℤ) (b : Bool) → is_signed many z ≡ b → within many outside z ≡ (if b then Ok z else Err outside)
  within_by z b e = ap (λ b. if b then Ok z else Err outside) e

  within_fit : (z : ℤ) → FitsSigned w z → within many outside z ≡ Ok z
  within_fit z h = elim (tested z) [
    | fits f e ↦ within_by z true e
    | unfit f e ↦ absurd (f h)
  ]

  within_unfit : (z : ℤ) → (FitsSigned w z → ⊥) → within many outside z ≡ Err outside
  within_unfit z h = elim (tested z) [
    | fits f e ↦ absurd (h f)
    | unfit f e ↦ within_by z false e
  ]

  kept_by : (z word : ℤ) → Tested w many z → within many outside z ≡ Ok word → (z ≡ word) × FitsSigned w word
  kept_by z word (fits f e) h = (let same = ok_is z word (sym (within_by z true e) ∙ h) in (same, subst (λ x. FitsSigned w x) same f))
  kept_by z word (unfit f e) h = absurd (ok_not_err word outside (sym h ∙ within_by z false e))

  outside_by : (z : ℤ) (cause : Cause) → Tested w many z → within many outside z ≡ Err cause → (cause ≡ outside) × (FitsSigned w z → ⊥)
  outside_by z cause (fits f e) h = absurd (ok_not_err z cause (sym (within_by z true e) ∙ h))
  outside_by z cause (unfit f e) h = (err_is cause outside (sym h ∙ within_by z false e), f)

  spelled_signed : (word : ℤ) (text : List ℕ) (n : ℕ) → SpellsVarint text n → meant_signed n ≡ Ok word → IsSigned w word text
  spelled_signed word text n s e =
      let kept = kept_by (unzigzag n) word (tested (unzigzag n)) e in
      (subst (λ k. SpellsVarint text k) (sym (zigzagged n) ∙ ap zigzag kept.0) s, kept.1)

  refusing_signed : (text : List ℕ) (cause : Cause) → IsSignedRefused w outside cause text → ((cause ≡ causes.BadVarint) × IsOverlong text) ⊎ ((n : ℕ) × SpellsVarint text n × (meant_signed n ≡ Err cause))
  refusing_signed text cause (inl h) = inl h
  refusing_signed text cause (inr h) = inr (zigzag h.1.0, h.1.1, ap (λ z. within many outside z) (unzigzagged h.1.0) ∙ within_unfit h.1.0 h.1.2 ∙ ap (λ c. Err c) (sym h.0))

  unsuited_signed : (text : List ℕ) (n : ℕ) (cause : Cause) → SpellsVarint text n → meant_signed n ≡ Err cause → IsSignedRefused w outside cause text
  unsuited_signed text n cause s e =
      let out = outside_by (unzigzag n) cause (tested (unzigzag n)) e in
      inr (out.0, (unzigzag n, subst (λ k. SpellsVarint text k) (sym (zigzagged n)) s, out.1))

  proper_signed : (n : ℕ) (cause : Cause) → meant_signed n ≡ Err cause → RefusesPart cause
  proper_signed n cause e =
      let out = outside_by (unzigzag n) cause (tested (unzigzag n)) e in
      subst RefusesPart (sym out.0) of_part

  signed_is : IsNumber ℤ (IsSigned w) (IsSignedRefused w outside) meant_signed
  signed_is = record {
    spelled = spelled_signed;
    spelling = λ word text h. (zigzag word, h.0, ap (λ z. within many outside z) (unzigzagged word) ∙ within_fit word h.1);
    overlong = λ text h. inl (refl, h);
    unsuited = unsuited_signed;
    refusing = refusing_signed;
    proper = proper_signed;
    none = pos 0;
    of_zero = within_fit (pos 0) zero_fits;
  }

  same_signed : (bytes : List ℕ) (read : Result (ℕ × List ℕ) Lack) → varint_at bytes ≡ read → varint_or_cause ℤ meant_signed bytes ≡ signed_at many outside bytes
  unfolding signed_at zigzag_at
  same_signed bytes (Ok read) e = rw e refl
  same_signed bytes (Err lack) e = rw e refl

  pub signed_judges : (V : List ℕ → Type 0) → V [] → ((front : List ℕ) → V front → front ≡ []) → JudgesReading ℤ (IsSigned w) V (IsSignedRefused w outside) (signed_at many outside)
  signed_judges V here at_once =
      judges_at ℤ (IsSigned w) V (IsSignedRefused w outside) (varint_or_cause ℤ meant_signed) (signed_at many outside) (λ bytes. same_signed bytes (varint_at bytes) refl)
      (number_judges ℤ (IsSigned w) V (IsSignedRefused w outside) meant_signed signed_is here at_once)

-- ---- the ids of fields

pub zero_16 : FitsSigned w16 (pos 0)
zero_16 = record { sfits = omega arith }

pub zero_32 : FitsSigned w32 (pos 0)
zero_32 = record { sfits = omega arith }

pub id_judges : (V : List ℕ → Type 0) → V [] → ((front : List ℕ) → V front → front ≡ []) → JudgesReading ℤ (IsSigned w16) V (IsSignedRefused w16 causes.BadWire) (signed_at 15 causes.BadWire)
id_judges V here at_once = signed_judges w16 15 causes.BadWire tested_16 zero_16 (omega arith) V here at_once

pub within_id : (z : ℤ) → FitsSigned w16 z → within 15 causes.BadWire z ≡ Ok z
within_id z h = within_fit w16 15 causes.BadWire tested_16 zero_16 (omega arith) z h

pub outside_id : (z : ℤ) → (FitsSigned w16 z → ⊥) → within 15 causes.BadWire z ≡ Err causes.BadWire
outside_id z h = within_unfit w16 15 causes.BadWire tested_16 zero_16 (omega arith) z h
