-- How the offence that counts is found where members and elements are looked at in their order: what was looked at has none, and the
-- first that is met is the least.
use Rattle.std.proofs.Common.{◌≡◌, ℕ, zero, suc, ◌≤◌, ◌⊎◌, inl, inr, List, [], ◌∷◌, ◌++◌, length, Option, Some, None, is_some, true, Result, Err, refl, sym, ap, subst, arith}
use Rattle.span_io.specs.Causes.{cause_number}
use Rattle.span_io.specs.declared.cause.Cause.{Cause}
use Rattle.span_io.specs.declared.halt.Halt.{Halt}
use Rattle.span_io.specs.declared.halt.Halt.TheVariants as halts
use Rattle.span_io.specs.declared.refusal.Refusal.{Refusal}
use Rattle.span_io.specs.Paths.{Offences, nothing, here, ◌▹◌, each, valued, ComesBefore, IsLeast, NothingOffends, Quiet, Counts, Halts, JudgesValue, HaltsInput, JudgesInput, in_unit}

-- ---- one value

pub clean_nothing : NothingOffends nothing
clean_nothing = record { none = λ path number offends. offends }

pub quiet_nothing : Quiet nothing
quiet_nothing = record { none = λ number offends. offends }

pub clean_here : (Numbers : ℕ → Type 0) → ((n : ℕ) → ¬ Numbers n) → NothingOffends (here Numbers)
clean_here Numbers fine = record { none = none }
  where
    none : (path : List ℕ) (n : ℕ) → ¬ here Numbers path n
    none [] n offends = fine n offends
    none (i ∷ path) n offends = offends

pub least_here : (Numbers : ℕ → Type 0) (number : ℕ) → Numbers number → ((n : ℕ) → Numbers n → number ≤ n) → IsLeast (here Numbers) [] number
least_here Numbers number offence first = record { offence = offence; least = least }
  where
    least : (p : List ℕ) (n : ℕ) → here Numbers p n → ComesBefore [] p ⊎ (([] ≡ p) × (number ≤ n))
    least [] n o = inr (refl, first n o)
    least (i ∷ p) n o = absurd o

pub counts_here : (Numbers : ℕ → Type 0) (number : ℕ) → Numbers number → ((n : ℕ) → Numbers n → number ≤ n) → Counts (here Numbers) number
counts_here Numbers number offence first = record { path = []; is_least = least_here Numbers number offence first }

-- of a value of a kind, and of one that isn't
pub clean_valued : {A : Type 0} (Offends : Offences) (o : Option A) → is_some o ≡ true → NothingOffends Offends → NothingOffends (valued (λ x. Offends) o)
clean_valued Offends (Some x) shape clean = clean
clean_valued {A} Offends None shape clean = cc

pub halts_valued : {A : Type 0} (halt : Halt Cause) (Offends : Offences) (o : Option A) → is_some o ≡ true → Halts halt Offends → Halts halt (valued (λ x. Offends) o)
halts_valued halt Offends (Some x) shape h = h
halts_valued {A} halt Offends None shape h = cc

-- one number alone
pub counts_only : (number : ℕ) → Counts (here (λ n. n ≡ number)) number
counts_only number = counts_here (λ n. n ≡ number) number refl (λ n e. omega arith)

-- ---- two parts

module _ (First Others : Offences) where
  pub clean_parts : NothingOffends First → NothingOffends Others → NothingOffends (First ▹ Others)
  unfolding ◌▹◌
  clean_parts first others = record { none = none }
    where
      none : (path : List ℕ) (n : ℕ) → ¬ (First ▹ Others) path n
      none [] n offends = others.none [] n offends
      none (zero ∷ path) n offends = first.none path n offends
      none (suc i ∷ path) n offends = others.none (i ∷ path) n offends

  pub quiet_parts : Quiet Others → Quiet (First ▹ Others)
  unfolding ◌▹◌
  quiet_parts others = record { none = λ n offends. others.none n offends }

  pub first_of_parts : Quiet Others → (path : List ℕ) (number : ℕ) → IsLeast First path number → IsLeast (First ▹ Others) (zero ∷ path) number
  unfolding ◌▹◌
  first_of_parts quiet path number h = record { offence = h.offence; least = least }
    where
      same : (p : List ℕ) (n : ℕ) → ComesBefore path p ⊎ ((path ≡ p) × (number ≤ n)) → ComesBefore (zero ∷ path) (zero ∷ p) ⊎ ((zero ∷ path ≡ zero ∷ p) × (number ≤ n))
      same p n (inl before) = inl (inr (refl, before))
      same p n (inr here) = inr (ap (λ (q : List ℕ). zero ∷ q) here.0, here.1)

      least : (p : List ℕ) (n : ℕ) → (First ▹ Others) p n → ComesBefore (zero ∷ path) p ⊎ ((zero ∷ path ≡ p) × (number ≤ n))
      least [] n o = absurd (quiet.none n o)
      least (zero ∷ p) n o = same p n (h.least p n o)
      least (suc i ∷ p) n o = inl (inl (omega arith))

  -- the path among the others, seen from the whole
  abbrev pub one_on : List ℕ → List ℕ
  one_on [] = []
  one_on (i ∷ path) = suc i ∷ path

  one_on-before : (p q : List ℕ) → ComesBefore p q → ComesBefore (one_on p) (one_on q)
  one_on-before [] [] h = h
  one_on-before [] (j ∷ q) h = tt
  one_on-before (i ∷ p) [] h = h
  one_on-before (i ∷ p) (j ∷ q) (inl less) = inl (omega arith)
  one_on-before (i ∷ p) (j ∷ q) (inr h) = inr (ap suc h.0, h.1)

  pub later_of_parts : NothingOffends First → (path : List ℕ) (number : ℕ) → IsLeast Others path number → IsLeast (First ▹ Others) (one_on path) number
  unfolding ◌▹◌
  later_of_parts clean path number h = record { offence = offence path h.offence; least = least }
    where
      offence : (p : List ℕ) → Others p number → (First ▹ Others) (one_on p) number
      offence [] o = o
      offence (i ∷ p) o = o

      further : (p : List ℕ) (n : ℕ) → ComesBefore path p ⊎ ((path ≡ p) × (number ≤ n)) → ComesBefore (one_on path) (one_on p) ⊎ ((one_on path ≡ one_on p) × (number ≤ n))
      further p n (inl before) = inl (one_on-before path p before)
      further p n (inr here) = inr (ap one_on here.0, here.1)

      least : (p : List ℕ) (n : ℕ) → (First ▹ Others) p n → ComesBefore (one_on path) p ⊎ ((one_on path ≡ p) × (number ≤ n))
      least [] n o = further [] n (h.least [] n o)
      least (zero ∷ p) n o = absurd (clean.none p n o)
      least (suc i ∷ p) n o = further (i ∷ p) n (h.least (i ∷ p) n o)

-- What is met first counts.
pub halts_first : (halt : Halt Cause) (First Others : Offences) → Quiet Others → Halts halt First → Halts halt (First ▹ Others)
halts_first (halts.Why cause) First Others quiet h =
    record { path = zero ∷ h.path; is_least = first_of_parts First Others quiet h.path (cause_number cause) h.is_least }
halts_first halts.OutOfMemory First Others quiet h = tt

pub halts_later : (halt : Halt Cause) (First Others : Offences) → NothingOffends First → Halts halt Others → Halts halt (First ▹ Others)
halts_later (halts.Why cause) First Others clean h =
    record { path = one_on First Others h.path; is_least = later_of_parts First Others clean h.path (cause_number cause) h.is_least }
halts_later halts.OutOfMemory First Others clean h = tt

-- what a call answers that hands a halt on
pub exits : {T : Type 0} (halt : Halt Cause) (answer : Result T (Halt Cause)) (Offends : Offences) → answer ≡ Err halt → Halts halt Offends → JudgesValue answer Offends
exits {T} halt answer Offends e h = subst (λ (r : Result T (Halt Cause)). JudgesValue r Offends) (sym e) h

pub ruleset in_order = (clean_nothing, clean_parts, quiet_nothing, quiet_parts, halts_first, halts_later, clean_valued, halts_valued)

-- ---- a list of elements

module _ {A : Type 0} (Offends : A → Offences) where
  pub quiet_each : (xs : List A) → Quiet (each Offends xs)
  quiet_each [] = quiet_nothing
  quiet_each (x ∷ xs) = quiet_parts (Offends x) (each Offends xs) (quiet_each xs)

  pub clean_one_more : (seen : List A) (x : A) → NothingOffends (each Offends seen) → NothingOffends (Offends x) → NothingOffends (each Offends (seen ++ x ∷ []))
  unfolding ◌▹◌
  clean_one_more [] x all clean = clean_parts (Offends x) nothing clean clean_nothing
  clean_one_more (y ∷ seen) x all clean =
      clean_parts (Offends y) (each Offends (seen ++ x ∷ [])) (record { none = λ path n o. all.none (zero ∷ path) n o })
      (clean_one_more seen x (record { none = rest }) clean)
    where
      rest : (path : List ℕ) (n : ℕ) → ¬ each Offends seen path n
      rest [] n o = (quiet_each seen).none n o
      rest (i ∷ path) n o = all.none (suc i ∷ path) n o

  -- the first element that offends, behind others that don't
  pub least_at : (seen : List A) (x : A) (more : List A) → NothingOffends (each Offends seen) → (path : List ℕ) (number : ℕ) → IsLeast (Offends x) path number
      → IsLeast (each Offends (seen ++ x ∷ more)) (length seen ∷ path) number
  unfolding ◌▹◌
  least_at [] x more clean path number h = first_of_parts (Offends x) (each Offends more) (quiet_each more) path number h
  least_at (y ∷ seen) x more clean path number h =
      later_of_parts (Offends y) (each Offends (seen ++ x ∷ more)) (record { none = λ p n o. clean.none (zero ∷ p) n o }) (length seen ∷ path) number
      (least_at seen x more (record { none = rest }) path number h)
    where
      rest : (p : List ℕ) (n : ℕ) → ¬ each Offends seen p n
      rest [] n o = (quiet_each seen).none n o
      rest (i ∷ p) n o = clean.none (suc i ∷ p) n o

  pub halts_at : (halt : Halt Cause) (seen : List A) (x : A) (more : List A) → NothingOffends (each Offends seen) → Halts halt (Offends x) → Halts halt (each Offends (seen ++ x ∷ more))
  halts_at (halts.Why cause) seen x more clean h =
      record { path = length seen ∷ h.path; is_least = least_at seen x more clean h.path (cause_number cause) h.is_least }
  halts_at halts.OutOfMemory seen x more clean h = tt

  -- the same, as a refusal with the element's number
  pub halts_input_at : (halt : Halt Cause) (seen : List A) (x : A) (more : List A) → NothingOffends (each Offends seen) → Halts halt (Offends x)
      → HaltsInput (in_unit (suc (length seen)) halt) (each Offends (seen ++ x ∷ more))
  halts_input_at (halts.Why cause) seen x more clean h =
      record { path = length seen ∷ h.path; is_least = least_at seen x more clean h.path (cause_number cause) h.is_least; unit = refl }
  halts_input_at halts.OutOfMemory seen x more clean h = tt

pub exits_input : {T : Type 0} (halt : Halt Refusal) (answer : Result T (Halt Refusal)) (Offends : Offences) → answer ≡ Err halt → HaltsInput halt Offends → JudgesInput answer Offends
exits_input {T} halt answer Offends e h = subst (λ (r : Result T (Halt Refusal)). JudgesInput r Offends) (sym e) h

-- ---- one offence counts

before_both : (p q : List ℕ) → ComesBefore p q → ComesBefore q p → ⊥
before_both [] [] h k = h
before_both [] (j ∷ q) h k = k
before_both (i ∷ p) [] h k = h
before_both (i ∷ p) (j ∷ q) (inl a) (inl b) = omega arith
before_both (i ∷ p) (j ∷ q) (inl a) (inr b) = absurd (omega (arith, b.0))
before_both (i ∷ p) (j ∷ q) (inr a) (inl b) = absurd (omega (arith, a.0))
before_both (i ∷ p) (j ∷ q) (inr a) (inr b) = before_both p q a.1 b.1

before_itself : (p : List ℕ) → ComesBefore p p → ⊥
before_itself p h = before_both p p h h

pub one_least : (Offends : Offences) (p q : List ℕ) (n m : ℕ) → IsLeast Offends p n → IsLeast Offends q m → (p ≡ q) × (n ≡ m)
one_least Offends p q n m h k = both (h.least q m k.offence) (k.least p n h.offence)
  where
    both : ComesBefore p q ⊎ ((p ≡ q) × (n ≤ m)) → ComesBefore q p ⊎ ((q ≡ p) × (m ≤ n)) → (p ≡ q) × (n ≡ m)
    both (inl a) (inl b) = absurd (before_both p q a b)
    both (inl a) (inr b) = absurd (before_itself p (subst (λ (x : List ℕ). ComesBefore p x) b.0 a))
    both (inr a) (inl b) = absurd (before_itself q (subst (λ (x : List ℕ). ComesBefore q x) a.0 b))
    both (inr a) (inr b) = (a.0, omega (arith, a.1, b.1))
