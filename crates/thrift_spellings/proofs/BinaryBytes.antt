-- How sizes are judged, of which each byte may be refused.
use Rattle.std.proofs.Common.{◌≡◌, ◌≢◌, ◌≤◌, ◌<◌, ◌+◌, ◌++◌, ◌∷◌, inl, inr, ℕ, zero, suc, List, [], Bool, true, false, ltb, Option, Some, None, Result, Ok, refl, sym, ◌∙◌, subst, arith}
use Rattle.std.proofs.lemmas.Bool.{ltb-true, ltb-false}
use Rattle.std.specs.Int.{w32, from_be_bytes}
use Rattle.span_io.specs.declared.cause.Cause.{Cause}
use Rattle.span_io.specs.declared.cause.Cause.TheVariants as causes
use Rattle.thrift_core.specs.Levels.{turn_of, RefusesPart}
use Rattle.thrift_core.specs.Reading.{◌>>=◌}
use Rattle.thrift_core.proofs.Judged.{opens, MayCome, Judged, found, may_come, JudgesReading}
use Rattle.thrift_core.proofs.JudgedSteps.{zeros, zeros_are_bytes, one_fixed, judged_behind, refused_here}
use Rattle.thrift_core.proofs.Standing.{IsProperWhy, none_some, none_is, some_is, one_counts, own_turn, before_last}
use Rattle.thrift_spellings.specs.BinarySpelling.{IsFixed, IsBinarySize, SaysSome, SaysNegative, BinarySizeFault, IsBinarySizeRefused}
use Rattle.thrift_spellings.specs.BinaryReading.{judged_at, why_first, why_later, binary_size_at}

-- no part has a varint
abbrev pub NoVarint : List ℕ → Type 0
NoVarint front = ⊥

-- a size behind what may have no elements, for this cause
abbrev pub BinarySized : Option Cause → ℕ → List ℕ → Type 0
BinarySized why n text = IsBinarySize n text × (1 ≤ n → why ≡ None)

pub size_fixed : (n : ℕ) (text : List ℕ) → IsBinarySize n text → IsFixed ℕ 4 (from_be_bytes w32) n text
size_fixed n (a ∷ b ∷ c ∷ d ∷ []) h = (refl, h.1)
size_fixed n other h = absurd h

pub one_size : (n m : ℕ) (text other tail more : List ℕ) → IsBinarySize n text → IsBinarySize m other → text ++ tail ≡ other ++ more → (n ≡ m) × (tail ≡ more)
one_size n m text other tail more h g e = one_fixed ℕ 4 (from_be_bytes w32) NoVarint (λ front v. v) n m text other tail more (size_fixed n text h) (size_fixed m other g) e

first_small : (n a : ℕ) (text : List ℕ) → IsBinarySize n (a ∷ text) → a < 128
first_small n a (b ∷ c ∷ d ∷ []) h = h.0
first_small n a other h = absurd h

-- a byte isn't 0, so the size isn't
first_some : (n a : ℕ) (text : List ℕ) → IsBinarySize n (a ∷ text) → a ≢ 0 → 1 ≤ n
first_some n a (b ∷ c ∷ d ∷ []) h some = omega (arith, h.1)
first_some n a other h some = absurd h

second_some : (n a b : ℕ) (text : List ℕ) → IsBinarySize n (a ∷ b ∷ text) → b ≢ 0 → 1 ≤ n
second_some n a b (c ∷ d ∷ []) h some = omega (arith, h.1)
second_some n a b other h some = absurd h

third_some : (n a b c : ℕ) (text : List ℕ) → IsBinarySize n (a ∷ b ∷ c ∷ text) → c ≢ 0 → 1 ≤ n
third_some n a b c (d ∷ []) h some = omega (arith, h.1)
third_some n a b c other h some = absurd h

fourth_some : (n a b c d : ℕ) (text : List ℕ) → IsBinarySize n (a ∷ b ∷ c ∷ d ∷ text) → d ≢ 0 → 1 ≤ n
fourth_some n a b c d [] h some = omega (arith, h.1)
fourth_some n a b c d other h some = absurd h

-- the bytes before one that is refused are 0
quiet_zero : (why : Option Cause) (cause : Cause) (n : ℕ) → (1 ≤ n → why ≡ None) → why ≡ Some cause → n ≡ 0
quiet_zero why cause zero quiet e = refl
quiet_zero why cause (suc n) quiet e = absurd (none_some why cause e (quiet (omega arith)))

-- a later byte of a size
module _ (why : Option Cause) (proper : IsProperWhy why) (S : ℕ → List ℕ → Type 0) (R : Cause → List ℕ → Type 0) (f : ℕ → List ℕ → Result (ℕ × List ℕ) Cause)
    (open_here : MayCome ℕ S []) (none_here : (n : ℕ) → S n [] → ⊥)
    (none_then : (b : ℕ) → b ≢ 0 → (cause : Cause) → why ≡ Some cause → (n : ℕ) (text : List ℕ) → S n (b ∷ text) → ⊥)
    (because : (b : ℕ) → b ≢ 0 → (cause : Cause) → why ≡ Some cause → R cause (b ∷ []))
    (goes_on : (b : ℕ) → (1 ≤ b → why ≡ None) → (bytes : List ℕ) → Judged ℕ (λ n text. S n (b ∷ text)) NoVarint (λ cause text. R cause (b ∷ text)) bytes (f b bytes)) where
  later_some : (b : ℕ) (bytes : List ℕ) (w : Option Cause) → why ≡ w → Judged ℕ S NoVarint R (suc b ∷ bytes) (judged_at (λ x. w) (suc b ∷ bytes) >>= λ x. f x.0 x.1)
  later_some b bytes None e = judged_behind ℕ S NoVarint R (suc b) open_here none_here (λ v. v) bytes (f (suc b) bytes) (goes_on (suc b) (λ some. e) bytes)
  later_some b bytes (Some cause) e =
      refused_here ℕ S NoVarint R (suc b) open_here none_here (λ v. v) bytes cause (because (suc b) (λ z. omega (arith, z)) cause e) (none_then (suc b) (λ z. omega (arith, z)) cause e) (λ front v. v) (proper cause e)

  pub later_byte : (bytes : List ℕ) → Judged ℕ S NoVarint R bytes (judged_at (why_later why) bytes >>= λ x. f x.0 x.1)
  later_byte [] = may_come (opens ℕ S NoVarint [] open_here) refl
  later_byte (zero ∷ bytes) = judged_behind ℕ S NoVarint R 0 open_here none_here (λ v. v) bytes (f 0 bytes) (goes_on 0 (λ some. absurd (omega (arith, some))) bytes)
  later_byte (suc b ∷ bytes) = later_some b bytes why refl

-- of two numbers one isn't 0
either_some : (why : Option Cause) (m n : ℕ) → (1 ≤ m → why ≡ None) → (1 ≤ n → why ≡ None) → 1 ≤ m + n → why ≡ None
either_some why zero n quiet also some = also (omega (arith, some))
either_some why (suc m) n quiet also some = quiet (omega arith)

pub binary_size_fault : (why : Option Cause) → IsProperWhy why → (front : List ℕ) (cause : Cause) → BinarySizeFault why front cause → RefusesPart cause
binary_size_fault why proper front cause (inl h) = proper cause h.0
binary_size_fault why proper front cause (inr h) = subst RefusesPart (sym h.0) (omega arith)

refused_some : (why : Option Cause) → IsProperWhy why → (cause : Cause) (front : List ℕ) → why ≡ Some cause → SaysSome front → IsBinarySizeRefused why cause front
refused_some why proper cause front e says = (inl (e, says), first)
  where
    first : (other : Cause) → BinarySizeFault why front other → turn_of cause ≤ turn_of other
    first other (inl h) = own_turn cause other (some_is other cause (sym h.0 ∙ e))
    first other (inr h) = before_last cause other (proper cause e) h.0

refused_negative : (front : List ℕ) → SaysNegative front → IsBinarySizeRefused None causes.BadSize front
refused_negative front says = (inr (refl, says), first)
  where
    first : (other : Cause) → BinarySizeFault None front other → turn_of causes.BadSize ≤ turn_of other
    first other (inl h) = absurd (none_is other h.0)
    first other (inr h) = own_turn causes.BadSize other (sym h.0)

module _ (why : Option Cause) (proper : IsProperWhy why) where
  abbrev Read : Type 0
  Read = Result (ℕ × List ℕ) Cause

  abbrev Refused : Cause → List ℕ → Type 0
  Refused cause front = IsBinarySizeRefused why cause front

  abbrev at_3 : ℕ → ℕ → ℕ → List ℕ → Read
  at_3 a b c text = judged_at (why_later why) text >>= λ d. Ok (from_be_bytes w32 (a ∷ b ∷ c ∷ d.0 ∷ []), d.1)

  abbrev at_2 : ℕ → ℕ → List ℕ → Read
  at_2 a b text = judged_at (why_later why) text >>= λ c. at_3 a b c.0 c.1

  abbrev at_1 : ℕ → List ℕ → Read
  at_1 a text = judged_at (why_later why) text >>= λ b. at_2 a b.0 b.1

  -- four bytes
  sized : (a b c d : ℕ) → a < 128 → (1 ≤ a + b + c + d → why ≡ None) → BinarySized why (from_be_bytes w32 (a ∷ b ∷ c ∷ d ∷ [])) (a ∷ b ∷ c ∷ d ∷ [])
  sized a b c d small quiet = ((small, refl), λ some. quiet (omega (arith, some)))

  judged_3 : (a b c : ℕ) → a < 128 → (1 ≤ a + b + c → why ≡ None) → (bytes : List ℕ) → Judged ℕ (λ n text. BinarySized why n (a ∷ b ∷ c ∷ text)) NoVarint (λ cause text. Refused cause (a ∷ b ∷ c ∷ text)) bytes (at_3 a b c bytes)
  judged_3 a b c small quiet bytes = later_byte why proper (λ n text. BinarySized why n (a ∷ b ∷ c ∷ text)) (λ cause text. Refused cause (a ∷ b ∷ c ∷ text))
      (λ d rest. Ok (from_be_bytes w32 (a ∷ b ∷ c ∷ d ∷ []), rest))
      (record { word = from_be_bytes w32 (a ∷ b ∷ c ∷ 0 ∷ []); more = zeros 1; are_bytes = zeros_are_bytes 1; some = λ e. cc; spelled = sized a b c 0 small (λ some. quiet (omega (arith, some))) })
      (λ n h. h.0)
      (λ d other cause e n text h. none_some why cause e (h.1 (fourth_some n a b c d text h.0 other)))
      (λ d other cause e. (let none = quiet_zero why cause (a + b + c) quiet e in refused_some why proper cause (a ∷ b ∷ c ∷ d ∷ []) e (omega (arith, none), omega (arith, none), omega (arith, none), other)))
      (λ d also rest. found (from_be_bytes w32 (a ∷ b ∷ c ∷ d ∷ [])) [] rest (sized a b c d small (either_some why (a + b + c) d quiet also)) refl refl)
      bytes

  judged_2 : (a b : ℕ) → a < 128 → (1 ≤ a + b → why ≡ None) → (bytes : List ℕ) → Judged ℕ (λ n text. BinarySized why n (a ∷ b ∷ text)) NoVarint (λ cause text. Refused cause (a ∷ b ∷ text)) bytes (at_2 a b bytes)
  judged_2 a b small quiet bytes = later_byte why proper (λ n text. BinarySized why n (a ∷ b ∷ text)) (λ cause text. Refused cause (a ∷ b ∷ text))
      (at_3 a b)
      (record { word = from_be_bytes w32 (a ∷ b ∷ 0 ∷ 0 ∷ []); more = zeros 2; are_bytes = zeros_are_bytes 2; some = λ e. cc; spelled = sized a b 0 0 small (λ some. quiet (omega (arith, some))) })
      (λ n h. h.0)
      (λ c other cause e n text h. none_some why cause e (h.1 (third_some n a b c text h.0 other)))
      (λ c other cause e. (let none = quiet_zero why cause (a + b) quiet e in refused_some why proper cause (a ∷ b ∷ c ∷ []) e (omega (arith, none), omega (arith, none), other)))
      (λ c also rest. judged_3 a b c small (either_some why (a + b) c quiet also) rest)
      bytes

  judged_1 : (a : ℕ) → a < 128 → (1 ≤ a → why ≡ None) → (bytes : List ℕ) → Judged ℕ (λ n text. BinarySized why n (a ∷ text)) NoVarint (λ cause text. Refused cause (a ∷ text)) bytes (at_1 a bytes)
  judged_1 a small quiet bytes = later_byte why proper (λ n text. BinarySized why n (a ∷ text)) (λ cause text. Refused cause (a ∷ text))
      (at_2 a)
      (record { word = from_be_bytes w32 (a ∷ 0 ∷ 0 ∷ 0 ∷ []); more = zeros 3; are_bytes = zeros_are_bytes 3; some = λ e. cc; spelled = sized a 0 0 0 small (λ some. quiet (omega (arith, some))) })
      (λ n h. h.0)
      (λ b other cause e n text h. none_some why cause e (h.1 (second_some n a b text h.0 other)))
      (λ b other cause e. (let none = quiet_zero why cause a quiet e in refused_some why proper cause (a ∷ b ∷ []) e (none, other)))
      (λ b also rest. judged_2 a b small (either_some why a b quiet also) rest)
      bytes

  open_size : MayCome ℕ (BinarySized why) []
  open_size = record { word = from_be_bytes w32 (0 ∷ 0 ∷ 0 ∷ 0 ∷ []); more = zeros 4; are_bytes = zeros_are_bytes 4; some = λ e. cc; spelled = sized 0 0 0 0 (omega arith) (λ some. absurd (omega (arith, some))) }

  none_size : (n : ℕ) → BinarySized why n [] → ⊥
  none_size n h = h.0

  -- the first byte
  judged_by : (w : Option Cause) → why ≡ w → (b : ℕ) (bytes : List ℕ) (small : Bool) → ltb (suc b) 128 ≡ small → Judged ℕ (BinarySized why) NoVarint Refused (suc b ∷ bytes) (judged_at (why_first w) (suc b ∷ bytes) >>= λ x. at_1 x.0 x.1)
  judged_by None e b bytes true f = rw f (judged_behind ℕ (BinarySized why) NoVarint Refused (suc b) open_size none_size (λ v. v) bytes (at_1 (suc b) bytes) (judged_1 (suc b) (ltb-true (suc b) 128 f) (λ some. e) bytes))
  judged_by None e b bytes false f = rw f (refused_here ℕ (BinarySized why) NoVarint Refused (suc b) open_size none_size (λ v. v) bytes causes.BadSize
      (subst (λ w. IsBinarySizeRefused w causes.BadSize (suc b ∷ [])) (sym e) (refused_negative (suc b ∷ []) (ltb-false (suc b) 128 f)))
      (λ n text h. omega (arith, first_small n (suc b) text h.0, ltb-false (suc b) 128 f)) (λ front v. v) (omega arith))
  judged_by (Some cause) e b bytes small f =
      refused_here ℕ (BinarySized why) NoVarint Refused (suc b) open_size none_size (λ v. v) bytes cause (refused_some why proper cause (suc b ∷ []) e (λ z. omega (arith, z)))
      (λ n text h. none_some why cause e (h.1 (first_some n (suc b) text h.0 (λ z. omega (arith, z))))) (λ front v. v) (proper cause e)

  judged_size : (bytes : List ℕ) → Judged ℕ (BinarySized why) NoVarint Refused bytes (binary_size_at why bytes)
  unfolding binary_size_at
  judged_size [] = may_come (opens ℕ (BinarySized why) NoVarint [] open_size) refl
  judged_size (zero ∷ bytes) = judged_behind ℕ (BinarySized why) NoVarint Refused 0 open_size none_size (λ v. v) bytes (at_1 0 bytes) (judged_1 0 (omega arith) (λ some. absurd (omega (arith, some))) bytes)
  judged_size (suc b ∷ bytes) = judged_by why refl b bytes (ltb (suc b) 128) refl

  one_cause : (front : List ℕ) (a b : Cause) → Refused a front → Refused b front → a ≡ b
  one_cause front a b h g = one_counts (λ fault. BinarySizeFault why front fault) (binary_size_fault why proper front) a b h g

  pub binary_size_judges : JudgesReading ℕ (BinarySized why) NoVarint Refused (λ bytes. binary_size_at why bytes)
  binary_size_judges = record {
    judged = judged_size;
    one = λ n m text other tail more h g e. one_size n m text other tail more h.0 g.0 e;
    ended = λ n text h rest front inside v i e. v;
    one_cause = one_cause;
  }
