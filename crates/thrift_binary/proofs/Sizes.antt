-- What a size gives where its four bytes are there, by the number that they are, and where they are not.
use Rattle.std.proofs.Common.{◌≡◌, ◌≢◌, ◌≤◌, ◌<◌, ◌∷◌, ℕ, zero, suc, List, [], length, take, drop, get_or, replicate, Any, Option, Some, None, Ok, Err, refl, sym, ◌∙◌, arith}
use Rattle.std.proofs.lemmas.Bool.{lt-ltb, le-ltb}
use Rattle.std.proofs.lemmas.List.{get_or-replicate}
use Rattle.std.specs.List.{slice_get}
use Rattle.std.specs.Int.{w32, from_be_bytes}
use Rattle.span_io.specs.declared.cause.Cause.{Cause}
use Rattle.span_io.specs.declared.cause.Cause.TheVariants as causes
use Rattle.thrift_spellings.specs.BinaryReading.{why_first, why_later, binary_size_at}

-- the number at the front, the most significant byte first
abbrev pub number_of : List ℕ → ℕ
number_of text = from_be_bytes w32 (take 4 text)

pub size_zero : (why : Option Cause) (text : List ℕ) → 4 ≤ length text → number_of text ≡ 0 → binary_size_at why text ≡ Ok (0, drop 4 text)
unfolding binary_size_at
size_zero why (zero ∷ zero ∷ zero ∷ zero ∷ rest) long e = refl
size_zero why (zero ∷ zero ∷ zero ∷ suc d ∷ rest) long e = absurd (omega (arith, e))
size_zero why (zero ∷ zero ∷ suc c ∷ d ∷ rest) long e = absurd (omega (arith, e))
size_zero why (zero ∷ suc b ∷ c ∷ d ∷ rest) long e = absurd (omega (arith, e))
size_zero why (suc a ∷ b ∷ c ∷ d ∷ rest) long e = absurd (omega (arith, e))
size_zero why other long e = absurd (omega (arith, long))

pub size_blamed : (cause : Cause) (text : List ℕ) → 4 ≤ length text → number_of text ≢ 0 → binary_size_at (Some cause) text ≡ Err cause
unfolding binary_size_at
size_blamed cause (zero ∷ zero ∷ zero ∷ zero ∷ rest) long some = absurd (some refl)
size_blamed cause (zero ∷ zero ∷ zero ∷ suc d ∷ rest) long some = refl
size_blamed cause (zero ∷ zero ∷ suc c ∷ d ∷ rest) long some = refl
size_blamed cause (zero ∷ suc b ∷ c ∷ d ∷ rest) long some = refl
size_blamed cause (suc a ∷ b ∷ c ∷ d ∷ rest) long some = refl
size_blamed cause other long some = absurd (omega (arith, long))

later_none : (b : ℕ) → why_later None b ≡ None
later_none zero = refl
later_none (suc b) = refl

first_none : (a : ℕ) → a < 128 → why_first None a ≡ None
first_none zero small = refl
first_none (suc a) small = rw (lt-ltb (suc a) 128 small) refl

first_bad : (a : ℕ) → 128 ≤ a → why_first None a ≡ Some causes.BadSize
first_bad zero big = absurd (omega (arith, big))
first_bad (suc a) big = rw (le-ltb (suc a) 128 big) refl

pub size_negative : (first : ℕ) (text : List ℕ) → 127 < first → get_or text 0 first ≡ first → 4 ≤ length text → binary_size_at None text ≡ Err causes.BadSize
unfolding binary_size_at
size_negative first (a ∷ rest) above e long = rw (first_bad a (omega (arith, above, e))) refl
size_negative first [] above e long = absurd (omega (arith, long))

pub size_read : (first : ℕ) (text : List ℕ) → first ≤ 127 → get_or text 0 first ≡ first → 4 ≤ length text → binary_size_at None text ≡ Ok (number_of text, drop 4 text)
unfolding binary_size_at
size_read first (a ∷ b ∷ c ∷ d ∷ rest) within e long = rw (first_none a (omega (arith, within, e)), later_none b, later_none c, later_none d) refl
size_read first other within e long = absurd (omega (arith, long))

-- ---- where bytes are missing

pub empty_short : (why : Option Cause) → binary_size_at why [] ≡ Err causes.Truncated
unfolding binary_size_at
empty_short why = refl

pub empty_first : (why : Option Cause) (text : List ℕ) → None ≡ slice_get text 0 → binary_size_at why text ≡ Err causes.Truncated
unfolding binary_size_at
empty_first why [] e = refl
empty_first why (a ∷ text) e = absurd cc

pub small_short : (first : ℕ) (text : List ℕ) → first < 128 → get_or text 0 first ≡ first → 1 ≤ length text → length text < 4 → binary_size_at None text ≡ Err causes.Truncated
unfolding binary_size_at
small_short first [] small e some short = refl
small_short first (a ∷ []) small e some short = rw (first_none a (omega (arith, small, e))) refl
small_short first (a ∷ b ∷ []) small e some short = rw (first_none a (omega (arith, small, e)), later_none b) refl
small_short first (a ∷ b ∷ c ∷ []) small e some short = rw (first_none a (omega (arith, small, e)), later_none b, later_none c) refl
small_short first other small e some short = absurd (omega (arith, short))

pub negative_short : (first : ℕ) (text : List ℕ) → 128 ≤ first → get_or text 0 first ≡ first → 1 ≤ length text → binary_size_at None text ≡ Err causes.BadSize
unfolding binary_size_at
negative_short first (a ∷ text) big e some = rw (first_bad a (omega (arith, big, e))) refl
negative_short first [] big e some = absurd (omega (arith, some))

-- no byte of these is another than 0
none_of_zeros : (many k x : ℕ) → k < many → get_or (replicate many 0) k x ≡ x → x ≢ 0 → ⊥
none_of_zeros many k x less e other = other (sym e ∙ get_or-replicate many k 0 x less)

pub blamed_short : (cause : Cause) (text : List ℕ) → length text < 4 → Any (λ b. b ≢ 0) text → binary_size_at (Some cause) text ≡ Err cause
unfolding binary_size_at
blamed_short cause (zero ∷ zero ∷ zero ∷ []) short some = absurd (none_of_zeros 3 some.0 some.1 some.2 some.3 some.4)
blamed_short cause (zero ∷ zero ∷ suc c ∷ []) short some = refl
blamed_short cause (zero ∷ suc b ∷ rest) short some = refl
blamed_short cause (suc a ∷ rest) short some = refl
blamed_short cause (zero ∷ zero ∷ []) short some = absurd (none_of_zeros 2 some.0 some.1 some.2 some.3 some.4)
blamed_short cause (zero ∷ []) short some = absurd (none_of_zeros 1 some.0 some.1 some.2 some.3 some.4)
blamed_short cause [] short some = absurd (omega (arith, some.2))
blamed_short cause other short some = absurd (omega (arith, short))

pub quiet_short : (cause : Cause) (text : List ℕ) → length text < 4 → (Any (λ b. b ≢ 0) text → ⊥) → binary_size_at (Some cause) text ≡ Err causes.Truncated
unfolding binary_size_at
quiet_short cause (zero ∷ zero ∷ zero ∷ []) short none = refl
quiet_short cause (zero ∷ zero ∷ []) short none = refl
quiet_short cause (zero ∷ []) short none = refl
quiet_short cause [] short none = refl
quiet_short cause (suc a ∷ rest) short none = absurd (none (0, suc a, omega arith, refl, λ e. omega (arith, e)))
quiet_short cause (zero ∷ suc b ∷ rest) short none = absurd (none (1, suc b, omega arith, refl, λ e. omega (arith, e)))
quiet_short cause (zero ∷ zero ∷ suc c ∷ []) short none = absurd (none (2, suc c, omega arith, refl, λ e. omega (arith, e)))
quiet_short cause other short none = absurd (omega (arith, short))

pub ruleset where_whole = (empty_short, size_zero, size_blamed, size_negative, size_read)

pub ruleset where_short = (small_short, negative_short, blamed_short, quiet_short)
