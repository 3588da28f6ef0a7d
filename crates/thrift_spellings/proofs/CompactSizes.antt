-- How sizes, 64-bit numbers, single bytes and doubles are judged.
use Rattle.std.proofs.Common.{◌≡◌, ◌≤◌, ◌<◌, ◌++◌, ◌∷◌, ◌⊎◌, inl, inr, ℕ, zero, suc, ℤ, pos, leb, List, [], length, take, drop, reverse, Bool, true, false, Option, Some, None, Result, Ok, Err, nat_lt, if◌then◌else◌, refl, ap, sym, ◌∙◌, subst, arith}
use Rattle.std.proofs.lemmas.Bool.{leb-true, leb-false, le-leb, lt-leb}
use Rattle.span_io.specs.declared.cause.Cause.{Cause}
use Rattle.span_io.specs.declared.cause.Cause.TheVariants as causes
use Rattle.span_io.specs.declared.cursor.Lack.{Lack}
use Rattle.span_io.specs.Varint.{SpellsVarint, IsOverlong, varint_at}
use Rattle.span_io.specs.Zigzag.{zigzag, unzigzag, SpellsZigzag, zigzag_at}
use Rattle.thrift_core.specs.Levels.{turn_of, RefusesPart}
use Rattle.thrift_core.specs.Protocols.{last_size}
use Rattle.thrift_core.specs.Reading.{◌>>=◌, unless}
use Rattle.thrift_core.proofs.Judged.{opens, Judged, found, may_come, JudgesReading}
use Rattle.thrift_core.proofs.JudgedSteps.{zeros, zeros_are_bytes, fixed_judges}
use Rattle.thrift_core.proofs.Standing.{IsProperWhy, none_some, some_is, last_turn, own_turn, before_last}
use Rattle.thrift_spellings.specs.CompactSpelling.{IsByte, IsCompactSize, CompactSizeFault, IsCompactSizeRefused}
use Rattle.thrift_spellings.specs.CompactReading.{told, byte_at, why_size, compact_size_at, eight_at}
use Rattle.thrift_spellings.proofs.CompactVarints.{overlong_not_number, IsNumber, varint_or_cause, number_judges}
use Rattle.thrift_spellings.proofs.CompactNumbers.{ok_is, err_is, ok_not_err, zigzagged, unzigzagged, judges_at}

-- ---- numbers of 64 bits

abbrev IsLong : ℤ → List ℕ → Type 0
IsLong z text = SpellsZigzag text z

abbrev IsLongRefused : Cause → List ℕ → Type 0
IsLongRefused cause text = (cause ≡ causes.BadVarint) × IsOverlong text

abbrev meant_long : ℕ → Result ℤ Cause
meant_long n = Ok (unzigzag n)

long_is : IsNumber ℤ IsLong IsLongRefused meant_long
long_is = record {
  spelled = λ word text n s e. subst (λ k. SpellsVarint text k) (sym (zigzagged n) ∙ ap zigzag (ok_is (unzigzag n) word e)) s;
  spelling = λ word text h. (zigzag word, h, ap (λ z. Ok z) (unzigzagged word));
  overlong = λ text h. (refl, h);
  unsuited = λ text n cause s e. absurd (ok_not_err (unzigzag n) cause e);
  refusing = λ text cause h. inl h;
  proper = λ n cause e. absurd (ok_not_err (unzigzag n) cause e);
  none = pos 0;
  of_zero = refl;
}

same_long : (bytes : List ℕ) (read : Result (ℕ × List ℕ) Lack) → varint_at bytes ≡ read → varint_or_cause ℤ meant_long bytes ≡ told (zigzag_at bytes)
unfolding zigzag_at
same_long bytes (Ok read) e = rw e refl
same_long bytes (Err lack) e = rw e refl

pub long_judges : (V : List ℕ → Type 0) → V [] → ((front : List ℕ) → V front → front ≡ []) → JudgesReading ℤ IsLong V IsLongRefused (λ bytes. told (zigzag_at bytes))
long_judges V here at_once =
    judges_at ℤ IsLong V IsLongRefused (varint_or_cause ℤ meant_long) (λ bytes. told (zigzag_at bytes)) (λ bytes. same_long bytes (varint_at bytes) refl)
    (number_judges ℤ IsLong V IsLongRefused meant_long long_is here at_once)

-- ---- sizes

-- a size behind what may have no elements, for this cause
abbrev pub CompactSized : Option Cause → ℕ → List ℕ → Type 0
CompactSized why n text = IsCompactSize n text × (1 ≤ n → why ≡ None)

pub size_free : (why : Option Cause) (n : ℕ) → n ≤ last_size → (1 ≤ n → why ≡ None) → why_size why n ≡ None
size_free why zero small quiet = refl
size_free (Some cause) (suc n) small quiet = absurd (none_some (Some cause) cause refl (quiet (omega arith)))
size_free None (suc n) small quiet = ap (λ b. if b then None else Some causes.BadSize) (le-leb (suc n) last_size small)

free_by : (n : ℕ) (b : Bool) → leb (suc n) last_size ≡ b → ◌≡◌ {A = Option Cause} (if b then None else Some causes.BadSize) None → suc n ≤ last_size
free_by n true f e = leb-true (suc n) last_size f
free_by n false f e = absurd (none_some (Some causes.BadSize) causes.BadSize refl e)

pub free_size : (why : Option Cause) (n : ℕ) → why_size why n ≡ None → (n ≤ last_size) × (1 ≤ n → why ≡ None)
free_size why zero e = (omega arith, λ some. absurd (omega (arith, some)))
free_size (Some cause) (suc n) e = absurd (none_some (Some cause) cause refl e)
free_size None (suc n) e = (free_by n (leb (suc n) last_size) refl e, λ some. refl)

pub compact_size_fault : (why : Option Cause) → IsProperWhy why → (text : List ℕ) (cause : Cause) → CompactSizeFault why text cause → RefusesPart cause
compact_size_fault why proper text cause (inl h) = subst RefusesPart (sym h.0) (omega arith)
compact_size_fault why proper text cause (inr (inl h)) = proper cause h.0
compact_size_fault why proper text cause (inr (inr h)) = subst RefusesPart (sym h.0) (omega arith)

spelled_not_overlong : (n : ℕ) (text : List ℕ) → SpellsVarint text n → IsOverlong text → ⊥
spelled_not_overlong n text s h = overlong_not_number n text text [] [] h s refl

-- behind what may have no elements
some_refused : (why : Option Cause) → IsProperWhy why → (n : ℕ) (text : List ℕ) (cause : Cause) → why ≡ Some cause → 1 ≤ n → SpellsVarint text n → IsCompactSizeRefused why cause text
some_refused why proper n text cause e some s = (inr (inl (e, (n, s, some))), first)
  where
    first : (other : Cause) → CompactSizeFault why text other → turn_of cause ≤ turn_of other
    first other (inl h) = absurd (spelled_not_overlong n text s h.1)
    first other (inr (inl h)) = own_turn cause other (some_is other cause (sym h.0 ∙ e))
    first other (inr (inr h)) = before_last cause other (proper cause e) h.0

large_refused : (n : ℕ) (text : List ℕ) → last_size < n → SpellsVarint text n → IsCompactSizeRefused None causes.BadSize text
large_refused n text large s = (inr (inr (refl, (n, s, large))), first)
  where
    first : (other : Cause) → CompactSizeFault None text other → turn_of causes.BadSize ≤ turn_of other
    first other (inl h) = absurd (spelled_not_overlong n text s h.1)
    first other (inr (inl h)) = absurd (none_some None other h.0 refl)
    first other (inr (inr h)) = own_turn causes.BadSize other (sym h.0)

refused_by : (n : ℕ) (text : List ℕ) (cause : Cause) (b : Bool) → leb (suc n) last_size ≡ b → (if b then None else Some causes.BadSize) ≡ Some cause → SpellsVarint text (suc n) → IsCompactSizeRefused None cause text
refused_by n text cause true f e s = absurd (none_some None cause e refl)
refused_by n text cause false f e s =
    subst (λ c. IsCompactSizeRefused None c text) (sym (some_is causes.BadSize cause e)) (large_refused (suc n) text (leb-false (suc n) last_size f) s)

size_refused : (why : Option Cause) → IsProperWhy why → (n : ℕ) (text : List ℕ) (cause : Cause) → why_size why n ≡ Some cause → SpellsVarint text n → IsCompactSizeRefused why cause text
size_refused why proper zero text cause e s = absurd (none_some None cause e refl)
size_refused (Some known) proper (suc n) text cause e s = some_refused (Some known) proper (suc n) text cause e (omega arith) s
size_refused None proper (suc n) text cause e s = refused_by n text cause (leb (suc n) last_size) refl e s

some_size : (cause : Cause) (n : ℕ) → 1 ≤ n → why_size (Some cause) n ≡ Some cause
some_size cause zero some = absurd (omega (arith, some))
some_size cause (suc n) some = refl

large_size : (n : ℕ) → last_size < n → why_size None n ≡ Some causes.BadSize
large_size zero large = absurd (omega (arith, large))
large_size (suc n) large = ap (λ b. if b then None else Some causes.BadSize) (lt-leb (suc n) last_size large)

proper_size : (why : Option Cause) → IsProperWhy why → (n : ℕ) → IsProperWhy (why_size why n)
proper_size why known zero cause e = absurd (none_some None cause e refl)
proper_size (Some other) known (suc n) cause e = known cause e
proper_size None known (suc n) cause e = large_by (leb (suc n) last_size) e
  where
    large_by : (b : Bool) → (if b then None else Some causes.BadSize) ≡ Some cause → RefusesPart cause
    large_by true f = absurd (none_some None cause f refl)
    large_by false f = subst RefusesPart (sym (some_is causes.BadSize cause f)) (omega arith)

unless_err : (A : Type 0) (why : Option Cause) (x : A) (cause : Cause) → unless why x ≡ Err cause → why ≡ Some cause
unless_err A None x cause e = absurd (ok_not_err x cause e)
unless_err A (Some known) x cause e = ap (λ c. Some c) (err_is known cause e)

unless_ok : (A : Type 0) (why : Option Cause) (x y : A) → unless why x ≡ Ok y → (why ≡ None) × (x ≡ y)
unless_ok A None x y e = (refl, ok_is x y e)
unless_ok A (Some known) x y e = absurd (ok_not_err y known (sym e))

module _ (why : Option Cause) (known : IsProperWhy why) where
  abbrev pub meant_size : ℕ → Result ℕ Cause
  meant_size n = unless (why_size why n) n

  spelled_size : (word : ℕ) (text : List ℕ) (n : ℕ) → SpellsVarint text n → meant_size n ≡ Ok word → CompactSized why word text
  spelled_size word text n s e =
      let ok = unless_ok ℕ (why_size why n) n word e in
      subst (λ k. CompactSized why k text) ok.1 (let free = free_size why n ok.0 in ((s, free.0), free.1))

  spelling_size : (word : ℕ) (text : List ℕ) → CompactSized why word text → (n : ℕ) × SpellsVarint text n × (meant_size n ≡ Ok word)
  spelling_size word text h = (word, h.0.0, ap (λ w. unless w word) (size_free why word h.0.1 h.1))

  overlong_size : (text : List ℕ) → IsOverlong text → IsCompactSizeRefused why causes.BadVarint text
  overlong_size text h = (inl (refl, h), first)
    where
      first : (other : Cause) → CompactSizeFault why text other → turn_of causes.BadVarint ≤ turn_of other
      first other (inl g) = own_turn causes.BadVarint other (sym g.0)
      first other (inr (inl g)) = absurd (spelled_not_overlong g.1.0 text g.1.1 h)
      first other (inr (inr g)) = absurd (spelled_not_overlong g.1.0 text g.1.1 h)

  abbrev RefusingBy : List ℕ → Cause → Type 0
  RefusingBy text cause = ((cause ≡ causes.BadVarint) × IsOverlong text) ⊎ ((n : ℕ) × SpellsVarint text n × (unless (why_size why n) n ≡ Err cause))

  -- a size that is too large counts as that where it is behind nothing
  large_counts : (w : Option Cause) → IsProperWhy w → (n : ℕ) (text : List ℕ) → last_size < n → SpellsVarint text n
      → ((other : Cause) → CompactSizeFault w text other → turn_of causes.BadSize ≤ turn_of other) → why_size w n ≡ Some causes.BadSize
  large_counts None proper n text large s first = large_size n large
  large_counts (Some other) proper n text large s first =
      let late : turn_of causes.BadSize ≤ turn_of other = first other (inr (inl (refl, (n, s, omega (arith, large))))) in
      some_size other n (omega (arith, large)) ∙ ap Some (sym (last_turn other (proper other refl) late))

  pub refusing_by : (text : List ℕ) (cause : Cause) → IsCompactSizeRefused why cause text → RefusingBy text cause
  refusing_by text cause (inl h, first) = inl h
  refusing_by text cause (inr (inl h), first) =
      let is : why_size why h.1.0 ≡ Some cause = subst (λ w. why_size w h.1.0 ≡ Some cause) (sym h.0) (some_size cause h.1.0 h.1.2) in
      inr (h.1.0, h.1.1, ap (λ w. unless w h.1.0) is)
  refusing_by text cause (inr (inr h), first) =
      let is = large_counts why known h.1.0 text h.1.2 h.1.1 (λ other g. subst (λ c. turn_of c ≤ turn_of other) h.0 (first other g)) in
      inr (h.1.0, h.1.1, ap (λ w. unless w h.1.0) is ∙ ap (λ c. Err c) (sym h.0))

  size_is : IsNumber ℕ (CompactSized why) (IsCompactSizeRefused why) meant_size
  size_is = record {
    spelled = spelled_size;
    spelling = spelling_size;
    overlong = overlong_size;
    unsuited = λ text n cause s e. size_refused why known n text cause (unless_err ℕ (why_size why n) n cause e) s;
    refusing = refusing_by;
    proper = λ n cause e. proper_size why known n cause (unless_err ℕ (why_size why n) n cause e);
    none = 0;
    of_zero = refl;
  }

  same_size : (bytes : List ℕ) → varint_or_cause ℕ meant_size bytes ≡ compact_size_at why bytes
  unfolding compact_size_at
  same_size bytes = refl

  pub compact_size_judges : (V : List ℕ → Type 0) → V [] → ((front : List ℕ) → V front → front ≡ []) → JudgesReading ℕ (CompactSized why) V (IsCompactSizeRefused why) (compact_size_at why)
  compact_size_judges V here at_once =
      judges_at ℕ (CompactSized why) V (IsCompactSizeRefused why) (varint_or_cause ℕ meant_size) (compact_size_at why) same_size
      (number_judges ℕ (CompactSized why) V (IsCompactSizeRefused why) meant_size size_is here at_once)

pub any_size : IsProperWhy None
any_size cause e = absurd (none_some None cause e refl)

-- the size of a binary, or of a map
pub any_is : IsNumber ℕ IsCompactSize (IsCompactSizeRefused None) (meant_size None any_size)
any_is = (let is = size_is None any_size in record {
  spelled = λ word text n s e. (is.spelled word text n s e).0;
  spelling = λ word text h. is.spelling word text (h, λ some. refl);
  overlong = is.overlong;
  unsuited = is.unsuited;
  refusing = is.refusing;
  proper = is.proper;
  none = is.none;
  of_zero = is.of_zero;
})

pub any_judges : (V : List ℕ → Type 0) → V [] → ((front : List ℕ) → V front → front ≡ []) → JudgesReading ℕ IsCompactSize V (IsCompactSizeRefused None) (compact_size_at None)
any_judges V here at_once =
    judges_at ℕ IsCompactSize V (IsCompactSizeRefused None) (varint_or_cause ℕ (meant_size None any_size)) (compact_size_at None) (same_size None any_size)
    (number_judges ℕ IsCompactSize V (IsCompactSizeRefused None) (meant_size None any_size) any_is here at_once)

-- ---- single bytes

abbrev Never : Cause → List ℕ → Type 0
Never cause front = ⊥

module _ (A : Type 0) (value : ℕ → A) (V : List ℕ → Type 0) (no_varint : (front : List ℕ) → V front → ⊥) where
  abbrev Byte : A → List ℕ → Type 0
  Byte word text = IsByte value word text

  judged_byte : (bytes : List ℕ) → Judged A Byte V Never bytes (byte_at value bytes)
  judged_byte [] = may_come (opens A Byte V [] (record { word = value 0; more = zeros 1; are_bytes = zeros_are_bytes 1; some = λ e. cc; spelled = refl })) refl
  judged_byte (b ∷ bytes) = found (value b) (b ∷ []) bytes refl refl refl

  one_byte : (w v : A) (text other tail more : List ℕ) → Byte w text → Byte v other → text ++ tail ≡ other ++ more → (w ≡ v) × (tail ≡ more)
  one_byte w v (b ∷ []) (c ∷ []) tail more h g e =
      let heads : b ≡ c = cc in
      (h ∙ ap value heads ∙ sym g, cc)
  one_byte w v (b ∷ []) other tail more h g e = absurd g
  one_byte w v text other tail more h g e = absurd h

  pub byte_judges : JudgesReading A Byte V Never (byte_at value)
  byte_judges = record {
    judged = judged_byte;
    one = one_byte;
    ended = λ word text h rest front inside v i e. no_varint front v;
    one_cause = λ front a b h g. absurd h;
  }

-- ---- a double's eight bytes

abbrev IsEight : List ℕ → List ℕ → Type 0
IsEight word text = (length text ≡ 8) × (word ≡ reverse text)

abbrev turned : Result (List ℕ × List ℕ) Cause → Result (List ℕ × List ℕ) Cause
turned read = read >>= λ x. Ok (reverse x.0, x.1)

same_eight : (text : List ℕ) (b : Bool) → (if b then Err causes.Truncated else Ok (reverse (take 8 text), drop 8 text)) ≡ turned (if b then Err causes.Truncated else Ok (take 8 text, drop 8 text))
same_eight text true = refl
same_eight text false = refl

pub eight_judges : (V : List ℕ → Type 0) → ((front : List ℕ) → V front → ⊥) → JudgesReading (List ℕ) IsEight V Never eight_at
eight_judges V no_varint =
    judges_at (List ℕ) IsEight V Never (λ bytes. if nat_lt (length bytes) 8 then Err causes.Truncated else Ok (reverse (take 8 bytes), drop 8 bytes)) eight_at
    (λ bytes. same_eight bytes (nat_lt (length bytes) 8)) (fixed_judges (List ℕ) 8 reverse V no_varint)
