-- How the heads of lists and sets are judged.
use Rattle.std.proofs.Common.{◌≡◌, ◌≤◌, ◌<◌, ◌/◌, ◌%◌, ◌++◌, ◌∷◌, ℕ, zero, suc, ltb, List, [], length, Bool, true, false, Option, Some, None, Result, Ok, if◌then◌else◌, refl, ap, sym, ◌∙◌, subst, inl, inr, arith}
use Rattle.std.proofs.lemmas.Bool.{ltb-true, ltb-false, le-leb}
use Rattle.std.proofs.lemmas.List.{length-append}
use Rattle.span_io.specs.declared.cause.Cause.{Cause}
use Rattle.span_io.specs.declared.cause.Cause.TheVariants as causes
use Rattle.span_io.specs.Varint.{IsOverlong}
use Rattle.thrift_core.specs.declared.field.ListHead.{ListHead}
use Rattle.thrift_core.specs.Levels.{why_none}
use Rattle.thrift_core.specs.Parts.{list_head}
use Rattle.thrift_core.specs.Protocols.{last_size}
use Rattle.thrift_core.specs.Reading.{◌>>=◌, unless}
use Rattle.thrift_core.proofs.Judged.{opens, MayCome, HasEnded, Judged, found, may_come, JudgesReading}
use Rattle.thrift_core.proofs.JudgedSteps.{zeros, zeros_are_bytes, judged_behind, ended_behind, refused_here, judged_as}
use Rattle.thrift_core.proofs.Standing.{IsProperWhy, may_stand, stands_none, none_some, some_is, proper_none, same_list, list_with}
use Rattle.thrift_spellings.specs.CompactTypeCodes.{compact_kind_of_code}
use Rattle.thrift_spellings.specs.CompactSpelling.{IsCompactListHead, IsCompactListRefused, IsCompactSizeRefused, compact_then_varint}
use Rattle.thrift_spellings.specs.CompactReading.{why_size, compact_size_at, compact_list_at}
use Rattle.thrift_spellings.proofs.CompactVarints.{AtOnce, no_bytes, one_varint}
use Rattle.thrift_spellings.proofs.CompactSizes.{CompactSized, free_size, refusing_by, compact_size_judges, any_judges}

-- ---- sizes behind other bytes

pub alone : (front : List ℕ) → AtOnce front → front ≡ []
alone [] v = refl
alone (b ∷ front) v = absurd v

pub not_overlong : IsOverlong [] → ⊥
not_overlong h = omega (arith, ap length h.parts, length-append h.front (h.tenth ∷ []))

-- a size is refused at a byte
pub refused_some : (why : Option Cause) → IsProperWhy why → (cause : Cause) → IsCompactSizeRefused why cause [] → ⊥
refused_some why known cause h = elim (refusing_by why known [] cause h) [
  | inl x ↦ not_overlong x.1
  | inr x ↦ no_bytes x.0 x.1
]

-- a size below 15 is refused for its elements alone
small_why : (why : Option Cause) (n : ℕ) (cause : Cause) → n < 15 → why_size why n ≡ Some cause → (why ≡ Some cause) × (1 ≤ n)
small_why why zero cause small e = absurd (none_some None cause e refl)
small_why (Some known) (suc n) cause small e = (e, omega arith)
small_why None (suc n) cause small e = absurd (none_some (why_size None (suc n)) cause e (ap (λ b. if b then None else Some causes.BadSize) (le-leb (suc n) last_size (omega (arith, small)))))

module _ (left : ℕ) where
  abbrev Listed : ListHead → List ℕ → Type 0
  Listed head text = IsCompactListHead left head text

  abbrev Unlisted : Cause → List ℕ → Type 0
  Unlisted cause front = IsCompactListRefused left cause front

  abbrev ListVarint : List ℕ → Type 0
  ListVarint front = compact_then_varint (list_head left) front

  abbrev why_of : ℕ → Option Cause
  why_of b = why_none left (compact_kind_of_code (b % 16))

  abbrev headed : ℕ → Result (ℕ × List ℕ) Cause → Result (ListHead × List ℕ) Cause
  headed b number = number >>= λ x. Ok (list_with (compact_kind_of_code (b % 16)) x.0, x.1)

  open_list : MayCome ListHead Listed []
  open_list = record { word = list_with (compact_kind_of_code 0) 0; more = zeros 1; are_bytes = zeros_are_bytes 1; some = λ e. cc; spelled = ((refl, λ some. absurd (omega (arith, some))), refl, omega arith) }

  none_list : (head : ListHead) → Listed head [] → ⊥
  none_list head h = h

  no_list_varint : ListVarint [] → ⊥
  no_list_varint v = v

  -- ---- the size stands behind the type

  to_list : (b : ℕ) → 15 ≤ b / 16 → (n : ℕ) (text : List ℕ) → CompactSized (why_of b) n text → Listed (list_with (compact_kind_of_code (b % 16)) n) (b ∷ text)
  to_list b long n [] h = absurd (no_bytes n h.0.0)
  to_list b long n (c ∷ text) h = ((refl, λ some. may_stand left (compact_kind_of_code (b % 16)) (h.1 some)), long, h.0)

  of_list : (b : ℕ) → 15 ≤ b / 16 → (head : ListHead) (text : List ℕ) → Listed head (b ∷ text) → (n : ℕ) × CompactSized (why_of b) n text
  of_list b long head [] h = absurd (omega (arith, long, h.1, h.2))
  of_list b long head (c ∷ text) h = (head.size, (h.2, λ some. subst (λ kind. why_none left kind ≡ None) h.0.0 (stands_none left head.element (h.0.1 some))))

  list_onward : (b : ℕ) → 15 ≤ b / 16 → (front : List ℕ) → AtOnce front → ListVarint (b ∷ front)
  list_onward b long [] v = long
  list_onward b long (c ∷ front) v = absurd v

  list_backward : (b : ℕ) (front : List ℕ) → ListVarint (b ∷ front) → AtOnce front
  list_backward b [] v = tt
  list_backward b (c ∷ front) v = absurd v

  list_because : (b : ℕ) (cause : Cause) (front : List ℕ) → IsCompactSizeRefused (why_of b) cause front → Unlisted cause (b ∷ front)
  list_because b cause [] h = absurd (refused_some (why_of b) (proper_none left (compact_kind_of_code (b % 16))) cause h)
  list_because b cause (c ∷ front) h = h

  list_long : (b : ℕ) (bytes : List ℕ) → 15 ≤ b / 16 → Judged ListHead Listed ListVarint Unlisted (b ∷ bytes) (headed b (compact_size_at (why_of b) bytes))
  list_long b bytes long =
      let laws = compact_size_judges (why_of b) (proper_none left (compact_kind_of_code (b % 16))) AtOnce tt alone in
      judged_behind ListHead Listed ListVarint Unlisted b open_list none_list no_list_varint bytes (headed b (compact_size_at (why_of b) bytes))
      (judged_as ℕ ListHead (CompactSized (why_of b)) (λ head text. Listed head (b ∷ text)) AtOnce (λ front. ListVarint (b ∷ front)) (IsCompactSizeRefused (why_of b)) (λ cause text. Unlisted cause (b ∷ text))
      (λ n. list_with (compact_kind_of_code (b % 16)) n)
      (to_list b long) (of_list b long) (list_onward b long) (list_backward b) (list_because b)
      bytes (compact_size_at (why_of b) bytes) (laws.judged bytes))

  -- ---- it stands beside the type

  short_list : (b : ℕ) → b / 16 < 15 → (cause : Cause) → why_of b ≡ Some cause → 1 ≤ b / 16 → (head : ListHead) (text : List ℕ) → Listed head (b ∷ text) → ⊥
  short_list b small cause e some head [] h =
      let stands = stands_none left head.element (h.0.1 (omega (arith, some, h.1))) in
      none_some (why_of b) cause e (subst (λ kind. why_none left kind ≡ None) h.0.0 stands)
  short_list b small cause e some head (c ∷ text) h = omega (arith, small, h.1)

  short_varint : (b : ℕ) → b / 16 < 15 → (front : List ℕ) → ListVarint (b ∷ front) → ⊥
  short_varint b small [] v = omega (arith, small, v)
  short_varint b small (c ∷ front) v = v

  list_short : (b : ℕ) (bytes : List ℕ) → b / 16 < 15 → (w : Option Cause) → why_size (why_of b) (b / 16) ≡ w
      → Judged ListHead Listed ListVarint Unlisted (b ∷ bytes) (headed b (unless w (b / 16, bytes)))
  list_short b bytes small None e =
      let free = free_size (why_of b) (b / 16) e in
      found (list_with (compact_kind_of_code (b % 16)) (b / 16)) (b ∷ []) bytes ((refl, λ some. may_stand left (compact_kind_of_code (b % 16)) (free.1 some)), refl, small) refl refl
  list_short b bytes small (Some cause) e =
      let why = small_why (why_of b) (b / 16) cause small e in
      refused_here ListHead Listed ListVarint Unlisted b open_list none_list no_list_varint bytes cause (why.1, small, why.0) (short_list b small cause why.0 why.1) (short_varint b small) (proper_none left (compact_kind_of_code (b % 16)) cause why.0)

  list_by : (b : ℕ) (bytes : List ℕ) (small : Bool) → ltb (b / 16) 15 ≡ small
      → Judged ListHead Listed ListVarint Unlisted (b ∷ bytes) (headed b (if small then unless (why_size (why_of b) (b / 16)) (b / 16, bytes) else compact_size_at (why_of b) bytes))
  list_by b bytes true e = list_short b bytes (ltb-true (b / 16) 15 e) (why_size (why_of b) (b / 16)) refl
  list_by b bytes false e = list_long b bytes (ltb-false (b / 16) 15 e)

  judged_list : (bytes : List ℕ) → Judged ListHead Listed ListVarint Unlisted bytes (compact_list_at left bytes)
  unfolding compact_list_at
  judged_list [] = may_come (opens ListHead Listed ListVarint [] open_list) refl
  judged_list (b ∷ bytes) = list_by b bytes (ltb (b / 16) 15) refl

  -- ---- one head, one cause

  one_list : (a b : ListHead) (text other tail more : List ℕ) → Listed a text → Listed b other → text ++ tail ≡ other ++ more → (a ≡ b) × (tail ≡ more)
  one_list a b [] other tail more h g e = absurd h
  one_list a b (c ∷ text) [] tail more h g e = absurd g
  one_list a b (c ∷ []) (d ∷ []) tail more h g e =
      let heads : c ≡ d = cc in
      (same_list a b (h.0.0 ∙ ap (λ x. compact_kind_of_code (x % 16)) heads ∙ sym g.0.0) (h.1 ∙ ap (λ x. x / 16) heads ∙ sym g.1), cc)
  one_list a b (c ∷ []) (d ∷ next ∷ other) tail more h g e = (let heads : c ≡ d = cc in absurd (omega (arith, heads, h.1, h.2, g.1)))
  one_list a b (c ∷ next ∷ text) (d ∷ []) tail more h g e = (let heads : c ≡ d = cc in absurd (omega (arith, heads, g.1, g.2, h.1)))
  one_list a b (c ∷ next ∷ text) (d ∷ following ∷ other) tail more h g e =
      let heads : c ≡ d = cc in
      let tails : (next ∷ text) ++ tail ≡ (following ∷ other) ++ more = cc in
      let same = one_varint a.size b.size (next ∷ text) (following ∷ other) tail more h.2.0 g.2.0 tails in
      (same_list a b (h.0.0 ∙ ap (λ x. compact_kind_of_code (x % 16)) heads ∙ sym g.0.0) same.0, same.1)

  ended_list : (head : ListHead) (text : List ℕ) → Listed head text → HasEnded ListVarint text
  ended_list head [] h = absurd h
  ended_list head (b ∷ []) h =
      ended_behind ListHead Listed ListVarint Unlisted b open_list none_list no_list_varint [] (λ rest front inside v i e. short_varint b (omega (arith, h.1, h.2)) front v)
  ended_list head (b ∷ c ∷ text) h =
      let laws = any_judges AtOnce tt alone in
      ended_behind ListHead Listed ListVarint Unlisted b open_list none_list no_list_varint (c ∷ text) (λ rest front inside v i e. laws.ended head.size (c ∷ text) h.2 rest front inside (list_backward b front v) i e)

  one_list_cause : (front : List ℕ) (a b : Cause) → Unlisted a front → Unlisted b front → a ≡ b
  one_list_cause [] a b h g = absurd h
  one_list_cause (c ∷ []) a b h g = some_is b a (sym g.2 ∙ h.2)
  one_list_cause (c ∷ next ∷ front) a b h g = (compact_size_judges (why_of c) (proper_none left (compact_kind_of_code (c % 16))) AtOnce tt alone).one_cause (next ∷ front) a b h g

  pub compact_list_judges : JudgesReading ListHead Listed ListVarint Unlisted (compact_list_at left)
  compact_list_judges = record { judged = judged_list; one = one_list; ended = ended_list; one_cause = one_list_cause }
