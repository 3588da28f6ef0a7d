-- How the heads of fields are judged.
use Rattle.std.proofs.Common.{◌≡◌, ◌≤◌, ◌<◌, ◌/◌, ◌%◌, ◌++◌, ◌∷◌, inl, inr, ℕ, zero, suc, ltb, ℤ, pos, List, [], Bool, true, false, Option, Some, None, Result, Ok, Err, FitsSigned, refl, ap, sym, ◌∙◌, subst, arith}
use Rattle.std.specs.Prelude.{◌+ℤ◌}
use Rattle.std.proofs.lemmas.Bool.{ltb-true, ltb-false, ne_eqb}
use Rattle.std.specs.Int.{w16}
use Rattle.span_io.specs.declared.cause.Cause.{Cause}
use Rattle.span_io.specs.declared.cause.Cause.TheVariants as causes
use Rattle.thrift_core.specs.declared.field.Field.{Field}
use Rattle.thrift_core.specs.declared.type_code.TypeCode.{TypeCode}
use Rattle.thrift_core.specs.Levels.{turn_of, RefusesPart, CountsFirst, why_none}
use Rattle.thrift_core.specs.Parts.{header}
use Rattle.thrift_core.specs.Reading.{◌>>=◌, unless, known}
use Rattle.thrift_core.proofs.Judged.{opens, MayCome, HasEnded, Judged, found, may_come, JudgesReading}
use Rattle.thrift_core.proofs.JudgedSteps.{zeros, zeros_are_bytes, judged_behind, ended_behind, refused_here, judged_as}
use Rattle.thrift_core.proofs.Standing.{level_stands, level_of, none_some, some_is, proper_none, one_counts, own_turn, before_wire, field_with, same_field}
use Rattle.thrift_spellings.specs.CompactTypeCodes.{compact_kind_of_code, held_by_code}
use Rattle.thrift_spellings.specs.CompactSpelling.{IsSigned, HasCode, IsCompactHeader, IsSignedRefused, CompactFieldFault, IsCompactHeaderRefused, compact_then_varint}
use Rattle.thrift_spellings.specs.CompactReading.{within, signed_at, id_at, compact_header_at}
use Rattle.thrift_spellings.proofs.CompactVarints.{AtOnce, no_bytes}
use Rattle.thrift_spellings.proofs.CompactNumbers.{Tested, fits, unfit, tested_16, id_judges, within_id, outside_id}
use Rattle.thrift_spellings.proofs.CompactLists.{alone, not_overlong}

-- ---- codes

far_code : (code : ℕ) → 16 ≤ code → compact_kind_of_code code ≡ None
unfolding compact_kind_of_code
far_code code far = rw (
  ne_eqb code 1 (λ e. omega (arith, e, far)),
  ne_eqb code 2 (λ e. omega (arith, e, far)),
  ne_eqb code 3 (λ e. omega (arith, e, far)),
  ne_eqb code 4 (λ e. omega (arith, e, far)),
  ne_eqb code 5 (λ e. omega (arith, e, far)),
  ne_eqb code 6 (λ e. omega (arith, e, far)),
  ne_eqb code 7 (λ e. omega (arith, e, far)),
  ne_eqb code 8 (λ e. omega (arith, e, far)),
  ne_eqb code 9 (λ e. omega (arith, e, far)),
  ne_eqb code 10 (λ e. omega (arith, e, far)),
  ne_eqb code 11 (λ e. omega (arith, e, far)),
  ne_eqb code 12 (λ e. omega (arith, e, far)),
) refl

some_kind : (kind : TypeCode) → ◌≡◌ {A = Option TypeCode} None (Some kind) → ⊥
some_kind kind e = cc

near_by : (code : ℕ) (kind : TypeCode) → compact_kind_of_code code ≡ Some kind → (b : Bool) → ltb code 16 ≡ b → code < 16
near_by code kind e true f = ltb-true code 16 f
near_by code kind e false f = absurd (some_kind kind (sym (far_code code (ltb-false code 16 f)) ∙ e))

-- a code is told by four bits
near_code : (code : ℕ) (kind : TypeCode) → compact_kind_of_code code ≡ Some kind → code < 16
near_code code kind e = near_by code kind e (ltb code 16) refl

no_kind : compact_kind_of_code 0 ≡ None
unfolding compact_kind_of_code
no_kind = refl

pub field_fault : (left : ℕ) (last : ℤ) (b : ℕ) (cause : Cause) → CompactFieldFault left last b cause → RefusesPart cause
field_fault left last b cause (inl h) = proper_none left (compact_kind_of_code (b % 16)) cause h
field_fault left last b cause (inr h) = subst RefusesPart (sym h.0) (omega arith)

module _ (left : ℕ) (last : ℤ) where
  abbrev Headed : Option Field → List ℕ → Type 0
  Headed word text = IsCompactHeader left last word text

  abbrev Unheaded : Cause → List ℕ → Type 0
  Unheaded cause front = IsCompactHeaderRefused left last cause front

  abbrev IdVarint : List ℕ → Type 0
  IdVarint front = compact_then_varint (header left last) front

  abbrev IdText : ℤ → List ℕ → Type 0
  IdText id text = IsSigned w16 id text

  abbrev IdRefused : Cause → List ℕ → Type 0
  IdRefused cause text = IsSignedRefused w16 causes.BadWire cause text

  open_header : MayCome (Option Field) Headed []
  open_header = record { word = None; more = zeros 1; are_bytes = zeros_are_bytes 1; some = λ e. cc; spelled = tt }

  none_header : (word : Option Field) → Headed word [] → ⊥
  none_header None h = h
  none_header (Some f) h = h

  no_id_varint : IdVarint [] → ⊥
  no_id_varint v = v

  -- the code that a head begins with
  abbrev code_in : ℕ → ℕ
  code_in n = suc n % 16

  -- the first byte says the code, whether or not it tells the id, too
  near_head : (n : ℕ) (f : Field) (text : List ℕ) → Headed (Some f) (suc n ∷ text) → HasCode left f (code_in n)
  near_head n f [] h = h.0
  near_head n f (c ∷ text) h =
      let near = near_code (suc n) f.kind h.0.0 in
      let same : suc n ≡ code_in n = omega (arith, near) in
      subst (λ x. HasCode left f x) same h.0

  head_stands : (n : ℕ) (word : Option Field) (text : List ℕ) → Headed word (suc n ∷ text) → why_none left (compact_kind_of_code (code_in n)) ≡ None
  head_stands n None [] h = absurd h
  head_stands n None (c ∷ text) h = absurd h
  head_stands n (Some f) text h = (let code = near_head n f text h in subst (λ kind. why_none left kind ≡ None) (sym code.0) (level_stands left f.kind code.2))

  varint_near : (n : ℕ) (front : List ℕ) → IdVarint (suc n ∷ front) → (suc n < 16) × (why_none left (compact_kind_of_code (suc n)) ≡ None) × (front ≡ [])
  varint_near n [] v = (near_code (suc n) v.0 v.1, subst (λ kind. why_none left kind ≡ None) (sym v.1) (level_stands left v.0 v.2), refl)
  varint_near n (c ∷ front) v = absurd v

  -- ---- a type that may not stand

  varint_stands : (n : ℕ) (front : List ℕ) → IdVarint (suc n ∷ front) → why_none left (compact_kind_of_code (code_in n)) ≡ None
  varint_stands n front v =
      let near = varint_near n front v in
      let same : suc n ≡ code_in n = omega (arith, near.0) in
      subst (λ x. why_none left (compact_kind_of_code x) ≡ None) same near.1

  type_counts : (n : ℕ) (cause : Cause) → why_none left (compact_kind_of_code (code_in n)) ≡ Some cause → CountsFirst (λ fault. CompactFieldFault left last (suc n) fault) cause
  type_counts n cause e = (inl e, first)
    where
      first : (other : Cause) → CompactFieldFault left last (suc n) other → turn_of cause ≤ turn_of other
      first other (inl h) = own_turn cause other (some_is other cause (sym h ∙ e))
      first other (inr h) = before_wire left (compact_kind_of_code (code_in n)) cause other e h.0

  id_counts : (n : ℕ) → why_none left (compact_kind_of_code (code_in n)) ≡ None → (FitsSigned w16 (last +ℤ pos (suc n / 16)) → ⊥)
      → CountsFirst (λ fault. CompactFieldFault left last (suc n) fault) causes.BadWire
  id_counts n e out = (inr (refl, out), first)
    where
      first : (other : Cause) → CompactFieldFault left last (suc n) other → turn_of causes.BadWire ≤ turn_of other
      first other (inl h) = absurd (none_some (why_none left (compact_kind_of_code (code_in n))) other h e)
      first other (inr h) = own_turn causes.BadWire other (sym h.0)

  type_refused : (n : ℕ) (bytes : List ℕ) (cause : Cause) → why_none left (compact_kind_of_code (code_in n)) ≡ Some cause → Judged (Option Field) Headed IdVarint Unheaded (suc n ∷ bytes) (Err cause)
  type_refused n bytes cause e =
      refused_here (Option Field) Headed IdVarint Unheaded (suc n) open_header none_header no_id_varint bytes cause ((λ z. omega (arith, z)), type_counts n cause e)
      (λ word text h. none_some (why_none left (compact_kind_of_code (code_in n))) cause e (head_stands n word text h))
      (λ front v. none_some (why_none left (compact_kind_of_code (code_in n))) cause e (varint_stands n front v)) (proper_none left (compact_kind_of_code (code_in n)) cause e)

  -- ---- the id behind the code

  abbrev told_field : TypeCode → ℕ → ℤ → Option Field
  told_field kind n id = Some (field_with id kind (held_by_code (code_in n)))

  abbrev headed : TypeCode → ℕ → Result (ℤ × List ℕ) Cause → Result (Option Field × List ℕ) Cause
  headed kind n id = id >>= λ x. Ok (told_field kind n x.0, x.1)

  module _ (n : ℕ) (kind : TypeCode) (e : compact_kind_of_code (code_in n) ≡ Some kind) (f : why_none left (Some kind) ≡ None) where
    to_field : suc n / 16 ≡ 0 → (id : ℤ) (text : List ℕ) → IdText id text → Headed (told_field kind n id) (suc n ∷ text)
    to_field near id [] h = absurd (no_bytes _ h.0)
    to_field near id (c ∷ text) h =
        let same : code_in n ≡ suc n = omega (arith, near) in
        ((subst (λ x. compact_kind_of_code x ≡ Some kind) same e, ap held_by_code (sym same), level_of left kind f), h)

    of_field : suc n / 16 ≡ 0 → (word : Option Field) (text : List ℕ) → Headed word (suc n ∷ text) → (id : ℤ) × IdText id text
    of_field near None [] h = absurd h
    of_field near None (c ∷ text) h = absurd h
    of_field near (Some field) [] h = absurd (omega (arith, near, h.1))
    of_field near (Some field) (c ∷ text) h = (field.id, h.1)

    id_onward : suc n / 16 ≡ 0 → (front : List ℕ) → AtOnce front → IdVarint (suc n ∷ front)
    id_onward near [] v = (let same : code_in n ≡ suc n = omega (arith, near) in (kind, subst (λ x. compact_kind_of_code x ≡ Some kind) same e, level_of left kind f))
    id_onward near (c ∷ front) v = absurd v

    id_backward : (front : List ℕ) → IdVarint (suc n ∷ front) → AtOnce front
    id_backward [] v = tt
    id_backward (c ∷ front) v = absurd v

    id_because : (cause : Cause) (front : List ℕ) → IdRefused cause front → Unheaded cause (suc n ∷ front)
    id_because cause [] (inl h) = absurd (not_overlong h.1)
    id_because cause [] (inr h) = absurd (no_bytes _ h.1.1)
    id_because cause (c ∷ front) h = h

    field_far : (bytes : List ℕ) → suc n / 16 ≡ 0 → Judged (Option Field) Headed IdVarint Unheaded (suc n ∷ bytes) (headed kind n (signed_at 15 causes.BadWire bytes))
    field_far bytes near =
        let laws = id_judges AtOnce tt alone in
        judged_behind (Option Field) Headed IdVarint Unheaded (suc n) open_header none_header no_id_varint bytes (headed kind n (signed_at 15 causes.BadWire bytes))
        (judged_as ℤ (Option Field) IdText (λ word text. Headed word (suc n ∷ text)) AtOnce (λ front. IdVarint (suc n ∷ front)) IdRefused (λ cause text. Unheaded cause (suc n ∷ text))
        (told_field kind n) (to_field near) (of_field near) (id_onward near) id_backward id_because
        bytes (signed_at 15 causes.BadWire bytes) (laws.judged bytes))

    -- ---- the id told by the first byte

    abbrev next_id : ℤ
    next_id = last +ℤ pos (suc n / 16)

    not_near : 1 ≤ suc n / 16 → (FitsSigned w16 next_id → ⊥) → (word : Option Field) (text : List ℕ) → Headed word (suc n ∷ text) → ⊥
    not_near far out None [] h = h
    not_near far out None (c ∷ text) h = h
    not_near far out (Some field) [] h = out (subst (λ z. FitsSigned w16 z) h.2 h.3)
    not_near far out (Some field) (c ∷ text) h = omega (arith, far, near_code (suc n) field.kind h.0.0)

    field_near : (bytes : List ℕ) → 1 ≤ suc n / 16 → Tested w16 15 next_id → Judged (Option Field) Headed IdVarint Unheaded (suc n ∷ bytes) (headed kind n (within 15 causes.BadWire next_id >>= λ id. Ok (id, bytes)))
    field_near bytes far (fits good test) =
        subst (λ r. Judged (Option Field) Headed IdVarint Unheaded (suc n ∷ bytes) (headed kind n (r >>= λ id. Ok (id, bytes)))) (sym (within_id next_id good))
        (found (told_field kind n next_id) (suc n ∷ []) bytes ((e, refl, level_of left kind f), far, refl, good) refl refl)
    field_near bytes far (unfit out test) =
        subst (λ r. Judged (Option Field) Headed IdVarint Unheaded (suc n ∷ bytes) (headed kind n (r >>= λ id. Ok (id, bytes)))) (sym (outside_id next_id out))
        (refused_here (Option Field) Headed IdVarint Unheaded (suc n) open_header none_header no_id_varint bytes causes.BadWire
        ((λ z. omega (arith, z)), id_counts n (subst (λ k. why_none left k ≡ None) (sym e) f) out) (not_near far out)
        (λ front v. omega (arith, far, (varint_near n front v).0)) (omega arith))

    field_at : (bytes : List ℕ) (delta : ℕ) → suc n / 16 ≡ delta → Judged (Option Field) Headed IdVarint Unheaded (suc n ∷ bytes) (headed kind n (id_at last delta bytes))
    field_at bytes zero g = field_far bytes g
    field_at bytes (suc m) g = subst (λ d. Judged (Option Field) Headed IdVarint Unheaded (suc n ∷ bytes) (headed kind n (within 15 causes.BadWire (last +ℤ pos d) >>= λ id. Ok (id, bytes)))) g (field_near bytes (omega (arith, g)) (tested_16 next_id))

  field_by : (n : ℕ) (bytes : List ℕ) (o : Option TypeCode) → compact_kind_of_code (code_in n) ≡ o → (w : Option Cause) → why_none left o ≡ w
      → Judged (Option Field) Headed IdVarint Unheaded (suc n ∷ bytes) (known o >>= λ kind. unless (why_none left (Some kind)) kind >>= λ stands. headed stands n (id_at last (suc n / 16) bytes))
  field_by n bytes None e w f = type_refused n bytes causes.BadWire (ap (why_none left) e)
  field_by n bytes (Some kind) e None f =
      subst (λ w. Judged (Option Field) Headed IdVarint Unheaded (suc n ∷ bytes) (unless w kind >>= λ stands. headed stands n (id_at last (suc n / 16) bytes))) (sym f)
      (field_at n kind e f bytes (suc n / 16) refl)
  field_by n bytes (Some kind) e (Some cause) f =
      subst (λ w. Judged (Option Field) Headed IdVarint Unheaded (suc n ∷ bytes) (unless w kind >>= λ stands. headed stands n (id_at last (suc n / 16) bytes))) (sym f)
      (type_refused n bytes cause (ap (why_none left) e ∙ f))

  judged_header : (bytes : List ℕ) → Judged (Option Field) Headed IdVarint Unheaded bytes (compact_header_at left last bytes)
  unfolding compact_header_at
  judged_header [] = may_come (opens (Option Field) Headed IdVarint [] open_header) refl
  judged_header (zero ∷ bytes) = found None (0 ∷ []) bytes tt refl refl
  judged_header (suc n ∷ bytes) = field_by n bytes (compact_kind_of_code (code_in n)) refl (why_none left (compact_kind_of_code (code_in n))) refl

  -- ---- one head, one cause

  zero_field : (f : Field) (text : List ℕ) → Headed (Some f) (0 ∷ text) → ⊥
  zero_field f [] h = omega (arith, h.1)
  zero_field f (c ∷ text) h = some_kind f.kind (sym no_kind ∙ h.0.0)

  stop_alone : (f : Field) (text other tail more : List ℕ) → Headed None text → Headed (Some f) other → text ++ tail ≡ other ++ more → ⊥
  stop_alone f (zero ∷ []) (c ∷ other) tail more h g e = (let code : 0 ≡ c = cc in zero_field f other (subst (λ x. Headed (Some f) (x ∷ other)) (sym code) g))
  stop_alone f (zero ∷ []) [] tail more h g e = absurd g
  stop_alone f text other tail more h g e = absurd h

  one_field : (a b : Field) (text other tail more : List ℕ) → Headed (Some a) text → Headed (Some b) other → text ++ tail ≡ other ++ more → (Some a ≡ Some b) × (tail ≡ more)
  one_field a b [] other tail more h g e = absurd h
  one_field a b (c ∷ text) [] tail more h g e = absurd g
  one_field a b (c ∷ []) (d ∷ []) tail more h g e =
      let heads : c ≡ d = cc in
      (same_field a b (h.2 ∙ ap (λ x. last +ℤ pos (x / 16)) heads ∙ sym g.2) (sym h.0.0 ∙ ap (λ x. compact_kind_of_code (x % 16)) heads ∙ g.0.0) (sym h.0.1 ∙ ap (λ x. held_by_code (x % 16)) heads ∙ g.0.1), cc)
  one_field a b (c ∷ []) (d ∷ next ∷ other) tail more h g e = (let heads : c ≡ d = cc in absurd (omega (arith, heads, h.1, near_code d b.kind g.0.0)))
  one_field a b (c ∷ next ∷ text) (d ∷ []) tail more h g e = (let heads : c ≡ d = cc in absurd (omega (arith, heads, g.1, near_code c a.kind h.0.0)))
  one_field a b (c ∷ next ∷ text) (d ∷ following ∷ other) tail more h g e =
      let heads : c ≡ d = cc in
      let tails : (next ∷ text) ++ tail ≡ (following ∷ other) ++ more = cc in
      let same = (id_judges AtOnce tt alone).one a.id b.id (next ∷ text) (following ∷ other) tail more h.1 g.1 tails in
      (same_field a b same.0 (sym h.0.0 ∙ ap compact_kind_of_code heads ∙ g.0.0) (sym h.0.1 ∙ ap held_by_code heads ∙ g.0.1), same.1)

  one_header : (a b : Option Field) (text other tail more : List ℕ) → Headed a text → Headed b other → text ++ tail ≡ other ++ more → (a ≡ b) × (tail ≡ more)
  one_header None None (zero ∷ []) (zero ∷ []) tail more h g e = (refl, cc)
  one_header None None (zero ∷ []) other tail more h g e = absurd g
  one_header None None text other tail more h g e = absurd h
  one_header None (Some f) text other tail more h g e = absurd (stop_alone f text other tail more h g e)
  one_header (Some f) None text other tail more h g e = absurd (stop_alone f other text more tail g h (sym e))
  one_header (Some a) (Some b) text other tail more h g e = one_field a b text other tail more h g e

  zero_varint : (front : List ℕ) → IdVarint (0 ∷ front) → ⊥
  zero_varint [] v = some_kind v.0 (sym no_kind ∙ v.1)
  zero_varint (c ∷ front) v = v

  far_varint : (b : ℕ) → 1 ≤ b / 16 → (front : List ℕ) → IdVarint (b ∷ front) → ⊥
  far_varint b far [] v = omega (arith, far, near_code b v.0 v.1)
  far_varint b far (c ∷ front) v = v

  varint_alone : (b : ℕ) (front : List ℕ) → IdVarint (b ∷ front) → AtOnce front
  varint_alone b [] v = tt
  varint_alone b (c ∷ front) v = absurd v

  ended_here : (b : ℕ) (text : List ℕ) → HasEnded (λ front. IdVarint (b ∷ front)) text → HasEnded IdVarint (b ∷ text)
  ended_here b text ended = ended_behind (Option Field) Headed IdVarint Unheaded b open_header none_header no_id_varint text ended

  ended_header : (word : Option Field) (text : List ℕ) → Headed word text → HasEnded IdVarint text
  ended_header None (zero ∷ []) h = ended_here 0 [] (λ rest front inside v i e. zero_varint front v)
  ended_header None text h = absurd h
  ended_header (Some f) [] h = absurd h
  ended_header (Some f) (b ∷ []) h = ended_here b [] (λ rest front inside v i e. far_varint b h.1 front v)
  ended_header (Some f) (b ∷ c ∷ id) h = ended_here b (c ∷ id) (λ rest front inside v i e. (id_judges AtOnce tt alone).ended f.id (c ∷ id) h.1 rest front inside (varint_alone b front v) i e)

  one_header_cause : (front : List ℕ) (a b : Cause) → Unheaded a front → Unheaded b front → a ≡ b
  one_header_cause [] a b h g = absurd h
  one_header_cause (c ∷ []) a b h g = one_counts (λ fault. CompactFieldFault left last c fault) (field_fault left last c) a b h.1 g.1
  one_header_cause (c ∷ next ∷ front) a b h g = (id_judges AtOnce tt alone).one_cause (next ∷ front) a b h g

  pub compact_header_judges : JudgesReading (Option Field) Headed IdVarint Unheaded (compact_header_at left last)
  compact_header_judges = record { judged = judged_header; one = one_header; ended = ended_header; one_cause = one_header_cause }
