-- How the heads of fields, lists and maps are judged.
use Rattle.std.proofs.Common.{◌≡◌, ◌++◌, ◌∷◌, ℕ, zero, suc, ℤ, List, [], Option, Some, None, Result, Ok, Err, refl, ap, sym, ◌∙◌, arith}
use Rattle.std.specs.Int.{w16}
use Rattle.span_io.specs.declared.cause.Cause.{Cause}
use Rattle.span_io.specs.declared.cause.Cause.TheVariants as causes
use Rattle.thrift_core.specs.declared.field.Field.{Field}
use Rattle.thrift_core.specs.declared.field.ListHead.{ListHead}
use Rattle.thrift_core.specs.declared.field.MapHead.{MapHead}
use Rattle.thrift_core.specs.declared.type_code.TypeCode.{TypeCode}
use Rattle.thrift_core.specs.Levels.{why_none, why_no_pair}
use Rattle.thrift_core.specs.Reading.{◌>>=◌, unless, known}
use Rattle.thrift_core.proofs.Judged.{opens, MayCome, Judged, found, may_come, JudgesReading}
use Rattle.thrift_core.proofs.JudgedSteps.{zeros, zeros_are_bytes, one_fixed, fixed_judges, judged_behind, open_behind, refused_here, judged_as}
use Rattle.thrift_core.proofs.Standing.{may_stand, level_stands, stands_none, level_of, some_is, none_is, proper_none, proper_pair, pair_stands, no_why, same_list, same_map, field_with, same_field}
use Rattle.thrift_spellings.specs.BinaryTypeCodes.{kind_among, binary_kind_of_code}
use Rattle.thrift_spellings.specs.BinarySpelling.{signed, IsFixed, IsBinaryHeader, IsBinaryListHead, IsBinaryMapHead, IsBinarySizeRefused, IsBinaryHeaderRefused, IsBinaryListRefused, IsBinaryMapRefused}
use Rattle.thrift_spellings.specs.BinaryReading.{fixed_at, binary_size_at, binary_header_at, binary_list_at, binary_map_at}
use Rattle.thrift_spellings.proofs.BinaryBytes.{NoVarint, BinarySized, binary_size_judges, one_size}

-- ---- lists and sets

module _ (left : ℕ) where
  open_list : MayCome ListHead (IsBinaryListHead left) []
  open_list = record { word = record { element = binary_kind_of_code 0; size = 0 }; more = zeros 5; are_bytes = zeros_are_bytes 5; some = λ e. cc; spelled = (refl, (omega arith, refl), λ some. absurd (omega (arith, some))) }

  none_list : (head : ListHead) → IsBinaryListHead left head [] → ⊥
  none_list head h = h

  list_of_code : (code : ℕ) (bytes : List ℕ) → Judged ListHead (IsBinaryListHead left) NoVarint (IsBinaryListRefused left) (code ∷ bytes) (binary_list_at left (code ∷ bytes))
  unfolding binary_list_at
  list_of_code code bytes =
      let why = why_none left (binary_kind_of_code code) in
      let laws = binary_size_judges why (proper_none left (binary_kind_of_code code)) in
      judged_behind ListHead (IsBinaryListHead left) NoVarint (IsBinaryListRefused left) code open_list none_list (λ v. v) bytes (binary_list_at left (code ∷ bytes))
      (judged_as ℕ ListHead (BinarySized why) (λ head text. IsBinaryListHead left head (code ∷ text)) NoVarint NoVarint (IsBinarySizeRefused why) (λ cause text. IsBinaryListRefused left cause (code ∷ text))
      (λ n. record { element = binary_kind_of_code code; size = n })
      (λ n text h. (refl, h.0, λ some. may_stand left (binary_kind_of_code code) (h.1 some)))
      (λ head text h. (head.size, (h.1, λ some. rw (sym h.0) (stands_none left head.element (h.2 some)))))
      (λ front v. v)
      (λ front v. v)
      (λ cause front h. h)
      bytes (binary_size_at why bytes) (laws.judged bytes))

  judged_list : (bytes : List ℕ) → Judged ListHead (IsBinaryListHead left) NoVarint (IsBinaryListRefused left) bytes (binary_list_at left bytes)
  unfolding binary_list_at
  judged_list [] = may_come (opens ListHead (IsBinaryListHead left) NoVarint [] open_list) refl
  judged_list (code ∷ bytes) = list_of_code code bytes

  one_list : (a b : ListHead) (text other tail more : List ℕ) → IsBinaryListHead left a text → IsBinaryListHead left b other → text ++ tail ≡ other ++ more → (a ≡ b) × (tail ≡ more)
  one_list a b [] other tail more h g e = absurd h
  one_list a b (code ∷ text) [] tail more h g e = absurd g
  one_list a b (code ∷ text) (other_code ∷ other) tail more h g e =
      let heads : code ≡ other_code = cc in
      let tails : text ++ tail ≡ other ++ more = cc in
      let same = one_size a.size b.size text other tail more h.1 g.1 tails in
      (same_list a b (h.0 ∙ ap binary_kind_of_code heads ∙ sym g.0) same.0, same.1)

  one_list_cause : (front : List ℕ) (a b : Cause) → IsBinaryListRefused left a front → IsBinaryListRefused left b front → a ≡ b
  one_list_cause [] a b h g = absurd h
  one_list_cause (code ∷ front) a b h g = (binary_size_judges (why_none left (binary_kind_of_code code)) (proper_none left (binary_kind_of_code code))).one_cause front a b h g

  pub binary_list_judges : JudgesReading ListHead (IsBinaryListHead left) NoVarint (IsBinaryListRefused left) (λ bytes. binary_list_at left bytes)
  binary_list_judges = record { judged = judged_list; one = one_list; ended = λ head text h rest front inside v i e. v; one_cause = one_list_cause }

-- ---- maps

module _ (left : ℕ) where
  open_key : MayCome MapHead (IsBinaryMapHead left) []
  open_key = record {
    word = record { key = binary_kind_of_code 0; value = binary_kind_of_code 0; size = 0 };
    more = zeros 6;
    are_bytes = zeros_are_bytes 6;
    some = λ e. cc;
    spelled = (refl, refl, (omega arith, refl), λ some. absurd (omega (arith, some)));
  }

  none_key : (head : MapHead) → IsBinaryMapHead left head [] → ⊥
  none_key head h = h

  open_value : (key : ℕ) → MayCome MapHead (λ head text. IsBinaryMapHead left head (key ∷ text)) []
  open_value key = record {
    word = record { key = binary_kind_of_code key; value = binary_kind_of_code 0; size = 0 };
    more = zeros 5;
    are_bytes = zeros_are_bytes 5;
    some = λ e. cc;
    spelled = (refl, refl, (omega arith, refl), λ some. absurd (omega (arith, some)));
  }

  none_value : (key : ℕ) (head : MapHead) → IsBinaryMapHead left head (key ∷ []) → ⊥
  none_value key head h = h

  map_of_codes : (key value : ℕ) (bytes : List ℕ) → Judged MapHead (IsBinaryMapHead left) NoVarint (IsBinaryMapRefused left) (key ∷ value ∷ bytes) (binary_map_at left (key ∷ value ∷ bytes))
  unfolding binary_map_at
  map_of_codes key value bytes =
      let why = why_no_pair left (binary_kind_of_code key) (binary_kind_of_code value) in
      let laws = binary_size_judges why (proper_pair left (binary_kind_of_code key) (binary_kind_of_code value)) in
      judged_behind MapHead (IsBinaryMapHead left) NoVarint (IsBinaryMapRefused left) key open_key none_key (λ v. v) (value ∷ bytes) (binary_map_at left (key ∷ value ∷ bytes))
      (judged_behind MapHead (λ head text. IsBinaryMapHead left head (key ∷ text)) NoVarint (λ cause text. IsBinaryMapRefused left cause (key ∷ text)) value (open_value key) (none_value key) (λ v. v) bytes (binary_map_at left (key ∷ value ∷ bytes))
      (judged_as ℕ MapHead (BinarySized why) (λ head text. IsBinaryMapHead left head (key ∷ value ∷ text)) NoVarint NoVarint (IsBinarySizeRefused why) (λ cause text. IsBinaryMapRefused left cause (key ∷ value ∷ text))
      (λ n. record { key = binary_kind_of_code key; value = binary_kind_of_code value; size = n })
      (λ n text h. (refl, refl, h.0, λ some. pair_stands left (binary_kind_of_code key) (binary_kind_of_code value) (h.1 some)))
      (λ head text h. (head.size, (h.2, λ some. rw (sym h.0, sym h.1) (no_why left head.key head.value (h.3 some)))))
      (λ front v. v)
      (λ front v. v)
      (λ cause front h. h)
      bytes (binary_size_at why bytes) (laws.judged bytes)))

  judged_map : (bytes : List ℕ) → Judged MapHead (IsBinaryMapHead left) NoVarint (IsBinaryMapRefused left) bytes (binary_map_at left bytes)
  unfolding binary_map_at
  judged_map [] = may_come (opens MapHead (IsBinaryMapHead left) NoVarint [] open_key) refl
  judged_map (key ∷ []) = may_come (open_behind MapHead (IsBinaryMapHead left) NoVarint (IsBinaryMapRefused left) key open_key none_key (λ v. v) [] (opens MapHead (λ head text. IsBinaryMapHead left head (key ∷ text)) NoVarint [] (open_value key))) refl
  judged_map (key ∷ value ∷ bytes) = map_of_codes key value bytes

  one_map : (a b : MapHead) (text other tail more : List ℕ) → IsBinaryMapHead left a text → IsBinaryMapHead left b other → text ++ tail ≡ other ++ more → (a ≡ b) × (tail ≡ more)
  one_map a b (key ∷ value ∷ text) (other_key ∷ other_value ∷ other) tail more h g e =
      let keys : key ≡ other_key = cc in
      let values : value ≡ other_value = cc in
      let tails : text ++ tail ≡ other ++ more = cc in
      let same = one_size a.size b.size text other tail more h.2 g.2 tails in
      (same_map a b (h.0 ∙ ap binary_kind_of_code keys ∙ sym g.0) (h.1 ∙ ap binary_kind_of_code values ∙ sym g.1) same.0, same.1)
  one_map a b (key ∷ value ∷ text) other tail more h g e = absurd g
  one_map a b text other tail more h g e = absurd h

  one_map_cause : (front : List ℕ) (a b : Cause) → IsBinaryMapRefused left a front → IsBinaryMapRefused left b front → a ≡ b
  one_map_cause (key ∷ value ∷ front) a b h g = (binary_size_judges (why_no_pair left (binary_kind_of_code key) (binary_kind_of_code value)) (proper_pair left (binary_kind_of_code key) (binary_kind_of_code value))).one_cause front a b h g
  one_map_cause other a b h g = absurd h

  pub binary_map_judges : JudgesReading MapHead (IsBinaryMapHead left) NoVarint (IsBinaryMapRefused left) (λ bytes. binary_map_at left bytes)
  binary_map_judges = record { judged = judged_map; one = one_map; ended = λ head text h rest front inside v i e. v; one_cause = one_map_cause }

-- ---- fields

module _ (left : ℕ) where
  abbrev Headed : Option Field → List ℕ → Type 0
  Headed word text = IsBinaryHeader left word text

  abbrev Unheaded : Cause → List ℕ → Type 0
  Unheaded cause front = IsBinaryHeaderRefused left cause front

  open_header : MayCome (Option Field) Headed []
  open_header = record { word = None; more = zeros 1; are_bytes = zeros_are_bytes 1; some = λ e. cc; spelled = tt }

  none_header : (word : Option Field) → Headed word [] → ⊥
  none_header None h = h
  none_header (Some f) h = h

  -- what a field's spelling says of the code
  field_code : (n : ℕ) (word : Option Field) (text : List ℕ) → Headed word (suc n ∷ text) → (f : Field) × (word ≡ Some f) × (binary_kind_of_code (suc n) ≡ Some f.kind) × (why_none left (Some f.kind) ≡ None) × IsFixed ℤ 2 (signed w16) f.id text
  field_code n None text h = absurd h
  field_code n (Some f) text h = (f, refl, h.0, level_stands left f.kind h.1, h.2)

  abbrev field_at : ℕ → List ℕ → Result (Option Field × List ℕ) Cause
  field_at n bytes = known (binary_kind_of_code (suc n)) >>= λ kind. unless (why_none left (Some kind)) kind >>= λ stands. fixed_at ℤ 2 (signed w16) bytes >>= λ id. Ok (Some (field_with id.0 stands None), id.1)

  field_stands : (n : ℕ) (word : Option Field) (text : List ℕ) → Headed word (suc n ∷ text) → why_none left (binary_kind_of_code (suc n)) ≡ None
  field_stands n word text h = (let s = field_code n word text h in rw s.2 s.3)

  field_refused : (n : ℕ) (bytes : List ℕ) (cause : Cause) → why_none left (binary_kind_of_code (suc n)) ≡ Some cause → Judged (Option Field) Headed NoVarint Unheaded (suc n ∷ bytes) (Err cause)
  field_refused n bytes cause e =
      refused_here (Option Field) Headed NoVarint Unheaded (suc n) open_header none_header (λ v. v) bytes cause ((λ z. omega (arith, z)), e)
      (λ word text h. none_is cause (sym (field_stands n word text h) ∙ e)) (λ front v. v) (proper_none left (binary_kind_of_code (suc n)) cause e)

  field_found : (n : ℕ) (bytes : List ℕ) (kind : TypeCode) → binary_kind_of_code (suc n) ≡ Some kind → why_none left (Some kind) ≡ None
      → Judged (Option Field) Headed NoVarint Unheaded (suc n ∷ bytes) (fixed_at ℤ 2 (signed w16) bytes >>= λ id. Ok (Some (field_with id.0 kind None), id.1))
  field_found n bytes kind e f =
      let laws = fixed_judges ℤ 2 (signed w16) NoVarint (λ front v. v) in
      judged_behind (Option Field) Headed NoVarint Unheaded (suc n) open_header none_header (λ v. v) bytes (fixed_at ℤ 2 (signed w16) bytes >>= λ id. Ok (Some (field_with id.0 kind None), id.1))
      (judged_as ℤ (Option Field) (λ id text. IsFixed ℤ 2 (signed w16) id text) (λ word text. Headed word (suc n ∷ text)) NoVarint NoVarint (λ cause front. ⊥) (λ cause text. Unheaded cause (suc n ∷ text))
      (λ id. Some (field_with id kind None))
      (λ id text h. (e, level_of left kind f, h, refl))
      (λ word text h. (let s = field_code n word text h in (s.0.id, s.4)))
      (λ front v. v)
      (λ front v. v)
      (λ cause front h. absurd h)
      bytes (fixed_at ℤ 2 (signed w16) bytes) (laws.judged bytes))

  field_by : (n : ℕ) (bytes : List ℕ) (o : Option TypeCode) → binary_kind_of_code (suc n) ≡ o → (w : Option Cause) → why_none left o ≡ w → Judged (Option Field) Headed NoVarint Unheaded (suc n ∷ bytes) (field_at n bytes)
  field_by n bytes None e w f = rw e (field_refused n bytes causes.BadWire (rw e refl))
  field_by n bytes (Some kind) e None f = rw (e, f) (field_found n bytes kind e f)
  field_by n bytes (Some kind) e (Some cause) f = rw (e, f) (field_refused n bytes cause (rw e f))

  judged_header : (bytes : List ℕ) → Judged (Option Field) Headed NoVarint Unheaded bytes (binary_header_at left bytes)
  unfolding binary_header_at
  judged_header [] = may_come (opens (Option Field) Headed NoVarint [] open_header) refl
  judged_header (zero ∷ bytes) = found None (0 ∷ []) bytes tt refl refl
  judged_header (suc n ∷ bytes) = field_by n bytes (binary_kind_of_code (suc n)) refl (why_none left (binary_kind_of_code (suc n))) refl

  no_kind : binary_kind_of_code 0 ≡ None
  unfolding binary_kind_of_code kind_among
  no_kind = refl

  stop_alone : (f : Field) (text other tail more : List ℕ) → Headed None text → Headed (Some f) other → text ++ tail ≡ other ++ more → ⊥
  stop_alone f (zero ∷ []) (code ∷ other) tail more h g e =
      let code_is : 0 ≡ code = cc in
      let some : Some f.kind ≡ None = sym g.0 ∙ ap binary_kind_of_code (sym code_is) ∙ no_kind in
      cc
  stop_alone f (zero ∷ []) [] tail more h g e = absurd g
  stop_alone f text other tail more h g e = absurd h

  one_header : (a b : Option Field) (text other tail more : List ℕ) → Headed a text → Headed b other → text ++ tail ≡ other ++ more → (a ≡ b) × (tail ≡ more)
  one_header None None (zero ∷ []) (zero ∷ []) tail more h g e = (refl, cc)
  one_header None None (zero ∷ []) other tail more h g e = absurd g
  one_header None None text other tail more h g e = absurd h
  one_header None (Some f) text other tail more h g e = absurd (stop_alone f text other tail more h g e)
  one_header (Some f) None text other tail more h g e = absurd (stop_alone f other text more tail g h (sym e))
  one_header (Some a) (Some b) (code ∷ text) (other_code ∷ other) tail more h g e =
      let heads : code ≡ other_code = cc in
      let tails : text ++ tail ≡ other ++ more = cc in
      let same = one_fixed ℤ 2 (signed w16) NoVarint (λ front v. v) a.id b.id text other tail more h.2 g.2 tails in
      (same_field a b same.0 (sym h.0 ∙ ap binary_kind_of_code heads ∙ g.0) (h.3 ∙ sym g.3), same.1)
  one_header (Some a) (Some b) (code ∷ text) [] tail more h g e = absurd g
  one_header (Some a) (Some b) [] other tail more h g e = absurd h

  one_header_cause : (front : List ℕ) (a b : Cause) → Unheaded a front → Unheaded b front → a ≡ b
  one_header_cause (code ∷ []) a b h g = some_is b a (sym g.1 ∙ h.1)
  one_header_cause other a b h g = absurd h

  pub binary_header_judges : JudgesReading (Option Field) Headed NoVarint Unheaded (λ bytes. binary_header_at left bytes)
  binary_header_judges = record { judged = judged_header; one = one_header; ended = λ word text h rest front inside v i e. v; one_cause = one_header_cause }
