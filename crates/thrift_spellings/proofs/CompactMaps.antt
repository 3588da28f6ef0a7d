-- How the heads of maps are judged.
use Rattle.std.proofs.Common.{◌≡◌, ◌≢◌, ◌<◌, ◌/◌, ◌%◌, ◌++◌, ◌∷◌, inl, inr, ℕ, zero, suc, List, [], Option, Some, None, Result, refl, ap, sym, ◌∙◌, subst, arith}
use Rattle.std.proofs.lemmas.List.{append_assoc, append-nil}
use Rattle.std.proofs.lemmas.List.Elements.{All-nil, All-cons, All-append}
use Rattle.span_io.specs.Frames.{AreBytes}
use Rattle.span_io.specs.declared.cause.Cause.{Cause}
use Rattle.span_io.proofs.Cuts.{snoc_front}
use Rattle.span_io.proofs.VarintFacts.{varint_laws}
use Rattle.span_io.specs.Varint.{SpellsVarint}
use Rattle.thrift_core.specs.declared.field.MapHead.{MapHead}
use Rattle.thrift_core.specs.declared.type_code.TypeCode.{TypeCode}
use Rattle.thrift_core.specs.declared.type_code.TypeCode.TheVariants as kinds
use Rattle.thrift_core.specs.Levels.{MayStand, why_no_pair}
use Rattle.thrift_core.specs.Parts.{map_head}
use Rattle.thrift_core.specs.Reading.{◌>>=◌, unless}
use Rattle.thrift_core.proofs.Judged.{Opens, opens, Clashes, HasEnded, Judged, found, may_come, refused, JudgesReading}
use Rattle.thrift_core.proofs.Standing.{none_some, some_is, proper_pair, pair_stands, no_why, map_with, same_map}
use Rattle.thrift_spellings.specs.CompactTypeCodes.{compact_kind_of_code}
use Rattle.thrift_spellings.specs.CompactSpelling.{IsCompactSize, IsCompactMapHead, ArePairs, ArePairsRefused, IsCompactMapRefused, IsCompactSizeRefused, compact_then_varint}
use Rattle.thrift_spellings.specs.CompactReading.{compact_size_at, pairs_at, compact_map_at}
use Rattle.thrift_spellings.proofs.CompactVarints.{one_varint, overlong_not_number, inside_opens}
use Rattle.thrift_spellings.proofs.CompactSizes.{any_is, any_size, meant_size, refusing_by, any_judges}

module _ (left : ℕ) where
  abbrev Mapped : MapHead → List ℕ → Type 0
  Mapped head text = IsCompactMapHead left head text

  abbrev Unmapped : Cause → List ℕ → Type 0
  Unmapped cause front = IsCompactMapRefused left cause front

  abbrev MapVarint : List ℕ → Type 0
  MapVarint front = compact_then_varint (map_head left) front

  abbrev key_of : ℕ → Option TypeCode
  key_of b = compact_kind_of_code (b / 16)

  abbrev value_of : ℕ → Option TypeCode
  value_of b = compact_kind_of_code (b % 16)

  at_once : (front : List ℕ) → MapVarint front → front ≡ []
  at_once [] v = refl
  at_once (b ∷ front) v = absurd v

  abbrev sizes : JudgesReading ℕ IsCompactSize MapVarint (IsCompactSizeRefused None) (compact_size_at None)
  sizes = any_judges MapVarint tt at_once

  -- ---- a size may go on to a map

  -- the types of truth values may stand at every level
  truths : MayStand left (key_of 17) × MayStand left (value_of 17)
  unfolding compact_kind_of_code
  truths = ((kinds.Truth, refl, λ c. absurd c), (kinds.Truth, refl, λ c. absurd c))

  record Ends (number : List ℕ) : Type 0 where
    pub head : MapHead
    pub types : List ℕ
    pub are_bytes : AreBytes types
    pub mapped : Mapped head (number ++ types)

  map_of_size : (n : ℕ) (number : List ℕ) → IsCompactSize n number → Ends number
  map_of_size zero number s = record {
    head = map_with None None 0;
    types = [];
    are_bytes = All-nil (λ b. b < 256);
    mapped = record { number = number; types = []; parts = refl; its_size = s; its_types = (refl, refl, refl) };
  }
  map_of_size (suc n) number s = record {
    head = map_with (key_of 17) (value_of 17) (suc n);
    types = 17 ∷ [];
    are_bytes = All-cons (λ b. b < 256) 17 [] (omega arith) (All-nil (λ b. b < 256));
    mapped = record { number = number; types = 17 ∷ []; parts = refl; its_size = s; its_types = (omega arith, refl, refl, truths.0, truths.1) };
  }

  longer : (bytes more types : List ℕ) (head : MapHead) → Mapped head ((bytes ++ more) ++ types) → Mapped head (bytes ++ (more ++ types))
  longer bytes more types head h = subst (λ l. Mapped head l) (append_assoc bytes more types) h

  some_more : (more types : List ℕ) → more ≢ [] → more ++ types ≢ []
  some_more [] types some e = some refl
  some_more (b ∷ more) types some e = cc

  map_opens : (bytes : List ℕ) → Opens ℕ IsCompactSize MapVarint bytes → Opens MapHead Mapped MapVarint bytes
  map_opens bytes (inl m) =
      let w = map_of_size m.whole.0 (bytes ++ m.more) m.whole.1 in
      inl (record { more = m.more ++ w.types; are_bytes = All-append (λ b. b < 256) m.more w.types m.are_bytes w.are_bytes; some = some_more m.more w.types m.some; whole = (w.head, longer bytes m.more w.types w.head w.mapped) })
  map_opens bytes (inr m) =
      let p = m.proper in
      let w = map_of_size p.whole.0 (m.front ++ p.more) p.whole.1 in
      inr (record {
        front = m.front;
        inside = m.inside;
        then_varint = m.then_varint;
        proper = record {
          more = p.more ++ w.types;
          are_bytes = All-append (λ b. b < 256) p.more w.types p.are_bytes w.are_bytes;
          some = some_more p.more w.types p.some;
          whole = (w.head, longer m.front p.more w.types w.head w.mapped);
        };
        some = m.some;
        unended = m.unended;
        parts = m.parts;
      })

  -- a front of a size is open, and so is the whole size, unless it is 0
  size_opens : (n : ℕ) (number shorter between : List ℕ) → IsCompactSize (suc n) number → number ≡ shorter ++ between → Opens MapHead Mapped MapVarint shorter
  unfolding map_of_size
  size_opens n number shorter [] s e =
      let w = map_of_size (suc n) number s in
      opens MapHead Mapped MapVarint shorter (record { word = w.head; more = w.types; are_bytes = w.are_bytes; some = λ f. cc; spelled = subst (λ l. Mapped w.head (l ++ w.types)) (e ∙ append-nil shorter) w.mapped })
  size_opens n number shorter (b ∷ between) s e =
      map_opens shorter (inside_opens ℕ IsCompactSize MapVarint (IsCompactSizeRefused None) (meant_size None any_size) any_is tt at_once shorter
      (varint_laws.fronts (suc n) shorter (b ∷ between) (subst (λ l. SpellsVarint l (suc n)) e s.0) (λ f. cc)))

  ended_more : (text more : List ℕ) → HasEnded MapVarint text → HasEnded MapVarint (text ++ more)
  ended_more text more ended rest front inside v i e = ended (more ++ rest) front inside v i (sym (append_assoc text more rest) ∙ e)

  -- ---- behind the size

  clash_size : (front : List ℕ) → Clashes ℕ IsCompactSize front → Clashes MapHead Mapped front
  clash_size front clash word text tail more h e = clash word.size h.number (h.types ++ tail) more h.its_size (sym (append_assoc h.number h.types tail) ∙ ap (λ l. l ++ tail) (sym h.parts) ∙ e)

  -- another map with this size has the types that may not stand
  clash_types : (n b : ℕ) (cause : Cause) → why_no_pair left (key_of b) (value_of b) ≡ Some cause → (head : MapHead) (types tail more : List ℕ) → ArePairs left head types → head.size ≡ suc n → types ++ tail ≡ b ∷ more → ⊥
  clash_types n b cause why head [] tail more h same e = omega (arith, h.0, same)
  clash_types n b cause why head (c ∷ []) tail more h same e =
      let heads : c ≡ b = cc in
      let none = no_why left head.key head.value (h.3, h.4) in
      let key : head.key ≡ key_of b = h.1 ∙ ap key_of heads in
      let value : head.value ≡ value_of b = h.2 ∙ ap value_of heads in
      none_some (why_no_pair left (key_of b) (value_of b)) cause why (subst (λ k. why_no_pair left k (value_of b) ≡ None) key (subst (λ v. why_no_pair left head.key v ≡ None) value none))
  clash_types n b cause why head (c ∷ d ∷ types) tail more h same e = h

  clash_pairs : (n b : ℕ) (number : List ℕ) (cause : Cause) → IsCompactSize (suc n) number → why_no_pair left (key_of b) (value_of b) ≡ Some cause → Clashes MapHead Mapped (number ++ b ∷ [])
  clash_pairs n b number cause s why word text tail more h e =
      let same = one_varint word.size (suc n) h.number number (h.types ++ tail) (b ∷ more) h.its_size.0 s.0
      (sym (append_assoc h.number h.types tail) ∙ ap (λ l. l ++ tail) (sym h.parts) ∙ e ∙ append_assoc number (b ∷ []) more) in
      clash_types n b cause why word h.types tail more h.its_types same.0 same.1

  pairs_by : (n b : ℕ) (bytes number rest : List ℕ) → IsCompactSize (suc n) number → bytes ≡ number ++ b ∷ rest → (w : Option Cause) → why_no_pair left (key_of b) (value_of b) ≡ w
      → Judged MapHead Mapped MapVarint Unmapped bytes (unless w (map_with (key_of b) (value_of b) (suc n), rest))
  pairs_by n b bytes number rest s p None e =
      let stand = pair_stands left (key_of b) (value_of b) e in
      found (map_with (key_of b) (value_of b) (suc n)) (number ++ b ∷ []) rest
      (record { number = number; types = b ∷ []; parts = refl; its_size = s; its_types = (omega arith, refl, refl, stand.0, stand.1) })
      (p ∙ sym (append_assoc number (b ∷ []) rest)) refl
  pairs_by n b bytes number rest s p (Some cause) e =
      let known = proper_pair left (key_of b) (value_of b) cause e in
      refused cause (record {
        front = number ++ b ∷ [];
        rest = rest;
        parts = p ∙ sym (append_assoc number (b ∷ []) rest);
        because = inr (record { number = number; types = b; many = suc n; parts = refl; its_size = s; why = e });
        clashes = clash_pairs n b number cause s e;
        ended = ended_more number (b ∷ []) (sizes.ended (suc n) number s);
        before = λ shorter more f some. (let cut = snoc_front number b shorter more f some in size_opens n number shorter cut.0 s cut.1);
        of_part = known;
      }) refl

  behind_size : (n : ℕ) (bytes number rest : List ℕ) → IsCompactSize n number → bytes ≡ number ++ rest → Judged MapHead Mapped MapVarint Unmapped bytes (pairs_at left n rest)
  unfolding map_of_size
  behind_size zero bytes number rest s p =
      let w = map_of_size 0 number s in
      found (map_with None None 0) number rest (subst (λ l. Mapped (map_with None None 0) l) (append-nil number) w.mapped) p refl
  behind_size (suc n) bytes number [] s p =
      may_come (subst (λ l. Opens MapHead Mapped MapVarint l) (sym (p ∙ append-nil number)) (size_opens n number number [] s (sym (append-nil number)))) refl
  behind_size (suc n) bytes number (b ∷ rest) s p = pairs_by n b bytes number rest s p (why_no_pair left (key_of b) (value_of b)) refl

  abbrev paired : Result (ℕ × List ℕ) Cause → Result (MapHead × List ℕ) Cause
  paired number = number >>= λ x. pairs_at left x.0 x.1

  map_by : (bytes : List ℕ) (read : Result (ℕ × List ℕ) Cause) → Judged ℕ IsCompactSize MapVarint (IsCompactSizeRefused None) bytes read → Judged MapHead Mapped MapVarint Unmapped bytes (paired read)
  map_by bytes read (found n number rest s p e) = subst (λ r. Judged MapHead Mapped MapVarint Unmapped bytes (paired r)) (sym e) (behind_size n bytes number rest s p)
  map_by bytes read (may_come m e) = may_come (map_opens bytes m) (ap paired e)
  map_by bytes read (refused cause r e) = refused cause (record {
    front = r.front;
    rest = r.rest;
    parts = r.parts;
    because = inl r.because;
    clashes = clash_size r.front r.clashes;
    ended = r.ended;
    before = λ shorter more f some. map_opens shorter (r.before shorter more f some);
    of_part = r.of_part;
  }) (ap paired e)

  judged_map : (bytes : List ℕ) → Judged MapHead Mapped MapVarint Unmapped bytes (compact_map_at left bytes)
  unfolding compact_map_at
  judged_map bytes = map_by bytes (compact_size_at None bytes) (sizes.judged bytes)

  -- ---- one head, one cause

  one_pair : (a b : MapHead) (types other tail more : List ℕ) → ArePairs left a types → ArePairs left b other → a.size ≡ b.size → types ++ tail ≡ other ++ more → (a ≡ b) × (tail ≡ more)
  one_pair a b [] [] tail more h g same e = (same_map a b (h.1 ∙ sym g.1) (h.2 ∙ sym g.2) same, e)
  one_pair a b [] (d ∷ []) tail more h g same e = absurd (omega (arith, h.0, g.0, same))
  one_pair a b (c ∷ []) [] tail more h g same e = absurd (omega (arith, g.0, h.0, same))
  one_pair a b (c ∷ []) (d ∷ []) tail more h g same e =
      let heads : c ≡ d = cc in
      (same_map a b (h.1 ∙ ap key_of heads ∙ sym g.1) (h.2 ∙ ap value_of heads ∙ sym g.2) same, cc)
  one_pair a b [] (d ∷ next ∷ other) tail more h g same e = absurd g
  one_pair a b (c ∷ []) (d ∷ next ∷ other) tail more h g same e = absurd g
  one_pair a b (c ∷ next ∷ types) other tail more h g same e = absurd h

  one_map : (a b : MapHead) (text other tail more : List ℕ) → Mapped a text → Mapped b other → text ++ tail ≡ other ++ more → (a ≡ b) × (tail ≡ more)
  one_map a b text other tail more h g e =
      let same = one_varint a.size b.size h.number g.number (h.types ++ tail) (g.types ++ more) h.its_size.0 g.its_size.0
      (sym (append_assoc h.number h.types tail) ∙ ap (λ l. l ++ tail) (sym h.parts) ∙ e ∙ ap (λ l. l ++ more) g.parts ∙ append_assoc g.number g.types more) in
      one_pair a b h.types g.types tail more h.its_types g.its_types same.0 same.1

  ended_map : (head : MapHead) (text : List ℕ) → Mapped head text → HasEnded MapVarint text
  ended_map head text h = subst (λ l. HasEnded MapVarint l) (sym h.parts) (ended_more h.number h.types (sizes.ended head.size h.number h.its_size))

  -- a size that is refused is no size and a byte of types
  size_not_pair : (text : List ℕ) (a b : Cause) → IsCompactSizeRefused None a text → ArePairsRefused left b text → ⊥
  size_not_pair text a b h g = elim (refusing_by None any_size text a h) [
    | inl x ↦ overlong_not_number g.many text g.number [] (g.types ∷ []) x.1 g.its_size.0 (sym g.parts ∙ sym (append-nil text))
    | inr x ↦ some_tail (one_varint g.many x.0 g.number text (g.types ∷ []) [] g.its_size.0 x.1 (sym g.parts ∙ sym (append-nil text))).1
  ]
    where
      some_tail : g.types ∷ [] ≡ [] → ⊥
      some_tail e = cc

  one_pair_cause : (text : List ℕ) (a b : Cause) → ArePairsRefused left a text → ArePairsRefused left b text → a ≡ b
  one_pair_cause text a b h g =
      let same = one_varint h.many g.many h.number g.number (h.types ∷ []) (g.types ∷ []) h.its_size.0 g.its_size.0 (sym h.parts ∙ g.parts) in
      let heads : h.types ≡ g.types = cc in
      some_is b a (sym g.why ∙ ap (λ x. why_no_pair left (key_of x) (value_of x)) (sym heads) ∙ h.why)

  one_map_cause : (text : List ℕ) (a b : Cause) → Unmapped a text → Unmapped b text → a ≡ b
  one_map_cause text a b (inl h) (inl g) = sizes.one_cause text a b h g
  one_map_cause text a b (inl h) (inr g) = absurd (size_not_pair text a b h g)
  one_map_cause text a b (inr h) (inl g) = absurd (size_not_pair text b a g h)
  one_map_cause text a b (inr h) (inr g) = one_pair_cause text a b h g

  pub compact_map_judges : JudgesReading MapHead Mapped MapVarint Unmapped (compact_map_at left)
  compact_map_judges = record { judged = judged_map; one = one_map; ended = ended_map; one_cause = one_map_cause }
