-- What the compact protocol keeps: how its parts are refused, completed and written.
use Rattle.std.proofs.Common.{◌≡◌, ◌≢◌, ◌≤◌, ◌<◌, ◌<ℤ◌, ◌++◌, ◌∷◌, ◌+◌, ◌*◌, ◌/◌, ◌%◌, ◌^◌, inl, inr, ◌+ℤ◌, ◌-ℤ◌, nat_abs, ℕ, zero, ℤ, pos, Bool, true, false, List, [], length, Option, Some, None, Result, Ok, Err, FitsSigned, All, refl, ap, sym, ◌∙◌, subst, arith, nat_le}
use Rattle.std.specs.Int.{Width, w8, w16, w32, w64, cast_signed}
use mir.Val.{hbits}
use Rattle.std.proofs.lemmas.Bool.{cases_lt}
use Rattle.std.proofs.lemmas.Int.{ints, to_z-of_z}
use Rattle.std.proofs.lemmas.List.{length-append, length-reverse, reverse-reverse}
use Rattle.span_io.specs.declared.cause.Cause.{Cause}
use Rattle.span_io.specs.declared.cause.Cause.TheVariants as causes
use Rattle.span_io.specs.declared.cursor.Lack.{Lack}
use Rattle.span_io.specs.declared.cursor.Lack.TheVariants as lacks
use Rattle.span_io.specs.Frames.{IsProperFront}
use Rattle.span_io.specs.Varint.{SpellsWithin, SpellsVarint, IsOverlong, varint_text}
use Rattle.span_io.specs.Zigzag.{zigzag, SpellsZigzag, zigzag_text}
use Rattle.span_io.proofs.VarintFacts.{varint_laws, shortest_laws}
use Rattle.span_io.proofs.ZigzagFacts.{zigzag_small}
use Rattle.span_io.proofs.ShortestVarints.{one_byte}
use Rattle.thrift_core.specs.declared.field.Field.{Field}
use Rattle.thrift_core.specs.declared.field.ListHead.{ListHead}
use Rattle.thrift_core.specs.declared.field.MapHead.{MapHead}
use Rattle.thrift_core.specs.declared.type_code.TypeCode.{TypeCode}
use Rattle.thrift_core.specs.declared.type_code.TypeCode.TheVariants as kinds
use Rattle.thrift_core.specs.Levels.{RefusesPart, why_none}
use Rattle.thrift_core.proofs.Standing.{proper_none, proper_pair}
use Rattle.thrift_core.specs.Parts.{Part, header, truth, byte, short, int, long, eight, size, list_head, map_head, WordOf, HasLevel, texts_of}
use Rattle.thrift_core.proofs.JudgedSteps.{zeros, zeros_are_bytes}
use Rattle.thrift_core.specs.Protocols.{SpelledInBytes, PartLaws, HasBytes, WritesShortest, MayWrite, IsGiven, last_size}
use Rattle.thrift_spellings.specs.CompactTypeCodes.{compact_code_of, compact_kind_of_code, held_by_code, field_code}
use Rattle.thrift_spellings.specs.CompactSpelling.{compact_is_true, IsByte, IsSigned, IsCompactSize, HasCode, IsCompactHeader, IsListOf, IsCompactListHead, ArePairs, IsCompactMapHead, IsSignedRefused, is_near, field_id_text, list_head_text, compact_spells, compact_then_varint, compact_refuses, compact_keeps, compact_writes}
use Rattle.thrift_spellings.proofs.CompactFields.{field_fault}
use Rattle.thrift_spellings.proofs.CompactSizes.{compact_size_fault, any_size}
use Rattle.thrift_spellings.proofs.CompactExactly.{judges}
use Rattle.std.proofs.lemmas.List.Elements.{All-head, All-tail}

-- ---- varints

no_number : (n : ℕ) → SpellsVarint [] n → ⊥
unfolding SpellsVarint SpellsWithin
no_number n h = h

-- where a number is spelled, another isn't, and there is no number of too many bytes
one_number : (n m : ℕ) (text other tail more : List ℕ) → SpellsVarint text n → SpellsVarint other m → text ++ tail ≡ other ++ more → (n ≡ m) × (tail ≡ more)
one_number n m text other tail more h g e =
    let a : Result (ℕ × List ℕ) Lack = Ok (n, tail) in
    let b : Result (ℕ × List ℕ) Lack = Ok (m, more) in
    let same : a ≡ b = sym (varint_laws.read n (text ++ tail) tail (record { text = text; spelled = h; parts = refl })) ∙ varint_laws.read m (text ++ tail) more (record { text = other; spelled = g; parts = e }) in
    let p : ℕ × List ℕ = (n, tail) in
    let q : ℕ × List ℕ = (m, more) in
    let pairs : p ≡ q = cc in
    (ap (λ p. p.0) pairs, ap (λ p. p.1) pairs)

never_both : (n : ℕ) (text other tail more : List ℕ) → SpellsVarint text n → IsOverlong other → text ++ tail ≡ other ++ more → ⊥
never_both n text other tail more h g e =
    let a : Result (ℕ × List ℕ) Lack = Ok (n, tail) in
    let b : Result (ℕ × List ℕ) Lack = Err lacks.BadVarint in
    let same : a ≡ b = sym (varint_laws.read n (text ++ tail) tail (record { text = text; spelled = h; parts = refl })) ∙ (varint_laws.bad (text ++ tail)).1 (record { text = other; others = more; overlong = g; parts = e }) in
    cc

not_both : (n : ℕ) (text : List ℕ) → SpellsVarint text n → IsOverlong text → ⊥
not_both n text h g = never_both n text text [] [] h g refl

zero_text : (text : List ℕ) → text ≡ 0 ∷ [] → SpellsVarint text 0
zero_text text e = subst (λ l. SpellsVarint l 0) (one_byte 0 (omega arith) ∙ sym e) (shortest_laws.spelled 0 (omega arith))

spelled_zero : SpellsVarint (0 ∷ []) 0
spelled_zero = zero_text (0 ∷ []) refl

-- ---- what stands where

no_byte : {A : Type 0} (value : ℕ → A) (word : A) (text : List ℕ) → IsByte value word text → text ≢ []
no_byte value word text h e = subst (λ l. IsByte value word l) e h

has_text : (part : Part) (word : WordOf part) (text : List ℕ) → HasBytes part → compact_spells part word text → text ≢ []
has_text (header left last) None text has h e = subst (λ l. compact_spells (header left last) None l) e h
has_text (header left last) (Some f) text has h e = subst (λ l. compact_spells (header left last) (Some f) l) e h
has_text (truth (Some held)) word text has h e = has
has_text (truth None) word text has h e = no_byte compact_is_true word text h e
has_text byte word text has h e = no_byte (cast_signed w8) word text h e
has_text short word text has h e = no_number (zigzag word) (subst (λ l. SpellsVarint l (zigzag word)) e h.0)
has_text int word text has h e = no_number (zigzag word) (subst (λ l. SpellsVarint l (zigzag word)) e h.0)
has_text long word text has h e = no_number (zigzag word) (subst (λ l. SpellsVarint l (zigzag word)) e h)
has_text eight word text has h e = omega (arith, h.0, ap length e)
has_text size word text has h e = no_number word (subst (λ l. SpellsVarint l word) e h.0)
has_text (list_head left) word text has h e = subst (λ l. compact_spells (list_head left) word l) e h
has_text (map_head left) word text has h e =
    let none : length h.number ≡ 0 = omega (arith, ap length e, ap length h.parts, length-append h.number h.types) in
    no_number word.size (subst (λ l. SpellsVarint l word.size) (empty h.number none) h.its_size.0)
  where
    empty : (l : List ℕ) → length l ≡ 0 → l ≡ []
    empty [] e = refl
    empty (b ∷ l) e = absurd (omega (arith, e))

field_level : (left : ℕ) (last : ℤ) (f : Field) (text : List ℕ) → compact_spells (header left last) (Some f) text → HasLevel left f.kind
field_level left last f [] h = absurd h
field_level left last f (b ∷ []) h = h.0.2
field_level left last f (b ∷ c ∷ id) h = h.0.2

list_level : (left : ℕ) (head : ListHead) (text : List ℕ) → compact_spells (list_head left) head text → 1 ≤ head.size → (kind : TypeCode) × (head.element ≡ Some kind) × HasLevel left kind
list_level left head [] h some = absurd h
list_level left head (b ∷ []) h some = h.0.1 some
list_level left head (b ∷ c ∷ number) h some = h.0.1 some

pairs_level : (left : ℕ) (head : MapHead) (types : List ℕ) → ArePairs left head types → 1 ≤ head.size
    → (key : TypeCode) × (value : TypeCode) × (head.key ≡ Some key) × (head.value ≡ Some value) × HasLevel left key × HasLevel left value
pairs_level left head [] h some = absurd (omega (arith, h.0, some))
pairs_level left head (b ∷ []) h some = (h.3.0, h.4.0, h.3.1, h.4.1, h.3.2, h.4.2)
pairs_level left head (b ∷ c ∷ types) h some = absurd h

map_level : (left : ℕ) (head : MapHead) (text : List ℕ) → compact_spells (map_head left) head text → 1 ≤ head.size
    → (key : TypeCode) × (value : TypeCode) × (head.key ≡ Some key) × (head.value ≡ Some value) × HasLevel left key × HasLevel left value
map_level left head text h some = pairs_level left head h.types h.its_types some

-- ---- what can be spelled: zeros

fits_zero : (w : Width) → 0 < 2 ^ hbits w → FitsSigned w (pos 0)
fits_zero w some = record { sfits = some }

zero_short : IsSigned w16 (pos 0) (0 ∷ [])
zero_short = (spelled_zero, fits_zero w16 (omega arith))

zero_int : IsSigned w32 (pos 0) (0 ∷ [])
zero_int = (spelled_zero, fits_zero w32 (omega arith))

zero_size : IsCompactSize 0 (0 ∷ [])
zero_size = (spelled_zero, omega arith)

no_elements : (left code : ℕ) → IsListOf left (record { element = compact_kind_of_code code; size = 0 }) code
no_elements left code = (refl, λ some. absurd (omega (arith, some)))

no_pairs : (left : ℕ) → IsCompactMapHead left (record { key = None; value = None; size = 0 }) (0 ∷ [])
no_pairs left = record { number = 0 ∷ []; types = []; parts = refl; its_size = zero_size; its_types = (refl, refl, refl) }

-- as so many zeros
by_zeros : (part : Part) (word : WordOf part) (many : ℕ) → compact_spells part word (zeros many) → SpelledInBytes compact_spells part word
by_zeros part word many h = record { text = zeros many; are_bytes = zeros_are_bytes many; spelled = h }

empty_list : (left : ℕ) → SpelledInBytes compact_spells (list_head left) (record { element = compact_kind_of_code 0; size = 0 })
empty_list left = by_zeros (list_head left) (record { element = compact_kind_of_code 0; size = 0 }) 1 (no_elements left 0, refl, omega arith)

empty_map : (left : ℕ) → SpelledInBytes compact_spells (map_head left) (record { key = None; value = None; size = 0 })
empty_map left = by_zeros (map_head left) (record { key = None; value = None; size = 0 }) 1 (no_pairs left)

spellable : (part : Part) → (word : WordOf part) × SpelledInBytes compact_spells part word
spellable (header left last) = (None, by_zeros (header left last) None 1 tt)
spellable (truth (Some held)) = (held, by_zeros (truth (Some held)) held 0 (refl, refl))
spellable (truth None) = (false, by_zeros (truth None) false 1 refl)
spellable byte = (cast_signed w8 0, by_zeros byte (cast_signed w8 0) 1 refl)
spellable short = (pos 0, by_zeros short (pos 0) 1 zero_short)
spellable int = (pos 0, by_zeros int (pos 0) 1 zero_int)
spellable long = (pos 0, by_zeros long (pos 0) 1 spelled_zero)
spellable eight = (zeros 8, by_zeros eight (zeros 8) 8 (refl, refl))
spellable size = (0, by_zeros size 0 1 zero_size)
spellable (list_head left) = (record { element = compact_kind_of_code 0; size = 0 }, empty_list left)
spellable (map_head left) = (record { key = None; value = None; size = 0 }, empty_map left)

-- ---- the front of a part that a varint follows

abbrev Proper : Part → List ℕ → Type 0
Proper part front = IsProperFront (texts_of compact_spells compact_then_varint part) front

by_zero : (part : Part) (front : List ℕ) (word : WordOf part) → compact_spells part word (front ++ 0 ∷ []) → Proper part front
by_zero part front word h = record { more = zeros 1; are_bytes = zeros_are_bytes 1; some = λ e. cc; whole = (word, h) }

varint_front : (part : Part) (front : List ℕ) → compact_then_varint part front → Proper part front
varint_front (header left last) (b ∷ []) h =
    by_zero (header left last) (b ∷ []) (Some (record { id = pos 0; kind = h.0; held = held_by_code b })) ((h.1, refl, h.2), zero_short)
varint_front (list_head left) (b ∷ []) h =
    by_zero (list_head left) (b ∷ []) (record { element = compact_kind_of_code (b % 16); size = 0 }) (no_elements left (b % 16), h, zero_size)
varint_front short [] h = by_zero short [] (pos 0) zero_short
varint_front int [] h = by_zero int [] (pos 0) zero_int
varint_front long [] h = by_zero long [] (pos 0) spelled_zero
varint_front size [] h = by_zero size [] 0 zero_size
varint_front (map_head left) [] h = by_zero (map_head left) [] (record { key = None; value = None; size = 0 }) (no_pairs left)
varint_front part front h = absurd h

-- ---- what a part is refused for

signed_refused_by : (w : Width) (outside cause : Cause) (text : List ℕ) → RefusesPart outside → IsSignedRefused w outside cause text → RefusesPart cause
signed_refused_by w outside cause text known (inl h) = subst RefusesPart (sym h.0) (omega arith)
signed_refused_by w outside cause text known (inr h) = subst RefusesPart (sym h.0) known

pub compact_refused_by : (part : Part) (text : List ℕ) (cause : Cause) → compact_refuses part cause text → RefusesPart cause
compact_refused_by (header left last) [] cause h = absurd h
compact_refused_by (header left last) (b ∷ []) cause h = field_fault left last b cause h.1.0
compact_refused_by (header left last) (b ∷ c ∷ id) cause h = signed_refused_by w16 causes.BadWire cause (c ∷ id) (omega arith) h
compact_refused_by short text cause h = signed_refused_by w16 causes.BadVarint cause text (omega arith) h
compact_refused_by int text cause h = signed_refused_by w32 causes.BadVarint cause text (omega arith) h
compact_refused_by long text cause h = subst RefusesPart (sym h.0) (omega arith)
compact_refused_by size text cause h = compact_size_fault None any_size text cause h.0
compact_refused_by (list_head left) [] cause h = absurd h
compact_refused_by (list_head left) (b ∷ []) cause h = proper_none left (compact_kind_of_code (b % 16)) cause h.2
compact_refused_by (list_head left) (b ∷ c ∷ number) cause h =
    compact_size_fault (why_none left (compact_kind_of_code (b % 16))) (proper_none left (compact_kind_of_code (b % 16))) (c ∷ number) cause h.0
compact_refused_by (map_head left) text cause (inl h) = compact_size_fault None any_size text cause h.0
compact_refused_by (map_head left) text cause (inr h) =
    proper_pair left (compact_kind_of_code (h.types / 16)) (compact_kind_of_code (h.types % 16)) cause h.why
compact_refused_by other text cause h = absurd h

pub compact_part_laws : PartLaws compact_spells compact_then_varint compact_refuses
compact_part_laws = record {
  some = has_text;
  field_level = field_level;
  list_level = list_level;
  map_level = map_level;
  varint_front = varint_front;
  refused_by = compact_refused_by;
  one_cause = λ part text a b closed h g. (judges part).one_cause text a b h g;
  spellable = spellable;
  stop = λ left last. by_zeros (header left last) None 1 tt;
  no_bytes = by_zeros size 0 1 zero_size;
  empty_list = λ left. (record { element = compact_kind_of_code 0; size = 0 }, empty_list left, refl);
  empty_map = λ left. (record { key = None; value = None; size = 0 }, empty_map left, refl);
}

-- ---- writing

-- ---- codes

pub compact_code_known : (kind : TypeCode) → compact_kind_of_code (compact_code_of kind) ≡ Some kind
unfolding compact_kind_of_code
compact_code_known kinds.Truth = refl
compact_code_known kinds.I8 = refl
compact_code_known kinds.I16 = refl
compact_code_known kinds.I32 = refl
compact_code_known kinds.I64 = refl
compact_code_known kinds.Eight = refl
compact_code_known kinds.Binary = refl
compact_code_known kinds.List = refl
compact_code_known kinds.Set = refl
compact_code_known kinds.Map = refl
compact_code_known kinds.Struct = refl

pub code_small : (kind : TypeCode) → (1 ≤ compact_code_of kind) × (compact_code_of kind ≤ 12)
code_small kinds.Truth = (omega arith, omega arith)
code_small kinds.I8 = (omega arith, omega arith)
code_small kinds.I16 = (omega arith, omega arith)
code_small kinds.I32 = (omega arith, omega arith)
code_small kinds.I64 = (omega arith, omega arith)
code_small kinds.Eight = (omega arith, omega arith)
code_small kinds.Binary = (omega arith, omega arith)
code_small kinds.List = (omega arith, omega arith)
code_small kinds.Set = (omega arith, omega arith)
code_small kinds.Map = (omega arith, omega arith)
code_small kinds.Struct = (omega arith, omega arith)

-- the code of a field says its type and its truth value
abbrev Says : TypeCode → Option Bool → ℕ → Type 0
Says kind held code = (compact_kind_of_code code ≡ Some kind) × (held_by_code code ≡ held) × (1 ≤ code) × (code ≤ 12)

holds_none : (kind : TypeCode) → IsGiven kind None → held_by_code (compact_code_of kind) ≡ None
unfolding held_by_code
holds_none kinds.Truth h = absurd h
holds_none kinds.I8 h = refl
holds_none kinds.I16 h = refl
holds_none kinds.I32 h = refl
holds_none kinds.I64 h = refl
holds_none kinds.Eight h = refl
holds_none kinds.Binary h = refl
holds_none kinds.List h = refl
holds_none kinds.Set h = refl
holds_none kinds.Map h = refl
holds_none kinds.Struct h = refl

code_says : (kind : TypeCode) (given : Option Bool) → IsGiven kind given → Says kind given (field_code kind given)
unfolding compact_kind_of_code held_by_code
code_says kind None h = (compact_code_known kind, holds_none kind h, (code_small kind).0, (code_small kind).1)
code_says kinds.Truth (Some true) h = (refl, refl, omega arith, omega arith)
code_says kinds.Truth (Some false) h = (refl, refl, omega arith, omega arith)
code_says other (Some b) h = absurd h

-- ---- heads of fields

near_is : (last id : ℤ) → last <ℤ id → nat_abs (id -ℤ last) < 16 → is_near last id ≡ true
near_is last id rises less = grind (arith, ints)

far_is : (last id : ℤ) → last <ℤ id → 16 ≤ nat_abs (id -ℤ last) → is_near last id ≡ false
far_is last id rises most = grind (arith, ints)

pub near_text : (last id : ℤ) (code : ℕ) → last <ℤ id → nat_abs (id -ℤ last) < 16 → field_id_text last id code ≡ (nat_abs (id -ℤ last) * 16 + code) ∷ []
near_text last id code rises less = rw (near_is last id rises less) refl

pub far_text : (last id : ℤ) (code : ℕ) → last <ℤ id → 16 ≤ nat_abs (id -ℤ last) → field_id_text last id code ≡ code ∷ zigzag_text id
far_text last id code rises most = rw (far_is last id rises most) refl

raised : (last id : ℤ) → last <ℤ id → id ≡ last +ℤ pos (nat_abs (id -ℤ last))
raised last id rises = grind (arith, ints)

some_higher : (last id : ℤ) → last <ℤ id → 1 ≤ nat_abs (id -ℤ last)
some_higher last id rises = grind (arith, ints)

near_spelled : (left : ℕ) (last : ℤ) (f : Field) (difference code : ℕ) → Says f.kind f.held code → HasLevel left f.kind → FitsSigned w16 f.id → 1 ≤ difference → f.id ≡ last +ℤ pos difference
    → IsCompactHeader left last (Some f) ((difference * 16 + code) ∷ [])
near_spelled left last f difference code says level fits some higher =
    let low : (difference * 16 + code) % 16 ≡ code = omega (arith, says.3) in
    let high : (difference * 16 + code) / 16 ≡ difference = omega (arith, says.3) in
    rw (low, high) ((says.0, says.1, level), some, higher, fits)

far_spelled : (left : ℕ) (last : ℤ) (f : Field) (code : ℕ) (id : List ℕ) → HasCode left f code → IsSigned w16 f.id id → IsCompactHeader left last (Some f) (code ∷ id)
far_spelled left last f code [] h s = absurd (no_number (zigzag f.id) s.0)
far_spelled left last f code (c ∷ id) h s = (h, s)

signed_spelled : (z : ℤ) → FitsSigned w64 z → SpellsZigzag (zigzag_text z) z
signed_spelled z fits = shortest_laws.spelled (zigzag z) (zigzag_small z fits)

wider_16 : (z : ℤ) → FitsSigned w16 z → FitsSigned w64 z
wider_16 z fits = record { sfits = omega (arith, fits.sfits) }

wider_32 : (z : ℤ) → FitsSigned w32 z → FitsSigned w64 z
wider_32 z fits = record { sfits = omega (arith, fits.sfits) }

header_spelled : (left : ℕ) (last : ℤ) (f : Field) (given : Option Bool) → last <ℤ f.id → FitsSigned w16 f.id → HasLevel left f.kind → IsGiven f.kind given → f.held ≡ given
    → IsCompactHeader left last (Some f) (field_id_text last f.id (field_code f.kind f.held))
header_spelled left last f given rises fits level is held =
    let code = field_code f.kind f.held in
    let says : Says f.kind f.held code = subst (λ h. Says f.kind h (field_code f.kind h)) (sym held) (code_says f.kind given is) in
    elim (cases_lt (nat_abs (f.id -ℤ last)) 16) [
      | inl less ↦ subst (λ l. IsCompactHeader left last (Some f) l) (sym (near_text last f.id code rises less))
          (near_spelled left last f (nat_abs (f.id -ℤ last)) code says level fits (some_higher last f.id rises) (raised last f.id rises))
      | inr most ↦ subst (λ l. IsCompactHeader left last (Some f) l) (sym (far_text last f.id code rises most))
          (far_spelled left last f code (zigzag_text f.id) (says.0, says.1, level) (signed_spelled f.id (wider_16 f.id fits), fits))
    ]

-- ---- heads of lists

few_is : (n : ℕ) → n < 15 → nat_le n 14 ≡ true
few_is n less = grind arith

many_is : (n : ℕ) → 15 ≤ n → nat_le n 14 ≡ false
many_is n most = grind arith

pub short_list : (head : ListHead) (kind : TypeCode) → head.element ≡ Some kind → head.size < 15 → list_head_text head ≡ (head.size * 16 + compact_code_of kind) ∷ []
short_list head kind e less = rw (few_is head.size less, e) refl

pub long_list : (head : ListHead) (kind : TypeCode) → head.element ≡ Some kind → 15 ≤ head.size → list_head_text head ≡ (240 + compact_code_of kind) ∷ varint_text head.size
long_list head kind e most = rw (many_is head.size most, e) refl

short_spelled : (left : ℕ) (head : ListHead) (code : ℕ) → code ≤ 12 → IsListOf left head code → head.size < 15 → IsCompactListHead left head ((head.size * 16 + code) ∷ [])
short_spelled left head code small is less =
    let low : (head.size * 16 + code) % 16 ≡ code = omega (arith, small) in
    let high : (head.size * 16 + code) / 16 ≡ head.size = omega (arith, small) in
    rw (low, high) (is, refl, less)

long_spelled : (left : ℕ) (head : ListHead) (code : ℕ) (number : List ℕ) → code ≤ 12 → IsListOf left head code → IsCompactSize head.size number → IsCompactListHead left head ((240 + code) ∷ number)
long_spelled left head code [] small is n = absurd (no_number head.size n.0)
long_spelled left head code (c ∷ number) small is n =
    let low : (240 + code) % 16 ≡ code = omega (arith, small) in
    rw low (is, omega (arith, small), n)

size_spelled : (n : ℕ) → n ≤ last_size → IsCompactSize n (varint_text n)
size_spelled n small = (shortest_laws.spelled n (omega (arith, small)), small)

list_spelled : (left : ℕ) (head : ListHead) (kind : TypeCode) → head.element ≡ Some kind → head.size ≤ last_size → (1 ≤ head.size → HasLevel left kind) → IsCompactListHead left head (list_head_text head)
list_spelled left head kind e small level =
    let is : IsListOf left head (compact_code_of kind) = (e ∙ sym (compact_code_known kind), λ some. (kind, e, level some)) in
    elim (cases_lt head.size 15) [
      | inl less ↦ subst (λ l. IsCompactListHead left head l) (sym (short_list head kind e less)) (short_spelled left head (compact_code_of kind) (code_small kind).1 is less)
      | inr most ↦ subst (λ l. IsCompactListHead left head l) (sym (long_list head kind e most)) (long_spelled left head (compact_code_of kind) (varint_text head.size) (code_small kind).1 is (size_spelled head.size small))
    ]

-- ---- all parts

spelled : (part : Part) (word : WordOf part) → MayWrite compact_keeps part word → compact_spells part word (compact_writes part word)
spelled (header left last) None h = tt
spelled (header left last) (Some f) h = header_spelled left last f h.3 h.0 h.1 h.2 h.4 h.5
spelled (truth (Some held)) word h = (let same : held ≡ word = cc in sym same, refl)
spelled (truth None) word h = absurd cc
spelled byte word h = sym (to_z-of_z w8 word h)
spelled short word h = (signed_spelled word (wider_16 word h), h)
spelled int word h = (signed_spelled word (wider_32 word h), h)
spelled long word h = signed_spelled word h
spelled eight word h = (length-reverse word ∙ h.0, sym (reverse-reverse word))
spelled size word h = size_spelled word h
spelled (list_head left) word h = list_spelled left word h.0 h.1 h.2 h.3
spelled (map_head left) word h = absurd h

-- ---- none is shorter

abbrev Bytes : List ℕ → Type 0
Bytes text = All (λ b. b < 256) text

near_only : (last id : ℤ) (b : ℕ) → b < 256 → id ≡ last +ℤ pos (b / 16) → nat_abs (id -ℤ last) < 16
near_only last id b low e = grind (arith, ints)

far_shortest : (left : ℕ) (last : ℤ) (f : Field) (code : ℕ) (text : List ℕ) → 16 ≤ nat_abs (f.id -ℤ last) → Bytes text → IsCompactHeader left last (Some f) text → length (code ∷ zigzag_text f.id) ≤ length text
far_shortest left last f code [] most bytes h = absurd h
far_shortest left last f code (b ∷ []) most bytes h = absurd (omega (arith, most, near_only last f.id b (All-head (λ (x : ℕ). x < 256) b [] bytes) h.2))
far_shortest left last f code (b ∷ c ∷ id) most bytes h =
    omega (arith, shortest_laws.shortest (zigzag f.id) (c ∷ id) (All-tail (λ (x : ℕ). x < 256) b (c ∷ id) bytes) h.1.0)

some_header : (left : ℕ) (last : ℤ) (f : Field) (text : List ℕ) → IsCompactHeader left last (Some f) text → 1 ≤ length text
some_header left last f [] h = absurd h
some_header left last f (b ∷ text) h = omega arith

header_shortest : (left : ℕ) (last : ℤ) (f : Field) (code : ℕ) (text : List ℕ) → last <ℤ f.id → Bytes text → IsCompactHeader left last (Some f) text → length (field_id_text last f.id code) ≤ length text
header_shortest left last f code text rises bytes h =
    elim (cases_lt (nat_abs (f.id -ℤ last)) 16) [
      | inl less ↦ rw (near_text last f.id code rises less) (some_header left last f text h)
      | inr most ↦ rw (far_text last f.id code rises most) (far_shortest left last f code text most bytes h)
    ]

long_shortest : (left : ℕ) (head : ListHead) (code : ℕ) (text : List ℕ) → 15 ≤ head.size → Bytes text → IsCompactListHead left head text → length (code ∷ varint_text head.size) ≤ length text
long_shortest left head code [] most bytes h = absurd h
long_shortest left head code (b ∷ []) most bytes h = absurd (omega (arith, most, h.2))
long_shortest left head code (b ∷ c ∷ number) most bytes h =
    omega (arith, shortest_laws.shortest head.size (c ∷ number) (All-tail (λ (x : ℕ). x < 256) b (c ∷ number) bytes) h.2.0)

some_list : (left : ℕ) (head : ListHead) (text : List ℕ) → IsCompactListHead left head text → 1 ≤ length text
some_list left head [] h = absurd h
some_list left head (b ∷ text) h = omega arith

list_shortest : (left : ℕ) (head : ListHead) (kind : TypeCode) (text : List ℕ) → head.element ≡ Some kind → Bytes text → IsCompactListHead left head text → length (list_head_text head) ≤ length text
list_shortest left head kind text e bytes h =
    elim (cases_lt head.size 15) [
      | inl less ↦ rw (short_list head kind e less) (some_list left head text h)
      | inr most ↦ rw (long_list head kind e most) (long_shortest left head (240 + compact_code_of kind) text most bytes h)
    ]

shortest : (part : Part) (word : WordOf part) (text : List ℕ) → MayWrite compact_keeps part word → Bytes text → compact_spells part word text → length (compact_writes part word) ≤ length text
shortest (header left last) None (zero ∷ []) may bytes h = omega arith
shortest (header left last) None other may bytes h = absurd h
shortest (header left last) (Some f) text may bytes h = header_shortest left last f (field_code f.kind f.held) text may.0 bytes h
shortest (truth (Some held)) word text may bytes h = omega arith
shortest (truth None) word text may bytes h = absurd cc
shortest byte word (b ∷ []) may bytes h = omega arith
shortest byte word other may bytes h = absurd h
shortest short word text may bytes h = shortest_laws.shortest (zigzag word) text bytes h.0
shortest int word text may bytes h = shortest_laws.shortest (zigzag word) text bytes h.0
shortest long word text may bytes h = shortest_laws.shortest (zigzag word) text bytes h
shortest eight word text may bytes h = omega (arith, length-reverse word, may.0, h.0)
shortest size word text may bytes h = shortest_laws.shortest word text bytes h.0
shortest (list_head left) word text may bytes h = list_shortest left word may.0 text may.1 bytes h
shortest (map_head left) word text may bytes h = absurd may

pub compact_writes_shortest : WritesShortest compact_spells compact_keeps compact_writes
compact_writes_shortest = record { spelled = spelled; shortest = shortest }
