-- What the binary protocol keeps: how its parts are read, refused, completed and written.
use Rattle.std.proofs.Common.{◌≡◌, ◌≢◌, ◌≤◌, ◌<◌, ◌++◌, ◌∷◌, ℕ, zero, ℤ, Bool, true, false, List, [], length, Option, Some, None, Result, Ok, Err, FitsSigned, refl, ap, sym, ◌∙◌, subst, arith}
use Rattle.std.specs.Int.{w8, w16, w32, w64, from_be_bytes, to_be_bytes, cast_signed, cast_unsigned}
use Rattle.std.proofs.Math.Facts.{Fits-of_z}
use Rattle.std.proofs.lemmas.Int.{to_z-of_z}
use Rattle.std.proofs.lemmas.Nat.{from_be_bytes-to_be_bytes_2, from_be_bytes-to_be_bytes_4, from_be_bytes-to_be_bytes_8}
use Rattle.span_io.specs.declared.cause.Cause.{Cause}
use Rattle.thrift_core.specs.declared.field.Field.{Field}
use Rattle.thrift_core.specs.declared.field.ListHead.{ListHead}
use Rattle.thrift_core.specs.declared.field.MapHead.{MapHead}
use Rattle.thrift_core.specs.declared.type_code.TypeCode.{TypeCode}
use Rattle.thrift_core.specs.declared.type_code.TypeCode.TheVariants as kinds
use Rattle.thrift_core.specs.Parts.{Part, header, truth, byte, short, int, long, eight, size, list_head, map_head, WordOf, Begins, HasLevel}
use Rattle.thrift_core.specs.Levels.{RefusesPart, why_none, why_no_pair}
use Rattle.thrift_core.proofs.Standing.{IsProperWhy, proper_none, proper_pair}
use Rattle.thrift_core.specs.Protocols.{ReadsExactly, SpelledInBytes, PartLaws, HasBytes, WritesShortest, MayWrite, last_size}
use Rattle.thrift_spellings.specs.BinaryTypeCodes.{binary_code_of, kind_among, binary_kind_of_code}
use Rattle.thrift_spellings.specs.BinarySpelling.{signed, signed_text, binary_is_true, as_they_are, IsFixed, IsBinarySize, IsBinarySizeRefused, binary_spells, binary_then_varint, binary_refuses, binary_keeps, binary_writes}
use Rattle.thrift_core.specs.Reading.{◌>>=◌}
use Rattle.thrift_spellings.specs.BinaryReading.{binary_reads, binary_size_at}
use Rattle.thrift_core.proofs.Judged.{Judged, found, JudgesReading, reads_found, reads_only, reads_short, reads_bad, reads_cause}
use Rattle.thrift_core.proofs.JudgedSteps.{zeros, zeros_are_bytes, fixed_judges, judged_as}
use Rattle.thrift_spellings.proofs.BinaryBytes.{NoVarint, BinarySized, binary_size_fault, binary_size_judges, one_size}
use Rattle.thrift_spellings.proofs.BinaryHeads.{binary_list_judges, binary_map_judges, binary_header_judges}

-- ---- each part is judged

abbrev JudgesPart : Part → Type 0
JudgesPart part = JudgesReading (WordOf part) (λ word text. binary_spells part word text) (λ front. binary_then_varint part front) (λ cause front. binary_refuses part cause front) (λ bytes. binary_reads part bytes)

held_judges : (held : Bool) → JudgesPart (truth (Some held))
held_judges held = record {
  judged = λ bytes. found held [] bytes (refl, refl) refl refl;
  one = λ w v text other tail more h g e. (h.0 ∙ sym g.0, ap (λ l. l ++ tail) (sym h.1) ∙ e ∙ ap (λ l. l ++ more) g.1);
  ended = λ word text h rest front inside v i e. v;
  one_cause = λ front a b h g. absurd h;
}

same_read : (read : Result (ℕ × List ℕ) Cause) → (read >>= λ x. Ok (x.0, x.1)) ≡ read
same_read (Ok x) = refl
same_read (Err cause) = refl

-- the number of a binary's bytes may be any
length_judges : JudgesPart size
length_judges =
    let laws = binary_size_judges None (λ cause e. cc) in
    record {
      judged = λ bytes. subst (λ read. Judged ℕ (λ n text. IsBinarySize n text) NoVarint (IsBinarySizeRefused None) bytes read) (same_read (binary_size_at None bytes))
          (judged_as ℕ ℕ (BinarySized None) (λ n text. IsBinarySize n text) NoVarint NoVarint (IsBinarySizeRefused None) (IsBinarySizeRefused None) (λ n. n) (λ n text h. h.0) (λ n text h. (n, (h, λ some. refl))) (λ front v. v) (λ front v. v) (λ cause front h. h) bytes (binary_size_at None bytes) (laws.judged bytes));
      one = λ w v text other tail more h g e. one_size w v text other tail more h g e;
      ended = λ n text h rest front inside v i e. v;
      one_cause = laws.one_cause;
    }

judges : (part : Part) → JudgesPart part
judges (header left last) = binary_header_judges left
judges (truth (Some held)) = held_judges held
judges (truth None) = fixed_judges Bool 1 binary_is_true (λ front. ⊥) (λ front v. v)
judges byte = fixed_judges ℤ 1 (signed w8) (λ front. ⊥) (λ front v. v)
judges short = fixed_judges ℤ 2 (signed w16) (λ front. ⊥) (λ front v. v)
judges int = fixed_judges ℤ 4 (signed w32) (λ front. ⊥) (λ front v. v)
judges long = fixed_judges ℤ 8 (signed w64) (λ front. ⊥) (λ front v. v)
judges eight = fixed_judges (List ℕ) 8 as_they_are (λ front. ⊥) (λ front v. v)
judges size = length_judges
judges (list_head left) = binary_list_judges left
judges (map_head left) = binary_map_judges left

-- ---- what a part is refused for

size_refused_by : (why : Option Cause) (front : List ℕ) (cause : Cause) → IsProperWhy why → IsBinarySizeRefused why cause front → RefusesPart cause
size_refused_by why front cause known h = binary_size_fault why known front cause h.0

refused_by : (part : Part) (front : List ℕ) (cause : Cause) → binary_refuses part cause front → RefusesPart cause
refused_by (header left last) [] cause h = absurd h
refused_by (header left last) (code ∷ []) cause h = proper_none left (binary_kind_of_code code) cause h.1
refused_by (header left last) (code ∷ b ∷ front) cause h = absurd h
refused_by size front cause h = size_refused_by None front cause (λ c e. cc) h
refused_by (list_head left) [] cause h = absurd h
refused_by (list_head left) (code ∷ number) cause h =
    size_refused_by (why_none left (binary_kind_of_code code)) number cause (proper_none left (binary_kind_of_code code)) h
refused_by (map_head left) [] cause h = absurd h
refused_by (map_head left) (key ∷ []) cause h = absurd h
refused_by (map_head left) (key ∷ value ∷ number) cause h =
    size_refused_by (why_no_pair left (binary_kind_of_code key) (binary_kind_of_code value)) number cause (proper_pair left (binary_kind_of_code key) (binary_kind_of_code value)) h
refused_by other front cause h = absurd h

-- ---- readers

begun : (part : Part) (word : WordOf part) (bytes rest : List ℕ) → (text : List ℕ) × binary_spells part word text × (bytes ≡ text ++ rest) → Begins binary_spells part word bytes rest
begun part word bytes rest h = record { text = h.0; spelled = h.1; parts = h.2 }

abbrev S : (part : Part) → WordOf part → List ℕ → Type 0
S part word text = binary_spells part word text

abbrev V : Part → List ℕ → Type 0
V part front = binary_then_varint part front

abbrev R : Part → Cause → List ℕ → Type 0
R part cause front = binary_refuses part cause front

pub binary_reads_exactly : ReadsExactly binary_spells binary_reads binary_then_varint binary_refuses
binary_reads_exactly = record {
  found = λ part word bytes rest e. begun part word bytes rest (reads_found (WordOf part) (S part) (V part) (R part) (binary_reads part) (judges part) word bytes rest e);
  only = λ part word bytes rest h. reads_only (WordOf part) (S part) (V part) (R part) (binary_reads part) (judges part) word h.text bytes rest h.spelled h.parts;
  short = λ part bytes. reads_short (WordOf part) (S part) (V part) (R part) (binary_reads part) (judges part) bytes;
  bad = λ part bytes cause other. reads_bad (WordOf part) (S part) (V part) (R part) (binary_reads part) (judges part) bytes cause other;
  refused_for = λ part bytes cause. reads_cause (WordOf part) (S part) (V part) (R part) (binary_reads part) (judges part) bytes cause;
}

-- ---- what stands where

no_text : (A : Type 0) (many : ℕ) (value : List ℕ → A) (word : A) (text : List ℕ) → 1 ≤ many → IsFixed A many value word text → text ≢ []
no_text A many value word text some h e = omega (arith, h.0, ap length e, some)

has_text : (part : Part) (word : WordOf part) (text : List ℕ) → HasBytes part → binary_spells part word text → text ≢ []
has_text (header left last) None text has h e = subst (λ l. binary_spells (header left last) None l) e h
has_text (header left last) (Some f) text has h e = subst (λ l. binary_spells (header left last) (Some f) l) e h
has_text (truth (Some held)) word text has h e = has
has_text (truth None) word text has h e = no_text Bool 1 binary_is_true word text (omega arith) h e
has_text byte word text has h e = no_text ℤ 1 (signed w8) word text (omega arith) h e
has_text short word text has h e = no_text ℤ 2 (signed w16) word text (omega arith) h e
has_text int word text has h e = no_text ℤ 4 (signed w32) word text (omega arith) h e
has_text long word text has h e = no_text ℤ 8 (signed w64) word text (omega arith) h e
has_text eight word text has h e = no_text (List ℕ) 8 as_they_are word text (omega arith) h e
has_text size word text has h e = subst (λ l. binary_spells size word l) e h
has_text (list_head left) word text has h e = subst (λ l. binary_spells (list_head left) word l) e h
has_text (map_head left) word text has h e = subst (λ l. binary_spells (map_head left) word l) e h

field_level : (left : ℕ) (last : ℤ) (f : Field) (text : List ℕ) → binary_spells (header left last) (Some f) text → HasLevel left f.kind
field_level left last f (code ∷ id) h = h.1
field_level left last f [] h = absurd h

list_level : (left : ℕ) (head : ListHead) (text : List ℕ) → binary_spells (list_head left) head text → 1 ≤ head.size → (kind : TypeCode) × (head.element ≡ Some kind) × HasLevel left kind
list_level left head (code ∷ number) h some = h.2 some
list_level left head [] h some = absurd h

map_level : (left : ℕ) (head : MapHead) (text : List ℕ) → binary_spells (map_head left) head text → 1 ≤ head.size
    → (key : TypeCode) × (value : TypeCode) × (head.key ≡ Some key) × (head.value ≡ Some value) × HasLevel left key × HasLevel left value
map_level left head (key ∷ value ∷ number) h some = (let both = h.3 some in (both.0.0, both.1.0, both.0.1, both.1.1, both.0.2, both.1.2))
map_level left head other h some = absurd h

-- a part can be spelled with zeros
by_zeros : (part : Part) (word : WordOf part) (many : ℕ) → binary_spells part word (zeros many) → SpelledInBytes binary_spells part word
by_zeros part word many h = record { text = zeros many; are_bytes = zeros_are_bytes many; spelled = h }

no_bytes : SpelledInBytes binary_spells size 0
no_bytes = by_zeros size 0 4 (omega arith, refl)

abbrev no_elements : ListHead
no_elements = record { element = binary_kind_of_code 0; size = 0 }

empty_list : (left : ℕ) → SpelledInBytes binary_spells (list_head left) no_elements
empty_list left = by_zeros (list_head left) no_elements 5 (refl, (omega arith, refl), λ some. absurd (omega (arith, some)))

abbrev no_pairs : MapHead
no_pairs = record { key = binary_kind_of_code 0; value = binary_kind_of_code 0; size = 0 }

empty_map : (left : ℕ) → SpelledInBytes binary_spells (map_head left) no_pairs
empty_map left = by_zeros (map_head left) no_pairs 6 (refl, refl, (omega arith, refl), λ some. absurd (omega (arith, some)))

spellable : (part : Part) → (word : WordOf part) × SpelledInBytes binary_spells part word
spellable (header left last) = (None, by_zeros (header left last) None 1 tt)
spellable (truth (Some held)) = (held, by_zeros (truth (Some held)) held 0 (refl, refl))
spellable (truth None) = (false, by_zeros (truth None) false 1 (refl, refl))
spellable byte = (signed w8 (zeros 1), by_zeros byte (signed w8 (zeros 1)) 1 (refl, refl))
spellable short = (signed w16 (zeros 2), by_zeros short (signed w16 (zeros 2)) 2 (refl, refl))
spellable int = (signed w32 (zeros 4), by_zeros int (signed w32 (zeros 4)) 4 (refl, refl))
spellable long = (signed w64 (zeros 8), by_zeros long (signed w64 (zeros 8)) 8 (refl, refl))
spellable eight = (zeros 8, by_zeros eight (zeros 8) 8 (refl, refl))
spellable size = (0, no_bytes)
spellable (list_head left) = (no_elements, empty_list left)
spellable (map_head left) = (no_pairs, empty_map left)

pub binary_part_laws : PartLaws binary_spells binary_then_varint binary_refuses
binary_part_laws = record {
  some = has_text;
  field_level = field_level;
  list_level = list_level;
  map_level = map_level;
  varint_front = λ part front h. absurd h;
  refused_by = refused_by;
  one_cause = λ part bytes a b closed h g. (judges part).one_cause bytes a b h g;
  spellable = spellable;
  stop = λ left last. by_zeros (header left last) None 1 tt;
  no_bytes = no_bytes;
  empty_list = λ left. (no_elements, empty_list left, refl);
  empty_map = λ left. (no_pairs, empty_map left, refl);
}

-- ---- writing

fixed_written : (A : Type 0) (many : ℕ) (value : List ℕ → A) (word : A) (text : List ℕ) → IsFixed A many value word text → length text ≡ many
fixed_written A many value word text h = h.0

pub binary_code_known : (kind : TypeCode) → binary_kind_of_code (binary_code_of kind) ≡ Some kind
unfolding binary_kind_of_code kind_among
binary_code_known kinds.Truth = refl
binary_code_known kinds.I8 = refl
binary_code_known kinds.Eight = refl
binary_code_known kinds.I16 = refl
binary_code_known kinds.I32 = refl
binary_code_known kinds.I64 = refl
binary_code_known kinds.Binary = refl
binary_code_known kinds.Struct = refl
binary_code_known kinds.Map = refl
binary_code_known kinds.Set = refl
binary_code_known kinds.List = refl

signed_8 : (n : ℤ) → FitsSigned w8 n → IsFixed ℤ 1 (signed w8) n (signed_text w8 n)
signed_8 n fits =
    let m = cast_unsigned w8 n in
    let small : m < 256 = (Fits-of_z fits).fits in
    let back : from_be_bytes w8 (to_be_bytes w8 m) ≡ m = omega (arith, small) in
    (refl, sym (ap (λ x. cast_signed w8 x) back ∙ to_z-of_z w8 n fits))

signed_16 : (n : ℤ) → FitsSigned w16 n → IsFixed ℤ 2 (signed w16) n (signed_text w16 n)
signed_16 n fits =
    let back = from_be_bytes-to_be_bytes_2 (cast_unsigned w16 n) (Fits-of_z fits).fits in
    (refl, sym (ap (λ x. cast_signed w16 x) back ∙ to_z-of_z w16 n fits))

signed_32 : (n : ℤ) → FitsSigned w32 n → IsFixed ℤ 4 (signed w32) n (signed_text w32 n)
signed_32 n fits =
    let back = from_be_bytes-to_be_bytes_4 (cast_unsigned w32 n) (Fits-of_z fits).fits in
    (refl, sym (ap (λ x. cast_signed w32 x) back ∙ to_z-of_z w32 n fits))

signed_64 : (n : ℤ) → FitsSigned w64 n → IsFixed ℤ 8 (signed w64) n (signed_text w64 n)
signed_64 n fits =
    let back = from_be_bytes-to_be_bytes_8 (cast_unsigned w64 n) (Fits-of_z fits).fits in
    (refl, sym (ap (λ x. cast_signed w64 x) back ∙ to_z-of_z w64 n fits))

size_written : (n : ℕ) → n ≤ last_size → IsBinarySize n (to_be_bytes w32 n)
size_written n small = (omega (arith, small), sym (from_be_bytes-to_be_bytes_4 n (omega (arith, small))))

spelled : (part : Part) (word : WordOf part) → MayWrite binary_keeps part word → binary_spells part word (binary_writes part word)
spelled (header left last) None h = tt
spelled (header left last) (Some f) h = (binary_code_known f.kind, h.2, signed_16 f.id h.1, h.5)
spelled (truth (Some held)) word h = absurd cc
spelled (truth None) true h = (refl, refl)
spelled (truth None) false h = (refl, refl)
spelled byte word h = signed_8 word h
spelled short word h = signed_16 word h
spelled int word h = signed_32 word h
spelled long word h = signed_64 word h
spelled eight word h = (h.0, refl)
spelled size word h = size_written word h
spelled (list_head left) word h = (rw h.1 (sym (binary_code_known h.0)), size_written word.size h.2, λ some. (h.0, h.1, h.3 some))
spelled (map_head left) word h = absurd h

pub size_length : (n : ℕ) (text : List ℕ) → IsBinarySize n text → length text ≡ 4
size_length n (a ∷ b ∷ c ∷ d ∷ []) h = refl
size_length n other h = absurd h

shortest : (part : Part) (word : WordOf part) (text : List ℕ) → MayWrite binary_keeps part word → binary_spells part word text → length (binary_writes part word) ≤ length text
shortest (header left last) None (zero ∷ []) may h = omega arith
shortest (header left last) None other may h = absurd h
shortest (header left last) (Some f) (code ∷ id) may h = omega (arith, h.2.0)
shortest (header left last) (Some f) [] may h = absurd h
shortest (truth (Some held)) word text may h = omega arith
shortest (truth None) word text may h = omega (arith, h.0)
shortest byte word text may h = omega (arith, h.0)
shortest short word text may h = omega (arith, h.0)
shortest int word text may h = omega (arith, h.0)
shortest long word text may h = omega (arith, h.0)
shortest eight word text may h = omega (arith, h.0, may.0)
shortest size word text may h = omega (arith, size_length word text h)
shortest (list_head left) word (code ∷ number) may h = omega (arith, size_length word.size number h.1)
shortest (list_head left) word [] may h = absurd h
shortest (map_head left) word text may h = absurd may

pub binary_writes_shortest : WritesShortest binary_spells binary_keeps binary_writes
binary_writes_shortest = record { spelled = spelled; shortest = λ part word text may bytes h. shortest part word text may h }
