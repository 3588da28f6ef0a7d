-- The readers of the compact protocol are exact: each answers a word where a spelling of it stands, Truncated where the bytes are open, and
-- else the cause that compact_refuses them.
use Rattle.std.proofs.Common.{◌≡◌, ◌++◌, ℕ, ℤ, Bool, List, [], Some, None, refl, ap, sym, ◌∙◌, arith}
use Rattle.std.specs.Int.{w8, w16, w32, cast_signed}
use Rattle.span_io.specs.declared.cause.Cause.{Cause}
use Rattle.span_io.specs.declared.cause.Cause.TheVariants as causes
use Rattle.thrift_core.specs.Parts.{Part, header, truth, byte, short, int, long, eight, size, list_head, map_head, WordOf, Begins}
use Rattle.thrift_core.specs.Protocols.{ReadsExactly}
use Rattle.thrift_core.proofs.Judged.{found, JudgesReading, reads_found, reads_only, reads_short, reads_bad, reads_cause}
use Rattle.thrift_spellings.specs.CompactSpelling.{compact_is_true, compact_spells, compact_then_varint, compact_refuses}
use Rattle.thrift_spellings.specs.CompactReading.{compact_reads}
use Rattle.thrift_spellings.proofs.CompactNumbers.{tested_16, tested_32, zero_16, zero_32, signed_judges}
use Rattle.thrift_spellings.proofs.CompactSizes.{long_judges, any_judges, byte_judges, eight_judges}
use Rattle.thrift_spellings.proofs.CompactLists.{compact_list_judges}
use Rattle.thrift_spellings.proofs.CompactMaps.{compact_map_judges}
use Rattle.thrift_spellings.proofs.CompactFields.{compact_header_judges}

-- ---- each part is judged

abbrev S : (part : Part) → WordOf part → List ℕ → Type 0
S part word text = compact_spells part word text

abbrev V : Part → List ℕ → Type 0
V part front = compact_then_varint part front

abbrev R : Part → Cause → List ℕ → Type 0
R part cause front = compact_refuses part cause front

abbrev pub JudgesPart : Part → Type 0
JudgesPart part = JudgesReading (WordOf part) (S part) (V part) (R part) (λ bytes. compact_reads part bytes)

held_judges : (held : Bool) → JudgesPart (truth (Some held))
held_judges held = record {
  judged = λ bytes. found held [] bytes (refl, refl) refl refl;
  one = λ w v text other tail more h g e. (h.0 ∙ sym g.0, ap (λ l. l ++ tail) (sym h.1) ∙ e ∙ ap (λ l. l ++ more) g.1);
  ended = λ word text h rest front inside v i e. v;
  one_cause = λ front a b h g. absurd h;
}

short_at_once : (front : List ℕ) → compact_then_varint short front → front ≡ []
short_at_once [] v = refl
short_at_once front v = absurd v

int_at_once : (front : List ℕ) → compact_then_varint int front → front ≡ []
int_at_once [] v = refl
int_at_once front v = absurd v

long_at_once : (front : List ℕ) → compact_then_varint long front → front ≡ []
long_at_once [] v = refl
long_at_once front v = absurd v

size_at_once : (front : List ℕ) → compact_then_varint size front → front ≡ []
size_at_once [] v = refl
size_at_once front v = absurd v

pub judges : (part : Part) → JudgesPart part
judges (header left last) = compact_header_judges left last
judges (truth (Some held)) = held_judges held
judges (truth None) = byte_judges Bool compact_is_true (V (truth None)) (λ front v. v)
judges byte = byte_judges ℤ (cast_signed w8) (V byte) (λ front v. v)
judges short = signed_judges w16 15 causes.BadVarint tested_16 zero_16 (omega arith) (V short) tt short_at_once
judges int = signed_judges w32 31 causes.BadVarint tested_32 zero_32 (omega arith) (V int) tt int_at_once
judges long = long_judges (V long) tt long_at_once
judges eight = eight_judges (V eight) (λ front v. v)
judges size = any_judges (V size) tt size_at_once
judges (list_head left) = compact_list_judges left
judges (map_head left) = compact_map_judges left

-- ---- readers

begun : (part : Part) (word : WordOf part) (bytes rest : List ℕ) → (text : List ℕ) × compact_spells part word text × (bytes ≡ text ++ rest) → Begins compact_spells part word bytes rest
begun part word bytes rest h = record { text = h.0; spelled = h.1; parts = h.2 }

pub compact_reads_exactly : ReadsExactly compact_spells compact_reads compact_then_varint compact_refuses
compact_reads_exactly = record {
  found = λ part word bytes rest e. begun part word bytes rest (reads_found (WordOf part) (S part) (V part) (R part) (compact_reads part) (judges part) word bytes rest e);
  only = λ part word bytes rest h. reads_only (WordOf part) (S part) (V part) (R part) (compact_reads part) (judges part) word h.text bytes rest h.spelled h.parts;
  short = λ part bytes. reads_short (WordOf part) (S part) (V part) (R part) (compact_reads part) (judges part) bytes;
  bad = λ part bytes cause other. reads_bad (WordOf part) (S part) (V part) (R part) (compact_reads part) (judges part) bytes cause other;
  refused_for = λ part bytes cause. reads_cause (WordOf part) (S part) (V part) (R part) (compact_reads part) (judges part) bytes cause;
}
