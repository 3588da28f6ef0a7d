-- A part that isn't whole yet has at most ten bytes in the compact protocol.
use Rattle.std.proofs.Common.{◌≤◌, ◌+◌, ◌∷◌, ℕ, zero, suc, List, [], length, Some, None, ap, arith}
use Rattle.std.proofs.lemmas.List.{length-append}
use Rattle.span_io.specs.Varint.{SpellsWithin, SpellsVarint}
use Rattle.span_io.specs.Zigzag.{zigzag}
use Rattle.thrift_core.specs.declared.field.MapHead.{MapHead}
use Rattle.thrift_core.specs.Parts.{Part, header, truth, byte, short, int, long, eight, size, list_head, map_head, WordOf}
use Rattle.thrift_core.specs.Protocols.{UnfinishedWithin, most_unfinished}
use Rattle.thrift_core.specs.Unfinished.{unfinished_within}
use Rattle.thrift_spellings.specs.CompactSpelling.{ArePairs, compact_spells, compact_then_varint, compact_refuses}
use Rattle.thrift_spellings.specs.CompactReading.{compact_reads}
use Rattle.thrift_spellings.proofs.CompactExactly.{compact_reads_exactly}

within_room : (room n : ℕ) (text : List ℕ) → SpellsWithin room text n → length text ≤ room
unfolding SpellsWithin
within_room zero n text h = absurd h
within_room (suc room) n [] h = absurd h
within_room (suc room) n (b ∷ []) h = omega arith
within_room (suc room) n (b ∷ c ∷ text) h = omega (arith, within_room room h.1 (c ∷ text) h.3)

at_most_10 : (n : ℕ) (text : List ℕ) → SpellsVarint text n → length text ≤ 10
unfolding SpellsVarint
at_most_10 n text h = within_room 10 n text h

types_within : (left : ℕ) (head : MapHead) (types : List ℕ) → ArePairs left head types → length types ≤ 1
types_within left head [] h = omega arith
types_within left head (b ∷ []) h = omega arith
types_within left head (b ∷ c ∷ types) h = absurd h

-- the longest spellings have a byte beside a varint of ten
at_most_11 : (part : Part) (word : WordOf part) (text : List ℕ) → compact_spells part word text → length text ≤ 11
at_most_11 (header left last) None (zero ∷ []) h = omega arith
at_most_11 (header left last) None other h = absurd h
at_most_11 (header left last) (Some f) [] h = absurd h
at_most_11 (header left last) (Some f) (b ∷ []) h = omega arith
at_most_11 (header left last) (Some f) (b ∷ c ∷ id) h = omega (arith, at_most_10 (zigzag f.id) (c ∷ id) h.1.0)
at_most_11 (truth (Some held)) word text h = omega (arith, ap length h.1)
at_most_11 (truth None) word (b ∷ []) h = omega arith
at_most_11 (truth None) word other h = absurd h
at_most_11 byte word (b ∷ []) h = omega arith
at_most_11 byte word other h = absurd h
at_most_11 short word text h = omega (arith, at_most_10 (zigzag word) text h.0)
at_most_11 int word text h = omega (arith, at_most_10 (zigzag word) text h.0)
at_most_11 long word text h = omega (arith, at_most_10 (zigzag word) text h)
at_most_11 eight word text h = omega (arith, h.0)
at_most_11 size word text h = omega (arith, at_most_10 word text h.0)
at_most_11 (list_head left) word [] h = absurd h
at_most_11 (list_head left) word (b ∷ []) h = omega arith
at_most_11 (list_head left) word (b ∷ c ∷ number) h = omega (arith, at_most_10 word.size (c ∷ number) h.2.0)
at_most_11 (map_head left) word text h =
    omega (arith, ap length h.parts, length-append h.number h.types, at_most_10 word.size h.number h.its_size.0, types_within left word h.types h.its_types)

-- a varint follows at once, or behind one byte
varints_within : (part : Part) (front : List ℕ) → compact_then_varint part front → length front + 9 ≤ 10
varints_within (header left last) (b ∷ []) v = omega arith
varints_within (list_head left) (b ∷ []) v = omega arith
varints_within short [] v = omega arith
varints_within int [] v = omega arith
varints_within long [] v = omega arith
varints_within size [] v = omega arith
varints_within (map_head left) [] v = omega arith
varints_within part front v = absurd v

pub compact_few_bytes : UnfinishedWithin most_unfinished compact_reads
compact_few_bytes = unfinished_within compact_spells compact_then_varint 10 at_most_11 varints_within compact_reads compact_refuses compact_reads_exactly
