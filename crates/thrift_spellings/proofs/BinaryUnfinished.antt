-- A part that isn't whole yet has at most seven bytes in the binary protocol.
use Rattle.std.proofs.Common.{◌≤◌, ◌∷◌, ℕ, zero, List, [], length, Some, None, ap, arith}
use Rattle.thrift_core.specs.Parts.{Part, header, truth, byte, short, int, long, eight, size, list_head, map_head, WordOf}
use Rattle.thrift_core.specs.Protocols.{UnfinishedWithin, most_unfinished}
use Rattle.thrift_core.specs.Unfinished.{unfinished_within}
use Rattle.thrift_spellings.specs.BinarySpelling.{binary_spells, binary_then_varint, binary_refuses}
use Rattle.thrift_spellings.specs.BinaryReading.{binary_reads}
use Rattle.thrift_spellings.proofs.BinaryLaws.{binary_reads_exactly, size_length}

-- the longest spellings are those of numbers of 64 bits and of doubles
at_most_8 : (part : Part) (word : WordOf part) (text : List ℕ) → binary_spells part word text → length text ≤ 8
at_most_8 (header left last) None (zero ∷ []) h = omega arith
at_most_8 (header left last) None other h = absurd h
at_most_8 (header left last) (Some f) (code ∷ id) h = omega (arith, h.2.0)
at_most_8 (header left last) (Some f) [] h = absurd h
at_most_8 (truth (Some held)) word text h = omega (arith, ap length h.1)
at_most_8 (truth None) word text h = omega (arith, h.0)
at_most_8 byte word text h = omega (arith, h.0)
at_most_8 short word text h = omega (arith, h.0)
at_most_8 int word text h = omega (arith, h.0)
at_most_8 long word text h = omega (arith, h.0)
at_most_8 eight word text h = omega (arith, h.0)
at_most_8 size word text h = omega (arith, size_length word text h)
at_most_8 (list_head left) word (code ∷ number) h = omega (arith, size_length word.size number h.1)
at_most_8 (list_head left) word [] h = absurd h
at_most_8 (map_head left) word (key ∷ value ∷ number) h = omega (arith, size_length word.size number h.2)
at_most_8 (map_head left) word other h = absurd h

pub binary_unfinished : UnfinishedWithin 7 binary_reads
binary_unfinished = unfinished_within binary_spells binary_then_varint 7 at_most_8 (λ part front v. absurd v) binary_reads binary_refuses binary_reads_exactly

pub binary_few_bytes : UnfinishedWithin most_unfinished binary_reads
binary_few_bytes part bytes e = omega (arith, binary_unfinished part bytes e)
