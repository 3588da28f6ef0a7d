-- The header of a message (Thrift compact and binary protocol, "Message"): the first bytes with the protocol's version and the type of
-- the message, the method's name, and a sequence number, which means nothing here. In the compact protocol the number comes first.
use Rattle.std.specs.Prelude.{◌≡◌, ◌⊎◌, ◌+◌, ◌*◌, ℕ, Bool, true, false, List, [], ◌∷◌, ◌++◌, length, codes}
use Rattle.span_io.specs.Varint.{BeginsVarint}
use Rattle.thrift_core.specs.Trees.{BinaryThen}
use Rattle.thrift_spellings.specs.BinarySpelling.{binary_spells}

-- the types of a message that calls a method: 1 waits for an answer, and 4, oneway, for none
abbrev pub IsCall : ℕ → Type 0
IsCall kind = (kind ≡ 1) ⊎ (kind ≡ 4)

-- the first bytes of a message of a type, in the compact protocol and in the strict form of the binary one
abbrev pub compact_front : ℕ → List ℕ
compact_front kind = 130 ∷ (kind * 32 + 1) ∷ []

-- in the binary protocol: the two bytes 80 01 (hexadecimal) of version 1, an unused byte, which is 0, and the type
abbrev pub binary_front : ℕ → List ℕ
binary_front kind = 128 ∷ 1 ∷ 0 ∷ kind ∷ []

-- the name itself, of so many bytes, and then rest
abbrev pub NameThen : ℕ → List ℕ → List ℕ → List ℕ → Type 0
NameThen size name whole rest = (size ≡ length name) × (whole ≡ name ++ rest)

-- the number of its bytes as a varint of any spelling, and then they
pub record SizedName (name whole rest : List ℕ) : Type 0 where
  pub size : ℕ
  pub named : List ℕ
  pub size_then : BeginsVarint size whole named
  pub name_then : NameThen size name named rest

-- these first bytes, a number as a varint, the name, and then rest
pub record CompactHeader (name whole rest : List ℕ) : Type 0 where
  pub kind : ℕ
  pub sequence : ℕ
  pub numbered : List ℕ
  pub sized : List ℕ
  pub calls : IsCall kind
  pub begins : whole ≡ compact_front kind ++ numbered
  pub sequence_then : BeginsVarint sequence numbered sized
  pub name_then : SizedName name sized rest

-- four bytes, and then rest
abbrev pub FourThen : List ℕ → List ℕ → Type 0
FourThen whole rest = (four : List ℕ) × (length four ≡ 4) × (whole ≡ four ++ rest)

-- these first bytes, the number of the name's bytes as an i32 and they themselves, four bytes, and then rest
pub record BinaryHeader (name whole rest : List ℕ) : Type 0 where
  pub kind : ℕ
  pub named : List ℕ
  pub numbered : List ℕ
  pub calls : IsCall kind
  pub begins : whole ≡ binary_front kind ++ named
  pub name_then : BinaryThen binary_spells name named numbered
  pub sequence_then : FourThen numbered rest

-- a header with this name, in the compact protocol or in the binary one, and then rest
abbrev pub HeaderThen : Bool → List ℕ → List ℕ → List ℕ → Type 0
HeaderThen true name whole rest = CompactHeader name whole rest
HeaderThen false name whole rest = BinaryHeader name whole rest

-- the method by which agents take batches (agent.thrift)
abbrev pub emit_batch : List ℕ
emit_batch = codes "emitBatch"
