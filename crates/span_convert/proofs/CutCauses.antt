-- No part of a text, and so no struct, is refused by the cause Truncated.
use Rattle.std.proofs.Common.{◌≡◌, inl, inr, ℕ, List, arith}
use Rattle.span_io.specs.Steps.{NoFrame}
use Rattle.span_io.specs.declared.cause.Cause.TheVariants as causes
use Rattle.thrift_core.specs.Levels.{RefusesPart}
use Rattle.thrift_core.specs.Parts.{Part}
use Rattle.thrift_spellings.proofs.BinaryLaws.{binary_part_laws}
use Rattle.thrift_spellings.proofs.CompactLaws.{compact_part_laws}
use Rattle.span_convert.specs.BatchFiles.{ProtocolWords, binary, compact, batches, RefusedBatch}

abbrev pub RefusesNoCut : ProtocolWords → Type 0
RefusesNoCut protocol = (part : Part) (front : List ℕ) → protocol.refuses part causes.Truncated front → ⊥

-- a part is refused for other causes
not_cut : RefusesPart causes.Truncated → ⊥
not_cut refuses = absurd (omega (arith, refuses))

pub binary_cut : RefusesNoCut binary
binary_cut part front h = not_cut (binary_part_laws.refused_by part front causes.Truncated h)

pub compact_cut : RefusesNoCut compact
compact_cut part front h = not_cut (compact_part_laws.refused_by part front causes.Truncated h)

-- ---- structs

module _ (protocol : ProtocolWords) (never : RefusesNoCut protocol) where
  refused_cut : (front : List ℕ) → RefusedBatch protocol causes.Truncated front → ⊥
  refused_cut front (inl h) = never h.part h.rest h.says.1
  refused_cut front (inr h) = let e : ◌≡◌ causes.Truncated causes.TooDeep = h.0 in cc

  pub no_frame_cut : (limit : ℕ) (rest : List ℕ) → NoFrame (batches protocol) (RefusedBatch protocol) limit rest causes.Truncated → ⊥
  no_frame_cut limit rest h = refused_cut h.front h.kind.1
