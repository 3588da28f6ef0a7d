-- A block of header lines, read piece by piece.
use Rattle.std.proofs.Common.{◌≡◌, ◌≤◌, ◌<◌, ℕ, List, [], ◌++◌, length, refl, subst, ◌∙◌, arith, length-append}
use Rattle.std.specs.Prelude.{IsTrue}
use Rattle.std.specs.Io.KnownBytes.{Consumes, IsAtEnd, Keeps}
use Rattle.span_io.specs.Outside.{Inlet, InputFails, NoReadInVain, Rose}
use Rattle.span_cli.specs.private.ReadBlocks.{IsReadWhole, BlockHalts}
use Rattle.span_cli.specs.Inputs.{header_limit, piece}
use Rattle.span_cli.specs.declared.ending.Ending.TheVariants as endings
use Rattle.span_cli.proofs.InputLemmas.{Consumes-then, Reading, Reading-end, Reading-start, gave_kept}

module _ (before here now : Inlet) (block : List ℕ) (reading : Reading before here block) (within : length block ≤ header_limit) where
  -- a read failed
  pub block_failed : Keeps here.left now.left → InputFails here now → (IsTrue before.steady → ⊥) → NoReadInVain before now → BlockHalts endings.InputFailed before now
  block_failed kept fails unsteady in_vain = record {
    given = block;
    gave = gave_kept before.left here.left now.left block reading.gave kept;
    within = omega (arith, within);
    in_vain = in_vain;
    why = (subst (λ (n : ℕ). Rose n now.faults) reading.quiet fails, unsteady, within);
  }

  -- the end was read
  pub block_whole : Consumes here.left now.left [] → IsAtEnd now.left → now.faults ≡ here.faults → NoReadInVain before now → IsReadWhole before now block
  block_whole gave ended quiet in_vain =
      let all = Reading-end before here now block reading gave ended in
      record { gave = all.0; all_read = all.1; quiet = quiet ∙ reading.quiet; in_vain = in_vain }

  module _ (more : List ℕ) (gave : Consumes here.left now.left more) (small : length more ≤ piece) (quiet : now.faults ≡ here.faults) (in_vain : NoReadInVain before now) where
    -- a piece more was read, for which no memory was found
    pub block_wants : BlockHalts endings.NoMemory before now
    block_wants = record {
      given = block ++ more;
      gave = Consumes-then before.left here.left now.left block more reading.gave gave;
      within = omega (arith, within, small, length-append block more);
      in_vain = in_vain;
      why = quiet ∙ reading.quiet;
    }

    -- or which is too much
    pub block_too_long : header_limit < length (block ++ more) → BlockHalts endings.TooLong before now
    block_too_long long = record {
      given = block ++ more;
      gave = Consumes-then before.left here.left now.left block more reading.gave gave;
      within = omega (arith, within, small, length-append block more);
      in_vain = in_vain;
      why = (quiet ∙ reading.quiet, long);
    }

-- nothing was read yet
pub block_unread : (now : Inlet) → NoReadInVain now now → BlockHalts endings.NoMemory now now
block_unread now in_vain = record { given = []; gave = (Reading-start now).gave; within = omega arith; in_vain = in_vain; why = refl }
