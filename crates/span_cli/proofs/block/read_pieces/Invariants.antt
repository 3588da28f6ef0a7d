use Rattle.std.proofs.Common.{◌≡◌, ◌≤◌, ◌-◌, suc, length}
use Rattle.span_cli.specs.Inputs.{header_limit, piece}
use Rattle.span_cli.proofs.InputLemmas.{Reading}
use Rattle.span_cli.proofs.block.read_pieces.Given as goal

abbrev pub invariant-pieces : goal.invariant-pieces
invariant-pieces g l = record {
  room : length l.buffer ≡ piece;
  reading : Reading (g.S.Source.inlet l.initial.input) (g.S.Source.inlet l.input) l.block;
  within : length l.block ≤ header_limit;
}

abbrev pub decreases-pieces : goal.decreases-pieces
decreases-pieces g l = suc header_limit - length l.block
