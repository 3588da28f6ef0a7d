use Rattle.std.proofs.Common.{◌≤◌, Ok, length, take, arith}
use Rattle.std.proofs.lemmas.List.{length-take}
use Rattle.span_cli.specs.Inputs.{piece}
use Rattle.span_cli.proofs.BlockLemmas.{block_wants}
use Rattle.span_cli.proofs.InputLemmas.{not_in_vain}
use Rattle.span_cli.proofs.block.read_pieces.Goals as goal

pub returns-in-Err-clause-ended : goal.returns-in-Err-clause-ended
returns-in-Err-clause-ended g c =
    let before = g.S.Source.inlet c.args.input.now in
    let here = g.S.Source.inlet c.pieces.input in
    let now = g.S.Source.inlet c.read.new.self in
    let reading = c.pieces.invariant.reading in
    let more = take c.in-Ok.given c.read.new.buf in
    let small : length more ≤ piece = omega (arith, length-take c.in-Ok.given c.read.new.buf, c.read.auto.buf, c.pieces.invariant.room) in
    block_wants before here now c.pieces.block reading c.pieces.invariant.within more c.in-Ok.ensures.bytes.0 small c.in-Ok.ensures.quiet
    (not_in_vain _ before.course here.course now.course (Ok c.in-Ok.given) reading.goes c.in-Ok.ensures.course)
