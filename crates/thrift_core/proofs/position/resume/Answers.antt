use Rattle.std.proofs.Common.{◌++◌, length}
use Rattle.thrift_core.proofs.Resuming.{resumed_joined, empty_true, empty_false, in_part}
use Rattle.thrift_core.proofs.position.resume.Goals as goal

pub returns-then-is_empty : goal.returns-then-is_empty
returns-then-is_empty g c = λ bytes place.
    resumed_joined g.P.Parts.spells g.P.Parts.reads (bytes ++ c.args.piece.now) (length c.args.piece.now) c.skip.result c.skip.new.at
    (c.skip.ensures.resumed bytes (empty_true c.args.at.now.carry.items c.is_empty.result c.is_empty.ensures c.if-is_empty.true) place)

pub returns : goal.returns
returns g c = λ bytes place.
    in_part g.P.Parts.spells g.P.Parts.reads bytes (bytes ++ c.args.piece.now) (length c.args.piece.now) c.join.result c.args.at.now c.join.new.at
    (empty_false c.args.at.now.carry.items c.is_empty.result c.is_empty.ensures c.if-is_empty.false) place (c.join.ensures bytes)
