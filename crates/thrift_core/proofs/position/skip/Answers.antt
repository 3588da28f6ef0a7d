use Rattle.std.proofs.Common.{◌-◌, ◌≤◌, ◌++◌, ◌∷◌, [], length, take, drop, refl, sym, subst, arith}
use Rattle.std.proofs.lemmas.List.{length-take, length-drop}
use Rattle.thrift_core.specs.private.StackWalks.{open_of}
use Rattle.thrift_core.specs.Walks.{outer_struct, Passes}
use Rattle.thrift_core.proofs.Resuming.{rest_part, binary_short, behind_binary, counted_on}
use Rattle.thrift_core.proofs.position.skip.Goals as goal

pub returns-then-piece-at-clause-resumed : goal.returns-then-piece-at-clause-resumed
returns-then-piece-at-clause-resumed g c = λ bytes none place.
    binary_short g.P.Parts.spells g.P.Parts.reads bytes c.args.piece.now c.args.at.now none (omega (arith, c.if-piece-at.true)) place

pub returns-in-Ok-clause-resumed : goal.returns-in-Ok-clause-resumed
returns-in-Ok-clause-resumed g c = λ bytes none place.
    let piece = c.args.piece.now in
    let missing = c.args.at.now.missing in
    let enough : missing ≤ length piece = omega (arith, c.if-piece-at.false) in
    let part = take (length piece - missing) (drop missing piece) in
    let front : Passes g.P.Parts.spells (outer_struct ∷ []) (bytes ++ piece) (open_of c.args.at.now.stack) part =
    subst (λ l. Passes g.P.Parts.spells (outer_struct ∷ []) (bytes ++ piece) (open_of c.args.at.now.stack) l) (sym (rest_part missing piece)) (behind_binary g.P.Parts.spells g.P.Parts.reads bytes piece c.args.at.now none enough place) in
    counted_on g.P.Parts.spells g.P.Parts.reads missing (length piece) (bytes ++ piece) part c.in-Ok.ends c.walk_on.new.at (omega (arith, length-take (length piece - missing) (drop missing piece), length-drop missing piece, enough))
    (c.in-Ok.ensures.resumed (bytes ++ piece) (none, refl) front)

pub returns-in-Err-clause-resumed : goal.returns-in-Err-clause-resumed
returns-in-Err-clause-resumed g c = λ bytes none place.
    let piece = c.args.piece.now in
    let missing = c.args.at.now.missing in
    c.in-Err.ensures.resumed (bytes ++ piece) (none, refl)
    (subst (λ l. Passes g.P.Parts.spells (outer_struct ∷ []) (bytes ++ piece) (open_of c.args.at.now.stack) l) (sym (rest_part missing piece)) (behind_binary g.P.Parts.spells g.P.Parts.reads bytes piece c.args.at.now none (omega (arith, c.if-piece-at.false)) place))
