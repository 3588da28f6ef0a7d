use Rattle.std.proofs.Common.{◌-◌, ◌++◌, ◌∷◌, [], length, take, drop, sym, subst, arith}
use Rattle.std.proofs.lemmas.List.{length-take, length-drop}
use Rattle.thrift_core.specs.private.Halting.{unfinished_part}
use Rattle.thrift_core.specs.private.StackWalks.{open_of, HaltsThere}
use Rattle.thrift_core.specs.Walks.{outer_struct, Passes}
use Rattle.thrift_core.proofs.Resuming.{rest_part, halting, all_taken, begun_again, counted_on}
use Rattle.thrift_core.proofs.position.unfinished.Goals as goal

pub returns-then-rest-taken : goal.returns-then-rest-taken
returns-then-rest-taken g c = λ bytes front enough h.
    halting g.P.Parts.spells g.P.Parts.reads g.met.P.Parts.few_bytes (bytes ++ c.args.piece.now) c.args.rest.now unfinished_part c.args.at.now c.keep.new.self front c.keep.ensures.kept
    (subst (λ s. HaltsThere g.P.Parts.spells g.P.Parts.reads (outer_struct ∷ []) (bytes ++ c.args.piece.now) unfinished_part s c.args.rest.now) (sym c.keep.ensures.stack)
    (all_taken g.P.Parts.spells g.P.Parts.reads bytes c.args.piece.now c.args.rest.now c.args.taken c.args.at.now.stack g.met.P.Parts.few_bytes c.requires.taken enough (omega (arith, c.if-rest-taken.true)) h))

pub returns-in-Ok : goal.returns-in-Ok
returns-in-Ok g c = λ bytes at enough h.
    let piece = c.args.piece.now in
    let begun = c.args.taken - length c.args.rest.now in
    let part = take (length piece - begun) (drop begun piece) in
    let front : Passes g.P.Parts.spells (outer_struct ∷ []) (bytes ++ piece) (open_of c.args.at.now.stack) part =
    subst (λ l. Passes g.P.Parts.spells (outer_struct ∷ []) (bytes ++ piece) (open_of c.args.at.now.stack) l) (sym (rest_part begun piece))
    (begun_again g.P.Parts.spells g.P.Parts.reads bytes piece c.args.rest.now c.args.taken begun c.args.at.now.stack c.requires.taken (omega (arith, c.if-rest-taken.false)) h.0) in
    counted_on g.P.Parts.spells g.P.Parts.reads begun (length piece) (bytes ++ piece) part c.in-Ok.ends c.walk_on.new.at
    (omega (arith, length-take (length piece - begun) (drop begun piece), length-drop begun piece, c.requires.taken))
    (c.in-Ok.ensures.resumed (bytes ++ piece) at front)

pub returns-in-Err : goal.returns-in-Err
returns-in-Err g c = λ bytes at enough h.
    let piece = c.args.piece.now in
    let begun = c.args.taken - length c.args.rest.now in
    c.in-Err.ensures.resumed (bytes ++ piece) at
    (subst (λ l. Passes g.P.Parts.spells (outer_struct ∷ []) (bytes ++ piece) (open_of c.args.at.now.stack) l) (sym (rest_part begun piece))
    (begun_again g.P.Parts.spells g.P.Parts.reads bytes piece c.args.rest.now c.args.taken begun c.args.at.now.stack c.requires.taken (omega (arith, c.if-rest-taken.false)) h.0))
