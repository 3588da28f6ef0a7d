use Rattle.std.proofs.Common.{[], ◌∷◌, length, ap, sym, subst, arith}
use Rattle.thrift_core.specs.declared.position.Position.{Position}
use Rattle.thrift_core.specs.private.Halting.{KeepsOf}
use Rattle.thrift_core.specs.private.StackWalks.{open_of, HaltsThere}
use Rattle.thrift_core.specs.Walks.{outer_struct, Passes}
use Rattle.thrift_core.proofs.Determined.{passes_on}
use Rattle.thrift_core.proofs.Resuming.{halting}
use Rattle.thrift_core.proofs.StackSteps.{halts_on}
use Rattle.thrift_core.proofs.position.walk_on.Goals as goal

pub returns-in-Ok-clause-resumed : goal.returns-in-Ok-clause-resumed
returns-in-Ok-clause-resumed g c = λ whole front h. (
  c.walk.new.c.rest,
  passes_on g.P.Parts.spells (outer_struct ∷ []) whole (open_of c.args.at.now.stack) c.args.piece.now [] c.walk.new.c.rest h
      (subst (λ w. Passes g.P.Parts.spells (open_of c.args.at.now.stack) w.rest [] c.walk.new.c.rest) c.new-c.ensures c.in-Ok.ensures.walked),
  omega (arith, c.place.ensures, c.in-Ok.ensures.place, ap (λ w. w.place) c.new-c.ensures, ap (λ w. length w.rest) c.new-c.ensures),
)

pub returns-in-Err-clause-resumed : goal.returns-in-Err-clause-resumed
returns-in-Err-clause-resumed g c = λ whole front h.
    let old : Position = record { stack = c.walk.new.stack; carry = c.args.at.now.carry; missing = c.args.at.now.missing } in
    halting g.P.Parts.spells g.P.Parts.reads g.met.P.Parts.few_bytes whole c.walk.new.c.rest c.in-Err.halted old c.keep.new.self front
    (subst (λ l. KeepsOf c.in-Err.halted l old c.keep.new.self) c.rest.ensures c.keep.ensures.kept)
    (subst (λ s. HaltsThere g.P.Parts.spells g.P.Parts.reads (outer_struct ∷ []) whole c.in-Err.halted s c.walk.new.c.rest) (sym c.keep.ensures.stack)
    (halts_on g.P.Parts.spells g.P.Parts.reads (outer_struct ∷ []) whole c.args.piece.now c.walk.new.c.rest c.args.at.now.stack c.walk.new.stack c.in-Err.halted h
    (subst (λ w. HaltsThere g.P.Parts.spells g.P.Parts.reads (open_of c.args.at.now.stack) w.rest c.in-Err.halted c.walk.new.stack c.walk.new.c.rest) c.new-c.ensures c.in-Err.ensures.walked)))
