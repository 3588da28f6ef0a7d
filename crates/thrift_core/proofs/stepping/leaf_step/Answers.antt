use Rattle.std.proofs.Common.{◌∷◌, [], Err, subst, sym, arith}
use Rattle.thrift_core.specs.Places.{stack_of}
use Rattle.thrift_core.specs.private.StackWalks.{levels_in, ValueStepped}
use Rattle.thrift_core.specs.Walks.{in_value}
use Rattle.thrift_core.proofs.Determined.{passes_above}
use Rattle.thrift_core.proofs.StackSteps.{leaf_halted, leaf_nearer}
use Rattle.thrift_core.proofs.stepping.leaf_step.Goals as goal

pub returns-in-Ok-clause-stepped : goal.returns-in-Ok-clause-stepped
returns-in-Ok-clause-stepped g c =
    let left = levels_in c.args.stack.now in
    passes_above g.P.Parts.spells (in_value left c.args.kind c.args.held ∷ []) c.args.c.now.rest [] c.pass_leaf.new.c.rest (stack_of c.args.behind c.args.stack.now.below.items) (c.in-Ok.ensures.passed left)

pub returns-in-Ok-clause-nearer : goal.returns-in-Ok-clause-nearer
returns-in-Ok-clause-nearer g c = λ light.
    let left = levels_in c.args.stack.now in
    omega (
      arith,
      leaf_nearer g.P.Parts.spells g.P.Parts.reads g.P.Parts.then_varint g.P.Parts.refuses g.met.P.Parts.reads_exactly g.met.P.Parts.part_laws
          left c.args.kind c.args.held c.args.behind c.args.c.now.rest c.pass_leaf.new.c.rest c.requires.leaf (c.in-Ok.ensures.passed left) light,
    )

pub returns-in-Err-clause-stepped : goal.returns-in-Err-clause-stepped
returns-in-Err-clause-stepped g c =
    let left = levels_in c.args.stack.now in
    subst (λ w. ValueStepped g.P.Parts.spells g.P.Parts.reads c.args.behind c.args.stack.now c.args.c.now.rest (Err c.in-Err.halted) c.args.stack.now w.rest (in_value left c.args.kind c.args.held)) (sym c.in-Err.ensures.err)
    (leaf_halted g.P.Parts.spells g.P.Parts.reads g.P.Parts.then_varint g.P.Parts.refuses g.met.P.Parts.reads_exactly
    left c.args.kind c.args.held c.args.behind c.args.stack.now c.args.c.now.rest c.in-Err.halted c.requires.leaf
    (c.in-Err.ensures.passed left))
