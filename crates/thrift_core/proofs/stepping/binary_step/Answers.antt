use Rattle.std.proofs.Common.{◌<◌, ◌∷◌, length, ap, refl, arith}
use Rattle.std.proofs.lemmas.List.{length-drop}
use Rattle.thrift_core.specs.Parts.{size}
use Rattle.thrift_core.specs.Places.{stack_of}
use Rattle.thrift_core.specs.Walks.{opened_by_size}
use Rattle.thrift_core.proofs.StackSteps.{bytes_taken, weight_most}
use Rattle.thrift_core.proofs.WalkSteps.{part_read, part_shortens}
use Rattle.thrift_core.proofs.stepping.binary_step.Goals as goal

pub returns-in-Ok-clause-stepped : goal.returns-in-Ok-clause-stepped
returns-in-Ok-clause-stepped g c = λ start first.
    let under = stack_of c.args.behind c.args.stack.now.below.items in
    bytes_taken g.P.Parts.spells (start ∷ under) under c.args.c.now.rest c.length.new.c.rest c.take.new.self.rest c.in_ok-size.field-0
    (part_read g.P.Parts.spells g.P.Parts.reads g.met.P.Parts.reads_exactly.found start under c.args.c.now.rest c.length.new.c.rest size opened_by_size c.in_ok-size.field-0 first c.in_ok-size.ensures.exact)
    (λ few. (let e = c.in-Ok.ensures.short.1 few in cc)) (ap (λ w. w.rest) c.in-Ok.ensures.ok)

pub returns-in-Ok-clause-nearer : goal.returns-in-Ok-clause-nearer
returns-in-Ok-clause-nearer g c =
    let read : length c.length.new.c.rest < length c.args.c.now.rest = part_shortens g.P.Parts.spells g.P.Parts.reads g.met.P.Parts.reads_exactly.found size c.in_ok-size.field-0 c.args.c.now.rest c.length.new.c.rest
    (λ text h. g.met.P.Parts.part_laws.some size c.in_ok-size.field-0 text tt h) c.in_ok-size.ensures.exact in
    omega (arith, read, ap (λ w. length w.rest) c.in-Ok.ensures.ok, length-drop c.in_ok-size.field-0 c.length.new.c.rest, weight_most c.args.behind)

pub returns-in-Err-clause-stepped : goal.returns-in-Err-clause-stepped
returns-in-Err-clause-stepped g c = λ start first.
    let under = stack_of c.args.behind c.args.stack.now.below.items in
    let few : length c.length.new.c.rest < c.in_ok-size.field-0 = c.in-Err.ensures.short.0 refl in
    record {
      held = c.in_ok-size.field-0;
      rest = c.length.new.c.rest;
      passes = part_read g.P.Parts.spells g.P.Parts.reads g.met.P.Parts.reads_exactly.found start under c.args.c.now.rest c.length.new.c.rest size opened_by_size c.in_ok-size.field-0 first c.in_ok-size.ensures.exact;
      missing = omega (arith, c.remaining.ensures, few, ap (λ w. length w.rest) c.in-Err.ensures.err);
      some = omega (arith, c.remaining.ensures, few, ap (λ w. length w.rest) c.in-Err.ensures.err);
    }
