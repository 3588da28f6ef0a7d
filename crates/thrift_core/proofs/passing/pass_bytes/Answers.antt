use Rattle.std.proofs.Common.{◌<◌, [], ◌∷◌, length, ap, refl, arith}
use Rattle.thrift_core.specs.Parts.{size}
use Rattle.thrift_core.specs.Walks.{opened_by_size}
use Rattle.thrift_core.proofs.Determined.{no_turns}
use Rattle.thrift_core.proofs.WalkSteps.{part_refused, part_read, bytes_passed}
use Rattle.thrift_core.proofs.passing.pass_bytes.Goals as goal

pub returns-in_err-size-clause-passed : goal.returns-in_err-size-clause-passed
returns-in_err-size-clause-passed g c = λ start first.
    part_refused g.P.Parts.spells g.P.Parts.reads start start [] c.args.c.now.rest c.args.c.now.rest c.length.new.c.rest size opened_by_size c.in_err-size.field-0.0 c.from_residual.result
    (no_turns g.P.Parts.spells (start ∷ []) c.args.c.now.rest) first c.in_err-size.ensures.exact c.from_residual.ensures.1

pub returns-in-Ok-clause-passed : goal.returns-in-Ok-clause-passed
returns-in-Ok-clause-passed g c = λ start first.
    let opened = part_read g.P.Parts.spells g.P.Parts.reads g.met.P.Parts.reads_exactly.found start [] c.args.c.now.rest c.length.new.c.rest size opened_by_size c.in_ok-size.field-0 first c.in_ok-size.ensures.exact in
    bytes_passed g.P.Parts.spells start c.args.c.now.rest c.length.new.c.rest c.take.new.self.rest c.in_ok-size.field-0 opened
    (λ few. (let e = c.in-Ok.ensures.short.1 few in cc)) (ap (λ w. w.rest) c.in-Ok.ensures.ok)

pub returns-in-Err-clause-passed : goal.returns-in-Err-clause-passed
returns-in-Err-clause-passed g c = λ start first.
    let few : length c.length.new.c.rest < c.in_ok-size.field-0 = c.in-Err.ensures.short.0 refl in
    record {
      held = c.in_ok-size.field-0;
      below = [];
      rest = c.length.new.c.rest;
      passes = part_read g.P.Parts.spells g.P.Parts.reads g.met.P.Parts.reads_exactly.found start [] c.args.c.now.rest c.length.new.c.rest size opened_by_size c.in_ok-size.field-0 first c.in_ok-size.ensures.exact;
      missing = omega (arith, c.remaining.ensures, few, ap (λ w. length w.rest) c.in-Err.ensures.err);
      some = omega (arith, c.remaining.ensures, few, ap (λ w. length w.rest) c.in-Err.ensures.err);
    }
