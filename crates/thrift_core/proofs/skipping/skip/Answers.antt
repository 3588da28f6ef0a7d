use Rattle.std.proofs.Common.{◌≤◌, length, ap, arith, [], ◌∷◌, refl, subst}
use Rattle.thrift_core.specs.Walks.{in_value, Passes}
use Rattle.thrift_core.specs.private.Halting.{HaltsAs}
use Rattle.thrift_core.proofs.Stopping.{value_sound}
use Rattle.thrift_core.proofs.Answering.{passed_answers, halted_answers, passed_value, one_value, no_value}
use Rattle.thrift_core.proofs.WalkSteps.{onward}
use Rattle.thrift_core.proofs.skipping.skip.Goals as goal

pub returns-in-Ok-clause-value : goal.returns-in-Ok-clause-value
returns-in-Ok-clause-value g c = λ rest.
    let passes : Passes g.P.Parts.spells (in_value c.args.left c.args.kind c.args.held ∷ []) c.args.c.now.rest [] c.pass_value.new.c.rest =
    subst (λ w. Passes g.P.Parts.spells (in_value c.args.left c.args.kind c.args.held ∷ []) w.rest [] c.pass_value.new.c.rest) c.again-at.ensures c.in-Ok.ensures.passed in (
      λ h. passed_value g.P.Parts.spells g.P.Parts.reads g.P.Parts.then_varint g.P.Parts.refuses g.met.P.Parts.reads_exactly g.met.P.Parts.part_laws c.args.left c.args.kind c.args.held c.args.c.now.rest rest
          (subst (λ l. Passes g.P.Parts.spells (in_value c.args.left c.args.kind c.args.held ∷ []) c.args.c.now.rest [] l) h.1 passes),
      λ begins. (refl, one_value g.P.Parts.spells g.P.Parts.reads g.P.Parts.then_varint g.P.Parts.refuses g.met.P.Parts.reads_exactly g.met.P.Parts.part_laws c.args.left c.args.kind c.args.held c.args.c.now.rest c.pass_value.new.c.rest rest passes begins),
    )

pub returns-in-Ok-clause-refused : goal.returns-in-Ok-clause-refused
returns-in-Ok-clause-refused g c =
    let passes : Passes g.P.Parts.spells (in_value c.args.left c.args.kind c.args.held ∷ []) c.args.c.now.rest [] c.pass_value.new.c.rest =
    subst (λ w. Passes g.P.Parts.spells (in_value c.args.left c.args.kind c.args.held ∷ []) w.rest [] c.pass_value.new.c.rest) c.again-at.ensures c.in-Ok.ensures.passed in
    passed_answers g.P.Parts.spells g.P.Parts.reads g.P.Parts.then_varint g.P.Parts.refuses g.met.P.Parts.reads_exactly g.met.P.Parts.part_laws (in_value c.args.left c.args.kind c.args.held) (value_sound c.args.left c.args.kind c.args.held) tt c.args.c.now.rest c.pass_value.new.c.rest passes

pub returns-in-Err-clause-value : goal.returns-in-Err-clause-value
returns-in-Err-clause-value g c = λ rest.
    let halted : HaltsAs g.P.Parts.spells g.P.Parts.reads (in_value c.args.left c.args.kind c.args.held) c.args.c.now.rest c.in-Err.halted =
    subst (λ w. HaltsAs g.P.Parts.spells g.P.Parts.reads (in_value c.args.left c.args.kind c.args.held) w.rest c.in-Err.halted) c.again-at.ensures c.in-Err.ensures.passed in (
      λ h. absurd cc,
      λ begins. absurd (no_value g.P.Parts.spells g.P.Parts.reads g.P.Parts.then_varint g.P.Parts.refuses g.met.P.Parts.reads_exactly g.met.P.Parts.part_laws c.args.left c.args.kind c.args.held c.args.c.now.rest c.in-Err.halted rest halted begins),
    )

pub returns-in-Err-clause-refused : goal.returns-in-Err-clause-refused
returns-in-Err-clause-refused g c =
    let halted : HaltsAs g.P.Parts.spells g.P.Parts.reads (in_value c.args.left c.args.kind c.args.held) c.args.c.now.rest c.in-Err.halted =
    subst (λ w. HaltsAs g.P.Parts.spells g.P.Parts.reads (in_value c.args.left c.args.kind c.args.held) w.rest c.in-Err.halted) c.again-at.ensures c.in-Err.ensures.passed in
    halted_answers g.P.Parts.spells g.P.Parts.reads g.P.Parts.then_varint g.P.Parts.refuses g.met.P.Parts.reads_exactly g.met.P.Parts.part_laws (in_value c.args.left c.args.kind c.args.held) (value_sound c.args.left c.args.kind c.args.held) c.in-Err.halted c.cause.result c.args.c.now.rest halted c.cause.ensures

pub returns-in-Ok-clause-onward : goal.returns-in-Ok-clause-onward
returns-in-Ok-clause-onward g c =
    let on : length c.pass_value.new.c.rest ≤ length c.again-at.result.rest =
    onward g.P.Parts.spells (in_value c.args.left c.args.kind c.args.held ∷ []) [] c.again-at.result.rest c.pass_value.new.c.rest c.in-Ok.ensures.passed in
    omega (arith, on, ap (λ w. length w.rest) c.again-at.ensures)
