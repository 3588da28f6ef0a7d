use Rattle.std.proofs.Common.{◌<◌, Some, None, [], ◌∷◌, length, refl, to_z, arith, rules}
use Rattle.std.specs.Int.{w16}
use Rattle.std.proofs.lemmas.Int.{to_z-of_z}
use Rattle.std.proofs.lemmas.Result.{err_from_is_err_and}
use Rattle.thrift_core.specs.Parts.{header}
use Rattle.thrift_core.specs.Trees.{all_levels}
use Rattle.thrift_core.proofs.Determined.{no_turns}
use Rattle.thrift_core.proofs.WalkSteps.{part_shortens}
use Rattle.span_agent.specs.Arguments.{arguments_open}
use Rattle.span_agent.proofs.ArgumentLemmas.{ended, further, head_refused, passed_arguments, value_refused}
use Rattle.span_agent.proofs.arguments.batches_in.Goals as goal

pub fields-init : goal.fields-init
fields-init g c = record {
  seen = [];
  goes_on = λ more behind h. h;
  passes = no_turns g.P.Parts.spells (arguments_open ∷ []) c.args.c.now.rest;
  held = refl;
}

pub returns-in-Ok-None-clause-stand : goal.returns-in-Ok-None-clause-stand
returns-in-Ok-None-clause-stand g c =
    let found = rw c.in-Ok-None.field-0-is at c.in-Ok-None.ensures in
    ended g.P.Parts.spells g.P.Parts.reads g.P.Parts.then_varint g.P.Parts.refuses g.met.P.Parts.reads_exactly g.met.P.Parts.part_laws c.fields.batches (to_z w16 c.fields.last-bits) c.args.c.now.rest c.fields.c.rest c.field.new.c.rest c.fields.invariant
    (g.met.P.Parts.reads_exactly.found (header all_levels (to_z w16 c.fields.last-bits)) None c.fields.c.rest c.field.new.c.rest found.exact)

pub returns-in-Ok-None-clause-refused : goal.returns-in-Ok-None-clause-refused
returns-in-Ok-None-clause-refused g c =
    let found = rw c.in-Ok-None.field-0-is at c.in-Ok-None.ensures in
    let gives = ended g.P.Parts.spells g.P.Parts.reads g.P.Parts.then_varint g.P.Parts.refuses g.met.P.Parts.reads_exactly g.met.P.Parts.part_laws c.fields.batches (to_z w16 c.fields.last-bits) c.args.c.now.rest c.fields.c.rest c.field.new.c.rest c.fields.invariant
    (g.met.P.Parts.reads_exactly.found (header all_levels (to_z w16 c.fields.last-bits)) None c.fields.c.rest c.field.new.c.rest found.exact) in
    passed_arguments g.P.Parts.spells g.P.Parts.reads g.P.Parts.then_varint g.P.Parts.refuses g.met.P.Parts.reads_exactly g.met.P.Parts.part_laws c.fields.batches gives.arguments c.args.c.now.rest c.field.new.c.rest gives.stand

pub returns-in-Err-clause-refused : goal.returns-in-Err-clause-refused
returns-in-Err-clause-refused g c =
    head_refused g.P.Parts.spells g.P.Parts.reads g.P.Parts.then_varint g.P.Parts.refuses g.met.P.Parts.reads_exactly g.met.P.Parts.part_laws (to_z w16 c.fields.last-bits) c.in-Err.cause c.args.c.now.rest c.fields.c.rest
    c.fields.invariant.passes c.in-Err.ensures.exact

pub returns-in_err-batches-in-Ok-Some-clause-refused : goal.returns-in_err-batches-in-Ok-Some-clause-refused
returns-in_err-batches-in-Ok-Some-clause-refused g c =
    let found = rw c.in-Ok-Some.field-0-is at c.in-Ok-Some.ensures in
    let p = err_from_is_err_and c.from_residual.result c.from_residual.ensures.1 in
    rw (p.1, p.2) (value_refused g.P.Parts.spells g.P.Parts.reads g.P.Parts.then_varint g.P.Parts.refuses g.met.P.Parts.reads_exactly g.met.P.Parts.part_laws (to_z w16 c.fields.last-bits) c.in-Ok-Some.found c.args.c.now.rest c.fields.c.rest c.field.new.c.rest _
    c.in_err-batches-in-Ok-Some.field-0.0 c.fields.invariant.passes
    (g.met.P.Parts.reads_exactly.found (header all_levels (to_z w16 c.fields.last-bits)) (Some c.in-Ok-Some.found) c.fields.c.rest c.field.new.c.rest found.exact) refl c.in_err-batches-in-Ok-Some.ensures.refused)

pub fields-smaller : goal.fields-smaller
fields-smaller g c =
    let found = rw c.in-Ok-Some.field-0-is at c.in-Ok-Some.ensures in
    let read : length c.field.new.c.rest < length c.fields.c.rest = part_shortens g.P.Parts.spells g.P.Parts.reads g.met.P.Parts.reads_exactly.found (header all_levels (to_z w16 c.fields.last-bits)) (Some c.in-Ok-Some.found) c.fields.c.rest c.field.new.c.rest
    (λ text h. g.met.P.Parts.part_laws.some (header all_levels (to_z w16 c.fields.last-bits)) (Some c.in-Ok-Some.found) text tt h) found.exact in
    omega (arith, read, c.gather.ensures.onward)

pub fields-preserved : goal.fields-preserved
fields-preserved g c =
    let found = rw c.in-Ok-Some.field-0-is at c.in-Ok-Some.ensures in
    let gathers = c.in_ok-batches-in-Ok-Some.ensures.ok in
    further g.P.Parts.spells g.P.Parts.reads g.P.Parts.then_varint g.P.Parts.refuses g.met.P.Parts.reads_exactly g.met.P.Parts.part_laws c.fields.batches _ (to_z w16 c.fields.last-bits) _ c.in-Ok-Some.found gathers.text
    c.args.c.now.rest c.fields.c.rest c.field.new.c.rest c.gather.new.c.rest (to_z-of_z w16 c.in-Ok-Some.found.id (record { sfits = search rules })) c.fields.invariant
    (g.met.P.Parts.reads_exactly.found (header all_levels (to_z w16 c.fields.last-bits)) (Some c.in-Ok-Some.found) c.fields.c.rest c.field.new.c.rest found.exact)
    gathers.value gathers.parts gathers.adds
