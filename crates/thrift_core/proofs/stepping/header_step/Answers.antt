use Rattle.std.proofs.Common.{◌≡◌, ◌<◌, ℤ, length, ap, refl, sym, ◌∙◌, to_z, of_z, arith, rules}
use Rattle.std.specs.Int.{w16}
use Rattle.std.proofs.lemmas.Int.{to_z-of_z}
use Rattle.thrift_core.specs.declared.stack.Level.TheVariants as levels
use Rattle.thrift_core.specs.Parts.{header}
use Rattle.thrift_core.proofs.StackSteps.{header_refused, stop_passed, field_passed, left_level}
use Rattle.thrift_core.proofs.WalkSteps.{part_shortens}
use Rattle.thrift_core.proofs.stepping.header_step.Goals as goal

pub returns-in_err-field-clause-stepped : goal.returns-in_err-field-clause-stepped
returns-in_err-field-clause-stepped g c = λ at.
    let id : to_z w16 (of_z w16 c.args.last) ≡ c.args.last = to_z-of_z w16 c.args.last (record { sfits = search rules }) in
    header_refused g.P.Parts.spells g.P.Parts.reads c.args.stack.now c.left.result (to_z w16 (of_z w16 c.args.last)) c.args.c.now.rest c.field.new.c.rest c.in_err-field.field-0.0 c.from_residual.result
    (omega (arith, c.left.ensures)) (at ∙ ap (λ (n : ℤ). levels.Fields n) (sym id)) c.in_err-field.ensures.exact (ap (λ w. w.rest) c.in_err-field.ensures.err) c.from_residual.ensures.1

pub returns-in-None-clause-stepped : goal.returns-in-None-clause-stepped
returns-in-None-clause-stepped g c = λ at.
    let id : to_z w16 (of_z w16 c.args.last) ≡ c.args.last = to_z-of_z w16 c.args.last (record { sfits = search rules }) in
    let part = header c.left.result (to_z w16 (of_z w16 c.args.last)) in
    let read : length c.field.new.c.rest < length c.args.c.now.rest = part_shortens g.P.Parts.spells g.P.Parts.reads g.met.P.Parts.reads_exactly.found part c.in_ok-field.field-0 c.args.c.now.rest c.field.new.c.rest
    (λ text h. g.met.P.Parts.part_laws.some part c.in_ok-field.field-0 text tt h) c.in_ok-field.ensures.exact in
    left_level g.P.Parts.spells g.P.Parts.reads c.args.stack.now c.leave.new.self c.args.c.now.rest c.field.new.c.rest c.leave.result
    (stop_passed g.P.Parts.spells g.P.Parts.reads g.met.P.Parts.reads_exactly.found c.args.stack.now c.left.result (to_z w16 (of_z w16 c.args.last)) c.in_ok-field.field-0 c.args.c.now.rest c.field.new.c.rest
    (omega (arith, c.left.ensures)) (at ∙ ap (λ (n : ℤ). levels.Fields n) (sym id)) c.in_ok-field.ensures.exact c.in-None.is)
    c.leave.ensures.open c.leave.ensures.fewer (omega (arith, read))

pub returns-in-Some-clause-stepped : goal.returns-in-Some-clause-stepped
returns-in-Some-clause-stepped g c = λ at.
    let id : to_z w16 (of_z w16 c.args.last) ≡ c.args.last = to_z-of_z w16 c.args.last (record { sfits = search rules }) in
    let own : to_z w16 (of_z w16 c.in-Some.field.id) ≡ c.in-Some.field.id = to_z-of_z w16 c.in-Some.field.id (record { sfits = search rules }) in
    let part = header c.left.result (to_z w16 (of_z w16 c.args.last)) in
    let read : length c.field.new.c.rest < length c.args.c.now.rest = part_shortens g.P.Parts.spells g.P.Parts.reads g.met.P.Parts.reads_exactly.found part c.in_ok-field.field-0 c.args.c.now.rest c.field.new.c.rest
    (λ text h. g.met.P.Parts.part_laws.some part c.in_ok-field.field-0 text tt h) c.in_ok-field.ensures.exact in (
      field_passed g.P.Parts.spells g.P.Parts.reads g.met.P.Parts.reads_exactly.found c.args.stack.now
          (record { top = levels.Field (to_z w16 (of_z w16 c.in-Some.field.id)) c.in-Some.field.kind c.in-Some.field.held; below = c.args.stack.now.below })
          c.left.result (to_z w16 (of_z w16 c.args.last)) c.in-Some.field c.in_ok-field.field-0 c.args.c.now.rest c.field.new.c.rest
          (omega (arith, c.left.ensures)) (at ∙ ap (λ (n : ℤ). levels.Fields n) (sym id)) c.in_ok-field.ensures.exact c.in-Some.is refl (ap (λ (n : ℤ). levels.Field n c.in-Some.field.kind c.in-Some.field.held) own),
      omega (arith, read),
    )
