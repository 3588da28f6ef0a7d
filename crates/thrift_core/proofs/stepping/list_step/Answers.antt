use Rattle.std.proofs.Common.{◌≡◌, ◌<◌, ◌∷◌, ◌++◌, [], length, ap, ◌∙◌, subst, arith}
use Rattle.std.proofs.lemmas.List.{length-append}
use Rattle.thrift_core.specs.declared.stack.Level.TheVariants as levels
use Rattle.thrift_core.specs.Parts.{list_head}
use Rattle.thrift_core.specs.Places.{stack_of}
use Rattle.thrift_core.specs.private.StackWalks.{levels_in}
use Rattle.thrift_core.specs.Walks.{opened_elements, in_elements, Passes}
use Rattle.thrift_core.proofs.StackSteps.{list_level, levels_are, level_under, head_refused, entered_by, weight_most}
use Rattle.thrift_core.proofs.WalkSteps.{part_read, part_shortens}
use Rattle.thrift_core.proofs.stepping.list_step.Goals as goal

pub returns-in_err-head-clause-stepped : goal.returns-in_err-head-clause-stepped
returns-in_err-head-clause-stepped g c = λ start first.
    head_refused g.P.Parts.spells g.P.Parts.reads start (list_head c.in_ok-left.left) (λ head. opened_elements c.in_ok-left.left head.element head.size) c.args.behind c.args.stack.now c.args.c.now.rest c.list.new.c.rest
    c.in_err-head.field-0.0 c.from_residual-in_err-head.result
    (first ∙ list_level (levels_in c.args.stack.now) c.in_ok-left.left (levels_are g.P.Parts.spells c.left.result c.in_ok-left.left c.args.stack.now c.left.ensures c.in_ok-left.ensures.value))
    c.in_err-head.ensures.exact (ap (λ w. w.rest) c.in_err-head.ensures.err) c.from_residual-in_err-head.ensures.1

pub returns-in-Some-clause-stepped : goal.returns-in-Some-clause-stepped
returns-in-Some-clause-stepped g c = λ start first.
    let under = stack_of c.args.behind c.args.stack.now.below.items in
    let opened : opened_elements c.in_ok-left.left c.in_ok-head.head.element c.in_ok-head.head.size ≡ in_elements c.in_ok-left.left c.in-Some.kind c.in_ok-head.head.size ∷ [] = ap (λ k. opened_elements c.in_ok-left.left k c.in_ok-head.head.size) c.in-Some.is in
    entered_by g.P.Parts.spells (start ∷ under) c.args.c.now.rest c.list.new.c.rest c.in_ok-left.left (levels.Elements c.in-Some.kind c.in_ok-head.head.size) c.args.behind c.args.stack.now.below.items c.enter.new.self
    (level_under g.P.Parts.spells c.left.result c.in_ok-left.left c.args.stack.now c.left.ensures c.in_ok-left.ensures.value) c.enter.ensures.top c.enter.ensures.below
    (subst (λ s. Passes g.P.Parts.spells (start ∷ under) c.args.c.now.rest (s ++ under) c.list.new.c.rest) opened
    (part_read g.P.Parts.spells g.P.Parts.reads g.met.P.Parts.reads_exactly.found start (stack_of c.args.behind c.args.stack.now.below.items) c.args.c.now.rest c.list.new.c.rest (list_head c.in_ok-left.left) (λ head. opened_elements c.in_ok-left.left head.element head.size)
    c.in_ok-head.head
    (first ∙ list_level (levels_in c.args.stack.now) c.in_ok-left.left (levels_are g.P.Parts.spells c.left.result c.in_ok-left.left c.args.stack.now c.left.ensures c.in_ok-left.ensures.value))
    c.in_ok-head.ensures.exact))

pub returns-in-Some-clause-nearer : goal.returns-in-Some-clause-nearer
returns-in-Some-clause-nearer g c =
    let shorter : length c.list.new.c.rest < length c.args.c.now.rest = part_shortens g.P.Parts.spells g.P.Parts.reads g.met.P.Parts.reads_exactly.found (list_head c.in_ok-left.left) c.in_ok-head.head c.args.c.now.rest c.list.new.c.rest
    (λ text h. g.met.P.Parts.part_laws.some (list_head c.in_ok-left.left) c.in_ok-head.head text tt h) c.in_ok-head.ensures.exact in
    omega (arith, shorter, weight_most c.enter.new.self.top, ap length c.enter.ensures.below, length-append c.args.stack.now.below.items (c.args.behind ∷ []))

pub returns-in-None-clause-stepped : goal.returns-in-None-clause-stepped
returns-in-None-clause-stepped g c = λ start first.
    let under = stack_of c.args.behind c.args.stack.now.below.items in
    let opened : opened_elements c.in_ok-left.left c.in_ok-head.head.element c.in_ok-head.head.size ≡ [] = ap (λ k. opened_elements c.in_ok-left.left k c.in_ok-head.head.size) c.in-None.is in
    subst (λ s. Passes g.P.Parts.spells (start ∷ under) c.args.c.now.rest (s ++ under) c.list.new.c.rest) opened
    (part_read g.P.Parts.spells g.P.Parts.reads g.met.P.Parts.reads_exactly.found start (stack_of c.args.behind c.args.stack.now.below.items) c.args.c.now.rest c.list.new.c.rest (list_head c.in_ok-left.left) (λ head. opened_elements c.in_ok-left.left head.element head.size)
    c.in_ok-head.head
    (first ∙ list_level (levels_in c.args.stack.now) c.in_ok-left.left (levels_are g.P.Parts.spells c.left.result c.in_ok-left.left c.args.stack.now c.left.ensures c.in_ok-left.ensures.value))
    c.in_ok-head.ensures.exact)

pub returns-in-None-clause-nearer : goal.returns-in-None-clause-nearer
returns-in-None-clause-nearer g c =
    let shorter : length c.list.new.c.rest < length c.args.c.now.rest = part_shortens g.P.Parts.spells g.P.Parts.reads g.met.P.Parts.reads_exactly.found (list_head c.in_ok-left.left) c.in_ok-head.head c.args.c.now.rest c.list.new.c.rest
    (λ text h. g.met.P.Parts.part_laws.some (list_head c.in_ok-left.left) c.in_ok-head.head text tt h) c.in_ok-head.ensures.exact in
    omega (arith, shorter, weight_most c.args.behind)
