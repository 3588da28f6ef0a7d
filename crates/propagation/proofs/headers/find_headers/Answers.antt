use Rattle.std.proofs.Common.{[], ◌∷◌, ◌++◌}
use Rattle.propagation.specs.Blocks.{Header}
use Rattle.propagation.proofs.HeadLemmas.{refused_behind}
use Rattle.propagation.proofs.OneBlock.{then_start, then_on, then_all}
use Rattle.propagation.proofs.headers.find_headers.Goals as goal

pub headers-init : goal.headers-init
headers-init c = ([], c.new-found.ensures, then_start c.args.block.now)

pub returns-in_err-first-clause-line : goal.returns-in_err-first-clause-line
returns-in_err-first-clause-line c =
    refused_behind c.from_residual.result c.in_err-first.field-0.0 c.args.block.now c.headers.rest.now c.headers.invariant.0 c.from_residual.ensures.1 c.headers.invariant.2 c.in_err-first.ensures.line

pub returns-in_default-clause-found : goal.returns-in_default-clause-found
returns-in_default-clause-found c =
    let so_far = c.headers.invariant in
    let end = rw c.in_default.is at c.in_ok-first.ensures.value in
    (so_far.0, then_all c.args.block.now so_far.0 c.headers.rest.now so_far.2 end, so_far.1)

pub headers-preserved : goal.headers-preserved
headers-preserved c =
    let so_far = c.headers.invariant in
    let h : Header = record { name = c.in-Some.first.name.now; value = c.in-Some.first.value.now } in
    let first = rw c.in-Some.is at c.in_ok-first.ensures.value in
    (so_far.0 ++ h ∷ [], c.with-found.ensures so_far.0 so_far.1, then_on c.args.block.now so_far.0 c.headers.rest.now (h ∷ []) c.in-Some.first.rest.now so_far.2 first)
