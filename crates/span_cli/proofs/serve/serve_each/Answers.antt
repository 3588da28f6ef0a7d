use Rattle.std.proofs.Common.{sym, ◌∙◌}
use Rattle.std.proofs.lemmas.Bool.{false≢true}
use Rattle.span_cli.proofs.ServeLemmas.{each_wants, so_far_more}
use Rattle.span_cli.proofs.serve.serve_each.Goals as goal

pub returns-then-wants_memory : goal.returns-then-wants_memory
returns-then-wants_memory g c =
    each_wants c.args.to c.visits.done c.args.holds.now c.visits.holds c.in-Ok.ended _ _ _ _ _ c.visits.invariant.so_far c.in-Ok.ensures.ok c.args.count
    (c.wants_memory.ensures.0 c.if-wants_memory.true) c.visits-test.true

pub visits-preserved : goal.visits-preserved
visits-preserved g c = record {
  so_far = so_far_more c.args.to c.visits.done c.args.holds.now c.visits.holds c.in-Ok.ended _ _ _ _ _ c.visits.invariant.so_far c.in-Ok.ensures.ok c.note_visit.result _
      (λ wants. false≢true (sym c.if-wants_memory.false ∙ c.wants_memory.ensures.1 wants)) c.note_visit.ensures;
}
