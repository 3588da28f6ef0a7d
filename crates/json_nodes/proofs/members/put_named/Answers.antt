use Rattle.std.proofs.Common.{◌∙◌, sym, ap, set, Some, add-one}
use Rattle.std.proofs.lemmas.List.{take_all}
use Rattle.json_nodes.specs.private.Asked.{put_where}
use Rattle.json_nodes.proofs.AskedLemmas.{put_here, not_here}
use Rattle.json_nodes.proofs.members.put_named.Goals as goal
use Rattle.json_nodes.proofs.members.put_named.Goals.{then-eq, else-eq}

pub names-preserved : goal.names-preserved
names-preserved c =
    elim c.if-eq.branch [
      | then-eq w ↦ rw add-one (w.found-is ∙ ap (λ l. set l c.names.i (Some c.args.value)) c.names.invariant
          ∙ sym (put_here c.args.name.now c.args.value c.args.names.now c.names.i _ c.args.found.now c.names-test.true (sym c.eq.ensures ∙ w.if-eq.true)))
      | else-eq w ↦ rw add-one (w.found-is ∙ c.names.invariant
          ∙ sym (not_here c.args.name.now c.args.value c.args.names.now c.names.i _ c.args.found.now c.names-test.true (sym c.eq.ensures ∙ w.if-eq.false)))
    ]

pub returns : goal.returns
returns c =
    c.names.invariant
    ∙ ap (λ names. put_where c.args.name.now c.args.value names c.args.found.now) (take_all c.names.i c.args.names.now c.names-test.false)
