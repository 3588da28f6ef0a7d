use Rattle.std.proofs.Common.{◌≡◌, Err, sym, ap, ◌∙◌}
use Rattle.span_notes.proofs.NoteLaws.{notes_as}
use Rattle.span_relay.specs.RelayRuns.{flow_line}
use Rattle.span_relay.specs.declared.forwarding.FlowFault.{FlowFault}
use Rattle.span_relay.specs.declared.forwarding.FlowFault.TheVariants as faults
use Rattle.span_relay.proofs.run.note_flow.Goals as goal

pub returns-in-Err-Keeper : goal.returns-in-Err-Keeper
returns-in-Err-Keeper g c =
    let is : c.args.flow ≡ Err faults.Keeper = c.in-Err-Keeper.is ∙ ap (λ (f : FlowFault). Err f) (rw c.in-Err-Keeper.is at c.in-Err-Keeper.field-0-is) in
    notes_as c.args.holds c.note_numbered.result _ _ _ _ (ap (flow_line c.args.number) (sym is)) c.note_numbered.ensures

pub returns-in-Err-Peer : goal.returns-in-Err-Peer
returns-in-Err-Peer g c =
    let is : c.args.flow ≡ Err faults.Peer = c.in-Err-Peer.is ∙ ap (λ (f : FlowFault). Err f) (rw c.in-Err-Peer.is at c.in-Err-Peer.field-0-is) in
    notes_as c.args.holds c.note_numbered-in-Err-Peer.result _ _ _ _ (ap (flow_line c.args.number) (sym is)) c.note_numbered-in-Err-Peer.ensures
