use Rattle.std.proofs.Common.{◌≡◌, ◌≤◌, ◌+◌, ℕ, List, length, All}
use Rattle.span_io.specs.Outside.{OutputHolds}
use Rattle.span_io.specs.declared.limits.Limits.{Limits}
use Rattle.trace_model.specs.Soundness.{IsSoundGroup}
use Rattle.span_convert.specs.Pens.{written_by}
use Rattle.span_convert.specs.Walks.{DocumentTaken}
use Rattle.span_convert.specs.declared.written.Written.{Written}
use Rattle.span_convert.proofs.DocumentWalks.{ReadUnit, WalkedGroups}
use Rattle.span_convert.proofs.document.write_groups.Given as goal

abbrev pub invariant-units : goal.invariant-units
invariant-units g l = record {
  walked : (what : Written) (limits : Limits) (bytes said : List ℕ) → DocumentTaken what limits bytes said bytes l.initial.progress
      → WalkedGroups what said l.fn.units l.unit-iterator.rest.items (g.K.Sink.outlet l.initial.out) (g.K.Sink.outlet l.out) l.progress;
  room : l.progress.tally.units + length l.unit-iterator.rest.items ≤ l.initial.progress.tally.units + length l.fn.units;
  same : written_by l.progress.pen ≡ written_by l.initial.progress.pen;
  sound : All (λ (u : ReadUnit). IsSoundGroup u.0) l.unit-iterator.rest.items;
  holds : OutputHolds (g.K.Sink.outlet l.initial.out) (g.K.Sink.outlet l.out);
}
