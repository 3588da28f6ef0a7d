use Rattle.std.proofs.Common.{sym, subst}
use Rattle.span_cli.specs.Lines.{Notes}
use Rattle.span_cli.specs.private.LineWords.{ending_line}
use Rattle.span_cli.specs.declared.ending.Ending.{Ending}
use Rattle.span_cli.proofs.note.note_ending.Goals as goal

pub returns-in-InputFailed-clause-line : goal.returns-in-InputFailed-clause-line
returns-in-InputFailed-clause-line g c =
    subst (λ (e : Ending). Notes (g.N.Sink.outlet c.args.notes.now) (g.N.Sink.outlet c.note_line-in-InputFailed.new.notes) (ending_line e)) (sym c.in-InputFailed.is) c.note_line-in-InputFailed.ensures.line

pub returns-in-OutputFailed-clause-line : goal.returns-in-OutputFailed-clause-line
returns-in-OutputFailed-clause-line g c =
    subst (λ (e : Ending). Notes (g.N.Sink.outlet c.args.notes.now) (g.N.Sink.outlet c.note_line-in-OutputFailed.new.notes) (ending_line e)) (sym c.in-OutputFailed.is) c.note_line-in-OutputFailed.ensures.line

pub returns-in-NoMemory-clause-line : goal.returns-in-NoMemory-clause-line
returns-in-NoMemory-clause-line g c =
    subst (λ (e : Ending). Notes (g.N.Sink.outlet c.args.notes.now) (g.N.Sink.outlet c.note_line-in-NoMemory.new.notes) (ending_line e)) (sym c.in-NoMemory.is) c.note_line-in-NoMemory.ensures.line

pub returns-in-NoIds-clause-line : goal.returns-in-NoIds-clause-line
returns-in-NoIds-clause-line g c =
    subst (λ (e : Ending). Notes (g.N.Sink.outlet c.args.notes.now) (g.N.Sink.outlet c.note_line-in-NoIds.new.notes) (ending_line e)) (sym c.in-NoIds.is) c.note_line-in-NoIds.ensures.line
