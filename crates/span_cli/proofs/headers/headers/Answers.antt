use Rattle.std.proofs.Common.{ℕ, List, subst}
use Rattle.span_io.specs.Outside.{Gains, FailsWithin}
use Rattle.span_cli.specs.private.RunSteps.{TellsLines, HaltsLines}
use Rattle.span_cli.proofs.HeadersEndings.{ends_block, ends_lines, ends_written, ends_failed}
use Rattle.span_cli.proofs.headers.headers.Goals as goal

pub returns-in-Err : goal.returns-in-Err
returns-in-Err g c =
    ends_block g.K.Sink.outlet c.one_verdict.ensures c.args.form (g.S.Source.inlet c.args.input.now) (g.S.Source.inlet c.read_block.new.input) c.args.output.now
    c.in-Err.ending c.in-Err.ensures.ended

pub returns-in-Err-lines_of : goal.returns-in-Err-lines_of
returns-in-Err-lines_of g c =
    ends_lines g.K.Sink.outlet c.one_verdict.ensures c.args.form (g.S.Source.inlet c.args.input.now) (g.S.Source.inlet c.read_block.new.input) c.args.output.now
    c.in-Ok.block c.in-Ok.ensures.whole c.in-Ok.ensures.within c.in-Err-lines_of.ending
    (subst (λ (l : List ℕ). HaltsLines c.in-Err-lines_of.ending c.args.form l) c.as_slice.ensures c.in-Err-lines_of.ensures.ended)

pub returns-in-Ok-write_all : goal.returns-in-Ok-write_all
returns-in-Ok-write_all g c =
    ends_written g.K.Sink.outlet c.one_verdict.ensures c.args.form (g.S.Source.inlet c.args.input.now) (g.S.Source.inlet c.read_block.new.input) c.args.output.now
    c.in-Ok.block c.in-Ok.ensures.whole c.in-Ok.ensures.within c.in-Ok-lines_of.lines
    (subst (λ (l : List ℕ). TellsLines c.args.form l c.in-Ok-lines_of.lines) c.as_slice.ensures c.in-Ok-lines_of.ensures.lines) c.write_all.new.sink
    (subst (λ (l : List ℕ). Gains (g.K.Sink.outlet c.args.output.now) (g.K.Sink.outlet c.write_all.new.sink) l) c.as_slice-2.ensures c.in-Ok-write_all.ensures.ok)
    c.in-Ok-write_all.ensures.holds

pub returns : goal.returns
returns g c =
    ends_failed g.K.Sink.outlet c.one_verdict.ensures c.args.form (g.S.Source.inlet c.args.input.now) (g.S.Source.inlet c.read_block.new.input) c.args.output.now
    c.in-Ok.block c.in-Ok.ensures.whole c.in-Ok.ensures.within c.in-Ok-lines_of.lines
    (subst (λ (l : List ℕ). TellsLines c.args.form l c.in-Ok-lines_of.lines) c.as_slice.ensures c.in-Ok-lines_of.ensures.lines) c.write_all.new.sink
    c.in-Err-write_all.ensures.failed
    (subst (λ (l : List ℕ). FailsWithin (g.K.Sink.outlet c.args.output.now) (g.K.Sink.outlet c.write_all.new.sink) l) c.as_slice-2.ensures c.in-Err-write_all.ensures.within)
