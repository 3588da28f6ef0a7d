use Rattle.std.proofs.Common.{sym, subst}
use Rattle.span_cli.specs.Jobs.{Job}
use Rattle.span_cli.specs.private.RunSteps.{EndsRun}
use Rattle.span_cli.proofs.GaugeEndings.{ends_gauge}
use Rattle.span_cli.proofs.top.carry_out.Goals as goal

pub returns-in-Gauge-clause-run : goal.returns-in-Gauge-clause-run
returns-in-Gauge-clause-run g c =
    let now = g.S.Source.inlet c.args.input.now in
    subst (λ (job : Job). EndsRun g.K.Sink.outlet job c.gauge.result now now c.args.output.now c.gauge.new.output) (sym c.in-Gauge.is)
    (ends_gauge g.K.Sink.outlet c.in-Gauge.spans now c.args.output.now c.gauge.new.output c.gauge.result c.gauge.ensures)
