use Rattle.jaeger_model.proofs.ReadTimes.{batch_timed}
use Rattle.jaeger_model.proofs.laws.reads_times.Goals as goal

pub returns : goal.returns
returns g c = λ batch text is. batch_timed batch is.fields is.means
