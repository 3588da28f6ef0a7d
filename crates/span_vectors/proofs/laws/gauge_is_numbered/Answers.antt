use Rattle.span_vectors.proofs.Numbers.{gauge_flat, kinds_numbered, codes_numbered}
use Rattle.span_vectors.proofs.laws.gauge_is_numbered.Goals as goal

pub returns : goal.returns
returns c = record { spans = gauge_flat; kinds = kinds_numbered; codes = codes_numbered }
